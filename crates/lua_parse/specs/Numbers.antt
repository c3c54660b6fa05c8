-- Tokens in their text, and the texts that they name.
use Rattle.std.specs.Prelude.{◌≡◌, ℕ, ◌≤◌, List, length, map}
use Rattle.lua_lex.specs.declared.kinds.TokenKind.TheVariants as kind
use Rattle.lua_lex.specs.declared.kinds.Token.{Token}
use Rattle.lua_lex.specs.Values.{IsString}
use Rattle.lua_grammar.specs.Trees.{spelling}
use Rattle.lua_parse.specs.declared.interner.Texts.{Texts}

-- the texts that are known, in the order of their numbers
abbrev pub texts_of : Texts → List (List ℕ)
texts_of t = map (λ k. k.items) t.known.keys

-- the bytes are a string of a text, as it is written
abbrev pub IsSomeString : List ℕ → Type 0
IsSomeString spelled = (bytes : List ℕ) × IsString spelled bytes

-- the token lies in the text, and is a string there, if its kind says so
pub record IsIn (text : List ℕ) (t : Token) : Type 0 where
  pub ordered : t.start ≤ t.stop
  pub within : t.stop ≤ length text
  pub string : t.kind ≡ kind.Text → IsSomeString (spelling text t)
