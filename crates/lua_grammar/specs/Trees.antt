-- The tree of a text.
use Rattle.std.specs.Prelude.{◌≡◌, ℕ, ◌-◌, ◌==◌, if◌then◌else◌, List, [], ◌∷◌, ◌++◌, length, take, drop}
use Rattle.std.specs.List.{position_or_len}
use Rattle.std.specs.Str.{bytes_eq}
use Rattle.lua_lex.specs.declared.kinds.TokenKind.{TokenKind}
use Rattle.lua_lex.specs.declared.kinds.TokenKind.TheVariants as kind
use Rattle.lua_lex.specs.declared.kinds.Token.{Token}
use Rattle.lua_lex.specs.Tokens.{HasTokens}
use Rattle.lua_lex.specs.Values.{IsString}
use Rattle.lua_grammar.specs.declared.words.Word.{Word}
use Rattle.lua_grammar.specs.declared.statements.Stat.{Stat}
use Rattle.lua_grammar.specs.declared.statements.Body.{Body}
use Rattle.lua_grammar.specs.declared.statements.Chunk.{Chunk}
use Rattle.lua_grammar.specs.Positions.{Position}
use Rattle.lua_grammar.specs.Contexts.{Rules, every_rule, main_text}
use Rattle.lua_grammar.specs.Things as thing
use Rattle.lua_grammar.specs.Grammar.{Spelled}

abbrev pub start : List Word → Position
start words = record { words = words; line = 0; operators = 0; suffixes = 0; bodies = [] }

-- the words, all of them, are a text by these rules, with this main text and these bodies of functions
pub record IsTree (rules : Rules) (words : List Word) (block : List Stat) (bodies : List Body) : Type 0 where
  pub end : Position
  pub spelled : Spelled rules main_text (thing.block block) (start words) end
  pub whole : end.words ≡ []
  pub bodies_are : bodies ≡ end.bodies

-- the bytes have this number among the texts; they are the last of them where they were not yet there
abbrev pub number_of : List ℕ → List (List ℕ) → ℕ
number_of bytes texts = position_or_len (bytes_eq bytes) texts

abbrev pub noted : List ℕ → List (List ℕ) → List (List ℕ)
noted bytes texts = if number_of bytes texts == length texts then texts ++ bytes ∷ [] else texts

-- what the token is as it stands in the text
abbrev pub spelling : List ℕ → Token → List ℕ
spelling text t = take (t.stop - t.start) (drop t.start text)

-- the texts before a token and behind it, and its number among them, if it is a name or a string
abbrev pub IsNumbered : TokenKind → List ℕ → List (List ℕ) → ℕ → List (List ℕ) → Type 0
IsNumbered kind.Name spelled texts number after = (number ≡ number_of spelled texts) × (after ≡ noted spelled texts)
IsNumbered kind.Text spelled texts number after =
    (bytes : List ℕ) × IsString spelled bytes × (number ≡ number_of bytes texts) × (after ≡ noted bytes texts)
IsNumbered _ spelled texts number after = (number ≡ 0) × (after ≡ texts)

pub record IsWord (text : List ℕ) (t : Token) (texts : List (List ℕ)) (w : Word) (after : List (List ℕ)) : Type 0 where
  pub kind_is : w.kind ≡ t.kind
  pub line_is : w.line ≡ t.line
  pub start_is : w.start ≡ t.start
  pub text_is : IsNumbered t.kind (spelling text t) texts w.text after

-- the tokens of the text are these words, and these are the texts that they name
pub data AreWords (text : List ℕ) : List Token → List Word → List (List ℕ) → Type 0 where
  no_words : AreWords text [] [] []
  more_words : {tokens : List Token} {words : List Word} {texts after : List (List ℕ)} {t : Token} {w : Word}
      → AreWords text tokens words texts → IsWord text t texts w after
      → AreWords text (tokens ++ t ∷ []) (words ++ w ∷ []) after

-- the text has this tree
pub record HasTree (text : List ℕ) (chunk : Chunk) : Type 0 where
  pub tokens : List Token
  pub words : List Word
  pub has_tokens : HasTokens text tokens
  pub are_words : AreWords text tokens words chunk.texts
  pub is_tree : IsTree every_rule words chunk.block chunk.bodies
