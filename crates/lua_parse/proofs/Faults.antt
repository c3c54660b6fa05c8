-- The fault of a text: the line of the word that its reader stands at; one fault at most, and none if the text has a
-- tree.
use Rattle.std.proofs.Common.{◌≡◌, ℕ, ◌+◌, List, [], ◌∷◌, refl, sym, ◌∙◌, subst}
use Rattle.std.specs.Prelude.{unwrap_or}
use Rattle.lua_lex.specs.declared.kinds.Token.{Token}
use Rattle.lua_lex.specs.Lines.{breaks}
use Rattle.lua_lex.specs.Tokens.{HasTokens}
use Rattle.lua_grammar.specs.declared.words.Word.{Word}
use Rattle.lua_grammar.specs.declared.kinds.SyntaxKind.{SyntaxKind}
use Rattle.lua_grammar.specs.declared.statements.Chunk.{Chunk}
use Rattle.lua_grammar.specs.Positions.{Position}
use Rattle.lua_grammar.specs.Contexts.{every_rule}
use Rattle.lua_grammar.specs.Trees.{AreWords, HasTree, IsTree, start}
use Rattle.lua_grammar.specs.Stops.{StopsAt}
use Rattle.lua_grammar.specs.Stuck.{Halts}
use Rattle.lua_grammar.proofs.Exact.{line_or}
use Rattle.lua_grammar.proofs.Halting.{halts_at}
use Rattle.lua_grammar.proofs.Texts.{same_words}
use Rattle.lua_grammar.proofs.OneStop.{one_stop, no_stop}
use Rattle.lua_parse.specs.Steps.{line_of, next_line}
use Rattle.lua_parse.specs.Stops.{HasFault}

line_is : (last_line : ℕ) (words : List Word) → unwrap_or (line_of words) last_line ≡ line_or last_line words
line_is last_line [] = refl
line_is last_line (word ∷ words) = refl

pub fault_at : (text : List ℕ) (tokens : List Token) (words : List Word) (texts : List (List ℕ)) (kind : SyntaxKind)
    (z : Position) (line : ℕ)
    → HasTokens text tokens → AreWords text tokens words texts → Halts kind (start words) z
    → line ≡ unwrap_or (next_line z) (1 + breaks text) → HasFault text line kind
fault_at text tokens words texts kind z line has are halts is =
    let on : line ≡ line_or (1 + breaks text) z.words = is ∙ line_is (1 + breaks text) z.words in
    record {
      tokens = tokens;
      words = words;
      texts = texts;
      has_tokens = has;
      are_words = are;
      stops = subst (λ (n : ℕ). StopsAt words (1 + breaks text) n kind) (sym on)
          (halts_at z words (1 + breaks text) halts);
    }

pub one_fault_of_text : (text : List ℕ) (line line' : ℕ) (kind kind' : SyntaxKind) → HasFault text line kind
    → HasFault text line' kind'
    → (line ≡ line') × (kind ≡ kind')
one_fault_of_text text line line' kind kind' has has' =
    let words = same_words has.has_tokens has.are_words has'.has_tokens has'.are_words in
    one_stop (subst (λ (ws : List Word). StopsAt ws (1 + breaks text) line kind) words has.stops) has'.stops

pub no_fault_of_tree : (text : List ℕ) (chunk : Chunk) (line : ℕ) (kind : SyntaxKind) → HasTree text chunk
    → HasFault text line kind → ⊥
no_fault_of_tree text chunk line kind has has' =
    let words = same_words has.has_tokens has.are_words has'.has_tokens has'.are_words in
    no_stop chunk.block chunk.bodies (subst (λ (ws : List Word). IsTree every_rule ws chunk.block chunk.bodies) words
    has.is_tree) has'.stops
