-- Where the words of a text that is none stop, and why.
use Rattle.std.specs.Prelude.{◌≡◌, ℕ, zero, suc, nat_le, List, [], ◌∷◌, ◌++◌}
use Rattle.lua_grammar.specs.declared.kinds.SyntaxKind.{SyntaxKind}
use Rattle.lua_grammar.specs.declared.kinds.SyntaxKind.TheVariants as fault
use Rattle.lua_grammar.specs.declared.words.Word.{Word}
use Rattle.lua_grammar.specs.declared.statements.Stat.{Stat}
use Rattle.lua_grammar.specs.declared.statements.Body.{Body}
use Rattle.lua_grammar.specs.Contexts.{Rules, every_rule}
use Rattle.lua_grammar.specs.Trees.{IsTree}

-- some words behind these make a text of them, by these rules
abbrev pub Begins : Rules → List Word → Type 0
Begins rules words = (more : List Word) × (block : List Stat) × (bodies : List Body)
    × IsTree rules (words ++ more) block bodies

-- the order in which the kinds of fault are looked for
abbrev pub rank : SyntaxKind → ℕ
rank fault.Unexpected = 0
rank fault.Ambiguous = 1
rank fault.TooDeep = 2
rank fault.TooLong = 3
rank fault.NoLoop = 4
rank fault.NoVararg = 5

abbrev pub up_to : ℕ → Rules
up_to n kind = nat_le (rank kind) n

-- the words begin no text any longer as soon as this kind of fault is looked for, too
abbrev pub FaultIs : ℕ → List Word → Type 0
FaultIs zero words = Begins (up_to 0) words → ⊥
FaultIs (suc n) words = Begins (up_to n) words × (Begins (up_to (suc n)) words → ⊥)

-- the words stop on this line with this fault; the end of the text is on the line `last_line`
pub data StopsAt (words : List Word) (last_line : ℕ) : ℕ → SyntaxKind → Type 0 where
  -- up to a word they begin a text, and with it they do not
  at_word : (front back : List Word) (word : Word) (kind : SyntaxKind) → words ≡ front ++ word ∷ back
      → Begins every_rule front → (Begins every_rule (front ++ word ∷ []) → ⊥)
      → FaultIs (rank kind) (front ++ word ∷ [])
      → StopsAt words last_line word.line kind
  -- they begin a text, and are none
  at_end : Begins every_rule words → ((block : List Stat) (bodies : List Body) → IsTree every_rule words block bodies
      → ⊥)
      → StopsAt words last_line last_line fault.Unexpected
