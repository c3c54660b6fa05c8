-- A text that a reader halts in stops there.
use Rattle.std.proofs.Common.{◌≡◌, inr, ℕ, List, [], length, None, IsSome, refl, ap, ◌∙◌, arith}
use Rattle.lua_grammar.specs.declared.kinds.SyntaxKind.{SyntaxKind}
use Rattle.lua_grammar.specs.declared.kinds.SyntaxKind.TheVariants as fault
use Rattle.lua_grammar.specs.declared.words.Word.{Word}
use Rattle.lua_grammar.specs.declared.statements.Stat.{Stat}
use Rattle.lua_grammar.specs.Words.{ends_block}
use Rattle.lua_grammar.specs.Positions as at
use Rattle.lua_grammar.specs.Positions.{Position}
use Rattle.lua_grammar.specs.Contexts.{every_rule, main_text}
use Rattle.lua_grammar.specs.Things as thing
use Rattle.lua_grammar.specs.Grammar.{Spelled}
use Rattle.lua_grammar.specs.Trees.{start}
use Rattle.lua_grammar.specs.Stops.{StopsAt}
use Rattle.lua_grammar.specs.Classes as class
use Rattle.lua_grammar.specs.Stuck.{Halts, in_block, behind_block}
use Rattle.lua_grammar.proofs.Continuations.{instead, lead, before, with_word}
use Rattle.lua_grammar.proofs.Instead.{kind_shown, words_from}
use Rattle.lua_grammar.proofs.Progress.{goes}
use Rattle.lua_grammar.proofs.Carry.{carry}
use Rattle.lua_grammar.proofs.Again.{again}
use Rattle.lua_grammar.proofs.StuckGoes.{stuck_goes}
use Rattle.lua_grammar.proofs.Never.{never}
use Rattle.lua_grammar.proofs.GoesOn.{goes_on}
use Rattle.lua_grammar.proofs.AtEnd.{unexpected_end}
use Rattle.lua_grammar.proofs.Exact.{IsHopeless, IsHopeful, line_or, stops}

-- a word that ends the block of the main text is behind no text
no_more : (words : List Word) (block : List Stat) (z : Position)
    → Spelled every_rule main_text (thing.block block) (start words) z
    → IsSome (at.kind z) → IsHopeless fault.Unexpected words z
no_more words block z x some n more shown other j y whole =
    let end : j ≡ instead n more z = again class.block block x shown (other, y) in
    let none : at.kind j ≡ None = ap (λ l. at.kind_of (at.first_of l)) whole in
    let same : at.kind j ≡ at.kind z = ap at.kind end ∙ kind_shown z shown in
    cc (none, same, some)

goes_before : (words : List Word) (block : List Stat) (z : Position)
    → Spelled every_rule main_text (thing.block block) (start words) z
    → IsHopeful fault.Unexpected words z
goes_before words block z x rules n before less = λ t follows.
    let put : (instead (length z.words) t z).words ≡ t = words_from z refl in (
      [],
      instead (length z.words) t z,
      (
        block,
        carry x every_rule (length z.words) t (omega arith)
            (inr (ap (λ l. ends_block (lead l)) put ∙ follows block)),
      ),
      put,
    )
goes_before words block z x rules n (with_word e behind) less = absurd (cc e)

pub halts_at : {f : SyntaxKind} (z : Position) (words : List Word) (last_line : ℕ) → Halts f (start words) z
    → StopsAt words last_line (line_or last_line z.words) f
halts_at z words last_line (behind_block {block = block} x some) =
    stops fault.Unexpected words z last_line (goes x) (no_more words block z x some) (goes_before words block z x)
    (λ e. refl)
halts_at {f} z words last_line (in_block s) =
    stops f words z last_line (stuck_goes s) (λ n more shown block j x whole. never s shown (block, x))
    (λ rules n mode less. goes_on s mode less) (λ e. unexpected_end s (ap (λ l. at.kind_of (at.first_of l)) e))
