-- What a mode tells, and which rules are kept because they are not looked for, or because their conditions hold.
use Rattle.std.proofs.Common.{◌≡◌, ℕ, suc, ◌<◌, ◌≤◌, Bool, true, false, length, refl, arith}
use Rattle.std.proofs.lemmas.Bool.{lt-leb}
use Rattle.lua_grammar.specs.declared.kinds.SyntaxKind.{SyntaxKind}
use Rattle.lua_grammar.specs.declared.kinds.SyntaxKind.TheVariants as fault
use Rattle.lua_grammar.specs.Positions.{Position}
use Rattle.lua_grammar.specs.Contexts.{Rules, Kept, IsShort}
use Rattle.lua_grammar.specs.Stops.{rank, up_to}
use Rattle.lua_grammar.proofs.Continuations.{Mode, before, with_word}

-- ---- which words are seen

pub within : {f : SyntaxKind} {z : Position} {rules : Rules} {n : ℕ} → Mode f z rules n → n ≤ length z.words
within before = omega arith
within (with_word r e) = omega (arith, e)

-- where a word is not expected, the words before it are all that is seen
pub all_seen : {z : Position} {rules : Rules} {n : ℕ} → Mode fault.Unexpected z rules n → n ≡ length z.words
all_seen before = refl
all_seen (with_word r e) = absurd (omega (arith, r))

-- what stops at its first word, unexpected, has no word that is seen
pub nothing_seen : {z : Position} {rules : Rules} {n : ℕ} → Mode fault.Unexpected z rules n → (i : Position)
    → length i.words ≤ length z.words → n < length i.words → ⊥
nothing_seen m i le less = let e = all_seen m in absurd (omega (arith, le, less, e))

-- the word at fault is the last that is seen
pub last_word : {f : SyntaxKind} {z : Position} {rules : Rules} {n : ℕ} → Mode f z rules n → n < length z.words
    → suc n ≡ length z.words
last_word before less = absurd (omega (arith, less))
last_word (with_word r e) less = e

-- ---- which rules are kept

-- what is looked for later is not asked for
later : (f : SyntaxKind) {m : ℕ} → m < rank f → (P : Type 0) → Kept (up_to m f) P
later f {m} less P = rw (lt-leb (rank f) m less) tt

pub free : (f : SyntaxKind) {m : ℕ} → rank f ≡ suc m → (P : Type 0) → Kept (up_to m f) P
free f r P = later f (omega (arith, r)) P

-- with the word at fault, its kind of fault is not looked for, nor is one that is looked for behind it
pub unasked : {f : SyntaxKind} {z : Position} {rules : Rules} {n : ℕ} (P : Type 0) → Mode f z rules n
    → n < length z.words → (g : SyntaxKind)
    → rank f ≤ rank g → Kept (rules g) P
unasked P before less g le = absurd (omega (arith, less))
unasked P (with_word r e) less g le = later g (omega (arith, r, le)) P

-- a rule whose condition holds is kept, whether it is looked for or not
pub given : (b : Bool) {P : Type 0} → P → Kept b P
given true h = h
given false h = tt

pub short : (rules : Rules) (count : ℕ) → count < 1000 → IsShort rules count
short rules count h = given (rules fault.TooLong) h

-- where a level is left, there is room by any rules
pub room : {P : Type 0} (rules : Rules) → P → Kept (rules fault.TooDeep) P
room rules h = given (rules fault.TooDeep) h
