-- Statuses, and the words of a command line.
use Rattle.std.proofs.Common.{◌≡◌, ℕ, ◌<◌, List, [], ◌∷◌, length, get_or, refl, arith}
use Rattle.rs_outside.specs.declared.status.Status.{Status}
use Rattle.rs_outside.specs.declared.status.Status.TheVariants.{Done, Usage, BadInput, BadLog, SourceFault, SinkFault}
use Rattle.rs_outside.specs.declared.status.Status.TheVariants.{LogFault, WireFault, TurnsSpent, NoMemory}
use Rattle.rs_outside.specs.declared.status.Status.TheVariants.{InputTooLong}
use Rattle.srv_loop.specs.Play.{IsPlayStatus}
use Rattle.redscript.specs.Run.{IsRefusal}

-- of the statuses of a play, a bad line alone refuses
pub refused_line : (status : Status) → IsRefusal status → IsPlayStatus status → (line : ℕ) × (status ≡ BadInput line)
refused_line Done refusal played = absurd refusal
refused_line Usage refusal played = absurd played
refused_line (BadInput line) refusal played = (line, refl)
refused_line (BadLog place) refusal played = absurd played
refused_line SourceFault refusal played = absurd played
refused_line SinkFault refusal played = absurd refusal
refused_line LogFault refusal played = absurd refusal
refused_line WireFault refusal played = absurd refusal
refused_line (TurnsSpent turns) refusal played = absurd refusal
refused_line NoMemory refusal played = absurd refusal
refused_line (InputTooLong bytes) refusal played = absurd played

pub two_words : (words : List (List ℕ)) (a b : List ℕ) → length words ≡ 2 → a ≡ get_or words 0 a
    → b ≡ get_or words 1 b → words ≡ a ∷ b ∷ []
two_words [] a b len first second = absurd (omega arith)
two_words (x ∷ []) a b len first second = absurd (omega arith)
two_words (x ∷ y ∷ []) a b len first second = cc
two_words (x ∷ y ∷ z ∷ words) a b len first second = absurd (omega arith)

pub not_empty : (bytes : List ℕ) → (bytes ≡ [] → ⊥) → 0 < length bytes
not_empty [] some = absurd (some refl)
not_empty (b ∷ bytes) some = omega arith

pub one_word : (words : List (List ℕ)) (a : List ℕ) → length words ≡ 1 → a ≡ get_or words 0 a → words ≡ a ∷ []
one_word [] a len first = absurd (omega arith)
one_word (x ∷ []) a len first = cc
one_word (x ∷ y ∷ words) a len first = absurd (omega arith)
