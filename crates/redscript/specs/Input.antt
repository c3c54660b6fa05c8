-- Reading a source to its end, or past the limit.
use Rattle.std.specs.Prelude.{◌≡◌, ℕ, ◌<◌, ◌≤◌, List, length, Option}
use Rattle.rs_outside.specs.Known.{items_then, NoneLeft}
use Rattle.rs_outside.specs.declared.status.Status.{Status}
use Rattle.rs_outside.specs.declared.status.Status.TheVariants.{SourceFault, InputTooLong, NoMemory}

-- this text was read, and nothing is left; it is within the limit
pub record HasReadAll (input input' : Option (List ℕ)) (text : List ℕ) : Type 0 where
  pub read : input ≡ items_then text input'
  pub ended : NoneLeft input'
  pub within : length text ≤ 268435456

-- a text longer than the limit was read
pub record PassesLimit (input input' : Option (List ℕ)) : Type 0 where
  pub text : List ℕ
  pub read : input ≡ items_then text input'
  pub long : 268435456 < length text

-- why reading stopped
abbrev pub StopsReading : Option (List ℕ) → Option (List ℕ) → Type 0 → Status → Type 0
StopsReading input input' rose SourceFault = rose
StopsReading input input' rose (InputTooLong bytes) = (bytes ≡ 268435456) × PassesLimit input input'
StopsReading input input' rose NoMemory = Unit {0}
StopsReading input input' rose _ = ⊥

-- why reading a piece stopped
abbrev pub StopsPiece : Type 0 → Status → Type 0
StopsPiece rose SourceFault = rose
StopsPiece rose NoMemory = Unit {0}
StopsPiece rose _ = ⊥
