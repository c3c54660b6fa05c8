-- What a wire gives.
use Rattle.std.specs.Prelude.{◌≡◌, List, [], ◌∷◌, Option, Result, MatchResult}
use Rattle.rs_outside.specs.declared.turn.Turn.{Turn}
use Rattle.rs_outside.specs.declared.wire.Step.{Step}
use Rattle.rs_outside.specs.declared.wire.Step.TheVariants.{Given, End}
use Rattle.rs_outside.specs.Known.{items_then, NoneLeft}

-- the first turn to come, or the end exactly where none is left
abbrev pub TakesStep : Option (List Turn) → Option (List Turn) → Step → Type 0
TakesStep old new (Given turn) = old ≡ items_then (turn ∷ []) new
TakesStep old new End = (new ≡ old) × NoneLeft old

-- the call answers such a step; after an error the turns to come are those that were
abbrev pub GivesNext : {S E : Type 0} → (S → Option (List Turn)) → S → S → Result Step E → Type 0
GivesNext coming old new result =
    MatchResult result (λ step. TakesStep (coming old) (coming new) step) (λ _. coming new ≡ coming old)
