-- How a text that reads as unfinished goes on.
use Rattle.std.proofs.Common.{◌≡◌, ℕ, List, ◌++◌, ap, ◌∙◌}
use Rattle.resp_read.specs.Frames.{Form}
use Rattle.resp_read.specs.Reading.{Unfinished, reading, going_on, behind_forms}

pub unfinished_goes_on : ((text more : List ℕ) → reading (text ++ more) ≡ going_on (reading text) more)
    → (text piece : List ℕ) (forms : List Form) (left : List ℕ) → reading text ≡ Unfinished forms left
    → reading (text ++ piece) ≡ behind_forms forms (reading (left ++ piece))
unfinished_goes_on goes text piece forms left e = goes text piece ∙ ap (λ r. going_on r piece) e
