use Rattle.std.proofs.Common.{◌≡◌, ◌∷◌, ◌++◌, take}
use Rattle.std.specs.List.{flat_map}
use Rattle.rs_base.specs.Escape.{spelling}
use Rattle.session_cases.proofs.cases.put_frame.Given as goal

abbrev pub invariant-loop-word : goal.invariant-loop-word
invariant-loop-word l = l.out ≡ l.initial.out ++ flat_map (λ word. 32 ∷ spelling word) (take l.word-index l.word-items)
