use Rattle.std.proofs.Common.{◌≡◌, map, take}
use Rattle.fx_record.proofs.record.copied.Given as goal

abbrev pub invariant-loop-word : goal.invariant-loop-word
invariant-loop-word l = l.copy ≡ map (λ word. word.now) (take l.word-index l.words)
