use Rattle.std.proofs.Common.{◌≡◌, ◌++◌, map, drop}
use Rattle.std.specs.List.{flat_map}
use Rattle.resp_read.specs.Frames.{bulk, frame}
use Rattle.fx_log.proofs.frames.write_frame.Given as goal

abbrev pub invariant-loop-word : goal.invariant-loop-word
invariant-loop-word l = l.out ++ flat_map bulk (map (λ word. word.now) (drop l.word-index l.words)) ≡ l.fn.out
    ++ frame (map (λ word. word.now) l.words)
