use Rattle.std.proofs.Common.{◌≡◌, ◌++◌, take, map}
use Rattle.session_cases.specs.Frames.{frame_lines}
use Rattle.session_cases.proofs.cases.put_frames.Given as goal

abbrev pub invariant-loop-frame : goal.invariant-loop-frame
invariant-loop-frame l = l.out ≡ l.initial.out
    ++ frame_lines (map (λ frame. frame.words) (take l.frame-index l.frame-items))
