use Rattle.std.proofs.Common.{List, ◌++◌, take}
use Rattle.resp_read.specs.Automaton.{kept}
use Rattle.resp_read.specs.Frames.{Form}
use Rattle.resp_read.specs.Places.{StandsBehind}
use Rattle.resp_read.proofs.cursor.Cursor.take_all.Given as goal

abbrev pub invariant-loop-byte : goal.invariant-loop-byte
invariant-loop-byte l = (forms : List Form)
    × StandsBehind (kept l.fn.self.parser ++ take l.byte-index l.piece) l.fn.self.start l.self l.commands forms
