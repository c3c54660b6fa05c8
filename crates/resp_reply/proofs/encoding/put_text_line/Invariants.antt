use Rattle.std.proofs.Common.{◌≡◌, ◌++◌, take}
use Rattle.resp_reply.specs.Replies.{in_one_line}
use Rattle.resp_reply.proofs.encoding.put_text_line.Given as goal

abbrev pub invariant-loop-byte : goal.invariant-loop-byte
invariant-loop-byte l = l.out ≡ l.initial.out ++ in_one_line (take l.byte-index l.text)
