use Rattle.std.proofs.Common.{◌≡◌, ◌++◌, take, map, flat_map}
use Rattle.resp_reply.specs.Replies.{reply_text}
use Rattle.resp_reply.proofs.encoding.+put.Given as goal

abbrev pub invariant-loop-item : goal.invariant-loop-item
invariant-loop-item l =
    l.out ≡ l.initial.out ++ flat_map (λ item. item) (map reply_text (take l.item-index l.item-items))
