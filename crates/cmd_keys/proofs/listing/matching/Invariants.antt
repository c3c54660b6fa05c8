use Rattle.std.proofs.Common.{◌≡◌, take, map, filter}
use Rattle.resp_reply.specs.declared.reply.Reply.TheVariants.{Bulk}
use Rattle.cmd_keys.specs.Globs.{is_match}
use Rattle.cmd_keys.proofs.listing.matching.Given as goal

abbrev pub invariant-loop-key : goal.invariant-loop-key
invariant-loop-key l = l.replies ≡ map Bulk (filter (is_match l.glob) (take l.key-index l.keys))
