use Rattle.std.proofs.Common.{◌∙◌, ap, sym, true≢false}
use Rattle.std.specs.Prelude.{pos}
use Rattle.resp_reply.specs.declared.reply.Reply.TheVariants.{Int}
use Rattle.cmd_keys.proofs.Leaving.{del_gives}
use Rattle.cmd_keys.proofs.removing.del.Goals as goal

pub returns : goal.returns
returns c = del_gives c.args.world.now c.args.keys.now c.in_ok-records.records c.in_ok-reply.reply
    c.in_ok-records.ensures (c.in_ok-reply.ensures ∙ ap (λ n. Int (pos n)) c.len.ensures)
    (λ none. true≢false (sym (c.is_empty.ensures.1 none) ∙ c.if-is_empty.false))
