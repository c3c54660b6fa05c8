use Rattle.std.proofs.Common.{◌∷◌, [], ◌++◌, ◌∙◌, ap, sym}
use Rattle.std.specs.FinMap as finite
use Rattle.std.proofs.lemmas.Result.{on_ok_weaker}
use Rattle.rs_outside.specs.declared.turn.OutRow.TheVariants.{Shut}
use Rattle.cl_core.specs.Machine.{reply_row}
use Rattle.cl_core.proofs.RunLaws.{open_full}
use Rattle.cl_core.proofs.server.Server.open.Goals as goal

pub returns : goal.returns
returns c = record {
  same = λ groups. on_ok_weaker c.dismiss.result
      (λ rows. (λ i. record {
        state = c.args.self.now;
        rows =
            (rows ∙ ap (λ fault. (c.args.outs.now ++ reply_row c.args.client fault ∷ []) ++ Shut c.args.client ∷ [])
            c.in_ok-fault.ensures) i;
        groups = groups;
      })
      ∙ sym (open_full c.args.client c.args.self.now c.contains.result c.len.result c.args.outs.now groups
      (c.contains.ensures ∙ ap (λ s. finite.contains_key s.clients c.args.client) c.self.view_is) c.if-contains.false
      (c.len.ensures ∙ ap (λ s. finite.len s.clients) c.self.view_is) c.if-len-lt-MAX_CLIENTS.false))
      c.dismiss.ensures;
}
