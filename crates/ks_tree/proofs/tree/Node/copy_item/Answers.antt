use Rattle.std.proofs.Common.{◌≡◌, ◌-◌, ◌<◌, length, arith}
use Rattle.std.proofs.lemmas.Result.{on_ok_weaker}
use Rattle.std.proofs.lemmas.List.Elements.{AllZip-push}
use Rattle.ks_tree.proofs.Sides.{slice_range-one}
use Rattle.ks_tree.proofs.tree.Node.copy_item.Goals as goal

pub returns : goal.returns
returns g c =
    let from = c.args.from - length c.args.self.now.left in
    let to = c.args.to - length c.args.self.now.left in
    let none_before : from ≡ 0 = omega arith in
    let within : 0 < to = omega arith in
    let one = slice_range-one c.args.self.now.item from to none_before within in
    on_ok_weaker c.push.result (λ pushed xs all.
    let more = AllZip-push g.T.Clone.is_clone xs c.args.copies.now c.args.self.now.item c.in_ok-clone.field-0 all
    c.in_ok-clone.ensures.cases in
    rw one (rw (← pushed) at more)) c.push.ensures.ok
