use Rattle.std.proofs.Common.{◌∙◌, ap, sym, bytes_eq}
use Rattle.std.specs.FinMap as finite
use Rattle.std.specs.Map.{lookup}
use Rattle.ks_space.proofs.Always.{on_err_always}
use Rattle.ks_space.proofs.EntriesSeen.{get_seen, put_seen}
use Rattle.ks_space.proofs.table.Table.put.Goals as goal

pub returns-clause-old : goal.returns-clause-old
returns-clause-old c =
    c.in_ok-old.ensures.old ∙ ap (λ q. lookup (λ k. bytes_eq q k.items) c.self.inside.entries.entries)
    c.into_vec.ensures
    ∙ get_seen (λ k. k.items) c.self.inside.entries.entries c.args.self.now c.args.key c.self.view_is

pub returns-in_err-old-clause-absent : goal.returns-in_err-old-clause-absent
returns-in_err-old-clause-absent c =
    on_err_always c.from_residual.result
    (sym (ap (λ q. lookup (λ k. bytes_eq q k.items) c.self.inside.entries.entries) c.into_vec.ensures
    ∙ get_seen (λ k. k.items) c.self.inside.entries.entries c.args.self.now c.args.key c.self.view_is)
    ∙ c.in_err-old.ensures.absent)

pub returns-clause-ok : goal.returns-clause-ok
returns-clause-ok c =
    put_seen (λ k. k.items) c.self.inside.entries.entries c.insert.new.self.entries c.into_vec.result.items
    c.args.entry c.args.self.now
    c.in_ok-old.ensures.updates.1 c.in_ok-old.ensures.updates.3 c.self.view_is
    ∙ ap (λ key. finite.insert c.args.self.now key c.args.entry) c.into_vec.ensures
