use Rattle.std.proofs.Common.{sym, ap, subst, ◌∙◌}
use Rattle.std.specs.FinMap as finite
use Rattle.ks_space.specs.Store.{Store, IsKey, IsKept, IsStore}
use Rattle.fx_record.proofs.LimitLaws.{each-insert, each-empty}
use Rattle.command_cases.proofs.cases.desk_with.Goals as goal

pub over-requires-clause-limits : goal.over-requires-clause-limits
over-requires-clause-limits c =
    subst IsStore (sym (c.in_ok-put.ensures.ok
    ∙ ap (λ (s : Store). finite.insert s c.args.key c.args.entry) c.new-space.ensures))
    (each-insert (λ key entry. IsKey key × IsKept entry) finite.empty c.args.key c.args.entry
    (each-empty (λ key entry. IsKey key × IsKept entry)) (c.requires.key, c.requires.entry))
