use Rattle.std.proofs.Common.{All, sym, subst}
use Rattle.fx_log.specs.Groups.{IsWithin}
use Rattle.redscript.proofs.replaying.carry_out.Goals as goal

pub replay_into-requires : goal.replay_into-requires
replay_into-requires c = subst IsWithin (sym c.group-item.is)
    (subst (λ groups. All IsWithin groups)
    (sym c.as_slice-group-items.ensures) c.requires c.loop-group.group-index _ c.loop-group-test.true)
