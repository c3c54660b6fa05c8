use Rattle.std.proofs.Common.{refl}
use Rattle.ks_value.proofs.Sets.{is_member-stands}
use Rattle.ks_value.proofs.set.SetValue.contains.Goals as goal

pub returns : goal.returns
returns c = is_member-stands c.args.self.now c.args.member.now c.args.member.now c.place_of.result c.stands_at.result
    c.place_of.ensures.ascending refl c.place_of.ensures.value c.stands_at.ensures
