use Rattle.std.proofs.Common.{[], refl}
use Rattle.redscript.proofs.ReplayLaws.{KeepsUpTo-empty}
use Rattle.redscript.proofs.replaying.Replaying.new.Goals as goal

pub returns : goal.returns
returns c = KeepsUpTo-empty _ c.new.ensures.stands (c.groups_are_read_back.ensures.whole [] tt).1
    (c.groups_are_read_back.ensures.whole [] tt).0 c.new-2.ensures refl refl
