use Rattle.std.proofs.Common.{◌∙◌, ap₂, subst}
use Rattle.std.specs.List.{remove}
use Rattle.std.specs.List.Sorted.{IsStrictlySortedBy}
use Rattle.ks_tree.proofs.Places.{sorted-remove, remove_at_place, place_within}
use Rattle.ks_zset.specs.Zset.{by_score}
use Rattle.ks_zset.proofs.ScoreOrder.{score_total}
use Rattle.ks_zset.proofs.ranking.Ranking.remove.Goals as goal

pub remove-requires : goal.remove-requires
remove-requires c = rw (c.place-place.ensures, c.self.view_is)
    (place_within score_total (c.args.member.now, c.args.score) c.args.self.now
    (subst (IsStrictlySortedBy by_score) c.self.view_is c.self.invariant) c.requires)

pub invariant_of-self : goal.invariant_of-self
invariant_of-self c = rw c.remove.ensures.rest
    (sorted-remove score_total c.self.inside.members c.place-place.result c.self.invariant)

pub returns : goal.returns
returns c =
    c.remove.ensures.rest ∙ ap₂ remove c.self.view_is c.place-place.ensures
    ∙ remove_at_place score_total (c.args.member.now, c.args.score) c.args.self.now
    (subst (IsStrictlySortedBy by_score) c.self.view_is c.self.invariant) c.requires
