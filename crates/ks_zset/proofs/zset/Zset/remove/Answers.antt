use Rattle.std.proofs.Common.{◌∙◌, ap, sym, subst}
use Rattle.std.specs.Ordering.{eq_by_cmp}
use Rattle.std.specs.Set.{remove_key}
use Rattle.ks_zset.specs.Zset.{HasWholeScores, by_score, ranking_of}
use Rattle.ks_zset.proofs.Ranked.{is_ranked, ranking-remove, ranking-remove_absent}
use Rattle.ks_zset.proofs.WholeScores.{whole-remove}
use Rattle.ks_zset.proofs.zset.Zset.remove.Goals as goal

pub remove-requires : goal.remove-requires
remove-requires c = rw c.self.invariant.0
    (is_ranked c.self.inside.scores c.args.member.now c.in-Some.score (sym c.remove-old.ensures.old ∙ c.in-Some.is))

pub invariant_of-self : goal.invariant_of-self
invariant_of-self c = (
  c.remove.ensures ∙ ap (remove_key (eq_by_cmp by_score (c.args.member.now, c.in-Some.score))) c.self.invariant.0
      ∙ sym (ranking-remove c.self.inside.scores c.args.member.now c.in-Some.score (sym c.remove-old.ensures.old
      ∙ c.in-Some.is)) ∙ ap ranking_of (sym c.remove-old.ensures.rest),
  subst HasWholeScores (sym c.remove-old.ensures.rest)
      (whole-remove c.self.inside.scores c.args.member.now c.self.invariant.1),
)

pub invariant_of-self-in_default : goal.invariant_of-self-in_default
invariant_of-self-in_default c = (
  c.self.invariant.0 ∙ sym (ranking-remove_absent c.self.inside.scores c.args.member.now (sym c.remove-old.ensures.old
      ∙ c.in_default.is)) ∙ ap ranking_of (sym c.remove-old.ensures.rest),
  subst HasWholeScores (sym c.remove-old.ensures.rest)
      (whole-remove c.self.inside.scores c.args.member.now c.self.invariant.1),
)

pub returns-in-Some-clause-whole : goal.returns-in-Some-clause-whole
returns-in-Some-clause-whole c =
    subst HasWholeScores (sym c.remove-old.ensures.rest)
    (whole-remove c.self.inside.scores c.args.member.now c.self.invariant.1)

pub returns-in_default-clause-whole : goal.returns-in_default-clause-whole
returns-in_default-clause-whole c =
    subst HasWholeScores (sym c.remove-old.ensures.rest)
    (whole-remove c.self.inside.scores c.args.member.now c.self.invariant.1)
