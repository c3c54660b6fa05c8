use Rattle.std.proofs.Common.{◌∙◌, ap, ap₂, sym, subst}
use Rattle.std.specs.Ordering.{eq_by_cmp}
use Rattle.std.specs.BTreeSet.{insert_key}
use Rattle.std.specs.Set.{remove_key}
use Rattle.std.specs.FinMap as finite
use Rattle.ks_zset.specs.Zset.{HasWholeScores, by_score, ranking_of}
use Rattle.ks_zset.proofs.Ranked.{lacks_other, is_ranked_still, ranking-insert_again}
use Rattle.ks_zset.proofs.WholeScores.{whole-insert}
use Rattle.ks_zset.proofs.zset.Zset.replace.Goals as goal

pub insert-requires : goal.insert-requires
insert-requires c =
    rw (c.in_ok-clone.ensures.cases, c.self.invariant.0, c.self.view_is)
    (lacks_other c.args.self.now c.args.member c.args.score c.args.old c.requires.old
    (λ same. c.requires.apart (sym same)))

pub remove-requires : goal.remove-requires
remove-requires c =
    rw (
      c.in_ok-insert.ensures.ok,
      c.in_ok-clone.ensures.cases,
      c.as_slice.ensures.value,
      c.self.invariant.0,
      c.self.view_is,
    ) (is_ranked_still c.args.self.now c.args.member c.args.score c.args.old c.requires.old)

pub invariant_of-self-2 : goal.invariant_of-self-2
invariant_of-self-2 c =
    let member = c.args.member in (
      c.remove.ensures
          ∙ ap₂ (λ m l. remove_key (eq_by_cmp by_score (m, c.args.old)) l) c.as_slice.ensures.value
          (c.in_ok-insert.ensures.ok
          ∙ ap₂ (λ l m. insert_key by_score l (m, c.args.score)) (c.self.invariant.0
          ∙ ap ranking_of c.self.view_is) c.in_ok-clone.ensures.cases)
          ∙ sym (ranking-insert_again c.args.self.now member c.args.old c.args.score c.requires.old c.requires.apart)
          ∙ ap ranking_of (ap (λ z. finite.insert z member c.args.score) (sym c.self.view_is)
          ∙ sym c.in_ok-insert-2.ensures.ok),
      subst HasWholeScores (sym c.in_ok-insert-2.ensures.ok)
          (whole-insert c.self.inside.scores member c.args.score c.self.invariant.1 c.requires.whole),
    )

pub returns-clause-whole : goal.returns-clause-whole
returns-clause-whole c =
    subst HasWholeScores (sym c.in_ok-insert-2.ensures.ok)
    (whole-insert c.self.inside.scores c.args.member c.args.score c.self.invariant.1 c.requires.whole)
