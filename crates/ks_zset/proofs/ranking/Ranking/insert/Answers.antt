use Rattle.std.proofs.Common.{◌≡◌, ◌≤◌, ◌∙◌, ap, ap₂, sym, subst, length}
use Rattle.std.specs.List.{insert, remove}
use Rattle.std.specs.List.Sorted.{IsStrictlySortedBy}
use Rattle.std.specs.Ordering.{is_lt}
use Rattle.std.proofs.lemmas.List.Sums.{count_by-le-length}
use Rattle.ks_tree.proofs.Order.{sorted-insert_key}
use Rattle.ks_tree.proofs.Places.{place_of, insert_at_place, removed_again}
use Rattle.ks_zset.specs.Zset.{ScoredMember, by_score}
use Rattle.ks_zset.proofs.ScoreOrder.{score_total}
use Rattle.ks_zset.proofs.ranking.Ranking.insert.Goals as goal

pub returns-clause-ok : goal.returns-clause-ok
returns-clause-ok c =
    let scored : ScoredMember = (c.args.member, c.args.score) in
    let place : c.place-place.result ≡ place_of by_score c.args.self.now scored = c.place-place.ensures
    ∙ ap (λ m. place_of by_score c.args.self.now (m, c.args.score)) c.as_slice.ensures.value in
    c.in_ok-insert.ensures.ok ∙ ap₂ (λ l i. insert l i scored) c.self.view_is place
    ∙ insert_at_place score_total scored c.args.self.now
    (subst (IsStrictlySortedBy by_score) c.self.view_is c.self.invariant) c.requires

pub invariant_of-self-2 : goal.invariant_of-self-2
invariant_of-self-2 c =
    let scored : ScoredMember = (c.args.member, c.args.score) in
    let place : c.place-place.result ≡ place_of by_score c.args.self.now scored = c.place-place.ensures
    ∙ ap (λ m. place_of by_score c.args.self.now (m, c.args.score)) c.as_slice.ensures.value in
    let sorted = subst (IsStrictlySortedBy by_score) c.self.view_is c.self.invariant in
    subst (IsStrictlySortedBy by_score)
    (sym (c.in_ok-insert.ensures.ok ∙ ap₂ (λ l i. insert l i scored) c.self.view_is place
    ∙ insert_at_place score_total scored c.args.self.now sorted c.requires))
    (sorted-insert_key score_total scored c.args.self.now sorted)

pub returns-clause-undone : goal.returns-clause-undone
returns-clause-undone c =
    let within : c.place-place.result ≤ length c.self.inside.members =
    rw (c.place-place.ensures, c.self.view_is)
    (count_by-le-length (λ scored. is_lt (by_score scored (c.as_slice.result.now, c.args.score))) c.args.self.now)
    in
    ap (λ l. remove l c.place-place.result) c.in_ok-insert.ensures.ok
    ∙ removed_again c.self.inside.members c.place-place.result (c.args.member, c.args.score) within ∙ c.self.view_is
