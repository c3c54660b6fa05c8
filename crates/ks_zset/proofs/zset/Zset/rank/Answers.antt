use Rattle.std.proofs.Common.{◌∙◌, ap, sym, Some}
use Rattle.std.specs.FinMap as finite
use Rattle.ks_tree.proofs.Places.{place_of}
use Rattle.ks_zset.specs.Zset.{ScoredMember, by_score, ranking_of}
use Rattle.ks_zset.proofs.Ranked.{rank_found, rank_absent}
use Rattle.ks_zset.proofs.zset.Zset.rank.Goals as goal

pub returns-in-None : goal.returns-in-None
returns-in-None c = sym (rank_absent c.args.self.now c.args.member.now
    (ap (λ z. finite.get z c.args.member.now) (sym c.self.view_is) ∙ sym c.get.ensures ∙ c.in-None.is))

pub returns-in-Some : goal.returns-in-Some
returns-in-Some c =
    let scored : ScoredMember = (c.args.member.now, c.in-Some.score) in
    ap Some (c.place.ensures ∙ ap (λ ranking. place_of by_score ranking scored) (c.self.invariant.0
    ∙ ap ranking_of c.self.view_is))
    ∙ sym (rank_found c.args.self.now c.args.member.now c.in-Some.score
    (ap (λ z. finite.get z c.args.member.now) (sym c.self.view_is) ∙ sym c.get.ensures ∙ c.in-Some.is))
