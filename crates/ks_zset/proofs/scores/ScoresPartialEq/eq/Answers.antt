use Rattle.std.proofs.Common.{ℤ, ◌&&◌, ℕ, Vec, Global, ◌∙◌, ap₂, sym}
use Rattle.std.specs.Ordering.{int_eq}
use Rattle.std.specs.Str.{bytes_eq}
use Rattle.std.specs.Cmp.Lexicographic.{pointwise}
use Rattle.std.specs.Cmp.Derive.Mapped.{pointwise-map}
use Rattle.std.specs.FinMap as finite
use Rattle.ks_tree.specs.Order.{bytes_cmp}
use Rattle.ks_tree.proofs.ByteOrder.{bytes_total, bytes_exact}
use Rattle.ks_tree.proofs.MapLaws.{entries_seen, len_seen}
use Rattle.ks_zset.specs.Zset.{ScoredMember}
use Rattle.ks_zset.proofs.Ranked.{pointwise_apart}
use Rattle.ks_zset.proofs.scores.ScoresPartialEq.eq.Goals as goal

pub returns-then-len : goal.returns-then-len
returns-then-len c =
    let long = c.len.ensures.len ∙ len_seen bytes_cmp
    (λ k. k.items) bytes_total bytes_exact c.self.inside.scores.entries c.args.self.now c.len.ensures.ordered
    c.self.view_is ∙ finite.len-entries c.args.self.now in
    let other_long = c.len-2.ensures.len
    ∙ len_seen bytes_cmp (λ k. k.items) bytes_total bytes_exact c.other.inside.scores.entries c.args.other.now
    c.len-2.ensures.ordered c.other.view_is ∙ finite.len-entries c.args.other.now in
    sym (pointwise_apart (λ (a b : ScoredMember). bytes_eq a.0 b.0 && int_eq a.1 b.1) (finite.entries c.args.self.now)
    (finite.entries c.args.other.now) (λ e. c.if-len.true (long ∙ e ∙ sym other_long)))

pub returns : goal.returns
returns c =
    c.eq.ensures ∙ sym (pointwise-map (λ (e : Vec ℕ Global × ℤ). (e.0.items, e.1))
    (λ (a b : ScoredMember). bytes_eq a.0 b.0 && int_eq a.1 b.1) c.self.inside.scores.entries
    c.other.inside.scores.entries)
    ∙ ap₂ (pointwise (λ (a b : ScoredMember). bytes_eq a.0 b.0 && int_eq a.1 b.1))
    (entries_seen bytes_cmp (λ k. k.items) bytes_total bytes_exact c.self.inside.scores.entries c.args.self.now
    c.len.ensures.ordered c.self.view_is)
    (entries_seen bytes_cmp (λ k. k.items) bytes_total bytes_exact c.other.inside.scores.entries c.args.other.now
    c.len-2.ensures.ordered c.other.view_is)
