use Rattle.std.proofs.Common.{◌∙◌, Result, Ok, Err, OnErr, ap, sym}
use Rattle.std.specs.Ordering.{is_eq}
use Rattle.std.specs.Map.{lookup}
use Rattle.ks_tree.specs.Order.{bytes_cmp}
use Rattle.ks_tree.proofs.ByteOrder.{bytes_total, bytes_exact}
use Rattle.ks_tree.proofs.MapLaws.{get_seen, put_seen}
use Rattle.ks_zset.proofs.scores.Scores.insert.Goals as goal

on_err_always : {T E : Type 0} {P : Type 0} (r : Result T E) → P → OnErr r P
on_err_always (Ok x) p = tt
on_err_always (Err e) p = p

pub returns-in_err-old-clause-absent : goal.returns-in_err-old-clause-absent
returns-in_err-old-clause-absent c =
    on_err_always c.from_residual.result
    (sym (get_seen bytes_cmp (λ k. k.items) bytes_total bytes_exact c.self.inside.scores.entries c.args.self.now
    c.args.member c.self.view_is)
    ∙ ap (λ q. lookup (λ k. is_eq (bytes_cmp q k.items)) c.self.inside.scores.entries) (sym c.into_vec.ensures)
    ∙ c.in_err-old.ensures.absent)

pub returns-clause-old : goal.returns-clause-old
returns-clause-old c =
    c.in_ok-old.ensures.old ∙ ap (λ q. lookup (λ k. is_eq (bytes_cmp q k.items)) c.self.inside.scores.entries)
    c.into_vec.ensures ∙ get_seen bytes_cmp
    (λ k. k.items) bytes_total bytes_exact c.self.inside.scores.entries c.args.self.now c.args.member c.self.view_is

pub returns-clause-ok : goal.returns-clause-ok
returns-clause-ok c =
    put_seen bytes_cmp (λ k. k.items) bytes_total bytes_exact c.self.inside.scores.entries c.insert.new.self.entries
    c.into_vec.result c.args.member c.args.score c.args.self.now
    c.in_ok-old.ensures.was_ordered c.in_ok-old.ensures.ordered c.in_ok-old.ensures.entries c.into_vec.ensures
    c.self.view_is
