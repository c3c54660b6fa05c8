use Rattle.std.proofs.Common.{◌≡◌, ◌++◌, take, refl, sym, ap, ◌∙◌, arith}
use Rattle.std.proofs.lemmas.Result.{err_from_is_err_and}
use Rattle.rs_outside.specs.Known.{items_then}
use Rattle.redscript.proofs.Inputs.{read_more}
use Rattle.redscript.proofs.ReplayLaws.{filled_front, ReadsLog-ended, StopsLogReading-from_take}
use Rattle.redscript.proofs.replaying.read_log.Goals as goal

pub returns-then-n-eq0-clause-ok : goal.returns-then-n-eq0-clause-ok
returns-then-n-eq0-clause-ok g c =
    ReadsLog-ended c.pieces.replaying _
    (g.S.Source.left c.pieces.input) _ c.pieces.invariant.text c.read.new.into c.in-Ok.n c.pieces.invariant.read
    c.in-Ok.ensures.bytes c.if-n-eq0.true
    (c.in-Ok.ensures.end (let some = c.pieces.invariant.some in omega arith) c.if-n-eq0.true) c.pieces.invariant.keeps

pub pieces-preserved : goal.pieces-preserved
pieces-preserved g c =
    let count = c.in-Ok.ensures.count in
    let some = c.pieces.invariant.some in
    let later = c.pieces.invariant.later in
    let front : c.split_at.result.0.now ≡ take c.in-Ok.n c.read.new.into =
    c.split_at.ensures.front ∙ ap (take c.in-Ok.n) c.deref.ensures.value
    ∙ filled_front c.in-Ok.n _ c.read.new.into _ count (omega arith) in
    record {
      text = c.pieces.invariant.text ++ c.split_at.result.0.now;
      read = read_more _ (g.S.Source.left c.pieces.input) _ c.pieces.invariant.text _ c.split_at.result.0.now
          c.pieces.invariant.read refl (c.in-Ok.ensures.bytes
          ∙ ap (λ p. items_then p (g.S.Source.left c.read.new.self)) (sym front));
      keeps = c.in_ok-take.ensures.ok c.pieces.invariant.text c.pieces.invariant.keeps;
      some = some;
      later = omega (arith, c.in-Ok.ensures.later);
    }

pub returns-in_err-take-clause-stop : goal.returns-in_err-take-clause-stop
returns-in_err-take-clause-stop g c =
    let count = c.in-Ok.ensures.count in
    let p = err_from_is_err_and c.from_residual-in_err-take.result c.from_residual-in_err-take.ensures.1 in
    let stop = c.in_err-take.ensures.stop c.pieces.invariant.text c.pieces.invariant.keeps in
    let front : c.split_at.result.0.now ≡ take c.in-Ok.n c.read.new.into =
    c.split_at.ensures.front ∙ ap (take c.in-Ok.n) c.deref.ensures.value
    ∙ filled_front c.in-Ok.n _ c.read.new.into _ count (omega arith) in
    let read = read_more _ (g.S.Source.left c.pieces.input) _ c.pieces.invariant.text _ c.split_at.result.0.now
    c.pieces.invariant.read refl (c.in-Ok.ensures.bytes
    ∙ ap (λ p. items_then p (g.S.Source.left c.read.new.self)) (sym front)) in
    rw (p.1, p.2) (StopsLogReading-from_take _ _ _ _ _ read stop)
