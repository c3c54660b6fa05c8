use Rattle.std.proofs.Common.{refl, arith}
use Rattle.std.proofs.lemmas.Result.{err_from_is_err_and}
use Rattle.redscript.proofs.ReplayLaws.{KeepsUpTo-more, StopsTake-from_feed, passes_limit}
use Rattle.redscript.specs.Replay.{up_to_limit}
use Rattle.redscript.proofs.replaying.Replaying.take.Goals as goal

pub returns-in_err-feed-clause-stop : goal.returns-in_err-feed-clause-stop
returns-in_err-feed-clause-stop c = λ text kept.
    let p = err_from_is_err_and c.from_residual.result c.from_residual.ensures.1 in
    rw (p.1, p.2) (StopsTake-from_feed _ text c.args.piece.now c.split_at.result.0.now c.args.self.now.room
    c.min-within.result kept.room_is c.min-within.ensures c.split_at.ensures.front
    (c.in_err-feed.ensures.stop (up_to_limit text) kept.keeps))

pub returns-clause-ok : goal.returns-clause-ok
returns-clause-ok c = λ text kept.
    KeepsUpTo-more c.args.self.now c.feed.new.self text c.args.piece.now c.split_at.result.0.now c.min-within.result
    c.min-within.ensures (omega arith) c.split_at.ensures.front c.in_ok-feed.ensures.room kept
    (c.in_ok-feed.ensures.ok (up_to_limit text) kept.keeps)

pub returns-then-within-piece-clause-stop : goal.returns-then-within-piece-clause-stop
returns-then-within-piece-clause-stop c = λ text kept.
    let p = passes_limit c.args.self.now c.feed.new.self text c.args.piece.now c.split_at.result.0.now
    c.min-within.result c.min-within.ensures (omega arith) c.split_at.ensures.front kept
    (c.in_ok-feed.ensures.ok (up_to_limit text) kept.keeps) in
    (refl, p.0, p.1)
