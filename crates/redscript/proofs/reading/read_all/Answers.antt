use Rattle.std.proofs.Common.{ℕ, ◌≤◌, arith}
use Rattle.std.proofs.lemmas.Result.{err_from_is_err_and}
use Rattle.rs_outside.specs.Faults.{Rose}
use Rattle.redscript.proofs.Inputs.{StopsReading-from_piece}
use Rattle.redscript.proofs.reading.read_all.Goals as goal

-- a count that rose in a piece rose in the reading
risen : (before between now : ℕ) → before ≤ between → Rose between now → Rose before now
risen before between now later rose = omega arith

pub returns-in_err-read_piece-clause-stop : goal.returns-in_err-read_piece-clause-stop
returns-in_err-read_piece-clause-stop g c =
    let p = err_from_is_err_and c.from_residual-in_err-read_piece.result c.from_residual-in_err-read_piece.ensures.1 in
    rw (p.1, p.2) (StopsReading-from_piece _ _ _ _ _
    (risen _ (g.S.Source.faults c.loop-input.input) _ c.loop-input.invariant.later)
    c.in_err-read_piece.ensures.stop)
