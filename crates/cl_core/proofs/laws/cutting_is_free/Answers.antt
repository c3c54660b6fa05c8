use Rattle.std.proofs.Common.{refl, arith}
use Rattle.rs_outside.specs.declared.turn.Turn.{Turn}
use Rattle.rs_outside.specs.declared.turn.What.TheVariants.{Piece}
use Rattle.cl_core.specs.Machine.{Run, with_turn}
use Rattle.cl_core.proofs.CutLaws.{cut_is}
use Rattle.cl_core.proofs.ValidLaws.{turn_rises}
use Rattle.cl_core.proofs.laws.cutting_is_free.Goals as goal

pub returns : goal.returns
returns c = λ run clock word client a b valid.
    let turn : Turn = record { clock = clock; word = word; client = client; what = Piece a } in
    let first : Run = with_turn run turn in
    let rises = turn_rises run turn in
    cut_is c.reading_is_the_grammar.ensures.goes_on c.purge_removes_the_keys_past_their_deadline.ensures.listed run
    clock word client a b first refl
    (c.turns_keep_validity.ensures.turns run.state turn valid).timely (omega arith)
