use Rattle.std.proofs.Common.{◌∙◌, sym, ap, length, arith}
use Rattle.std.proofs.lemmas.Option.{same_Some, none-some}
use Rattle.rs_base.specs.Escape.{spelling}
use Rattle.rs_outside.specs.declared.turn.What.TheVariants.{Piece}
use Rattle.srv_loop.proofs.Lines.{no_lf_spelling}
use Rattle.srv_loop.proofs.session.first_piece.Goals as goal

pub returns-in_default-clause-only : goal.returns-in_default-clause-only
returns-in_default-clause-only c =
    λ bytes rest each short e. c.in_default.ensures.only (spelling bytes) rest (no_lf_spelling bytes) e

pub returns-in_default-2-clause-only : goal.returns-in_default-2-clause-only
returns-in_default-2-clause-only c = λ bytes rest each short e.
    let line = c.in-Some.ensures.only (spelling bytes) rest (no_lf_spelling bytes) e in
    none-some bytes (sym c.in_default-2.is ∙ c.in_ok-bytes.ensures.only bytes each line.0)

pub returns-then-len-gt-MAX_PIECE_BYTES-clause-only : goal.returns-then-len-gt-MAX_PIECE_BYTES-clause-only
returns-then-len-gt-MAX_PIECE_BYTES-clause-only c = λ bytes rest each short e.
    let line = c.in-Some.ensures.only (spelling bytes) rest (no_lf_spelling bytes) e in
    let same = ap length (same_Some c.in-Some-2.bytes bytes (sym c.in-Some-2.is
    ∙ c.in_ok-bytes.ensures.only bytes each line.0)) in
    omega arith

pub returns-clause-only : goal.returns-clause-only
returns-clause-only c = λ bytes rest each short e.
    let line = c.in-Some.ensures.only (spelling bytes) rest (no_lf_spelling bytes) e in (
      ap Piece (same_Some c.in-Some-2.bytes bytes (sym c.in-Some-2.is ∙ c.in_ok-bytes.ensures.only bytes each line.0)),
      line.1,
    )
