use Rattle.std.proofs.Common.{refl, ap}
use Rattle.std.proofs.lemmas.Result.{on_ok_weaker}
use Rattle.rs_outside.specs.declared.turn.What.TheVariants.{Opened, Piece, Closed, Idle}
use Rattle.cl_core.specs.Machine.{Run, State}
use Rattle.cl_core.proofs.RunLaws.{turned}
use Rattle.cl_core.proofs.server.Server.take_turn.Goals as goal

pub returns-in-Opened : goal.returns-in-Opened
returns-in-Opened c =
    let before : Run = record { state = c.args.self.now; rows = c.args.outs.now; groups = c.args.groups.now } in
    let run : Run = record { state = c.begin.new.self; rows = c.args.outs.now; groups = c.begin.new.groups } in
    let after : Run = record { state = c.open.new.self; rows = c.open.new.outs; groups = c.begin.new.groups } in
    on_ok_weaker c.open.result (turned c.args.turn.now Opened before run after
    (c.in_ok-begin.ensures.same c.args.outs.now) c.in-Opened.is) (c.open.ensures.same c.begin.new.groups)

pub returns-in-Piece : goal.returns-in-Piece
returns-in-Piece c =
    let before : Run = record { state = c.args.self.now; rows = c.args.outs.now; groups = c.args.groups.now } in
    let run : Run = record { state = c.begin.new.self; rows = c.args.outs.now; groups = c.begin.new.groups } in
    let after : Run = record {
      state = c.take_piece.new.self;
      rows = c.take_piece.new.outs;
      groups = c.take_piece.new.groups;
    } in
    on_ok_weaker c.take_piece.result
    (turned c.args.turn.now (Piece c.in-Piece.bytes) before run after
    (c.in_ok-begin.ensures.same c.args.outs.now) c.in-Piece.is) c.take_piece.ensures

pub returns-in-Closed : goal.returns-in-Closed
returns-in-Closed c =
    let before : Run = record { state = c.args.self.now; rows = c.args.outs.now; groups = c.args.groups.now } in
    let run : Run = record { state = c.begin.new.self; rows = c.args.outs.now; groups = c.begin.new.groups } in
    let after : Run = record { state = c.close.new.self; rows = c.args.outs.now; groups = c.begin.new.groups } in
    turned c.args.turn.now Closed before run after (c.in_ok-begin.ensures.same c.args.outs.now) c.in-Closed.is
    (ap (λ (state : State). record { state = state; rows = c.args.outs.now; groups = c.begin.new.groups })
    c.close.ensures)

pub returns-in-Idle : goal.returns-in-Idle
returns-in-Idle c =
    let before : Run = record { state = c.args.self.now; rows = c.args.outs.now; groups = c.args.groups.now } in
    let run : Run = record { state = c.begin.new.self; rows = c.args.outs.now; groups = c.begin.new.groups } in
    turned c.args.turn.now Idle before run run (c.in_ok-begin.ensures.same c.args.outs.now) c.in-Idle.is refl
