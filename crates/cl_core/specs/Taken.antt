-- What becomes of a client that was taken out of the open ones while its commands are carried out.
use Rattle.std.specs.Prelude.{ℕ, if◌then◌else◌, List, fold}
use Rattle.resp_read.specs.declared.stops.BadFrame.{BadFrame}
use Rattle.rs_outside.specs.declared.turn.OutRow.TheVariants.{Shut}
use Rattle.resp_reply.specs.declared.reply.Reply.{Reply}
use Rattle.cmd_rows.specs.Outcomes.{ok}
use Rattle.cl_core.specs.Machine.{Run, holding, with_command, sending, reply_row, protocol_error, quits, before_quit}

-- it is sent a last reply, and shut
abbrev pub dismissed : ℕ → Reply → Run → Run
dismissed client answer run = sending (Shut client) (sending (reply_row client answer) run)

-- it is put back with the bytes that are left, or dismissed by a QUIT
abbrev pub put_back : ℕ → List ℕ → List (List (List ℕ)) → Run → Run
put_back client rest commands run =
    if quits commands then dismissed client ok (fold (with_command client) run (before_quit commands))
    else holding client rest (fold (with_command client) run (before_quit commands))

-- it is told where its bytes went bad, and shut, or dismissed by a QUIT before that
abbrev pub told_of : ℕ → BadFrame → List (List (List ℕ)) → Run → Run
told_of client kind commands run =
    if quits commands then dismissed client ok (fold (with_command client) run (before_quit commands))
    else dismissed client (protocol_error kind) (fold (with_command client) run (before_quit commands))
