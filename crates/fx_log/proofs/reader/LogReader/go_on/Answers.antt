use Rattle.std.proofs.lemmas.Result.{IfOk-weaker}
use Rattle.fx_log.specs.declared.reader.State.TheVariants as state
use Rattle.fx_log.proofs.Feeding.{goes-on, command-stops, frame-stops, never-failed}
use Rattle.fx_log.proofs.Within.{command-stop-within, frame-stop-within}
use Rattle.fx_log.proofs.reader.LogReader.go_on.Goals as goal

pub returns-in-Ok-clause-goes : goal.returns-in-Ok-clause-goes
returns-in-Ok-clause-goes c = λ text stands.
    IfOk-weaker _ _ _
    (λ groups h. goes-on c.reading_is_the_grammar.ensures.one_sequence c.reading_is_the_grammar.ensures.not_both text
    _ _ _ _
    _ _ groups _ stands (c.in-Ok.ensures.goes text stands.0) h.1 h.2)
    c.take.ensures.ok

pub returns-in-Ok-clause-stops : goal.returns-in-Ok-clause-stops
returns-in-Ok-clause-stops c = λ text stands.
    command-stops c.reading_is_the_grammar.ensures.one_sequence c.reading_is_the_grammar.ensures.not_both text
    c.args.piece.now c.args.reader c.feed.new.self c.args.opened c.in-Ok.commands
    c.take.result (state.Reading c.args.reader c.args.opened) c.take.new.self stands
    (c.in-Ok.ensures.goes text stands.0) c.take.ensures.err

pub returns-in-Err-Bad-clause-stops : goal.returns-in-Err-Bad-clause-stops
returns-in-Err-Bad-clause-stops c = λ text stands.
    let breaks = rw c.in-Err-Bad.field-0-is at (c.in-Err-Bad.ensures.stops text stands.0) in
    frame-stops c.reading_is_the_grammar.ensures.one_sequence c.reading_is_the_grammar.ensures.not_both text
    c.args.piece.now
    c.args.reader c.feed.new.self c.args.opened c.in-Err-Bad.before
    c.in-Err-Bad.place _ c.take_last.result (state.Reading c.args.reader c.args.opened) c.take_last.new.self stands
    breaks (rw (c.in-Err-Bad.before-is, c.in-Err-Bad.place-is) at c.take_last.ensures)

pub returns-in-Err-Failed-clause-stops : goal.returns-in-Err-Failed-clause-stops
returns-in-Err-Failed-clause-stops c = λ text stands.
    let failed = rw c.in-Err-Failed.field-0-is at (c.in-Err-Failed.ensures.stops text stands.0) in
    absurd (never-failed c.reading_is_the_grammar.ensures.not_both text failed.2.0 stands.1.0 _ stands.1.1 failed.2.1)

pub returns-in-Ok-clause-before : goal.returns-in-Ok-clause-before
returns-in-Ok-clause-before c =
    command-stop-within c.in-Ok.commands c.args.opened c.take.new.self c.take.result c.requires.opened
    c.take.ensures.err

pub returns-in-Err-Bad-clause-before : goal.returns-in-Err-Bad-clause-before
returns-in-Err-Bad-clause-before c =
    frame-stop-within c.in-Err-Bad.place c.in-Err-Bad.before c.args.opened c.take_last.new.self c.take_last.result
    c.requires.opened (rw (c.in-Err-Bad.before-is, c.in-Err-Bad.place-is) at c.take_last.ensures)
