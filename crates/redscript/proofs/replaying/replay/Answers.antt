use Rattle.std.proofs.Common.{inl, inr, refl}
use Rattle.redscript.proofs.ReplayLaws.{reading_finds_bad, reading_keeps_limit, reading_stops, no_bad_place, not_long}
use Rattle.redscript.proofs.ReplayLaws.{writing_stops, no_done-from_writing, no_refusal-from_writing}
use Rattle.redscript.proofs.ReplayLaws.{IsReplayStatus-from_reading, IsReplayStatus-from_writing, Replays-from_keeps}
use Rattle.redscript.proofs.ReplayLaws.{CutsReplay-from_keeps}
use Rattle.redscript.proofs.replaying.replay.Goals as goal

pub returns-in-Err-clause-others : goal.returns-in-Err-clause-others
returns-in-Err-clause-others g c = IsReplayStatus-from_reading c.in-Err.status _ _ _ c.in-Err.ensures.stop

pub returns-in-Err-clause-finds_bad : goal.returns-in-Err-clause-finds_bad
returns-in-Err-clause-finds_bad g c = λ text place kind told bad.
    reading_finds_bad c.in-Err.status text _ _ _ place kind c.log_reading_is_the_grammar.ensures.stays
    c.log_reading_is_the_grammar.ensures.one_bad c.in-Err.ensures.stop told bad

pub returns-in-Err-clause-keeps_limit : goal.returns-in-Err-clause-keeps_limit
returns-in-Err-clause-keeps_limit g c = λ text told long good.
    elim (reading_keeps_limit c.in-Err.status text _ _ _ c.log_reading_is_the_grammar.ensures.stays
    c.in-Err.ensures.stop told good) [ inl past ↦ inl past.0 | inr other ↦ inr other ]

pub returns-in-Err-clause-replays : goal.returns-in-Err-clause-replays
returns-in-Err-clause-replays g c = λ text told short good.
    elim (reading_stops c.in-Err.status text _ _ _ c.log_reading_is_the_grammar.ensures.stays c.in-Err.ensures.stop
    told short good) [ inl spent ↦ inr (inl spent) | inr rose ↦ inr (inr (inl rose)) ]

pub returns-in-Ok-write_replayed-clause-done : goal.returns-in-Ok-write_replayed-clause-done
returns-in-Ok-write_replayed-clause-done g c = λ _.
    let read = c.in-Ok.ensures.ok in
    Replays-from_keeps c.in-Ok.replaying read.0 _ _ _ _ read.1 read.2 c.in-Ok-write_replayed.ensures.ok

pub returns-in-Ok-write_replayed-clause-finds_bad : goal.returns-in-Ok-write_replayed-clause-finds_bad
returns-in-Ok-write_replayed-clause-finds_bad g c = λ text place kind told bad.
    let read = c.in-Ok.ensures.ok in absurd (no_bad_place text read.0 _ _ place kind told read.1 bad)

pub returns-in-Ok-write_replayed-clause-keeps_limit : goal.returns-in-Ok-write_replayed-clause-keeps_limit
returns-in-Ok-write_replayed-clause-keeps_limit g c = λ text told long good.
    let read = c.in-Ok.ensures.ok in absurd (not_long text read.0 _ _ told read.1 long)

pub returns-in-Ok-write_replayed-clause-replays : goal.returns-in-Ok-write_replayed-clause-replays
returns-in-Ok-write_replayed-clause-replays g c = λ text told short good. inl refl

pub returns-in-Ok-write_replayed-clause-anywhere : goal.returns-in-Ok-write_replayed-clause-anywhere
returns-in-Ok-write_replayed-clause-anywhere g c =
    let read = c.in-Ok.ensures.ok in
    inr (CutsReplay-from_keeps c.in-Ok.replaying read.0 _ _ _ _ read.1 read.2 c.write_replayed.ensures.cut)

pub returns-clause-done : goal.returns-clause-done
returns-clause-done g c = λ done.
    absurd (no_done-from_writing c.in-Err-write_replayed.status _ c.in-Err-write_replayed.ensures.stop done)

pub returns-clause-refused : goal.returns-clause-refused
returns-clause-refused g c = λ refusal.
    absurd (no_refusal-from_writing c.in-Err-write_replayed.status _ c.in-Err-write_replayed.ensures.stop refusal)

pub returns-clause-others : goal.returns-clause-others
returns-clause-others g c = IsReplayStatus-from_writing c.in-Err-write_replayed.status _
    c.in-Err-write_replayed.ensures.stop

pub returns-clause-finds_bad : goal.returns-clause-finds_bad
returns-clause-finds_bad g c = λ text place kind told bad.
    let read = c.in-Ok.ensures.ok in absurd (no_bad_place text read.0 _ _ place kind told read.1 bad)

pub returns-clause-keeps_limit : goal.returns-clause-keeps_limit
returns-clause-keeps_limit g c = λ text told long good.
    let read = c.in-Ok.ensures.ok in absurd (not_long text read.0 _ _ told read.1 long)

pub returns-clause-replays : goal.returns-clause-replays
returns-clause-replays g c = λ text told short good.
    elim (writing_stops c.in-Err-write_replayed.status _ c.in-Err-write_replayed.ensures.stop)
    [ inl failed ↦ inr (inr (inr failed.1)) | inr spent ↦ inr (inl spent) ]

pub returns-clause-anywhere : goal.returns-clause-anywhere
returns-clause-anywhere g c =
    let read = c.in-Ok.ensures.ok in
    inr (CutsReplay-from_keeps c.in-Ok.replaying read.0 _ _ _ _ read.1 read.2 c.write_replayed.ensures.cut)
