-- A log that is replayed as it is read.
use Rattle.std.proofs.Common.{◌≡◌, ℕ, ◌+◌, ◌-◌, ◌^◌, ◌<◌, ◌≤◌, min, List, [], ◌∷◌, ◌++◌, Option, Some, None, length}
use Rattle.std.proofs.Common.{take, fold, codes, refl, sym, ap, subst, inl, inr, ◌⊎◌, ◌∙◌, arith, append-nil}
use Rattle.std.proofs.Common.{length-append}
use Rattle.std.proofs.lemmas.List.{take_all, take_min, take-take, take-append-le}
use Rattle.std.proofs.lemmas.List.Sums.{fold-append}
use Rattle.std.proofs.lemmas.Grind.{flat_map-append}
use Rattle.std.specs.FinMap as finite
use Rattle.rs_base.proofs.Lists.{take-append}
use Rattle.rs_outside.specs.Known.{items_then, known_then, NoneLeft}
use Rattle.rs_outside.specs.declared.status.Status.{Status}
use Rattle.rs_outside.specs.declared.status.Status.TheVariants.{Done, Usage, BadInput, BadLog, SourceFault, SinkFault}
use Rattle.rs_outside.specs.declared.status.Status.TheVariants.{LogFault, WireFault, TurnsSpent, NoMemory}
use Rattle.rs_outside.specs.declared.status.Status.TheVariants.{InputTooLong}
use Rattle.fx_record.specs.Records.{apply, replay}
use Rattle.fx_log.specs.declared.group.Group.{Group}
use Rattle.fx_log.specs.declared.stops.LogKind.{LogKind}
use Rattle.fx_log.specs.Logs.{IsGroups, IsBadLog, HasBadPlace}
use Rattle.fx_log.specs.LogReader.{HasReadLog, GoesOn}
use Rattle.redscript.specs.declared.replaying.Replaying.{Replaying}
use Rattle.redscript.proofs.Inputs.{items_then-nil, whole_text, no_longer}
use Rattle.redscript.specs.Replay.{records_of, up_to_limit, Keeps, KeepsUpTo, StopsFeed, StopsTake, StopsLogReading}
use Rattle.redscript.specs.Replay.{ReadsLog, PassesLogLimit, Replays, CutsReplay, IsReplayStatus, log_ending}
use Rattle.redscript.specs.Replay.{replay_text}
use Rattle.redscript.specs.Run.{IsRefusal}
use Rattle.redscript.specs.Forms.{IsPlay, IsReplay}
use Rattle.srv_loop.specs.Stops.{Stops, Never}
use Rattle.srv_loop.specs.Taking.{TookPrefix}
use Rattle.fx_log.specs.Frames.{within_u64}

pub up_to_limit-within : (text : List ℕ) → length text ≤ 1099511627776 → up_to_limit text ≡ text
unfolding up_to_limit
up_to_limit-within text short = take_all 1099511627776 text short

pub up_to_limit-append : (text more : List ℕ)
    → up_to_limit (text ++ more) ≡ up_to_limit text ++ take (1099511627776 - length text) more
unfolding up_to_limit
up_to_limit-append text more = take-append 1099511627776 text more

-- what is judged of a piece
pub up_to_limit-piece : (text piece : List ℕ) (room within : ℕ) → room ≡ 1099511627776 - length text
    → within ≡ min room (length piece)
    → up_to_limit (text ++ piece) ≡ up_to_limit text ++ take within piece
up_to_limit-piece text piece room within is least =
    up_to_limit-append text piece ∙ ap (λ l. up_to_limit text ++ l) (ap (λ m. take m piece) (sym is)
    ∙ sym (ap (λ m. take m piece) least ∙ take_min room piece))

records_of-append : (groups more : List Group) → records_of (groups ++ more) ≡ records_of groups ++ records_of more
records_of-append groups more = flat_map-append (λ (group : Group). group.records) groups more

-- the groups of a piece were carried out
pub Keeps-more : (old new : Replaying) (text piece : List ℕ) (groups : List Group) → GoesOn text piece groups new.reader
    → new.space ≡ fold apply old.space (records_of groups) → new.groups ≡ min (old.groups + length groups) (2 ^ 64 - 1)
    → Keeps old text → Keeps new (text ++ piece)
Keeps-more old new text piece groups goes space count keeps = record {
  reader = goes.stands;
  good = goes.good;
  groups = keeps.groups ++ groups;
  groups_are = goes.adds keeps.groups keeps.groups_are;
  space_is = space ∙ ap (λ store. fold apply store (records_of groups)) keeps.space_is
      ∙ sym (fold-append apply finite.empty (records_of keeps.groups) (records_of groups))
      ∙ ap replay (sym (records_of-append keeps.groups groups));
  count_is = let counted = keeps.count_is in omega (arith, length-append keeps.groups groups);
}

-- nothing was read
pub KeepsUpTo-empty : (new : Replaying) → HasReadLog new.reader [] → (HasBadPlace [] → ⊥) → IsGroups [] []
    → new.space ≡ finite.empty → new.groups ≡ 0 → new.room ≡ 1099511627776 → KeepsUpTo new []
KeepsUpTo-empty new reader good groups space count room =
    let short : length {A = ℕ} [] ≤ 1099511627776 = omega arith in
    let whole : Keeps new [] = record {
      reader = reader;
      good = good;
      groups = [];
      groups_are = groups;
      space_is = space;
      count_is = omega arith;
    } in
    let none : up_to_limit [] ≡ [] = up_to_limit-within [] short in
    let P : List ℕ → Type 0 = λ t. Keeps new t in
    record { keeps = subst P (sym none) whole; room_is = omega arith; within = short }

-- what is kept does not depend on the room
Keeps-room : (old : Replaying) (room : ℕ) (text : List ℕ) → Keeps old text
    → Keeps (record { reader = old.reader; space = old.space; groups = old.groups; room = room }) text
Keeps-room old room text keeps = record {
  reader = keeps.reader;
  good = keeps.good;
  groups = keeps.groups;
  groups_are = keeps.groups_are;
  space_is = keeps.space_is;
  count_is = keeps.count_is;
}

-- a piece was taken that is within the limit
pub KeepsUpTo-more : (old mid : Replaying) (text piece judged : List ℕ) (within : ℕ)
    → within ≡ min old.room (length piece) → length piece ≤ within
    → judged ≡ take within piece → mid.room ≡ old.room → KeepsUpTo old text → Keeps mid (up_to_limit text ++ judged)
    → KeepsUpTo (record { reader = mid.reader; space = mid.space; groups = mid.groups; room = mid.room - within })
    (text ++ piece)
KeepsUpTo-more old mid text piece judged within least all is same kept keeps =
    let room = kept.room_is in
    let short = kept.within in
    let limited : up_to_limit text ++ judged ≡ up_to_limit (text ++ piece) = ap (λ l. up_to_limit text ++ l) is
    ∙ sym (up_to_limit-piece text piece old.room within room least) in
    let P : List ℕ → Type 0 = λ t. Keeps mid t in
    record {
      keeps = Keeps-room mid (mid.room - within) (up_to_limit (text ++ piece)) (subst P limited keeps);
      room_is = omega (arith, length-append text piece);
      within = omega (arith, length-append text piece);
    }

-- a piece passes the limit
pub passes_limit : (old mid : Replaying) (text piece judged : List ℕ) (within : ℕ)
    → within ≡ min old.room (length piece) → within < length piece
    → judged ≡ take within piece → KeepsUpTo old text → Keeps mid (up_to_limit text ++ judged)
    → (1099511627776 < length (text ++ piece)) × (HasBadPlace (up_to_limit (text ++ piece)) → ⊥)
passes_limit old mid text piece judged within least past is kept keeps =
    let room = kept.room_is in
    let limited : up_to_limit text ++ judged ≡ up_to_limit (text ++ piece) = ap (λ l. up_to_limit text ++ l) is
    ∙ sym (up_to_limit-piece text piece old.room within room least) in
    let P : List ℕ → Type 0 = λ t. HasBadPlace t → ⊥ in
    (omega (arith, length-append text piece), subst P limited keeps.good)

-- why a piece is not taken
pub StopsTake-from_feed : (status : Status) (text piece judged : List ℕ) (room within : ℕ)
    → room ≡ 1099511627776 - length text → within ≡ min room (length piece)
    → judged ≡ take within piece → StopsFeed (up_to_limit text ++ judged) status → StopsTake (text ++ piece) status
StopsTake-from_feed (BadLog place) text piece judged room within room_is least is stops =
    let limited : up_to_limit text ++ judged ≡ up_to_limit (text ++ piece) = ap (λ l. up_to_limit text ++ l) is
    ∙ sym (up_to_limit-piece text piece room within room_is least) in
    let P : List ℕ → Type 0 = λ t. (kind : LogKind) × IsBadLog t place kind in
    subst P limited stops
StopsTake-from_feed NoMemory text piece judged room within room_is least is stops = stops
StopsTake-from_feed Done text piece judged room within room_is least is stops = absurd stops
StopsTake-from_feed Usage text piece judged room within room_is least is stops = absurd stops
StopsTake-from_feed (BadInput line) text piece judged room within room_is least is stops = absurd stops
StopsTake-from_feed SourceFault text piece judged room within room_is least is stops = absurd stops
StopsTake-from_feed SinkFault text piece judged room within room_is least is stops = absurd stops
StopsTake-from_feed LogFault text piece judged room within room_is least is stops = absurd stops
StopsTake-from_feed WireFault text piece judged room within room_is least is stops = absurd stops
StopsTake-from_feed (TurnsSpent turns) text piece judged room within room_is least is stops = absurd stops
StopsTake-from_feed (InputTooLong bytes) text piece judged room within room_is least is stops = absurd stops

-- the input is at its end, and what was read is within the limit
pub ReadsLog-ended : (replaying : Replaying) (input between input' : Option (List ℕ)) (text buffer : List ℕ) (n : ℕ)
    → input ≡ items_then text between
    → between ≡ items_then (take n buffer) input' → n ≡ 0 → NoneLeft input' → KeepsUpTo replaying text
    → (whole : List ℕ) × ReadsLog input input' whole × Keeps replaying whole
ReadsLog-ended replaying input between input' text buffer n read last no_more ended kept =
    let same : up_to_limit text ≡ text = up_to_limit-within text kept.within in
    let none : take n buffer ≡ [] = ap (λ m. take m buffer) no_more in
    let keeps : Keeps replaying text = let P : List ℕ → Type 0 = λ t. Keeps replaying t in subst P same kept.keeps in (
      text,
      record {
        read = read ∙ ap (items_then text) (last ∙ ap (λ t. items_then t input') none ∙ items_then-nil input');
        ended = ended;
        within = kept.within;
        good = keeps.good;
      },
      keeps,
    )

-- the front of a buffer that was filled
pub filled_front : (n len : ℕ) (filled rest : List ℕ) → n ≤ length filled → n ≤ len
    → take n (take len (filled ++ rest)) ≡ take n filled
filled_front n len filled rest short fits = take-take n len (filled ++ rest) fits ∙ take-append-le n filled rest short

-- why reading a log stopped, by why a piece was not taken
pub StopsLogReading-from_take : (status : Status) (input input' : Option (List ℕ)) (text : List ℕ) (rose : Type 0)
    → input ≡ items_then text input' → StopsTake text status → StopsLogReading input input' rose status
StopsLogReading-from_take (BadLog place) input input' text rose read stops =
    record { text = text; read = read; kind = stops.0; bad = stops.1 }
StopsLogReading-from_take (InputTooLong bytes) input input' text rose read stops =
    (stops.0, record { text = text; read = read; long = stops.1; good = stops.2 })
StopsLogReading-from_take NoMemory input input' text rose read stops = stops
StopsLogReading-from_take Done input input' text rose read stops = absurd stops
StopsLogReading-from_take Usage input input' text rose read stops = absurd stops
StopsLogReading-from_take (BadInput line) input input' text rose read stops = absurd stops
StopsLogReading-from_take SourceFault input input' text rose read stops = absurd stops
StopsLogReading-from_take SinkFault input input' text rose read stops = absurd stops
StopsLogReading-from_take LogFault input input' text rose read stops = absurd stops
StopsLogReading-from_take WireFault input input' text rose read stops = absurd stops
StopsLogReading-from_take (TurnsSpent turns) input input' text rose read stops = absurd stops

-- The statuses of a reading that was told all of its text: what a text is as a log does not depend on how far it was
-- read.

-- an input that is told has the bytes that were read in front
told_front : (text read : List ℕ) (rest : Option (List ℕ)) → Some text ≡ items_then read rest → (more : List ℕ)
    × (text ≡ read ++ more)
told_front text read None e = absurd (cc)
told_front text read (Some more) e = (more, cc)

-- bad places stay, whatever follows
abbrev pub BadPlacesStay : Type 0
BadPlacesStay = (text more : List ℕ) (place : ℕ) (kind : LogKind) → IsBadLog text place kind
    → IsBadLog (text ++ more) place kind

-- there is one bad place at most
abbrev pub BadPlacesAreOne : Type 0
BadPlacesAreOne = (text : List ℕ) (p q : ℕ) (k l : LogKind) → IsBadLog text p k → IsBadLog text q l → (p ≡ q) × (k ≡ l)

-- a bad place up to the limit stays where more is read
bad_up_to : (text read : List ℕ) (rest : Option (List ℕ)) (place : ℕ) (kind : LogKind) → BadPlacesStay
    → Some text ≡ items_then read rest
    → IsBadLog (up_to_limit read) place kind → IsBadLog (up_to_limit text) place kind
bad_up_to text read rest place kind stay told bad =
    let front = told_front text read rest told in
    let limited : up_to_limit read ++ take (1099511627776 - length read) front.0 ≡ up_to_limit text =
    sym (ap up_to_limit front.1 ∙ up_to_limit-append read front.0) in
    let P : List ℕ → Type 0 = λ t. IsBadLog t place kind in
    subst P limited (stay (up_to_limit read) (take (1099511627776 - length read) front.0) place kind bad)

-- what was read past the limit is, up to it, the whole text up to it
same_up_to : (text read : List ℕ) (rest : Option (List ℕ)) → Some text ≡ items_then read rest
    → 1099511627776 < length read → up_to_limit read ≡ up_to_limit text
same_up_to text read rest told long =
    let front = told_front text read rest told in
    let none : 1099511627776 - length read ≡ 0 = omega arith in
    sym (ap up_to_limit front.1 ∙ up_to_limit-append read front.0 ∙ ap (λ n. up_to_limit read ++ take n front.0) none
    ∙ append-nil (up_to_limit read))

-- an input that is told and was read to its end is what was read
whole_log : (text read : List ℕ) (input input' : Option (List ℕ)) → input ≡ Some text → ReadsLog input input' read
    → read ≡ text
whole_log text read input input' told reads = whole_text text read input' (sym told ∙ reads.read) reads.ended

-- an input that was read to its end and is a log has no bad place up to the limit
pub no_bad_place : (text read : List ℕ) (input input' : Option (List ℕ)) (place : ℕ) (kind : LogKind)
    → input ≡ Some text → ReadsLog input input' read
    → IsBadLog (up_to_limit text) place kind → ⊥
no_bad_place text read input input' place kind told reads bad =
    let same : up_to_limit text ≡ read = ap up_to_limit (sym (whole_log text read input input' told reads))
    ∙ up_to_limit-within read reads.within in
    let P : List ℕ → Type 0 = λ t. HasBadPlace t in
    reads.good (subst P same (place, kind, bad))

-- an input that was read to its end is within the limit
pub not_long : (text read : List ℕ) (input input' : Option (List ℕ)) → input ≡ Some text → ReadsLog input input' read
    → 1099511627776 < length text → ⊥
not_long text read input input' told reads long =
    let same = ap length (whole_log text read input input' told reads) in let short = reads.within in omega arith

-- what a reading ends with where the first bad place up to the limit is here
pub reading_finds_bad : (status : Status) (text : List ℕ) (input input' : Option (List ℕ)) (rose : Type 0) (place : ℕ)
    (kind : LogKind) → BadPlacesStay → BadPlacesAreOne
    → StopsLogReading input input' rose status → input ≡ Some text → IsBadLog (up_to_limit text) place kind
    → (status ≡ BadLog place) ⊎ (status ≡ NoMemory) ⊎ rose
reading_finds_bad (BadLog at) text input input' rose place kind stay one stops told bad =
    let found = bad_up_to text stops.text input' at stops.kind stay (sym told ∙ stops.read) stops.bad in
    inl (ap (λ p. BadLog p) (one (up_to_limit text) at place stops.kind kind found bad).0)
reading_finds_bad (InputTooLong bytes) text input input' rose place kind stay one stops told bad =
    let same = same_up_to text stops.1.text input' (sym told ∙ stops.1.read) stops.1.long in
    let P : List ℕ → Type 0 = λ t. HasBadPlace t in
    absurd (stops.1.good (subst P (sym same) (place, kind, bad)))
reading_finds_bad NoMemory text input input' rose place kind stay one stops told bad = inr (inl refl)
reading_finds_bad SourceFault text input input' rose place kind stay one stops told bad = inr (inr stops)
reading_finds_bad Done text input input' rose place kind stay one stops told bad = absurd stops
reading_finds_bad Usage text input input' rose place kind stay one stops told bad = absurd stops
reading_finds_bad (BadInput line) text input input' rose place kind stay one stops told bad = absurd stops
reading_finds_bad SinkFault text input input' rose place kind stay one stops told bad = absurd stops
reading_finds_bad LogFault text input input' rose place kind stay one stops told bad = absurd stops
reading_finds_bad WireFault text input input' rose place kind stay one stops told bad = absurd stops
reading_finds_bad (TurnsSpent turns) text input input' rose place kind stay one stops told bad = absurd stops

-- what a reading ends with that stopped, where there is no bad place up to the limit
pub reading_keeps_limit : (status : Status) (text : List ℕ) (input input' : Option (List ℕ)) (rose : Type 0)
    → BadPlacesStay
    → StopsLogReading input input' rose status → input ≡ Some text → (HasBadPlace (up_to_limit text) → ⊥)
    → ((status ≡ InputTooLong 1099511627776) × PassesLogLimit input input') ⊎ (status ≡ NoMemory) ⊎ rose
reading_keeps_limit (BadLog at) text input input' rose stay stops told good =
    absurd (good (
      at,
      stops.kind,
      bad_up_to text stops.text input' at stops.kind stay (sym told
          ∙ stops.read) stops.bad,
    ))
reading_keeps_limit (InputTooLong bytes) text input input' rose stay stops told good =
    inl (ap (λ n. InputTooLong n) stops.0, stops.1)
reading_keeps_limit NoMemory text input input' rose stay stops told good = inr (inl refl)
reading_keeps_limit SourceFault text input input' rose stay stops told good = inr (inr stops)
reading_keeps_limit Done text input input' rose stay stops told good = absurd stops
reading_keeps_limit Usage text input input' rose stay stops told good = absurd stops
reading_keeps_limit (BadInput line) text input input' rose stay stops told good = absurd stops
reading_keeps_limit SinkFault text input input' rose stay stops told good = absurd stops
reading_keeps_limit LogFault text input input' rose stay stops told good = absurd stops
reading_keeps_limit WireFault text input input' rose stay stops told good = absurd stops
reading_keeps_limit (TurnsSpent turns) text input input' rose stay stops told good = absurd stops

-- a reading of a log within the limit stops for want of memory, or by a fault
pub reading_stops : (status : Status) (text : List ℕ) (input input' : Option (List ℕ)) (rose : Type 0) → BadPlacesStay
    → StopsLogReading input input' rose status → input ≡ Some text → length text ≤ 1099511627776
    → (HasBadPlace text → ⊥)
    → (status ≡ NoMemory) ⊎ rose
reading_stops status text input input' rose stay stops told short good =
    let P : List ℕ → Type 0 = λ t. HasBadPlace t → ⊥ in
    elim (reading_keeps_limit status text input input' rose stay stops told
    (subst P (sym (up_to_limit-within text short)) good)) [
      | inl long ↦ absurd (let past = long.1.long in let fits =
          no_longer text long.1.text input' (sym told ∙ long.1.read) in omega arith)
      | inr other ↦ other
    ]

-- why a reading stopped is a status of a replay
pub IsReplayStatus-from_reading : (status : Status) (input input' : Option (List ℕ)) (rose : Type 0)
    → StopsLogReading input input' rose status → IsReplayStatus status
IsReplayStatus-from_reading (BadLog at) input input' rose stops = tt
IsReplayStatus-from_reading (InputTooLong bytes) input input' rose stops = tt
IsReplayStatus-from_reading NoMemory input input' rose stops = tt
IsReplayStatus-from_reading SourceFault input input' rose stops = tt
IsReplayStatus-from_reading Done input input' rose stops = absurd stops
IsReplayStatus-from_reading Usage input input' rose stops = absurd stops
IsReplayStatus-from_reading (BadInput line) input input' rose stops = absurd stops
IsReplayStatus-from_reading SinkFault input input' rose stops = absurd stops
IsReplayStatus-from_reading LogFault input input' rose stops = absurd stops
IsReplayStatus-from_reading WireFault input input' rose stops = absurd stops
IsReplayStatus-from_reading (TurnsSpent turns) input input' rose stops = absurd stops

-- why writing to the output stopped
pub writing_stops : (status : Status) (rose : Type 0) → Stops Never ⊥ rose ⊥ status → ((status ≡ SinkFault) × rose)
    ⊎ (status ≡ NoMemory)
writing_stops SinkFault rose stops = inl (refl, stops)
writing_stops NoMemory rose stops = inr refl
writing_stops (BadLog at) rose stops = absurd stops
writing_stops (InputTooLong bytes) rose stops = absurd stops
writing_stops SourceFault rose stops = absurd stops
writing_stops Done rose stops = absurd stops
writing_stops Usage rose stops = absurd stops
writing_stops (BadInput line) rose stops = absurd stops
writing_stops LogFault rose stops = absurd stops
writing_stops WireFault rose stops = absurd stops
writing_stops (TurnsSpent turns) rose stops = absurd stops

pub IsReplayStatus-from_writing : (status : Status) (rose : Type 0) → Stops Never ⊥ rose ⊥ status
    → IsReplayStatus status
IsReplayStatus-from_writing status rose stops = elim (writing_stops status rose stops)
    [ inl failed ↦ subst IsReplayStatus (sym failed.0) tt | inr spent ↦ subst IsReplayStatus (sym spent) tt ]

pub no_refusal-from_writing : (status : Status) (rose : Type 0) → Stops Never ⊥ rose ⊥ status → IsRefusal status → ⊥
no_refusal-from_writing status rose stops refusal = elim (writing_stops status rose stops)
    [ inl failed ↦ subst IsRefusal failed.0 refusal | inr spent ↦ subst IsRefusal spent refusal ]

-- what is written is the text of the groups
ending_is : (replaying : Replaying) (text : List ℕ) (keeps : Keeps replaying text)
    → log_ending replaying.groups replaying.space ≡ replay_text keeps.groups
ending_is replaying text keeps =
    ap (λ n. log_ending n replaying.space) keeps.count_is
    ∙ ap (λ store. log_ending (within_u64 (length keeps.groups)) store) keeps.space_is

pub Replays-from_keeps : (replaying : Replaying) (text : List ℕ) (input input' out out' : Option (List ℕ))
    → ReadsLog input input' text → Keeps replaying text
    → out' ≡ known_then out (log_ending replaying.groups replaying.space) → Replays input input' out out'
Replays-from_keeps replaying text input input' out out' reads keeps written = record {
  text = text;
  read = reads;
  groups = keeps.groups;
  groups_are = keeps.groups_are;
  written = written ∙ ap (known_then out) (ending_is replaying text keeps);
}

pub CutsReplay-from_keeps : (replaying : Replaying) (text : List ℕ) (input input' out out' : Option (List ℕ))
    → ReadsLog input input' text → Keeps replaying text
    → TookPrefix out out' (log_ending replaying.groups replaying.space) → CutsReplay input input' out out'
CutsReplay-from_keeps replaying text input input' out out' reads keeps written =
    let P : List ℕ → Type 0 = λ t. TookPrefix out out' t in
    record {
      text = text;
      read = reads;
      groups = keeps.groups;
      groups_are = keeps.groups_are;
      written = subst P (ending_is replaying text keeps) written;
    }

pub no_done-from_writing : (status : Status) (rose : Type 0) → Stops Never ⊥ rose ⊥ status → status ≡ Done → ⊥
no_done-from_writing status rose stops done = let P : Status → Type 0 = λ s. Stops Never ⊥ rose ⊥ s in
    subst P done stops

-- a refusal of a replay is one of its reading
pub stops_at : (status at : Status) (input input' : Option (List ℕ)) (rose kept : Type 0)
    → (IsRefusal status → StopsLogReading input input' rose status × kept)
    → status ≡ at → IsRefusal at → StopsLogReading input input' rose at
stops_at status at input input' rose kept refused is refusal =
    let P : Status → Type 0 = λ s. StopsLogReading input input' rose s in
    subst P is (refused (subst IsRefusal (sym is) refusal)).0

-- a status of a replay, whichever it is
pub IsReplayStatus-at : (status at : Status) → status ≡ at → IsReplayStatus status → IsReplayStatus at
IsReplayStatus-at status at is h = subst IsReplayStatus is h

-- no words are both forms
pub not_both : (words : List (List ℕ)) (name : List ℕ) → IsPlay words name → IsReplay words → ⊥
not_both words name play replay =
    let both : codes "play" ∷ name ∷ [] ≡ codes "replay" ∷ [] = sym play.words_are ∙ replay.words_are in
    let rest : name ∷ [] ≡ [] = cc in
    cc
