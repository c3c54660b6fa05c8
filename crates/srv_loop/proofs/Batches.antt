-- Turns that are written together.
use Rattle.std.proofs.Common.{◌≡◌, ◌⊎◌, inl, inr, ℕ, List, [], ◌∷◌, ◌++◌, Option, length, refl, sym, ap, ◌∙◌}
use Rattle.std.proofs.Common.{append_assoc, append-nil}
use Rattle.std.proofs.lemmas.Grind.{flat_map-append}
use Rattle.std.proofs.lemmas.List.{append_cancel_left}
use Rattle.rs_base.proofs.Lists.{seam}
use Rattle.resp_read.specs.Frames.{within_u64}
use Rattle.rs_outside.specs.Known.{known_then}
use Rattle.rs_outside.specs.declared.turn.Turn.{Turn}
use Rattle.cl_core.specs.Machine.{step, beginning}
use Rattle.srv_loop.specs.declared.gathering.Gathered.{Gathered}
use Rattle.srv_loop.specs.Runs.{logged_in, state, outs, log_bytes}
use Rattle.srv_loop.specs.Transcript.{row_line, row_lines, ending}
use Rattle.srv_loop.specs.Taking.{TookPrefix, CutsTurn}
use Rattle.srv_loop.specs.Gathering.{Flushes, Keeps}
use Rattle.srv_loop.specs.Play.{CutsPlay, next_log, lines_due}
use Rattle.srv_loop.proofs.RunLaws.{run-push, logged-push}
use Rattle.srv_loop.proofs.Writes.{known_then-append, known_then-nil, TookPrefix-none}

-- what the turn behind these turns logs, and the lines that it gives
abbrev pub log_piece : List Turn → Turn → List ℕ
log_piece whole turn = logged_in (step (state whole) turn)

abbrev pub lines_piece : List Turn → Turn → List ℕ
lines_piece whole turn = row_lines (step (state whole) turn).rows

pub log-push : (whole : List Turn) (turn : Turn)
    → log_bytes (whole ++ turn ∷ []) ≡ log_bytes whole ++ log_piece whole turn
log-push whole turn = logged-push beginning whole turn

pub lines-push : (whole : List Turn) (turn : Turn)
    → row_lines (outs (whole ++ turn ∷ [])) ≡ row_lines (outs whole) ++ lines_piece whole turn
lines-push whole turn = ap (λ r. row_lines r.rows) (run-push beginning whole turn)
    ∙ flat_map-append row_line (outs whole) (step (state whole) turn).rows

-- the pieces of the turns that come behind these
abbrev pub behind : (List Turn → Turn → List ℕ) → List Turn → List Turn → List ℕ
behind piece whole [] = []
behind piece whole (turn ∷ others) = piece whole turn ++ behind piece (whole ++ turn ∷ []) others

-- a text that grows by a piece for each turn
grown : (text : List Turn → List ℕ) (piece : List Turn → Turn → List ℕ)
    → ((whole : List Turn) (turn : Turn) → text (whole ++ turn ∷ []) ≡ text whole ++ piece whole turn)
    → (whole others : List Turn) → text (whole ++ others) ≡ text whole ++ behind piece whole others
grown text piece push whole [] = ap text (append-nil whole) ∙ sym (append-nil (text whole))
grown text piece push whole (turn ∷ others) =
    ap text (sym (append_assoc whole (turn ∷ []) others)) ∙ grown text piece push (whole ++ turn ∷ []) others
    ∙ ap (λ t. t ++ behind piece (whole ++ turn ∷ []) others) (push whole turn)
    ∙ append_assoc (text whole) (piece whole turn) (behind piece (whole ++ turn ∷ []) others)

log_grown : (whole others : List Turn) → log_bytes (whole ++ others) ≡ log_bytes whole ++ behind log_piece whole others
log_grown whole others = grown log_bytes log_piece log-push whole others

lines_grown : (whole others : List Turn)
    → row_lines (outs (whole ++ others)) ≡ row_lines (outs whole) ++ behind lines_piece whole others
lines_grown whole others = grown (λ t. row_lines (outs t)) lines_piece lines-push whole others

-- the bytes are those of some of the turns behind these, and a prefix of the next turn's
pub record CutsBehind (whole others : List Turn) (bytes : List ℕ) : Type 0 where
  first : List Turn
  next : List Turn
  others_are : others ≡ first ++ next
  part : List ℕ
  rest : List ℕ
  bytes_are : bytes ≡ behind log_piece whole first ++ part
  next_is : next_log (whole ++ first) next ≡ part ++ rest

cuts_first : (whole : List Turn) (turn : Turn) (others : List Turn) (bytes rest : List ℕ)
    → ((b r : List ℕ) → behind log_piece (whole ++ turn ∷ []) others ≡ b ++ r
    → CutsBehind (whole ++ turn ∷ []) others b)
    → ((m : List ℕ) × (log_piece whole turn ≡ bytes ++ m) × (rest ≡ m ++ behind log_piece (whole ++ turn ∷ []) others))
    ⊎ ((m : List ℕ) × (bytes ≡ log_piece whole turn ++ m) × (behind log_piece (whole ++ turn ∷ []) others ≡ m ++ rest))
    → CutsBehind whole (turn ∷ others) bytes
cuts_first whole turn others bytes rest later (inl h) = record {
  first = [];
  next = turn ∷ others;
  others_are = refl;
  part = bytes;
  rest = h.0;
  bytes_are = refl;
  next_is = ap (λ w. log_piece w turn) (append-nil whole) ∙ h.1;
}
cuts_first whole turn others bytes rest later (inr h) =
    let cut = later h.0 rest h.2 in
    record {
      first = turn ∷ cut.first;
      next = cut.next;
      others_are = ap (λ t. turn ∷ t) cut.others_are;
      part = cut.part;
      rest = cut.rest;
      bytes_are = h.1 ∙ ap (λ t. log_piece whole turn ++ t) cut.bytes_are
          ∙ sym (append_assoc (log_piece whole turn) (behind log_piece (whole ++ turn ∷ []) cut.first) cut.part);
      next_is = ap (λ w. next_log w cut.next) (sym (append_assoc whole (turn ∷ []) cut.first)) ∙ cut.next_is;
    }

-- a prefix of the log bytes of several turns is the whole bytes of some first ones, and a prefix of the next one's
cuts_bytes : (whole others : List Turn) (bytes rest : List ℕ) → behind log_piece whole others ≡ bytes ++ rest
    → CutsBehind whole others bytes
cuts_bytes whole [] [] rest e =
    record { first = []; next = []; others_are = refl; part = []; rest = []; bytes_are = refl; next_is = refl }
cuts_bytes whole [] (b ∷ bytes) rest e = absurd (cc)
cuts_bytes whole (turn ∷ others) bytes rest e =
    cuts_first whole turn others bytes rest (λ b r h. cuts_bytes (whole ++ turn ∷ []) others b r h)
    (seam (log_piece whole turn) (behind log_piece (whole ++ turn ∷ []) others) bytes rest e)

-- the first of these turns are written, and what is gathered is what the others logged and the lines that they gave
pub record Holds (whole : List Turn) (gathered : Gathered) (log log' out out' : Option (List ℕ)) : Type 0 where
  pub flushed : List Turn
  pub batch : List Turn
  pub whole_is : whole ≡ flushed ++ batch
  pub bytes_are : log_bytes whole ≡ log_bytes flushed ++ gathered.log
  pub lines_are : row_lines (outs whole) ≡ row_lines (outs flushed) ++ gathered.lines
  pub log_is : log' ≡ known_then log (log_bytes flushed)
  pub out_is : out' ≡ known_then out (row_lines (outs flushed))

pub Holds-start : (gathered : Gathered) (log out : Option (List ℕ)) → gathered.log ≡ [] → gathered.lines ≡ []
    → Holds [] gathered log log out out
Holds-start gathered log out no_log no_lines = record {
  flushed = [];
  batch = [];
  whole_is = refl;
  bytes_are = sym no_log;
  lines_are = sym no_lines;
  log_is = sym (known_then-nil log);
  out_is = sym (known_then-nil out);
}

-- one turn more was gathered
pub Holds-more : (whole : List Turn) (gathered gathered' : Gathered) (log log' out out' : Option (List ℕ))
    (turn : Turn) → Holds whole gathered log log' out out'
    → gathered'.log ≡ gathered.log ++ log_piece whole turn
    → gathered'.lines ≡ gathered.lines ++ lines_piece whole turn
    → Holds (whole ++ turn ∷ []) gathered' log log' out out'
Holds-more whole gathered gathered' log log' out out' turn h log_more lines_more = record {
  flushed = h.flushed;
  batch = h.batch ++ turn ∷ [];
  whole_is = ap (λ w. w ++ turn ∷ []) h.whole_is ∙ append_assoc h.flushed h.batch (turn ∷ []);
  bytes_are = log-push whole turn ∙ ap (λ b. b ++ log_piece whole turn) h.bytes_are
      ∙ append_assoc (log_bytes h.flushed) gathered.log (log_piece whole turn)
      ∙ ap (λ b. log_bytes h.flushed ++ b) (sym log_more);
  lines_are = lines-push whole turn ∙ ap (λ b. b ++ lines_piece whole turn) h.lines_are
      ∙ append_assoc (row_lines (outs h.flushed)) gathered.lines (lines_piece whole turn)
      ∙ ap (λ b. row_lines (outs h.flushed) ++ b) (sym lines_more);
  log_is = h.log_is;
  out_is = h.out_is;
}

-- all is written
pub record IsWritten (whole : List Turn) (log log' out out' : Option (List ℕ)) : Type 0 where
  pub log_is : log' ≡ known_then log (log_bytes whole)
  pub out_is : out' ≡ known_then out (row_lines (outs whole))

log_whole : (whole : List Turn) (gathered : Gathered) (log log' log'' out out' : Option (List ℕ))
    → Holds whole gathered log log' out out' → log'' ≡ known_then log' gathered.log
    → log'' ≡ known_then log (log_bytes whole)
log_whole whole gathered log log' log'' out out' h wrote =
    wrote ∙ ap (λ k. known_then k gathered.log) h.log_is ∙ known_then-append log (log_bytes h.flushed) gathered.log
    ∙ ap (known_then log) (sym h.bytes_are)

pub IsWritten-flushed : (whole : List Turn) (gathered gathered' : Gathered)
    (log log' log'' out out' out'' : Option (List ℕ)) → Holds whole gathered log log' out out'
    → Flushes gathered gathered' log' log'' out' out''
    → IsWritten whole log log'' out out''
IsWritten-flushed whole gathered gathered' log log' log'' out out' out'' h flush = record {
  log_is = log_whole whole gathered log log' log'' out out' h flush.log_is;
  out_is = flush.out_is ∙ ap (λ k. known_then k gathered.lines) h.out_is
      ∙ known_then-append out (row_lines (outs h.flushed)) gathered.lines ∙ ap (known_then out) (sym h.lines_are);
}

-- behind a turn all was written, or nothing was
pub Holds-behind : (whole : List Turn) (gathered gathered' : Gathered)
    (log log' log'' out out' out'' : Option (List ℕ)) → Holds whole gathered log log' out out'
    → Flushes gathered gathered' log' log'' out' out'' ⊎ Keeps gathered gathered' log' log'' out' out''
    → Holds whole gathered' log log'' out out''
Holds-behind whole gathered gathered' log log' log'' out out' out'' h (inl flush) =
    let all = IsWritten-flushed whole gathered gathered' log log' log'' out out' out'' h flush in
    record {
      flushed = whole;
      batch = [];
      whole_is = sym (append-nil whole);
      bytes_are = sym (append-nil (log_bytes whole)) ∙ ap (λ b. log_bytes whole ++ b) (sym flush.no_log);
      lines_are = sym (append-nil (row_lines (outs whole)))
          ∙ ap (λ b. row_lines (outs whole) ++ b) (sym flush.no_lines);
      log_is = all.log_is;
      out_is = all.out_is;
    }
Holds-behind whole gathered gathered' log log' log'' out out' out'' h (inr kept) = record {
  flushed = h.flushed;
  batch = h.batch;
  whole_is = h.whole_is;
  bytes_are = h.bytes_are ∙ ap (λ b. log_bytes h.flushed ++ b) (sym kept.same_log);
  lines_are = h.lines_are ∙ ap (λ b. row_lines (outs h.flushed) ++ b) (sym kept.same_lines);
  log_is = kept.log_is ∙ h.log_is;
  out_is = kept.out_is ∙ h.out_is;
}

-- what may follow the lines of the first turns
lines_after : (whole others : List Turn) → (more : List ℕ) × (lines_due whole others ≡ row_lines (outs whole) ++ more)
lines_after whole [] = (ending (length whole) (within_u64 (length (log_bytes whole))) (state whole).store, refl)
lines_after whole (turn ∷ others) = ([], sym (append-nil (row_lines (outs whole))))

-- the lines of some first turns are a prefix of what may be written behind them and more
lines_of_first : (first more others : List Turn) (out out' : Option (List ℕ))
    → out' ≡ known_then out (row_lines (outs first)) → TookPrefix out out' (lines_due (first ++ more) others)
lines_of_first first more others out out' is =
    let after = lines_after (first ++ more) others in
    record {
      prefix = row_lines (outs first);
      rest = behind lines_piece first more ++ after.0;
      items_are = after.1 ∙ ap (λ t. t ++ after.0) (lines_grown first more)
          ∙ append_assoc (row_lines (outs first)) (behind lines_piece first more) after.0;
      took = is;
    }

-- a play that stops while turns are gathered
pub CutsPlay-gathering : (all whole others : List Turn) (gathered : Gathered) (log log' out out' : Option (List ℕ))
    → all ≡ whole ++ others → Holds whole gathered log log' out out' → CutsPlay all log log' out out'
CutsPlay-gathering all whole others gathered log log' out out' all_are h =
    let left = h.batch ++ others in
    let after = lines_after h.flushed left in
    record {
      whole = h.flushed;
      others = left;
      turns_are = all_are ∙ ap (λ w. w ++ others) h.whole_is ∙ append_assoc h.flushed h.batch others;
      logged = TookPrefix-none (known_then log (log_bytes h.flushed)) log' (next_log h.flushed left) h.log_is;
      written = record { prefix = row_lines (outs h.flushed); rest = after.0; items_are = after.1; took = h.out_is };
    }

-- what is gathered is the front of what is behind the turns that are written
gathered_first : (whole others : List Turn) (gathered : Gathered) (log log' out out' : Option (List ℕ))
    → (h : Holds whole gathered log log' out out')
    → behind log_piece h.flushed (h.batch ++ others) ≡ gathered.log ++ behind log_piece whole others
gathered_first whole others gathered log log' out out' h =
    append_cancel_left (log_bytes h.flushed) (behind log_piece h.flushed (h.batch ++ others))
    (gathered.log ++ behind log_piece whole others)
    (sym (log_grown h.flushed (h.batch ++ others)) ∙ ap log_bytes (sym (append_assoc h.flushed h.batch others))
    ∙ ap (λ w. log_bytes (w ++ others)) (sym h.whole_is)
    ∙ log_grown whole others ∙ ap (λ b. b ++ behind log_piece whole others) h.bytes_are
    ∙ append_assoc (log_bytes h.flushed) gathered.log (behind log_piece whole others))

-- a play that stops while the log bytes are written
cut_in_log : (all whole others : List Turn) (gathered : Gathered) (log log' log'' out out' out'' : Option (List ℕ))
    → all ≡ whole ++ others → Holds whole gathered log log' out out'
    → TookPrefix log' log'' gathered.log → out'' ≡ out' → CutsPlay all log log'' out out''
cut_in_log all whole others gathered log log' log'' out out' out'' all_are h took same =
    let left = behind log_piece whole others in
    let cut = cuts_bytes h.flushed (h.batch ++ others) took.prefix (took.rest ++ left)
    (gathered_first whole others gathered log log' out out' h ∙ ap (λ b. b ++ left) took.items_are
    ∙ append_assoc took.prefix took.rest left) in
    record {
      whole = h.flushed ++ cut.first;
      others = cut.next;
      turns_are = all_are ∙ ap (λ w. w ++ others) h.whole_is ∙ append_assoc h.flushed h.batch others
          ∙ ap (λ t. h.flushed ++ t) cut.others_are ∙ sym (append_assoc h.flushed cut.first cut.next);
      logged = record {
        prefix = cut.part;
        rest = cut.rest;
        items_are = cut.next_is;
        took = took.took ∙ ap (λ k. known_then k took.prefix) h.log_is
            ∙ known_then-append log (log_bytes h.flushed) took.prefix
            ∙ ap (known_then log) (ap (λ b. log_bytes h.flushed ++ b) cut.bytes_are
            ∙ sym (append_assoc (log_bytes h.flushed) (behind log_piece h.flushed cut.first) cut.part)
            ∙ ap (λ b. b ++ cut.part) (sym (log_grown h.flushed cut.first)))
            ∙ sym (known_then-append log (log_bytes (h.flushed ++ cut.first)) cut.part);
      };
      written = lines_of_first h.flushed cut.first cut.next out out'' (same ∙ h.out_is);
    }

regrouped : (a b c d : List ℕ) → (a ++ (b ++ c)) ++ d ≡ (a ++ b) ++ (c ++ d)
regrouped a b c d = simp append_assoc

-- a play that stops while the lines are written
cut_in_lines : (all whole others : List Turn) (gathered : Gathered) (log log' log'' out out' out'' : Option (List ℕ))
    → all ≡ whole ++ others → Holds whole gathered log log' out out'
    → log'' ≡ known_then log' gathered.log → TookPrefix out' out'' gathered.lines → CutsPlay all log log'' out out''
cut_in_lines all whole others gathered log log' log'' out out' out'' all_are h wrote took =
    let after = lines_after whole others in
    record {
      whole = whole;
      others = others;
      turns_are = all_are;
      logged = TookPrefix-none (known_then log (log_bytes whole)) log'' (next_log whole others)
          (log_whole whole gathered log log' log'' out out' h wrote);
      written = record {
        prefix = row_lines (outs h.flushed) ++ took.prefix;
        rest = took.rest ++ after.0;
        items_are = after.1 ∙ ap (λ t. t ++ after.0) (h.lines_are
            ∙ ap (λ t. row_lines (outs h.flushed) ++ t) took.items_are)
            ∙ regrouped (row_lines (outs h.flushed)) took.prefix took.rest after.0;
        took = took.took ∙ ap (λ k. known_then k took.prefix) h.out_is
            ∙ known_then-append out (row_lines (outs h.flushed)) took.prefix;
      };
    }

-- a play that stops while what is gathered is written
pub CutsPlay-flushing : (all whole others : List Turn) (gathered : Gathered)
    (log log' log'' out out' out'' : Option (List ℕ)) → all ≡ whole ++ others → Holds whole gathered log log' out out'
    → CutsTurn gathered.log gathered.lines log' log'' out' out'' → CutsPlay all log log'' out out''
CutsPlay-flushing all whole others gathered log log' log'' out out' out'' all_are h cut = by_order cut.order
  where
    by_order : (out'' ≡ out') ⊎ (log'' ≡ known_then log' gathered.log) → CutsPlay all log log'' out out''
    by_order (inl same) = cut_in_log all whole others gathered log log' log'' out out' out'' all_are h cut.logged same
    by_order (inr wrote) = cut_in_lines all whole others gathered log log' log'' out out' out'' all_are h wrote cut.sent
