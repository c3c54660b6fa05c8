-- A play that has come to some of its turns.
use Rattle.std.proofs.Common.{◌≡◌, ◌⊎◌, ℕ, ◌+◌, ◌-◌, ◌^◌, min, List, [], ◌∷◌, ◌++◌, Option, length, refl, sym, ap}
use Rattle.std.proofs.Common.{subst, ◌∙◌, arith, append_assoc, append-nil, length-append}
use Rattle.resp_read.specs.Frames.{within_u64}
use Rattle.rs_outside.specs.Known.{known_then}
use Rattle.rs_outside.specs.declared.turn.Turn.{Turn}
use Rattle.cl_core.specs.Machine.{State, step, beginning}
use Rattle.srv_loop.specs.declared.gathering.Gathered.{Gathered}
use Rattle.srv_loop.specs.Runs.{logged_in, state, outs, log_bytes}
use Rattle.srv_loop.specs.Transcript.{row_lines, ending, transcript}
use Rattle.srv_loop.specs.Taking.{TookPrefix, CutsTurn}
use Rattle.srv_loop.specs.Gathering.{Flushes, Keeps}
use Rattle.srv_loop.specs.Play.{CutsPlay}
use Rattle.srv_loop.proofs.RunLaws.{run-push}
use Rattle.srv_loop.proofs.Writes.{known_then-append, TookPrefix-none}
use Rattle.srv_loop.proofs.Batches.{Holds, Holds-start, Holds-more, Holds-behind, IsWritten, IsWritten-flushed}
use Rattle.srv_loop.proofs.Batches.{CutsPlay-gathering, CutsPlay-flushing, log-push}

-- the turns before these others were taken
pub record UpTo (all others : List Turn) (server : State) (logged : ℕ) (gathered : Gathered)
    (log log' out out' : Option (List ℕ)) : Type 0 where
  pub whole : List Turn
  pub all_are : all ≡ whole ++ others
  pub server_is : server ≡ state whole
  pub logged_are : logged ≡ within_u64 (length (log_bytes whole))
  pub holds : Holds whole gathered log log' out out'

pub UpTo-start : (all others : List Turn) (server : State) (gathered : Gathered) (log out : Option (List ℕ))
    → all ≡ others → server ≡ beginning → gathered.log ≡ [] → gathered.lines ≡ []
    → UpTo all others server 0 gathered log log out out
UpTo-start all others server gathered log out all_are began no_log no_lines = record {
  whole = [];
  all_are = all_are;
  server_is = began;
  logged_are = refl;
  holds = Holds-start gathered log out no_log no_lines;
}

logged_more : (a b n logged logged' : ℕ) → logged ≡ within_u64 a → n ≡ b → logged' ≡ min (logged + n) (2 ^ 64 - 1)
    → logged' ≡ within_u64 (a + b)
logged_more a b n logged logged' is n_is more = omega arith

-- one turn more was taken, and what was gathered behind it was written or kept
pub UpTo-more : (all others : List Turn) (server : State) (logged : ℕ) (gathered : Gathered)
    (log log' out out' : Option (List ℕ)) (turn : Turn)
    → UpTo all (turn ∷ others) server logged gathered log log' out out'
    → (server' : State) (n logged' : ℕ) (gathered' : Gathered)
    → server' ≡ (step server turn).state → n ≡ length (logged_in (step server turn))
    → logged' ≡ min (logged + n) (2 ^ 64 - 1)
    → gathered'.log ≡ gathered.log ++ logged_in (step server turn)
    → gathered'.lines ≡ gathered.lines ++ row_lines (step server turn).rows
    → UpTo all others server' logged' gathered' log log' out out'
UpTo-more all others server logged gathered log log' out out' turn h server' n logged' gathered' server_is n_is
    logged_is log_more lines_more =
    let turn_is = ap (λ m. step m turn) h.server_is in
    record {
      whole = h.whole ++ turn ∷ [];
      all_are = h.all_are ∙ sym (append_assoc h.whole (turn ∷ []) others);
      server_is = server_is ∙ ap (λ r. r.state) turn_is ∙ sym (ap (λ r. r.state) (run-push beginning h.whole turn));
      logged_are = logged_more (length (log_bytes h.whole))
          (length (logged_in (step (state h.whole) turn))) n logged logged' h.logged_are (n_is
          ∙ ap (λ r. length (logged_in r)) turn_is) logged_is
          ∙ ap within_u64 (sym (ap length (log-push h.whole turn)
          ∙ length-append (log_bytes h.whole) (logged_in (step (state h.whole) turn))));
      holds = Holds-more h.whole gathered gathered' log log' out out' turn h.holds (log_more
          ∙ ap (λ r. gathered.log ++ logged_in r) turn_is) (lines_more
          ∙ ap (λ r. gathered.lines ++ row_lines r.rows) turn_is);
    }

-- what was gathered was written, or kept
pub UpTo-behind : (all others : List Turn) (server : State) (logged : ℕ) (gathered gathered' : Gathered)
    (log log' log'' out out' out'' : Option (List ℕ))
    → UpTo all others server logged gathered log log' out out' → Flushes gathered gathered' log' log'' out' out''
    ⊎ Keeps gathered gathered' log' log'' out' out''
    → UpTo all others server logged gathered' log log'' out out''
UpTo-behind all others server logged gathered gathered' log log' log'' out out' out'' h written = record {
  whole = h.whole;
  all_are = h.all_are;
  server_is = h.server_is;
  logged_are = h.logged_are;
  holds = Holds-behind h.whole gathered gathered' log log' log'' out out' out'' h.holds written;
}

-- a play that stops between two writes
pub CutsPlay-between : (all others : List Turn) (server : State) (logged : ℕ) (gathered : Gathered)
    (log log' out out' : Option (List ℕ)) → UpTo all others server logged gathered log log' out out'
    → CutsPlay all log log' out out'
CutsPlay-between all others server logged gathered log log' out out' h =
    CutsPlay-gathering all h.whole others gathered log log' out out' h.all_are h.holds

-- a play that stops in a write
pub CutsPlay-within : (all others : List Turn) (server : State) (logged : ℕ) (gathered : Gathered)
    (log log' log'' out out' out'' : Option (List ℕ)) → UpTo all others server logged gathered log log' out out'
    → CutsTurn gathered.log gathered.lines log' log'' out' out'' → CutsPlay all log log'' out out''
CutsPlay-within all others server logged gathered log log' log'' out out' out'' h cut =
    CutsPlay-flushing all h.whole others gathered log log' log'' out out' out'' h.all_are h.holds cut

-- all turns were taken, and they are written
pub record IsOver (all : List Turn) (server : State) (logged : ℕ) (log log' out out' : Option (List ℕ)) : Type 0 where
  server_is : server ≡ state all
  logged_are : logged ≡ within_u64 (length (log_bytes all))
  written : IsWritten all log log' out out'

pub IsOver-flushed : (all others : List Turn) (server : State) (logged : ℕ) (gathered gathered' : Gathered)
    (log log' log'' out out' out'' : Option (List ℕ))
    → UpTo all others server logged gathered log log' out out' → others ≡ []
    → Flushes gathered gathered' log' log'' out' out'' → IsOver all server logged log log'' out out''
IsOver-flushed all others server logged gathered gathered' log log' log'' out out' out'' h none flush =
    let whole = sym (h.all_are ∙ ap (λ t. h.whole ++ t) none ∙ append-nil h.whole) in
    record {
      server_is = h.server_is ∙ ap state whole;
      logged_are = h.logged_are ∙ ap (λ t. within_u64 (length (log_bytes t))) whole;
      written = subst (λ t. IsWritten t log log'' out out'') whole
          (IsWritten-flushed h.whole gathered gathered' log log' log'' out out' out'' h.holds flush);
    }

ending_is : (all : List Turn) (server : State) (turns logged : ℕ) → server ≡ state all → turns ≡ length all
    → logged ≡ within_u64 (length (log_bytes all))
    → row_lines (outs all) ++ ending turns logged server.store ≡ transcript all
ending_is all server turns logged server_is turns_are logged_are =
    ap (λ m. row_lines (outs all) ++ ending turns logged m.store) server_is
    ∙ ap (λ t. row_lines (outs all) ++ ending t logged (state all).store) turns_are
    ∙ ap (λ b. row_lines (outs all) ++ ending (length all) b (state all).store) logged_are

pub Played-all : (all : List Turn) (server : State) (turns logged : ℕ) (log log' out out' out'' : Option (List ℕ))
    → IsOver all server logged log log' out out' → turns ≡ length all
    → out'' ≡ known_then out' (ending turns logged server.store) → (log' ≡ known_then log (log_bytes all))
    × (out'' ≡ known_then out (transcript all))
Played-all all server turns logged log log' out out' out'' h turns_are wrote = (
  h.written.log_is,
  wrote ∙ ap (λ k. known_then k (ending turns logged server.store)) h.written.out_is
      ∙ known_then-append out (row_lines (outs all)) (ending turns logged server.store)
      ∙ ap (known_then out) (ending_is all server turns logged h.server_is turns_are h.logged_are),
)

-- a play that stops behind its last turn
pub CutsPlay-ending : (all : List Turn) (server : State) (turns logged : ℕ)
    (log log' out out' out'' : Option (List ℕ)) → IsOver all server logged log log' out out' → turns ≡ length all
    → TookPrefix out' out'' (ending turns logged server.store) → CutsPlay all log log' out out''
CutsPlay-ending all server turns logged log log' out out' out'' h turns_are took = record {
  whole = all;
  others = [];
  turns_are = sym (append-nil all);
  logged = TookPrefix-none (known_then log (log_bytes all)) log' [] h.written.log_is;
  written = record {
    prefix = row_lines (outs all) ++ took.prefix;
    rest = took.rest;
    items_are = sym (ending_is all server turns logged h.server_is turns_are h.logged_are)
        ∙ ap (λ t. row_lines (outs all) ++ t) took.items_are
        ∙ sym (append_assoc (row_lines (outs all)) took.prefix took.rest);
    took = took.took ∙ ap (λ k. known_then k took.prefix) h.written.out_is
        ∙ known_then-append out (row_lines (outs all)) took.prefix;
  };
}
