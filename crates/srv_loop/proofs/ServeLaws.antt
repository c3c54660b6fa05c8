-- A service that has come to some turn.
use Rattle.std.proofs.Common.{◌≡◌, ◌⊎◌, inl, inr, ℕ, ◌+◌, ◌<◌, ◌≤◌, List, [], ◌∷◌, ◌++◌, Option, Some, None, length}
use Rattle.std.proofs.Common.{refl, sym, ap, subst, ◌∙◌, arith, append_assoc, append-nil, length-append}
use Rattle.rs_outside.specs.Known.{known_then, items_then, NoneLeft}
use Rattle.rs_outside.specs.declared.turn.Turn.{Turn}
use Rattle.rs_outside.specs.declared.turn.OutRow.{OutRow}
use Rattle.cl_core.specs.Machine.{State, beginning, step, run_from}
use Rattle.srv_loop.specs.Runs.{logged_in, log_bytes, state}
use Rattle.srv_loop.specs.Replaying.{ReplaysTo}
use Rattle.srv_loop.specs.Taking.{TookPrefix, CutsTurn}
use Rattle.srv_loop.specs.Serving.{Serves, CutsServe, with_last, CutsLast}
use Rattle.srv_loop.proofs.RunLaws.{run-push, logged-push}
use Rattle.srv_loop.proofs.Writes.{known_then-append, known_then-nil}

items_then-append : {T : Type 0} (xs ys : List T) (known : Option (List T))
    → items_then xs (items_then ys known) ≡ items_then (xs ++ ys) known
items_then-append xs ys None = refl
items_then-append xs ys (Some zs) = ap Some (sym (append_assoc xs ys zs))

items_then-nil : {T : Type 0} (known : Option (List T)) → items_then [] known ≡ known
items_then-nil None = refl
items_then-nil (Some zs) = refl

-- the law of the log, for turns that a new server took
replays_so : ((turns : List Turn) → ReplaysTo (log_bytes turns) (state turns).store)
    → (turns : List Turn) (server server' : State) → server' ≡ (run_from server turns).state
    → server ≡ beginning → ReplaysTo (logged_in (run_from server turns)) server'.store
replays_so law turns server server' is began =
    let whole = subst (λ s. ReplaysTo (logged_in (run_from s turns)) (run_from s turns).state.store) (sym began)
    (law turns) in
    subst (λ (s : State). ReplaysTo (logged_in (run_from server turns)) s.store) (sym is) whole

pub Serves-start : ((turns : List Turn) → ReplaysTo (log_bytes turns) (state turns).store)
    → (server : State) (coming : Option (List Turn)) (log : Option (List ℕ)) (sent : Option (List OutRow))
    → Serves [] server server coming coming log log sent sent
Serves-start law server coming log sent = record {
  came = sym (items_then-nil coming);
  server_is = refl;
  logged = sym (known_then-nil log);
  rows = sym (known_then-nil sent);
  replays = replays_so law [] server server refl;
}

-- one turn more was taken
pub Serves-more : ((turns : List Turn) → ReplaysTo (log_bytes turns) (state turns).store)
    → (turns : List Turn) (s s' s'' : State) (c c' c'' : Option (List Turn)) (l l' l'' : Option (List ℕ))
    (r r' r'' : Option (List OutRow)) (turn : Turn)
    → Serves turns s s' c c' l l' r r' → c' ≡ items_then (turn ∷ []) c'' → s'' ≡ (step s' turn).state
    → l'' ≡ known_then l' (logged_in (step s' turn)) → r'' ≡ known_then r' (step s' turn).rows
    → Serves (turns ++ turn ∷ []) s s'' c c'' l l'' r r''
Serves-more law turns s s' s'' c c' c'' l l' l'' r r' r'' turn h came server_is logged rows =
    let turn_is = ap (λ m. step m turn) h.server_is in
    let after : s'' ≡ (run_from s (turns ++ turn ∷ [])).state = server_is ∙ ap (λ m. m.state) turn_is
    ∙ sym (ap (λ m. m.state) (run-push s turns turn)) in
    record {
      came = h.came ∙ ap (items_then turns) came ∙ items_then-append turns (turn ∷ []) c'';
      server_is = after;
      logged = logged ∙ ap (λ m. known_then l' (logged_in m)) turn_is
          ∙ ap (λ k. known_then k (logged_in (step (run_from s turns).state turn))) h.logged
          ∙ known_then-append l (logged_in (run_from s turns)) (logged_in (step (run_from s turns).state turn))
          ∙ ap (known_then l) (sym (logged-push s turns turn));
      rows = rows ∙ ap (λ m. known_then r' m.rows) turn_is
          ∙ ap (λ k. known_then k (step (run_from s turns).state turn).rows) h.rows
          ∙ known_then-append r (run_from s turns).rows (step (run_from s turns).state turn).rows
          ∙ ap (λ m. known_then r m.rows) (sym (run-push s turns turn));
      replays = replays_so law (turns ++ turn ∷ []) s s'' after;
    }

-- a service that ended between two turns
pub CutsServe-between : (most : ℕ) (turns : List Turn) (s s' : State) (c c' c'' : Option (List Turn))
    (l l' l'' : Option (List ℕ)) (r r' r'' : Option (List OutRow))
    → length turns ≤ most → Serves turns s s' c c' l l' r r' → c'' ≡ c' → l'' ≡ l' → r'' ≡ r'
    → CutsServe most s c c'' l l'' r r''
CutsServe-between most turns s s' c c' c'' l l' l'' r r' r'' few h came logged rows = record {
  turns = turns;
  last = None;
  within = few;
  came = h.came ∙ ap (items_then turns) (sym came);
  cut = (logged ∙ h.logged, rows ∙ h.rows);
}

-- a service that ended in a turn
pub CutsServe-within : (most : ℕ) (turns : List Turn) (s s' : State) (c c' c'' : Option (List Turn))
    (l l' l'' : Option (List ℕ)) (r r' r'' : Option (List OutRow)) (turn : Turn)
    → length turns < most → Serves turns s s' c c' l l' r r' → c' ≡ items_then (turn ∷ []) c''
    → CutsTurn (logged_in (step s' turn)) (step s' turn).rows l' l'' r' r'' → CutsServe most s c c'' l l'' r r''
CutsServe-within most turns s s' c c' c'' l l' l'' r r' r'' turn few h came cut = record {
  turns = turns;
  last = Some turn;
  within = omega (arith, length-append turns (turn ∷ []));
  came = h.came ∙ ap (items_then turns) came ∙ items_then-append turns (turn ∷ []) c'';
  cut = rw (← h.server_is, ← h.logged, ← h.rows) cut;
}

-- a service that took all turns that came
pub takes_all : (turns coming left : List Turn) → Some coming ≡ items_then turns (Some left)
    → length coming ≡ length turns + length left
takes_all turns coming left e = let same : coming ≡ turns ++ left = some_same coming (turns ++ left) e in
    ap length same ∙ length-append turns left
  where
    some_same : (a b : List Turn) → Some a ≡ Some b → a ≡ b
    some_same a b e = cc
