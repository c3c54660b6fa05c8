-- Commands that are refused, and the keys that a command leaves as they were.
use Rattle.std.proofs.Common.{◌≡◌, ◌≢◌, ℕ, Bool, true, false, not, cond, ◌&&◌, List, [], ◌∷◌, length, Option}
use Rattle.std.proofs.Common.{Some, None, refl, sym, ap, subst, ◌∙◌}
use Rattle.std.specs.List.{Contains}
use Rattle.std.specs.FinMap as finite
use Rattle.resp_reply.specs.declared.reply.Reply.TheVariants.{Fault}
use Rattle.ks_space.specs.Store.{Store}
use Rattle.fx_record.specs.declared.record.Record.{Record}
use Rattle.fx_record.specs.Records.{applied}
use Rattle.fx_record.specs.RecordWords.{are_within_limits}
use Rattle.fx_record.specs.Settled.{settled}
use Rattle.cmd_args.specs.declared.commands.CmdId.{CmdId}
use Rattle.cmd_args.specs.declared.commands.CmdId.TheVariants as family
use Rattle.cmd_args.specs.declared.commands.ServerCmd.{ServerCmd}
use Rattle.cmd_args.specs.declared.commands.ServerCmd.TheVariants.{FlushAll, FlushDb}
use Rattle.cmd_args.specs.declared.commands.StringCmd.{StringCmd}
use Rattle.cmd_args.specs.declared.commands.KeyCmd.{KeyCmd}
use Rattle.cmd_args.specs.declared.commands.Row.{Row}
use Rattle.cmd_args.specs.declared.refusal.Refusal.{Refusal}
use Rattle.cmd_args.specs.declared.refusal.Refusal.TheVariants.{Syntax, UnknownCommand, WordCount, NotInScript}
use Rattle.cmd_args.specs.declared.refusal.Refusal.TheVariants.{ReadOnlyScript, TooLarge}
use Rattle.cmd_args.specs.declared.turn.Mode.{Mode}
use Rattle.cmd_args.specs.Keys.{keys_named}
use Rattle.cmd_args.specs.Refusals.{refusal_text, shown}
use Rattle.cmd_args.specs.Table.{command, string_command, row_named, fits}
use Rattle.cmd_args.specs.Draws.{state_after}
use Rattle.cmd_args.proofs.TableLaws.{its_own}
use Rattle.cmd_rows.specs.Outcomes.{Outcome, refused}
use Rattle.cmd_rows.proofs.Followed.{settled-nothing}
use Rattle.cmd_rows.proofs.Faults.{IsNoSyntax, no_syntax, fault-text}
use Rattle.cmd_rows.specs.Worlds.{World}
use Rattle.cmd_string.specs.StringRows.{string_row}
use Rattle.cmd_keys.specs.ServerRows.{server_row}
use Rattle.cmd_keys.specs.KeyRows.{key_row}
use Rattle.cmd_keys.specs.Laws.{IsFlush}
use Rattle.cmd_exec.specs.Worlds.{moved_by}
use Rattle.cmd_exec.specs.Exec.{is_barred, may_only_read, reason, row_outcome, unless_refused, outcome_of}
use Rattle.cmd_exec.specs.Exec.{given, exec}

-- a refusal is what it is, also where it is settled what of it is kept
settled_refusal : (world : World) (why : Refusal)
    → ◌≡◌ {A = Outcome} (record (refused why) { records = settled world.store [] }) (refused why)
settled_refusal world why = ap (λ rs. record (refused why) { records = rs }) (settled-nothing world.store)

pub exec-refused : (world : World) (mode : Mode) (words : List (List ℕ)) (why : Refusal)
    → given world mode words ≡ refused why → exec world mode words ≡ refused why
unfolding exec
exec-refused world mode words why is =
    ap (λ (o : Outcome). record o { records = settled world.store o.records }) is ∙ settled_refusal world why

given-known : (world : World) (mode : Mode) (name : List ℕ) (words : List (List ℕ)) (row : Row)
    → row_named name ≡ Some row
    → given world mode (name ∷ words)
    ≡ unless_refused (reason mode row (name ∷ words)) (row_outcome world row.id (name ∷ words))
given-known world mode name words row is = ap (λ r. outcome_of world mode r name (name ∷ words)) is

pub exec-unknown : (world : World) (mode : Mode) (name : List ℕ) (words : List (List ℕ)) → row_named name ≡ None
    → exec world mode (name ∷ words) ≡ refused (UnknownCommand (shown name))
exec-unknown world mode name words is =
    exec-refused world mode (name ∷ words) (UnknownCommand (shown name))
    (ap (λ r. outcome_of world mode r name (name ∷ words)) is)

pub exec-reason : (world : World) (mode : Mode) (name : List ℕ) (words : List (List ℕ)) (row : Row) (why : Refusal)
    → row_named name ≡ Some row
    → reason mode row (name ∷ words) ≡ Some why → exec world mode (name ∷ words) ≡ refused why
exec-reason world mode name words row why is e =
    exec-refused world mode (name ∷ words) why
    (given-known world mode name words row is ∙ ap (λ w. unless_refused w (row_outcome world row.id (name ∷ words))) e)

pub exec-count : (world : World) (mode : Mode) (name : List ℕ) (words : List (List ℕ)) (row : Row)
    → row_named name ≡ Some row
    → fits row (name ∷ words) ≡ false → exec world mode (name ∷ words) ≡ refused (WordCount row.id)
exec-count world mode name words row is misfit =
    exec-reason world mode name words row (WordCount row.id) is (counted misfit)
  where
    counted : fits row (name ∷ words) ≡ false → reason mode row (name ∷ words) ≡ Some (WordCount row.id)
    counted misfit =
        ap (λ b. cond (not b) (Some (WordCount row.id))
        (cond (is_barred mode row) (Some NotInScript)
        (cond (may_only_read mode && row.writes) (Some ReadOnlyScript)
        (cond (not (are_within_limits (name ∷ words))) (Some TooLarge) None)))) misfit

-- what follows from a fault
abbrev Nothing : Outcome → Type 0
Nothing outcome = (outcome.records ≡ []) × (outcome.draws ≡ 0)

abbrev Quiet : Outcome → Type 0
Quiet outcome = (text : List ℕ) → outcome.reply ≡ Fault text → Nothing outcome

module _ (of_strings : (world : World) (id : StringCmd) (words : List (List ℕ)) → Quiet (string_row world id words))
    (of_server : (world : World) (id : ServerCmd) (words : List (List ℕ)) → Quiet (server_row world id words))
    (of_keys : (world : World) (id : KeyCmd) (words : List (List ℕ)) → Quiet (key_row world id words)) where
  row-quiet : (world : World) (id : CmdId) (words : List (List ℕ)) → Quiet (row_outcome world id words)
  unfolding row_outcome
  row-quiet world (family.Client id) words = λ text e. (refl, refl)
  row-quiet world (family.Server id) words = of_server world id words
  row-quiet world (family.Strings id) words = of_strings world id words
  row-quiet world (family.Keys id) words = of_keys world id words

  unless-quiet : (why : Option Refusal) (outcome : Outcome) → Quiet outcome → Quiet (unless_refused why outcome)
  unless-quiet (Some why) outcome quiet = λ text e. (refl, refl)
  unless-quiet None outcome quiet = quiet

  named-quiet : (world : World) (mode : Mode) (row : Option Row) (name : List ℕ) (words : List (List ℕ))
      → Quiet (outcome_of world mode row name words)
  named-quiet world mode None name words = λ text e. (refl, refl)
  named-quiet world mode (Some row) name words =
      unless-quiet (reason mode row words) (row_outcome world row.id words) (row-quiet world row.id words)

  given-quiet : (world : World) (mode : Mode) (words : List (List ℕ)) → Quiet (given world mode words)
  given-quiet world mode [] = λ text e. (refl, refl)
  given-quiet world mode (name ∷ words) = named-quiet world mode (row_named name) name (name ∷ words)

  exec-quiet : (world : World) (mode : Mode) (words : List (List ℕ)) → Quiet (exec world mode words)
  unfolding exec
  exec-quiet world mode words text e =
      let nothing = given-quiet world mode words text e in
      (ap (settled world.store) nothing.0 ∙ settled-nothing world.store, nothing.1)

  pub exec-nothing : (world : World) (mode : Mode) (words : List (List ℕ)) (text : List ℕ)
      → (exec world mode words).reply ≡ Fault text
      → ((exec world mode words).records ≡ []) × ((exec world mode words).draws ≡ 0)
      × (moved_by world (exec world mode words) ≡ world)
  exec-nothing world mode words text e =
      let nothing = exec-quiet world mode words text e in
      let same : ◌≡◌ {A = World} (moved_by world (exec world mode words)) world =
      λ i. record {
        store = applied world.store (nothing.0 i);
        time = world.time;
        draws = state_after world.draws (nothing.1 i);
      } in
      (nothing.0, nothing.1, same)

-- no command with its fewest words is a syntax error
reason-ends : (mode : Mode) (row : Row) (words : List (List ℕ)) (why : Refusal) → reason mode row words ≡ Some why
    → IsNoSyntax why
reason-ends mode row words why e =
    each (fits row words) (is_barred mode row) (may_only_read mode && row.writes) (are_within_limits words) e
  where
    each : (fit barred reads within : Bool)
        → cond (not fit) (Some (WordCount row.id))
        (cond barred (Some NotInScript)
        (cond reads (Some ReadOnlyScript) (cond (not within) (Some TooLarge) None))) ≡ Some why → IsNoSyntax why
    each false barred reads within e = let same : WordCount row.id ≡ why = cc in
        subst IsNoSyntax same (no_syntax (WordCount row.id) refl)
    each true true reads within e = let same : NotInScript ≡ why = cc in
        subst IsNoSyntax same (no_syntax NotInScript refl)
    each true false true within e = let same : ReadOnlyScript ≡ why = cc in
        subst IsNoSyntax same (no_syntax ReadOnlyScript refl)
    each true false false false e = let same : TooLarge ≡ why = cc in subst IsNoSyntax same (no_syntax TooLarge refl)
    each true false false true e = absurd (cc)

abbrev NoSyntaxError : Outcome → Type 0
NoSyntaxError outcome = outcome.reply ≢ Fault (refusal_text Syntax)

refused-no_syntax : (why : Refusal) → IsNoSyntax why → NoSyntaxError (refused why)
refused-no_syntax why is = λ e. is (fault-text (refusal_text why) (refusal_text Syntax) e)

module _ (of_strings : (world : World) (id : StringCmd) (words : List (List ℕ))
    → length words ≡ (string_command id).least → NoSyntaxError (string_row world id words))
    (of_server : (world : World) (id : ServerCmd) (words : List (List ℕ))
    → length words ≡ (command (family.Server id)).least → NoSyntaxError (server_row world id words))
    (of_keys : (world : World) (id : KeyCmd) (words : List (List ℕ))
    → length words ≡ (command (family.Keys id)).least → NoSyntaxError (key_row world id words)) where
  row-carried : (world : World) (id : CmdId) (words : List (List ℕ)) → length words ≡ (command id).least
      → NoSyntaxError (row_outcome world id words)
  unfolding row_outcome
  row-carried world (family.Client id) words fewest = refused-no_syntax NotInScript (no_syntax NotInScript refl)
  row-carried world (family.Server id) words fewest = of_server world id words fewest
  row-carried world (family.Strings id) words fewest = of_strings world id words fewest
  row-carried world (family.Keys id) words fewest = of_keys world id words fewest

  given-carried : (world : World) (mode : Mode) (row : Row) (words : List (List ℕ))
      → length words ≡ (command row.id).least
      → NoSyntaxError (unless_refused (reason mode row words) (row_outcome world row.id words))
  given-carried world mode row words fewest = by_reason (reason mode row words) refl
    where
      by_reason : (why : Option Refusal) → reason mode row words ≡ why
          → NoSyntaxError (unless_refused why (row_outcome world row.id words))
      by_reason (Some why) is = refused-no_syntax why (reason-ends mode row words why is)
      by_reason None is = row-carried world row.id words fewest

  pub exec-carried : (world : World) (mode : Mode) (name : List ℕ) (words : List (List ℕ)) (row : Row)
      → row_named name ≡ Some row
      → length (name ∷ words) ≡ row.least → NoSyntaxError (exec world mode (name ∷ words))
  unfolding exec
  exec-carried world mode name words row is fewest =
      let own = its_own name row is in
      let least : row.least ≡ (command row.id).least = ap (λ (r : Row). r.least) own.1 in
      subst NoSyntaxError (sym (given-known world mode name words row is))
      (given-carried world mode row (name ∷ words) (fewest ∙ least))

-- the keys that a command does not name
abbrev Leaves : World → List ℕ → Outcome → Type 0
Leaves world key outcome = finite.get (applied world.store outcome.records) key ≡ finite.get world.store key

no-records : (world : World) (key : List ℕ) (outcome : Outcome) → outcome.records ≡ [] → Leaves world key outcome
no-records world key outcome none = ap (λ rs. finite.get (applied world.store rs) key) none

module _ (of_strings : (world : World) (id : StringCmd) (words : List (List ℕ)) (other : List ℕ)
    → (Contains (keys_named (family.Strings id) words) other → ⊥) → Leaves world other (string_row world id words))
    (of_server : (world : World) (id : ServerCmd) (words : List (List ℕ)) → (IsFlush id → ⊥)
    → (server_row world id words).records ≡ [])
    (of_keys : (world : World) (id : KeyCmd) (words : List (List ℕ)) (key : List ℕ)
    → (Contains (keys_named (family.Keys id) words) key → ⊥) → Leaves world key (key_row world id words))
    (settles : (store : Store) (records : List Record)
    → applied store (settled store records) ≡ applied store records) where
  row-leaves : (world : World) (id : CmdId) (words : List (List ℕ)) (key : List ℕ)
      → id ≢ family.Server FlushAll → id ≢ family.Server FlushDb
      → (Contains (keys_named id words) key → ⊥) → Leaves world key (row_outcome world id words)
  unfolding row_outcome
  row-leaves world (family.Client id) words key all db none = refl
  row-leaves world (family.Server FlushAll) words key all db none = absurd (all refl)
  row-leaves world (family.Server FlushDb) words key all db none = absurd (db refl)
  row-leaves world (family.Server id) words key all db none =
      no-records world key (server_row world id words) (of_server world id words (λ e. e))
  row-leaves world (family.Strings id) words key all db none = of_strings world id words key none
  row-leaves world (family.Keys id) words key all db none = of_keys world id words key none

  unless-leaves : (world : World) (key : List ℕ) (why : Option Refusal) (outcome : Outcome) → Leaves world key outcome
      → Leaves world key (unless_refused why outcome)
  unless-leaves world key (Some why) outcome leaves = refl
  unless-leaves world key None outcome leaves = leaves

  pub exec-leaves : (world : World) (mode : Mode) (name : List ℕ) (words : List (List ℕ)) (row : Row) (key : List ℕ)
      → row_named name ≡ Some row → row.id ≢ family.Server FlushAll → row.id ≢ family.Server FlushDb
      → (Contains (keys_named row.id (name ∷ words)) key → ⊥)
      → finite.get (moved_by world (exec world mode (name ∷ words))).store key ≡ finite.get world.store key
  unfolding exec
  exec-leaves world mode name words row key is all db none =
      ap (λ (s : Store). finite.get s key) (settles world.store (given world mode (name ∷ words)).records)
      ∙ subst (Leaves world key) (sym (given-known world mode name words row is))
      (unless-leaves world key (reason mode row (name ∷ words)) (row_outcome world row.id (name ∷ words))
      (row-leaves world row.id (name ∷ words) key all db none))
