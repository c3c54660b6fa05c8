-- What words are as commands of a log.
use Rattle.std.proofs.Common.{◌≡◌, ℕ, ◌<◌, length, true, false, cond, Option, Some, None, List, [], ◌∷◌, inl, inr}
use Rattle.std.proofs.Common.{refl, sym, ap, ◌∙◌, true≢false, arith}
use Rattle.std.specs.Prelude.{codes}
use Rattle.std.specs.Str.{bytes_eq}
use Rattle.std.proofs.lemmas.Bool.{cond_both}
use Rattle.std.proofs.lemmas.Slice.Eq.{bytes_eq-Decides}
use Rattle.fx_record.specs.declared.record.Record.{Record}
use Rattle.fx_record.specs.declared.record.Record.TheVariants.{Set, SetUntil, SetKeeping, Del, ExpireAt, Persist}
use Rattle.fx_record.specs.declared.record.Record.TheVariants.{Rename, FlushAll}
use Rattle.fx_record.specs.RecordWords.{words_of, record_of, IsRecord}
use Rattle.fx_record.proofs.WordLaws.{record_of-words, record_of-only, record_of-within, words-within}
use Rattle.resp_read.specs.Frames.{IsCommand}
use Rattle.fx_log.specs.declared.command.LogCommand.{LogCommand}
use Rattle.fx_log.specs.declared.command.LogCommand.TheVariants.{Multi, Exec, Record as OneRecord, Other}
use Rattle.fx_log.specs.declared.stops.LogKind.{LogKind}
use Rattle.fx_log.specs.declared.stops.LogKind.TheVariants.{Frame, Row, Nest}
use Rattle.fx_log.specs.Items.{multi, exec}
use Rattle.fx_log.specs.LogCommands.{is_single, command_of, kind_of, record_or_other}
use Rattle.fx_log.specs.Logs.{IsNoRow, IsKind}

-- no record is this one word
no-record : (name : List ℕ) → bytes_eq (codes "FLUSHALL") name ≡ false → (r : Record)
    → is_single name (words_of r) ≡ false
no-record name other (Set key value) = refl
no-record name other (SetUntil key value deadline) = refl
no-record name other (SetKeeping key value) = refl
no-record name other (Del key) = refl
no-record name other (ExpireAt key deadline) = refl
no-record name other (Persist key) = refl
no-record name other (Rename from to) = refl
no-record name other FlushAll = other

-- what words are that are no end of a group
other-words : (words : List (List ℕ)) → is_single (codes "MULTI") words ≡ false → is_single (codes "EXEC") words ≡ false
    → command_of words ≡ record_or_other (record_of words)
other-words words no_multi no_exec =
    ap (λ t. cond t Multi (cond (is_single (codes "EXEC") words) Exec (record_or_other (record_of words)))) no_multi
    ∙ ap (λ t. cond t Exec (record_or_other (record_of words))) no_exec

pub command-record : (r : Record) → IsRecord r → command_of (words_of r) ≡ OneRecord r
command-record r within =
    other-words (words_of r) (no-record (codes "MULTI") refl r) (no-record (codes "EXEC") refl r)
    ∙ ap record_or_other (record_of-words r within)

-- the words of a record are a command, within its limits
pub IsCommand-words : (r : Record) → IsRecord r → IsCommand (words_of r)
IsCommand-words r h =
    let within = words-within r h in
    record { some = some r; few = within.few; each = within.each; all = within.all }
  where
    some : (r : Record) → 0 < length (words_of r)
    some (Set key value) = omega arith
    some (SetUntil key value deadline) = omega arith
    some (SetKeeping key value) = omega arith
    some (Del key) = omega arith
    some (ExpireAt key deadline) = omega arith
    some (Persist key) = omega arith
    some (Rename from to) = omega arith
    some FlushAll = omega arith

-- the words of a command of a log
abbrev pub AreWordsOf : List (List ℕ) → LogCommand → Type 0
AreWordsOf words Multi = words ≡ multi
AreWordsOf words Exec = words ≡ exec
AreWordsOf words (OneRecord r) = (words ≡ words_of r) × IsRecord r
AreWordsOf words Other = IsNoRow words

single-is : (name : List ℕ) (words : List (List ℕ)) → is_single name words ≡ true → words ≡ name ∷ []
single-is name [] e = absurd (cc)
single-is name (only ∷ []) e = ap (λ w. w ∷ []) ((bytes_eq-Decides only name).0 e)
single-is name (first ∷ second ∷ words) e = absurd (cc)

is-single : (name : List ℕ) → is_single name (name ∷ []) ≡ true
is-single name = (bytes_eq-Decides name name).1 refl

-- words that are one word are read so
not-single : (name : List ℕ) (words : List (List ℕ)) → is_single name words ≡ false → words ≡ name ∷ [] → ⊥
not-single name words other same = true≢false (sym (ap (is_single name) same ∙ is-single name) ∙ other)

record-words : (words : List (List ℕ)) → is_single (codes "MULTI") words ≡ false
    → is_single (codes "EXEC") words ≡ false → (found : Option Record) → record_of words ≡ found
    → AreWordsOf words (record_or_other found)
record-words words no_multi no_exec (Some r) e = (record_of-only words r e, record_of-within words r e)
record-words words no_multi no_exec None e = record {
  no_multi = not-single (codes "MULTI") words no_multi;
  no_exec = not-single (codes "EXEC") words no_exec;
  no_record = λ r within same. none (sym e ∙ ap record_of same ∙ record_of-words r within);
}
  where
    none : {X : Type 0} {x : X} → None ≡ Some x → ⊥
    none same = cc

pub command-words : (words : List (List ℕ)) → AreWordsOf words (command_of words)
command-words words = cond_both (is_single (codes "MULTI") words) Multi
    (cond (is_single (codes "EXEC") words) Exec (record_or_other (record_of words))) (AreWordsOf words)
    (λ yes. single-is (codes "MULTI") words yes)
    (λ no. cond_both (is_single (codes "EXEC") words) Exec (record_or_other (record_of words)) (AreWordsOf words)
    (λ yes. single-is (codes "EXEC") words yes)
    (λ no_exec. record-words words no no_exec (record_of words) refl))

-- a command that does not fit has one kind, which its words tell
pub kind-is : (words : List (List ℕ)) (c : LogCommand) → AreWordsOf words c → ((r : Record) → c ≡ OneRecord r → ⊥)
    → IsKind (kind_of c) words
kind-is words Multi is other = inl is
kind-is words Exec is other = inr is
kind-is words (OneRecord r) is other = absurd (other r refl)
kind-is words Other is other = is

pub kind-one : (words : List (List ℕ)) (c : LogCommand) (kind : LogKind) → AreWordsOf words c → IsKind kind words
    → kind ≡ kind_of c
kind-one words c Frame is wrong = absurd wrong
kind-one words Multi Row is row = absurd (row.no_multi is)
kind-one words Exec Row is row = absurd (row.no_exec is)
kind-one words (OneRecord r) Row is row = refl
kind-one words Other Row is row = refl
kind-one words Multi Nest is nest = refl
kind-one words Exec Nest is nest = refl
kind-one words (OneRecord r) Nest is (inl e) =
    absurd (not-single (codes "MULTI") (words_of r) (no-record (codes "MULTI") refl r) (sym is.0 ∙ e))
kind-one words (OneRecord r) Nest is (inr e) =
    absurd (not-single (codes "EXEC") (words_of r) (no-record (codes "EXEC") refl r) (sym is.0 ∙ e))
kind-one words Other Nest is (inl e) = absurd (is.no_multi e)
kind-one words Other Nest is (inr e) = absurd (is.no_exec e)
