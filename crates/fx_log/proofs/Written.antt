-- What is written of groups is a sequence of frames, whose commands are a sequence of items.
use Rattle.std.proofs.Common.{◌≡◌, ℕ, Bool, true, false, None, List, [], ◌∷◌, ◌++◌, map, refl, sym, ap, ◌∙◌, arith}
use Rattle.std.proofs.Common.{append_assoc, append-nil}
use Rattle.std.specs.List.{AllByRecursion, flat_map}
use Rattle.std.proofs.lemmas.Grind.{flat_map-append}
use Rattle.rs_base.proofs.Lists.{each-append}
use Rattle.fx_record.specs.declared.record.Record.{Record}
use Rattle.fx_record.specs.RecordWords.{words_of, IsRecord}
use Rattle.resp_read.specs.declared.command.Command.{Command}
use Rattle.resp_read.specs.Frames.{Form, Given, IsForm, IsCommand, sequence_text, frame, Begins, LongestSequence}
use Rattle.resp_read.specs.Frames.{IsSequence}
use Rattle.resp_read.specs.Frames.{commands_in, commands_from}
use Rattle.fx_log.specs.declared.group.Group.{Group}
use Rattle.fx_log.specs.Groups.{record_text, records_text, wrapped_text, group_text, log_text, IsGroup}
use Rattle.fx_log.specs.Items.{multi, exec, Item, Bare, Wrapped, IsItem, AreItems, item_words, items_words, item_groups}
use Rattle.fx_log.specs.Items.{groups_of}
use Rattle.fx_log.specs.Logs.{IsLog}
use Rattle.fx_log.proofs.CommandLaws.{IsCommand-words}

abbrev pub WordsGiven : Type 0
WordsGiven = (at : ℕ) (forms : List Form) → map (λ (command : Command). command.words) (commands_from at forms)
    ≡ commands_in forms

-- the item that a group is written as
abbrev pub item_at : Bool → List Record → Item
item_at true records = Wrapped records
item_at false [] = Wrapped []
item_at false (r ∷ records) = Bare r

abbrev pub item_of : Group → Item
item_of group = item_at group.wrapped group.records

abbrev pub items_of : List Group → List Item
items_of groups = map item_of groups

frames-records : (records : List Record) (rest : List (List (List ℕ)))
    → flat_map frame (map words_of records ++ rest) ≡ records_text records ++ flat_map frame rest
frames-records [] rest = refl
frames-records (r ∷ records) rest =
    ap (λ t. record_text r ++ t) (frames-records records rest)
    ∙ sym (append_assoc (record_text r) (records_text records) (flat_map frame rest))

abbrev pub IsWrittenAs : Group → Item → Type 0
IsWrittenAs group item = (item_groups item ≡ group ∷ []) × (group_text group ≡ flat_map frame (item_words item))
    × AllByRecursion IsCommand (item_words item) × IsItem item

abbrev pub multi-fits : IsCommand multi
multi-fits = record { some = omega arith; few = omega arith; each = (omega arith, tt); all = omega arith }

abbrev pub exec-fits : IsCommand exec
exec-fits = record { some = omega arith; few = omega arith; each = (omega arith, tt); all = omega arith }

each-command : (records : List Record) → AllByRecursion IsRecord records
    → AllByRecursion IsCommand (map words_of records ++ exec ∷ [])
each-command [] each = (exec-fits, tt)
each-command (r ∷ records) each = (IsCommand-words r each.0, each-command records each.1)

wrapped-text : (records : List Record) → wrapped_text records
    ≡ flat_map frame (multi ∷ map words_of records ++ exec ∷ [])
wrapped-text records =
    append_assoc (frame multi) (records_text records) (frame exec)
    ∙ ap (λ t. frame multi ++ t) (ap (λ t. records_text records ++ t) (sym (append-nil (frame exec)))
    ∙ sym (frames-records records (exec ∷ [])))

written-at : (wrapped : Bool) (records : List Record) → IsGroup (record { records = records; wrapped = wrapped })
    → IsWrittenAs (record { records = records; wrapped = wrapped }) (item_at wrapped records)
written-at true [] is = let some = is.some in absurd (omega arith)
written-at true (r ∷ []) is = (refl, wrapped-text (r ∷ []), (multi-fits, each-command (r ∷ []) is.each), is.each)
written-at true (r ∷ second ∷ records) is =
    (refl, wrapped-text (r ∷ second ∷ records), (multi-fits, each-command (r ∷ second ∷ records) is.each), is.each)
written-at false [] is = let some = is.some in absurd (omega arith)
written-at false (r ∷ []) is = (refl, refl, (IsCommand-words r is.each.0, tt), is.each.0)
written-at false (r ∷ second ∷ records) is = let one = is.one refl in absurd (omega arith)

pub group-written : (group : Group) → IsGroup group → IsWrittenAs group (item_of group)
group-written group is = written-at group.wrapped group.records is

-- groups, their text and the commands of it
pub record Written (groups : List Group) : Type 0 where
  pub groups_are : groups_of (items_of groups) ≡ groups
  pub text_is : log_text groups ≡ flat_map frame (items_words (items_of groups))
  pub each : AllByRecursion IsCommand (items_words (items_of groups))
  pub within : AreItems (items_of groups)

pub written : (groups : List Group) → AllByRecursion IsGroup groups → Written groups
written [] each = record { groups_are = refl; text_is = refl; each = tt; within = tt }
written (group ∷ groups) each =
    let first = group-written group each.0 in
    let later = written groups each.1 in
    record {
      groups_are = ap (λ gs. gs ++ groups_of (items_of groups)) first.0 ∙ ap (λ gs. group ∷ gs) later.groups_are;
      text_is = ap (λ t. t ++ log_text groups) first.1
          ∙ ap (λ t. flat_map frame (item_words (item_of group)) ++ t) later.text_is
          ∙ sym (flat_map-append frame (item_words (item_of group)) (items_words (items_of groups)));
      each = each-append IsCommand (item_words (item_of group)) (items_words (items_of groups)) first.2 later.each;
      within = (first.3, later.within);
    }

-- the forms of these commands
abbrev pub given : List (List (List ℕ)) → List Form
given words = map Given words

pub given-text : (words : List (List (List ℕ))) → sequence_text (given words) ≡ flat_map frame words
given-text [] = refl
given-text (w ∷ words) = ap (λ t. frame w ++ t) (given-text words)

given-each : (words : List (List (List ℕ))) → AllByRecursion IsCommand words → AllByRecursion IsForm (given words)
given-each [] each = tt
given-each (w ∷ words) each = (each.0, given-each words each.1)

pub given-commands : (words : List (List (List ℕ))) → commands_in (given words) ≡ words
given-commands [] = refl
given-commands (w ∷ words) = ap (λ ws. w ∷ ws) (given-commands words)

pub written-is-sequence : (groups : List Group) → Written groups
    → IsSequence (log_text groups) (given (items_words (items_of groups)))
written-is-sequence groups is = record {
  each = given-each (items_words (items_of groups)) is.each;
  text_is = is.text_is ∙ sym (given-text (items_words (items_of groups)));
}

pub sequence-longest : (text : List ℕ) (forms : List Form) → IsSequence text forms → LongestSequence text forms []
sequence-longest text forms seq = record {
  each = seq.each;
  text_is = seq.text_is ∙ sym (append-nil (sequence_text forms));
  longest = λ others left each e. omega arith;
}

pub sequence-begins : (text : List ℕ) (forms : List Form) → IsSequence text forms → Begins text
sequence-begins text forms seq = ([], forms, record { each = seq.each; text_is = append-nil text ∙ seq.text_is })

pub written-log : WordsGiven → (groups : List Group) → AllByRecursion IsGroup groups
    → IsLog (log_text groups) (items_of groups) None
written-log words_given groups each =
    let is = written groups each in
    let seq = written-is-sequence groups is in
    let forms = given (items_words (items_of groups)) in
    record {
      commands = commands_from 0 forms;
      whole = record {
        forms = forms;
        rest = [];
        sequence = sequence-longest (log_text groups) forms seq;
        commands_are = refl;
      };
      begins = sequence-begins (log_text groups) forms seq;
      within = (is.within, tt);
      words_are = words_given 0 forms ∙ given-commands (items_words (items_of groups))
          ∙ sym (append-nil (items_words (items_of groups)));
    }
