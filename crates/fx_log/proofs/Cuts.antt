-- A front of a log reads as the groups whose text is whole in it.
use Rattle.std.proofs.Common.{◌≡◌, ℕ, ◌<◌, ◌≤◌, ◌⊎◌, inl, inr, Option, Some, None, List, [], ◌∷◌, ◌++◌, length}
use Rattle.std.proofs.Common.{drop, map, refl, sym, ap, subst, ◌∙◌, arith, append_assoc, length-append}
use Rattle.std.specs.List.{AllByRecursion, flat_map}
use Rattle.std.proofs.lemmas.Bool.{cases_order}
use Rattle.std.proofs.lemmas.Grind.{flat_map-append}
use Rattle.std.proofs.lemmas.List.{append_cancel_left}
use Rattle.rs_base.proofs.Lists.{Fronts, Longer, Shorter, two-fronts, nil-front, long-front, each-front, each-back}
use Rattle.fx_record.specs.declared.record.Record.{Record}
use Rattle.fx_record.specs.RecordWords.{words_of, IsRecord}
use Rattle.resp_read.specs.Frames.{Form, Given, EmptyArray, NegativeArray, IsSequence, sequence_text, frame, Begins}
use Rattle.resp_read.specs.Frames.{LongestSequence}
use Rattle.resp_read.specs.Frames.{commands_in, commands_from}
use Rattle.resp_read.specs.Reading.{Reading, Unfinished, Broken, reading, behind_forms, IsReadingOf}
use Rattle.fx_log.specs.declared.group.Group.{Group}
use Rattle.fx_log.specs.Groups.{group_text, log_text, IsGroup}
use Rattle.fx_log.specs.Items.{multi, exec, Item, Bare, Wrapped, IsItem, IsOpen, item_words, items_words, open_words}
use Rattle.fx_log.specs.Logs.{IsLog, IsGroups, IsPart, IsCut, HasBadPlace}
use Rattle.fx_log.proofs.LogLaws.{empty-sequence}
use Rattle.fx_log.proofs.Staying.{ReadsText, GoesOnText}
use Rattle.fx_log.proofs.Texts.{OneSequence, NotBoth, log-groups, log-good}
use Rattle.fx_log.proofs.Written.{WordsGiven, item_of, items_of, group-written, written, given, given-text}
use Rattle.fx_log.proofs.Written.{given-commands, written-is-sequence, sequence-longest, sequence-begins, written-log}

-- where a text is cut
pub record CutAt (text more : List ℕ) (groups : List Group) : Type 0 where
  pub front : List Group
  pub back : List Group
  pub part : List ℕ
  pub groups_are : groups ≡ front ++ back
  pub text_is : text ≡ log_text front ++ part
  pub rest_is : part ++ more ≡ log_text back
  pub part_is : IsPart part back

pub cut-at : (groups : List Group) (text more : List ℕ) → text ++ more ≡ log_text groups → CutAt text more groups
cut-at [] text more e =
    let none = nil-front text more e in
    record { front = []; back = []; part = text; groups_are = refl; text_is = refl; rest_is = e; part_is = none }
cut-at (group ∷ groups) text more e = by_size (λ t rest. cut-at groups t more rest)
    (cases_order (length text) (length (group_text group)))
  where
    behind : ((t : List ℕ) → t ++ more ≡ log_text groups → CutAt t more groups)
        → length (group_text group) ≤ length text → CutAt text more (group ∷ groups)
    behind again long =
        let text_is = long-front (length (group_text group)) text more (group_text group)
        (log_text groups) refl long e in
        let rest : drop (length (group_text group)) text ++ more ≡ log_text groups =
        append_cancel_left (group_text group) (drop (length (group_text group)) text ++ more) (log_text groups)
        (sym (append_assoc (group_text group) (drop (length (group_text group)) text) more)
        ∙ ap (λ t. t ++ more) (sym text_is) ∙ e) in
        let later = again (drop (length (group_text group)) text) rest in
        record {
          front = group ∷ later.front;
          back = later.back;
          part = later.part;
          groups_are = ap (λ gs. group ∷ gs) later.groups_are;
          text_is = text_is ∙ ap (λ t. group_text group ++ t) later.text_is
              ∙ sym (append_assoc (group_text group) (log_text later.front) later.part);
          rest_is = later.rest_is;
          part_is = later.part_is;
        }

    by_size : ((t : List ℕ) → t ++ more ≡ log_text groups → CutAt t more groups)
        → (length text ≡ (length (group_text group)))
        ⊎ ((length text < (length (group_text group))) ⊎ ((length (group_text group)) < length text))
        → CutAt text more (group ∷ groups)
    by_size again (inl same) = behind again (omega arith)
    by_size again (inr (inl below)) = record {
      front = [];
      back = group ∷ groups;
      part = text;
      groups_are = refl;
      text_is = refl;
      rest_is = e;
      part_is = below;
    }
    by_size again (inr (inr above)) = behind again (omega arith)

-- a sequence reads as its forms
pub sequence-reading : OneSequence → NotBoth → ReadsText → (text : List ℕ) (forms : List Form) → IsSequence text forms
    → reading text ≡ Unfinished forms []
sequence-reading one_sequence not_both reads text forms seq = by_reading (reading text) refl (reads text)
  where
    by_reading : (r : Reading) → reading text ≡ r → IsReadingOf text r → reading text ≡ Unfinished forms []
    by_reading (Unfinished others left) e is =
        let same = one_sequence text others forms left [] is.0 (sequence-longest text forms seq) in
        e ∙ ap (λ fs. Unfinished fs left) same.0 ∙ ap (Unfinished forms) same.1
    by_reading (Broken others place kind) e is = absurd (not_both text place (sequence-begins text forms seq) is.0.at)

commands-append : (xs ys : List Form) → commands_in (xs ++ ys) ≡ commands_in xs ++ commands_in ys
commands-append [] ys = refl
commands-append (Given words ∷ xs) ys = ap (λ ws. words ∷ ws) (commands-append xs ys)
commands-append (EmptyArray ∷ xs) ys = commands-append xs ys
commands-append (NegativeArray n ∷ xs) ys = commands-append xs ys

-- the front of forms that are all commands is all commands
given-front : (xs ys : List Form) (words : List (List (List ℕ))) → xs ++ ys ≡ given words → xs ≡ given (commands_in xs)
given-front [] ys words e = refl
given-front (x ∷ xs) ys [] e = absurd (cc)
given-front (Given v ∷ xs) ys (w ∷ words) e = ap (λ fs. Given v ∷ fs) (given-front xs ys words (cc))
given-front (EmptyArray ∷ xs) ys (w ∷ words) e = absurd (cc)
given-front (NegativeArray n ∷ xs) ys (w ∷ words) e = absurd (cc)

records-front : (records : List Record) (xs more : List (List (List ℕ))) (next : List (List ℕ))
    → map words_of records ++ exec ∷ [] ≡ xs ++ next ∷ more
    → AllByRecursion IsRecord records → (some : List Record) × (xs ≡ map words_of some) × AllByRecursion IsRecord some
records-front records [] more next e within = ([], refl, tt)
records-front [] (x ∷ []) more next e within = absurd (cc)
records-front [] (x ∷ y ∷ xs) more next e within = absurd (cc)
records-front (r ∷ records) (x ∷ xs) more next e within =
    let later = records-front records xs more next (cc) within.1 in
    let head : x ≡ words_of r = cc in
    (r ∷ later.0, ap (λ w. w ∷ xs) head ∙ ap (λ ws. words_of r ∷ ws) later.1, (within.0, later.2))

-- less than the commands of an item is the part of one
open-front : (item : Item) (xs more : List (List (List ℕ))) (next : List (List ℕ)) → item_words item ≡ xs ++ next ∷ more
    → IsItem item → (opened : Option (List Record)) × (xs ≡ open_words opened) × IsOpen opened
open-front item [] more next e within = (None, refl, tt)
open-front (Bare r) (x ∷ []) more next e within = absurd (cc)
open-front (Bare r) (x ∷ y ∷ xs) more next e within = absurd (cc)
open-front (Wrapped records) (x ∷ xs) more next e within =
    let some = records-front records xs more next (cc) within in
    let head : x ≡ multi = cc in
    (Some some.0, ap (λ w. w ∷ xs) head ∙ ap (λ ws. multi ∷ ws) some.1, some.2)

-- what is read of a part
pub record PartRead (part : List ℕ) : Type 0 where
  pub forms : List Form
  pub left : List ℕ
  pub opened : Option (List Record)
  pub reading_is : reading part ≡ Unfinished forms left
  pub words_are : commands_in forms ≡ open_words opened
  pub within : IsOpen opened

unfinished : NotBoth → ReadsText → (text : List ℕ) → Begins text
    → (forms : List Form) × (left : List ℕ) × (reading text ≡ Unfinished forms left) × LongestSequence text forms left
unfinished not_both reads text begins = by_reading (reading text) refl (reads text)
  where
    by_reading : (r : Reading) → reading text ≡ r → IsReadingOf text r
        → (forms : List Form) × (left : List ℕ) × (reading text ≡ Unfinished forms left)
        × LongestSequence text forms left
    by_reading (Unfinished forms left) e is = (forms, left, e, is.0)
    by_reading (Broken forms place kind) e is = absurd (not_both text place begins is.0.at)

-- the forms read of a front are the first of those of the whole sequence
forms-front : (forms all : List Form) (r : Reading) → behind_forms forms r ≡ Unfinished all []
    → (more : List Form) × (forms ++ more ≡ all)
forms-front forms all (Unfinished more left) e = (more, (cc))
forms-front forms all (Broken more place kind) e = absurd (cc)

pub part-read : OneSequence → NotBoth → ReadsText → GoesOnText → (back : List Group) (part more : List ℕ)
    → AllByRecursion IsGroup back → part ++ more ≡ log_text back → IsPart part back → PartRead part
part-read one_sequence not_both reads goes_on [] part more each e is =
    let begins = sequence-begins [] [] (record { each = tt; text_is = refl }) in
    let read = unfinished not_both reads part (subst Begins (sym is) begins) in
    let same =
    one_sequence [] read.0 [] read.1 []
    (subst (λ (t : List ℕ). LongestSequence t read.0 read.1) is read.3) empty-sequence in
    record {
      forms = read.0;
      left = read.1;
      opened = None;
      reading_is = read.2;
      words_are = ap commands_in same.0;
      within = tt;
    }
part-read one_sequence not_both reads goes_on (group ∷ groups) part more each e is =
    let all = written (group ∷ groups) each in
    let words = items_words (items_of (group ∷ groups)) in
    let seq = written-is-sequence (group ∷ groups) all in
    let begins : Begins part = (more, given words, record { each = seq.each; text_is = e ∙ seq.text_is }) in
    let read = unfinished not_both reads part begins in
    let joined : behind_forms read.0 (reading (read.1 ++ more)) ≡ Unfinished (given words) [] =
    sym (goes_on part more read.0 read.1 read.2) ∙ ap reading e
    ∙ sequence-reading one_sequence not_both reads (log_text (group ∷ groups)) (given words) seq in
    let front = forms-front read.0 (given words) (reading (read.1 ++ more)) joined in
    let xs = commands_in read.0 in
    let forms_are = given-front read.0 front.0 words front.1 in
    let words_join : xs ++ commands_in front.0 ≡ item_words (item_of group) ++ items_words (items_of groups) =
    sym (commands-append read.0 front.0) ∙ ap commands_in front.1 ∙ given-commands words in
    let first = group-written group each.0 in
    let text_is : part ≡ flat_map frame xs ++ read.1 = read.3.text_is ∙ ap (λ fs. sequence_text fs ++ read.1) forms_are
    ∙ ap (λ t. t ++ read.1) (given-text xs) in
    by_fronts read.0 read.1 read.2 text_is first.1 first.3
    (two-fronts xs (commands_in front.0) (item_words (item_of group)) (items_words (items_of groups)) words_join)
  where
    by_fronts : (forms : List Form) (left : List ℕ) → reading part ≡ Unfinished forms left
        → part ≡ flat_map frame (commands_in forms) ++ left
        → group_text group ≡ flat_map frame (item_words (item_of group)) → IsItem (item_of group)
        → Fronts (commands_in forms) (item_words (item_of group)) → PartRead part
    by_fronts forms left reading_is text_is group_is within (Longer rest is_longer) =
        let sizes = ap length text_is in
        let longer = ap (λ ws. length (flat_map frame ws)) is_longer in
        let parts = ap length (flat_map-append frame (item_words (item_of group)) rest) in
        let whole = ap length group_is in
        absurd
        (omega (
          arith,
          sizes,
          longer,
          parts,
          whole,
          length-append (flat_map frame (commands_in forms)) left,
          length-append (flat_map frame (item_words (item_of group))) (flat_map frame rest),
          is,
        ))
    by_fronts forms left reading_is text_is group_is within (Shorter next rest is_shorter) =
        let opened = open-front (item_of group) (commands_in forms) rest next is_shorter within in
        record {
          forms = forms;
          left = left;
          opened = opened.0;
          reading_is = reading_is;
          words_are = opened.1;
          within = opened.2;
        }

cut-log : OneSequence → NotBoth → ReadsText → GoesOnText → WordsGiven
    → (front : List Group) (part more : List ℕ) (groups : List Group) → AllByRecursion IsGroup front
    → AllByRecursion IsGroup groups → (log_text front ++ part) ++ more ≡ log_text groups → (read : PartRead part)
    → IsLog (log_text front ++ part) (items_of front) read.opened
cut-log one_sequence not_both reads goes_on words_given front part more groups each_front each e read =
    let all = written-is-sequence groups (written groups each) in
    let text = log_text front ++ part in
    let begins : Begins text =
    (more, given (items_words (items_of groups)), record { each = all.each; text_is = e ∙ all.text_is }) in
    let words = items_words (items_of front) in
    let seq = written-is-sequence front (written front each_front) in
    let reading_is : reading text ≡ Unfinished (given words ++ read.forms) read.left =
    goes_on (log_text front) part (given words) []
    (sequence-reading one_sequence not_both reads (log_text front) (given words) seq)
    ∙ ap (behind_forms (given words)) read.reading_is in
    let is = subst (IsReadingOf text) reading_is (reads text) in
    record {
      commands = commands_from 0 (given words ++ read.forms);
      whole = record { forms = given words ++ read.forms; rest = read.left; sequence = is.0; commands_are = refl };
      begins = begins;
      within = ((written front each_front).within, read.within);
      words_are = words_given 0 (given words ++ read.forms) ∙ commands-append (given words) read.forms
          ∙ ap (λ ws. ws ++ commands_in read.forms) (given-commands words)
          ∙ ap (λ ws. words ++ ws) read.words_are;
    }

pub cut-reads : OneSequence → NotBoth → ReadsText → GoesOnText → WordsGiven → (groups : List Group) (text more : List ℕ)
    → AllByRecursion IsGroup groups → text ++ more ≡ log_text groups
    → IsCut text groups
cut-reads one_sequence not_both reads goes_on words_given groups text more each e =
    let cut = cut-at groups text more e in
    let each_both = subst (AllByRecursion IsGroup) cut.groups_are each in
    let each_front = each-front IsGroup cut.front cut.back each_both in
    let read = part-read one_sequence not_both reads goes_on cut.back cut.part more
    (each-back IsGroup cut.front cut.back each_both) cut.rest_is cut.part_is in
    let log = cut-log one_sequence not_both reads goes_on words_given cut.front cut.part more groups each_front each
    (ap (λ t. t ++ more) (sym cut.text_is) ∙ e) read in
    let log_text_is = subst (λ (t : List ℕ). IsLog t (items_of cut.front) read.opened) (sym cut.text_is) log in
    record {
      front = cut.front;
      back = cut.back;
      part = cut.part;
      groups_are = cut.groups_are;
      text_is = cut.text_is;
      part_is = cut.part_is;
      read = subst (IsGroups text) (written cut.front each_front).groups_are
          (log-groups text (items_of cut.front) read.opened log_text_is);
      good = log-good one_sequence not_both text (items_of cut.front) read.opened log_text_is;
    }

pub whole-reads : OneSequence → NotBoth → WordsGiven → (groups : List Group) → AllByRecursion IsGroup groups
    → IsGroups (log_text groups) groups × (HasBadPlace (log_text groups) → ⊥)
whole-reads one_sequence not_both words_given groups each =
    let log = written-log words_given groups each in (
      subst (IsGroups (log_text groups)) (written groups each).groups_are
          (log-groups (log_text groups) (items_of groups) None log),
      log-good one_sequence not_both (log_text groups) (items_of groups) None log,
    )
