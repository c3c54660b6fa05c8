-- Commands read one by one are a sequence of items and the part of one.
use Rattle.std.proofs.Common.{◌≡◌, ℕ, true, false, cond, is_some, Option, Some, None, List, [], ◌∷◌, ◌++◌, map, refl}
use Rattle.std.proofs.Common.{sym, ap, subst, ◌∙◌, append_assoc, append-nil}
use Rattle.std.specs.List.{AllByRecursion}
use Rattle.std.proofs.lemmas.Bool.{false_from_ne_true}
use Rattle.std.proofs.lemmas.Grind.{flat_map-append}
use Rattle.std.proofs.lemmas.List.{map-append}
use Rattle.rs_base.proofs.Lists.{each-append}
use Rattle.fx_record.specs.declared.record.Record.{Record}
use Rattle.fx_record.specs.RecordWords.{words_of, IsRecord}
use Rattle.resp_read.specs.declared.command.Command.{Command}
use Rattle.resp_read.proofs.Cases.{by_test, either_way}
use Rattle.fx_log.specs.declared.command.LogCommand.{LogCommand}
use Rattle.fx_log.specs.declared.command.LogCommand.TheVariants.{Multi, Exec, Record as OneRecord, Other}
use Rattle.fx_log.specs.declared.group.Group.{Group}
use Rattle.fx_log.specs.declared.stops.LogKind.{LogKind}
use Rattle.fx_log.specs.Items.{multi, exec, Item, Bare, Wrapped, item_words, items_words, IsItem, AreItems, IsOpen}
use Rattle.fx_log.specs.Items.{open_words, BeginsItems, item_groups, groups_of}
use Rattle.fx_log.specs.LogCommands.{command_of, fits, kind_of, groups_at, open_after}
use Rattle.fx_log.specs.Logs.{words_in, StopsItems, Splits}
use Rattle.fx_log.specs.Reading.{LogRead, Reads, Breaks, read_from}
use Rattle.fx_log.proofs.CommandLaws.{AreWordsOf, command-record, command-words}

-- commands with these words are these groups and the part of an item
pub record Stood (words : List (List (List ℕ))) (groups : List Group) (opened : Option (List Record)) : Type 0 where
  pub items : List Item
  pub within : AreItems items × IsOpen opened
  pub words_are : words ≡ items_words items ++ open_words opened
  pub groups_are : groups ≡ groups_of items

pub stood-start : Stood [] [] None
stood-start = record { items = []; within = (tt, tt); words_are = refl; groups_are = refl }

begin-at : (items : List Item) → (items_words items ++ []) ++ multi ∷ [] ≡ items_words items ++ open_words (Some [])
begin-at items = ap (λ ws. ws ++ multi ∷ []) (append-nil (items_words items))

items-more : (items : List Item) (item : Item) → items_words (items ++ item ∷ []) ≡ items_words items ++ item_words item
items-more items item = flat_map-append item_words items (item ∷ [])
    ∙ ap (λ ws. items_words items ++ ws) (append-nil (item_words item))

groups-more : (items : List Item) (item : Item) → groups_of (items ++ item ∷ []) ≡ groups_of items ++ item_groups item
groups-more items item = flat_map-append item_groups items (item ∷ [])
    ∙ ap (λ gs. groups_of items ++ gs) (append-nil (item_groups item))

bare-at : (items : List Item) (r : Record) → (items_words items ++ []) ++ words_of r ∷ []
    ≡ items_words (items ++ Bare r ∷ []) ++ []
bare-at items r =
    ap (λ ws. ws ++ words_of r ∷ []) (append-nil (items_words items)) ∙ sym (items-more items (Bare r))
    ∙ sym (append-nil (items_words (items ++ Bare r ∷ [])))

end-at : (items : List Item) (records : List Record)
    → (items_words items ++ open_words (Some records)) ++ exec ∷ [] ≡ items_words (items ++ Wrapped records ∷ []) ++ []
end-at items records =
    append_assoc (items_words items) (open_words (Some records)) (exec ∷ []) ∙ sym (items-more items (Wrapped records))
    ∙ sym (append-nil (items_words (items ++ Wrapped records ∷ [])))

more-at : (items : List Item) (records : List Record) (r : Record)
    → (items_words items ++ open_words (Some records)) ++ words_of r ∷ [] ≡ items_words items
    ++ open_words (Some (records ++ r ∷ []))
more-at items records r =
    append_assoc (items_words items) (open_words (Some records)) (words_of r ∷ [])
    ∙ ap (λ ws. items_words items ++ (multi ∷ ws)) (sym (map-append words_of records (r ∷ [])))

-- a command that fits
pub stood-more : (words : List (List (List ℕ))) (w : List (List ℕ)) (groups : List Group)
    (opened : Option (List Record)) (c : LogCommand) → AreWordsOf w c
    → fits (is_some opened) c ≡ true → Stood words groups opened
    → Stood (words ++ w ∷ []) (groups ++ groups_at opened c) (open_after opened c)
stood-more words w groups None Multi is fit stood = record {
  items = stood.items;
  within = (stood.within.0, tt);
  words_are = ap (λ ws. ws ++ w ∷ []) stood.words_are ∙ ap (λ v. (items_words stood.items ++ []) ++ v ∷ []) is
      ∙ begin-at stood.items;
  groups_are = append-nil groups ∙ stood.groups_are;
}
stood-more words w groups None Exec is fit stood = absurd (cc)
stood-more words w groups None (OneRecord r) is fit stood = record {
  items = stood.items ++ Bare r ∷ [];
  within = (each-append IsItem stood.items (Bare r ∷ []) stood.within.0 (is.1, tt), tt);
  words_are = ap (λ ws. ws ++ w ∷ []) stood.words_are ∙ ap (λ v. (items_words stood.items ++ []) ++ v ∷ []) is.0
      ∙ bare-at stood.items r;
  groups_are = ap (λ gs. gs ++ item_groups (Bare r)) stood.groups_are ∙ sym (groups-more stood.items (Bare r));
}
stood-more words w groups None Other is fit stood = absurd (cc)
stood-more words w groups (Some records) Multi is fit stood = absurd (cc)
stood-more words w groups (Some records) Exec is fit stood = record {
  items = stood.items ++ Wrapped records ∷ [];
  within = (each-append IsItem stood.items (Wrapped records ∷ []) stood.within.0 (stood.within.1, tt), tt);
  words_are = ap (λ ws. ws ++ w ∷ []) stood.words_are
      ∙ ap (λ v. (items_words stood.items ++ open_words (Some records)) ++ v ∷ []) is ∙ end-at stood.items records;
  groups_are = ap (λ gs. gs ++ item_groups (Wrapped records)) stood.groups_are
      ∙ sym (groups-more stood.items (Wrapped records));
}
stood-more words w groups (Some records) (OneRecord r) is fit stood = record {
  items = stood.items;
  within = (stood.within.0, each-append IsRecord records (r ∷ []) stood.within.1 (is.1, tt));
  words_are = ap (λ ws. ws ++ w ∷ []) stood.words_are
      ∙ ap (λ v. (items_words stood.items ++ open_words (Some records)) ++ v ∷ []) is.0 ∙ more-at stood.items records r;
  groups_are = append-nil groups ∙ stood.groups_are;
}
stood-more words w groups (Some records) Other is fit stood = absurd (cc)

pub stood-begins : (words : List (List (List ℕ))) (groups : List Group) (opened : Option (List Record))
    → Stood words groups opened → BeginsItems words
stood-begins words groups None stood = (
  [],
  stood.items,
  stood.within.0,
  ap (λ ws. ws ++ []) stood.words_are ∙ append-nil (items_words stood.items ++ [])
      ∙ append-nil (items_words stood.items),
)
stood-begins words groups (Some records) stood = (
  exec ∷ [],
  stood.items ++ Wrapped records ∷ [],
  each-append IsItem stood.items (Wrapped records ∷ []) stood.within.0 (stood.within.1, tt),
  ap (λ ws. ws ++ exec ∷ []) stood.words_are ∙ end-at stood.items records
      ∙ append-nil (items_words (stood.items ++ Wrapped records ∷ [])),
)

-- what is read behind commands that are read
abbrev pub and_then : LogRead → List Command → LogRead
and_then (Reads groups opened) commands = read_from groups opened commands
and_then (Breaks groups place kind) commands = Breaks groups place kind

pub read-append : (groups : List Group) (opened : Option (List Record)) (xs ys : List Command)
    → read_from groups opened (xs ++ ys) ≡ and_then (read_from groups opened xs) ys
read-append groups opened [] ys = refl
read-append groups opened (x ∷ xs) ys =
    let next = λ (cs : List Command). read_from (groups ++ groups_at opened (command_of x.words))
    (open_after opened (command_of x.words)) cs in
    let broke = Breaks groups x.place (kind_of (command_of x.words)) in
    either_way
    (λ t. cond t (next (xs ++ ys)) broke ≡ and_then (cond t (next xs) broke) ys)
    (fits (is_some opened) (command_of x.words))
    (read-append (groups ++ groups_at opened (command_of x.words)) (open_after opened (command_of x.words)) xs ys)
    refl

-- a reading behind more groups
abbrev pub behind : List Group → LogRead → LogRead
behind before (Reads groups opened) = Reads (before ++ groups) opened
behind before (Breaks groups place kind) = Breaks (before ++ groups) place kind

pub read-behind : (before groups : List Group) (opened : Option (List Record)) (commands : List Command)
    → read_from (before ++ groups) opened commands ≡ behind before (read_from groups opened commands)
read-behind before groups opened [] = refl
read-behind before groups opened (x ∷ xs) =
    let c = command_of x.words in
    either_way
    (λ t. cond t (read_from ((before ++ groups) ++ groups_at opened c) (open_after opened c) xs)
    (Breaks (before ++ groups) x.place (kind_of c))
    ≡ behind before
    (cond t (read_from (groups ++ groups_at opened c) (open_after opened c) xs)
    (Breaks groups x.place (kind_of c))))
    (fits (is_some opened) c)
    (ap (λ gs. read_from gs (open_after opened c) xs) (append_assoc before groups (groups_at opened c))
    ∙ read-behind before (groups ++ groups_at opened c) (open_after opened c) xs)
    refl

-- commands at no place
abbrev pub plain : List (List (List ℕ)) → List Command
plain words = map (λ (w : List (List ℕ)). record { words = w; place = 0 }) words

-- where a reading breaks off no further than at its end, places do not matter
pub same-words : (xs ys : List Command) (groups : List Group) (opened : Option (List Record)) (given : List Group)
    (left : Option (List Record)) → words_in xs ≡ words_in ys
    → read_from groups opened xs ≡ Reads given left → read_from groups opened ys ≡ Reads given left
same-words [] [] groups opened given left same e = e
same-words [] (y ∷ ys) groups opened given left same e = absurd (cc)
same-words (x ∷ xs) [] groups opened given left same e = absurd (cc)
same-words (x ∷ xs) (y ∷ ys) groups opened given left same e =
    let head : x.words ≡ y.words = cc in
    let tail : words_in xs ≡ words_in ys = cc in
    let c = command_of x.words in
    let at_x = by_test
    (λ t. cond t (read_from (groups ++ groups_at opened c) (open_after opened c) xs) (Breaks groups x.place (kind_of c))
    ≡ Reads given left
    → cond t (read_from (groups ++ groups_at opened c) (open_after opened c) ys) (Breaks groups y.place (kind_of c))
    ≡ Reads given left)
    (fits (is_some opened) c)
    (λ passed went. same-words xs ys (groups ++ groups_at opened c) (open_after opened c) given left tail went)
    (λ failed broke. absurd (cc))
    e in
    subst (λ (w : List (List ℕ)). read_from groups opened (record { words = w; place = y.place } ∷ ys)
    ≡ Reads given left) head at_x

read-record : (groups : List Group) (opened : Option (List Record)) (r : Record) (rest : List (List (List ℕ)))
    → IsRecord r
    → read_from groups opened (plain (words_of r ∷ rest))
    ≡ read_from (groups ++ groups_at opened (OneRecord r)) (open_after opened (OneRecord r)) (plain rest)
read-record groups opened r rest within =
    ap
    (λ c. cond (fits (is_some opened) c) (read_from (groups ++ groups_at opened c) (open_after opened c) (plain rest))
    (Breaks groups 0 (kind_of c)))
    (command-record r within)

records-read : (records before : List Record) (groups : List Group) (rest : List (List (List ℕ)))
    → AllByRecursion IsRecord records
    → read_from groups (Some before) (plain (map words_of records ++ rest))
    ≡ read_from groups (Some (before ++ records)) (plain rest)
records-read [] before groups rest within = ap (λ rs. read_from groups (Some rs) (plain rest)) (sym (append-nil before))
records-read (r ∷ records) before groups rest within =
    read-record groups (Some before) r (map words_of records ++ rest) within.0
    ∙ ap (λ gs. read_from gs (Some (before ++ r ∷ [])) (plain (map words_of records ++ rest))) (append-nil groups)
    ∙ records-read records (before ++ r ∷ []) groups rest within.1
    ∙ ap (λ rs. read_from groups (Some rs) (plain rest)) (append_assoc before (r ∷ []) records)

item-reads : (item : Item) (groups : List Group) → IsItem item
    → read_from groups None (plain (item_words item)) ≡ Reads (groups ++ item_groups item) None
item-reads (Bare r) groups within = read-record groups None r [] within
item-reads (Wrapped records) groups within =
    ap (λ gs. read_from gs (Some []) (plain (map words_of records ++ exec ∷ []))) (append-nil groups)
    ∙ records-read records [] groups (exec ∷ []) within

plain-append : (xs ys : List (List (List ℕ))) → plain (xs ++ ys) ≡ plain xs ++ plain ys
plain-append xs ys = map-append (λ (w : List (List ℕ)). record { words = w; place = 0 }) xs ys

pub items-read : (items : List Item) (groups : List Group) → AreItems items
    → read_from groups None (plain (items_words items)) ≡ Reads (groups ++ groups_of items) None
items-read [] groups within = ap (λ gs. Reads gs None) (sym (append-nil groups))
items-read (item ∷ items) groups within =
    ap (read_from groups None) (plain-append (item_words item) (items_words items))
    ∙ read-append groups None (plain (item_words item)) (plain (items_words items))
    ∙ ap (λ r. and_then r (plain (items_words items))) (item-reads item groups within.0)
    ∙ items-read items (groups ++ item_groups item) within.1
    ∙ ap (λ gs. Reads gs None) (append_assoc groups (item_groups item) (groups_of items))

open-reads : (opened : Option (List Record)) (groups : List Group) → IsOpen opened
    → read_from groups None (plain (open_words opened)) ≡ Reads groups opened
open-reads None groups within = refl
open-reads (Some records) groups within =
    ap (λ gs. read_from gs (Some []) (plain (map words_of records))) (append-nil groups)
    ∙ ap (λ ws. read_from groups (Some []) (plain ws)) (sym (append-nil (map words_of records)))
    ∙ records-read records [] groups [] within

pub stood-reads : (words : List (List (List ℕ))) (groups : List Group) (opened : Option (List Record))
    → Stood words groups opened
    → read_from [] None (plain words) ≡ Reads groups opened
stood-reads words groups opened stood =
    ap (λ ws. read_from [] None (plain ws)) stood.words_are
    ∙ ap (read_from [] None) (plain-append (items_words stood.items) (open_words opened))
    ∙ read-append [] None (plain (items_words stood.items)) (plain (open_words opened))
    ∙ ap (λ r. and_then r (plain (open_words opened))) (items-read stood.items [] stood.within.0)
    ∙ open-reads opened (groups_of stood.items) stood.within.1
    ∙ ap (λ gs. Reads gs opened) (sym stood.groups_are)

-- a command that does not fit
pub stood-bad : (words : List (List (List ℕ))) (w : List (List ℕ)) (groups : List Group) (opened : Option (List Record))
    → Stood words groups opened
    → fits (is_some opened) (command_of w) ≡ false → BeginsItems (words ++ w ∷ []) → ⊥
stood-bad words w groups opened stood no_fit (more, items, within, e) =
    let whole = items-read items [] within in
    let broke = Breaks groups 0 (kind_of (command_of w)) in
    let at_word : read_from groups opened (plain (w ∷ [])) ≡ broke =
    ap (λ t. cond t (Reads (groups ++ groups_at opened (command_of w)) (open_after opened (command_of w))) broke) no_fit
    in
    let through : read_from [] None (plain (words ++ w ∷ [])) ≡ broke =
    ap (read_from [] None) (plain-append words (w ∷ [])) ∙ read-append [] None (plain words) (plain (w ∷ []))
    ∙ ap (λ r. and_then r (plain (w ∷ []))) (stood-reads words groups opened stood) ∙ at_word in
    let all : read_from [] None (plain (items_words items)) ≡ broke =
    ap (λ ws. read_from [] None (plain ws)) (sym e) ∙ ap (read_from [] None) (plain-append (words ++ w ∷ []) more)
    ∙ read-append [] None (plain (words ++ w ∷ [])) (plain more) ∙ ap (λ r. and_then r (plain more)) through in
    let wrong : Reads ([] ++ groups_of items) None ≡ broke = sym whole ∙ all in
    cc

words-plain : (words : List (List (List ℕ))) → words_in (plain words) ≡ words
words-plain [] = refl
words-plain (w ∷ words) = ap (λ ws. w ∷ ws) (words-plain words)

-- the same of commands at their places
pub stood-commands : (commands : List Command) (groups : List Group) (opened : Option (List Record))
    → Stood (words_in commands) groups opened
    → read_from [] None commands ≡ Reads groups opened
stood-commands commands groups opened stood =
    same-words (plain (words_in commands)) commands [] None groups opened (words-plain (words_in commands))
    (stood-reads (words_in commands) groups opened stood)

-- what is read of commands that split so
abbrev pub split_read : List Item → Option (List Record) → List Command → LogRead
split_read items opened [] = Reads (groups_of items) opened
split_read items opened (command ∷ rest) = Breaks (groups_of items) command.place (kind_of (command_of command.words))

pub stopped-fits : (words : List (List (List ℕ))) (w : List (List ℕ)) (groups : List Group)
    (opened : Option (List Record)) → Stood words groups opened
    → (BeginsItems (words ++ w ∷ []) → ⊥) → fits (is_some opened) (command_of w) ≡ false
stopped-fits words w groups opened stood stops =
    false_from_ne_true (fits (is_some opened) (command_of w))
    (λ passed.
    stops (stood-begins _ _ _ (stood-more words w groups opened (command_of w) (command-words w) passed stood)))

pub splits-read : (commands front rest : List Command) (items : List Item) (opened : Option (List Record))
    → Splits commands front rest items opened
    → read_from [] None commands ≡ split_read items opened rest
splits-read commands front rest items opened splits =
    let stood : Stood (words_in front) (groups_of items) opened =
    record { items = items; within = splits.within; words_are = splits.front_is; groups_are = refl } in
    ap (read_from [] None) splits.commands_are ∙ read-append [] None front rest
    ∙ ap (λ r. and_then r rest) (stood-commands front (groups_of items) opened stood)
    ∙ by_rest rest splits.stops
  where
    by_rest : (rest : List Command) → StopsItems (words_in front) rest
        → read_from (groups_of items) opened rest ≡ split_read items opened rest
    by_rest [] stops = refl
    by_rest (command ∷ rest) stops =
        let stood : Stood (words_in front) (groups_of items) opened =
        record { items = items; within = splits.within; words_are = splits.front_is; groups_are = refl } in
        let no_fit = stopped-fits (words_in front) command.words (groups_of items) opened stood stops in
        ap
        (λ t. cond
        t
        (read_from (groups_of items ++ groups_at opened (command_of command.words))
        (open_after opened (command_of command.words)) rest)
        (Breaks (groups_of items) command.place (kind_of (command_of command.words))))
        no_fit

-- commands that are read to the end
pub read-stood : (commands : List Command) (words : List (List (List ℕ))) (groups : List Group)
    (opened : Option (List Record)) (given : List Group) (left : Option (List Record))
    → Stood words groups opened → read_from groups opened commands ≡ Reads given left
    → Stood (words ++ words_in commands) given left
read-stood [] words groups opened given left stood e =
    let groups_same : groups ≡ given = cc in
    let opened_same : opened ≡ left = cc in
    subst (λ (ws : List (List (List ℕ))). Stood ws given left) (sym (append-nil words))
    (subst (λ (gs : List Group). Stood words gs left) groups_same
    (subst (λ (o : Option (List Record)). Stood words groups o) opened_same stood))
read-stood (x ∷ xs) words groups opened given left stood e =
    let c = command_of x.words in
    by_test
    (λ t. fits (is_some opened) c ≡ t
    → cond t (read_from (groups ++ groups_at opened c) (open_after opened c) xs) (Breaks groups x.place (kind_of c))
    ≡ Reads given left
    → Stood (words ++ words_in (x ∷ xs)) given left)
    (fits (is_some opened) c)
    (λ passed is went. subst (λ (ws : List (List (List ℕ))). Stood ws given left)
    (append_assoc words (x.words ∷ []) (words_in xs))
    (read-stood xs (words ++ x.words ∷ []) (groups ++ groups_at opened c) (open_after opened c) given left
    (stood-more words x.words groups opened c (command-words x.words) passed stood) went))
    (λ failed is broke. absurd (cc))
    refl
    e

-- commands that are read up to one that does not fit
pub record Broke (commands : List Command) (words : List (List (List ℕ))) (given : List Group) (place : ℕ)
    (kind : LogKind) : Type 0 where
  pub front : List Command
  pub bad : Command
  pub rest : List Command
  pub left : Option (List Record)
  pub commands_are : commands ≡ front ++ bad ∷ rest
  pub stood : Stood (words ++ words_in front) given left
  pub no_fit : fits (is_some left) (command_of bad.words) ≡ false
  pub place_is : place ≡ bad.place
  pub kind_is : kind ≡ kind_of (command_of bad.words)

pub read-broke : (commands : List Command) (words : List (List (List ℕ))) (groups : List Group)
    (opened : Option (List Record)) (given : List Group) (place : ℕ) (kind : LogKind)
    → Stood words groups opened → read_from groups opened commands ≡ Breaks given place kind
    → Broke commands words given place kind
read-broke [] words groups opened given place kind stood e = absurd (cc)
read-broke (x ∷ xs) words groups opened given place kind stood e =
    let c = command_of x.words in
    by_test
    (λ t. fits (is_some opened) c ≡ t
    → cond t (read_from (groups ++ groups_at opened c) (open_after opened c) xs) (Breaks groups x.place (kind_of c))
    ≡ Breaks given place kind
    → Broke (x ∷ xs) words given place kind)
    (fits (is_some opened) c)
    (λ passed is went.
    let later = read-broke xs (words ++ x.words ∷ []) (groups ++ groups_at opened c)
    (open_after opened c) given place kind
    (stood-more words x.words groups opened c (command-words x.words) passed stood) went in
    record {
      front = x ∷ later.front;
      bad = later.bad;
      rest = later.rest;
      left = later.left;
      commands_are = ap (λ cs. x ∷ cs) later.commands_are;
      stood = subst (λ (ws : List (List (List ℕ))). Stood ws given later.left)
          (append_assoc words (x.words ∷ []) (words_in later.front)) later.stood;
      no_fit = later.no_fit;
      place_is = later.place_is;
      kind_is = later.kind_is;
    })
    (λ failed is broke.
    let groups_same : groups ≡ given = cc in
    record {
      front = [];
      bad = x;
      rest = xs;
      left = opened;
      commands_are = refl;
      stood = subst (λ (ws : List (List (List ℕ))). Stood ws given opened) (sym (append-nil words))
          (subst (λ (gs : List Group). Stood words gs opened) groups_same stood);
      no_fit = failed;
      place_is = cc;
      kind_is = cc;
    })
    refl
    e
