-- Slices of strings, and strings that are written over, by their bytes.
use Rattle.std.proofs.Common.{◌≡◌, ◌≢◌, ℕ, suc, ◌+◌, ◌-◌, ◌<◌, ◌≤◌, true, false, cond, List, [], ◌∷◌, ◌++◌}
use Rattle.std.proofs.Common.{length, get_or, take, drop, Option, Some, None, Ok, Err, inl, inr, refl, sym, ap, subst}
use Rattle.std.proofs.Common.{◌∙◌, arith, length-append, length-drop, T}
use Rattle.std.specs.Prelude.{ℤ, pos, negsuc, min, max, nat_lt, nat_le, replicate}
use Rattle.std.specs.Option.{unwrap_or}
use Rattle.std.specs.FinMap as finite
use Rattle.std.proofs.lemmas.Bool.{leb-true, leb-false, lt-leb, le-ltb}
use Rattle.std.proofs.Math.Seq.{drop-nil, take-nil}
use Rattle.std.proofs.lemmas.List.{length-take, length-replicate, get_or-take, get_or-drop, get_or-append_right}
use Rattle.std.proofs.lemmas.List.{get_or_append_left, get_or-replicate}
use Rattle.ks_space.specs.Store.{Store}
use Rattle.resp_reply.specs.declared.reply.Reply.TheVariants.{Int}
use Rattle.fx_record.specs.declared.record.Record.TheVariants.{SetKeeping}
use Rattle.cmd_args.specs.declared.refusal.Refusal.TheVariants.{TooLong}
use Rattle.cmd_rows.specs.Numbers.{number}
use Rattle.cmd_rows.specs.Outcomes.{does, refused, with_found}
use Rattle.cmd_rows.specs.Strings.{string_in, string_at}
use Rattle.cmd_string.specs.Ranges.{place_in, is_backward, between, part, written_over}
use Rattle.cmd_string.specs.SliceLaws.{Holds, HoldsOrLacks, Names, IsSlice, IsBackward, IsWrittenOver}
use Rattle.cmd_string.specs.StringRows.{grown_row, setrange_row}
use Rattle.cmd_string.proofs.GivenBySet.{range-grown, setrange-row}
use Rattle.cmd_string.proofs.OtherKinds.{string-there}
use Rattle.cmd_string.proofs.StringWalk.{by_test}

-- places
pub not_backward : (start end : ℤ) → (IsBackward start end → ⊥) → is_backward start end ≡ false
not_backward (pos s) end forward = refl
not_backward (negsuc s) (pos e) forward = refl
not_backward (negsuc s) (negsuc e) forward =
    by_test (λ b. b ≡ false) (nat_lt s e)
    (λ is. absurd (forward (record { lt = subst T (sym is) tt }, record { lt = tt }))) (λ _. refl)

pub backward : (start end : ℤ) → IsBackward start end → is_backward start end ≡ true
backward (pos s) end is = absurd (subst T (le-ltb s 0 (omega arith)) is.1.lt)
backward (negsuc s) (pos e) is = absurd (is.0.lt)
backward (negsuc s) (negsuc e) is =
    by_test (λ b. b ≡ true) (nat_lt s e) (λ _. refl) (λ unmet. absurd (subst T unmet is.0.lt))

names : (count : ℕ) (z : ℤ) → Names count z (place_in count z)
names count (pos n) = refl
names count (negsuc n) =
    by_test (λ _. Names count (negsuc n) (count - suc n)) (nat_le (suc n) count)
    (λ fits. let within = leb-true (suc n) count fits in inl (omega arith))
    (λ past. let short = leb-false (suc n) count past in inr (omega arith, omega arith))

-- the bytes between two places
pub slice : (text : List ℕ) (start end : ℤ)
    → IsSlice text start end (between text (place_in (length text) start) (place_in (length text) end))
slice text start end =
    let from = place_in (length text) start in
    let to = place_in (length text) end in
    record {
      from = from;
      to = to;
      from_is = names (length text) start;
      to_is = names (length text) end;
      length_is = simp (length-take, length-drop) (omega arith);
      byte_is = λ i within.
          let short : i < min (to + 1 - from) (length text - from) =
          subst (λ n. i < n) (length-take (to + 1 - from) (drop from text)
          ∙ ap (min (to + 1 - from)) (length-drop from text)) within in
          let few : i < to + 1 - from = omega arith in
          get_or-take (to + 1 - from) (drop from text) i 0 few ∙ get_or-drop from text i 0;
    }

-- the string at a key
pub held : (store : Store) (key text : List ℕ) → Holds store key text → string_at store key ≡ Ok (Some text)
held store key text holds = string-there store key text holds.entry holds.is_there holds.is_string

pub lacked : (store : Store) (key : List ℕ) → finite.get store key ≡ None → string_at store key ≡ Ok None
lacked store key absent = ap string_in absent

pub held_or_none : (store : Store) (key text : List ℕ) → HoldsOrLacks store key text → (found : Option (List ℕ))
    × (string_at store key ≡ Ok found) × (unwrap_or found [] ≡ text)
held_or_none store key text (inl holds) = (Some text, held store key text holds, refl)
held_or_none store key text (inr lacks) = (None, lacked store key lacks.0, sym lacks.1)

-- a string that is written over
module _ (old : List ℕ) (offset : ℕ) (value : List ℕ) where
  -- the old bytes before the value, the zero bytes behind them, and the old bytes behind the value
  abbrev front : List ℕ
  front = take offset old

  abbrev zeros : List ℕ
  zeros = replicate (offset - length old) 0

  abbrev back : List ℕ
  back = drop (offset + length value) old

  start-length : length (front ++ zeros) ≡ offset
  start-length = simp (length-append, length-take, length-replicate) (omega arith)

  value-length : length (front ++ zeros ++ value) ≡ offset + length value
  value-length = length-append (front ++ zeros) value ∙ ap (λ n. n + length value) start-length

  pub over-length : length (written_over old offset value) ≡ max (length old) (offset + length value)
  over-length = simp (length-append, length-take, length-replicate, length-drop) (omega arith)

  -- before the end of the value, and before its beginning
  early : (i : ℕ) → i < offset + length value
      → get_or (written_over old offset value) i 0 ≡ get_or (front ++ zeros ++ value) i 0
  early i before =
      let within : i < length (front ++ zeros ++ value) = rw value-length before in
      get_or_append_left (front ++ zeros ++ value) back 0 i within

  earlier : (i : ℕ) → i < offset → get_or (written_over old offset value) i 0 ≡ get_or (front ++ zeros) i 0
  earlier i before =
      let within : i < length (front ++ zeros) = rw start-length before in
      early i (omega arith) ∙ get_or_append_left (front ++ zeros) value 0 i within

  over-within : (i : ℕ) → i < length value → get_or (written_over old offset value) (offset + i) 0 ≡ get_or value i 0
  over-within i within =
      let at : offset + i - offset ≡ i = omega arith in
      early (offset + i) (omega arith)
      ∙ get_or-append_right (front ++ zeros) value offset (offset + i) 0 start-length (omega arith)
      ∙ ap (λ n. get_or value n 0) at

  over-before : (i : ℕ) → i < offset → i < length old → get_or (written_over old offset value) i 0 ≡ get_or old i 0
  over-before i before there =
      let within : i < length front = rw (length-take offset old) (omega arith) in
      earlier i before ∙ get_or_append_left front zeros 0 i within ∙ get_or-take offset old i 0 before

  over-behind : (i : ℕ) → offset + length value ≤ i → i < length old
      → get_or (written_over old offset value) i 0 ≡ get_or old i 0
  over-behind i late there =
      let at : offset + length value + (i - (offset + length value)) ≡ i = omega arith in
      get_or-append_right (front ++ zeros ++ value) back (offset + length value) i 0 value-length late
      ∙ get_or-drop (offset + length value) old (i - (offset + length value)) 0 ∙ ap (λ n. get_or old n 0) at

  over-between : (i : ℕ) → length old ≤ i → i < offset → get_or (written_over old offset value) i 0 ≡ 0
  over-between i late before =
      let short : length front ≡ length old = length-take offset old ∙ omega arith in
      earlier i before ∙ get_or-append_right front zeros (length old) i 0 short late
      ∙ get_or-replicate (offset - length old) (i - length old) 0 0 (omega arith)

  pub over : IsWrittenOver old offset value (written_over old offset value)
  over = record {
    length_is = over-length;
    within = over-within;
    before = over-before;
    behind = over-behind;
    between = over-between;
  }

-- no bytes of none
pub part-none : (start end : ℤ) → part [] start end ≡ []
part-none start end =
    by_test (λ b. cond b [] (between [] (place_in 0 start) (place_in 0 end)) ≡ []) (is_backward start end) (λ _. refl)
    (λ _. ap (take (place_in 0 end + 1 - place_in 0 start)) (drop-nil (place_in 0 start)) ∙ take-nil _)

-- a string that is too long
grown-long : (key text : List ℕ) → 16777216 < length text → grown_row key text ≡ refused TooLong
grown-long key text long =
    ap (λ b. with_found (cond b (Ok text) (Err TooLong))
    (λ new. does (Int (pos (length new))) (SetKeeping key new ∷ []))) (lt-leb (length text) 16777216 long)

pub setrange-long : (store : Store) (key word value old : List ℕ) (offset : ℕ) → HoldsOrLacks store key old
    → number word ≡ Ok (pos offset) → value ≢ [] → 16777216 < offset + length value
    → setrange_row store key word value ≡ refused TooLong
setrange-long store key word value old offset holds at some far =
    let found = held_or_none store key old holds in
    let text = unwrap_or found.0 [] in
    let long : 16777216 < length (written_over text offset value) = rw (over-length text offset value) (omega arith) in
    setrange-row store key word value offset found.0 found.1 at ∙ range-grown key text value offset some
    ∙ grown-long key (written_over text offset value) long
