-- The escape and its reading.
use Rattle.std.proofs.Common.{◌≡◌, ℕ, ◌+◌, ◌*◌, ◌/◌, ◌%◌, ◌<◌, Bool, true, false, cond, List, [], ◌∷◌, ◌++◌, Option}
use Rattle.std.proofs.Common.{Some, None, option_and_then, option_map, unwrap_or, length, refl, sym, ap, ◌∙◌, arith}
use Rattle.std.proofs.Common.{append_assoc, append-nil, nat_eq}
use Rattle.std.specs.List.{flat_map}
use Rattle.std.specs.Cmp.Lexicographic.{pointwise}
use Rattle.std.proofs.lemmas.Slice.Eq.{bytes_eq-Decides}
use Rattle.std.proofs.lemmas.Bool.Decides.{nat_tests}
use Rattle.std.proofs.lemmas.Grind.{flat_map-append}
use Rattle.rs_base.specs.Bytes.{AreBytes}
use Rattle.rs_base.specs.Escape.{hex_digit, spelling_of_byte, spelling}
use Rattle.rs_base.specs.Unescape.{hex_value, needs_digits, digits_value, digits_at, escaped_at, byte_at}

hex_value-hex_digit : (n : ℕ) → n < 16 → hex_value (hex_digit n) ≡ Some n
hex_value-hex_digit n small = grind (arith, nat_tests)

hex_value_is : (c n : ℕ) → hex_value c ≡ Some n → (n < 16) × (hex_digit n ≡ c)
hex_value_is c n e = grind (arith, nat_tests)

-- a byte's spelling is read as that byte, whatever follows it
pub byte_at-spelling : (b : ℕ) (rest : List ℕ) → b < 256 → byte_at (spelling_of_byte b ++ rest) ≡ Some (b, rest)
byte_at-spelling b rest small = grind (arith, nat_tests, hex_value-hex_digit)

-- bytes were read off the front of a text that is to be read whole
pub record HasRead (text bytes rest : List ℕ) : Type 0 where
  each : AreBytes bytes
  text_is : text ≡ flat_map spelling_of_byte bytes ++ rest
  only : (all : List ℕ) → AreBytes all → text ≡ flat_map spelling_of_byte all
      → (more : List ℕ) × AreBytes more × (all ≡ bytes ++ more) × (rest ≡ flat_map spelling_of_byte more)

spelling-by_digits : (b : ℕ) → needs_digits b ≡ true
    → spelling_of_byte b ≡ 92 ∷ 120 ∷ hex_digit (b / 16) ∷ hex_digit (b % 16) ∷ []
spelling-by_digits b needs = grind (arith, nat_tests)

pair_is : (high low h l b : ℕ) → hex_value high ≡ Some h → hex_value low ≡ Some l
    → cond (needs_digits (16 * h + l)) (Some (16 * h + l)) None ≡ Some b
    → (b < 256) × (spelling_of_byte b ≡ 92 ∷ 120 ∷ high ∷ low ∷ [])
pair_is high low h l b eh el e =
    let first = hex_value_is high h eh in
    let second = hex_value_is low l el in
    let is : (needs_digits b ≡ true) × (b ≡ 16 * h + l) = passed (needs_digits (16 * h + l)) refl e in
    let quotient : b / 16 ≡ h = omega (arith, is.1, first.0, second.0) in
    let rest : b % 16 ≡ l = omega (arith, is.1, first.0, second.0) in
    (omega (arith, is.1, first.0, second.0), spelling-by_digits b is.0 ∙ rw (quotient, rest, first.1, second.1))
  where
    passed : (t : Bool) → needs_digits (16 * h + l) ≡ t → cond t (Some (16 * h + l)) None ≡ Some b
        → (needs_digits b ≡ true) × (b ≡ 16 * h + l)
    passed true is f = let same : 16 * h + l ≡ b = cc in (sym (ap needs_digits same) ∙ is, sym same)
    passed false is f = absurd (cc)

-- what is read as a byte is that byte's spelling
digits_value_is : (high low b : ℕ) → digits_value high low ≡ Some b
    → (b < 256) × (spelling_of_byte b ≡ 92 ∷ 120 ∷ high ∷ low ∷ [])
digits_value_is high low b e = by_first (hex_value high) refl e
  where
    by_second : (h : ℕ) → hex_value high ≡ Some h → (v : Option ℕ) → hex_value low ≡ v
        → option_and_then (λ l. cond (needs_digits (16 * h + l)) (Some (16 * h + l)) None) v ≡ Some b
        → (b < 256) × (spelling_of_byte b ≡ 92 ∷ 120 ∷ high ∷ low ∷ [])
    by_second h is None none f = absurd (cc)
    by_second h is (Some l) some f = pair_is high low h l b is some f

    by_first : (v : Option ℕ) → hex_value high ≡ v
        → option_and_then (λ h. option_and_then (λ l. cond (needs_digits (16 * h + l)) (Some (16 * h + l)) None)
        (hex_value low)) v ≡ Some b → (b < 256) × (spelling_of_byte b ≡ 92 ∷ 120 ∷ high ∷ low ∷ [])
    by_first None none f = absurd (cc)
    by_first (Some h) some f = by_second h some (hex_value low) refl f

digits_at_is : (text : List ℕ) (b : ℕ) (rest : List ℕ) → digits_at text ≡ Some (b, rest)
    → (b < 256) × (92 ∷ 120 ∷ text ≡ spelling_of_byte b ++ rest)
digits_at_is [] b rest e = absurd (cc)
digits_at_is (high ∷ []) b rest e = absurd (cc)
digits_at_is (high ∷ low ∷ text) b rest e = by_value (digits_value high low) refl e
  where
    by_value : (v : Option ℕ) → digits_value high low ≡ v
        → ◌≡◌ {A = Option (ℕ × List ℕ)} (option_and_then (λ x. Some (x, text)) v) (Some (b, rest))
        → (b < 256) × (92 ∷ 120 ∷ high ∷ low ∷ text ≡ spelling_of_byte b ++ rest)
    by_value None v f = absurd (cc)
    by_value (Some x) v f =
        let same : x ≡ b = ap (λ (o : Option (ℕ × List ℕ)). unwrap_or (option_map (λ (p : ℕ × List ℕ). p.0) o) 0) f in
        let tail : text ≡ rest =
        ap (λ (o : Option (ℕ × List ℕ)). unwrap_or (option_map (λ (p : ℕ × List ℕ). p.1) o) []) f in
        let is = digits_value_is high low b (v ∙ ap Some same) in
        (is.0, rw is.1 (ap (λ t. 92 ∷ 120 ∷ high ∷ low ∷ t) tail))

escaped_at_is : (text : List ℕ) (b : ℕ) (rest : List ℕ) → escaped_at text ≡ Some (b, rest)
    → (b < 256) × (92 ∷ text ≡ spelling_of_byte b ++ rest)
escaped_at_is [] b rest e = absurd (cc)
escaped_at_is (c ∷ text) b rest e = grind (arith, nat_tests, digits_at_is)

byte_at_is : (text : List ℕ) (b : ℕ) (rest : List ℕ) → byte_at text ≡ Some (b, rest)
    → (b < 256) × (text ≡ spelling_of_byte b ++ rest)
byte_at_is [] b rest e = absurd (cc)
byte_at_is (c ∷ text) b rest e = grind (arith, nat_tests, escaped_at_is)

pub HasRead-start : (text : List ℕ) → HasRead text [] text
HasRead-start text = record { each = tt; text_is = refl; only = λ all bytes e. (all, bytes, refl, e) }

stuck : (more rest : List ℕ) → AreBytes more → rest ≡ flat_map spelling_of_byte more → 0 < length rest
    → byte_at rest ≡ None → ⊥
stuck [] rest are e some none = let n = ap length e in omega arith
stuck (b ∷ more) rest are e some none = let read = byte_at-spelling b (flat_map spelling_of_byte more) are.0 in
    let at = ap byte_at e in absurd (cc)

-- a text that begins with no byte's spelling is no sequence of spellings
pub HasRead-stuck : {text bytes rest : List ℕ} → HasRead text bytes rest → 0 < length rest → byte_at rest ≡ None
    → (all : List ℕ) → AreBytes all → text ≡ flat_map spelling_of_byte all → ⊥
HasRead-stuck {rest = rest} h some none all are e =
    let left = h.only all are e in stuck left.0 rest left.1 left.3 some none

-- the next byte's spelling was read off
next : (all : List ℕ) (rest : List ℕ) (b : ℕ) (more : List ℕ) → AreBytes all → rest ≡ flat_map spelling_of_byte all
    → byte_at rest ≡ Some (b, more)
    → (after : List ℕ) × AreBytes after × (all ≡ b ∷ after) × (more ≡ flat_map spelling_of_byte after)
next [] rest b more are e read = let at = ap byte_at e in absurd (cc)
next (a ∷ all) rest b more are e read =
    let again = byte_at-spelling a (flat_map spelling_of_byte all) are.0 in
    let same : ◌≡◌ {A = Option (ℕ × List ℕ)} (Some (a, flat_map spelling_of_byte all)) (Some (b, more)) =
    sym again ∙ sym (ap byte_at e) ∙ read in (
      all,
      are.1,
      ap (λ x. x ∷ all) (ap (λ (o : Option (ℕ × List ℕ)). unwrap_or (option_map (λ (p : ℕ × List ℕ). p.0) o) 0) same),
      sym (ap (λ (o : Option (ℕ × List ℕ)). unwrap_or (option_map (λ (p : ℕ × List ℕ). p.1) o) []) same),
    )

one_byte : (bytes : List ℕ) (b : ℕ) → AreBytes bytes → b < 256 → AreBytes (bytes ++ b ∷ [])
one_byte [] b are small = (small, tt)
one_byte (x ∷ bytes) b are small = (are.0, one_byte bytes b are.1 small)

pushed : (bytes : List ℕ) (b : ℕ)
    → flat_map spelling_of_byte bytes ++ spelling_of_byte b ≡ flat_map spelling_of_byte (bytes ++ b ∷ [])
pushed bytes b = ap (λ t. flat_map spelling_of_byte bytes ++ t) (sym (append-nil (spelling_of_byte b)))
    ∙ sym (flat_map-append spelling_of_byte bytes (b ∷ []))

pub HasRead-more : (text bytes rest : List ℕ) (b : ℕ) (more : List ℕ) → HasRead text bytes rest
    → byte_at rest ≡ Some (b, more) → HasRead text (bytes ++ b ∷ []) more
HasRead-more text bytes rest b more h e =
    let is = byte_at_is rest b more e in
    record {
      each = one_byte bytes b h.each is.0;
      text_is = h.text_is ∙ ap (λ t. flat_map spelling_of_byte bytes ++ t) is.1
          ∙ sym (append_assoc (flat_map spelling_of_byte bytes) (spelling_of_byte b) more)
          ∙ ap (λ t. t ++ more) (pushed bytes b);
      only = λ all are same. let left = h.only all are same in let after = next left.0 rest b more left.1 left.3 e in (
        after.0,
        after.1,
        left.2 ∙ ap (λ t. bytes ++ t) after.2 ∙ sym (append_assoc bytes (b ∷ []) after.0),
        after.3,
      );
    }

-- a text other than `\e` is spelled byte by byte
pub spelling-by_bytes : (text bytes : List ℕ) → (text ≡ 92 ∷ 101 ∷ [] → ⊥) → text ≡ spelling bytes
    → text ≡ flat_map spelling_of_byte bytes
spelling-by_bytes text [] other e = absurd (other e)
spelling-by_bytes text (b ∷ bytes) other e = e

pub bytes_of_empty : (text bytes : List ℕ) → text ≡ [] → text ≡ flat_map spelling_of_byte bytes → AreBytes bytes
    → bytes ≡ []
bytes_of_empty text [] none e are = refl
bytes_of_empty text (b ∷ bytes) none e are = let at = ap byte_at (sym none ∙ e) in
    let read = byte_at-spelling b (flat_map spelling_of_byte bytes) are.0 in absurd (cc)

-- all of the text was read
pub HasRead-all : (text bytes rest : List ℕ) → HasRead text bytes rest → rest ≡ [] → (all : List ℕ) → AreBytes all
    → text ≡ flat_map spelling_of_byte all → bytes ≡ all
HasRead-all text bytes rest h none all are e =
    let left = h.only all are e in
    let no_more = bytes_of_empty rest left.0 none left.3 left.1 in
    sym (left.2 ∙ ap (λ t. bytes ++ t) no_more ∙ append-nil bytes)

-- what the failed test against `\e` says
pub no_end : (text end : List ℕ) (r : Bool) → end ≡ 92 ∷ 101 ∷ [] → r ≡ pointwise nat_eq text end → r ≡ false
    → text ≡ 92 ∷ 101 ∷ [] → ⊥
no_end text end r end_is tested failed e = let same = (bytes_eq-Decides text end).1 (e ∙ sym end_is) in absurd (cc)

spelling-some : (bytes : List ℕ) → (bytes ≡ [] → ⊥) → flat_map spelling_of_byte bytes ≡ spelling bytes
spelling-some [] some = absurd (some refl)
spelling-some (b ∷ bytes) some = refl

-- a text that was read whole, and is not empty, is the spelling of what was read
pub HasRead-spelling : (text bytes rest : List ℕ) → HasRead text bytes rest → rest ≡ [] → (bytes ≡ [] → ⊥)
    → AreBytes bytes × (text ≡ spelling bytes)
HasRead-spelling text bytes rest h none some = (
  h.each,
  h.text_is ∙ ap (λ t. flat_map spelling_of_byte bytes ++ t) none
      ∙ append-nil (flat_map spelling_of_byte bytes) ∙ spelling-some bytes some,
)
