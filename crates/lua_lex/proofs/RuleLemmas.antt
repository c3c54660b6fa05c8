-- At the front of a text stands one thing.
use Rattle.std.proofs.Common.{◌≡◌, ◌≢◌, ℕ, ◌+◌, ◌^◌, false, ℤ, pos, Result, Ok, Err, List, ◌∷◌, ◌++◌, length, refl, sym}
use Rattle.std.proofs.Common.{ap, subst, ◌∙◌, arith, ◌⊎◌, inl, inr, length-append}
use Rattle.std.proofs.Math.Nat.{eq_of_mul-eq-mul_right, one-le-pow}
use Rattle.rs_whole.specs.Numerals.{Numeral, IsValue, StandsFor, falls, fraction_digits}
use Rattle.lua_lex.specs.declared.kinds.TokenKind.TheVariants as kind
use Rattle.lua_lex.specs.declared.kinds.LexKind.{LexKind}
use Rattle.lua_lex.specs.declared.kinds.LexKind.TheVariants as fault
use Rattle.lua_lex.specs.declared.items.Item.{Item}
use Rattle.lua_lex.specs.declared.items.Class.{Class}
use Rattle.lua_lex.specs.declared.items.Class.TheVariants as class
use Rattle.lua_lex.specs.Lines.{is_break}
use Rattle.lua_lex.specs.Pieces.{Piece, pieces_text, ArePieces, IsBroken}
use Rattle.lua_lex.specs.Rules.{class_of, token, IsNumeral, IsNumber, NumeralFault, NumeralRule, QuotedRule, Rule}
use Rattle.lua_lex.specs.Rules.{IsFirst}
use Rattle.lua_lex.proofs.Classes.{quote_byte}
use Rattle.lua_lex.proofs.ReadLemmas.{Stuck, pieces_same, quote_stuck, broken_stuck, broken_same, no_break_at_quote}

value_same : (m : Numeral) (a b : ℕ) → IsValue m a → IsValue m b → a ≡ b
value_same (Numeral.by_tens w f e) a b is js =
    eq_of_mul-eq-mul_right (10 ^ (length (fraction_digits f) + falls e))
    (omega (arith, one-le-pow (length (fraction_digits f) + falls e) 10 (omega arith))) a b (is ∙ sym js)
value_same (Numeral.by_sixteens ds) a b is js = is ∙ sym js

stands_same : (m : Numeral) (y z : ℤ) → StandsFor m y → StandsFor m z → y ≡ z
stands_same m y z is js = is.1 ∙ ap pos (value_same m is.0 js.0 is.2 js.2) ∙ sym js.1

number_same : (run : List ℕ) (y z : ℤ) → IsNumber run y → IsNumber run z → y ≡ z
number_same run y z is js = let m = is.1 in stands_same m.0 y z (is.2 m.0 m.1 m.2) (js.2 m.0 m.1 m.2)

number_no_fault : (run : List ℕ) (z : ℤ) (k : LexKind) → IsNumber run z → NumeralFault k run → ⊥
number_no_fault run z fault.BadNumber is js = js is.1
number_no_fault run z fault.NotWhole is js = let m = is.1 in js.1 m.0 m.1 m.2 z is.0 (is.2 m.0 m.1 m.2)
number_no_fault run z fault.BadByte is js = js
number_no_fault run z fault.OpenString is js = js
number_no_fault run z fault.OpenLong is js = js
number_no_fault run z fault.BadEscape is js = js

fault_kind : (run : List ℕ) (k : LexKind) → NumeralFault k run → ((k ≡ fault.BadNumber) × (IsNumeral run → ⊥))
    ⊎ ((k ≡ fault.NotWhole) × IsNumeral run)
fault_kind run fault.BadNumber is = inl (refl, is)
fault_kind run fault.NotWhole is = inr (refl, is.0)
fault_kind run fault.BadByte is = absurd is
fault_kind run fault.OpenString is = absurd is
fault_kind run fault.OpenLong is = absurd is
fault_kind run fault.BadEscape is = absurd is

fault_same : (run : List ℕ) (k l : LexKind) → NumeralFault k run → NumeralFault l run → k ≡ l
fault_same run k l is js = by (fault_kind run k is) (fault_kind run l js)
  where
    by : ((k ≡ fault.BadNumber) × (IsNumeral run → ⊥)) ⊎ ((k ≡ fault.NotWhole) × IsNumeral run)
        → ((l ≡ fault.BadNumber) × (IsNumeral run → ⊥)) ⊎ ((l ≡ fault.NotWhole) × IsNumeral run) → k ≡ l
    by (inl a) (inl b) = a.0 ∙ sym b.0
    by (inr a) (inr b) = a.0 ∙ sym b.0
    by (inl a) (inr b) = absurd (a.1 b.1)
    by (inr a) (inl b) = absurd (b.1 a.1)

numeral_same : (run : List ℕ) (v w : Result Item LexKind) → NumeralRule run v → NumeralRule run w → v ≡ w
numeral_same run (Ok i) (Ok j) is js = let z = number_same run is.0 js.0 is.1 js.1 in
    ap (λ (x : Item). Ok x) (is.2 ∙ ap (λ n. token (kind.Number n) (length run)) z ∙ sym js.2)
numeral_same run (Ok i) (Err k) is js = absurd (number_no_fault run is.0 k is.1 js)
numeral_same run (Err k) (Ok j) is js = absurd (number_no_fault run js.0 k js.1 is)
numeral_same run (Err k) (Err l) is js = ap (λ (x : LexKind). Err x) (fault_same run k l is js)

-- the quote is the first byte
quote_other : (q : ℕ) (text more : List ℕ) → class_of text ≡ class.Quoted → text ≡ q ∷ more
    → (q ≢ 92) × (is_break q ≡ false)
quote_other q text more is e = quote_byte q more (ap class_of (sym e) ∙ is)

closed_and_broken : (text : List ℕ) (k : LexKind) (q : ℕ) (ps : List Piece) (rest : List ℕ) (r : ℕ) (qs : List Piece)
    (bad : List ℕ) → class_of text ≡ class.Quoted
    → ArePieces q ps (q ∷ rest) → text ≡ q ∷ pieces_text ps ++ q ∷ rest → ArePieces r qs bad
    → text ≡ r ∷ pieces_text qs ++ bad → IsBroken k bad → ⊥
closed_and_broken text k q ps rest r qs bad c are text_is bre text_js broken =
    let both : q ∷ pieces_text ps ++ q ∷ rest ≡ r ∷ pieces_text qs ++ bad = sym text_is ∙ text_js in
    let same : q ≡ r = cc in
    let after : pieces_text ps ++ q ∷ rest ≡ pieces_text qs ++ bad = cc in
    let other = quote_other q text (pieces_text ps ++ q ∷ rest) c text_is in
    let ends = pieces_same q ps qs (q ∷ rest) bad other.0 are (subst (λ x. ArePieces x qs bad) (sym same) bre) after
    (quote_stuck q rest) (broken_stuck q k bad broken) in
    no_break_at_quote q rest k other.0 other.1 (subst (IsBroken k) (sym ends) broken)

quoted_same : (text : List ℕ) (v w : Result Item LexKind) → class_of text ≡ class.Quoted → QuotedRule text v
    → QuotedRule text w → v ≡ w
quoted_same text (Ok i) (Ok j) c (q, ps, rest, are, text_is, i_is) (r, qs, more, bre, text_js, j_is) =
    let both : q ∷ pieces_text ps ++ q ∷ rest ≡ r ∷ pieces_text qs ++ r ∷ more = sym text_is ∙ text_js in
    let same : q ≡ r = cc in
    let after : pieces_text ps ++ q ∷ rest ≡ pieces_text qs ++ r ∷ more = cc in
    let other = quote_other q text (pieces_text ps ++ q ∷ rest) c text_is in
    let ends = pieces_same q ps qs (q ∷ rest) (r ∷ more) other.0 are
    (subst (λ x. ArePieces x qs (r ∷ more)) (sym same) bre) after (quote_stuck q rest)
    (subst (λ x. Stuck x (r ∷ more)) (sym same) (quote_stuck r more)) in
    let first = length-append (pieces_text ps) (q ∷ rest) in
    let second = length-append (pieces_text qs) (r ∷ more) in
    let long : length (pieces_text ps) ≡ length (pieces_text qs) = omega (arith, ap length after, ap length ends) in
    ap (λ (x : Item). Ok x) (i_is ∙ ap (λ n. token kind.Text (2 + n)) long ∙ sym j_is)
quoted_same text (Ok i) (Err k) c (q, ps, rest, are, text_is, i_is) (r, qs, bad, bre, text_js, broken) =
    absurd (closed_and_broken text k q ps rest r qs bad c are text_is bre text_js broken)
quoted_same text (Err k) (Ok j) c (r, qs, bad, bre, text_js, broken) (q, ps, rest, are, text_is, i_is) =
    absurd (closed_and_broken text k q ps rest r qs bad c are text_is bre text_js broken)
quoted_same text (Err k) (Err l) c (q, ps, bad, are, text_is, broken) (r, qs, worse, bre, text_js, broken') =
    let both : q ∷ pieces_text ps ++ bad ≡ r ∷ pieces_text qs ++ worse = sym text_is ∙ text_js in
    let same : q ≡ r = cc in
    let after : pieces_text ps ++ bad ≡ pieces_text qs ++ worse = cc in
    let other = quote_other q text (pieces_text ps ++ bad) c text_is in
    let ends = pieces_same q ps qs bad worse other.0 are (subst (λ x. ArePieces x qs worse) (sym same) bre) after
    (broken_stuck q k bad broken) (broken_stuck q l worse broken') in
    ap (λ (x : LexKind). Err x) (broken_same k l bad broken (subst (IsBroken l) (sym ends) broken'))

-- at the front of a text stands one thing
pub first_same : (text : List ℕ) (v w : Result Item LexKind) → IsFirst text v → IsFirst text w → v ≡ w
first_same text v w is js = by_class (class_of text) refl is js
  where
    by_class : (c : Class) → class_of text ≡ c → Rule c text v → Rule c text w → v ≡ w
    by_class class.Blank e is js = is ∙ sym js
    by_class class.LineComment e is js = is ∙ sym js
    by_class class.LongComment e is js = is ∙ sym js
    by_class class.Word e is js = is ∙ sym js
    by_class class.Numeral e is js = numeral_same _ v w is js
    by_class class.Quoted e is js = quoted_same text v w e is js
    by_class class.LongString e is js = is ∙ sym js
    by_class class.Symbol e is js = is ∙ sym js
