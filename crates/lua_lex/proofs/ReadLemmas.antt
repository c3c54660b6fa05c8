-- A string has one row of pieces.
use Rattle.std.proofs.Common.{◌≡◌, ◌≢◌, ℕ, zero, suc, ◌+◌, ◌-◌, ◌*◌, ◌<◌, ◌≤◌, Bool, true, false, cond, ◌==◌, nat_le}
use Rattle.std.proofs.Common.{Ok, Err, List, [], ◌∷◌, ◌++◌, length, refl, sym, ap, subst, ◌∙◌, arith, ◌⊎◌, inl, inr}
use Rattle.std.proofs.Common.{append_assoc}
use Rattle.std.specs.Char.{digit_value, is_ascii_digit}
use Rattle.std.specs.Str.Parse.{digits_value, digits_value_after}
use Rattle.std.proofs.lemmas.Bool.Decides.{nat_tests}
use Rattle.lua_lex.specs.declared.kinds.LexKind.{LexKind}
use Rattle.lua_lex.specs.declared.kinds.LexKind.TheVariants as fault
use Rattle.lua_lex.specs.Lines.{is_break, is_pair}
use Rattle.lua_lex.specs.Pieces.{Piece, piece_text, pieces_text, AreDigits, NoPair, NoDigit, IsPiece, ArePieces}
use Rattle.lua_lex.specs.Pieces.{IsBroken}
use Rattle.lua_lex.proofs.LineLemmas.{both}
use Rattle.lua_lex.proofs.PieceLemmas.{digit_is}
use Rattle.lua_lex.specs.Strings.{after_break, after_digits, after_escape, after_piece}

pub digit_plain : (b : ℕ) → is_ascii_digit b ≡ true → is_break b ≡ false
digit_plain b is = grind (arith, nat_tests)

pub value_ge : (n : ℕ) (ds : List ℕ) → n ≤ digits_value_after 10 n ds
value_ge n [] = omega arith
value_ge n (c ∷ ds) = omega (arith, value_ge (n * 10 + digit_value c) ds)

pub small_test : (n : ℕ) → n ≤ 255 → nat_le n 255 ≡ true
small_test n small = grind (arith, nat_tests)

no_digit_next : (left value : ℕ) (rest : List ℕ) → (0 ≡ left) ⊎ NoDigit rest → after_digits left value rest ≡ Ok rest
no_digit_next zero value rest ends = refl
no_digit_next (suc left) value [] ends = refl
no_digit_next (suc left) value (b ∷ rest) (inl e) = absurd (omega arith)
no_digit_next (suc left) value (b ∷ rest) (inr lacks) = rw lacks refl

digits_reads : (left value : ℕ) (ds rest : List ℕ) → AreDigits ds → length ds ≤ left
    → digits_value_after 10 value ds ≤ 255 → (length ds ≡ left) ⊎ NoDigit rest → after_digits left value (ds ++ rest)
    ≡ Ok rest
digits_reads left value [] rest are few small ends = no_digit_next left value rest ends
digits_reads zero value (b ∷ ds) rest are few small ends = absurd (omega arith)
digits_reads (suc left) value (b ∷ ds) rest are few small ends =
    let same : value * 10 + (b - 48) ≡ value * 10 + digit_value b =
    ap (λ d. value * 10 + d) (sym (digit_is b are.0).0) in
    let moved : digits_value_after 10 (value * 10 + (b - 48)) ds ≤ 255 =
    subst (λ v. digits_value_after 10 v ds ≤ 255) (sym same) small in
    let near = small_test (value * 10 + (b - 48)) (omega (arith, value_ge (value * 10 + (b - 48)) ds, moved)) in
    rw (are.0, near) (digits_reads left (value * 10 + (b - 48)) ds rest are.1 (omega arith) moved (fewer ends))
  where
    fewer : (length (b ∷ ds) ≡ suc left) ⊎ NoDigit rest → (length ds ≡ left) ⊎ NoDigit rest
    fewer (inl e) = inl (omega arith)
    fewer (inr e) = inr e

digits_fail : (left value : ℕ) (ds rest : List ℕ) → AreDigits ds → length ds ≤ left → value ≤ 255
    → 255 < digits_value_after 10 value ds → after_digits left value (ds ++ rest) ≡ Err fault.BadEscape
digits_fail left value [] rest are few small far = absurd (omega arith)
digits_fail zero value (b ∷ ds) rest are few small far = absurd (omega arith)
digits_fail (suc left) value (b ∷ ds) rest are few small far =
    by_size (nat_le (value * 10 + (b - 48)) 255) refl
    (λ near. digits_fail left (value * 10 + (b - 48)) ds rest are.1 (omega arith) near moved)
  where
    moved : 255 < digits_value_after 10 (value * 10 + (b - 48)) ds
    moved = subst (λ v. 255 < digits_value_after 10 v ds) (ap (λ d. value * 10 + d) (digit_is b are.0).0) far

    by_size : (t : Bool) → nat_le (value * 10 + (b - 48)) 255 ≡ t
        → (value * 10 + (b - 48) ≤ 255 → after_digits left (value * 10 + (b - 48)) (ds ++ rest) ≡ Err fault.BadEscape)
        → after_digits (suc left) value (b ∷ ds ++ rest) ≡ Err fault.BadEscape
    by_size true near more = rw (are.0, near)
        (more (let le : value * 10 + (b - 48) ≤ 255 = grind (arith, nat_tests) in le))
    by_size false large more = rw (are.0, large) refl

no_pair_next : (b : ℕ) (rest : List ℕ) → NoPair b rest → after_break b rest ≡ rest
no_pair_next b [] lacks = refl
no_pair_next b (c ∷ rest) lacks = rw lacks refl

pair_next : (b c : ℕ) (rest : List ℕ) → is_pair b c ≡ true → after_break b (c ∷ rest) ≡ rest
pair_next b c rest is = ap (λ t. cond t rest (c ∷ rest)) is

break_escape : (b : ℕ) (text rest : List ℕ) → is_break b ≡ true → after_break b text ≡ rest
    → after_escape (b ∷ text) ≡ Ok rest
unfolding after_escape
break_escape b text rest is e =
    ap (λ t. cond t (Ok (after_break b text)) (cond (is_ascii_digit b) (after_digits 2 (b - 48) text) (Ok text))) is
    ∙ ap (λ (t : List ℕ). Ok t) e

-- how a piece is read
pub record Starts (quote : ℕ) (p : Piece) (rest : List ℕ) : Type 0 where
  pub first : ℕ
  pub more : List ℕ
  pub text_is : piece_text p ++ rest ≡ first ∷ more
  pub other : first ≢ quote
  pub after : after_piece first more ≡ Ok rest

escape_starts : (quote : ℕ) (p : Piece) (rest more : List ℕ) → quote ≢ 92 → piece_text p ++ rest ≡ 92 ∷ more
    → after_escape more ≡ Ok rest → Starts quote p rest
unfolding after_piece
escape_starts quote p rest more other text e =
    record { first = 92; more = more; text_is = text; other = λ same. other (sym same); after = e }

pub piece_starts : (quote : ℕ) (p : Piece) (rest : List ℕ) → quote ≢ 92 → IsPiece quote p rest → Starts quote p rest
unfolding after_piece after_escape
piece_starts quote (Piece.plain b) rest other is =
    let not_slash : (b == 92) ≡ false = test b is.1 in
    record { first = b; more = rest; text_is = refl; other = is.0; after = rw (is.2, not_slash) refl }
  where
    test : (b : ℕ) → b ≢ 92 → (b == 92) ≡ false
    test b ne = grind (arith, nat_tests)
piece_starts quote (Piece.one_break b) rest other is =
    escape_starts quote (Piece.one_break b) rest (b ∷ rest) other refl
    (break_escape b rest rest is.0 (no_pair_next b rest is.1))
piece_starts quote (Piece.two_breaks b c) rest other is = let parts = both (is_break b) _ is in
    escape_starts quote (Piece.two_breaks b c) rest (b ∷ c ∷ rest) other refl
    (break_escape b (c ∷ rest) rest parts.0 (pair_next b c rest is))
piece_starts quote (Piece.digits []) rest other is = absurd (omega (arith, is.1))
piece_starts quote (Piece.digits (b ∷ ds)) rest other is =
    let few : length ds ≤ 2 = omega (arith, is.2) in
    let small : digits_value_after 10 (b - 48) ds ≤ 255 =
    subst (λ v. digits_value_after 10 v ds ≤ 255) (digit_is b is.0.0).0
    (subst (λ v. digits_value_after 10 v ds ≤ 255) (omega arith) is.3) in
    escape_starts quote (Piece.digits (b ∷ ds)) rest (b ∷ ds ++ rest) other refl
    (rw (digit_plain b is.0.0, is.0.0) (digits_reads 2 (b - 48) ds rest is.0.1 few small (fewer is.4)))
  where
    fewer : (length (b ∷ ds) ≡ 3) ⊎ NoDigit rest → (length ds ≡ 2) ⊎ NoDigit rest
    fewer (inl e) = inl (omega arith)
    fewer (inr e) = inr e
piece_starts quote (Piece.other b) rest other is =
    escape_starts quote (Piece.other b) rest (b ∷ rest) other refl (rw (is.0, is.1) refl)

-- nothing more is read here
unfoldable pub Stuck : ℕ → List ℕ → Type 0
Stuck quote [] = Unit {0}
Stuck quote (b ∷ text) = (b ≡ quote) ⊎ ((k : LexKind) × (after_piece b text ≡ Err k))

broken_reads : (k : LexKind) (b : ℕ) (text : List ℕ) → IsBroken k (b ∷ text) → after_piece b text ≡ Err k
unfolding after_piece after_escape
broken_reads fault.OpenString b [] (inl is) = rw is refl
broken_reads fault.OpenString b [] (inr is) = rw is refl
broken_reads fault.OpenString b (c ∷ text) is = rw is refl
broken_reads fault.BadEscape b text is = by_digits is.0 is.1 is.2 is.3 is.4 is.5
  where
    by_digits : (ds rest : List ℕ) → b ∷ text ≡ 92 ∷ ds ++ rest → AreDigits ds → length ds ≡ 3
        → 255 < digits_value 10 ds → after_piece b text ≡ Err fault.BadEscape
    by_digits [] rest e are long far = absurd (omega arith)
    by_digits (c ∷ ds) rest e are long far =
        let at : b ≡ 92 = cc in
        let there : text ≡ c ∷ ds ++ rest = cc in
        let moved : 255 < digits_value_after 10 (c - 48) ds =
        subst (λ v. 255 < digits_value_after 10 v ds) (digit_is c are.0).0
        (subst (λ v. 255 < digits_value_after 10 v ds) (omega arith) far) in
        let small : c - 48 ≤ 255 = digit_small c are.0 in
        rw (at, there, digit_plain c are.0, are.0) (digits_fail 2 (c - 48) ds rest are.1 (omega arith) small moved)
      where
        digit_small : (c : ℕ) → is_ascii_digit c ≡ true → c - 48 ≤ 255
        digit_small c is = grind (arith, nat_tests)
broken_reads fault.BadByte b text is = absurd is
broken_reads fault.OpenLong b text is = absurd is
broken_reads fault.BadNumber b text is = absurd is
broken_reads fault.NotWhole b text is = absurd is

pub broken_stuck : (quote : ℕ) (k : LexKind) (bad : List ℕ) → IsBroken k bad → Stuck quote bad
unfolding Stuck
broken_stuck quote k [] is = tt
broken_stuck quote k (b ∷ text) is = inr (k, broken_reads k b text is)

pub quote_stuck : (quote : ℕ) (rest : List ℕ) → Stuck quote (quote ∷ rest)
unfolding Stuck
quote_stuck quote rest = inl refl

broken_end : (k : LexKind) → IsBroken k [] → k ≡ fault.OpenString
broken_end fault.OpenString is = refl
broken_end fault.BadEscape is = absurd (let e = is.2 in cc)
broken_end fault.BadByte is = absurd is
broken_end fault.OpenLong is = absurd is
broken_end fault.BadNumber is = absurd is
broken_end fault.NotWhole is = absurd is

-- a text breaks off in one way
pub broken_same : (k l : LexKind) (bad : List ℕ) → IsBroken k bad → IsBroken l bad → k ≡ l
broken_same k l [] is js = broken_end k is ∙ sym (broken_end l js)
broken_same k l (b ∷ text) is js = let same = sym (broken_reads k b text is) ∙ broken_reads l b text js in cc

pub no_break_at_quote : (quote : ℕ) (rest : List ℕ) (k : LexKind) → quote ≢ 92 → is_break quote ≡ false
    → IsBroken k (quote ∷ rest) → ⊥
unfolding after_piece
no_break_at_quote quote rest k other plain is =
    let not_slash : (quote == 92) ≡ false = test quote other in
    let read : Ok rest ≡ after_piece quote rest = rw (plain, not_slash) refl in
    let broken = broken_reads k quote rest is in absurd (cc)
  where
    test : (b : ℕ) → b ≢ 92 → (b == 92) ≡ false
    test b ne = grind (arith, nat_tests)

pub stuck_piece : (quote : ℕ) (a : List ℕ) (p : Piece) (rest : List ℕ) → quote ≢ 92 → IsPiece quote p rest
    → a ≡ piece_text p ++ rest → Stuck quote a → ⊥
unfolding Stuck
stuck_piece quote a p rest other is e stuck =
    let starts = piece_starts quote p rest other is in by_first starts (subst (Stuck quote) (e ∙ starts.text_is) stuck)
  where
    by_first : (s : Starts quote p rest) → (s.first ≡ quote) ⊎ ((k : LexKind) × (after_piece s.first s.more ≡ Err k))
        → ⊥
    by_first s (inl same) = s.other same
    by_first s (inr broken) = let read = s.after in let no = broken.1 in absurd (cc)

-- two rows of pieces of one text come to the same end
pub pieces_same : (quote : ℕ) (ps qs : List Piece) (a b : List ℕ) → quote ≢ 92 → ArePieces quote ps a
    → ArePieces quote qs b → pieces_text ps ++ a ≡ pieces_text qs ++ b → Stuck quote a → Stuck quote b → a ≡ b
pieces_same quote [] [] a b other are bre e stuck_a stuck_b = e
pieces_same quote [] (q ∷ qs) a b other are bre e stuck_a stuck_b =
    absurd (stuck_piece quote a q (pieces_text qs ++ b) other bre.0 (e ∙ append_assoc (piece_text q) (pieces_text qs) b)
    stuck_a)
pieces_same quote (p ∷ ps) [] a b other are bre e stuck_a stuck_b =
    absurd (stuck_piece quote b p (pieces_text ps ++ a) other are.0
    (sym e ∙ append_assoc (piece_text p) (pieces_text ps) a) stuck_b)
pieces_same quote (p ∷ ps) (q ∷ qs) a b other are bre e stuck_a stuck_b =
    let first = piece_starts quote p (pieces_text ps ++ a) other are.0 in
    let second = piece_starts quote q (pieces_text qs ++ b) other bre.0 in
    let text : first.first ∷ first.more ≡ second.first ∷ second.more =
    sym first.text_is ∙ sym (append_assoc (piece_text p) (pieces_text ps) a) ∙ e
    ∙ append_assoc (piece_text q) (pieces_text qs) b ∙ second.text_is in
    let heads : first.first ≡ second.first = cc in
    let tails : first.more ≡ second.more = cc in
    let rest : pieces_text ps ++ a ≡ pieces_text qs ++ b = let one = first.after in let two = second.after in
    let reads : after_piece first.first first.more ≡ after_piece second.first second.more =
    ap (λ x. after_piece x first.more) heads ∙ ap (after_piece second.first) tails in cc in
    pieces_same quote ps qs a b other are.1 bre.1 rest stuck_a stuck_b
