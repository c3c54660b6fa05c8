-- Pieces of strings, read and spelled.
use Rattle.std.proofs.Common.{◌≡◌, ◌≢◌, ℕ, zero, suc, ◌+◌, ◌-◌, ◌*◌, ◌^◌, ◌<◌, ◌≤◌, Bool, true, false, cond, ◌==◌}
use Rattle.std.proofs.Common.{nat_le, Ok, Err, List, [], ◌∷◌, ◌++◌, length, refl, sym, ap, subst, ◌∙◌, arith, ◌⊎◌, inl}
use Rattle.std.proofs.Common.{inr, append_assoc, append-nil, length-append}
use Rattle.std.specs.Char.{digit_value, is_ascii_digit}
use Rattle.std.specs.Str.Parse.{AllDigits, digits_value, digits_value_after}
use Rattle.std.proofs.lemmas.Bool.Decides.{nat_tests}
use Rattle.std.proofs.lemmas.Int.Digits.{digits_value-lt}
use Rattle.lua_lex.specs.declared.kinds.LexKind.{LexKind}
use Rattle.lua_lex.specs.declared.kinds.LexKind.TheVariants as fault
use Rattle.lua_lex.specs.Lines.{is_break, is_pair}
use Rattle.lua_lex.specs.Pieces.{Piece, piece_text, pieces_text, AreDigits, NoPair, NoDigit, IsPiece, ArePieces}
use Rattle.lua_lex.specs.Pieces.{BreaksOff, EscapesTooFar, IsBroken}
use Rattle.lua_lex.specs.Strings.{after_break, after_digits, after_escape, after_piece}

pub digit_is : (b : ℕ) → is_ascii_digit b ≡ true → (digit_value b ≡ b - 48) × (digit_value b < 10)
digit_is b is = grind (arith, nat_tests)

all_digits : (ds : List ℕ) → AreDigits ds → AllDigits 10 ds
all_digits [] are = tt
all_digits (b ∷ ds) are = ((digit_is b are.0).1, all_digits ds are.1)

small_is : (n : ℕ) → nat_le n 255 ≡ true → n ≤ 255
small_is n is = grind (arith, nat_tests)

large_is : (n : ℕ) → nat_le n 255 ≡ false → 255 < n
large_is n is = grind (arith, nat_tests)

-- digits that were read off a text
pub record HasDigits (left value : ℕ) (text rest : List ℕ) : Type 0 where
  ds : List ℕ
  are : AreDigits ds
  few : length ds ≤ left
  small : digits_value_after 10 value ds ≤ 255
  ends : (length ds ≡ left) ⊎ NoDigit rest
  text_is : text ≡ ds ++ rest

digits_read : (left value : ℕ) (text rest : List ℕ) → value ≤ 255 → after_digits left value text ≡ Ok rest
    → HasDigits left value text rest
digits_read zero value text rest small e =
    record {
      ds = [];
      are = tt;
      few = omega arith;
      small = small;
      ends = inl refl;
      text_is = let same : text
          ≡ rest = cc in same;
    }
digits_read (suc left) value [] rest small e =
    record {
      ds = [];
      are = tt;
      few = omega arith;
      small = small;
      ends = inr (let none : rest ≡ [] = cc in subst NoDigit (sym none) tt);
      text_is = let none : rest ≡ [] = cc in sym none;
    }
digits_read (suc left) value (b ∷ text) rest small e =
    by_digit (is_ascii_digit b) refl e (λ less. digits_read left (value * 10 + (b - 48)) text rest less)
  where
    by_digit : (t : Bool) → is_ascii_digit b ≡ t
        → cond t (cond (nat_le (value * 10 + (b - 48)) 255) (after_digits left (value * 10 + (b - 48)) text)
        (Err fault.BadEscape)) (Ok (b ∷ text)) ≡ Ok rest
        → (value * 10 + (b - 48) ≤ 255 → after_digits left (value * 10 + (b - 48)) text ≡ Ok rest
        → HasDigits left (value * 10 + (b - 48)) text rest) → HasDigits (suc left) value (b ∷ text) rest
    by_digit false lacks f more = record {
      ds = [];
      are = tt;
      few = omega arith;
      small = small;
      ends = inr (let same : b ∷ text ≡ rest = cc in subst NoDigit same lacks);
      text_is = let same : b ∷ text ≡ rest = cc in same;
    }
    by_digit true holds f more = by_size (nat_le (value * 10 + (b - 48)) 255) refl f
      where
        by_size : (t : Bool) → nat_le (value * 10 + (b - 48)) 255 ≡ t
            → cond t (after_digits left (value * 10 + (b - 48)) text) (Err fault.BadEscape) ≡ Ok rest
            → HasDigits (suc left) value (b ∷ text) rest
        by_size false far g = absurd (cc)
        by_size true near g = behind (more (small_is (value * 10 + (b - 48)) near) g)
          where
            behind : HasDigits left (value * 10 + (b - 48)) text rest → HasDigits (suc left) value (b ∷ text) rest
            behind h = record {
              ds = b ∷ h.ds;
              are = (holds, h.are);
              few = omega (arith, h.few);
              small = subst (λ d. digits_value_after 10 (value * 10 + d) h.ds ≤ 255) (sym (digit_is b holds).0) h.small;
              ends = moved h.ends;
              text_is = ap (λ t. b ∷ t) h.text_is;
            }
              where
                moved : (length h.ds ≡ left) ⊎ NoDigit rest → (length (b ∷ h.ds) ≡ suc left) ⊎ NoDigit rest
                moved (inl e) = inl (ap suc e)
                moved (inr e) = inr e

-- digits past 255
record TooFar (value : ℕ) (text : List ℕ) : Type 0 where
  ds : List ℕ
  rest : List ℕ
  are : AreDigits ds
  far : 255 < digits_value_after 10 value ds
  text_is : text ≡ ds ++ rest

digits_fault : (left value : ℕ) (text : List ℕ) (k : LexKind) → after_digits left value text ≡ Err k
    → (k ≡ fault.BadEscape) × (h : TooFar value text) × (length h.ds ≤ left)
digits_fault zero value text k e = absurd (cc)
digits_fault (suc left) value [] k e = absurd (cc)
digits_fault (suc left) value (b ∷ text) k e =
    by_digit (is_ascii_digit b) refl e (digits_fault left (value * 10 + (b - 48)) text k)
  where
    by_digit : (t : Bool) → is_ascii_digit b ≡ t
        → cond t (cond (nat_le (value * 10 + (b - 48)) 255) (after_digits left (value * 10 + (b - 48)) text)
        (Err fault.BadEscape)) (Ok (b ∷ text)) ≡ Err k
        → (after_digits left (value * 10 + (b - 48)) text ≡ Err k
        → (k ≡ fault.BadEscape) × (h : TooFar (value * 10 + (b - 48)) text) × (length h.ds ≤ left))
        → (k ≡ fault.BadEscape) × (h : TooFar value (b ∷ text)) × (length h.ds ≤ suc left)
    by_digit false lacks f more = absurd (cc)
    by_digit true holds f more = by_size (nat_le (value * 10 + (b - 48)) 255) refl f
      where
        by_size : (t : Bool) → nat_le (value * 10 + (b - 48)) 255 ≡ t
            → cond t (after_digits left (value * 10 + (b - 48)) text) (Err fault.BadEscape) ≡ Err k
            → (k ≡ fault.BadEscape) × (h : TooFar value (b ∷ text)) × (length h.ds ≤ suc left)
        by_size false far g = (
          let kind : fault.BadEscape ≡ k = cc in sym kind,
          record {
            ds = b ∷ [];
            rest = text;
            are = (holds, tt);
            far = subst (λ d. 255 < value * 10 + d) (sym (digit_is b holds).0) (large_is (value * 10 + (b - 48)) far);
            text_is = refl;
          },
          omega arith,
        )
        by_size true near g = behind (more g)
          where
            behind : (k ≡ fault.BadEscape) × (h : TooFar (value * 10 + (b - 48)) text) × (length h.ds ≤ left)
                → (k ≡ fault.BadEscape) × (h : TooFar value (b ∷ text)) × (length h.ds ≤ suc left)
            behind h = (
              h.0,
              record {
                ds = b ∷ h.1.ds;
                rest = h.1.rest;
                are = (holds, h.1.are);
                far = subst (λ d. 255 < digits_value_after 10 (value * 10 + d) h.1.ds) (sym (digit_is b holds).0)
                    h.1.far;
                text_is = ap (λ t. b ∷ t) h.1.text_is;
              },
              omega (arith, h.2),
            )

-- an escape that was read
pub record ReadPiece (quote b : ℕ) (text rest : List ℕ) : Type 0 where
  pub piece : Piece
  pub is : IsPiece quote piece rest
  pub text_is : b ∷ text ≡ piece_text piece ++ rest

escape_read : (quote : ℕ) (text rest : List ℕ) → after_escape text ≡ Ok rest → ReadPiece quote 92 text rest
unfolding after_escape
escape_read quote [] rest e = absurd (cc)
escape_read quote (c ∷ text) rest e = by_break (is_break c) refl e
  where
    broken : (text : List ℕ) → is_break c ≡ true → after_break c text ≡ rest → ReadPiece quote 92 (c ∷ text) rest
    broken [] is f = record {
      piece = Piece.one_break c;
      is = (is, subst (NoPair c) f tt);
      text_is = ap (λ t. 92 ∷ c ∷ t) f;
    }
    broken (d ∷ text) is f = by_pair (is_pair c d) refl f
      where
        by_pair : (t : Bool) → is_pair c d ≡ t → cond t text (d ∷ text) ≡ rest → ReadPiece quote 92 (c ∷ d ∷ text) rest
        by_pair true pair g = record { piece = Piece.two_breaks c d; is = pair; text_is = ap (λ t. 92 ∷ c ∷ d ∷ t) g }
        by_pair false pair g = record {
          piece = Piece.one_break c;
          is = (is, subst (NoPair c) g pair);
          text_is = ap (λ t. 92 ∷ c ∷ t) g;
        }

    digits : is_ascii_digit c ≡ true → HasDigits 2 (c - 48) text rest → ReadPiece quote 92 (c ∷ text) rest
    digits digit h = record {
      piece = Piece.digits (c ∷ h.ds);
      is = (
        (digit, h.are),
        omega arith,
        omega (arith, h.few),
        subst (λ d. digits_value_after 10 (0 * 10 + d) h.ds ≤ 255) (sym (digit_is c digit).0)
            (subst (λ d. digits_value_after 10 d h.ds ≤ 255) (omega arith) h.small),
        moved h.ends,
      );
      text_is = ap (λ t. 92 ∷ c ∷ t) h.text_is;
    }
      where
        moved : (length h.ds ≡ 2) ⊎ NoDigit rest → (length (c ∷ h.ds) ≡ 3) ⊎ NoDigit rest
        moved (inl f) = inl (ap suc f)
        moved (inr f) = inr f

    by_digit : (t : Bool) → is_break c ≡ false → is_ascii_digit c ≡ t → cond t (after_digits 2 (c - 48) text) (Ok text)
        ≡ Ok rest → ReadPiece quote 92 (c ∷ text) rest
    by_digit true plain is f = digits is (digits_read 2 (c - 48) text rest (let small = (digit_is c is).1 in
        let value = (digit_is c is).0 in omega arith) f)
    by_digit false plain is f = record {
      piece = Piece.other c;
      is = (plain, is);
      text_is = let same : text
          ≡ rest = cc in ap (λ t. 92 ∷ c ∷ t) same;
    }

    by_break : (t : Bool) → is_break c ≡ t → cond t (Ok (after_break c text))
        (cond (is_ascii_digit c) (after_digits 2 (c - 48) text) (Ok text)) ≡ Ok rest
        → ReadPiece quote 92 (c ∷ text) rest
    by_break true is f = broken text is (let same : after_break c text ≡ rest = cc in same)
    by_break false is f = by_digit (is_ascii_digit c) is refl f

pub piece_read : (quote b : ℕ) (text rest : List ℕ) → b ≢ quote → after_piece b text ≡ Ok rest
    → ReadPiece quote b text rest
unfolding after_piece
piece_read quote b text rest other e = by_break (is_break b) refl e
  where
    by_escape : (t : Bool) → is_break b ≡ false → (b == 92) ≡ t → cond t (after_escape text) (Ok text) ≡ Ok rest
        → ReadPiece quote b text rest
    by_escape true plain is f = let at : b ≡ 92 = grind (arith, nat_tests) in
        subst (λ x. ReadPiece quote x text rest) (sym at) (escape_read quote text rest f)
    by_escape false plain is f = let not_slash : b ≢ 92 = grind (arith, nat_tests) in
        record {
          piece = Piece.plain b;
          is = (other, not_slash, plain);
          text_is = let same : text ≡ rest = cc in
              ap (λ t. b ∷ t) same;
        }

    by_break : (t : Bool) → is_break b ≡ t → cond t (Err fault.OpenString)
        (cond (b == 92) (after_escape text) (Ok text)) ≡ Ok rest → ReadPiece quote b text rest
    by_break true is f = absurd (cc)
    by_break false is f = by_escape (b == 92) is refl f

short_value : (ds : List ℕ) → AreDigits ds → 255 < digits_value 10 ds → 2 < length ds
short_value ds are far = by_length ds are far (digits_value-lt 10 ds (all_digits ds are))
  where
    by_length : (ds : List ℕ) → AreDigits ds → 255 < digits_value 10 ds → digits_value 10 ds < 10 ^ length ds
        → 2 < length ds
    by_length [] are far below = absurd (omega arith)
    by_length (a ∷ []) are far below = absurd (omega arith)
    by_length (a ∷ b ∷ []) are far below = absurd (omega arith)
    by_length (a ∷ b ∷ c ∷ ds) are far below = omega arith

too_far : (c : ℕ) (text : List ℕ) → is_ascii_digit c ≡ true → (h : TooFar (c - 48) text) → length h.ds ≤ 2
    → EscapesTooFar (92 ∷ c ∷ text)
too_far c text digit h few =
    let far : 255 < digits_value 10 (c ∷ h.ds) =
    subst (λ d. 255 < digits_value_after 10 (0 * 10 + d) h.ds) (sym (digit_is c digit).0)
    (subst (λ d. 255 < digits_value_after 10 d h.ds) (omega arith) h.far) in
    let long = short_value (c ∷ h.ds) (digit, h.are) far in
    (c ∷ h.ds, h.rest, ap (λ t. 92 ∷ c ∷ t) h.text_is, (digit, h.are), omega arith, far)

escape_fault : (text : List ℕ) (k : LexKind) → after_escape text ≡ Err k → IsBroken k (92 ∷ text)
unfolding after_escape
escape_fault [] k e = let kind : fault.OpenString ≡ k = cc in subst (λ x. IsBroken x (92 ∷ [])) kind (inr refl)
escape_fault (c ∷ text) k e = by_break (is_break c) refl e
  where
    by_digit : (t : Bool) → is_ascii_digit c ≡ t → cond t (after_digits 2 (c - 48) text) (Ok text) ≡ Err k
        → IsBroken k (92 ∷ c ∷ text)
    by_digit true is f = let h = digits_fault 2 (c - 48) text k f in
        subst (λ x. IsBroken x (92 ∷ c ∷ text)) (sym h.0) (too_far c text is h.1 h.2)
    by_digit false is f = absurd (cc)

    by_break : (t : Bool) → is_break c ≡ t → cond t (Ok (after_break c text))
        (cond (is_ascii_digit c) (after_digits 2 (c - 48) text) (Ok text)) ≡ Err k → IsBroken k (92 ∷ c ∷ text)
    by_break true is f = absurd (cc)
    by_break false is f = by_digit (is_ascii_digit c) refl f

pub piece_fault : (b : ℕ) (text : List ℕ) (k : LexKind) → after_piece b text ≡ Err k → IsBroken k (b ∷ text)
unfolding after_piece
piece_fault b text k e = by_break (is_break b) refl e
  where
    breaks_off : (text : List ℕ) → is_break b ≡ true → BreaksOff (b ∷ text)
    breaks_off [] is = inl is
    breaks_off (c ∷ text) is = is

    by_escape : (t : Bool) → (b == 92) ≡ t → cond t (after_escape text) (Ok text) ≡ Err k → IsBroken k (b ∷ text)
    by_escape true is f = let at : b ≡ 92 = grind (arith, nat_tests) in
        subst (λ x. IsBroken k (x ∷ text)) (sym at) (escape_fault text k f)
    by_escape false is f = absurd (cc)

    by_break : (t : Bool) → is_break b ≡ t → cond t (Err fault.OpenString)
        (cond (b == 92) (after_escape text) (Ok text)) ≡ Err k → IsBroken k (b ∷ text)
    by_break true is f = let kind : fault.OpenString ≡ k = cc in
        subst (λ x. IsBroken x (b ∷ text)) kind (breaks_off text is)
    by_break false is f = by_escape (b == 92) refl f

pub pieces_joined : (pieces : List Piece) (p : Piece) (more : List ℕ) → pieces_text pieces ++ (piece_text p ++ more)
    ≡ pieces_text (pieces ++ p ∷ []) ++ more
pieces_joined [] p more = ap (λ t. t ++ more) (sym (append-nil (piece_text p)))
pieces_joined (x ∷ pieces) p more = append_assoc (piece_text x) (pieces_text pieces) (piece_text p ++ more)
    ∙ ap (λ t. piece_text x ++ t) (pieces_joined pieces p more)
    ∙ sym (append_assoc (piece_text x) (pieces_text (pieces ++ p ∷ [])) more)

-- pieces that were read off a text, and one more
pub pieces_more : (quote : ℕ) (pieces : List Piece) (p : Piece) (rest more : List ℕ) → ArePieces quote pieces rest
    → IsPiece quote p more → rest ≡ piece_text p ++ more → ArePieces quote (pieces ++ p ∷ []) more
pieces_more quote [] p rest more are is e = (is, tt)
pieces_more quote (x ∷ pieces) p rest more are is e = (
  subst (IsPiece quote x) (ap (λ t. pieces_text pieces ++ t) e ∙ pieces_joined pieces p more) are.0,
  pieces_more quote pieces p rest more are.1 is e,
)

-- one digit more
pub digits_step : (left value b d : ℕ) (text : List ℕ) → (left ≡ 0 → ⊥) → is_ascii_digit b ≡ true
    → d ≡ value * 10 + (b - 48) → d ≤ 255 → after_digits left value (b ∷ text) ≡ after_digits (left - 1) d text
digits_step zero value b d text some digit d_is small = absurd (some refl)
digits_step (suc left) value b d text some digit d_is small =
    let less : nat_le (value * 10 + (b - 48)) 255 ≡ true = grind (arith, nat_tests) in
    let one : suc left - 1 ≡ left = omega arith in
    rw (digit, less, one, d_is) refl

-- what was read of a string
pub record HasPieces (quote : ℕ) (text rest : List ℕ) : Type 0 where
  pub pieces : List Piece
  pub are : ArePieces quote pieces rest
  pub text_is : text ≡ pieces_text pieces ++ rest

pub HasPieces-start : (quote : ℕ) (text : List ℕ) → HasPieces quote text text
HasPieces-start quote text = record { pieces = []; are = tt; text_is = refl }

pub HasPieces-more : (quote : ℕ) (text rest : List ℕ) (b : ℕ) (after more : List ℕ) → HasPieces quote text rest
    → rest ≡ b ∷ after → b ≢ quote → after_piece b after ≡ Ok more → HasPieces quote text more
HasPieces-more quote text rest b after more h rest_is other e =
    let read = piece_read quote b after more other e in
    let there : rest ≡ piece_text read.piece ++ more = rest_is ∙ read.text_is in
    record {
      pieces = h.pieces ++ read.piece ∷ [];
      are = pieces_more quote h.pieces read.piece rest more h.are read.is there;
      text_is = h.text_is ∙ ap (λ t. pieces_text h.pieces ++ t) there ∙ pieces_joined h.pieces read.piece more;
    }

pub HasPieces-closed : (quote : ℕ) (text rest : List ℕ) (b : ℕ) (after : List ℕ) → HasPieces quote text rest
    → rest ≡ b ∷ after → b ≡ quote
    → (pieces : List Piece) × ArePieces quote pieces (quote ∷ after) × (text ≡ pieces_text pieces ++ quote ∷ after)
HasPieces-closed quote text rest b after h rest_is same =
    let there : rest ≡ quote ∷ after = rest_is ∙ ap (λ x. x ∷ after) same in
    (h.pieces, subst (ArePieces quote h.pieces) there h.are, h.text_is ∙ ap (λ t. pieces_text h.pieces ++ t) there)

pub HasPieces-broken : (quote : ℕ) (text rest : List ℕ) (b : ℕ) (after : List ℕ) (k : LexKind)
    → HasPieces quote text rest → rest ≡ b ∷ after → after_piece b after ≡ Err k
    → (pieces : List Piece) × (bad : List ℕ) × ArePieces quote pieces bad × (text ≡ pieces_text pieces ++ bad)
    × IsBroken k bad
HasPieces-broken quote text rest b after k h rest_is e =
    (h.pieces, rest, h.are, h.text_is, subst (IsBroken k) (sym rest_is) (piece_fault b after k e))

pub HasPieces-ended : (quote : ℕ) (text rest : List ℕ) → HasPieces quote text rest → rest ≡ []
    → (pieces : List Piece) × (bad : List ℕ) × ArePieces quote pieces bad × (text ≡ pieces_text pieces ++ bad)
    × IsBroken fault.OpenString bad
HasPieces-ended quote text rest h none = (h.pieces, rest, h.are, h.text_is, subst BreaksOff (sym none) tt)

piece_some : (p : Piece) → 0 < length (piece_text p)
piece_some (Piece.plain b) = omega arith
piece_some (Piece.one_break b) = omega arith
piece_some (Piece.two_breaks b c) = omega arith
piece_some (Piece.digits ds) = omega arith
piece_some (Piece.other b) = omega arith

pub piece_shortens : (b : ℕ) (text more : List ℕ) → after_piece b text ≡ Ok more → length more < suc (length text)
piece_shortens b text more e =
    let read = piece_read (suc b) b text more (λ same. omega arith) e in
    let long = ap length read.text_is in
    let parts = length-append (piece_text read.piece) more in
    let some = piece_some read.piece in
    omega arith
