-- The bytes that strings stand for.
use Rattle.std.proofs.Common.{◌≡◌, ◌≢◌, ℕ, zero, suc, ◌+◌, ◌-◌, ◌*◌, ◌<◌, ◌≤◌, Bool, true, false, cond, ◌==◌, Option}
use Rattle.std.proofs.Common.{Some, None, option_map, option_and_then, Ok, Err, List, [], ◌∷◌, ◌++◌, length, map, drop}
use Rattle.std.proofs.Common.{refl, sym, ap, subst, ◌∙◌, arith, ◌⊎◌, inl, inr, append_assoc}
use Rattle.std.specs.Char.{digit_value}
use Rattle.std.specs.Str.Parse.{digits_value_after}
use Rattle.std.proofs.lemmas.Bool.Decides.{nat_tests}
use Rattle.std.proofs.lemmas.List.{map-append}
use Rattle.lua_lex.specs.declared.kinds.LexKind.{LexKind}
use Rattle.lua_lex.specs.Lines.{is_break, is_pair}
use Rattle.lua_lex.specs.Long.{level, close, long_len}
use Rattle.lua_lex.specs.Pieces.{Piece, piece_text, pieces_text, AreDigits, NoDigit, IsPiece, ArePieces, IsBroken}
use Rattle.lua_lex.specs.Strings.{after_break, after_piece}
use Rattle.lua_lex.specs.Values.{piece_byte, line_feeds}
use Rattle.lua_lex.specs.ValueReading.{digits_byte, escape_byte, first_byte}
use Rattle.lua_lex.proofs.LineLemmas.{both}
use Rattle.lua_lex.proofs.PieceLemmas.{digit_is, piece_read, piece_fault, pieces_more, pieces_joined}
use Rattle.lua_lex.proofs.ReadLemmas.{piece_starts, Stuck, quote_stuck, broken_stuck, no_break_at_quote, stuck_piece}
use Rattle.lua_lex.proofs.ReadLemmas.{pieces_same, digit_plain, value_ge, small_test}

no_digit_byte : (left value : ℕ) (rest : List ℕ) → (0 ≡ left) ⊎ NoDigit rest → digits_byte left value rest ≡ value
no_digit_byte zero value rest ends = refl
no_digit_byte (suc left) value [] ends = refl
no_digit_byte (suc left) value (b ∷ rest) (inl e) = absurd (omega arith)
no_digit_byte (suc left) value (b ∷ rest) (inr lacks) = rw lacks refl

digits_byte-is : (left value : ℕ) (ds rest : List ℕ) → AreDigits ds → length ds ≤ left
    → digits_value_after 10 value ds ≤ 255 → (length ds ≡ left) ⊎ NoDigit rest → digits_byte left value (ds ++ rest)
    ≡ digits_value_after 10 value ds
digits_byte-is left value [] rest are few small ends = no_digit_byte left value rest ends
digits_byte-is zero value (b ∷ ds) rest are few small ends = absurd (omega arith)
digits_byte-is (suc left) value (b ∷ ds) rest are few small ends =
    let same : value * 10 + (b - 48) ≡ value * 10 + digit_value b =
    ap (λ d. value * 10 + d) (sym (digit_is b are.0).0) in
    let moved : digits_value_after 10 (value * 10 + (b - 48)) ds ≤ 255 =
    subst (λ v. digits_value_after 10 v ds ≤ 255) (sym same) small in
    let near = small_test (value * 10 + (b - 48)) (omega (arith, value_ge (value * 10 + (b - 48)) ds, moved)) in
    rw (are.0, near) (digits_byte-is left (value * 10 + (b - 48)) ds rest are.1 (omega arith) moved (fewer ends)
    ∙ ap (λ v. digits_value_after 10 v ds) same)
  where
    fewer : (length (b ∷ ds) ≡ suc left) ⊎ NoDigit rest → (length ds ≡ left) ⊎ NoDigit rest
    fewer (inl e) = inl (omega arith)
    fewer (inr e) = inr e

not_slash : (b : ℕ) → b ≢ 92 → (b == 92) ≡ false
not_slash b ne = grind (arith, nat_tests)

escape_is : (b : ℕ) (text more : List ℕ) → b ∷ text ≡ 92 ∷ more → first_byte b text ≡ escape_byte more
unfolding first_byte
escape_is b text more e =
    let at : b ≡ 92 = cc in
    let there : text ≡ more = cc in ap (λ x. cond (x == 92) (escape_byte text) x) at ∙ ap escape_byte there

break_byte : (b : ℕ) (text : List ℕ) → is_break b ≡ true → escape_byte (b ∷ text) ≡ 10
unfolding escape_byte
break_byte b text is = rw is refl

-- the byte that the code reads is the byte of the piece
byte_is : (quote : ℕ) (p : Piece) (rest : List ℕ) (b : ℕ) (text : List ℕ) → IsPiece quote p rest
    → b ∷ text ≡ piece_text p ++ rest → first_byte b text ≡ piece_byte p
unfolding first_byte escape_byte
byte_is quote (Piece.plain c) rest b text is e =
    let at : b ≡ c = cc in
    let other = not_slash c is.1 in ap (λ x. cond (x == 92) (escape_byte text) x) at
    ∙ ap (λ t. cond t (escape_byte text) c) other
byte_is quote (Piece.one_break c) rest b text is e = escape_is b text (c ∷ rest) e ∙ break_byte c rest is.0
byte_is quote (Piece.two_breaks c d) rest b text is e = let parts = both (is_break c) _ is in
    escape_is b text (c ∷ d ∷ rest) e ∙ break_byte c (d ∷ rest) parts.0
byte_is quote (Piece.digits []) rest b text is e = absurd (omega (arith, is.1))
byte_is quote (Piece.digits (c ∷ ds)) rest b text is e =
    let few : length ds ≤ 2 = omega (arith, is.2) in
    let same : c - 48 ≡ 0 * 10 + digit_value c = omega (arith, (digit_is c is.0.0).0) in
    let small : digits_value_after 10 (c - 48) ds ≤ 255 =
    subst (λ v. digits_value_after 10 v ds ≤ 255) (sym same) is.3 in
    escape_is b text (c ∷ ds ++ rest) e ∙ rw (digit_plain c is.0.0, is.0.0)
    (digits_byte-is 2 (c - 48) ds rest is.0.1 few small (fewer is.4) ∙ ap (λ v. digits_value_after 10 v ds) same)
  where
    fewer : (length (c ∷ ds) ≡ 3) ⊎ NoDigit rest → (length ds ≡ 2) ⊎ NoDigit rest
    fewer (inl f) = inl (omega arith)
    fewer (inr f) = inr f
byte_is quote (Piece.other c) rest b text is e = escape_is b text (c ∷ rest) e ∙ rw (is.0, is.1) refl

-- two rows of pieces of one text stand for the same bytes
bytes_same : (quote : ℕ) (ps qs : List Piece) (a b : List ℕ) → quote ≢ 92 → ArePieces quote ps a → ArePieces quote qs b
    → pieces_text ps ++ a ≡ pieces_text qs ++ b → Stuck quote a → Stuck quote b → map piece_byte ps ≡ map piece_byte qs
bytes_same quote [] [] a b other are bre e stuck_a stuck_b = refl
bytes_same quote [] (q ∷ qs) a b other are bre e stuck_a stuck_b =
    absurd (stuck_piece quote a q (pieces_text qs ++ b) other bre.0 (e ∙ append_assoc (piece_text q) (pieces_text qs) b)
    stuck_a)
bytes_same quote (p ∷ ps) [] a b other are bre e stuck_a stuck_b =
    absurd (stuck_piece quote b p (pieces_text ps ++ a) other are.0
    (sym e ∙ append_assoc (piece_text p) (pieces_text ps) a) stuck_b)
bytes_same quote (p ∷ ps) (q ∷ qs) a b other are bre e stuck_a stuck_b =
    let first = piece_starts quote p (pieces_text ps ++ a) other are.0 in
    let second = piece_starts quote q (pieces_text qs ++ b) other bre.0 in
    let text : first.first ∷ first.more ≡ second.first ∷ second.more =
    sym first.text_is ∙ sym (append_assoc (piece_text p) (pieces_text ps) a) ∙ e
    ∙ append_assoc (piece_text q) (pieces_text qs) b ∙ second.text_is in
    let heads : first.first ≡ second.first = cc in
    let tails : first.more ≡ second.more = cc in
    let rest : pieces_text ps ++ a ≡ pieces_text qs ++ b = let one = first.after in let two = second.after in
    let reads : after_piece first.first first.more ≡ after_piece second.first second.more =
    ap (λ x. after_piece x first.more) heads ∙ ap (after_piece second.first) tails in cc in
    let one : first_byte first.first first.more ≡ piece_byte p =
    byte_is quote p (pieces_text ps ++ a) first.first first.more are.0 (sym first.text_is) in
    let two : first_byte second.first second.more ≡ piece_byte q =
    byte_is quote q (pieces_text qs ++ b) second.first second.more bre.0 (sym second.text_is) in
    let bytes : piece_byte p ≡ piece_byte q = sym one ∙ ap (λ x. first_byte x first.more) heads
    ∙ ap (first_byte second.first) tails ∙ two in
    ap (λ x. x ∷ map piece_byte ps) bytes ∙ ap (λ t. piece_byte q ∷ t)
    (bytes_same quote ps qs a b other are.1 bre.1 rest stuck_a stuck_b)

-- these bytes were read off a string
pub record HasValue (quote : ℕ) (text bytes rest : List ℕ) : Type 0 where
  pub pieces : List Piece
  pub are : ArePieces quote pieces rest
  pub text_is : text ≡ pieces_text pieces ++ rest
  pub bytes_are : bytes ≡ map piece_byte pieces

pub HasValue-more : (quote : ℕ) (text bytes rest : List ℕ) (b : ℕ) (after more : List ℕ) (byte : ℕ)
    → HasValue quote text bytes rest → rest ≡ b ∷ after → b ≢ quote → after_piece b after ≡ Ok more
    → byte ≡ first_byte b after
    → HasValue quote text (bytes ++ byte ∷ []) more
HasValue-more quote text bytes rest b after more byte h rest_is other e byte_e =
    let read = piece_read quote b after more other e in
    let there : rest ≡ piece_text read.piece ++ more = rest_is ∙ read.text_is in
    let value : byte ≡ piece_byte read.piece = byte_e ∙ byte_is quote read.piece more b after read.is read.text_is in
    record {
      pieces = h.pieces ++ read.piece ∷ [];
      are = pieces_more quote h.pieces read.piece rest more h.are read.is there;
      text_is = h.text_is ∙ ap (λ t. pieces_text h.pieces ++ t) there ∙ pieces_joined h.pieces read.piece more;
      bytes_are = ap (λ x. bytes ++ x ∷ []) value ∙ ap (λ t. t ++ piece_byte read.piece ∷ []) h.bytes_are
          ∙ sym (map-append piece_byte h.pieces (read.piece ∷ []));
    }

quote_is : (quote : ℕ) → (quote ≡ 34) ⊎ (quote ≡ 39) → (quote ≢ 92) × (is_break quote ≡ false)
quote_is quote (inl e) = (λ f. omega arith, ap is_break e)
quote_is quote (inr e) = (λ f. omega arith, ap is_break e)

-- the string ended with the text
pub HasValue-closed : (quote : ℕ) (text bytes rest : List ℕ) (b : ℕ) (after : List ℕ) → HasValue quote text bytes rest
    → rest ≡ b ∷ after → b ≡ quote → after ≡ []
    → (pieces : List Piece) × ArePieces quote pieces (quote ∷ []) × (text ≡ pieces_text pieces ++ quote ∷ [])
    × (bytes ≡ map piece_byte pieces)
HasValue-closed quote text bytes rest b after h rest_is same none =
    let there : rest ≡ quote ∷ [] = rest_is ∙ ap (λ x. x ∷ after) same ∙ ap (λ t. quote ∷ t) none in (
      h.pieces,
      subst (ArePieces quote h.pieces) there h.are,
      h.text_is ∙ ap (λ t. pieces_text h.pieces ++ t) there,
      h.bytes_are,
    )

pub HasValue-only : (quote : ℕ) (text bytes rest : List ℕ) (b : ℕ) (after : List ℕ) → (quote ≡ 34) ⊎ (quote ≡ 39)
    → HasValue quote text bytes rest → rest ≡ b ∷ after → b ≡ quote → after ≡ []
    → (ps : List Piece) → ArePieces quote ps (quote ∷ []) → text ≡ pieces_text ps ++ quote ∷ []
    → bytes ≡ map piece_byte ps
HasValue-only quote text bytes rest b after is h rest_is same none ps are e =
    let closed = HasValue-closed quote text bytes rest b after h rest_is same none in
    closed.3 ∙ bytes_same quote closed.0 ps (quote ∷ []) (quote ∷ []) (quote_is quote is).0 closed.1 are
    (sym closed.2 ∙ e) (quote_stuck quote []) (quote_stuck quote [])

pub HasValue-more_behind : (quote : ℕ) (text bytes rest : List ℕ) (b : ℕ) (after : List ℕ) → (quote ≡ 34) ⊎ (quote ≡ 39)
    → HasValue quote text bytes rest → rest ≡ b ∷ after → b ≡ quote → 0 < length after
    → (ps : List Piece) → ArePieces quote ps (quote ∷ []) → text ≡ pieces_text ps ++ quote ∷ [] → ⊥
HasValue-more_behind quote text bytes rest b after is h rest_is same some ps are e =
    let there : rest ≡ quote ∷ after = rest_is ∙ ap (λ x. x ∷ after) same in
    let ends = pieces_same quote h.pieces ps (quote ∷ after) (quote ∷ []) (quote_is quote is).0
    (subst (ArePieces quote h.pieces) there h.are) are (ap (λ t. pieces_text h.pieces ++ t) (sym there) ∙ sym h.text_is
    ∙ e) (quote_stuck quote after) (quote_stuck quote []) in
    let long = ap length ends in omega arith

pub HasValue-broken : (quote : ℕ) (text bytes rest : List ℕ) (b : ℕ) (after : List ℕ) (k : LexKind)
    → (quote ≡ 34) ⊎ (quote ≡ 39) → HasValue quote text bytes rest → rest ≡ b ∷ after → after_piece b after ≡ Err k
    → (ps : List Piece) → ArePieces quote ps (quote ∷ []) → text ≡ pieces_text ps ++ quote ∷ [] → ⊥
HasValue-broken quote text bytes rest b after k is h rest_is broken ps are e =
    let plain = quote_is quote is in
    let bad : IsBroken k rest = subst (IsBroken k) (sym rest_is) (piece_fault b after k broken) in
    let ends = pieces_same quote h.pieces ps rest (quote ∷ []) plain.0 h.are are (sym h.text_is ∙ e)
    (broken_stuck quote k rest bad) (quote_stuck quote []) in
    no_break_at_quote quote [] k plain.0 plain.1 (subst (IsBroken k) ends bad)

pub HasValue-ended : (quote : ℕ) (text bytes rest : List ℕ) → (quote ≡ 34) ⊎ (quote ≡ 39)
    → HasValue quote text bytes rest → rest ≡ []
    → (ps : List Piece) → ArePieces quote ps (quote ∷ []) → text ≡ pieces_text ps ++ quote ∷ [] → ⊥
unfolding Stuck
HasValue-ended quote text bytes rest is h none ps are e =
    let ends = pieces_same quote h.pieces ps [] (quote ∷ []) (quote_is quote is).0
    (subst (ArePieces quote h.pieces) none h.are) are (ap (λ t. pieces_text h.pieces ++ t) (sym none) ∙ sym h.text_is
    ∙ e) tt (quote_stuck quote []) in
    let long = ap length ends in omega arith

-- line breaks as LF, from the left
pub line_feeds-break : (b : ℕ) (text : List ℕ) → is_break b ≡ true
    → line_feeds (b ∷ text) ≡ 10 ∷ line_feeds (after_break b text)
line_feeds-break b [] is = rw is refl
line_feeds-break b (c ∷ text) is = by_pair (is_pair b c)
  where
    by_pair : (t : Bool) → cond t (10 ∷ line_feeds text) (cond (is_break b) 10 b ∷ line_feeds (c ∷ text)) ≡ 10
        ∷ line_feeds (cond t text (c ∷ text))
    by_pair true = refl
    by_pair false = ap (λ x. x ∷ line_feeds (c ∷ text)) (ap (λ t. cond t 10 b) is)

-- the brackets of a long string take so many bytes
pub long_parts : (text : List ℕ) (n m : ℕ) → level text ≡ Some n → long_len text ≡ Some m → n + 2 + (n + 1) ≤ m
unfolding long_len
long_parts text n m opened closed = by (close n (drop (n + 1) text))
    (sym (ap (option_and_then (λ l. option_map (λ at. l + 1 + at + l + 2) (close l (drop (l + 1) text)))) opened)
    ∙ closed)
  where
    by : (o : Option ℕ) → option_map (λ at. n + 1 + at + n + 2) o ≡ Some m → n + 2 + (n + 1) ≤ m
    by None e = absurd (cc)
    by (Some at) e = let same : n + 1 + at + n + 2 ≡ m = cc in omega arith

pub feeds_more : (text bytes rest : List ℕ) (b : ℕ) (more : List ℕ) → bytes ++ line_feeds rest ≡ line_feeds text
    → rest ≡ b ∷ more → is_break b ≡ true → (bytes ++ 10 ∷ []) ++ line_feeds (after_break b more) ≡ line_feeds text
feeds_more text bytes rest b more h rest_is broken =
    append_assoc bytes (10 ∷ []) (line_feeds (after_break b more))
    ∙ ap (λ t. bytes ++ t) (sym (ap line_feeds rest_is ∙ line_feeds-break b more broken)) ∙ h
