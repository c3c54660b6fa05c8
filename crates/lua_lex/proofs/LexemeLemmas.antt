-- Lexemes, read one behind the other off the front of a text.
use Rattle.std.proofs.Common.{◌≡◌, ℕ, ◌+◌, ◌-◌, ◌<◌, ◌≤◌, Option, Ok, Err, List, [], ◌∷◌, ◌++◌, length, take, drop}
use Rattle.std.proofs.Common.{refl, sym, ap, subst, ◌∙◌, arith, ◌⊎◌, inl, inr, append_assoc, append-nil, length-append}
use Rattle.std.proofs.lemmas.List.{take_at, drop_at, take-append-drop, length-take-le}
use Rattle.lua_lex.specs.declared.kinds.TokenKind.{TokenKind}
use Rattle.lua_lex.specs.declared.kinds.LexKind.{LexKind}
use Rattle.lua_lex.specs.declared.kinds.LexStop.{LexStop}
use Rattle.lua_lex.specs.declared.kinds.LexStop.TheVariants as stop
use Rattle.lua_lex.specs.declared.kinds.Token.{Token}
use Rattle.lua_lex.specs.declared.items.Item.{Item}
use Rattle.lua_lex.specs.declared.lines.Lines.{Lines}
use Rattle.lua_lex.specs.Lines.{breaks, pass}
use Rattle.lua_lex.specs.Rules.{IsFirst}
use Rattle.lua_lex.specs.Tokens.{Lexeme, text_of, AreLexemes, token_of, token_from, tokens_behind, HasTokens, StopsAt}
use Rattle.lua_lex.proofs.LineLemmas.{pass-breaks, pass-append, pass-le}
use Rattle.lua_lex.proofs.RuleLemmas.{first_same}

lexemes_joined : (lexemes : List Lexeme) (x : Lexeme) (rest : List ℕ) → text_of lexemes ++ (x.bytes ++ rest)
    ≡ text_of (lexemes ++ x ∷ []) ++ rest
lexemes_joined [] x rest = ap (λ t. t ++ rest) (sym (append-nil x.bytes))
lexemes_joined (y ∷ lexemes) x rest = append_assoc y.bytes (text_of lexemes) (x.bytes ++ rest)
    ∙ ap (λ t. y.bytes ++ t) (lexemes_joined lexemes x rest)
    ∙ sym (append_assoc y.bytes (text_of (lexemes ++ x ∷ [])) rest)

lexemes_pushed : (lexemes : List Lexeme) (x : Lexeme) → text_of (lexemes ++ x ∷ []) ≡ text_of lexemes ++ x.bytes
lexemes_pushed [] x = append-nil x.bytes
lexemes_pushed (y ∷ lexemes) x = ap (λ t. y.bytes ++ t) (lexemes_pushed lexemes x)
    ∙ sym (append_assoc y.bytes (text_of lexemes) x.bytes)

more_lexemes : (lexemes : List Lexeme) (x : Lexeme) (rest more : List ℕ) → AreLexemes lexemes rest → 0 < length x.bytes
    → IsFirst (x.bytes ++ more) (Ok (record { kind = x.kind; len = length x.bytes })) → rest ≡ x.bytes ++ more
    → AreLexemes (lexemes ++ x ∷ []) more
more_lexemes [] x rest more is some first e = (some, first, tt)
more_lexemes (y ∷ lexemes) x rest more is some first e = (
  is.0,
  subst (λ t. IsFirst (y.bytes ++ t) (Ok (record { kind = y.kind; len = length y.bytes })))
      (ap (λ t. text_of lexemes ++ t) e ∙ lexemes_joined lexemes x more) is.1,
  more_lexemes lexemes x rest more is.2 some first e,
)

tokens_pushed : (before : List ℕ) (lexemes : List Lexeme) (x : Lexeme)
    → tokens_behind before (lexemes ++ x ∷ []) ≡ tokens_behind before lexemes
    ++ token_of (length (before ++ text_of lexemes)) (1 + breaks (before ++ text_of lexemes)) x.kind (length x.bytes)
tokens_pushed before [] x =
    let same : before ≡ before ++ [] = sym (append-nil before) in
    append-nil _ ∙ ap (λ t. token_of (length t) (1 + breaks t) x.kind (length x.bytes)) same
tokens_pushed before (y ∷ lexemes) x =
    ap (λ t. token_of (length before) (1 + breaks before) y.kind (length y.bytes) ++ t)
    (tokens_pushed (before ++ y.bytes) lexemes x
    ∙ ap (λ t. tokens_behind (before ++ y.bytes) lexemes ++ token_of (length t) (1 + breaks t) x.kind (length x.bytes))
    (append_assoc before y.bytes (text_of lexemes)))
    ∙ sym (append_assoc (token_of (length before) (1 + breaks before) y.kind (length y.bytes))
    (tokens_behind (before ++ y.bytes) lexemes) _)

-- these tokens were read off the front of the text, over these lines, and `rest` is what follows them
pub record HasRead (text : List ℕ) (tokens : List Token) (lines : Lines) (rest : List ℕ) : Type 0 where
  pub lexemes : List Lexeme
  pub are_lexemes : AreLexemes lexemes rest
  pub text_is : text ≡ text_of lexemes ++ rest
  pub tokens_are : tokens ≡ tokens_behind [] lexemes
  pub lines_are : lines ≡ pass (record { breaks = 0; pending = 0 }) (text_of lexemes)

pub HasRead-length : (text : List ℕ) (tokens : List Token) (lines : Lines) (rest : List ℕ)
    → HasRead text tokens lines rest → (length rest ≤ length text) × (lines.breaks + length rest ≤ length text)
HasRead-length text tokens lines rest h =
    let long = ap length h.text_is in
    let parts = length-append (text_of h.lexemes) rest in
    let few = pass-le (record { breaks = 0; pending = 0 }) (text_of h.lexemes) in
    let same = ap (λ (l : Lines). l.breaks) h.lines_are in (omega arith, omega (arith, few, same))

line_is : (text : List ℕ) (tokens : List Token) (lines : Lines) (rest : List ℕ) (h : HasRead text tokens lines rest)
    → lines.breaks ≡ breaks (text_of h.lexemes)
line_is text tokens lines rest h = ap (λ (l : Lines). l.breaks) h.lines_are ∙ pass-breaks (text_of h.lexemes)

pub HasRead-more : (text : List ℕ) (tokens : List Token) (lines : Lines) (rest : List ℕ) (item : Item)
    (bytes more : List ℕ) → HasRead text tokens lines rest → IsFirst rest (Ok item) → 0 < item.len
    → item.len ≤ length rest
    → bytes ≡ take item.len rest → more ≡ drop item.len rest
    → HasRead text (tokens ++ token_from (length text - length rest) (lines.breaks + 1) item) (pass lines bytes) more
HasRead-more text tokens lines rest item bytes more h first some within bytes_is more_is = record {
  lexemes = h.lexemes ++ x ∷ [];
  are_lexemes = more_lexemes h.lexemes x rest more h.are_lexemes (omega (arith, long)) there rest_is;
  text_is = h.text_is ∙ ap (λ t. text_of h.lexemes ++ t) rest_is ∙ lexemes_joined h.lexemes x more;
  tokens_are = ap (λ t. t ++ token_from (length text - length rest) (lines.breaks + 1) item) h.tokens_are
      ∙ ap (λ t. tokens_behind [] h.lexemes ++ t) token_is ∙ sym (tokens_pushed [] h.lexemes x);
  lines_are = ap (λ l. pass l bytes) h.lines_are
      ∙ sym (pass-append (record { breaks = 0; pending = 0 }) (text_of h.lexemes) bytes)
      ∙ ap (pass (record { breaks = 0; pending = 0 })) (sym (lexemes_pushed h.lexemes x));
}
  where
    x : Lexeme
    x = record { kind = item.kind; bytes = bytes }

    long : length bytes ≡ item.len
    long = ap length bytes_is ∙ length-take-le item.len rest within

    rest_is : rest ≡ bytes ++ more
    rest_is = sym (ap (λ t. t ++ more) bytes_is ∙ ap (λ t. take item.len rest ++ t) more_is
        ∙ take-append-drop item.len rest)

    there : IsFirst (bytes ++ more) (Ok (record { kind = item.kind; len = length bytes }))
    there = subst (λ n. IsFirst (bytes ++ more) (Ok (record { kind = item.kind; len = n }))) (sym long)
        (subst (λ t. IsFirst t (Ok item)) rest_is first)

    token_is : token_from (length text - length rest) (lines.breaks + 1) item
        ≡ token_of (length ([] ++ text_of h.lexemes)) (1 + breaks ([] ++ text_of h.lexemes)) item.kind (length bytes)
    token_is =
        let whole = ap length h.text_is in
        let parts = length-append (text_of h.lexemes) rest in
        let start : length text - length rest ≡ length (text_of h.lexemes) = omega arith in
        let line : lines.breaks + 1 ≡ 1 + breaks (text_of h.lexemes) =
        omega (arith, line_is text tokens lines rest h) in
        ap (λ n. token_of n (lines.breaks + 1) item.kind item.len) start
        ∙ ap (λ n. token_of (length (text_of h.lexemes)) n item.kind item.len) line
        ∙ ap (token_of (length (text_of h.lexemes)) (1 + breaks (text_of h.lexemes)) item.kind) (sym long)

-- a text was read to its end
pub HasRead-all : (text : List ℕ) (tokens : List Token) (lines : Lines) (rest : List ℕ) → HasRead text tokens lines rest
    → rest ≡ [] → HasTokens text tokens
HasRead-all text tokens lines rest h none =
    record {
      lexemes = h.lexemes;
      are_lexemes = subst (AreLexemes h.lexemes) none h.are_lexemes;
      text_is = h.text_is
          ∙ ap (λ t. text_of h.lexemes ++ t) none ∙ append-nil (text_of h.lexemes);
      tokens_are = h.tokens_are;
    }

-- or up to a fault
pub HasRead-stop : (text : List ℕ) (tokens : List Token) (lines : Lines) (rest : List ℕ) (kind : LexKind)
    → HasRead text tokens lines rest → IsFirst rest (Err kind) → 0 < length rest → StopsAt text (lines.breaks + 1) kind
HasRead-stop text tokens lines rest kind h faulty some =
    record {
      lexemes = h.lexemes;
      bad = rest;
      are_lexemes = h.are_lexemes;
      some = some;
      faulty = faulty;
      text_is = h.text_is;
      line_is = omega (arith, line_is text tokens lines rest h);
    }

-- where the lexemes end
pub IsEnd : List ℕ → Type 0
IsEnd rest = (rest ≡ []) ⊎ ((k : LexKind) × IsFirst rest (Err k))

front_same : (p q s t : List ℕ) → p ++ s ≡ q ++ t → length p ≡ length q → (p ≡ q) × (s ≡ t)
front_same p q s t e long = (
  sym (take_at p s (length p) refl) ∙ ap (take (length p)) e ∙ take_at q t (length p) (sym long),
  sym (drop_at p s (length p) refl) ∙ ap (drop (length p)) e ∙ drop_at q t (length p) (sym long),
)

no_more : (x : Lexeme) (lexemes : List Lexeme) (a rest : List ℕ) → IsEnd a → AreLexemes (x ∷ lexemes) rest
    → a ≡ x.bytes ++ (text_of lexemes ++ rest) → ⊥
unfolding IsEnd
no_more x lexemes a rest (inl none) is e = let some = is.0 in let long =
    length-append x.bytes (text_of lexemes ++ rest) in let same = ap length (sym none ∙ e) in omega arith
no_more x lexemes a rest (inr broken) is e = let two =
    first_same a (Err broken.0) (Ok (record { kind = x.kind; len = length x.bytes })) broken.1
    (subst (λ t. IsFirst t (Ok (record { kind = x.kind; len = length x.bytes }))) (sym e) is.1) in absurd (cc)

-- the lexemes of one text up to an end are the same
pub lexemes_same : (xs ys : List Lexeme) (a b : List ℕ) → AreLexemes xs a → AreLexemes ys b
    → text_of xs ++ a ≡ text_of ys ++ b → IsEnd a → IsEnd b → (xs ≡ ys) × (a ≡ b)
lexemes_same [] [] a b is js e end_a end_b = (refl, e)
lexemes_same [] (y ∷ ys) a b is js e end_a end_b =
    absurd (no_more y ys a b end_a js (e ∙ append_assoc y.bytes (text_of ys) b))
lexemes_same (x ∷ xs) [] a b is js e end_a end_b =
    absurd (no_more x xs b a end_b is (sym e ∙ append_assoc x.bytes (text_of xs) a))
lexemes_same (x ∷ xs) (y ∷ ys) a b is js e end_a end_b =
    let text : x.bytes ++ (text_of xs ++ a) ≡ y.bytes ++ (text_of ys ++ b) = sym (append_assoc x.bytes (text_of xs) a)
    ∙ e ∙ append_assoc y.bytes (text_of ys) b in
    let one = first_same (x.bytes ++ (text_of xs ++ a)) (Ok (record { kind = x.kind; len = length x.bytes }))
    (Ok (record { kind = y.kind; len = length y.bytes })) is.1
    (subst (λ t. IsFirst t (Ok (record { kind = y.kind; len = length y.bytes }))) (sym text) js.1) in
    let item : ◌≡◌ {A = Item} (record { kind = x.kind; len = length x.bytes })
    (record { kind = y.kind; len = length y.bytes }) = cc in
    let kinds = ap (λ (i : Item). i.kind) item in
    let longs = ap (λ (i : Item). i.len) item in
    let parts = front_same x.bytes y.bytes (text_of xs ++ a) (text_of ys ++ b) text longs in
    let after = lexemes_same xs ys a b is.2 js.2 parts.1 end_a end_b in
    let first : x ≡ y = ap (λ k. lexeme k x.bytes) kinds ∙ ap (lexeme y.kind) parts.0 in
    (ap (λ z. z ∷ xs) first ∙ ap (λ t. y ∷ t) after.0, after.1)
  where
    lexeme : Option TokenKind → List ℕ → Lexeme
    lexeme k bytes = record { kind = k; bytes = bytes }

-- a text has one list of tokens
pub tokens_same : (text : List ℕ) (ts us : List Token) → HasTokens text ts → HasTokens text us → ts ≡ us
unfolding IsEnd
tokens_same text ts us h k =
    let text : text_of h.lexemes ++ [] ≡ text_of k.lexemes ++ [] = append-nil (text_of h.lexemes) ∙ sym h.text_is
    ∙ k.text_is ∙ sym (append-nil (text_of k.lexemes)) in
    let same_lexemes = lexemes_same h.lexemes k.lexemes [] [] h.are_lexemes k.are_lexemes text (inl refl) (inl refl) in
    h.tokens_are ∙ ap (tokens_behind []) same_lexemes.0 ∙ sym k.tokens_are

-- a text that has tokens has no fault
pub tokens_no_stop : (text : List ℕ) (ts : List Token) (line : ℕ) (kind : LexKind) → HasTokens text ts
    → StopsAt text line kind → ⊥
unfolding IsEnd
tokens_no_stop text ts line kind h k =
    let text : text_of h.lexemes ++ [] ≡ text_of k.lexemes ++ k.bad = append-nil (text_of h.lexemes) ∙ sym h.text_is
    ∙ k.text_is in
    let same_lexemes = lexemes_same h.lexemes k.lexemes [] k.bad h.are_lexemes k.are_lexemes text (inl refl)
    (inr (kind, k.faulty)) in
    let none = ap length same_lexemes.1 in let some = k.some in omega arith

-- and one first fault
pub stops_same : (text : List ℕ) (line : ℕ) (kind : LexKind) (line' : ℕ) (kind' : LexKind) → StopsAt text line kind
    → StopsAt text line' kind' → (line ≡ line') × (kind ≡ kind')
unfolding IsEnd
stops_same text line kind line' kind' h k =
    let text : text_of h.lexemes ++ h.bad ≡ text_of k.lexemes ++ k.bad = sym h.text_is ∙ k.text_is in
    let same_lexemes = lexemes_same h.lexemes k.lexemes h.bad k.bad h.are_lexemes k.are_lexemes text
    (inr (kind, h.faulty)) (inr (kind', k.faulty)) in
    let faults = first_same h.bad (Err kind) (Err kind') h.faulty
    (subst (λ t. IsFirst t (Err kind')) (sym same_lexemes.1) k.faulty) in (
      h.line_is ∙ ap (λ r. 1 + breaks (text_of r)) same_lexemes.0 ∙ sym k.line_is,
      let kinds : kind ≡ kind' = cc in
          kinds,
    )

-- what a stop of the code says, against tokens or another stop
pub bad_same : (l m : ℕ) (j k : LexKind) → ◌≡◌ {A = LexStop} (stop.Bad l j) (stop.Bad m k) → (l ≡ m) × (j ≡ k)
bad_same l m j k e = (let same : l ≡ m = cc in same, let same : j ≡ k = cc in same)

pub stop_along : (text : List ℕ) (l m : ℕ) (j k : LexKind) → StopsAt text l j
    → ◌≡◌ {A = LexStop} (stop.Bad l j) (stop.Bad m k) → StopsAt text m k
stop_along text l m j k h e = let same = bad_same l m j k e in
    subst (StopsAt text m) same.1 (subst (λ n. StopsAt text n j) same.0 h)

pub stop_is : (text : List ℕ) (l m : ℕ) (j k : LexKind) → StopsAt text l j → StopsAt text m k
    → ◌≡◌ {A = LexStop} (stop.Bad l j) (stop.Bad m k)
stop_is text l m j k h i = let same = stops_same text l j m k h i in ap (λ n. stop.Bad n j) same.0
    ∙ ap (stop.Bad m) same.1
