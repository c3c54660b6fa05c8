-- The texts of a chunk, and the words that its tokens are.
use Rattle.std.proofs.Common.{◌≡◌, ◌≢◌, ℕ, suc, ◌+◌, ◌<◌, ◌≤◌, Bool, true, false, cond, not, ◌||◌, ◌==◌, nat_lt, List}
use Rattle.std.proofs.Common.{[], ◌∷◌, ◌++◌, length, map, Some, None, refl, sym, ap, subst, ◌∙◌, arith, length-append}
use Rattle.std.proofs.Common.{append_assoc, append-nil}
use Rattle.std.specs.List.{position, position_or_len, list_any}
use Rattle.std.specs.Str.{bytes_eq}
use Rattle.std.proofs.lemmas.Bool.Decides.{nat_tests}
use Rattle.lua_lex.specs.declared.kinds.TokenKind.{TokenKind}
use Rattle.lua_lex.specs.declared.kinds.TokenKind.TheVariants as kind
use Rattle.lua_lex.specs.declared.kinds.Token.{Token}
use Rattle.lua_lex.specs.Tokens.{HasTokens}
use Rattle.lua_grammar.specs.declared.words.Word.{Word}
use Rattle.lua_grammar.specs.Trees as tree
use Rattle.lua_grammar.specs.Trees.{AreWords, IsNumbered, noted, number_of, spelling}
use Rattle.lua_parse.specs.Numbers.{IsIn}
use Rattle.lua_parse.proofs.Strings.{AreIn, tokens_in, tokens_few}

-- ---- places

-- a test of the keys, and of what they show
pub place-map : {A : Type 0} (f : A → List ℕ) (p : List ℕ → Bool) (ks : List A)
    → position_or_len p (map f ks) ≡ position_or_len (λ k. p (f k)) ks
place-map {A} f p [] = refl
place-map {A} f p (k ∷ ks) = by_test (p (f k)) (place-map f p ks)
  where
    by_test : (t : Bool) → position_or_len p (map f ks) ≡ position_or_len (λ k. p (f k)) ks
        → cond (not t) (1 + position_or_len p (map f ks)) 0 ≡ cond (not t) (1 + position_or_len (λ k. p (f k)) ks) 0
    by_test true e = refl
    by_test false e = ap (λ n. 1 + n) e

pub length-map_of : {A : Type 0} (f : A → List ℕ) (ks : List A) → length (map f ks) ≡ length ks
length-map_of {A} f [] = refl
length-map_of {A} f (k ∷ ks) = ap suc (length-map_of f ks)

pub map-append_one : {A : Type 0} (f : A → List ℕ) (ks : List A) (k : A) → map f (ks ++ k ∷ []) ≡ map f ks ++ f k ∷ []
map-append_one {A} f [] k = refl
map-append_one {A} f (x ∷ ks) k = ap (λ (l : List (List ℕ)). f x ∷ l) (map-append_one f ks k)

pub place_le : {A : Type 0} (p : A → Bool) (ks : List A) → position_or_len p ks ≤ length ks
place_le {A} p [] = omega arith
place_le {A} p (k ∷ ks) = by_test (p k) (place_le p ks)
  where
    by_test : (t : Bool) → position_or_len p ks ≤ length ks → cond (not t) (1 + position_or_len p ks) 0
        ≤ suc (length ks)
    by_test true le = omega arith
    by_test false le = omega arith

suc_test : (a n : ℕ) → (a == n) ≡ (1 + a == suc n)
suc_test a n = by (a == n) refl
  where
    by : (t : Bool) → (a == n) ≡ t → (a == n) ≡ (1 + a == suc n)
    by true e = let next : (1 + a == suc n) ≡ true = grind (arith, nat_tests) in e ∙ sym next
    by false e = let next : (1 + a == suc n) ≡ false = grind (arith, nat_tests) in e ∙ sym next

pub any_place : {A : Type 0} (p : A → Bool) (ks : List A) → list_any p ks ≡ not (position_or_len p ks == length ks)
any_place {A} p [] = refl
any_place {A} p (k ∷ ks) = by_test (p k) (any_place p ks)
  where
    by_test : (t : Bool) → list_any p ks ≡ not (position_or_len p ks == length ks)
        → (t || list_any p ks) ≡ not (cond (not t) (1 + position_or_len p ks) 0 == suc (length ks))
    by_test true e = let apart : (0 == suc (length ks)) ≡ false = grind (arith, nat_tests) in ap not (sym apart)
    by_test false e = e ∙ ap not (suc_test (position_or_len p ks) (length ks))

found_place : (n m at : ℕ) → cond (nat_lt n m) (Some n) None ≡ Some at → (n ≡ at) × (n < m)
found_place n m at e = by_test (nat_lt n m) refl e
  where
    by_test : (t : Bool) → nat_lt n m ≡ t → cond t (Some n) None ≡ Some at → (n ≡ at) × (n < m)
    by_test true is f = (cc, grind (arith, nat_tests))
    by_test false is f = absurd (cc)

pub found_number : {A : Type 0} (ks : List A) (f : A → List ℕ) (bytes : List ℕ) (at : ℕ)
    → position (λ k. bytes_eq bytes (f k)) ks ≡ Some at
    → (at ≡ number_of bytes (map f ks)) × (map f ks ≡ noted bytes (map f ks))
found_number {A} ks f bytes at e =
    let found = found_place (position_or_len (λ k. bytes_eq bytes (f k)) ks) (length ks) at e in
    let place : number_of bytes (map f ks) ≡ at = place-map f (bytes_eq bytes) ks ∙ found.0 in
    let size : length (map f ks) ≡ length ks = length-map_of f ks in
    let known : (number_of bytes (map f ks) == length (map f ks)) ≡ false =
    rw (place, size) (grind (arith, nat_tests, found.0, found.1)) in
    (sym place, rw known refl)

pub new_number : {A : Type 0} (ks ks' : List A) (f : A → List ℕ) (k : A) (bytes : List ℕ) (at : ℕ) → f k ≡ bytes
    → at ≡ position_or_len (λ x. bytes_eq (f k) (f x)) ks
    → ks' ≡ cond (list_any (λ x. bytes_eq (f k) (f x)) ks) ks (ks ++ k ∷ [])
    → (at ≡ number_of bytes (map f ks)) × (map f ks' ≡ noted bytes (map f ks))
new_number {A} ks ks' f k bytes at same at_is are =
    let place : number_of (f k) (map f ks) ≡ position_or_len (λ x. bytes_eq (f k) (f x)) ks =
    place-map f (bytes_eq (f k)) ks in
    let size : length (map f ks) ≡ length ks = length-map_of f ks in
    let all : map f ks' ≡ noted (f k) (map f ks) =
    ap (map f) are ∙ ap (λ t. map f (cond t ks (ks ++ k ∷ []))) (any_place (λ x. bytes_eq (f k) (f x)) ks)
    ∙ by_test (position_or_len (λ x. bytes_eq (f k) (f x)) ks == length ks)
    ∙ ap (λ t. cond t (map f ks ++ f k ∷ []) (map f ks)) (sym (rw (place, size) refl)) in
    let P : List ℕ → Type 0 = λ b. (at ≡ number_of b (map f ks)) × (map f ks' ≡ noted b (map f ks)) in
    subst P same (at_is ∙ sym place, all)
  where
    by_test : (t : Bool) → map f (cond (not t) ks (ks ++ k ∷ [])) ≡ cond t (map f ks ++ f k ∷ []) (map f ks)
    by_test true = map-append_one f ks k
    by_test false = refl

-- ---- numbers

pub unnumbered : (k : TokenKind) (spelled : List ℕ) (texts : List (List ℕ)) → k ≢ kind.Name → k ≢ kind.Text
    → IsNumbered k spelled texts 0 texts
unnumbered kind.Name spelled texts no_name no_text = absurd (no_name refl)
unnumbered kind.Text spelled texts no_name no_text = absurd (no_text refl)
unnumbered _ spelled texts no_name no_text = (refl, refl)

noted_few : (bytes : List ℕ) (texts : List (List ℕ)) → length (noted bytes texts) ≤ 1 + length texts
noted_few bytes texts = by_test (number_of bytes texts == length texts)
  where
    by_test : (t : Bool) → length (cond t (texts ++ bytes ∷ []) texts) ≤ 1 + length texts
    by_test true = omega (arith, length-append texts (bytes ∷ []))
    by_test false = omega arith

numbered_few : (k : TokenKind) (spelled : List ℕ) (texts : List (List ℕ)) (number : ℕ) (after : List (List ℕ))
    → IsNumbered k spelled texts number after → length after ≤ 1 + length texts
numbered_few kind.Name spelled texts number after is = omega (arith, noted_few spelled texts, ap length is.1)
numbered_few kind.Text spelled texts number after is = omega (arith, noted_few is.0 texts, ap length is.3)
numbered_few _ spelled texts number after is = omega (arith, ap length is.1)

-- ---- words

-- the tokens before `rest` are these words
pub record Numbered (text : List ℕ) (tokens rest : List Token) (words : List Word) (texts : List (List ℕ)) : Type 0
  where
    pub done : List Token
    pub tokens_are : tokens ≡ done ++ rest
    pub words_are : AreWords text done words texts
    pub within : AreIn text rest
    pub few : length texts ≤ length done

pub none_numbered : (text : List ℕ) (tokens : List Token) → HasTokens text tokens → Numbered text tokens tokens [] []
none_numbered text tokens has = record {
  done = [];
  tokens_are = refl;
  words_are = tree.no_words;
  within = tokens_in text tokens has;
  few = omega arith;
}

pub one_numbered : {text : List ℕ} {tokens rest more : List Token} {words longer : List Word}
    {texts after : List (List ℕ)} {t : Token} (w : Word)
    → Numbered text tokens rest words texts → rest ≡ t ∷ more → longer ≡ words ++ w ∷ [] → w.kind ≡ t.kind
    → w.line ≡ t.line → w.start ≡ t.start
    → IsNumbered t.kind (spelling text t) texts w.text after → Numbered text tokens more longer after
one_numbered {text} {tokens} {rest} {more} {words} {longer} {texts} {after} {t} w n e e' k l s is =
    let within : IsIn text t × AreIn text more = subst (AreIn text) e n.within in
    let P : List Word → Type 0 = λ ws. AreWords text (n.done ++ t ∷ []) ws after in
    record {
      done = n.done ++ t ∷ [];
      tokens_are = n.tokens_are ∙ ap (λ ts. n.done ++ ts) e ∙ sym (append_assoc n.done (t ∷ []) more);
      words_are = subst P (sym e') (tree.more_words n.words_are
          (record { kind_is = k; line_is = l; start_is = s; text_is = is }));
      within = within.1;
      few = omega (
        arith,
        n.few,
        numbered_few t.kind (spelling text t) texts w.text after is,
        length-append n.done (t ∷ []),
      );
    }

empty : {A : Type 0} (xs : List A) → length xs ≡ 0 → xs ≡ []
empty {A} [] e = refl
empty {A} (x ∷ xs) e = absurd (omega arith)

-- the first of the tokens to come
pub next_in : {text : List ℕ} {tokens rest more : List Token} {words : List Word} {texts : List (List ℕ)} {t : Token}
    → Numbered text tokens rest words texts → rest ≡ t ∷ more → IsIn text t
next_in {text} {tokens} {rest} {more} {words} {texts} {t} n e = let within : IsIn text t × AreIn text more =
    subst (AreIn text) e n.within in within.0

pub all_numbered : {text : List ℕ} {tokens rest : List Token} {words : List Word} {texts : List (List ℕ)}
    → Numbered text tokens rest words texts → length rest ≡ 0 → AreWords text tokens words texts
all_numbered {text} {tokens} {rest} {words} {texts} n none =
    let e : rest ≡ [] = empty rest none in
    let all : tokens ≡ n.done = n.tokens_are ∙ ap (λ ts. n.done ++ ts) e ∙ append-nil n.done in
    let P : List Token → Type 0 = λ ts. AreWords text ts words texts in subst P (sym all) n.words_are

-- there is room for one more text
pub few_numbered : {text : List ℕ} {tokens rest : List Token} {words : List Word} {texts : List (List ℕ)}
    → Numbered text tokens rest words texts → HasTokens text tokens → length texts ≤ length text
few_numbered {text} {tokens} {rest} {words} {texts} n has =
    omega (arith, n.few, tokens_few text tokens has, ap length n.tokens_are, length-append n.done rest)

words_few : {text : List ℕ} {tokens : List Token} {words : List Word} {texts : List (List ℕ)}
    → AreWords text tokens words texts → length words ≡ length tokens
words_few tree.no_words = refl
words_few {text} {tokens} {words} {texts} (tree.more_words {tokens = ts} {words = ws} {t = t} {w = w} are is) =
    omega (arith, words_few are, length-append ws (w ∷ []), length-append ts (t ∷ []))

-- a text has no more words than bytes
pub words_fit : {text : List ℕ} {tokens : List Token} {words : List Word} {texts : List (List ℕ)}
    → AreWords text tokens words texts → HasTokens text tokens → length words ≤ length text
words_fit {text} {tokens} {words} {texts} are has = omega (arith, words_few are, tokens_few text tokens has)
