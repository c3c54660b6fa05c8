-- The search behind a `*`.
use Rattle.std.proofs.Common.{◌≡◌, ℕ, zero, suc, ◌+◌, ◌*◌, ◌≤◌, cond, Bool, true, false, List, [], ◌∷◌, length, drop}
use Rattle.std.proofs.Common.{refl, sym, ◌∙◌, subst, arith, ◌↔◌, ◌⊎◌, inl, inr, Some, None}
use Rattle.std.specs.List.{list_all}
use Rattle.std.proofs.lemmas.List.{drop-drop}
use Rattle.cmd_glob.specs.declared.part.Part.{Part}
use Rattle.cmd_glob.specs.declared.part.Part.TheVariants.{Any, Stars, Byte, OneOf}
use Rattle.cmd_glob.specs.Matching.{Matches}
use Rattle.cmd_glob.specs.Places.{is_stars, fits, behind_stars, behind_byte}
use Rattle.cmd_glob.proofs.MatchingLemmas.{Matches-byte, Matches-one, Matches-stars, Matches-drop, Matches-nothing}
use Rattle.cmd_glob.proofs.MatchingLemmas.{are_stars-Matches, fits-one}

-- the parts match where the row before them takes one more byte, or more
abbrev pub Later : List Part → List ℕ → Type 0
Later parts text = (more : ℕ) × Matches parts (drop (suc more) text)

-- the search for a `*` and these parts in a text has come to `parts` at `rest`; the last `*` stands before `star`,
-- and its
-- row ends at `tried`
pub record Searches (all : List Part) (text : List ℕ) (star : List Part) (tried : List ℕ) (parts : List Part)
    (rest : List ℕ) : Type 0 where
  pub same : Matches (Stars ∷ all) text ↔ (Matches parts rest ⊎ Later star tried)
  pub ahead : (k : ℕ) → Matches star (drop k tried) → Matches parts (drop k rest)
  pub short : length rest ≤ length tried
  pub few : length parts ≤ length all
  pub few_star : length star ≤ length all

-- what is left to do
abbrev pub work : List Part → List ℕ → List Part → ℕ
work all tried parts = length tried * suc (length all) + length parts

now_or_later : (parts : List Part) (text : List ℕ) (k : ℕ) → Matches parts (drop k text) → Matches parts text
    ⊎ Later parts text
now_or_later parts text zero m = inl m
now_or_later parts text (suc k) m = inr (k, m)

stars_now_or_later : (parts : List Part) (text : List ℕ) → Matches (Stars ∷ parts) text → Matches parts text
    ⊎ Later parts text
stars_now_or_later parts text m = let at = Matches-drop parts text m in now_or_later parts text at.0 at.1

stars_from : (parts : List Part) (text : List ℕ) → Matches parts text ⊎ Later parts text → Matches (Stars ∷ parts) text
stars_from parts text (inl m) = Matches-stars parts text 0 m
stars_from parts text (inr later) = Matches-stars parts text (suc later.0) later.1

-- a row before the parts may as well begin earlier
stars_earlier : (parts : List Part) (text : List ℕ) (k : ℕ) → Matches (Stars ∷ parts) (drop k text)
    → Matches (Stars ∷ parts) text
stars_earlier parts text k m =
    let at = Matches-drop parts (drop k text) m in
    Matches-stars parts text (k + at.0) (subst (λ (t : List ℕ). Matches parts t) (drop-drop at.0 k text) at.1)

drop-tail : (k : ℕ) (text : List ℕ) (b : ℕ) (rest : List ℕ) → drop k text ≡ b ∷ rest → drop (suc k) text ≡ rest
drop-tail zero [] b rest e = absurd (cc)
drop-tail zero (c ∷ text) b rest e = cc
drop-tail (suc k) [] b rest e = absurd (cc)
drop-tail (suc k) (c ∷ text) b rest e = drop-tail k text b rest e

pub begins : (all : List Part) (text : List ℕ) → Searches all text all text all text
begins all text = record {
  same = (stars_now_or_later all text, stars_from all text);
  ahead = λ k m. m;
  short = omega arith;
  few = omega arith;
  few_star = omega arith;
}

-- another `*`: the one before it is done with
module _ (all : List Part) (text : List ℕ) (star : List Part) (tried : List ℕ) (parts : List Part) (rest : List ℕ) where
  only_here : Searches all text star tried (Stars ∷ parts) rest → Matches (Stars ∷ parts) rest ⊎ Later star tried
      → Matches (Stars ∷ parts) rest
  only_here s (inl m) = m
  only_here s (inr later) = stars_earlier parts rest (suc later.0) (s.ahead (suc later.0) later.1)

  pub meets_stars : Searches all text star tried (Stars ∷ parts) rest → Searches all text parts rest parts rest
  meets_stars s = record {
    same = (
      λ m. stars_now_or_later parts rest (only_here s (s.same.0 m)),
      λ m. s.same.1 (inl (stars_from parts rest m)),
    );
    ahead = λ k m. m;
    short = omega arith;
    few = let f : suc (length parts) ≤ length all = s.few in omega arith;
    few_star = let f : suc (length parts) ≤ length all = s.few in omega arith;
  }

-- a part that can stand for the next byte
behind_at : (part : Part) (parts : List Part) (b : ℕ) (rest : List ℕ) → fits part b ≡ true → (k : ℕ)
    → Matches (part ∷ parts) (drop k (b ∷ rest)) → Matches parts (drop k rest)
behind_at part parts b rest h k m =
    let one = Matches-one part parts (drop k (b ∷ rest)) (fits-one part b h) m in
    let e : drop k rest ≡ one.rest = drop-tail k (b ∷ rest) one.byte one.rest one.text_is in
    subst (λ (t : List ℕ). Matches parts t) (sym e) one.behind

module _ (all : List Part) (text : List ℕ) (star : List Part) (tried : List ℕ) (part : Part) (parts : List Part)
    (b : ℕ) (rest : List ℕ) (h : fits part b ≡ true) where
  onto : Matches (part ∷ parts) (b ∷ rest) ⊎ Later star tried → Matches parts rest ⊎ Later star tried
  onto (inl m) = inl (behind_at part parts b rest h 0 m)
  onto (inr later) = inr later

  back : Matches parts rest ⊎ Later star tried → Matches (part ∷ parts) (b ∷ rest) ⊎ Later star tried
  back (inl m) = inl (Matches-byte part parts b rest h m)
  back (inr later) = inr later

  pub takes_byte : Searches all text star tried (part ∷ parts) (b ∷ rest) → Searches all text star tried parts rest
  takes_byte s = record {
    same = (λ m. onto (s.same.0 m), λ m. s.same.1 (back m));
    ahead = λ k m. behind_at part parts b rest h k (s.ahead k m);
    short = let f : suc (length rest) ≤ length tried = s.short in omega arith;
    few = let f : suc (length parts) ≤ length all = s.few in omega arith;
    few_star = s.few_star;
  }

-- the parts do not match here: the row of the last `*` takes one more byte
module _ (all : List Part) (text : List ℕ) (star : List Part) (c : ℕ) (tried : List ℕ) (parts : List Part)
    (rest : List ℕ) (fails : Matches parts rest → ⊥) where
  later_onto : Matches parts rest ⊎ Later star (c ∷ tried) → Matches star tried ⊎ Later star tried
  later_onto (inl m) = absurd (fails m)
  later_onto (inr later) = now_or_later star tried later.0 later.1

  later_back : Matches star tried ⊎ Later star tried → Matches parts rest ⊎ Later star (c ∷ tried)
  later_back (inl m) = inr (0, m)
  later_back (inr later) = inr (suc later.0, later.1)

  pub tries_next : Searches all text star (c ∷ tried) parts rest → Searches all text star tried star tried
  tries_next s = record {
    same = (λ m. later_onto (s.same.0 m), λ m. s.same.1 (later_back m));
    ahead = λ k m. m;
    short = omega arith;
    few = s.few_star;
    few_star = s.few_star;
  }

no_stars : (part : Part) (parts : List Part) → behind_stars (part ∷ parts) ≡ None → is_stars part ≡ false
no_stars part parts e = grind arith

no_byte : (part : Part) (parts : List Part) (b c : ℕ) (more rest : List ℕ) → b ∷ rest ≡ c ∷ more → fits part c ≡ true
    → behind_byte b (part ∷ parts) ≡ None → ⊥
no_byte part parts b c more rest e h none = let same : b ≡ c = cc in let f : fits part b ≡ true = rw same h in
    grind arith

-- the first part is no `*`, and cannot stand for the next byte
pub no_match : (parts : List Part) (b : ℕ) (rest : List ℕ) → behind_stars parts ≡ None → behind_byte b parts ≡ None
    → Matches parts (b ∷ rest) → ⊥
no_match [] b rest stars byte m = let e : b ∷ rest ≡ [] = m in cc
no_match (part ∷ parts) b rest stars byte m =
    let one = Matches-one part parts (b ∷ rest) (no_stars part parts stars) m in
    no_byte part parts b one.byte one.rest rest one.text_is one.fits_byte byte

ends_onto : (parts : List Part) (star : List Part) (tried : List ℕ)
    → ((k : ℕ) → Matches star (drop k tried) → Matches parts (drop k [])) → Matches parts [] ⊎ Later star tried
    → Matches parts []
ends_onto parts star tried ahead (inl m) = m
ends_onto parts star tried ahead (inr later) = ahead (suc later.0) later.1

-- the text is at its end
pub ends : (all : List Part) (text : List ℕ) (star : List Part) (tried : List ℕ) (parts : List Part)
    → Searches all text star tried parts []
    → (list_all (λ part. is_stars part) parts ≡ true) ↔ Matches (Stars ∷ all) text
ends all text star tried parts s = (
  λ h. s.same.1 (inl (Matches-nothing parts h)),
  λ m. are_stars-Matches parts (ends_onto parts star tried s.ahead (s.same.0 m)),
)

stars_first : (here parts : List Part) → Some parts ≡ behind_stars here → here ≡ Stars ∷ parts
stars_first [] parts e = absurd (cc)
stars_first (Any ∷ here) parts e = absurd (cc)
stars_first (Stars ∷ here) parts e = cc
stars_first (Byte c ∷ here) parts e = absurd (cc)
stars_first (OneOf set ∷ here) parts e = absurd (cc)

-- the first part fits the byte, and these parts stand behind it
pub record FitsFirst (here parts : List Part) (b : ℕ) : Type 0 where
  pub part : Part
  pub here_is : here ≡ part ∷ parts
  pub fits_byte : fits part b ≡ true

fits_at : (part : Part) (here parts : List Part) (b : ℕ) (f : Bool) → fits part b ≡ f
    → Some parts ≡ cond f (Some here) None → FitsFirst (part ∷ here) parts b
fits_at part here parts b true h e = record { part = part; here_is = cc; fits_byte = h }
fits_at part here parts b false h e = absurd (cc)

pub fits_first : (here parts : List Part) (b : ℕ) → Some parts ≡ behind_byte b here → FitsFirst here parts b
fits_first [] parts b e = absurd (cc)
fits_first (part ∷ here) parts b e = fits_at part here parts b (fits part b) refl e

-- the same, in the terms of the code
module _ (all : List Part) (text : List ℕ) (star : List Part) (tried : List ℕ) (here : List Part) (now : List ℕ)
    (s : Searches all text star tried here now) where
  pub meets_stars_at : (parts : List Part) → Some parts ≡ behind_stars here → Searches all text parts now parts now
  meets_stars_at parts e = meets_stars all text star tried parts now
      (subst (λ (h : List Part). Searches all text star tried h now) (stars_first here parts e) s)

  pub takes_byte_at : (parts : List Part) (b : ℕ) (rest : List ℕ) → Some parts ≡ behind_byte b here → now ≡ b ∷ rest
      → Searches all text star tried parts rest
  takes_byte_at parts b rest e is_now =
      let f = fits_first here parts b e in
      let at : Searches all text star tried (f.part ∷ parts) now =
      subst (λ (h : List Part). Searches all text star tried h now) f.here_is s in
      takes_byte all text star tried f.part parts b rest f.fits_byte
      (subst (λ (t : List ℕ). Searches all text star tried (f.part ∷ parts) t) is_now at)

tries_at : (all : List Part) (text : List ℕ) (star : List Part) (tried : List ℕ) (here : List Part) (b : ℕ)
    (rest : List ℕ) → (Matches here (b ∷ rest) → ⊥) → Searches all text star tried here (b ∷ rest)
    → Searches all text star (drop 1 tried) star (drop 1 tried)
tries_at all text star [] here b rest fails s = let f : suc (length rest) ≤ 0 = s.short in absurd (omega arith)
tries_at all text star (c ∷ tried) here b rest fails s = tries_next all text star c tried here (b ∷ rest) fails s

pub tries_next_at : (all : List Part) (text : List ℕ) (star : List Part) (tried : List ℕ) (here : List Part)
    (now : List ℕ) (b : ℕ) (rest : List ℕ) → None ≡ behind_stars here → None ≡ behind_byte b here → now ≡ b ∷ rest
    → Searches all text star tried here now → Searches all text star (drop 1 tried) star (drop 1 tried)
tries_next_at all text star tried here now b rest stars byte is_now s =
    tries_at all text star tried here b rest (no_match here b rest (sym stars) (sym byte))
    (subst (λ (t : List ℕ). Searches all text star tried here t) is_now s)

pub ends_at : (all : List Part) (text : List ℕ) (star : List Part) (tried : List ℕ) (parts : List Part) (now : List ℕ)
    (answer : Bool) → length now ≡ 0 → answer ≡ list_all (λ part. is_stars part) parts
    → Searches all text star tried parts now → (answer ≡ true) ↔ Matches (Stars ∷ all) text
ends_at all text star tried parts [] answer empty is_answer s = let done = ends all text star tried parts s in
    (λ h. done.0 (sym is_answer ∙ h), λ m. is_answer ∙ done.1 m)
ends_at all text star tried parts (b ∷ now) answer empty is_answer s = absurd (omega arith)

-- one part that fits, before the other parts
pub Matches-fits : (here parts : List Part) (now rest : List ℕ) (b : ℕ) → Some parts ≡ behind_byte b here
    → now ≡ b ∷ rest → Matches here now ↔ Matches parts rest
Matches-fits here parts now rest b e is_now =
    let f = fits_first here parts b e in
    let P : List Part → List ℕ → Type 0 = λ h t. Matches h t ↔ Matches parts rest in
    let at : P (f.part ∷ parts) (b ∷ rest) =
    (behind_at f.part parts b rest f.fits_byte 0, Matches-byte f.part parts b rest f.fits_byte) in
    let at_here : P here (b ∷ rest) = subst (λ (h : List Part). P h (b ∷ rest)) (sym f.here_is) at in
    subst (λ (t : List ℕ). P here t) (sym is_now) at_here
