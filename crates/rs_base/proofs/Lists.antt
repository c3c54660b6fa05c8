-- Lists: fronts, parts and what is so of each element.
use Rattle.std.proofs.Common.{◌≡◌, ℕ, suc, zero, ◌-◌, ◌≤◌, List, [], ◌∷◌, ◌++◌, length, take, drop, ◌⊎◌, inl, inr, refl}
use Rattle.std.proofs.Common.{sym, ap, ◌∙◌, arith, append_assoc}
use Rattle.std.specs.List.{AllByRecursion}
use Rattle.std.proofs.lemmas.List.{take-append-le, take-append-drop, take_at}

-- what is so of each element of two lists, one behind the other
pub each-append : {X : Type 0} (P : X → Type 0) (xs ys : List X) → AllByRecursion P xs → AllByRecursion P ys
    → AllByRecursion P (xs ++ ys)
each-append P [] ys front back = back
each-append P (x ∷ xs) ys front back = (front.0, each-append P xs ys front.1 back)

pub each-front : {X : Type 0} (P : X → Type 0) (xs ys : List X) → AllByRecursion P (xs ++ ys) → AllByRecursion P xs
each-front P [] ys all = tt
each-front P (x ∷ xs) ys all = (all.0, each-front P xs ys all.1)

pub each-back : {X : Type 0} (P : X → Type 0) (xs ys : List X) → AllByRecursion P (xs ++ ys) → AllByRecursion P ys
each-back P [] ys all = all
each-back P (x ∷ xs) ys all = each-back P xs ys all.1

-- the front of no list
pub nil-front : {X : Type 0} (xs ys : List X) → xs ++ ys ≡ [] → xs ≡ []
nil-front [] ys e = refl
nil-front (x ∷ xs) ys e = absurd (cc)

-- the first elements of two lists, one behind the other
pub take-append : {X : Type 0} (n : ℕ) (xs ys : List X) → take n (xs ++ ys) ≡ take n xs ++ take (n - length xs) ys
take-append zero xs ys = let none : 0 - length xs ≡ 0 = omega arith in sym (ap (λ m. take m ys) none)
take-append (suc n) [] ys = let same : suc n - 0 ≡ suc n = omega arith in sym (ap (λ m. take m ys) same)
take-append (suc n) (x ∷ xs) ys =
    let same : n - length xs ≡ suc n - length (x ∷ xs) = omega arith in
    ap (λ l. x ∷ l) (take-append n xs ys ∙ ap (λ m. take n xs ++ take m ys) same)

-- a front that is no longer than a list is a front of that list
pub long-front : {X : Type 0} (size : ℕ) (xs ys first rest : List X) → size ≡ length first → size ≤ length xs
    → xs ++ ys ≡ first ++ rest → xs ≡ first ++ drop size xs
long-front size xs ys first rest size_is long e =
    let front : take size xs ≡ first =
    sym (take-append-le size xs ys long) ∙ ap (take size) e ∙ take_at first rest size (sym size_is) in
    sym (take-append-drop size xs) ∙ ap (λ t. t ++ drop size xs) front

-- of two fronts of a list one is a front of the other
pub data Fronts {X : Type 0} (xs firsts : List X) : Type 0 where
  Longer : (more : List X) → xs ≡ firsts ++ more → Fronts xs firsts
  Shorter : (next : X) (more : List X) → firsts ≡ xs ++ next ∷ more → Fronts xs firsts

pub two-fronts : {X : Type 0} (xs ys firsts rest : List X) → xs ++ ys ≡ firsts ++ rest → Fronts xs firsts
two-fronts xs ys [] rest e = Longer xs refl
two-fronts [] ys (a ∷ firsts) rest e = Shorter a firsts refl
two-fronts (x ∷ xs) ys (a ∷ firsts) rest e = with_later (two-fronts xs ys firsts rest (cc))
  where
    head : x ≡ a
    head = cc

    with_later : Fronts xs firsts → Fronts (x ∷ xs) (a ∷ firsts)
    with_later (Longer more is) = Longer more (ap (λ y. y ∷ xs) head ∙ ap (λ zs. a ∷ zs) is)
    with_later (Shorter next more is) =
        Shorter next more (ap (λ zs. a ∷ zs) is ∙ ap (λ y. y ∷ (xs ++ next ∷ more)) (sym head))

-- of two cuts of one list, the one stands behind the other
pub seam : {X : Type 0} (a b c d : List X) → a ++ b ≡ c ++ d
    → ((m : List X) × (a ≡ c ++ m) × (d ≡ m ++ b)) ⊎ ((m : List X) × (c ≡ a ++ m) × (b ≡ m ++ d))
seam [] b c d e = inr (c, refl, e)
seam (x ∷ a) b [] d e = inl (x ∷ a, refl, sym e)
seam {X = X} (x ∷ a) b (y ∷ c) d e = seam_more x y a b c d (cc) (seam a b c d (cc))
  where
    seam_more : (x y : X) (a b c d : List X) → x ≡ y
        → ((m : List X) × (a ≡ c ++ m) × (d ≡ m ++ b)) ⊎ ((m : List X) × (c ≡ a ++ m) × (b ≡ m ++ d))
        → ((m : List X) × (x ∷ a ≡ (y ∷ c) ++ m) × (d ≡ m ++ b))
        ⊎ ((m : List X) × (y ∷ c ≡ (x ∷ a) ++ m) × (b ≡ m ++ d))
    seam_more x y a b c d same (inl h) = let first = h.1 in inl (h.0, cc, h.2)
    seam_more x y a b c d same (inr h) = let first = h.1 in inr (h.0, cc, h.2)

-- five lists put one behind the other, step by step
pub append-five : {X : Type 0} (o o1 o2 o3 o4 o5 a b c d e : List X) → o1 ≡ o ++ a → o2 ≡ o1 ++ b → o3 ≡ o2 ++ c
    → o4 ≡ o3 ++ d → o5 ≡ o4 ++ e → o5 ≡ o ++ (a ++ b ++ c ++ d ++ e)
append-five o o1 o2 o3 o4 o5 a b c d e e1 e2 e3 e4 e5 =
    e5 ∙ ap (λ x. x ++ e) (e4 ∙ ap (λ x. x ++ d) (e3 ∙ ap (λ x. x ++ c) (e2 ∙ ap (λ x. x ++ b) e1))) ∙ simp append_assoc
