-- What a pattern matches, by its first part.
use Rattle.std.proofs.Common.{◌≡◌, ℕ, true, false, List, [], ◌∷◌, ◌++◌, length, take, drop, refl, sym, ◌∙◌, ap, subst}
use Rattle.std.specs.List.{list_all}
use Rattle.std.proofs.lemmas.Bool.{eqb-true, eq-eqb}
use Rattle.std.proofs.lemmas.List.{take-append-drop, drop_at}
use Rattle.cmd_glob.specs.declared.part.Part.{Part}
use Rattle.cmd_glob.specs.declared.part.Part.TheVariants.{Any, Stars, Byte, OneOf}
use Rattle.cmd_glob.specs.Matching.{StandsFor, Matches}
use Rattle.cmd_glob.specs.Places.{is_stars, fits}

-- a part that is no `*` stands for one byte
pub record OneByte (part : Part) (parts : List Part) (text : List ℕ) : Type 0 where
  pub byte : ℕ
  pub rest : List ℕ
  pub text_is : text ≡ byte ∷ rest
  pub fits_byte : fits part byte ≡ true
  pub behind : Matches parts rest

StandsFor-fits : (part : Part) (b : ℕ) → fits part b ≡ true → StandsFor part (b ∷ [])
StandsFor-fits Any b h = (b, refl)
StandsFor-fits Stars b h = tt
StandsFor-fits (Byte c) b h = ap (λ x. x ∷ []) (eqb-true b c h)
StandsFor-fits (OneOf set) b h = (b, refl, h)

pub Matches-byte : (part : Part) (parts : List Part) (b : ℕ) (text : List ℕ) → fits part b ≡ true → Matches parts text
    → Matches (part ∷ parts) (b ∷ text)
Matches-byte part parts b text h m = (b ∷ [], text, refl, StandsFor-fits part b h, m)

one_byte : (part : Part) (parts : List Part) (text piece rest : List ℕ) (b : ℕ) → text ≡ piece ++ rest
    → piece ≡ b ∷ [] → fits part b ≡ true → Matches parts rest → OneByte part parts text
one_byte part parts text piece rest b e one f m =
    record { byte = b; rest = rest; text_is = e ∙ ap (λ p. p ++ rest) one; fits_byte = f; behind = m }

pub Matches-one : (part : Part) (parts : List Part) (text : List ℕ) → is_stars part ≡ false
    → Matches (part ∷ parts) text → OneByte part parts text
Matches-one Any parts text h m = one_byte Any parts text m.0 m.1 m.3.0 m.2 m.3.1 refl m.4
Matches-one Stars parts text h m = absurd (cc)
Matches-one (Byte c) parts text h m = one_byte (Byte c) parts text m.0 m.1 c m.2 m.3 (eq-eqb c c refl) m.4
Matches-one (OneOf set) parts text h m = one_byte (OneOf set) parts text m.0 m.1 m.3.0 m.2 m.3.1 m.3.2 m.4

-- a part that fits a byte is no `*`
pub fits-one : (part : Part) (b : ℕ) → fits part b ≡ true → is_stars part ≡ false
fits-one Any b h = refl
fits-one Stars b h = absurd (cc)
fits-one (Byte c) b h = refl
fits-one (OneOf set) b h = refl

pub is_stars-is : (part : Part) → is_stars part ≡ true → part ≡ Stars
is_stars-is Any h = absurd (cc)
is_stars-is Stars h = refl
is_stars-is (Byte c) h = absurd (cc)
is_stars-is (OneOf set) h = absurd (cc)

-- a row of any length, and then the other parts
pub Matches-stars : (parts : List Part) (text : List ℕ) (k : ℕ) → Matches parts (drop k text)
    → Matches (Stars ∷ parts) text
Matches-stars parts text k m = (take k text, drop k text, sym (take-append-drop k text), tt, m)

pub Matches-drop : (parts : List Part) (text : List ℕ) → Matches (Stars ∷ parts) text → (k : ℕ)
    × Matches parts (drop k text)
Matches-drop parts text m =
    let behind : drop (length m.0) text ≡ m.1 = ap (drop (length m.0)) m.2 ∙ drop_at m.0 m.1 (length m.0) refl in
    (length m.0, subst (λ (t : List ℕ). Matches parts t) (sym behind) m.4)

empty_behind : (piece rest : List ℕ) → [] ≡ piece ++ rest → rest ≡ []
empty_behind [] rest e = sym e
empty_behind (b ∷ piece) rest e = absurd (cc)

-- nothing is matched by rows of bytes alone
pub Matches-nothing : (parts : List Part) → list_all (λ part. is_stars part) parts ≡ true → Matches parts []
Matches-nothing [] h = refl
Matches-nothing (Any ∷ parts) h = absurd (cc)
Matches-nothing (Stars ∷ parts) h = ([], [], refl, tt, Matches-nothing parts h)
Matches-nothing (Byte c ∷ parts) h = absurd (cc)
Matches-nothing (OneOf set ∷ parts) h = absurd (cc)

not_nothing : (part : Part) (parts : List Part) → OneByte part parts [] → ⊥
not_nothing part parts one = let e : [] ≡ one.byte ∷ one.rest = one.text_is in cc

pub are_stars-Matches : (parts : List Part) → Matches parts [] → list_all (λ part. is_stars part) parts ≡ true
are_stars-Matches [] m = refl
are_stars-Matches (Any ∷ parts) m = absurd (not_nothing Any parts (Matches-one Any parts [] refl m))
are_stars-Matches (Stars ∷ parts) m =
    are_stars-Matches parts (subst (λ (t : List ℕ). Matches parts t) (empty_behind m.0 m.1 m.2) m.4)
are_stars-Matches (Byte c ∷ parts) m = absurd (not_nothing (Byte c) parts (Matches-one (Byte c) parts [] refl m))
are_stars-Matches (OneOf set ∷ parts) m =
    absurd (not_nothing (OneOf set) parts (Matches-one (OneOf set) parts [] refl m))
