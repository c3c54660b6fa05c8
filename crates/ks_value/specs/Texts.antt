-- Texts in order, as a list and a set have them.
use Rattle.std.specs.Prelude.{ℕ, Bool, List}
use Rattle.std.specs.Cmp.{IsPartialEquivalence, IsEquivalence, partial_equiv_from_equiv}
use Rattle.std.specs.Cmp.Lexicographic.{pointwise, lists_equiv}
use Rattle.std.specs.Str.{bytes_eq}
use Rattle.std.proofs.lemmas.Cmp.{nat_list_eq_equiv}

-- whether the texts are the same, in the same order
abbrev pub are_same_texts : List (List ℕ) → List (List ℕ) → Bool
are_same_texts = pointwise bytes_eq

pub same_texts_equiv : IsEquivalence are_same_texts
same_texts_equiv = lists_equiv nat_list_eq_equiv

pub same_texts_per : IsPartialEquivalence are_same_texts
same_texts_per = partial_equiv_from_equiv same_texts_equiv
