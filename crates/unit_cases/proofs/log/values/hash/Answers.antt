use Rattle.std.proofs.Common.{◌≡◌, ℕ, List, [], All, IsTrue, rules, refl, sym, subst, arith}
use Rattle.std.specs.List.{IsDistinct}
use Rattle.ks_value.specs.Fields.{Pairs, HasDistinctFields}
use Rattle.ks_space.specs.Store.{IsShort}
use Rattle.unit_cases.proofs.ShortTexts.{IsShortPair, set_field-short}
use Rattle.unit_cases.proofs.log.values.hash.Goals as goal

none : All IsShortPair [] × HasDistinctFields []
unfolding IsDistinct
none = ((λ k p within. absurd (omega arith)), tt)

pub loop-pair-init : goal.loop-pair-init
loop-pair-init c =
    let Kept : Pairs → Type 0 = λ pairs. All IsShortPair pairs × HasDistinctFields pairs in
    subst Kept (sym c.new-pairs.ensures) none

pub loop-pair-preserved : goal.loop-pair-preserved
loop-pair-preserved c =
    let AreKept : Pairs → Type 0 = λ pairs. All IsShortPair pairs in
    let field_is_short : IsTrue c.is_short.result = search rules in
    let value_is_short : IsTrue c.is_short-else-not-is_short.result = search rules in
    let field = subst IsShort (sym c.in_ok-clone.ensures.cases) (c.is_short.ensures.0 field_is_short) in
    let value = subst IsShort (sym c.in_ok-clone-2.ensures.cases)
    (c.is_short-else-not-is_short.ensures.0 value_is_short) in (
      subst AreKept (sym c.in_ok-set.ensures.ok)
          (set_field-short c.loop-pair.pairs _ _ c.loop-pair.invariant.0 field value),
      c.in_ok-set.ensures.distinct,
    )
