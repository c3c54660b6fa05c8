use Rattle.std.proofs.Common.{◌≡◌, ℕ, List, All, IsTrue, rules, sym, subst}
use Rattle.ks_space.specs.Store.{IsShort}
use Rattle.unit_cases.proofs.ShortTexts.{member-short}
use Rattle.unit_cases.proofs.log.values.set.Goals as goal

pub loop-member-preserved : goal.loop-member-preserved
loop-member-preserved c =
    let AreKept : List (List ℕ) → Type 0 = λ members. All IsShort members in
    let is_short : IsTrue c.is_short.result = search rules in
    let member = subst IsShort (sym c.in_ok-clone.ensures.cases) (c.is_short.ensures.0 is_short) in (
      subst AreKept (sym c.in_ok-insert.ensures.ok)
          (member-short c.loop-member.members _ c.loop-member.invariant.0 member),
      c.in_ok-insert.ensures.ascending,
    )
