use Rattle.std.proofs.Common.{◌≡◌, ℕ, ℤ, List, IsTrue, rules, None, sym, subst}
use Rattle.std.specs.FinMap as finite
use Rattle.ks_zset.specs.Zset.{ScoreMap}
use Rattle.ks_space.specs.Store.{bytes_cmp, IsShort}
use Rattle.unit_cases.proofs.ShortTexts.{AreShort, score-short}
use Rattle.unit_cases.proofs.log.values.sorted.Goals as goal

abbrev beginning : ScoreMap
beginning = finite.empty

none : AreShort beginning
none member score at = let nothing : finite.get beginning member ≡ None = finite.get-empty bytes_cmp member in
    absurd (cc)

pub loop-scored-init : goal.loop-scored-init
loop-scored-init c =
    let Kept : ScoreMap → Type 0 = λ scores. AreShort scores in
    subst Kept (sym c.new-scores.ensures) none

pub loop-scored-preserved : goal.loop-scored-preserved
loop-scored-preserved c =
    let Kept : ScoreMap → Type 0 = λ scores. AreShort scores in
    let is_short : IsTrue c.is_short.result = search rules in
    let member = subst IsShort (sym c.in_ok-clone.ensures.cases) (c.is_short.ensures.0 is_short) in
    subst Kept (sym c.in_ok-insert.ensures.ok) (score-short c.loop-scored.scores _ _ c.loop-scored.invariant member)
