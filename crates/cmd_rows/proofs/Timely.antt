-- Records that keep to the time, and those that are kept of them.
use Rattle.std.proofs.Common.{◌≡◌, ℕ, ◌<◌, ◌≤◌, Bool, true, false, cond, leb, ℤ, pos, negsuc, List, [], ◌∷◌}
use Rattle.std.proofs.Common.{FitsSigned, w64, refl, arith}
use Rattle.std.specs.List.{AllByRecursion}
use Rattle.std.proofs.lemmas.Bool.{leb-false}
use Rattle.ks_space.specs.Store.{Store, IsKey, IsShort, IsDeadline}
use Rattle.fx_record.specs.declared.record.Record.{Record}
use Rattle.fx_record.specs.declared.record.Record.TheVariants.{Set, SetUntil, Del, ExpireAt}
use Rattle.fx_record.specs.Records.{applied}
use Rattle.fx_record.specs.Settled.{same_store, settled}
use Rattle.cmd_rows.specs.Bounds.{IsTimelyWithin, AreTimelyWithin}
use Rattle.cmd_rows.specs.Sets.{IsSet}
use Rattle.cmd_rows.specs.Times.{set_until, expire_at}

by_test : (P : Bool → Type 0) (b : Bool) → (b ≡ true → P true) → (b ≡ false → P false) → P b
by_test P true yes_case no_case = yes_case refl
by_test P false yes_case no_case = no_case refl

not_past : (now deadline : ℕ) → leb deadline now ≡ false → now ≤ deadline
not_past now deadline past = let above : now < deadline = leb-false deadline now past in omega arith

pub set_until-timely : (key value : List ℕ) (now deadline : ℕ) → IsKey key → IsShort value → IsDeadline deadline
    → IsTimelyWithin now (set_until key value now deadline)
set_until-timely key value now deadline k v d =
    by_test (λ t. IsTimelyWithin now (cond t (Del key) (SetUntil key value deadline))) (leb deadline now)
    (λ yes. (k, tt)) (λ no. ((k, v, d), not_past now deadline no))

pub expire_at-timely : (key : List ℕ) (now : ℕ) (at : ℤ) → IsKey key → FitsSigned w64 at
    → IsTimelyWithin now (expire_at key now at)
expire_at-timely key now (pos at) k fits =
    by_test (λ t. IsTimelyWithin now (cond t (Del key) (ExpireAt key at))) (leb at now) (λ yes. (k, tt))
    (λ no. ((k, fits.sfits), not_past now at no))
expire_at-timely key now (negsuc n) k fits = (k, tt)

set-timely : (time : ℕ) (r : Record) → IsSet r → IsTimelyWithin time r
set-timely time (Set key value) is = (is, tt)
set-timely time _ is = absurd is

-- SETs give no deadline
pub sets-timely : (time : ℕ) (rs : List Record) → AllByRecursion IsSet rs → AreTimelyWithin time rs
sets-timely time [] sets = tt
sets-timely time (r ∷ rs) sets = (set-timely time r sets.0, sets-timely time rs sets.1)

-- what is so of each record is so of those that are kept
pub settled-all : (P : Record → Type 0) (store : Store) (rs : List Record) → AllByRecursion P rs
    → AllByRecursion P (settled store rs)
settled-all P store rs all = by_test (λ t. AllByRecursion P (cond t [] rs)) (same_store (applied store rs) store)
    (λ yes. tt) (λ no. all)
