-- Records that follow others, and records that are kept.
use Rattle.std.proofs.Common.{◌≡◌, ℕ, List, [], ◌∷◌, ◌++◌, refl}
use Rattle.std.specs.List.{AllByRecursion}
use Rattle.ks_space.specs.Store.{Store, IsStore}
use Rattle.ks_space.specs.Purge.{IsTimely}
use Rattle.fx_record.specs.declared.record.Record.{Record}
use Rattle.fx_record.specs.Records.{apply, applied}
use Rattle.fx_record.specs.RecordWords.{IsRecord}
use Rattle.fx_record.specs.Settled.{settled}
use Rattle.fx_record.specs.Timely.{IsTimelyRecord}
use Rattle.fx_record.proofs.LimitLaws.{applied-within, applied-timely}
use Rattle.fx_record.proofs.SettledLaws.{settled-back}
use Rattle.cmd_rows.specs.Bounds.{AreTimelyWithin}

-- nothing is kept of nothing
pub settled-nothing : (store : Store) → settled store [] ≡ []
settled-nothing store = settled-back store [] refl

pub applied-append : (store : Store) (first then : List Record)
    → applied store (first ++ then) ≡ applied (applied store first) then
applied-append store [] then = refl
applied-append store (r ∷ first) then = applied-append (apply store r) first then

are_records : (time : ℕ) (rs : List Record) → AreTimelyWithin time rs → AllByRecursion IsRecord rs
are_records time [] all = tt
are_records time (r ∷ rs) all = (all.0.0, are_records time rs all.1)

are_timely : (time : ℕ) (rs : List Record) → AreTimelyWithin time rs → AllByRecursion (IsTimelyRecord time) rs
are_timely time [] all = tt
are_timely time (r ∷ rs) all = (all.0.1, are_timely time rs all.1)

pub within-limits : (time : ℕ) (store : Store) (rs : List Record) → IsStore store → AreTimelyWithin time rs
    → IsStore (applied store rs)
within-limits time store rs within all = applied-within store rs within (are_records time rs all)

pub within-time : (time : ℕ) (store : Store) (rs : List Record) → IsTimely store time → AreTimelyWithin time rs
    → IsTimely (applied store rs) time
within-time time store rs timely all = applied-timely time store rs timely (are_timely time rs all)

pub timely-append : (time : ℕ) (first then : List Record) → AreTimelyWithin time first → AreTimelyWithin time then
    → AreTimelyWithin time (first ++ then)
timely-append time [] then one two = two
timely-append time (r ∷ first) then one two = (one.0, timely-append time first then one.1 two)
