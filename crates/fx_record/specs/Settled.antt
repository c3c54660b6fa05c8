-- The records that are kept of what a command did.
use Rattle.std.specs.Prelude.{Bool, true, false, ◌==◌, ◌&&◌, if◌then◌else◌, List, []}
use Rattle.std.specs.Coded.{Coded, coded_list, coded_ℕ}
use Rattle.std.specs.FinMap as finite
use base.Stored.{Gv, gnil, gnum, gcons}
use Rattle.ks_space.specs.contracts.entry.Entry as entry
use Rattle.ks_space.specs.Store.{Store}
use Rattle.fx_record.specs.declared.record.Record.{Record}
use Rattle.fx_record.specs.Records.{applied}

-- the trees of numbers as which two values are stored are the same
abbrev pub same_trees : Gv → Gv → Bool
same_trees gnil gnil = true
same_trees gnil (gnum n) = false
same_trees gnil (gcons c d) = false
same_trees (gnum m) gnil = false
same_trees (gnum m) (gnum n) = m == n
same_trees (gnum m) (gcons c d) = false
same_trees (gcons a b) gnil = false
same_trees (gcons a b) (gnum n) = false
same_trees (gcons a b) (gcons c d) = same_trees a c && same_trees b d

abbrev pub store_code : Coded Store
store_code = finite.code (coded_list coded_ℕ) entry.the_row.coded

-- two stores have the same keys with the same entries
unfoldable pub same_store : Store → Store → Bool
same_store one other = same_trees (store_code.code one) (store_code.code other)

-- none where the records lead back to the same store; else these records
abbrev pub settled : Store → List Record → List Record
settled store records = if same_store (applied store records) store then [] else records
