-- The effect log as text: groups of records, each record the frame of its words.
use Rattle.std.specs.Prelude.{◌≡◌, ℕ, ◌<◌, Bool, true, false, List, [], ◌∷◌, ◌++◌, length, codes}
use Rattle.std.specs.List.{All, AllByRecursion, flat_map}
use Rattle.fx_record.specs.declared.record.Record.{Record}
use Rattle.fx_record.specs.RecordWords.{words_of, IsRecord}
use Rattle.resp_read.specs.Frames.{frame}
use Rattle.fx_log.specs.declared.group.Group.{Group}

abbrev pub record_text : Record → List ℕ
record_text r = frame (words_of r)

abbrev pub records_text : List Record → List ℕ
records_text records = flat_map record_text records

-- between `MULTI` and `EXEC`
abbrev pub wrapped_text : List Record → List ℕ
wrapped_text records = frame (codes "MULTI" ∷ []) ++ records_text records ++ frame (codes "EXEC" ∷ [])

-- A group without records is not written, and one of a single record is written bare, unless it is wrapped. Every other
-- group is written between `MULTI` and `EXEC`.
abbrev pub text_at : Bool → List Record → List ℕ
text_at wrapped [] = []
text_at true (only ∷ []) = wrapped_text (only ∷ [])
text_at false (only ∷ []) = records_text (only ∷ [])
text_at wrapped (first ∷ second ∷ records) = wrapped_text (first ∷ second ∷ records)

abbrev pub group_text : Group → List ℕ
group_text group = text_at group.wrapped group.records

abbrev pub log_text : List Group → List ℕ
log_text groups = flat_map group_text groups

-- each record of a group is within the limits
abbrev pub IsWithin : Group → Type 0
IsWithin group = All IsRecord group.records

-- a group as commands make it: one record or more, and exactly one where it is not wrapped, each within the limits
pub record IsGroup (group : Group) : Type 0 where
  pub some : 0 < length group.records
  pub one : group.wrapped ≡ false → length group.records ≡ 1
  pub each : AllByRecursion IsRecord group.records
