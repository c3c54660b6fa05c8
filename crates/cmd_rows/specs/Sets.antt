-- Many keys set at once.
use Rattle.std.specs.Prelude.{◌≡◌, List, [], ◌∷◌, Some, None}
use Rattle.std.specs.FinMap as finite
use Rattle.ks_value.specs.Fields.{Pairs, value_of, set_field}
use Rattle.ks_space.specs.Store.{Store, IsKey, IsShort}
use Rattle.fx_record.specs.declared.record.Record.{Record}
use Rattle.fx_record.specs.declared.record.Record.TheVariants.{Set}
use Rattle.fx_record.specs.Records.{string_entry}

-- a SET of a key and a string that a store may hold
abbrev pub IsSet : Record → Type 0
IsSet (Set key value) = IsKey key × IsShort value
IsSet _ = ⊥

-- keys with the strings that they are set to last, behind those of earlier SETs
abbrev pub strings_set : Pairs → List Record → Pairs
strings_set last [] = last
strings_set last (Set key value ∷ sets) = strings_set (set_field last key value) sets
strings_set last (_ ∷ sets) = strings_set last sets

-- where a key is set to this string last, the store has it there
abbrev pub Agrees : Pairs → Store → Record → Type 0
Agrees last store (Set key value) = value_of last key ≡ Some value
    → finite.get store key ≡ Some (string_entry value None)
Agrees last store _ = Unit {0}
