use Rattle.std.specs.List.{All}
use Rattle.ks_value.specs.Fields.{HasDistinctFields}
use Rattle.unit_cases.proofs.ShortTexts.{IsShortPair}
use Rattle.unit_cases.proofs.log.values.hash.Given as goal

abbrev pub invariant-loop-pair : goal.invariant-loop-pair
invariant-loop-pair l = All IsShortPair l.pairs × HasDistinctFields l.pairs
