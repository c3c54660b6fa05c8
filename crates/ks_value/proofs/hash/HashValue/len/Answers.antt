use Rattle.std.proofs.Common.{subst}
use Rattle.ks_value.specs.Fields.{HasDistinctFields}
use Rattle.ks_value.proofs.Seen.{distinct-seen}
use Rattle.ks_value.proofs.hash.HashValue.len.Goals as goal

pub returns-clause-distinct : goal.returns-clause-distinct
returns-clause-distinct c = subst HasDistinctFields c.self.view_is
    (distinct-seen (λ k. k.items) c.self.inside.pairs.entries c.len.ensures.unique)
