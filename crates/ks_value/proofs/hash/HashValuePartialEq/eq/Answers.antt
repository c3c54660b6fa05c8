use Rattle.std.specs.Str.{bytes_eq}
use Rattle.ks_value.proofs.Seen.{compared-seen}
use Rattle.ks_value.proofs.hash.HashValuePartialEq.eq.Goals as goal

pub returns : goal.returns
returns c =
    compared-seen (λ k. k.items) bytes_eq c.self.inside.pairs.entries c.other.inside.pairs.entries c.as_slice.result
    c.as_slice-2.result c.args.self.now c.args.other.now
    c.eq.result c.eq.ensures c.as_slice.ensures.entries c.as_slice-2.ensures.entries c.self.view_is c.other.view_is
