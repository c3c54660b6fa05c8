use Rattle.std.proofs.Common.{◌∙◌, ap}
use Rattle.std.specs.Str.{bytes_eq}
use Rattle.ks_value.specs.Fields.{value_of}
use Rattle.ks_value.proofs.Seen.{lookup-seen}
use Rattle.ks_value.proofs.hash.HashValue.get.Goals as goal

pub returns : goal.returns
returns c = c.get.ensures.value ∙ lookup-seen (λ k. k.items) (bytes_eq c.args.field.now) c.self.inside.pairs.entries
    ∙ ap (λ pairs. value_of pairs c.args.field.now) c.self.view_is
