use Rattle.std.proofs.Common.{◌∙◌, ap}
use Rattle.std.specs.Str.{bytes_eq}
use Rattle.std.proofs.lemmas.Map.Lookups.{map_keys}
use Rattle.ks_value.specs.Fields.{value_of, remove_field}
use Rattle.ks_value.proofs.Seen.{lookup-seen, remove_entry-seen, distinct-seen}
use Rattle.ks_value.proofs.hash.HashValue.remove.Goals as goal

pub returns-clause-value : goal.returns-clause-value
returns-clause-value c =
    c.shift_remove.ensures.value ∙ lookup-seen (λ k. k.items) (bytes_eq c.args.field.now) c.self.inside.pairs.entries
    ∙ ap (λ pairs. value_of pairs c.args.field.now) c.self.view_is

pub returns-clause-pairs : goal.returns-clause-pairs
returns-clause-pairs c =
    ap (map_keys (λ k. k.items)) c.shift_remove.ensures.entries
    ∙ remove_entry-seen (λ k. k.items) (bytes_eq c.args.field.now) c.self.inside.pairs.entries
    ∙ ap (λ pairs. remove_field pairs c.args.field.now) c.self.view_is

pub returns-clause-distinct : goal.returns-clause-distinct
returns-clause-distinct c = distinct-seen (λ k. k.items) c.shift_remove.new.self.entries c.shift_remove.ensures.unique
