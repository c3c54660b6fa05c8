use Rattle.std.proofs.Common.{◌≡◌, ◌∙◌, ap, Bool, true, false, not, is_some, is_none, List, ℕ, Option, Some, None, refl}
use Rattle.std.specs.Str.{bytes_eq}
use Rattle.std.proofs.lemmas.Map.Lookups.{map_keys}
use Rattle.ks_value.specs.Fields.{value_of, set_field}
use Rattle.ks_value.proofs.Seen.{lookup-seen, insert_entry-seen, distinct-seen}
use Rattle.ks_value.proofs.hash.HashValue.set.Goals as goal

not_some : (o : Option (List ℕ)) (b : Bool) → is_some o ≡ not b → b ≡ is_none o
not_some None true e = refl
not_some None false e = cc
not_some (Some x) true e = cc
not_some (Some x) false e = refl

pub returns-in_err-old-clause-distinct : goal.returns-in_err-old-clause-distinct
returns-in_err-old-clause-distinct c = distinct-seen (λ k. k.items) c.insert.new.self.entries c.insert.ensures.unique

pub returns-clause-new : goal.returns-clause-new
returns-clause-new c =
    let old : c.in_ok-old.old ≡ value_of c.args.self.now c.args.field =
    c.in_ok-old.ensures.old ∙ lookup-seen (λ k. k.items) (bytes_eq c.into_vec.result.items) c.self.inside.pairs.entries
    ∙ ap (λ field. value_of (map_keys (λ k. k.items) c.self.inside.pairs.entries) field) c.into_vec.ensures
    ∙ ap (λ pairs. value_of pairs c.args.field) c.self.view_is in
    not_some c.in_ok-old.old c.is_none.result c.is_none.ensures ∙ ap is_none old

pub returns-clause-ok : goal.returns-clause-ok
returns-clause-ok c =
    ap (map_keys (λ k. k.items)) c.in_ok-old.ensures.entries
    ∙ insert_entry-seen (λ k. k.items) c.self.inside.pairs.entries c.into_vec.result c.args.value
    ∙ ap (λ field. set_field (map_keys (λ k. k.items) c.self.inside.pairs.entries) field c.args.value)
    c.into_vec.ensures
    ∙ ap (λ pairs. set_field pairs c.args.field c.args.value) c.self.view_is

pub returns-clause-distinct : goal.returns-clause-distinct
returns-clause-distinct c = distinct-seen (λ k. k.items) c.insert.new.self.entries c.in_ok-old.ensures.unique
