use Rattle.std.proofs.Common.{◌≡◌, ◌∙◌, sym, ap, is_some, Some, None, option_map}
use Rattle.std.specs.FinMap as finite
use Rattle.ks_space.specs.declared.entry.Entry.{Entry}
use Rattle.ks_space.proofs.EntriesSeen.{get_seen, put_seen}
use Rattle.ks_space.proofs.Stores.{with_value-insert, with_value-none}
use Rattle.ks_space.proofs.table.Table.replace_value.Goals as goal

pub returns-in_err-entry-clause-old : goal.returns-in_err-entry-clause-old
returns-in_err-entry-clause-old c =
    c.from_residual.ensures ∙ ap (option_map (λ (e : Entry). e.value)) (c.in_err-entry.ensures.value ∙ get_seen
    (λ k. k.items) c.self.inside.entries.entries c.args.self.now c.args.key.now c.self.view_is)

pub returns-in_err-entry-clause-changed : goal.returns-in_err-entry-clause-changed
returns-in_err-entry-clause-changed c =
    let absent : finite.get c.args.self.now c.args.key.now ≡ None =
    sym (c.in_err-entry.ensures.value ∙ get_seen
    (λ k. k.items) c.self.inside.entries.entries c.args.self.now c.args.key.now c.self.view_is) in
    rw c.get_mut.follows.holds-at-none (c.self.view_is
    ∙ sym (with_value-none c.args.self.now c.args.key.now c.args.value absent))

pub returns-clause-old : goal.returns-clause-old
returns-clause-old c =
    ap Some c.replace.ensures.value ∙ ap (option_map (λ (e : Entry). e.value)) (c.in_ok-entry.ensures.value ∙ get_seen
    (λ k. k.items) c.self.inside.entries.entries c.args.self.now c.args.key.now c.self.view_is)

pub returns-clause-changed : goal.returns-clause-changed
returns-clause-changed c =
    let entry = c.in_ok-entry.entry.now in
    let changed : Entry = record { value = c.replace.new.dest; deadline = entry.deadline } in
    let there : finite.get c.args.self.now c.args.key.now ≡ Some entry =
    sym (c.in_ok-entry.ensures.value ∙ get_seen
    (λ k. k.items) c.self.inside.entries.entries c.args.self.now c.args.key.now c.self.view_is) in
    let written = (c.get_mut.follows.holds changed).3 (ap is_some (sym c.in_ok-entry.ensures.value)) in
    put_seen (λ k. k.items) c.self.inside.entries.entries
    (c.get_mut.follows.lender changed).entries c.args.key.now changed c.args.self.now written.1 written.3
    c.self.view_is
    ∙ ap (λ v. finite.insert c.args.self.now c.args.key.now (record entry { value = v })) c.replace.ensures.after
    ∙ sym (with_value-insert c.args.self.now c.args.key.now entry c.args.value there)
