use Rattle.std.proofs.Common.{◌≡◌, ◌∙◌, sym, ap, is_some, Some, None}
use Rattle.std.specs.FinMap as finite
use Rattle.ks_space.specs.declared.entry.Entry.{Entry}
use Rattle.ks_space.proofs.EntriesSeen.{get_seen, put_seen}
use Rattle.ks_space.proofs.Stores.{with_deadline-insert, with_deadline-none}
use Rattle.ks_space.proofs.table.Table.set_deadline.Goals as goal
use Rattle.ks_space.proofs.table.Table.set_deadline.Goals.{in-Some, in_default}

pub returns : goal.returns
returns c = elim c.match-get_mut.branch [
  | in-Some w ↦
      let entry = w.in-Some.entry.now in
      let changed : Entry = record { value = entry.value; deadline = c.args.deadline } in
      let there : finite.get c.args.self.now c.args.key.now ≡ Some entry =
      sym (w.in-Some.ensures.value ∙ get_seen
      (λ k. k.items) c.self.inside.entries.entries c.args.self.now c.args.key.now c.self.view_is) in
      let written = (c.get_mut.follows.holds changed).3 (ap is_some (sym w.in-Some.ensures.value)) in
      rw w.self-inside-is
      (put_seen (λ k. k.items) c.self.inside.entries.entries
      (c.get_mut.follows.lender changed).entries c.args.key.now changed c.args.self.now written.1 written.3
      c.self.view_is
      ∙ sym (with_deadline-insert c.args.self.now c.args.key.now entry c.args.deadline there))
  | in_default w ↦
      let absent : finite.get c.args.self.now c.args.key.now ≡ None =
      sym (w.in_default.ensures.value
      ∙ get_seen (λ k. k.items) c.self.inside.entries.entries c.args.self.now c.args.key.now c.self.view_is) in
      rw (w.self-inside-is, c.get_mut.follows.holds-at-none) (c.self.view_is
      ∙ sym (with_deadline-none c.args.self.now c.args.key.now c.args.deadline absent))
]
