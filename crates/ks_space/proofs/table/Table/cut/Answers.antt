use Rattle.std.proofs.Common.{◌≡◌, ◌∙◌, ℕ, List, Vec, Global, IfSome, option_map, ap, sym, subst}
use Rattle.ks_space.specs.declared.entry.Entry.{Entry}
use Rattle.ks_space.proofs.EntriesSeen.{get_seen, key_found, cut_seen}
use Rattle.ks_space.proofs.table.Table.cut.Goals as goal
use Rattle.ks_space.proofs.table.Table.cut.Goals.{in-Some, in-None}

pub returns-clause-old : goal.returns-clause-old
returns-clause-old c =
    let found = c.swap_remove_entry.ensures.value
    ∙ get_seen (λ k. k.items) c.self.inside.entries.entries c.args.self.now c.args.key.now c.self.view_is in
    elim c.match-swap_remove_entry.branch [
      | in-Some w ↦ ap (option_map (λ (p : List ℕ × Entry). p.1)) w.result-is
          ∙ ap (option_map (λ (p : Vec ℕ Global × Entry). p.1)) (sym w.in-Some.is) ∙ found
      | in-None w ↦ ap (option_map (λ (p : List ℕ × Entry). p.1)) w.result-is
          ∙ ap (option_map (λ (p : Vec ℕ Global × Entry). p.1)) (sym w.in-None.is) ∙ found
    ]

pub returns-clause-same : goal.returns-clause-same
returns-clause-same c = elim c.match-swap_remove_entry.branch [
  | in-Some w ↦ subst (λ o. IfSome o (λ p. p.0 ≡ c.args.key.now)) (sym w.result-is)
      (w.from_vec.ensures ∙ key_found
      (λ k. k.items) c.self.inside.entries.entries c.args.key.now _ w.in-Some.ensures.key)
  | in-None w ↦ subst (λ o. IfSome o (λ p. p.0 ≡ c.args.key.now)) (sym w.result-is) tt
]

pub returns-clause-left : goal.returns-clause-left
returns-clause-left c =
    cut_seen (λ k. k.items) c.self.inside.entries.entries c.swap_remove_entry.new.self.entries c.args.key.now
    c.args.self.now
    c.swap_remove_entry.ensures.updates.1 c.swap_remove_entry.ensures.updates.3 c.self.view_is
