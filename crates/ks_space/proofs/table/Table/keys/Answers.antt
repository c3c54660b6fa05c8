use Rattle.std.proofs.Common.{◌≡◌, ◌++◌, ◌∙◌, [], map, ap, sym, subst, append-nil, arith}
use Rattle.std.proofs.lemmas.Grind.{common_steps}
use Rattle.ks_space.proofs.KeyLists.{IsKeyList, keys_listed, in_byte_order}
use Rattle.ks_space.proofs.table.Table.keys.Goals as goal

pub loop-key-init : goal.loop-key-init
loop-key-init c =
    subst (IsKeyList c.args.self.now)
    (sym (ap (λ ks. ks ++ map (λ k. k.items) c.into_iter-key-iterator.result) c.new-keys.ensures.items
    ∙ ap (map (λ k. k.items)) (c.into_iter-key-iterator.ensures.into_iter_gives ∙ c.keys-key-items.ensures.rest)))
    (keys_listed (λ k. k.items) c.self.inside.entries.entries c.args.self.now c.keys-key-items.ensures.unique
    c.self.view_is)

pub returns : goal.returns
returns c =
    let over : c.loop-key.key-iterator ≡ [] = grind (arith, common_steps, c.in-None.ensures.steps) in
    let all : IsKeyList c.args.self.now c.loop-key.keys.items =
    subst (IsKeyList c.args.self.now) (ap (λ ks. c.loop-key.keys.items ++ map (λ k. k.items) ks) over
    ∙ append-nil c.loop-key.keys.items) c.loop-key.invariant in
    c.from_vec.ensures ∙ in_byte_order c.args.self.now c.loop-key.keys.items c.sort_unstable.new.self.items all
    c.sort_unstable.ensures.permutation c.sort_unstable.ensures.sorted
