use Rattle.std.proofs.Common.{sym}
use Rattle.lua_parse.proofs.NumberLemmas.{found_number, new_number}
use Rattle.lua_parse.proofs.interner.Texts.number.Goals as goal

pub returns-in-Some-clause-number : goal.returns-in-Some-clause-number
returns-in-Some-clause-number c = (found_number c.args.self.now.known.keys (λ k. k.items) c.args.bytes.now c.in-Some.at
    (sym c.in-Some.ensures.index)).0

pub returns-in-Some-clause-noted : goal.returns-in-Some-clause-noted
returns-in-Some-clause-noted c = (found_number c.args.self.now.known.keys (λ k. k.items) c.args.bytes.now c.in-Some.at
    (sym c.in-Some.ensures.index)).1

pub returns-clause-number : goal.returns-clause-number
returns-clause-number c =
    (new_number c.args.self.now.known.keys c.insert_full.new.self.keys (λ k. k.items) c.in_ok-from_slice.field-0
    c.args.bytes.now c.in_ok-at.at
    c.in_ok-from_slice.ensures.items c.in_ok-at.ensures.index c.in_ok-at.ensures.keys).0

pub returns-clause-noted : goal.returns-clause-noted
returns-clause-noted c =
    (new_number c.args.self.now.known.keys c.insert_full.new.self.keys (λ k. k.items) c.in_ok-from_slice.field-0
    c.args.bytes.now c.in_ok-at.at
    c.in_ok-from_slice.ensures.items c.in_ok-at.ensures.index c.in_ok-at.ensures.keys).1
