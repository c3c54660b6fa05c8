use Rattle.std.proofs.lemmas.List.{take_rest}
use Rattle.cmd_glob.proofs.SearchLemmas.{begins, meets_stars_at, takes_byte_at, tries_next_at, ends_at}
use Rattle.cmd_glob.proofs.matching.matches_behind_stars.Goals as goal

pub loop-byte-init : goal.loop-byte-init
loop-byte-init c = begins c.args.parts.now c.args.text.now

pub loop-byte-preserved-in-Some-behind_stars : goal.loop-byte-preserved-in-Some-behind_stars
loop-byte-preserved-in-Some-behind_stars c =
    meets_stars_at c.args.parts.now c.args.text.now c.loop-byte.star.parts.now c.loop-byte.star.text.now
    c.loop-byte.here.parts.now c.loop-byte.here.text.now c.loop-byte.invariant c.in-Some-behind_stars.parts.now
    c.in-Some-behind_stars.ensures

pub loop-byte-preserved-in-Some-behind_byte : goal.loop-byte-preserved-in-Some-behind_byte
loop-byte-preserved-in-Some-behind_byte c =
    takes_byte_at c.args.parts.now c.args.text.now c.loop-byte.star.parts.now c.loop-byte.star.text.now
    c.loop-byte.here.parts.now c.loop-byte.here.text.now c.loop-byte.invariant c.in-Some-behind_byte.parts.now
    c.in-Some.byte.now c.in-Some.text.now c.in-Some-behind_byte.ensures c.in-Some.ensures.cases.0

pub loop-byte-preserved : goal.loop-byte-preserved
loop-byte-preserved c =
    rw take_rest (tries_next_at c.args.parts.now c.args.text.now c.loop-byte.star.parts.now c.loop-byte.star.text.now
    c.loop-byte.here.parts.now c.loop-byte.here.text.now c.in-Some.byte.now c.in-Some.text.now
    c.in_default-behind_stars.ensures c.in_default-behind_byte.ensures c.in-Some.ensures.cases.0
    c.loop-byte.invariant)

pub returns : goal.returns
returns c = ends_at c.args.parts.now c.args.text.now c.loop-byte.star.parts.now c.loop-byte.star.text.now
    c.loop-byte.here.parts.now c.loop-byte.here.text.now c.are_stars.result c.in_default.ensures.cases
    c.are_stars.ensures c.loop-byte.invariant
