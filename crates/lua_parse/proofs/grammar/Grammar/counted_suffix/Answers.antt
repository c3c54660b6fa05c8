use Rattle.std.proofs.lemmas.Result.{err_from_is_err_and}
use Rattle.lua_grammar.specs.Stuck as stuck
use Rattle.lua_parse.specs.Sought.{sought_of}
use Rattle.lua_parse.proofs.Kept.{spared_few, has_count, lacks_count, spared_one, counted_room}
use Rattle.lua_parse.proofs.Passed.{goes_on}
use Rattle.lua_parse.proofs.grammar.Grammar.counted_suffix.Goals as goal

pub count_suffix-requires : goal.count_suffix-requires
count_suffix-requires g c = rw (c.spared_behind.ensures, c.peek.ensures) (spared_few _ (sought_of c.args.sought))

pub suffix-requires-clause-begins : goal.suffix-requires-clause-begins
suffix-requires-clause-begins g c = rw c.in_ok-count_suffix.ensures.counted.counted c.requires.begins

pub suffix-requires-clause-room : goal.suffix-requires-clause-room
suffix-requires-clause-room g c = rw c.in_ok-count_suffix.ensures.counted.counted
    (counted_room c.in_ok-suffix_room.ensures)

pub returns : goal.returns
returns g c =
    let fits = rw (c.spared_behind.ensures, c.peek.ensures) at c.in_ok-count_suffix.ensures.spared in
    record {
      counted = _;
      room = has_count c.args.reader.now (sought_of c.args.sought) c.in_ok-count_suffix.ensures.short fits;
      counts = c.in_ok-count_suffix.ensures.counted;
      spelled = c.in_ok-suffix.ensures;
      few = spared_one (sought_of c.args.sought) c.args.reader.now _ c.in_ok-count_suffix.ensures.counted fits
          c.in_ok-suffix.ensures;
    }

pub returns-in_err-suffix_room : goal.returns-in_err-suffix_room
returns-in_err-suffix_room g c = let p = err_from_is_err_and c.from_residual.result c.from_residual.ensures.1 in
    rw (p.1, p.2) (c.in_err-suffix_room.ensures (sought_of c.args.sought))

pub returns-in_err-count_suffix : goal.returns-in_err-count_suffix
returns-in_err-count_suffix g c =
    let p = err_from_is_err_and c.from_residual-in_err-count_suffix.result c.from_residual-in_err-count_suffix.ensures.1
    in
    let long = rw (c.spared_behind.ensures, c.peek.ensures) at c.in_err-count_suffix.ensures.long.long in
    let room = c.in_ok-suffix_room.ensures in
    rw (p.1, p.2, c.in_err-count_suffix.ensures.long.is, c.in_err-count_suffix.ensures.long.stays)
    (stuck.suffix_count c.requires.begins room.near room.level
    (lacks_count c.args.reader.now (sought_of c.args.sought) long))

pub returns-in_err-suffix : goal.returns-in_err-suffix
returns-in_err-suffix g c = let p = err_from_is_err_and c.from_residual-in_err-suffix.result
    c.from_residual-in_err-suffix.ensures.1 in
    let fits = rw (c.spared_behind.ensures, c.peek.ensures) at c.in_ok-count_suffix.ensures.spared in
    rw (p.1, p.2) (goes_on _ _
    (λ f s. stuck.suffix c.requires.begins (has_count c.args.reader.now (sought_of c.args.sought)
    c.in_ok-count_suffix.ensures.short fits) s)
    (rw c.in_ok-count_suffix.ensures.counted.counted at c.in_err-suffix.ensures))
