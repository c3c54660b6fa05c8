use Rattle.cmd_glob.proofs.PatternLemmas.{reads_set}
use Rattle.cmd_glob.proofs.parsing.parts_of.Goals as goal

pub loop-first-preserved-then-is_mark : goal.loop-first-preserved-then-is_mark
loop-first-preserved-then-is_mark c =
    reads_set c.loop-first.parts c.push.new.self c.in_ok-new.field-0 c.in-Some.first.now c.in-Some.more.now
    c.split_set.result.0.now c.split_set.result.1.now c.loop-first.rest.now c.args.symbols.now
    (cc) c.in-Some.ensures.cases.0 c.split_set.ensures.inside c.split_set.ensures.behind c.in_ok-new.ensures
    c.in_ok-push.ensures.ok c.loop-first.invariant
