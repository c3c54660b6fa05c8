use Rattle.std.proofs.Common.{w64, FitsSigned, rules}
use Rattle.rs_whole.proofs.Powers.{power_made, power_too_long}
use Rattle.rs_whole.proofs.whole.power.Goals as goal

pub returns-in_default : goal.returns-in_default
returns-in_default c = power_too_long c.args.base c.args.exponent c.short_exponent.result c.ranges.base
    c.short_exponent.ensures c.in_default.ensures

pub returns : goal.returns
returns c =
    let fits : FitsSigned w64 c.in-Some.n = search rules in
    power_made c.args.base c.args.exponent c.short_exponent.result c.in-Some.n c.new.result _ c.ok_or.result
    c.ranges.base fits c.short_exponent.ensures c.in-Some.ensures.1 c.new.ensures c.ok_or.ensures.value
