use Rattle.rs_base.proofs.Lists.{append-five}
use Rattle.redscript.proofs.replaying.put_counts.Goals as goal

pub returns : goal.returns
returns c = append-five _ _ _ _ _ _ _ _ _ _ _ c.in_ok-append.ensures.ok c.in_ok-write_decimal.ensures
    c.in_ok-append-2.ensures.ok c.in_ok-write_decimal-2.ensures c.in_ok-append-3.ensures.ok
