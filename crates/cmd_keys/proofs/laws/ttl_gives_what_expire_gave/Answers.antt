use Rattle.cmd_keys.proofs.RowLaws.{ttl-expire, pttl-pexpire, expiretime-expireat, pexpiretime-pexpireat}
use Rattle.cmd_keys.proofs.laws.ttl_gives_what_expire_gave.Goals as goal

pub returns-clause-ttl : goal.returns-clause-ttl
returns-clause-ttl c = λ world n name other key word entry read some fits there.
    ttl-expire world n name other key word entry read there some fits

pub returns-clause-pttl : goal.returns-clause-pttl
returns-clause-pttl c = λ world n name other key word entry read some fits there.
    pttl-pexpire world n name other key word entry read there some fits

pub returns-clause-expiretime : goal.returns-clause-expiretime
returns-clause-expiretime c = λ world n name other key word entry read later fits there.
    expiretime-expireat world n name other key word entry read there later fits

pub returns-clause-pexpiretime : goal.returns-clause-pexpiretime
returns-clause-pexpiretime c = λ world n name other key word entry read later fits there.
    pexpiretime-pexpireat world n name other key word entry read there later fits
