use Rattle.cmd_keys.proofs.RowLaws.{ttl-left, pttl-left, ttl-past, expiretime-due, pexpiretime-due, told-forever}
use Rattle.cmd_keys.proofs.RowLaws.{told-absent}
use Rattle.cmd_keys.proofs.laws.ttl_tells_the_deadline.Goals as goal

pub returns-clause-ttl : goal.returns-clause-ttl
returns-clause-ttl c = ttl-left

pub returns-clause-pttl : goal.returns-clause-pttl
returns-clause-pttl c = pttl-left

pub returns-clause-past : goal.returns-clause-past
returns-clause-past c = ttl-past

pub returns-clause-expiretime : goal.returns-clause-expiretime
returns-clause-expiretime c = expiretime-due

pub returns-clause-pexpiretime : goal.returns-clause-pexpiretime
returns-clause-pexpiretime c = pexpiretime-due

pub returns-clause-forever : goal.returns-clause-forever
returns-clause-forever c = told-forever

pub returns-clause-absent : goal.returns-clause-absent
returns-clause-absent c = told-absent
