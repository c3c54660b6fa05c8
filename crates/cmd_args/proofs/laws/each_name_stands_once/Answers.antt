use Rattle.cmd_args.proofs.TableLaws.{found, once}
use Rattle.cmd_args.proofs.laws.each_name_stands_once.Goals as goal

pub returns-clause-found : goal.returns-clause-found
returns-clause-found c = found

pub returns-clause-once : goal.returns-clause-once
returns-clause-once c = once
