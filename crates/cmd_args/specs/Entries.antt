-- The table of commands, as the code has it.
use Rattle.std.specs.Prelude.{◌≡◌, not}
use Rattle.cmd_args.specs.declared.table.Entry.{Entry}
use Rattle.cmd_args.specs.Table.{Command}

-- the entry has of the command what the table says
pub record Enters (entry : Entry) (command : Command) : Type 0 where
  pub name_is : entry.name.now ≡ command.name
  pub least_is : entry.least ≡ command.least
  pub most_is : entry.most ≡ command.most
  pub shape_is : entry.shape ≡ command.shape
  pub writes_is : entry.writes ≡ command.writes
  pub clients_are : entry.client_only ≡ command.client_only
  pub scripts_are : not entry.client_only ≡ command.in_script
