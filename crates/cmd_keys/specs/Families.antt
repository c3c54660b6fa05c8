-- The commands that are carried out here.
use Rattle.cmd_args.specs.declared.commands.CmdId.{CmdId}
use Rattle.cmd_args.specs.declared.commands.CmdId.TheVariants.{Client, Server, Strings, Keys}

-- the commands on the server and on keys
abbrev pub IsOfKeys : CmdId → Type 0
IsOfKeys (Client id) = ⊥
IsOfKeys (Server id) = Unit {0}
IsOfKeys (Strings id) = ⊥
IsOfKeys (Keys id) = Unit {0}
