-- The commands: what each is named, how many words it takes, and what it may do.
use Rattle.std.specs.Prelude.{ℕ, ◌%◌, Bool, true, false, ◌==◌, nat_le, ◌&&◌, List, [], ◌∷◌, length, Option, find, codes}
use Rattle.std.specs.Option.{option_map}
use Rattle.std.specs.Str.{str_eq_ignore_ascii_case}
use Rattle.cmd_args.specs.declared.commands.CmdId.{CmdId}
use Rattle.cmd_args.specs.declared.commands.CmdId.TheVariants.{Client, Server, Strings, Keys}
use Rattle.cmd_args.specs.declared.commands.ClientCmd.{ClientCmd}
use Rattle.cmd_args.specs.declared.commands.ClientCmd.TheVariants.{Quit}
use Rattle.cmd_args.specs.declared.commands.ServerCmd.{ServerCmd}
use Rattle.cmd_args.specs.declared.commands.ServerCmd.TheVariants.{Ping, Echo, Select, Time, DbSize, FlushAll}
use Rattle.cmd_args.specs.declared.commands.ServerCmd.TheVariants.{FlushDb}
use Rattle.cmd_args.specs.declared.commands.StringCmd.{StringCmd}
use Rattle.cmd_args.specs.declared.commands.StringCmd.TheVariants.{Get, Set, SetNx, SetEx, PSetEx, GetSet}
use Rattle.cmd_args.specs.declared.commands.StringCmd.TheVariants.{GetDel, GetEx, MGet, MSet, MSetNx, Append}
use Rattle.cmd_args.specs.declared.commands.StringCmd.TheVariants.{StrLen, GetRange, SetRange, Incr, Decr}
use Rattle.cmd_args.specs.declared.commands.StringCmd.TheVariants.{IncrBy, DecrBy}
use Rattle.cmd_args.specs.declared.commands.KeyCmd.{KeyCmd}
use Rattle.cmd_args.specs.declared.commands.KeyCmd.TheVariants.{Del, Unlink, Exists, TypeOf, RandomKey, Rename}
use Rattle.cmd_args.specs.declared.commands.KeyCmd.TheVariants.{RenameNx, Expire, PExpire, ExpireAt, PExpireAt}
use Rattle.cmd_args.specs.declared.commands.KeyCmd.TheVariants.{Persist, PTtl, Ttl, PExpireTime, ExpireTime}
use Rattle.cmd_args.specs.declared.commands.KeyCmd.TheVariants as key
use Rattle.cmd_args.specs.declared.commands.Row.{Row}
use Rattle.cmd_args.specs.declared.table.Shape.{Shape}
use Rattle.cmd_args.specs.declared.table.Shape.TheVariants.{Any, Pairs}

-- a command: its name in lower case, the least and the most words that it takes, the name counted, what they are like
-- beside their number, and whether it writes, may stand in a script, and is for clients alone
pub record Command : Type 0 where
  pub name : List ℕ
  pub least : ℕ
  pub most : ℕ
  pub shape : Shape
  pub writes : Bool
  pub in_script : Bool
  pub client_only : Bool

-- a command that only reads
abbrev pub reads : List ℕ → ℕ → ℕ → Command
reads name least most =
    record {
      name = name;
      least = least;
      most = most;
      shape = Any;
      writes = false;
      in_script = true;
      client_only = false;
    }

-- a command that may change the store
abbrev pub writes : List ℕ → ℕ → ℕ → Command
writes name least most =
    record {
      name = name;
      least = least;
      most = most;
      shape = Any;
      writes = true;
      in_script = true;
      client_only = false;
    }

-- one that takes pairs of words behind its name
abbrev pub writes_pairs : List ℕ → ℕ → ℕ → Command
writes_pairs name least most =
    record {
      name = name;
      least = least;
      most = most;
      shape = Pairs;
      writes = true;
      in_script = true;
      client_only = false;
    }

-- a command that a client alone may send
abbrev pub serves_clients : List ℕ → ℕ → ℕ → Command
serves_clients name least most =
    record {
      name = name;
      least = least;
      most = most;
      shape = Any;
      writes = false;
      in_script = false;
      client_only = true;
    }

-- where the manual sets no limit on the number of words
abbrev pub any_number : ℕ
any_number = 4294967295

-- the table of commands, by their families
unfoldable pub client_command : ClientCmd → Command
client_command Quit = serves_clients (codes "quit") 1 1

unfoldable pub server_command : ServerCmd → Command
server_command Ping = reads (codes "ping") 1 2
server_command Echo = reads (codes "echo") 2 2
server_command Select = reads (codes "select") 2 2
server_command Time = reads (codes "time") 1 1
server_command DbSize = reads (codes "dbsize") 1 1
server_command FlushAll = writes (codes "flushall") 1 2
server_command FlushDb = writes (codes "flushdb") 1 2

unfoldable pub string_command : StringCmd → Command
string_command Get = reads (codes "get") 2 2
string_command Set = writes (codes "set") 3 7
string_command SetNx = writes (codes "setnx") 3 3
string_command SetEx = writes (codes "setex") 4 4
string_command PSetEx = writes (codes "psetex") 4 4
string_command GetSet = writes (codes "getset") 3 3
string_command GetDel = writes (codes "getdel") 2 2
string_command GetEx = writes (codes "getex") 2 4
string_command MGet = reads (codes "mget") 2 any_number
string_command MSet = writes_pairs (codes "mset") 3 any_number
string_command MSetNx = writes_pairs (codes "msetnx") 3 any_number
string_command Append = writes (codes "append") 3 3
string_command StrLen = reads (codes "strlen") 2 2
string_command GetRange = reads (codes "getrange") 4 4
string_command SetRange = writes (codes "setrange") 4 4
string_command Incr = writes (codes "incr") 2 2
string_command Decr = writes (codes "decr") 2 2
string_command IncrBy = writes (codes "incrby") 3 3
string_command DecrBy = writes (codes "decrby") 3 3

unfoldable pub key_command : KeyCmd → Command
key_command Del = writes (codes "del") 2 any_number
key_command Unlink = writes (codes "unlink") 2 any_number
key_command Exists = reads (codes "exists") 2 any_number
key_command TypeOf = reads (codes "type") 2 2
key_command key.Keys = reads (codes "keys") 2 2
key_command RandomKey = reads (codes "randomkey") 1 1
key_command Rename = writes (codes "rename") 3 3
key_command RenameNx = writes (codes "renamenx") 3 3
key_command Expire = writes (codes "expire") 3 3
key_command PExpire = writes (codes "pexpire") 3 3
key_command ExpireAt = writes (codes "expireat") 3 3
key_command PExpireAt = writes (codes "pexpireat") 3 3
key_command Persist = writes (codes "persist") 2 2
key_command PTtl = reads (codes "pttl") 2 2
key_command Ttl = reads (codes "ttl") 2 2
key_command PExpireTime = reads (codes "pexpiretime") 2 2
key_command ExpireTime = reads (codes "expiretime") 2 2

abbrev pub command : CmdId → Command
command (Client id) = client_command id
command (Server id) = server_command id
command (Strings id) = string_command id
command (Keys id) = key_command id

-- every command
unfoldable pub commands : List CmdId
commands =
    Server Ping ∷ Server Echo ∷ Server Select ∷ Server Time ∷ Server DbSize ∷ Server FlushAll ∷
    Server FlushDb ∷
    Client Quit ∷
    Strings Get ∷ Strings Set ∷ Strings SetNx ∷ Strings SetEx ∷ Strings PSetEx ∷ Strings GetSet ∷
    Strings GetDel ∷ Strings GetEx ∷ Strings MGet ∷ Strings MSet ∷ Strings MSetNx ∷ Strings Append ∷
    Strings StrLen ∷ Strings GetRange ∷ Strings SetRange ∷ Strings Incr ∷ Strings Decr ∷ Strings IncrBy ∷
    Strings DecrBy ∷
    Keys Del ∷ Keys Unlink ∷ Keys Exists ∷ Keys TypeOf ∷ Keys key.Keys ∷ Keys RandomKey ∷ Keys Rename ∷
    Keys RenameNx ∷ Keys Expire ∷ Keys PExpire ∷ Keys ExpireAt ∷ Keys PExpireAt ∷ Keys Persist ∷ Keys PTtl ∷
    Keys Ttl ∷ Keys PExpireTime ∷ Keys ExpireTime ∷ []

-- a command's row, as the code sees it
abbrev pub row_of : CmdId → Row
row_of id =
    record {
      id = id;
      least = (command id).least;
      most = (command id).most;
      writes = (command id).writes;
      in_script = (command id).in_script;
      client_only = (command id).client_only;
    }

-- the word names the command, in letters of either case
abbrev pub is_name : List ℕ → CmdId → Bool
is_name word id = str_eq_ignore_ascii_case word (command id).name

-- the row of the command that the word names, if it names one
abbrev pub row_named : List ℕ → Option Row
row_named word = option_map row_of (find (is_name word) commands)

-- words of this shape, the name counted: where pairs stand behind the name, the number of words is odd
abbrev pub suits : Shape → List (List ℕ) → Bool
suits Any words = true
suits Pairs words = length words % 2 == 1

-- the command takes these words, its name the first
abbrev pub fits : Row → List (List ℕ) → Bool
fits row words = nat_le row.least (length words) && nat_le (length words) row.most && suits (command row.id).shape words
