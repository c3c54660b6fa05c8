-- What a command that is refused answers.
use Rattle.std.specs.Prelude.{ℕ, List, [], ◌++◌, take, codes}
use Rattle.cmd_args.specs.declared.refusal.Refusal.{Refusal}
use Rattle.cmd_args.specs.declared.refusal.Refusal.TheVariants.{UnknownCommand, WordCount, NoWord, NotInScript}
use Rattle.cmd_args.specs.declared.refusal.Refusal.TheVariants.{ReadOnlyScript, TooLarge, Syntax, NotInteger}
use Rattle.cmd_args.specs.declared.refusal.Refusal.TheVariants.{ExpireTime, WrongType, NoSuchKey, Overflow, Offset}
use Rattle.cmd_args.specs.declared.refusal.Refusal.TheVariants.{TooLong, DbIndex}
use Rattle.cmd_args.specs.Table.{command}

-- what the refusal of a word that names no command shows of it: its first 128 bytes
abbrev pub shown : List ℕ → List ℕ
shown word = take 128 word

-- the text of a refusal
abbrev pub refusal_text : Refusal → List ℕ
refusal_text (UnknownCommand word) = codes "ERR unknown command '" ++ word ++ codes "'"
refusal_text (WordCount id) = codes "ERR wrong number of arguments for '" ++ (command id).name ++ codes "' command"
refusal_text NoWord = codes "ERR Please specify at least one argument for this redis.call()"
refusal_text NotInScript = codes "ERR This Redis command is not allowed from script"
refusal_text ReadOnlyScript = codes "ERR Write commands are not allowed from read-only scripts."
refusal_text TooLarge = codes "ERR command too large"
refusal_text Syntax = codes "ERR syntax error"
refusal_text NotInteger = codes "ERR value is not an integer or out of range"
refusal_text (ExpireTime id) = codes "ERR invalid expire time in '" ++ (command id).name ++ codes "' command"
refusal_text WrongType = codes "WRONGTYPE Operation against a key holding the wrong kind of value"
refusal_text NoSuchKey = codes "ERR no such key"
refusal_text Overflow = codes "ERR increment or decrement would overflow"
refusal_text Offset = codes "ERR offset is out of range"
refusal_text TooLong = codes "ERR string exceeds maximum allowed size"
refusal_text DbIndex = codes "ERR DB index is out of range"

-- what a refusal quotes: the word, or the name of the command; most quote nothing
abbrev pub named : Refusal → List ℕ
named (UnknownCommand word) = word
named (WordCount id) = (command id).name
named (ExpireTime id) = (command id).name
named _ = []
