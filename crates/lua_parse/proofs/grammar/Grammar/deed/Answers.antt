use Rattle.std.proofs.Common.{rules}
use Rattle.lua_lex.specs.declared.kinds.TokenKind.TheVariants as kind
use Rattle.lua_grammar.specs.Positions.{SeesNot}
use Rattle.lua_grammar.specs.Stuck as stuck
use Rattle.lua_parse.proofs.Seen.{no_deed}
use Rattle.lua_parse.proofs.grammar.Grammar.deed.Goals as goal

pub returns-in_default : goal.returns-in_default
returns-in_default g c =
    let no_do : SeesNot kind.Do c.args.reader.now = search rules in
    let no_while : SeesNot kind.While c.args.reader.now = search rules in
    let no_repeat : SeesNot kind.Repeat c.args.reader.now = search rules in
    let no_if : SeesNot kind.If c.args.reader.now = search rules in
    let no_for : SeesNot kind.For c.args.reader.now = search rules in
    let no_function : SeesNot kind.Function c.args.reader.now = search rules in
    let no_local : SeesNot kind.Local c.args.reader.now = search rules in
    let no_name : SeesNot kind.Name c.args.reader.now = search rules in
    let no_paren : SeesNot kind.LeftParen c.args.reader.now = search rules in
    rw c.unexpected.ensures (stuck.deed (no_deed _ no_do no_while no_repeat no_if no_for no_function no_local no_name
    no_paren))
