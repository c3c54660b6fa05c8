use Rattle.lua_grammar.specs.Grammar as rule
use Rattle.std.proofs.lemmas.Result.{err_from_is_err_and}
use Rattle.lua_grammar.specs.Productions as parts
use Rattle.lua_lex.specs.declared.kinds.TokenKind.TheVariants as kind
use Rattle.lua_parse.proofs.Passed.{passed}
use Rattle.lua_parse.proofs.Seen.{sees_not, unseen_behind}
use Rattle.lua_parse.proofs.grammar.Grammar.local.Goals as goal

pub returns-then-sees : goal.returns-then-sees
returns-then-sees g c = c.in_ok-deed.ensures c.args.reader.now c.in_ok-take.ensures

pub returns : goal.returns
returns g c = rule.local c.in_ok-take.ensures (c.in_ok-names.ensures c.args.self.now.context) c.in_ok-values.ensures

pub returns-in_err-deed : goal.returns-in_err-deed
returns-in_err-deed g c = let p = err_from_is_err_and c.from_residual-in_err-deed.result
    c.from_residual-in_err-deed.ensures.1 in
    rw (p.1, p.2) (c.in_err-deed.ensures c.args.reader.now c.in_ok-take.ensures)

pub returns-in_err-names : goal.returns-in_err-names
returns-in_err-names g c = let p = err_from_is_err_and c.from_residual-in_err-names.result
    c.from_residual-in_err-names.ensures.1 in
    rw (p.1, p.2) (let t = c.in_ok-take.ensures in
    let no = unseen_behind t (sees_not kind.Function c.take.new.self c.sees.ensures (cc)) in
    passed _ _ (parts.local t.seen no) (parts.more t parts.nothing) (c.in_err-names.ensures c.args.self.now.context))

pub returns-in_err-values : goal.returns-in_err-values
returns-in_err-values g c = let p = err_from_is_err_and c.from_residual-in_err-values.result
    c.from_residual-in_err-values.ensures.1 in
    rw (p.1, p.2) (let t = c.in_ok-take.ensures in
    let no = unseen_behind t (sees_not kind.Function c.take.new.self c.sees.ensures (cc)) in
    passed _ _ (parts.local t.seen no) (parts.more t
    (parts.more (_, c.in_ok-names.ensures c.args.self.now.context) parts.nothing))
    c.in_err-values.ensures)
