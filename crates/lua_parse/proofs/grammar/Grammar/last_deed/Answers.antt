use Rattle.std.proofs.Common.{sym, ap, ◌∙◌, ◌≡◌, false}
use Rattle.lua_grammar.specs.Grammar as rule
use Rattle.lua_grammar.specs.Words.{ends_return}
use Rattle.std.proofs.lemmas.Result.{err_from_is_err_and}
use Rattle.lua_grammar.specs.Productions as parts
use Rattle.lua_lex.specs.declared.kinds.TokenKind.TheVariants as kind
use Rattle.lua_parse.proofs.Passed.{passed}
use Rattle.lua_parse.proofs.Seen.{sees_not, return_is}
use Rattle.lua_grammar.specs.Positions as at
use Rattle.lua_grammar.specs.Positions.{Position}
use Rattle.lua_parse.proofs.grammar.Grammar.last_deed.Goals as goal

pub returns-then-ends_return : goal.returns-then-ends_return
returns-then-ends_return g c = rw c.new.ensures
    (rule.return_nothing c.in_ok-take.ensures (sym (c.ends_return.ensures ∙ ap ends_return c.peek.ensures) ∙ cc))

pub returns : goal.returns
returns g c = rule.return_values c.in_ok-take.ensures (sym (c.ends_return.ensures ∙ ap ends_return c.peek.ensures) ∙ cc)
    c.in_ok-values.ensures c.in_ok-returned.ensures

pub returns-in_err-take : goal.returns-in_err-take
returns-in_err-take g c = let p = err_from_is_err_and c.from_residual.result c.from_residual.ensures.1 in
    rw (p.1, p.2) (absurd (c.in_err-take.ensures.unseen
    (return_is _ c.requires.begins (sees_not kind.Break c.args.reader.now c.sees.ensures (cc)))))

pub returns-in_err-values : goal.returns-in_err-values
returns-in_err-values g c = let p = err_from_is_err_and c.from_residual-in_err-values.result
    c.from_residual-in_err-values.ensures.1 in
    rw (p.1, p.2) (let t = c.in_ok-take.ensures in
    let goes_on : ends_return (at.kind (at.next c.args.reader.now)) ≡ false =
    ap (λ (j : Position). ends_return (at.kind j)) (sym t.taken)
    ∙ sym (c.ends_return.ensures ∙ ap ends_return c.peek.ensures) ∙ cc in
    passed _ _ (parts.return_values t.seen goes_on) (parts.more t parts.nothing) c.in_err-values.ensures)
