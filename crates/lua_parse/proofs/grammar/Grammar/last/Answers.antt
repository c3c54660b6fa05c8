use Rattle.std.proofs.Common.{sym, ap, ◌∙◌, refl}
use Rattle.lua_grammar.specs.Grammar as rule
use Rattle.lua_grammar.specs.declared.expressions.Name.{Name}
use Rattle.lua_grammar.specs.Words.{ends_block}
use Rattle.std.proofs.lemmas.Result.{err_from_is_err_and}
use Rattle.lua_grammar.specs.Productions as parts
use Rattle.lua_grammar.specs.Stuck as stuck
use Rattle.lua_grammar.specs.Classes as class
use Rattle.lua_grammar.specs.declared.kinds.SyntaxKind.TheVariants as fault
use Rattle.lua_parse.proofs.Passed.{passed, faulty}
use Rattle.lua_parse.proofs.grammar.Grammar.last.Goals as goal

pub returns : goal.returns
returns g c = record {
  spelled = rule.last (ap (λ (n : Name). n.line) c.name-line.ensures) c.in_ok-deed.ensures
      c.pass_semicolon.ensures;
  ends = sym (c.ends_block.ensures ∙ ap ends_block c.peek.ensures) ∙ cc;
}

pub returns-in_err-deed : goal.returns-in_err-deed
returns-in_err-deed g c = let p = err_from_is_err_and c.from_residual.result c.from_residual.ensures.1 in
    rw (p.1, p.2) (passed _ _ (parts.last c.requires.begins) parts.nothing
    (passed _ _ parts.last_statement parts.nothing c.in_err-deed.ensures))

pub returns-then-not-ends_block : goal.returns-then-not-ends_block
returns-then-not-ends_block g c =
    let last = rule.last (ap (λ (n : Name). n.line) c.name-line.ensures) c.in_ok-deed.ensures c.pass_semicolon.ensures
    in
    rw c.unexpected.ensures (faulty fault.Unexpected c.args.self.now.context class.block c.args.reader.now
    c.pass_semicolon.new.self _ refl
    (stuck.refused (parts.last c.requires.begins) (parts.more (_, last) parts.nothing)
    (stuck.no_end (sym (c.ends_block.ensures ∙ ap ends_block c.peek.ensures) ∙ cc))))
