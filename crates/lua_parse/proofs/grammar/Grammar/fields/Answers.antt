use Rattle.std.proofs.Common.{sym, ap, ◌∙◌}
use Rattle.lua_grammar.specs.Grammar as rule
use Rattle.lua_parse.proofs.Leads.{none_yet, one_more, ended, ended_by, led}
use Rattle.lua_grammar.proofs.Progress.{goes, also_eats}
use Rattle.lua_parse.proofs.Seen.{sees_not, separator_passes, separator_eats}
use Rattle.lua_grammar.specs.Positions as at
use Rattle.lua_lex.specs.declared.kinds.TokenKind.TheVariants as kind
use Rattle.std.proofs.lemmas.Result.{err_from_is_err_and}
use Rattle.lua_grammar.specs.Stuck as stuck
use Rattle.lua_parse.proofs.Passed.{goes_on}
use Rattle.lua_parse.proofs.grammar.Grammar.fields.Goals as goal

pub more-init : goal.more-init
more-init g c = rw c.new-fields.ensures none_yet

pub returns-then-not-is_separator : goal.returns-then-not-is_separator
returns-then-not-is_separator g c =
    let no = sees_not kind.RightBrace c.more.reader c.sees.ensures (cc) in
    rw c.in_ok-exact.ensures (ended_by c.more.invariant c.in_ok-push.ensures.ok
    (rule.last_field no c.in_ok-field.ensures (sym (c.is_separator.ensures ∙ ap at.is_separator c.peek.ensures) ∙ cc)))

pub more-preserved : goal.more-preserved
more-preserved g c =
    let no = sees_not kind.RightBrace c.more.reader c.sees.ensures (cc) in
    let some = sym (c.is_separator.ensures ∙ ap at.is_separator c.peek.ensures) ∙ cc in
    let p = separator_passes some c.pass.ensures in
    one_more c.more.invariant c.in_ok-push.ensures.ok (λ rest end s. rule.more_fields no c.in_ok-field.ensures some p s)
    (λ f z s. stuck.more_fields no c.in_ok-field.ensures some p s)

pub more-smaller : goal.more-smaller
more-smaller g c =
    let some = sym (c.is_separator.ensures ∙ ap at.is_separator c.peek.ensures) ∙ cc in
    (also_eats (goes c.in_ok-field.ensures) (separator_eats some c.pass.ensures)).words

pub returns : goal.returns
returns g c = rw c.in_ok-exact-2.ensures (ended c.more.invariant (rule.no_fields (c.sees.ensures.0 (cc))))

pub returns-in_err-field : goal.returns-in_err-field
returns-in_err-field g c = let p = err_from_is_err_and c.from_residual.result c.from_residual.ensures.1 in
    rw (p.1, p.2) (let no = sees_not kind.RightBrace c.more.reader c.sees.ensures (cc) in
    led _ _ c.more.invariant (goes_on _ _ (λ f s. stuck.first_field no s) c.in_err-field.ensures))
