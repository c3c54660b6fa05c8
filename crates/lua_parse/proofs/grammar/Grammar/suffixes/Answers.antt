use Rattle.std.proofs.Common.{sym, ap, ◌∙◌}
use Rattle.std.proofs.lemmas.Result.{err_from_is_err_and}
use Rattle.lua_grammar.specs.Grammar as rule
use Rattle.lua_grammar.specs.Words.{begins_suffix}
use Rattle.lua_parse.proofs.Kept.{no_suffix_yet, one_more_suffix}
use Rattle.lua_parse.proofs.Leads.{ended, led}
use Rattle.lua_grammar.proofs.Progress.{counts, also_eats, eats_suffix}
use Rattle.lua_parse.proofs.grammar.Grammar.suffixes.Goals as goal

pub more-init : goal.more-init
more-init g c = rw c.new-suffixes.ensures no_suffix_yet

pub counted_suffix-requires-clause-begins : goal.counted_suffix-requires-clause-begins
counted_suffix-requires-clause-begins g c = sym (c.begins_suffix.ensures ∙ ap begins_suffix c.peek.ensures) ∙ cc

pub more-preserved : goal.more-preserved
more-preserved g c = one_more_suffix c.more.invariant c.in_ok-push.ensures.ok
    (sym (c.begins_suffix.ensures ∙ ap begins_suffix c.peek.ensures) ∙ cc) c.in_ok-counted_suffix.ensures

pub more-smaller : goal.more-smaller
more-smaller g c = let k = c.in_ok-counted_suffix.ensures in (also_eats (counts k.counts) (eats_suffix k.spelled)).words

pub returns-in_err-counted_suffix : goal.returns-in_err-counted_suffix
returns-in_err-counted_suffix g c = let p = err_from_is_err_and c.from_residual.result c.from_residual.ensures.1 in
    rw (p.1, p.2) (led _ _ c.more.invariant.leads c.in_err-counted_suffix.ensures)

pub returns : goal.returns
returns g c =
    rw c.in_ok-exact.ensures (record {
      spelled = ended c.more.invariant.leads
          (rule.no_suffixes (sym (c.begins_suffix.ensures ∙ ap begins_suffix c.peek.ensures) ∙ cc));
      few = c.more.invariant.few;
    })
