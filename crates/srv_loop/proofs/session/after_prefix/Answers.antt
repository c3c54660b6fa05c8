use Rattle.std.proofs.lemmas.Bool.Decides.{Decides-eqb}
use Rattle.std.proofs.lemmas.Slice.Eq.{strip_prefix_is}
use Rattle.srv_loop.proofs.Cuts.{prefix_found, prefix_only}
use Rattle.srv_loop.proofs.session.after_prefix.Goals as goal

pub returns-clause-found : goal.returns-clause-found
returns-clause-found c =
    prefix_found c.args.text.now c.args.prefix.now c.strip_prefix.result
    (strip_prefix_is Decides-eqb c.args.text.now c.args.prefix.now c.strip_prefix.result
    c.strip_prefix.ensures.cases)

pub returns-clause-only : goal.returns-clause-only
returns-clause-only c =
    prefix_only c.args.text.now c.args.prefix.now c.strip_prefix.result
    (strip_prefix_is Decides-eqb c.args.text.now c.args.prefix.now c.strip_prefix.result
    c.strip_prefix.ensures.cases)
