use Rattle.std.proofs.Common.{◌≡◌, ◌↔◌, true, subst}
use Rattle.cmd_glob.specs.Matching.{Matches}
use Rattle.cmd_keys.proofs.Matching.{is_match-from}
use Rattle.cmd_keys.proofs.listing.is_match.Goals as goal

pub returns : goal.returns
returns c =
    is_match-from c.matches.result c.args.glob.now c.args.key.now
    (subst (λ text. (c.matches.result ≡ true) ↔ Matches c.args.glob.now text) c.as_slice.ensures.value
    c.matches.ensures)
