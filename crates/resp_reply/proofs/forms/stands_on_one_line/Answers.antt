use Rattle.std.proofs.Common.{◌≢◌, ℕ, get_or, arith}
use Rattle.std.proofs.lemmas.Bool.Decides.{nat_tests}
use Rattle.std.proofs.lemmas.List.Elements.{All-map}
use Rattle.resp_reply.specs.Replies.{blanked}
use Rattle.resp_reply.proofs.forms.stands_on_one_line.Goals as goal

blanked-apart : (b : ℕ) → (blanked b ≢ 13) × (blanked b ≢ 10)
blanked-apart b = grind (arith, nat_tests)

pub returns : goal.returns
returns c = λ text. All-map (λ b. (b ≢ 13) × (b ≢ 10)) blanked text (λ k d within. blanked-apart (get_or text k d))
