use Rattle.std.proofs.Common.{◌≡◌, inl, inr}
use Rattle.session_cases.proofs.cases.play_case.Goals as goal

-- no session has a bad line
pub returns-in-Done-clause-refused : goal.returns-in-Done-clause-refused
returns-in-Done-clause-refused c =
    λ line bad. absurd (elim (c.in-Done.ensures.bad_only line bad) [ inl e ↦ cc | inr e ↦ cc ])

-- and no other line than the first is told
pub returns-in-BadInput-clause-refused : goal.returns-in-BadInput-clause-refused
returns-in-BadInput-clause-refused c = λ line bad.
    elim (c.in-BadInput.ensures.bad_only line bad) [
      | inl e ↦ let same : line ≡ c.in-BadInput.line = cc in rw same c.put_bad_line.ensures
      | inr e ↦ absurd (cc)
    ]
