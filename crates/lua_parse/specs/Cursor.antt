-- A position as a value.
use Rattle.std.specs.Prelude.{ℕ, List, refl}
use Rattle.std.specs.Coded.{Coded, code_by, coded×, coded_ℕ, coded_list}
use Rattle.lua_grammar.specs.declared.words.Word.{Word}
use Rattle.lua_grammar.specs.declared.statements.Body.{Body}
use Rattle.lua_grammar.specs.contracts.words.Word as word
use Rattle.lua_grammar.specs.contracts.statements.Body as body
use Rattle.lua_grammar.specs.Positions.{Position}

abbrev pub position_code : Coded Position
position_code = code_by (List Word × (ℕ × (ℕ × (ℕ × List Body))))
    (coded× (coded_list word.the_row.coded) (coded× coded_ℕ
    (coded× coded_ℕ (coded× coded_ℕ (coded_list body.the_row.coded)))))
    (λ i. (i.words, (i.line, (i.operators, (i.suffixes, i.bodies)))))
    (λ p. record { words = p.0; line = p.1.0; operators = p.1.1.0; suffixes = p.1.1.1.0; bodies = p.1.1.1.1 })
    (λ _. refl)
