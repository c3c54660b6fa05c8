use Rattle.std.proofs.Common.{◌≡◌, false, Some, ap, ◌∙◌, refl}
use Rattle.rs_whole.specs.declared.whole.Whole.{Whole}
use Rattle.lua_lex.specs.declared.kinds.TokenKind.{TokenKind}
use Rattle.lua_lex.specs.declared.kinds.TokenKind.TheVariants as kind
use Rattle.lua_grammar.specs.Grammar as rule
use Rattle.lua_grammar.specs.Stuck as stuck
use Rattle.lua_grammar.specs.Stuck.{begins_simple}
use Rattle.lua_grammar.specs.declared.expressions.Name.{Name}
use Rattle.lua_parse.specs.Nests.{begins_other}
use Rattle.lua_parse.proofs.expressions.constant.Goals as goal

-- neither a constant nor a word of another operand
no_operand : (k : TokenKind) → (k ≡ kind.Nil → ⊥) → (k ≡ kind.False → ⊥) → (k ≡ kind.True → ⊥)
    → ((n : Whole) → k ≡ kind.Number n → ⊥)
    → (k ≡ kind.Text → ⊥) → begins_other k ≡ false → begins_simple (Some k) ≡ false
no_operand kind.Nil a b c d e other = absurd (a refl)
no_operand kind.False a b c d e other = absurd (b refl)
no_operand kind.True a b c d e other = absurd (c refl)
no_operand (kind.Number n) a b c d e other = absurd (d n refl)
no_operand kind.Text a b c d e other = absurd (e refl)
no_operand kind.Name a b c d e other = absurd (cc other)
no_operand kind.LeftParen a b c d e other = absurd (cc other)
no_operand kind.LeftBrace a b c d e other = absurd (cc other)
no_operand kind.Function a b c d e other = absurd (cc other)
no_operand kind.Dots a b c d e other = absurd (cc other)
no_operand k a b c d e other = refl

pub returns-in-Nil : goal.returns-in-Nil
returns-in-Nil c = λ context. rw c.passed.ensures.value
    (rule.nil_value (record { seen = c.requires ∙ ap Some c.in-Nil.is; taken = c.passed.ensures.behind }))

pub returns-in-False : goal.returns-in-False
returns-in-False c = λ context. rw c.passed-in-False.ensures.value
    (rule.false_value (record { seen = c.requires ∙ ap Some c.in-False.is; taken = c.passed-in-False.ensures.behind }))

pub returns-in-True : goal.returns-in-True
returns-in-True c = λ context. rw c.passed-in-True.ensures.value
    (rule.true_value (record { seen = c.requires ∙ ap Some c.in-True.is; taken = c.passed-in-True.ensures.behind }))

pub returns-in-Number : goal.returns-in-Number
returns-in-Number c = λ context. rw c.passed-in-Number.ensures.value
    (rule.number (record { seen = c.requires ∙ ap Some c.in-Number.is; taken = c.passed-in-Number.ensures.behind }))

pub returns-in-Text : goal.returns-in-Text
returns-in-Text c = λ context. rw c.passed-in-Text.ensures.value
    (rule.text (record {
      seen = c.requires ∙ ap Some c.in-Text.is;
      number_is = ap (λ (n : Name). n.text) c.name-text.ensures;
      taken = c.passed-in-Text.ensures.behind;
    }))

pub returns-in_default : goal.returns-in_default
returns-in_default c = λ context. let no = c.in_default in
    rw c.unexpected.ensures (λ other. stuck.simple (ap begins_simple c.requires
    ∙ no_operand _ no.not-Nil no.not-False no.not-True no.not-Number no.not-Text other))
