-- At the end of a text a reader is stuck for want of a word alone.
use Rattle.std.proofs.Common.{◌≡◌, Bool, true, Option, None, refl, sym, ap, ◌∙◌}
use Rattle.lua_lex.specs.declared.kinds.TokenKind.{TokenKind}
use Rattle.lua_grammar.specs.declared.kinds.SyntaxKind.{SyntaxKind}
use Rattle.lua_grammar.specs.declared.kinds.SyntaxKind.TheVariants as fault
use Rattle.lua_grammar.specs.declared.context.Context.{Context}
use Rattle.lua_grammar.specs.Words.{begins_suffix}
use Rattle.lua_grammar.specs.Positions as at
use Rattle.lua_grammar.specs.Positions.{Position}
use Rattle.lua_grammar.specs.Classes.{Class}
use Rattle.lua_grammar.specs.Productions.{Part}
use Rattle.lua_grammar.specs.Stuck as stuck
use Rattle.lua_grammar.specs.Stuck.{Stuck, Refuses}

refuses_end : {f : SyntaxKind} {p : Part} {i : Position} → Refuses f p i → at.kind i ≡ None → f ≡ fault.Unexpected
refuses_end (stuck.no_word n) e = refl
refuses_end (stuck.no_name n) e = refl
refuses_end (stuck.no_end n) e = refl
refuses_end (stuck.too_long some long) e = absurd (cc (some, e))

-- a property of a next word that has none
not_at_end : (P : Option TokenKind → Bool) (w : Option TokenKind) → P w ≡ true → w ≡ None → P None ≡ true
not_at_end P w p e = ap P (sym e) ∙ p

pub unexpected_end : {f : SyntaxKind} {c : Context} {k : Class} {i z : Position} → Stuck f c k i z → at.kind z ≡ None
    → f ≡ fault.Unexpected
unexpected_end (stuck.refused production read r) e = refuses_end r e
unexpected_end (stuck.inside production read s) e = unexpected_end s e
unexpected_end (stuck.expression s) e = unexpected_end s e
unexpected_end (stuck.unary_level {i = i} low high s full) e = absurd (cc (s, e))
unexpected_end (stuck.simple b) e = refl
unexpected_end (stuck.simple_level {i = i} n full) e = absurd (cc (not_at_end stuck.nests_simple (at.kind i) n e))
unexpected_end (stuck.varargs s n) e = absurd (cc (s, e))
unexpected_end (stuck.chain_head s) e = unexpected_end s e
unexpected_end (stuck.chain_suffixes x s) e = unexpected_end s e
unexpected_end (stuck.own_chain s) e = unexpected_end s e
unexpected_end (stuck.head b) e = refl
unexpected_end (stuck.head_level s full) e = absurd (cc (s, e))
unexpected_end (stuck.suffix_line s far) e = absurd (cc (s, e))
unexpected_end (stuck.suffix_level {i = i} n near full) e = absurd (cc (not_at_end stuck.nests_suffix (at.kind i) n e))
unexpected_end (stuck.suffix_count {i = i} b near level many) e = absurd (cc (not_at_end begins_suffix (at.kind i) b e))
unexpected_end (stuck.suffix b count s) e = unexpected_end s e
unexpected_end (stuck.suffixes b count x s) e = unexpected_end s e
unexpected_end (stuck.arguments b) e = refl
unexpected_end (stuck.arguments_line s far) e = absurd (cc (s, e))
unexpected_end (stuck.arguments_level {i = i} n b near full) e =
    absurd (cc (not_at_end stuck.nests_suffix (at.kind i) n e))
unexpected_end (stuck.first_expression s) e = unexpected_end s e
unexpected_end (stuck.more_expressions x t s) e = unexpected_end s e
unexpected_end (stuck.constructor_level s full) e = absurd (cc (s, e))
unexpected_end (stuck.first_field n s) e = unexpected_end s e
unexpected_end (stuck.more_fields n x sep p s) e = unexpected_end s e
unexpected_end (stuck.plain n m s) e = unexpected_end s e
unexpected_end (stuck.no_parameters n level) e = refl
unexpected_end (stuck.in_parameters b t level s) e = unexpected_end s e
unexpected_end (stuck.body_refused b t level x read r) e = refuses_end r e
unexpected_end (stuck.body_inside b t level x u s) e = unexpected_end s e
unexpected_end (stuck.parameter b) e = refl
unexpected_end (stuck.more_parameters x t n s) e = unexpected_end s e
unexpected_end (stuck.last_comma x t s) e = refl
unexpected_end (stuck.break_statement s n) e = absurd (cc (s, e))
unexpected_end (stuck.deed b) e = refl
unexpected_end (stuck.deed_level {i = i} n full) e = absurd (cc (not_at_end stuck.nests_statement (at.kind i) n e))
unexpected_end (stuck.local_level t s full) e = absurd (cc (s, e))
unexpected_end (stuck.function_refused s level read r) e = refuses_end r e
unexpected_end (stuck.function_inside w level read s) e = unexpected_end s e
unexpected_end (stuck.function_statement w level read n s) e = unexpected_end s e
unexpected_end (stuck.method_refused w level read t read' r) e = refuses_end r e
unexpected_end (stuck.method_inside w level read t n s) e = unexpected_end s e
unexpected_end (stuck.name n) e = refl
unexpected_end (stuck.more_names x t s) e = unexpected_end s e
unexpected_end (stuck.for_names level s) e = unexpected_end s e
unexpected_end (stuck.for_in level n x m) e = refl
unexpected_end (stuck.for_list level x t s) e = unexpected_end s e
unexpected_end (stuck.for_block level x t y s) e = unexpected_end s e
unexpected_end (stuck.front b s) e = unexpected_end s e
unexpected_end (stuck.alone x n) e = refl
unexpected_end (stuck.more_of_targets x t s) e = unexpected_end s e
unexpected_end (stuck.no_assign x n) e = refl
unexpected_end (stuck.assigned x t s) e = unexpected_end s e
unexpected_end (stuck.first_target s) e = unexpected_end s e
unexpected_end (stuck.more_targets x t s) e = unexpected_end s e
unexpected_end (stuck.target s) e = unexpected_end s e
unexpected_end (stuck.no_target x r few none) e = refl
