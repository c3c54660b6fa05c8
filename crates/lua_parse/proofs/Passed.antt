-- What a production says where a part of it was not read.
use Rattle.std.proofs.Common.{◌≡◌, ℕ, ◌≤◌, Bool, List, ◌∷◌, Some, subst, arith}
use Rattle.lua_lex.specs.declared.kinds.TokenKind.{TokenKind}
use Rattle.lua_lex.specs.declared.kinds.TokenKind.TheVariants as kind
use Rattle.lua_grammar.specs.declared.kinds.SyntaxKind.{SyntaxKind}
use Rattle.lua_grammar.specs.declared.kinds.SyntaxKind.TheVariants as fault
use Rattle.lua_grammar.specs.declared.context.Context.{Context}
use Rattle.lua_grammar.specs.declared.operators.Binary.{Binary}
use Rattle.lua_grammar.specs.Positions as at
use Rattle.lua_grammar.specs.Positions.{Position}
use Rattle.lua_grammar.specs.Contexts.{main_text}
use Rattle.lua_grammar.specs.Classes as class
use Rattle.lua_grammar.specs.Classes.{Class}
use Rattle.lua_grammar.specs.Productions as part
use Rattle.lua_grammar.specs.Productions.{Part, Production, Read}
use Rattle.lua_grammar.specs.Stuck.{Stuck}
use Rattle.lua_grammar.specs.Stuck as stuck
use Rattle.lua_parse.specs.declared.stops.Halt.{Halt}
use Rattle.lua_parse.specs.declared.stops.Halt.TheVariants as halt
use Rattle.lua_parse.specs.Halts.{IsRefused, HaltsBy}
use Rattle.lua_parse.specs.Steps.{Lacks, IsTooLong}
use Rattle.lua_parse.proofs.Seen.{joint_some}

-- nothing of a class was read since something inside it was not
pub passed : {c c' : Context} {k k' : Class} {ps rest : List Part} {i j : Position} (z : Position) (r : Halt)
    → Production c i k ps
    → Read ps i (part.some c' k' ∷ rest) j → IsRefused r c' k' j z → IsRefused r c k i z
passed z (halt.Syntax f) production read s = stuck.inside production read s
passed z halt.NoMemory production read s = tt

-- the same by any constructor of Stuck that goes on with a part
pub goes_on : {c c' : Context} {k k' : Class} {i j : Position} (z : Position) (r : Halt)
    → ((f : SyntaxKind) → Stuck f c' k' j z → Stuck f c k i z) → IsRefused r c' k' j z → IsRefused r c k i z
goes_on z (halt.Syntax f) step s = step f s
goes_on z halt.NoMemory step s = tt

-- the reader stays before a word that is not there
pub unexpected : {c : Context} {k : Class} {i j : Position} (w : TokenKind) (r : Halt) (z : Position)
    → (at.SeesNot w j → Stuck fault.Unexpected c k i j) → Lacks w r j z → IsRefused r c k i z
unexpected {c} {k} {i} w r z step l = rw (l.is, l.stays) (step l.unseen)

-- since a word was not there
pub lacks : {c : Context} {k : Class} {ps rest : List Part} {w : TokenKind} {i j : Position} (r : Halt) (z : Position)
    → Production c i k ps
    → Read ps i (part.word w ∷ rest) j → Lacks w r j z → IsRefused r c k i z
lacks {w = w} r z production read l = unexpected w r z (λ no. stuck.refused production read (stuck.no_word no)) l

-- since a name was not there
pub lacks_name : {c : Context} {k : Class} {ps rest : List Part} {i j : Position} (r : Halt) (z : Position)
    → Production c i k ps
    → Read ps i (part.name ∷ rest) j → Lacks kind.Name r j z → IsRefused r c k i z
lacks_name r z production read l = unexpected kind.Name r z (λ no. stuck.refused production read (stuck.no_name no)) l

-- since of this fault
pub faulty : (f : SyntaxKind) (c : Context) (k : Class) (i z : Position) (r : Halt) → r ≡ halt.Syntax f
    → Stuck f c k i z
    → IsRefused r c k i z
faulty f c k i z r e s = rw e s

-- since the count of operators is full
pub too_many : (c : Context) (rank : ℕ) {by : Binary} {i : Position} (r : Halt) (z : Position)
    → at.joint rank i ≡ Some by
    → IsTooLong r 0 i.operators i z → IsRefused r c (class.links rank) i z
too_many c rank {by} {i} r z e l =
    let long : 1000 ≤ i.operators = omega (arith, l.long) in
    rw (l.is, l.stays) (stuck.refused (part.links e) part.nothing
    (stuck.too_long (joint_some rank by (at.kind i) e) long))

-- the body of a function on this line
pub on_line : {line other : ℕ} (c : Context) (method : Bool) (i z : Position) (r : Halt) → line ≡ other
    → IsRefused r c (class.function_body line method) i z → IsRefused r c (class.function_body other method) i z
on_line {line} {other} c method i z r e s = let P : ℕ → Type 0 =
    λ n. IsRefused r c (class.function_body n method) i z in subst P e s

-- the main text was not read
pub halts : (i z : Position) (r : Halt) → IsRefused r main_text class.block i z → HaltsBy r i z
halts i z (halt.Syntax f) s = stuck.in_block s
halts i z halt.NoMemory s = tt
