use Rattle.std.proofs.Common.{sym, subst}
use Rattle.lua_parse.proofs.NumberLemmas.{unnumbered}
use Rattle.lua_lex.specs.declared.kinds.TokenKind.{TokenKind}
use Rattle.lua_grammar.specs.Trees.{IsNumbered, spelling}
use Rattle.lua_parse.specs.Numbers.{texts_of}
use Rattle.lua_parse.proofs.interner.Texts.number_in.Goals as goal

pub returns-in_ok-number-in-Name : goal.returns-in_ok-number-in-Name
returns-in_ok-number-in-Name c =
    let P : TokenKind → Type 0 = λ k. IsNumbered k (spelling c.args.text.now c.args.token) (texts_of c.args.self.now)
    c.in_ok-number-in-Name.number (texts_of c.number.new.self) in
    subst P (sym c.in-Name.is) (
      rw c.spelled-spelling.ensures at c.in_ok-number-in-Name.ensures.number,
      rw c.spelled-spelling.ensures at c.in_ok-number-in-Name.ensures.noted,
    )

pub returns-in_ok-number-in-Text : goal.returns-in_ok-number-in-Text
returns-in_ok-number-in-Text c =
    let P : TokenKind → Type 0 = λ k. IsNumbered k (spelling c.args.text.now c.args.token) (texts_of c.args.self.now)
    c.in_ok-number-in-Text.number (texts_of c.number_of_string.new.self) in
    subst P (sym c.in-Text.is) (rw c.spelled-spelling.ensures at c.in_ok-number-in-Text.ensures)

pub number_of_string-requires-clause-string : goal.number_of_string-requires-clause-string
number_of_string-requires-clause-string c = rw c.spelled-spelling.ensures (c.requires.within.string c.in-Text.is)

pub returns-in_default : goal.returns-in_default
returns-in_default c = unnumbered c.args.token.kind (spelling c.args.text.now c.args.token) (texts_of c.args.self.now)
    c.in_default.not-Name c.in_default.not-Text
