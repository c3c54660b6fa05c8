use Rattle.std.proofs.Common.{length}
use Rattle.lua_parse.specs.Numbers.{texts_of}
use Rattle.lua_parse.proofs.NumberLemmas.{Numbered}
use Rattle.lua_parse.proofs.interner.Texts.words.Given as goal

abbrev pub invariant-more : goal.invariant-more
invariant-more l = Numbered l.fn.text l.tokens l.rest l.words.items (texts_of l.self)

abbrev pub decreases-more : goal.decreases-more
decreases-more l = length l.rest
