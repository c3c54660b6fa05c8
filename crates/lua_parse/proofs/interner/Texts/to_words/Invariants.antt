use Rattle.std.proofs.Common.{◌≡◌, ◌++◌, length, map}
use Rattle.lua_parse.specs.Numbers.{texts_of}
use Rattle.lua_parse.proofs.interner.Texts.to_words.Given as goal

abbrev pub invariant-more : goal.invariant-more
invariant-more l = l.texts ++ map (λ k. k.items) l.rest ≡ texts_of l.self

abbrev pub decreases-more : goal.decreases-more
decreases-more l = length l.rest
