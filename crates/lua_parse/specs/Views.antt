-- Where a reader stands.
use Rattle.std.specs.Prelude.{◌+◌, ◌<◌, ◌^◌, length}
use Rattle.lua_grammar.specs.Positions.{Position}
use Rattle.lua_parse.specs.declared.reader.Reader.TheInside.{Inside}

-- the position that a reader stands for
abbrev pub position_of : Inside → Position
position_of r = record {
  words = r.words.now;
  line = r.line;
  operators = r.operators;
  suffixes = r.suffixes;
  bodies = r.bodies;
}

-- each word that is left could still begin a body
abbrev pub HasPlaces : Inside → Type 0
HasPlaces r = length r.bodies + length r.words.now < 2 ^ 31
