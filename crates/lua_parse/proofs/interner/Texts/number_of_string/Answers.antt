use Rattle.lua_parse.proofs.interner.Texts.number_of_string.Goals as goal

pub unreachable-requires : goal.unreachable-requires
unreachable-requires c = c.in_default.not-Some c.requires.string.0
    (c.in_ok-bytes.ensures.only c.requires.string.0 c.requires.string.1)

pub returns : goal.returns
returns c = (
  c.in-Some.bytes,
  rw c.in-Some.is at c.in_ok-bytes.ensures.found,
  rw c.as_slice.ensures.value at c.in_ok-number.ensures.number,
  rw c.as_slice.ensures.value at c.in_ok-number.ensures.noted,
)
