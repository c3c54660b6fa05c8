-- Strings of bytes, as lists of numbers.
use Rattle.std.specs.Prelude.{ℕ, ◌<◌, List, codes}
use Rattle.std.specs.List.{AllByRecursion}

-- each number is a byte
abbrev pub AreBytes : List ℕ → Type 0
AreBytes bytes = AllByRecursion (λ b. b < 256) bytes

-- CR LF, the end of a line
abbrev pub crlf : List ℕ
crlf = codes "\r\n"
