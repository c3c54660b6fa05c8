-- Long brackets (Lua 5.1 manual, 2.1).
use Rattle.std.specs.Prelude.{ℕ, suc, ◌+◌, Bool, false, ◌==◌, ◌&&◌, if◌then◌else◌, List, [], ◌∷◌, Option, Some, None}
use Rattle.std.specs.Prelude.{option_map, option_and_then, drop}
use Rattle.std.specs.List.{prefix_len}

-- the text begins with this byte
abbrev pub begins : ℕ → List ℕ → Bool
begins b [] = false
begins b (c ∷ text) = c == b

-- how many `=` the text begins with
abbrev pub equals : List ℕ → ℕ
equals text = prefix_len (λ b. b == 61) text

-- the level of the bracket that the text opens behind a first `[`: the number of `=` up to the second one
abbrev pub level : List ℕ → Option ℕ
level text = if begins 91 (drop (equals text) text) then Some (equals text) else None

-- behind a first `]` the text closes a bracket of this level: as many `=`, and `]`
abbrev pub closes : ℕ → List ℕ → Bool
closes n text = equals text == n && begins 93 (drop n text)

-- the first place where a bracket of this level is closed
abbrev pub close : ℕ → List ℕ → Option ℕ
close n [] = None
close n (b ∷ text) = if b == 93 && closes n text then Some 0 else option_map suc (close n text)

-- how many bytes the long bracket has whose first `[` the text follows, up to the end of its first close
unfoldable pub long_len : List ℕ → Option ℕ
long_len text = option_and_then (λ n. option_map (λ at. n + 1 + at + n + 2) (close n (drop (n + 1) text))) (level text)
