-- When the two sides of a node are in balance (Adams; Hirai and Yamamoto, Balancing weight-balanced trees, 2011).
use Rattle.std.specs.Prelude.{ℕ, ◌+◌, ◌*◌, ◌^◌, ◌<◌, ◌≤◌}

-- of two sides of these lengths neither weighs more than three times the other, a weight being one more than a length
abbrev pub AreInBalance : ℕ → ℕ → Type 0
AreInBalance m n = (m + 1 ≤ 3 * (n + 1)) × (n + 1 ≤ 3 * (m + 1))

-- they are in balance, or would be if the lighter one had one item more
abbrev pub AreNearBalance : ℕ → ℕ → Type 0
AreNearBalance m n = (m + 1 ≤ 3 * (n + 2)) × (n + 1 ≤ 3 * (m + 2))

-- a tree of this depth has room for n items: at most twice as many on each level as on the one above
abbrev pub HasRoom : ℕ → ℕ → Type 0
HasRoom depth n = n < 2 ^ depth

-- (4/3) ^ depth is at most the weight of n items: the depth is at most 2.41 times the weight's binary logarithm
abbrev pub IsShallow : ℕ → ℕ → Type 0
IsShallow depth n = 4 ^ depth ≤ 3 ^ depth * (n + 1)
