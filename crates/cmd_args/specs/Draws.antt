-- Draws by SplitMix64 (Steele, Lea and Flood). The state of the draws is a number of 64 bits.
use Rattle.std.specs.Prelude.{ℕ, suc, zero, ◌+◌, ◌*◌, ◌/◌, ◌%◌, ◌^◌, bit_xor}

-- the state after a draw
abbrev pub state_behind : ℕ → ℕ
state_behind state = (state + 0x9e3779b97f4a7c15) % 2 ^ 64

-- z with itself shifted right by so many bits, times the factor, in 64 bits
abbrev pub mixed : ℕ → ℕ → ℕ → ℕ
mixed shift factor z = bit_xor z (z / 2 ^ shift) * factor % 2 ^ 64

-- the word that is drawn: the state after the draw, mixed
abbrev pub drawn_word : ℕ → ℕ
drawn_word state =
    let z = mixed 27 0x94d049bb133111eb (mixed 30 0xbf58476d1ce4e5b9 (state_behind state)) in
    bit_xor z (z / 2 ^ 31)

-- the place that is drawn among so many, counted from 0
abbrev pub drawn_place : ℕ → ℕ → ℕ
drawn_place count state = drawn_word state % count

-- the state after so many draws
abbrev pub state_after : ℕ → ℕ → ℕ
state_after state zero = state
state_after state (suc draws) = state_behind (state_after state draws)

-- the word of a draw, counted from 0, where draws began at this state
abbrev pub word_after : ℕ → ℕ → ℕ
word_after state draw = drawn_word (state_after state draw)
