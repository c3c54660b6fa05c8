-- What an object outside tells of its content: `Some` of it, or `None` where it tells nothing. Each equation here also
-- says that whether the content is told stays the same.
use Rattle.std.specs.Prelude.{◌≡◌, ℕ, List, [], ◌++◌, take, Option, option_map, IfSome, Result, MatchResult}

-- the known items with these in front
abbrev pub items_then : {T : Type 0} → List T → Option (List T) → Option (List T)
items_then xs known = option_map (λ ys. xs ++ ys) known

-- the known items with these behind
abbrev pub known_then : {T : Type 0} → Option (List T) → List T → Option (List T)
known_then known xs = option_map (λ ys. ys ++ xs) known

-- nothing is left, where that is told
abbrev pub NoneLeft : {T : Type 0} → Option (List T) → Type 0
NoneLeft known = IfSome known (λ xs. xs ≡ [])

-- the first bytes that were left, as many as the call answers, stand at the front of `into`; after an error all are
-- left
abbrev pub GivesFirst : {S E : Type 0} → (S → Option (List ℕ)) → S → S → List ℕ → Result ℕ E → Type 0
GivesFirst left old new into result =
    MatchResult result (λ n. left old ≡ items_then (take n into) (left new)) (λ _. left new ≡ left old)

-- the first bytes of the piece, as many as the call answers, were taken; after an error none
abbrev pub TakesFirst : {S E : Type 0} → (S → Option (List ℕ)) → S → S → List ℕ → Result ℕ E → Type 0
TakesFirst taken old new piece result =
    MatchResult result (λ n. taken new ≡ known_then (taken old) (take n piece)) (λ _. taken new ≡ taken old)

-- these items are behind those that were there; after an error there are those that were there
abbrev pub AddsOnOk : {S T A E : Type 0} → (S → Option (List T)) → S → S → List T → Result A E → Type 0
AddsOnOk items old new xs result =
    MatchResult result (λ _. items new ≡ known_then (items old) xs) (λ _. items new ≡ items old)
