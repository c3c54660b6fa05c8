-- What an object outside took, where it tells it: all of some items, or a prefix of them.
use Rattle.std.specs.Prelude.{◌≡◌, ◌⊎◌, ℕ, List, ◌++◌, Option}
use Rattle.rs_outside.specs.Known.{known_then}

-- a prefix of these items was taken
pub record TookPrefix {T : Type 0} (old new : Option (List T)) (items : List T) : Type 0 where
  pub prefix : List T
  pub rest : List T
  pub items_are : items ≡ prefix ++ rest
  pub took : new ≡ known_then old prefix

-- A turn, or turns that are written together, ended anywhere: a prefix of the log bytes was taken and a prefix of
-- what is
-- sent, this only behind the whole of the log bytes.
pub record CutsTurn {T : Type 0} (bytes : List ℕ) (items : List T) (log log' : Option (List ℕ))
    (out out' : Option (List T)) : Type 0 where
  pub logged : TookPrefix log log' bytes
  pub sent : TookPrefix out out' items
  pub order : (out' ≡ out) ⊎ (log' ≡ known_then log bytes)
