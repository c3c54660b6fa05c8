-- What a row reads.
use Rattle.std.specs.Prelude.{ℕ, refl}
use Rattle.std.specs.Coded.{Coded, code_by, coded×, coded_ℕ}
use Rattle.ks_space.specs.Store.{Store}
use Rattle.fx_record.specs.Settled.{store_code}

-- the store, the turn's time in milliseconds since the Unix epoch, and the state of the turn's draws
pub record World : Type 0 where
  pub store : Store
  pub time : ℕ
  pub draws : ℕ

-- a world is stored as the tuple of its fields
abbrev pub world_code : Coded World
world_code = code_by (Store × (ℕ × ℕ)) (coded× store_code (coded× coded_ℕ coded_ℕ)) (λ w. (w.store, (w.time, w.draws)))
    (λ p. record { store = p.0; time = p.1.0; draws = p.1.1 }) (λ _. refl)
