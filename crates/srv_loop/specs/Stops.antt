-- Why a call of this crate stopped.
use Rattle.std.specs.Prelude.{ℕ}
use Rattle.rs_outside.specs.declared.status.Status.{Status}
use Rattle.rs_outside.specs.declared.status.Status.TheVariants.{BadInput, LogFault, SinkFault, WireFault, NoMemory}

-- For the private calls below `serve` and `play`: what each status that stops one says. They are given what a bad line
-- means, and that the log's, the output's and the wire's count rose, where they can answer so, and else ⊥.
abbrev pub Stops : (ℕ → Type 0) → Type 0 → Type 0 → Type 0 → Status → Type 0
Stops bad log_rose out_rose wire_rose (BadInput line) = bad line
Stops bad log_rose out_rose wire_rose LogFault = log_rose
Stops bad log_rose out_rose wire_rose SinkFault = out_rose
Stops bad log_rose out_rose wire_rose WireFault = wire_rose
Stops bad log_rose out_rose wire_rose NoMemory = Unit {0}
Stops bad log_rose out_rose wire_rose _ = ⊥

abbrev pub Never : ℕ → Type 0
Never line = ⊥
