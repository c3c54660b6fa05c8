-- What becomes of the log bytes and the lines that are gathered.
use Rattle.std.specs.Prelude.{◌≡◌, ℕ, List, [], Option}
use Rattle.rs_outside.specs.Known.{known_then}
use Rattle.srv_loop.specs.declared.gathering.Gathered.{Gathered}

-- all of it was written, and nothing is left
pub record Flushes (gathered gathered' : Gathered) (log log' out out' : Option (List ℕ)) : Type 0 where
  pub log_is : log' ≡ known_then log gathered.log
  pub out_is : out' ≡ known_then out gathered.lines
  pub no_log : gathered'.log ≡ []
  pub no_lines : gathered'.lines ≡ []

-- nothing of it was written, and all is left
pub record Keeps (gathered gathered' : Gathered) (log log' out out' : Option (List ℕ)) : Type 0 where
  pub log_is : log' ≡ log
  pub out_is : out' ≡ out
  pub same_log : gathered'.log ≡ gathered.log
  pub same_lines : gathered'.lines ≡ gathered.lines
