-- What the laws of the rows speak of.
use Rattle.std.specs.Prelude.{◌≡◌, ◌≢◌, ℕ, ℤ, pos, ◌+ℤ◌, ◌*ℤ◌, List, [], ◌∷◌, Option}
use Rattle.std.specs.FinMap as finite
use Rattle.resp_reply.specs.declared.reply.Reply.TheVariants.{Int}
use Rattle.ks_space.specs.declared.entry.Entry.{Entry}
use Rattle.ks_space.specs.Store.{Store}
use Rattle.fx_record.specs.declared.record.Record.TheVariants as effect
use Rattle.fx_record.specs.Records.{ChangesOnly}
use Rattle.fx_record.specs.Settled.{settled}
use Rattle.cmd_args.specs.declared.commands.ServerCmd.{ServerCmd}
use Rattle.cmd_args.specs.declared.commands.ServerCmd.TheVariants.{FlushAll, FlushDb}
use Rattle.cmd_args.specs.declared.commands.KeyCmd.{KeyCmd}
use Rattle.cmd_args.specs.declared.commands.KeyCmd.TheVariants.{Del, Unlink, Expire, PExpire, ExpireAt, PExpireAt}
use Rattle.cmd_args.specs.declared.commands.KeyCmd.TheVariants.{PTtl, Ttl, PExpireTime, ExpireTime}
use Rattle.cmd_rows.specs.Outcomes.{Outcome, ok, left_by}

-- FLUSHALL or FLUSHDB
abbrev pub IsFlush : ServerCmd → Type 0
IsFlush FlushAll = Unit {0}
IsFlush FlushDb = Unit {0}
IsFlush _ = ⊥

-- DEL or UNLINK
abbrev pub IsRemoval : KeyCmd → Type 0
IsRemoval Del = Unit {0}
IsRemoval Unlink = Unit {0}
IsRemoval _ = ⊥

-- TTL, PTTL, EXPIRETIME or PEXPIRETIME
abbrev pub TellsDeadline : KeyCmd → Type 0
TellsDeadline PTtl = Unit {0}
TellsDeadline Ttl = Unit {0}
TellsDeadline PExpireTime = Unit {0}
TellsDeadline ExpireTime = Unit {0}
TellsDeadline _ = ⊥

-- the time that the number of EXPIRE or one of its kin means now, in milliseconds since the Unix epoch: so many seconds
-- or milliseconds from now on, or that second or millisecond
abbrev pub Means : KeyCmd → ℕ → ℤ → ℤ → Type 0
Means Expire now n at = pos now +ℤ (n *ℤ pos 1000) ≡ at
Means PExpire now n at = pos now +ℤ n ≡ at
Means ExpireAt now n at = n *ℤ pos 1000 ≡ at
Means PExpireAt now n at = n ≡ at
Means _ now n at = ⊥

-- the row answers OK and empties the store, and of it one record is kept exactly where the store was not empty
pub record Empties (store : Store) (row : Outcome) : Type 0 where
  pub reply_is : row.reply ≡ ok
  pub left_is : left_by store row ≡ finite.empty
  pub of_keys : store ≢ finite.empty → settled store row.records ≡ effect.FlushAll ∷ []
  pub of_none : store ≡ finite.empty → settled store row.records ≡ []

-- the row answers 1, and changes one key alone, which has this entry then, or none
pub record ChangesKey (store : Store) (row : Outcome) (key : List ℕ) (entry : Option Entry) : Type 0 where
  pub reply_is : row.reply ≡ Int (pos 1)
  pub changes : ChangesOnly store (left_by store row) key entry
