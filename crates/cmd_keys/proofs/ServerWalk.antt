-- What is so of the row of each command on the server.
use Rattle.std.proofs.Common.{◌≡◌, ◌<◌, ℕ, zero, suc, List, Err, Option, Some, None, inl, inr, refl, slice_get, arith}
use Rattle.std.specs.Prelude.{ℤ, pos, negsuc, codes}
use Rattle.fx_record.specs.declared.record.Record.{Record}
use Rattle.fx_record.specs.declared.record.Record.TheVariants.{FlushAll as Flushing}
use Rattle.cmd_args.specs.declared.commands.ServerCmd.{ServerCmd}
use Rattle.cmd_args.specs.declared.commands.ServerCmd.TheVariants.{Ping, Echo, Select, Time, DbSize, FlushAll}
use Rattle.cmd_args.specs.declared.commands.ServerCmd.TheVariants.{FlushDb}
use Rattle.cmd_args.specs.declared.refusal.Refusal.{Refusal}
use Rattle.cmd_args.specs.declared.refusal.Refusal.TheVariants.{Syntax, DbIndex}
use Rattle.cmd_args.specs.Table.{server_command}
use Rattle.cmd_rows.specs.Worlds.{World}
use Rattle.cmd_rows.specs.Numbers.{number}
use Rattle.cmd_rows.specs.Outcomes.{word_at}
use Rattle.cmd_rows.proofs.Faults.{no_fault-status, no_fault-int, no_fault-bulk, no_fault-array}
use Rattle.cmd_rows.proofs.Reasons.{Reasons, number-err}
use Rattle.cmd_rows.proofs.Walk.{Good, good-found, good-if}
use Rattle.cmd_keys.specs.ServerRows.{ping_row, selected, is_flush_mode, flush_row}
use Rattle.cmd_keys.specs.ServerRows.{server_row}
use Rattle.cmd_keys.specs.Laws.{IsFlush}

module _ (R : Refusal → Type 0) (reasons : Reasons R) (Q : Record → Type 0) where
  good-ping : (word : Option (List ℕ)) → Good R Q (ping_row word)
  good-ping None = inr (no_fault-status (codes "PONG"), tt)
  good-ping (Some word) = inr (no_fault-bulk word, tt)

  good-selected : (n : ℤ) → Good R Q (selected n)
  good-selected (pos zero) = inr (no_fault-status (codes "OK"), tt)
  good-selected (pos (suc n)) = inl (DbIndex, reasons.index, refl)
  good-selected (negsuc n) = inl (DbIndex, reasons.index, refl)

  good-flush : (mode : Option (List ℕ)) → Q Flushing → ((word : List ℕ) → mode ≡ Some word → R Syntax)
      → Good R Q (flush_row mode)
  good-flush None flushing another = inr (no_fault-status (codes "OK"), (flushing, tt))
  good-flush (Some word) flushing another =
      good-if R Q (is_flush_mode word) _ _ (inr (no_fault-status (codes "OK"), (flushing, tt)))
      (inl (Syntax, another word refl, refl))

  -- where words that are missing, and words that are no mode, are refused as R says, and Q is so of the record of a
  -- flush
  pub good-server_row : (world : World) (id : ServerCmd) (words : List (List ℕ))
      → ((place : ℕ) → place < (server_command id).least → (why : Refusal) → word_at words place ≡ Err why → R why)
      → (IsFlush id → Q Flushing) → (IsFlush id → (word : List ℕ) → slice_get words 1 ≡ Some word → R Syntax)
      → Good R Q (server_row world id words)
  unfolding server_row server_command
  good-server_row world Ping words missing flushing another = good-ping (slice_get words 1)
  good-server_row world Echo words missing flushing another =
      good-found R Q (word_at words 1) _ (missing 1 (omega arith)) (λ word _. inr (no_fault-bulk word, tt))
  good-server_row world Select words missing flushing another =
      good-found R Q (word_at words 1) _ (missing 1 (omega arith)) (λ word _.
      good-found R Q (number word) _ (number-err R reasons word) (λ n _. good-selected n))
  good-server_row world Time words missing flushing another = inr (no_fault-array _, tt)
  good-server_row world DbSize words missing flushing another = inr (no_fault-int _, tt)
  good-server_row world FlushAll words missing flushing another =
      good-flush (slice_get words 1) (flushing tt) (another tt)
  good-server_row world FlushDb words missing flushing another =
      good-flush (slice_get words 1) (flushing tt) (another tt)
