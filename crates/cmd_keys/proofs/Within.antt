-- What the rows give is within the limits of a store, and can be carried out.
use Rattle.std.proofs.Common.{◌≡◌, ℕ, List, Result, refl}
use Rattle.std.specs.List.{AllByRecursion}
use Rattle.ks_space.specs.Store.{IsShort}
use Rattle.cmd_args.specs.declared.commands.CmdId.{CmdId}
use Rattle.cmd_args.specs.declared.commands.CmdId.TheVariants.{Client, Server, Strings, Keys}
use Rattle.cmd_args.specs.declared.commands.ServerCmd.{ServerCmd}
use Rattle.cmd_args.specs.declared.commands.KeyCmd.{KeyCmd}
use Rattle.cmd_args.proofs.KeyLaws.{all-keys_named}
use Rattle.cmd_rows.specs.declared.stop.Stop.{Stop}
use Rattle.cmd_rows.specs.declared.given.Given.{Given}
use Rattle.cmd_rows.specs.Bounds.{IsTimelyWithin, AreTimelyWithin}
use Rattle.cmd_rows.specs.Worlds.{World}
use Rattle.cmd_rows.specs.Given.{Follows, CanSettle}
use Rattle.cmd_rows.proofs.Reasons.{Any, any_reason}
use Rattle.cmd_rows.proofs.Walk.{good-records, allows-within, can_settle}
use Rattle.cmd_keys.specs.Families.{IsOfKeys}
use Rattle.cmd_keys.specs.ServerRows.{server_row}
use Rattle.cmd_keys.specs.KeyRows.{key_row}
use Rattle.cmd_keys.proofs.ServerWalk.{good-server_row}
use Rattle.cmd_keys.proofs.KeyWalk.{good-key_row}

pub server_records-within : (world : World) (id : ServerCmd) (words : List (List ℕ))
    → AreTimelyWithin world.time (server_row world id words).records
server_records-within world id words =
    good-records Any (IsTimelyWithin world.time) (server_row world id words)
    (good-server_row Any any_reason (IsTimelyWithin world.time) world id words (λ place there why e. tt)
    (λ is. (tt, tt)) (λ is word e. tt))

pub key_records-within : (world : World) (id : KeyCmd) (words : List (List ℕ)) → AllByRecursion IsShort words
    → AreTimelyWithin world.time (key_row world id words).records
key_records-within world id words short =
    good-records Any (IsTimelyWithin world.time) (key_row world id words)
    (good-key_row Any any_reason IsShort IsShort (IsTimelyWithin world.time) world (allows-within world.time) words id
    (λ place there why e. tt) (all-keys_named IsShort (Keys id) words short))

-- so what a command gave can be carried out
pub can_settle-given : (world : World) (id : CmdId) (words : List (List ℕ)) (gave : Result Given Stop) → IsOfKeys id
    → AllByRecursion IsShort words
    → ((command : ServerCmd) → id ≡ Server command → Follows world.store (server_row world command words) gave)
    → ((command : KeyCmd) → id ≡ Keys command → Follows world.store (key_row world command words) gave)
    → CanSettle world.store gave
can_settle-given world (Client id) words gave of short server keys = absurd of
can_settle-given world (Server id) words gave of short server keys =
    can_settle world.time world.store (server_row world id words) gave (server_records-within world id words)
    (server id refl)
can_settle-given world (Strings id) words gave of short server keys = absurd of
can_settle-given world (Keys id) words gave of short server keys =
    can_settle world.time world.store (key_row world id words) gave (key_records-within world id words short)
    (keys id refl)
