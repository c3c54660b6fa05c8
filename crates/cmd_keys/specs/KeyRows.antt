-- The rows of the commands on keys (Redis manual, generic): DEL, UNLINK, EXISTS, TYPE, KEYS, RANDOMKEY, RENAME,
-- RENAMENX, EXPIRE, PEXPIRE, EXPIREAT, PEXPIREAT, PERSIST, TTL, PTTL, EXPIRETIME, PEXPIRETIME; and at the end which
-- words each takes.
use Rattle.std.specs.Prelude.{ℕ, Bool, is_some, if◌then◌else◌, pos, List, [], ◌∷◌, map, filter, length, count_by}
use Rattle.std.specs.Prelude.{slice_get, Option, Some, None, codes, ◌+◌, ◌-◌, ◌/◌, ℤ, negsuc, drop}
use Rattle.std.specs.FinMap as finite
use Rattle.resp_reply.specs.declared.reply.Reply.TheVariants.{Status, Int, Bulk, NullBulk}
use Rattle.ks_space.specs.declared.entry.Entry.{Entry}
use Rattle.ks_space.specs.declared.entry.Value.{Value}
use Rattle.ks_space.specs.declared.entry.Value.TheVariants as value
use Rattle.ks_space.specs.Store.{Store, deadline_at}
use Rattle.fx_record.specs.declared.record.Record.TheVariants.{Del, Rename, Persist}
use Rattle.cmd_args.specs.declared.refusal.Refusal.TheVariants.{NoSuchKey}
use Rattle.cmd_args.specs.Draws.{drawn_place}
use Rattle.cmd_glob.specs.Patterns.{parts_of}
use Rattle.cmd_rows.specs.Outcomes.{Outcome, ok, array, answers, does, refused, with_found, with_word, with_two_words}
use Rattle.cmd_rows.specs.Worlds.{World}
use Rattle.cmd_keys.specs.Globs.{is_match}
use Rattle.cmd_args.specs.declared.commands.CmdId.TheVariants.{Keys}
use Rattle.cmd_args.specs.declared.commands.KeyCmd.{KeyCmd}
use Rattle.cmd_rows.specs.declared.times.Expiry.{Expiry}
use Rattle.cmd_rows.specs.Numbers.{number}
use Rattle.cmd_rows.specs.Times.{expire_time, expire_at}
use Rattle.cmd_keys.specs.declared.expiring.Asked.{Asked}
use Rattle.cmd_keys.specs.declared.expiring.Asked.TheVariants.{MillisLeft, SecondsLeft, Millisecond, Second}
use Rattle.cmd_args.specs.declared.commands.KeyCmd.TheVariants as key
use Rattle.cmd_rows.specs.declared.times.Expiry.TheVariants.{InSeconds, InMillis, AtSecond, AtMillis}

abbrev pub is_there : Store → List ℕ → Bool
is_there store key = is_some (finite.get store key)

-- of these keys those that are there, each once
abbrev pub leaving : Store → List (List ℕ) → List (List ℕ)
leaving store [] = []
leaving store (key ∷ keys) = if is_there store key then key ∷ leaving
    (finite.remove store key) keys else leaving store keys

-- DEL and UNLINK: how many keys left
abbrev pub del_row : World → List (List ℕ) → Outcome
del_row world keys = does (Int (pos (length (leaving world.store keys)))) (map Del (leaving world.store keys))

-- how many of the keys are there; one that is named twice counts twice
abbrev pub exists_row : World → List (List ℕ) → Outcome
exists_row world keys = answers (Int (pos (count_by (is_there world.store) keys)))

abbrev pub kind_of : Value → List ℕ
kind_of (value.Str text) = codes "string"
kind_of (value.List items) = codes "list"
kind_of (value.Hash pairs) = codes "hash"
kind_of (value.Set members) = codes "set"
kind_of (value.Sorted scores) = codes "zset"

abbrev pub kind_in : Option Entry → List ℕ
kind_in None = codes "none"
kind_in (Some entry) = kind_of entry.value

abbrev pub type_row : World → List ℕ → Outcome
type_row world key = answers (Status (kind_in (finite.get world.store key)))

-- the keys that the pattern matches, in byte order
abbrev pub keys_matching : Store → List ℕ → List (List ℕ)
keys_matching store pattern = filter (is_match (parts_of pattern)) (finite.keys store)

abbrev pub keys_row : World → List ℕ → Outcome
keys_row world pattern = answers (array (map Bulk (keys_matching world.store pattern)))

abbrev pub drawn_key : Option (List ℕ) → Outcome
drawn_key None = answers NullBulk
drawn_key (Some key) = record { reply = Bulk key; records = []; draws = 1 }

-- the key at the place, in byte order, that one draw gives; null without a draw where there is no key
abbrev pub randomkey_row : World → Outcome
randomkey_row world =
    drawn_key (slice_get (finite.keys world.store) (drawn_place (finite.len world.store) world.draws))

abbrev pub rename_row : World → List ℕ → List ℕ → Outcome
rename_row world from to = if is_there world.store from then does ok (Rename from to ∷ []) else refused NoSuchKey

-- a key that is there keeps what it holds
abbrev pub renamenx_row : World → List ℕ → List ℕ → Outcome
renamenx_row world from to =
    if is_there world.store from then (if is_there world.store to then answers (Int (pos 0)) else does (Int (pos 1))
    (Rename from to ∷ [])) else refused NoSuchKey

-- EXPIRE, PEXPIRE, EXPIREAT and PEXPIREAT. The time is refused for an absent key too.
abbrev pub expire_row : World → KeyCmd → Expiry → List ℕ → List ℕ → Outcome
expire_row world command kind key word =
    with_found (number word) (λ n. with_found (expire_time (Keys command) kind world.time n) (λ at.
    if is_there world.store key then does (Int (pos 1)) (expire_at key world.time at ∷ []) else answers (Int (pos 0))))

-- 1 only where a deadline was there
abbrev pub persist_row : World → List ℕ → Outcome
persist_row world key =
    if is_some (deadline_at world.store key) then does (Int (pos 1)) (Persist key ∷ []) else answers (Int (pos 0))

-- milliseconds in seconds, to the nearest
abbrev pub seconds : ℕ → ℕ
seconds millis = (millis + 500) / 1000

-- what is told of a deadline; none of a store is past
abbrev pub told : Asked → ℕ → ℕ → ℕ
told MillisLeft now at = at - now
told SecondsLeft now at = seconds (at - now)
told Millisecond now at = at
told Second now at = seconds at

-- -1 where there is no deadline, and -2 where there is no key
abbrev pub told_of : Asked → ℕ → Option ℕ → ℤ
told_of asked now None = negsuc 0
told_of asked now (Some at) = pos (told asked now at)

abbrev pub told_in : Asked → ℕ → Option Entry → ℤ
told_in asked now None = negsuc 1
told_in asked now (Some entry) = told_of asked now entry.deadline

-- PTTL and TTL; PEXPIRETIME and EXPIRETIME
abbrev pub deadline_row : World → Asked → List ℕ → Outcome
deadline_row world asked key = answers (Int (told_in asked world.time (finite.get world.store key)))

-- what a command on keys gives; a row is only given words that fit it
unfoldable pub key_row : World → KeyCmd → List (List ℕ) → Outcome
key_row world key.Del words = del_row world (drop 1 words)
key_row world key.Unlink words = del_row world (drop 1 words)
key_row world key.Exists words = exists_row world (drop 1 words)
key_row world key.TypeOf words = with_word words (type_row world)
key_row world key.Keys words = with_word words (keys_row world)
key_row world key.RandomKey words = randomkey_row world
key_row world key.Rename words = with_two_words words (rename_row world)
key_row world key.RenameNx words = with_two_words words (renamenx_row world)
key_row world key.Expire words = with_two_words words (expire_row world key.Expire InSeconds)
key_row world key.PExpire words = with_two_words words (expire_row world key.PExpire InMillis)
key_row world key.ExpireAt words = with_two_words words (expire_row world key.ExpireAt AtSecond)
key_row world key.PExpireAt words = with_two_words words (expire_row world key.PExpireAt AtMillis)
key_row world key.Persist words = with_word words (persist_row world)
key_row world key.PTtl words = with_word words (deadline_row world MillisLeft)
key_row world key.Ttl words = with_word words (deadline_row world SecondsLeft)
key_row world key.PExpireTime words = with_word words (deadline_row world Millisecond)
key_row world key.ExpireTime words = with_word words (deadline_row world Second)
