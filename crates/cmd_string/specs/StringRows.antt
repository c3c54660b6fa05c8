-- The commands on strings, one row each, and at the end the words that each takes (Redis manual, strings). Rows that
-- stand one in another refuse in that order.
use Rattle.std.specs.Prelude.{ℕ, Bool, false, ◌||◌, if◌then◌else◌, ℤ, pos, negsuc, ◌+ℤ◌, ◌-ℤ◌, List, [], ◌∷◌, ◌++◌}
use Rattle.std.specs.Prelude.{length, map, drop, Option, None, Result, Ok, Err, codes}
use Rattle.std.specs.Option.{unwrap_or}
use Rattle.std.specs.Result.{result_unwrap_or}
use Rattle.std.specs.FinMap as finite
use Rattle.rs_whole.specs.Integers.{integer_text}
use Rattle.resp_reply.specs.declared.reply.Reply.TheVariants.{Int, Bulk}
use Rattle.ks_space.specs.Store.{Store}
use Rattle.fx_record.specs.declared.record.Record.TheVariants.{Set, SetKeeping, Del}
use Rattle.fx_record.specs.RecordWords.{is_short}
use Rattle.cmd_args.specs.declared.commands.CmdId.{CmdId}
use Rattle.cmd_args.specs.declared.refusal.Refusal.{Refusal}
use Rattle.cmd_args.specs.declared.refusal.Refusal.TheVariants.{Offset, TooLong, Overflow}
use Rattle.cmd_rows.specs.declared.times.Expiry.{Expiry}
use Rattle.cmd_rows.specs.Outcomes.{Outcome, answers, does, refused, with_found, then_found, ok, array, with_word}
use Rattle.cmd_rows.specs.Outcomes.{with_two_words, with_three_words}
use Rattle.cmd_rows.specs.Numbers.{number, is_within_64}
use Rattle.cmd_rows.specs.Times.{deadline, set_until}
use Rattle.cmd_rows.specs.Strings.{string_at, with_string, bulk_or_null, sets_in}
use Rattle.cmd_string.specs.Ranges.{part, written_over}
use Rattle.cmd_string.specs.Options.{set_options, set_effect, is_met, getex_change, change_effects}
use Rattle.cmd_args.specs.declared.commands.CmdId.TheVariants.{Strings}
use Rattle.cmd_args.specs.declared.commands.StringCmd.{StringCmd}
use Rattle.cmd_rows.specs.declared.times.Expiry.TheVariants.{InSeconds, InMillis}
use Rattle.cmd_rows.specs.Worlds.{World}
use Rattle.cmd_args.specs.declared.commands.StringCmd.TheVariants as command

-- GET key
abbrev pub get_row : Store → List ℕ → Outcome
get_row store key = with_string store key (λ text. answers (bulk_or_null text))

-- MGET key [key ...]: null for a key that holds no string
abbrev pub string_or_none : Store → List ℕ → Option (List ℕ)
string_or_none store key = result_unwrap_or (string_at store key) None

abbrev pub mget_row : Store → List (List ℕ) → Outcome
mget_row store keys = answers (array (map (λ key. bulk_or_null (string_or_none store key)) keys))

-- STRLEN key
abbrev pub strlen_row : Store → List ℕ → Outcome
strlen_row store key = with_string store key (λ text. answers (Int (pos (length (unwrap_or text [])))))

-- GETRANGE key start end
abbrev pub getrange_row : Store → List ℕ → List ℕ → List ℕ → Outcome
getrange_row store key start end =
    with_found (number start) (λ first. with_found (number end) (λ last.
    with_string store key (λ text. answers (Bulk (part (unwrap_or text []) first last)))))

-- the string at a key where GET stands, none where it does not
abbrev pub old_string : Store → List ℕ → Bool → Result (Option (List ℕ)) Refusal
old_string store key get = if get then string_at store key else Ok None

-- SET key value [NX|XX] [GET] [EX n|PX n|EXAT n|PXAT n|KEEPTTL]
abbrev pub set_row : Store → ℕ → List ℕ → List ℕ → List (List ℕ) → Outcome
set_row store now key value words =
    with_found (set_options words) (λ options.
    with_found (set_effect now key value options.lasting) (λ effect.
    with_found (old_string store key options.get) (λ old.
    if is_met options.condition (finite.contains_key store key)
    then does (if options.get then bulk_or_null old else ok) (effect ∷ [])
    else answers (bulk_or_null old))))

-- SETNX key value
abbrev pub setnx_row : Store → List ℕ → List ℕ → Outcome
setnx_row store key value = if finite.contains_key store key then answers (Int (pos 0)) else does (Int (pos 1))
    (Set key value ∷ [])

-- SETEX key seconds value, PSETEX key milliseconds value
abbrev pub setex_row : CmdId → Expiry → ℕ → List ℕ → List ℕ → List ℕ → Outcome
setex_row command kind now key time value =
    with_found (number time) (λ n. with_found (deadline command kind now n)
    (λ at. does ok (set_until key value now at ∷ [])))

-- GETSET key value
abbrev pub getset_row : Store → List ℕ → List ℕ → Outcome
getset_row store key value = with_string store key (λ old. does (bulk_or_null old) (Set key value ∷ []))

-- GETDEL key
abbrev pub getdel_row : Store → List ℕ → Outcome
getdel_row store key = with_string store key (λ old. does (bulk_or_null old) (Del key ∷ []))

-- GETEX key [EX n|PX n|EXAT n|PXAT n|PERSIST]
abbrev pub getex_row : Store → ℕ → List ℕ → List (List ℕ) → Outcome
getex_row store now key words =
    with_found (getex_change now words) (λ change.
    with_string store key (λ text. does (bulk_or_null text) (change_effects now key change)))

-- MSET key value [key value ...]
abbrev pub mset_row : List (List ℕ) → Outcome
mset_row words = does ok (sets_in words)

-- MSETNX key value [key value ...]: one key that is there is enough to set none
abbrev pub has_any : Store → List (List ℕ) → Bool
has_any store [] = false
has_any store (key ∷ []) = false
has_any store (key ∷ value ∷ pairs) = finite.contains_key store key || has_any store pairs

abbrev pub msetnx_row : Store → List (List ℕ) → Outcome
msetnx_row store words = if has_any store (drop 1 words) then answers (Int (pos 0)) else does (Int (pos 1))
    (sets_in words)

-- a string of a key is at most 16,777,216 bytes long
abbrev pub sized : List ℕ → Result (List ℕ) Refusal
sized text = if is_short text then Ok text else Err TooLong

-- a string in place of the one at a key, which keeps its deadline: its length
abbrev pub grown_row : List ℕ → List ℕ → Outcome
grown_row key text = with_found (sized text) (λ new. does (Int (pos (length new))) (SetKeeping key new ∷ []))

-- APPEND key value
abbrev pub append_row : Store → List ℕ → List ℕ → Outcome
append_row store key value = with_string store key (λ old. grown_row key (unwrap_or old [] ++ value))

-- SETRANGE key offset value: without a value nothing is written
abbrev pub range_row : List ℕ → List ℕ → ℤ → List ℕ → Outcome
range_row key old (negsuc offset) value = refused Offset
range_row key old (pos offset) [] = answers (Int (pos (length old)))
range_row key old (pos offset) (byte ∷ value) = grown_row key (written_over old offset (byte ∷ value))

abbrev pub setrange_row : Store → List ℕ → List ℕ → List ℕ → Outcome
setrange_row store key offset value =
    with_found (number offset) (λ at. with_string store key (λ old. range_row key (unwrap_or old []) at value))

-- an integer of 64 bits
abbrev pub fitting : ℤ → Result ℤ Refusal
fitting n = if is_within_64 n then Ok n else Err Overflow

-- the integer that the string at a key spells, 0 where the key is absent
abbrev pub integer_at : Store → List ℕ → Result ℤ Refusal
integer_at store key = then_found (string_at store key) (λ text. number (unwrap_or text (codes "0")))

-- an integer in place of the string at a key, which keeps its deadline
abbrev pub kept_row : List ℕ → ℤ → Outcome
kept_row key n = does (Int n) (SetKeeping key (integer_text n) ∷ [])

-- the integer at a key is changed
abbrev pub counted_row : Store → List ℕ → (ℤ → ℤ) → Outcome
counted_row store key change =
    with_found (integer_at store key) (λ n. with_found (fitting (change n)) (kept_row key))

-- INCR key adds 1, DECR key subtracts 1
abbrev pub add_row : Store → List ℕ → ℤ → Outcome
add_row store key increment = counted_row store key (λ n. n +ℤ increment)

abbrev pub subtract_row : Store → List ℕ → ℤ → Outcome
subtract_row store key decrement = counted_row store key (λ n. n -ℤ decrement)

-- INCRBY key increment, DECRBY key decrement
abbrev pub incrby_row : Store → List ℕ → List ℕ → Outcome
incrby_row store key word = with_found (number word) (add_row store key)

abbrev pub decrby_row : Store → List ℕ → List ℕ → Outcome
decrby_row store key word = with_found (number word) (subtract_row store key)

-- the command is one on strings
abbrev pub IsOfStrings : CmdId → Type 0
IsOfStrings (Strings id) = Unit {0}
IsOfStrings _ = ⊥

-- what a command on strings gives; a row is only given words that fit it
unfoldable pub string_row : World → StringCmd → List (List ℕ) → Outcome
string_row world command.Get words = with_word words (get_row world.store)
string_row world command.Set words =
    with_two_words words (λ key value. set_row world.store world.time key value (drop 3 words))
string_row world command.SetNx words = with_two_words words (setnx_row world.store)
string_row world command.SetEx words = with_three_words words (setex_row (Strings command.SetEx) InSeconds world.time)
string_row world command.PSetEx words = with_three_words words (setex_row (Strings command.PSetEx) InMillis world.time)
string_row world command.GetSet words = with_two_words words (getset_row world.store)
string_row world command.GetDel words = with_word words (getdel_row world.store)
string_row world command.GetEx words = with_word words (λ key. getex_row world.store world.time key (drop 2 words))
string_row world command.MGet words = mget_row world.store (drop 1 words)
string_row world command.MSet words = mset_row words
string_row world command.MSetNx words = msetnx_row world.store words
string_row world command.Append words = with_two_words words (append_row world.store)
string_row world command.StrLen words = with_word words (strlen_row world.store)
string_row world command.GetRange words = with_three_words words (getrange_row world.store)
string_row world command.SetRange words = with_three_words words (setrange_row world.store)
string_row world command.Incr words = with_word words (λ key. add_row world.store key (pos 1))
string_row world command.Decr words = with_word words (λ key. subtract_row world.store key (pos 1))
string_row world command.IncrBy words = with_two_words words (incrby_row world.store)
string_row world command.DecrBy words = with_two_words words (decrby_row world.store)
