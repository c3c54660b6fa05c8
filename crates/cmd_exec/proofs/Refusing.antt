-- What is known of words that are not refused.
use Rattle.std.proofs.Common.{◌≡◌, ℕ, nat_le, Bool, true, false, not, cond, ◌&&◌, List, [], ◌∷◌, Some, None, length}
use Rattle.std.proofs.Common.{sum_by, refl}
use Rattle.std.specs.List.{AllByRecursion, list_all}
use Rattle.std.proofs.lemmas.Bool.{leb-true}
use Rattle.ks_space.specs.Store.{IsShort}
use Rattle.fx_record.specs.RecordWords.{is_short, are_within_limits}
use Rattle.cmd_args.specs.declared.commands.Row.{Row}
use Rattle.cmd_args.specs.declared.refusal.Refusal.{Refusal}
use Rattle.cmd_args.specs.declared.turn.Mode.{Mode}
use Rattle.cmd_args.specs.Table.{fits}
use Rattle.cmd_args.specs.declared.refusal.Refusal.TheVariants.{WordCount, NotInScript, ReadOnlyScript, TooLarge}
use Rattle.cmd_exec.specs.Exec.{is_barred, may_only_read, reason}

both : (a b : Bool) → (a && b) ≡ true → (a ≡ true) × (b ≡ true)
both true b e = (refl, e)
both false b e = absurd (cc)

none_of : (fit barred reads within : Bool) (a b c d : Refusal)
    → cond (not fit) (Some a) (cond barred (Some b) (cond reads (Some c) (cond (not within) (Some d) None))) ≡ None
    → within ≡ true
none_of false barred reads within a b c d e = absurd (cc)
none_of true true reads within a b c d e = absurd (cc)
none_of true false true within a b c d e = absurd (cc)
none_of true false false false a b c d e = absurd (cc)
none_of true false false true a b c d e = refl

short : (word : List ℕ) → is_short word ≡ true → IsShort word
short word e = leb-true (length word) 16777216 e

all_short : (words : List (List ℕ)) → list_all is_short words ≡ true → AllByRecursion IsShort words
all_short [] e = tt
all_short (word ∷ words) e = let each = both (is_short word) (list_all is_short words) e in
    (short word each.0, all_short words each.1)

-- words that are not refused are short
pub words_short : (mode : Mode) (row : Row) (words : List (List ℕ)) → reason mode row words ≡ None
    → AllByRecursion IsShort words
words_short mode row words e =
    let within = none_of (fits row words) (is_barred mode row) (may_only_read mode && row.writes)
    (are_within_limits words) (WordCount row.id) NotInScript ReadOnlyScript TooLarge e in
    let sized = both (nat_le (length words) 65536)
    (list_all is_short words && nat_le (sum_by length words) 67108864) within in
    let each = both (list_all is_short words) (nat_le (sum_by length words) 67108864) sized.1 in
    all_short words each.0
