-- For which reasons single words, and what a store holds, are refused.
use Rattle.std.proofs.Common.{◌≡◌, ℕ, zero, suc, ◌^◌, Bool, true, false, cond, List, Option, Some, None, Result, Ok, Err}
use Rattle.std.proofs.Common.{refl, subst}
use Rattle.std.specs.Prelude.{ℤ, pos, negsuc, nat_lt, bytes_eq, ◌&&◌}
use Rattle.std.specs.Option.{ok_or}
use Rattle.std.specs.FinMap as finite
use Rattle.std.proofs.lemmas.Bool.{ltb-true}
use Rattle.rs_whole.specs.Integers.{integer_text}
use Rattle.ks_space.specs.declared.entry.Entry.{Entry}
use Rattle.ks_space.specs.declared.entry.Value.{Value}
use Rattle.ks_space.specs.declared.entry.Value.TheVariants as value
use Rattle.ks_space.specs.Store.{Store, IsDeadline}
use Rattle.cmd_args.specs.declared.commands.CmdId.{CmdId}
use Rattle.cmd_args.specs.declared.refusal.Refusal.{Refusal}
use Rattle.cmd_args.specs.declared.refusal.Refusal.TheVariants.{NotInteger, ExpireTime, WrongType, Overflow, Offset}
use Rattle.cmd_args.specs.declared.refusal.Refusal.TheVariants.{TooLong, NoSuchKey, DbIndex}
use Rattle.cmd_rows.specs.declared.times.Expiry.{Expiry}
use Rattle.cmd_rows.specs.Outcomes.{then_found}
use Rattle.cmd_rows.specs.Numbers.{number, read_digits, is_within_64}
use Rattle.cmd_rows.specs.Strings.{string_of, string_in, string_at}
use Rattle.cmd_rows.specs.Times.{moment, deadline_in, deadline, expire_time}
use Rattle.cmd_rows.proofs.Faults.{IsNoSyntax, no_syntax}

-- R is so of each reason but an error in the syntax
pub record Reasons (R : Refusal → Type 0) : Type 0 where
  pub integer : R NotInteger
  pub expire : (id : CmdId) → R (ExpireTime id)
  pub kind : R WrongType
  pub overflow : R Overflow
  pub offset : R Offset
  pub long : R TooLong
  pub absent : R NoSuchKey
  pub index : R DbIndex

-- whatever the reason is
abbrev pub Any : Refusal → Type 0
Any why = Unit {0}

pub any_reason : Reasons Any
any_reason = record {
  integer = tt;
  expire = λ id. tt;
  kind = tt;
  overflow = tt;
  offset = tt;
  long = tt;
  absent = tt;
  index = tt;
}

pub other_reasons : Reasons IsNoSyntax
other_reasons = record {
  integer = no_syntax NotInteger refl;
  expire = λ id. no_syntax (ExpireTime id) refl;
  kind = no_syntax WrongType refl;
  overflow = no_syntax Overflow refl;
  offset = no_syntax Offset refl;
  long = no_syntax TooLong refl;
  absent = no_syntax NoSuchKey refl;
  index = no_syntax DbIndex refl;
}

-- what was found behind something else
pub found_behind : {X Y : Type 0} (found : Result X Refusal) (next : X → Result Y Refusal) (y : Y)
    → then_found found next ≡ Ok y → (x : X) × (found ≡ Ok x) × (next x ≡ Ok y)
found_behind (Ok x) next y e = (x, refl, e)
found_behind (Err why) next y e = absurd (cc)

-- a test that was passed
pub found_test : {X : Type 0} (b : Bool) (x y : X) (why : Refusal) → cond b (Ok x) (Err why) ≡ Ok y → (b ≡ true)
    × (x ≡ y)
found_test true x y why e = (refl, cc)
found_test false x y why e = absurd (cc)

-- a deadline that is not refused is within its limits
deadline_in-within : (id : CmdId) (n at : ℤ) (d : ℕ) → deadline_in id n at ≡ Ok d → IsDeadline d
deadline_in-within id (pos (suc n)) (pos at) d e =
    let found = found_test (nat_lt at (2 ^ 63)) at d _ e in
    subst IsDeadline found.1 (ltb-true at (2 ^ 63) found.0)
deadline_in-within id (pos (suc n)) (negsuc at) d e = absurd (cc)
deadline_in-within id (pos zero) at d e = absurd (cc)
deadline_in-within id (negsuc n) at d e = absurd (cc)

pub deadline-within : (id : CmdId) (kind : Expiry) (now : ℕ) (n : ℤ) (d : ℕ) → deadline id kind now n ≡ Ok d
    → IsDeadline d
deadline-within id kind now n d e = deadline_in-within id n (moment kind now n) d e

module _ (R : Refusal → Type 0) where
  -- a test that refuses for one reason
  pub test-err : {X : Type 0} (b : Bool) (x : X) (reason why : Refusal) → R reason
      → cond b (Ok x) (Err reason) ≡ Err why → R why
  test-err true x reason why is e = absurd (cc)
  test-err false x reason why is e = let same : reason ≡ why = cc in subst R same is

  -- what is found behind something else
  pub then-err : {X Y : Type 0} (found : Result X Refusal) (next : X → Result Y Refusal) (why : Refusal)
      → ((why : Refusal) → found ≡ Err why → R why)
      → ((x : X) (why : Refusal) → next x ≡ Err why → R why) → then_found found next ≡ Err why → R why
  then-err (Ok x) next why one other e = other x why e
  then-err (Err reason) next why one other e = let same : reason ≡ why = cc in subst R same (one reason refl)

  module _ (reasons : Reasons R) where
    pub number-err : (word : List ℕ) (why : Refusal) → number word ≡ Err why → R why
    number-err word why e = test-err
        (bytes_eq word (integer_text (read_digits word)) && is_within_64 (read_digits word)) (read_digits word)
        NotInteger why reasons.integer e

    pub read-err : (read : Option ℤ) (why : Refusal) → ok_or read NotInteger ≡ Err why → R why
    read-err (Some n) why e = absurd (cc)
    read-err None why e = let same : NotInteger ≡ why = cc in subst R same reasons.integer

    deadline_in-err : (id : CmdId) (n at : ℤ) (why : Refusal) → deadline_in id n at ≡ Err why → R why
    deadline_in-err id (pos (suc n)) (pos at) why e =
        test-err (nat_lt at (2 ^ 63)) at (ExpireTime id) why (reasons.expire id) e
    deadline_in-err id (pos (suc n)) (negsuc at) why e =
        let same : ExpireTime id ≡ why = cc in subst R same (reasons.expire id)
    deadline_in-err id (pos zero) at why e =
        let same : ExpireTime id ≡ why = cc in subst R same (reasons.expire id)
    deadline_in-err id (negsuc n) at why e =
        let same : ExpireTime id ≡ why = cc in subst R same (reasons.expire id)

    pub deadline-err : (id : CmdId) (kind : Expiry) (now : ℕ) (n : ℤ) (why : Refusal)
        → deadline id kind now n ≡ Err why → R why
    deadline-err id kind now n why e = deadline_in-err id n (moment kind now n) why e

    pub expire_time-err : (id : CmdId) (kind : Expiry) (now : ℕ) (n : ℤ) (why : Refusal)
        → expire_time id kind now n ≡ Err why → R why
    expire_time-err id kind now n why e =
        test-err (is_within_64 (moment kind now n)) (moment kind now n) (ExpireTime id) why (reasons.expire id) e

    pub string_at-err : (store : Store) (key : List ℕ) (why : Refusal) → string_at store key ≡ Err why → R why
    string_at-err store key why e = by_entry (finite.get store key) e
      where
        by_kind : (v : Value) → string_of v ≡ Err why → R why
        by_kind (value.Str text) e = absurd (cc)
        by_kind _ e = let same : WrongType ≡ why = cc in subst R same reasons.kind

        by_entry : (found : Option Entry) → string_in found ≡ Err why → R why
        by_entry None e = absurd (cc)
        by_entry (Some entry) e = by_kind entry.value e
