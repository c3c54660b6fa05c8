-- Reading a source piece by piece.
use Rattle.std.proofs.Common.{◌≡◌, ℕ, ◌≤◌, List, [], ◌++◌, Option, Some, None, length, refl, sym, ap, ◌∙◌, arith}
use Rattle.std.proofs.Common.{append_assoc, append-nil, length-append}
use Rattle.rs_outside.specs.Known.{items_then, NoneLeft}
use Rattle.rs_outside.specs.declared.status.Status.{Status}
use Rattle.rs_outside.specs.declared.status.Status.TheVariants.{Done, Usage, BadInput, BadLog, SourceFault, SinkFault}
use Rattle.rs_outside.specs.declared.status.Status.TheVariants.{LogFault, WireFault, TurnsSpent, NoMemory}
use Rattle.rs_outside.specs.declared.status.Status.TheVariants.{InputTooLong}
use Rattle.redscript.specs.Input.{StopsReading, StopsPiece}

pub items_then-items_then : (xs ys : List ℕ) (known : Option (List ℕ))
    → items_then xs (items_then ys known) ≡ items_then (xs ++ ys) known
items_then-items_then xs ys None = refl
items_then-items_then xs ys (Some zs) = ap Some (sym (append_assoc xs ys zs))

pub items_then-nil : (known : Option (List ℕ)) → items_then [] known ≡ known
items_then-nil None = refl
items_then-nil (Some zs) = refl

-- a piece more was read
pub read_more : (input input' input'' : Option (List ℕ)) (text text' piece : List ℕ) → input ≡ items_then text input'
    → text' ≡ text ++ piece → input' ≡ items_then piece input'' → input ≡ items_then text' input''
read_more input input' input'' text text' piece read more next = read ∙ ap (items_then text) next
    ∙ items_then-items_then text piece input'' ∙ ap (λ t. items_then t input'') (sym more)

-- a text that is told, and was read until nothing is left, is what was read
pub whole_text : (text read : List ℕ) (rest : Option (List ℕ)) → Some text ≡ items_then read rest → NoneLeft rest
    → read ≡ text
whole_text text read None e none = absurd (cc)
whole_text text read (Some zs) e none =
    let same : text ≡ read ++ zs = cc in sym (same ∙ ap (λ t. read ++ t) none ∙ append-nil read)

-- what was read of a text that is told is no longer than the text
pub no_longer : (text read : List ℕ) (rest : Option (List ℕ)) → Some text ≡ items_then read rest
    → length read ≤ length text
no_longer text read None e = absurd (cc)
no_longer text read (Some zs) e = let same : text ≡ read ++ zs = cc in let n = ap length same in
    omega (arith, length-append read zs)

-- a piece that could not be read stops the reading
pub StopsReading-from_piece : (input input' : Option (List ℕ)) (rose rose' : Type 0) (status : Status)
    → (rose → rose') → StopsPiece rose status → StopsReading input input' rose' status
StopsReading-from_piece input input' rose rose' Done weaker h = h
StopsReading-from_piece input input' rose rose' Usage weaker h = h
StopsReading-from_piece input input' rose rose' (BadInput line) weaker h = h
StopsReading-from_piece input input' rose rose' (BadLog place) weaker h = h
StopsReading-from_piece input input' rose rose' SourceFault weaker h = weaker h
StopsReading-from_piece input input' rose rose' SinkFault weaker h = h
StopsReading-from_piece input input' rose rose' LogFault weaker h = h
StopsReading-from_piece input input' rose rose' WireFault weaker h = h
StopsReading-from_piece input input' rose rose' (TurnsSpent turns) weaker h = h
StopsReading-from_piece input input' rose rose' NoMemory weaker h = h
StopsReading-from_piece input input' rose rose' (InputTooLong bytes) weaker h = absurd h
