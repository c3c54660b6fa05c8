-- A sequence of forms is read as those forms, whatever follows it.
use Rattle.std.proofs.Common.{◌≡◌, ℕ, suc, ◌+◌, ◌-◌, ◌/◌, ◌%◌, ◌^◌, ◌<◌, ◌≤◌, false, cond, eqb, Option, Some, None}
use Rattle.std.proofs.Common.{List, [], ◌∷◌, ◌++◌, length, refl, sym, ap, ◌∙◌, arith, append_assoc, append-nil}
use Rattle.std.specs.Prelude.{codes}
use Rattle.std.specs.Fmt.{decimal}
use Rattle.std.specs.List.{AllByRecursion, flat_map, sum_by}
use Rattle.std.proofs.lemmas.Bool.{cond-false}
use Rattle.std.proofs.lemmas.Bool.Decides.{nat_tests}
use Rattle.std.proofs.lemmas.Fmt.{decimal_by_steps}
use Rattle.std.proofs.lemmas.List.Sums.{sum_by-cons}
use Rattle.resp_read.specs.declared.command.TheConstants.{MAX_COMMAND_BYTES}
use Rattle.resp_read.specs.declared.phase.Line.{Line}
use Rattle.resp_read.specs.declared.phase.Line.TheVariants.{ForCount, ForNegative, ForWord}
use Rattle.resp_read.specs.declared.phase.Phase.{Phase}
use Rattle.resp_read.specs.declared.phase.Phase.TheVariants.{InLine, LineEnd, AtDollar, InWord, WordCr, WordLf}
use Rattle.resp_read.specs.declared.parser.Parser.{Parser}
use Rattle.resp_read.specs.Frames.{count_line, bulk, form_text, sequence_text, Form, Given, EmptyArray, NegativeArray}
use Rattle.resp_read.specs.Frames.{IsForm, IsWord, IsFront}
use Rattle.resp_read.specs.Automaton.{limit, first_in_line, more_in_line, line_ended, phase_after, fresh, kept}
use Rattle.resp_read.specs.Automaton.{is_dead, kind_in}
use Rattle.resp_read.specs.Reading.{Broken, read_from}

-- a state by its parts
abbrev pub state_of : Phase → List (List ℕ) → List ℕ → ℕ → Parser
state_of phase words word room = record { phase = phase; words = words; word = word; room = room }

-- a byte behind which only the phase differs
in_line-step : (line : Line) (number : Option ℕ) (ws : List (List ℕ)) (w : List ℕ) (r b : ℕ) (fs : List Form)
    (rest : List ℕ) (q : Phase)
    → phase_after r (InLine line number) b ≡ q → is_dead q ≡ false
    → read_from (state_of (InLine line number) ws w r) fs (b ∷ rest) ≡ read_from (state_of q ws w r) fs rest
in_line-step line number ws w r b fs rest q e live =
    let broken = Broken fs (length (sequence_text fs) + length (kept (state_of (InLine line number) ws w r)))
    (kind_in (InLine line number)) in
    let read_at = λ (p : Phase). cond (is_dead p) broken (read_from (state_of p ws w r) fs rest) in
    ap read_at e ∙ cond-false (is_dead q) broken (read_from (state_of q ws w r) fs rest) live

-- a negative array has no number 0
abbrev pub MayBegin : Line → ℕ → Type 0
MayBegin ForCount n = Unit {0}
MayBegin ForNegative n = 1 ≤ n
MayBegin (ForWord behind) n = Unit {0}

first-digit : (r : ℕ) (line : Line) (n : ℕ) → n < 10 → n ≤ limit r line → MayBegin line n
    → first_in_line r line (48 + n) ≡ InLine line (Some n)
first-digit r ForCount n small fits may = grind (arith, nat_tests)
first-digit r ForNegative n small fits may = grind (arith, nat_tests)
first-digit r (ForWord behind) n small fits may = grind (arith, nat_tests)

next-digit : (r : ℕ) (line : Line) (n : ℕ) → 10 ≤ n → n ≤ limit r line
    → more_in_line r line (n / 10) (48 + n % 10) ≡ InLine line (Some n)
next-digit r line n large fits = grind (arith, nat_tests)

pub limit-small : (r : ℕ) (line : Line) (n : ℕ) → n ≤ limit r line → n < 2 ^ 64
limit-small r ForCount n fits = omega arith
limit-small r ForNegative n fits = omega arith
limit-small r (ForWord behind) n fits = omega arith

may-begin : (line : Line) (n : ℕ) → 0 < n → MayBegin line n
may-begin ForCount n some = tt
may-begin ForNegative n some = omega arith
may-begin (ForWord behind) n some = tt

pub read-digits : (line : Line) (ws : List (List ℕ)) (w : List ℕ) (r n : ℕ) (fs : List Form) (rest : List ℕ)
    → n ≤ limit r line → MayBegin line n
    → read_from (state_of (InLine line None) ws w r) fs (decimal n ++ rest)
    ≡ read_from (state_of (InLine line (Some n)) ws w r) fs rest
read-digits line ws w r n fs rest fits may = decimal_by_steps Reads one more n (limit-small r line n fits) fits may rest
  where
    Reads : ℕ → List ℕ → Type 0
    Reads m ds = m ≤ limit r line → MayBegin line m → (after : List ℕ)
        → read_from (state_of (InLine line None) ws w r) fs (ds ++ after)
        ≡ read_from (state_of (InLine line (Some m)) ws w r) fs after

    one : (m : ℕ) → m < 10 → Reads m ((48 + m) ∷ [])
    one m small fit mayb after =
        in_line-step line None ws w r (48 + m) fs after (InLine line (Some m)) (first-digit r line m small fit mayb)
        refl

    more : (m : ℕ) (ds : List ℕ) → 10 ≤ m → Reads (m / 10) ds → Reads m (ds ++ ((48 + m % 10) ∷ []))
    more m ds large front fit mayb after =
        let less : m / 10 ≤ limit r line = omega (arith, fit) in
        ap (λ text. read_from (state_of (InLine line None) ws w r) fs text) (append_assoc ds ((48 + m % 10) ∷ []) after)
        ∙ front less (may-begin line (m / 10) (omega arith)) ((48 + m % 10) ∷ after)
        ∙ in_line-step line (Some (m / 10)) ws w r (48 + m % 10) fs after (InLine line (Some m))
        (next-digit r line m large fit) refl

-- the CR of a line
line-cr : (line : Line) (ws : List (List ℕ)) (w : List ℕ) (r n : ℕ) (fs : List Form) (rest : List ℕ)
    → read_from (state_of (InLine line (Some n)) ws w r) fs (13 ∷ rest)
    ≡ read_from (state_of (LineEnd line n) ws w r) fs rest
line-cr line ws w r n fs rest = refl

-- a line from its number on, without its LF
read-number : (line : Line) (ws : List (List ℕ)) (w : List ℕ) (r n : ℕ) (fs : List Form) (rest : List ℕ)
    → n ≤ limit r line → MayBegin line n
    → read_from (state_of (InLine line None) ws w r) fs ((decimal n ++ 13 ∷ 10 ∷ []) ++ rest)
    ≡ read_from (state_of (LineEnd line n) ws w r) fs (10 ∷ rest)
read-number line ws w r n fs rest fits may =
    ap (λ text. read_from (state_of (InLine line None) ws w r) fs text) (append_assoc (decimal n) (13 ∷ 10 ∷ []) rest)
    ∙ read-digits line ws w r n fs (13 ∷ 10 ∷ rest) fits may

-- a byte of a word behind which `more` come
in_word-step : (behind more : ℕ) (ws : List (List ℕ)) (w : List ℕ) (r b : ℕ) (fs : List Form) (rest : List ℕ)
    (q : Phase)
    → phase_after r (InWord behind more) b ≡ q → is_dead q ≡ false
    → read_from (state_of (InWord behind more) ws w r) fs (b ∷ rest) ≡ read_from (state_of q ws (w ++ b ∷ []) r) fs rest
in_word-step behind more ws w r b fs rest q e live =
    let broken = Broken fs (length (sequence_text fs) + length (kept (state_of (InWord behind more) ws w r)))
    (kind_in (InWord behind more)) in
    let read_at = λ (p : Phase). cond (is_dead p) broken (read_from (state_of p ws (w ++ b ∷ []) r) fs rest) in
    ap read_at e ∙ cond-false (is_dead q) broken (read_from (state_of q ws (w ++ b ∷ []) r) fs rest) live

more-bytes : (behind r more b : ℕ) → phase_after r (InWord behind (suc more)) b ≡ InWord behind more
more-bytes behind r more b = grind (arith, nat_tests)

-- the bytes of a word
read-bytes : (behind : ℕ) (ws : List (List ℕ)) (w : List ℕ) (r b : ℕ) (bytes : List ℕ) (fs : List Form) (rest : List ℕ)
    → read_from (state_of (InWord behind (length bytes)) ws w r) fs ((b ∷ bytes) ++ rest)
    ≡ read_from (state_of (WordCr behind) ws (w ++ b ∷ bytes) r) fs rest
read-bytes behind ws w r b [] fs rest = refl
read-bytes behind ws w r b (c ∷ bytes) fs rest =
    in_word-step behind (suc (length bytes)) ws w r b fs ((c ∷ bytes) ++ rest) (InWord behind (length bytes))
    (more-bytes behind r (length bytes) b) refl
    ∙ read-bytes behind ws (w ++ b ∷ []) r c bytes fs rest
    ∙ ap (λ x. read_from (state_of (WordCr behind) ws x r) fs rest) (append_assoc w (b ∷ []) (c ∷ bytes))

-- the LF of a line behind which the bytes of a word come
word_begins : (behind n : ℕ) (ws : List (List ℕ)) (w : List ℕ) (r : ℕ) (fs : List Form) (rest : List ℕ)
    → read_from (state_of (LineEnd (ForWord behind) (suc n)) ws w r) fs (10 ∷ rest)
    ≡ read_from (state_of (InWord behind n) ws w r) fs rest
word_begins behind n ws w r fs rest =
    let broken = Broken fs (length (sequence_text fs) + length
    (kept (state_of (LineEnd (ForWord behind) (suc n)) ws w r))) (kind_in (LineEnd (ForWord behind) (suc n))) in
    let read_at = λ (p : Phase). cond (is_dead p) broken (read_from (state_of p ws w r) fs rest) in
    ap read_at (begins behind n)
  where
    begins : (after m : ℕ) → line_ended (ForWord after) (suc m) ≡ InWord after m
    begins after m = grind (arith, nat_tests)

-- the LF of a line behind which words come
words_begin : (n : ℕ) (ws : List (List ℕ)) (w : List ℕ) (r : ℕ) (fs : List Form) (rest : List ℕ)
    → read_from (state_of (LineEnd ForCount (suc n)) ws w r) fs (10 ∷ rest)
    ≡ read_from (state_of (AtDollar n) ws w r) fs rest
words_begin n ws w r fs rest = let some : eqb (suc n) 0 ≡ false = grind (arith, nat_tests) in
    let less : suc n - 1 ≡ n = omega arith in rw (some, less)

-- the LF of a word behind which another one comes
next_word : (n : ℕ) (ws : List (List ℕ)) (w : List ℕ) (r : ℕ) (fs : List Form) (rest : List ℕ)
    → read_from (state_of (WordLf (suc n)) ws w r) fs (10 ∷ rest)
    ≡ read_from (state_of (AtDollar n) (ws ++ w ∷ []) [] (r - length w)) fs rest
next_word n ws w r fs rest = let some : eqb (suc n) 0 ≡ false = grind (arith, nat_tests) in
    let less : suc n - 1 ≡ n = omega arith in rw (some, less)

-- the length and the bytes of a word
pub read-word_bytes : (behind : ℕ) (ws : List (List ℕ)) (r : ℕ) (word : List ℕ) (fs : List Form) (rest : List ℕ)
    → IsWord word → length word ≤ r
    → read_from (state_of (AtDollar behind) ws [] r) fs (count_line (codes "$") (length word) ++ (word ++ rest))
    ≡ read_from (state_of (WordCr behind) ws word r) fs rest
read-word_bytes behind ws r word fs rest short fits =
    read-number (ForWord behind) ws [] r (length word) fs (word ++ rest) (omega arith) tt ∙ by_bytes word
  where
    by_bytes : (bytes : List ℕ) → read_from (state_of (LineEnd (ForWord behind) (length bytes)) ws [] r) fs
        (10 ∷ (bytes ++ rest)) ≡ read_from (state_of (WordCr behind) ws bytes r) fs rest
    by_bytes [] = refl
    by_bytes (b ∷ bytes) =
        word_begins behind (length bytes) ws [] r fs ((b ∷ bytes) ++ rest) ∙ read-bytes behind ws [] r b bytes fs rest

regroup : (a b c d : List ℕ) → ((a ++ b) ++ c) ++ d ≡ a ++ (b ++ (c ++ d))
regroup a b c d = simp append_assoc

-- the length, the bytes and the CR of a word
read-word : (behind : ℕ) (ws : List (List ℕ)) (r : ℕ) (word : List ℕ) (fs : List Form) (rest : List ℕ) → IsWord word
    → length word ≤ r
    → read_from (state_of (AtDollar behind) ws [] r) fs (bulk word ++ rest)
    ≡ read_from (state_of (WordLf behind) ws word r) fs (10 ∷ rest)
read-word behind ws r word fs rest short fits =
    ap (λ text. read_from (state_of (AtDollar behind) ws [] r) fs text)
    (regroup (count_line (codes "$") (length word)) word (13 ∷ 10 ∷ []) rest)
    ∙ read-word_bytes behind ws r word fs (13 ∷ 10 ∷ rest) short fits

-- the words of a command, one or more of which are still to come
read-words : (word : List ℕ) (more ws : List (List ℕ)) (r : ℕ) (fs : List Form) (rest : List ℕ)
    → AllByRecursion IsWord (word ∷ more) → sum_by length (word ∷ more) ≤ r
    → read_from (state_of (AtDollar (length more)) ws [] r) fs (flat_map bulk (word ∷ more) ++ rest)
    ≡ read_from fresh (fs ++ Given (ws ++ word ∷ more) ∷ []) rest
read-words word [] ws r fs rest each fits =
    ap (λ text. read_from (state_of (AtDollar 0) ws [] r) fs text) (append_assoc (bulk word) [] rest)
    ∙ read-word 0 ws r word fs rest each.0 (omega (arith, sum_by-cons length word []))
read-words word (second ∷ more) ws r fs rest each fits =
    ap (λ text. read_from (state_of (AtDollar (suc (length more))) ws [] r) fs text)
    (append_assoc (bulk word) (flat_map bulk (second ∷ more)) rest)
    ∙ read-word (suc (length more)) ws r word fs (flat_map bulk (second ∷ more) ++ rest) each.0
    (omega (arith, sum_by-cons length word (second ∷ more)))
    ∙ next_word (length more) ws word r fs (flat_map bulk (second ∷ more) ++ rest)
    ∙ read-words second more (ws ++ word ∷ []) (r - length word) fs rest each.1
    (omega (arith, sum_by-cons length word (second ∷ more)))
    ∙ ap (λ words. read_from fresh (fs ++ Given words ∷ []) rest) (append_assoc ws (word ∷ []) (second ∷ more))

-- words behind which `left` and one more come
read-first_words : (words ws : List (List ℕ)) (left r : ℕ) (fs : List Form) (rest : List ℕ)
    → AllByRecursion IsWord words → sum_by length words ≤ r
    → read_from (state_of (AtDollar (length words + left)) ws [] r) fs (flat_map bulk words ++ rest)
    ≡ read_from (state_of (AtDollar left) (ws ++ words) [] (r - sum_by length words)) fs rest
read-first_words [] ws left r fs rest each fits =
    let none : 0 + left ≡ left = omega arith in
    let all : r ≡ r - 0 = omega arith in
    ap (λ n. read_from (state_of (AtDollar n) ws [] r) fs rest) none
    ∙ ap (λ n. read_from (state_of (AtDollar left) ws [] n) fs rest) all
    ∙ ap (λ v. read_from (state_of (AtDollar left) v [] (r - 0)) fs rest) (sym (append-nil ws))
read-first_words (word ∷ more) ws left r fs rest each fits =
    let first : suc (length more) + left ≡ suc (length more + left) = omega arith in
    let sum : sum_by length (word ∷ more) ≡ length word + sum_by length more = sum_by-cons length word more in
    let room : r - length word - sum_by length more ≡ r - sum_by length (word ∷ more) = omega (arith, sum) in
    ap (λ n. read_from (state_of (AtDollar n) ws [] r) fs ((bulk word ++ flat_map bulk more) ++ rest)) first
    ∙ ap (λ text. read_from (state_of (AtDollar (suc (length more + left))) ws [] r) fs text)
    (append_assoc (bulk word) (flat_map bulk more) rest)
    ∙ read-word (suc (length more + left)) ws r word fs (flat_map bulk more ++ rest) each.0 (omega (arith, sum))
    ∙ next_word (length more + left) ws word r fs (flat_map bulk more ++ rest)
    ∙ read-first_words more (ws ++ word ∷ []) left (r - length word) fs rest each.1 (omega (arith, sum))
    ∙ ap (λ v. read_from (state_of (AtDollar left) v [] (r - length word - sum_by length more)) fs rest)
    (append_assoc ws (word ∷ []) more)
    ∙ ap (λ n. read_from (state_of (AtDollar left) (ws ++ word ∷ more) [] n) fs rest) room

-- the front of a command: its line, and words, fewer than it says
pub read-front : (front : List ℕ) (count : ℕ) (words : List (List ℕ)) (fs : List Form) (rest : List ℕ)
    → IsFront front count words
    → read_from fresh fs (front ++ rest)
    ≡ read_from (state_of (AtDollar (count - length words - 1)) words [] (MAX_COMMAND_BYTES - sum_by length words)) fs
    rest
read-front front count words fs rest is =
    let few = is.few in
    let more = is.more in
    let some : suc (count - 1) ≡ count = omega arith in
    let split : count - 1 ≡ length words + (count - length words - 1) = omega arith in
    ap (λ text. read_from fresh fs (text ++ rest)) is.front_is
    ∙ ap (read_from fresh fs) (append_assoc (count_line (codes "*") count) (flat_map bulk words) rest)
    ∙ read-number ForCount [] [] MAX_COMMAND_BYTES count fs (flat_map bulk words ++ rest) few tt
    ∙ ap (λ n. read_from (state_of (LineEnd ForCount n) [] [] MAX_COMMAND_BYTES) fs
    (10 ∷ (flat_map bulk words ++ rest))) (sym some)
    ∙ words_begin (count - 1) [] [] MAX_COMMAND_BYTES fs (flat_map bulk words ++ rest)
    ∙ ap (λ n. read_from (state_of (AtDollar n) [] [] MAX_COMMAND_BYTES) fs (flat_map bulk words ++ rest)) split
    ∙ read-first_words words [] (count - length words - 1) MAX_COMMAND_BYTES fs rest is.each is.all

read-form : (form : Form) (fs : List Form) (rest : List ℕ) → IsForm form
    → read_from fresh fs (form_text form ++ rest) ≡ read_from fresh (fs ++ form ∷ []) rest
read-form (Given []) fs rest is = let some = is.some in absurd (omega arith)
read-form (Given (word ∷ more)) fs rest is =
    ap (λ text. read_from fresh fs text)
    (append_assoc (count_line (codes "*") (suc (length more))) (flat_map bulk (word ∷ more)) rest)
    ∙ read-number ForCount [] [] MAX_COMMAND_BYTES (suc (length more)) fs (flat_map bulk (word ∷ more) ++ rest) is.few
    tt
    ∙ words_begin (length more) [] [] MAX_COMMAND_BYTES fs (flat_map bulk (word ∷ more) ++ rest)
    ∙ read-words word more [] MAX_COMMAND_BYTES fs rest is.each is.all
read-form EmptyArray fs rest is = read-number ForCount [] [] MAX_COMMAND_BYTES 0 fs rest (omega arith) tt
read-form (NegativeArray n) fs rest is = read-number ForNegative [] [] MAX_COMMAND_BYTES n fs rest is.1 is.0

-- the forms of a sequence
pub read-sequence : (forms fs : List Form) (rest : List ℕ) → AllByRecursion IsForm forms
    → read_from fresh fs (sequence_text forms ++ rest) ≡ read_from fresh (fs ++ forms) rest
read-sequence [] fs rest each = ap (λ before. read_from fresh before rest) (sym (append-nil fs))
read-sequence (form ∷ forms) fs rest each =
    ap (λ text. read_from fresh fs text) (append_assoc (form_text form) (sequence_text forms) rest)
    ∙ read-form form fs (sequence_text forms ++ rest) each.0
    ∙ read-sequence forms (fs ++ form ∷ []) rest each.1
    ∙ ap (λ before. read_from fresh before rest) (append_assoc fs (form ∷ []) forms)
