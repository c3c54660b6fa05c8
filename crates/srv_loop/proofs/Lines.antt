-- The parts of a session line.
use Rattle.std.proofs.Common.{◌≡◌, ◌≢◌, ℕ, ◌/◌, ◌%◌, Bool, true, false, cond, ◌==◌, List, [], ◌∷◌, ◌++◌, refl, sym}
use Rattle.std.proofs.Common.{ap, ◌∙◌, arith, append_assoc, codes, decimal}
use Rattle.std.specs.List.{AllByRecursion, flat_map}
use Rattle.std.proofs.lemmas.Bool.Decides.{nat_tests}
use Rattle.std.proofs.lemmas.Fmt.{decimal_digit}
use Rattle.rs_base.specs.Escape.{is_plain, hex_digit, spelling_of_byte, spelling}
use Rattle.rs_outside.specs.declared.turn.Turn.{Turn}
use Rattle.rs_outside.specs.declared.turn.What.{What}
use Rattle.rs_outside.specs.declared.turn.What.TheVariants.{Opened, Piece}
use Rattle.srv_loop.specs.declared.session.Head.{Head}
use Rattle.srv_loop.specs.Session.{turn_line, what_text, head_text}

abbrev pub NoLf : List ℕ → Type 0
NoLf text = AllByRecursion (λ b. b ≢ 10) text

by_test : (P : List ℕ → Type 0) (t : Bool) (x y : List ℕ) → (t ≡ true → P x) → (t ≡ false → P y) → P (cond t x y)
by_test P true x y yes_x no_y = yes_x refl
by_test P false x y yes_x no_y = no_y refl

hex_no_lf : (n : ℕ) → hex_digit n ≢ 10
hex_no_lf n e = grind (arith, nat_tests)

plain_no_lf : (b : ℕ) → is_plain b ≡ true → b ≢ 10
plain_no_lf b plain e = grind (arith, nat_tests)

no_lf_byte : (b : ℕ) → NoLf (spelling_of_byte b)
no_lf_byte b =
    by_test NoLf (b == 92) _ _ (λ _. ((λ e. omega arith), ((λ e. omega arith), tt))) (λ _.
    by_test NoLf (b == 32) _ _ (λ _. ((λ e. omega arith), ((λ e. omega arith), tt))) (λ _.
    by_test NoLf (b == 13) _ _ (λ _. ((λ e. omega arith), ((λ e. omega arith), tt))) (λ _.
    by_test NoLf (b == 10) _ _ (λ _. ((λ e. omega arith), ((λ e. omega arith), tt))) (λ _.
    by_test NoLf (is_plain b) _ _ (λ plain. (plain_no_lf b plain, tt)) (λ _.
    ((λ e. omega arith), ((λ e. omega arith), (hex_no_lf (b / 16), (hex_no_lf (b % 16), tt)))))))))

no_lf-append : (xs ys : List ℕ) → NoLf xs → NoLf ys → NoLf (xs ++ ys)
no_lf-append [] ys first second = second
no_lf-append (x ∷ xs) ys first second = (first.0, no_lf-append xs ys first.1 second)

no_lf_bytes : (bytes : List ℕ) → NoLf (flat_map spelling_of_byte bytes)
no_lf_bytes [] = tt
no_lf_bytes (b ∷ bytes) = no_lf-append (spelling_of_byte b) (flat_map spelling_of_byte bytes) (no_lf_byte b)
    (no_lf_bytes bytes)

-- a spelling stands on one line
pub no_lf_spelling : (bytes : List ℕ) → NoLf (spelling bytes)
no_lf_spelling [] = ((λ e. omega arith), ((λ e. omega arith), tt))
no_lf_spelling (b ∷ bytes) = no_lf_bytes (b ∷ bytes)

regroup_line : (head what more : List ℕ) → ((head ++ what) ++ 10 ∷ []) ++ more ≡ head ++ (what ++ 10 ∷ more)
regroup_line head what more = simp append_assoc

-- a line is its head, what the client did, and LF
pub line_is : (turn : Turn) (more : List ℕ)
    → turn_line turn ++ more ≡ head_text turn.clock turn.word turn.client ++ (what_text turn.what ++ 10 ∷ more)
line_is turn more = regroup_line (head_text turn.clock turn.word turn.client) (what_text turn.what) more

regroup_head : (clock word client more : List ℕ)
    → (((clock ++ 32 ∷ word) ++ 32 ∷ client) ++ 32 ∷ []) ++ more ≡ clock
    ++ (32 ∷ (word ++ (32 ∷ (client ++ (32 ∷ more)))))
regroup_head clock word client more = simp append_assoc

-- a head is its numbers, each with a space behind it
pub head_is : (clock word client : ℕ) (more : List ℕ)
    → head_text clock word client ++ more ≡ decimal clock
    ++ (32 ∷ (decimal word ++ (32 ∷ (decimal client ++ (32 ∷ more)))))
head_is clock word client more = regroup_head (decimal clock) (decimal word) (decimal client) more

pub same_turn : (head : Head) (what : What) (turn : Turn)
    → head ≡ record { clock = turn.clock; word = turn.word; client = turn.client } → what ≡ turn.what
    → ◌≡◌ {A = Turn} (record { clock = head.clock; word = head.word; client = head.client; what = what }) turn
same_turn head what turn head_is what_is =
    ap (λ h. record { clock = h.clock; word = h.word; client = h.client; what = what }) head_is
    ∙ ap (λ w. record turn { what = w }) what_is
