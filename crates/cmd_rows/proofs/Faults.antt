-- Replies that are faults, and those that are none.
use Rattle.std.proofs.Common.{◌≡◌, ◌≢◌, ℕ, Bool, true, false, List, [], Option, Some, None, refl, sym, ap, ◌∙◌, true≢false}
use Rattle.std.specs.Prelude.{ℤ, bytes_eq}
use Rattle.resp_reply.specs.declared.reply.Reply.{Reply, roll-Reply}
use Rattle.resp_reply.specs.declared.reply.Reply.TheVariants.{Status, Fault, Int, Bulk, NullBulk, rolls-Status}
use Rattle.resp_reply.specs.declared.reply.Reply.TheVariants.{rolls-Fault, rolls-Int, rolls-Bulk, rolls-NullBulk}
use Rattle.resp_reply.specs.declared.reply.Reply.TheOpen.{Reply-F}
use Rattle.resp_reply.specs.declared.reply.Reply.TheFolds.{fold-Reply, fold-roll-Reply}
use Rattle.std.proofs.lemmas.Slice.Eq.{bytes_eq-Decides}
use Rattle.cmd_args.specs.declared.refusal.Refusal.{Refusal}
use Rattle.cmd_args.specs.declared.refusal.Refusal.TheVariants.{Syntax}
use Rattle.cmd_args.specs.Refusals.{refusal_text}
use Rattle.cmd_rows.specs.Strings.{bulk_or_null}

abbrev fault_step : Reply-F Bool → Bool
fault_step (Reply-F.Fault text) = true
fault_step _ = false

-- the reply is a fault
pub is_fault : Reply → Bool
is_fault reply = fold-Reply Bool fault_step reply

-- the text of a fault
abbrev text_step : Reply-F (List ℕ) → List ℕ
text_step (Reply-F.Fault text) = text
text_step _ = []

abbrev fault_text : Reply → List ℕ
fault_text reply = fold-Reply (List ℕ) text_step reply

-- the reply is none
abbrev pub NoFault : Reply → Type 0
NoFault reply = is_fault reply ≡ false

pub no_fault-status : (text : List ℕ) → NoFault (Status text)
unfolding is_fault
no_fault-status text = ap (fold-Reply Bool fault_step) (sym (rolls-Status text))
    ∙ fold-roll-Reply Bool fault_step (Reply-F.Status text)

pub no_fault-int : (n : ℤ) → NoFault (Int n)
unfolding is_fault
no_fault-int n = ap (fold-Reply Bool fault_step) (sym (rolls-Int n)) ∙ fold-roll-Reply Bool fault_step (Reply-F.Int n)

pub no_fault-bulk : (text : List ℕ) → NoFault (Bulk text)
unfolding is_fault
no_fault-bulk text = ap (fold-Reply Bool fault_step) (sym (rolls-Bulk text))
    ∙ fold-roll-Reply Bool fault_step (Reply-F.Bulk text)

pub no_fault-null : NoFault NullBulk
unfolding is_fault
no_fault-null = ap (fold-Reply Bool fault_step) (sym rolls-NullBulk) ∙ fold-roll-Reply Bool fault_step Reply-F.NullBulk

pub no_fault-array : (items : List Reply) → NoFault (roll-Reply (Reply-F.Array items))
unfolding is_fault
no_fault-array items = fold-roll-Reply Bool fault_step (Reply-F.Array items)

pub no_fault-bulk_or_null : (text : Option (List ℕ)) → NoFault (bulk_or_null text)
no_fault-bulk_or_null None = no_fault-null
no_fault-bulk_or_null (Some text) = no_fault-bulk text

fault-is : (text : List ℕ) → is_fault (Fault text) ≡ true
unfolding is_fault
fault-is text = ap (fold-Reply Bool fault_step) (sym (rolls-Fault text))
    ∙ fold-roll-Reply Bool fault_step (Reply-F.Fault text)

text-is : (text : List ℕ) → fault_text (Fault text) ≡ text
text-is text = ap fault_text (sym (rolls-Fault text)) ∙ fold-roll-Reply (List ℕ) text_step (Reply-F.Fault text)

-- a reply that is no fault is not one
pub fault-reply : (reply : Reply) (text : List ℕ) → NoFault reply → reply ≡ Fault text → ⊥
fault-reply reply text none e = true≢false (sym (fault-is text) ∙ ap is_fault (sym e) ∙ none)

-- two refusals that answer the same say the same
pub fault-text : (one other : List ℕ) → Fault one ≡ Fault other → one ≡ other
fault-text one other e = sym (text-is one) ∙ ap fault_text e ∙ text-is other

-- a refusal that is no syntax error, by its text
abbrev pub IsNoSyntax : Refusal → Type 0
IsNoSyntax why = refusal_text why ≢ refusal_text Syntax

pub no_syntax : (why : Refusal) → bytes_eq (refusal_text why) (refusal_text Syntax) ≡ false → IsNoSyntax why
no_syntax why other same = true≢false (sym (bytes_eq-itself (refusal_text Syntax))
    ∙ sym (ap (λ t. bytes_eq t (refusal_text Syntax)) same) ∙ other)
  where
    bytes_eq-itself : (text : List ℕ) → bytes_eq text text ≡ true
    bytes_eq-itself text = (bytes_eq-Decides text text).1 refl
