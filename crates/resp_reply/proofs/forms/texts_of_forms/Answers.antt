use Rattle.std.proofs.Common.{◌≡◌, ◌∙◌, ℕ, List, ◌++◌, length, map, flat_map, decimal, codes, sym, ap}
use Rattle.std.proofs.lemmas.List.{length-map}
use Rattle.std.proofs.lemmas.List.Folds.{flat_map-map}
use Rattle.resp_reply.specs.declared.reply.Reply.{Reply}
use Rattle.resp_reply.specs.declared.reply.Reply.TheOpen.{Reply-F}
use Rattle.resp_reply.specs.declared.reply.Reply.TheFolds.{fold-roll-Reply}
use Rattle.resp_reply.specs.declared.reply.Reply.TheVariants.{rolls-Status, rolls-Fault, rolls-Int, rolls-Bulk}
use Rattle.resp_reply.specs.declared.reply.Reply.TheVariants.{rolls-NullBulk, rolls-NullArray}
use Rattle.resp_reply.specs.Replies.{line, array_text, reply_step, reply_text}
use Rattle.resp_reply.proofs.forms.texts_of_forms.Goals as goal

array_text-map : (items : List Reply)
    → array_text (map reply_text items) ≡ line (codes "*") (decimal (length items)) ++ flat_map reply_text items
array_text-map items = simp (length-map, flat_map-map)

pub returns-clause-status : goal.returns-clause-status
returns-clause-status c =
    λ text. ap reply_text (sym (rolls-Status text)) ∙ fold-roll-Reply (List ℕ) reply_step (Reply-F.Status text)

pub returns-clause-fault : goal.returns-clause-fault
returns-clause-fault c =
    λ text. ap reply_text (sym (rolls-Fault text)) ∙ fold-roll-Reply (List ℕ) reply_step (Reply-F.Fault text)

pub returns-clause-int : goal.returns-clause-int
returns-clause-int c = λ n. ap reply_text (sym (rolls-Int n)) ∙ fold-roll-Reply (List ℕ) reply_step (Reply-F.Int n)

pub returns-clause-bulk : goal.returns-clause-bulk
returns-clause-bulk c =
    λ bytes. ap reply_text (sym (rolls-Bulk bytes)) ∙ fold-roll-Reply (List ℕ) reply_step (Reply-F.Bulk bytes)

pub returns-clause-no_bulk : goal.returns-clause-no_bulk
returns-clause-no_bulk c = ap reply_text (sym rolls-NullBulk) ∙ fold-roll-Reply (List ℕ) reply_step Reply-F.NullBulk

pub returns-clause-array : goal.returns-clause-array
returns-clause-array c = λ items. fold-roll-Reply (List ℕ) reply_step (Reply-F.Array items) ∙ array_text-map items

pub returns-clause-no_array : goal.returns-clause-no_array
returns-clause-no_array c = ap reply_text (sym rolls-NullArray) ∙ fold-roll-Reply (List ℕ) reply_step Reply-F.NullArray
