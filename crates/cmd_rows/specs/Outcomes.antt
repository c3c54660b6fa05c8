-- What a command gives: each row of a command is one of these, by the store that it finds.
use Rattle.std.specs.Prelude.{ℕ, zero, suc, List, [], ◌∷◌, Result, Ok, Err, codes}
use Rattle.resp_reply.specs.declared.reply.Reply.{Reply, roll-Reply}
use Rattle.resp_reply.specs.declared.reply.Reply.TheVariants.{Status, Fault}
use Rattle.resp_reply.specs.declared.reply.Reply.TheOpen.{Reply-F}
use Rattle.ks_space.specs.Store.{Store}
use Rattle.fx_record.specs.declared.record.Record.{Record}
use Rattle.fx_record.specs.Records.{applied}
use Rattle.cmd_args.specs.declared.refusal.Refusal.{Refusal}
use Rattle.cmd_args.specs.declared.refusal.Refusal.TheVariants.{Syntax}
use Rattle.cmd_args.specs.Refusals.{refusal_text}

-- the reply, what is done to the store, in order, and how many draws are taken. Of the records those are kept that
-- `settled` keeps: none where they lead back to the same store.
pub record Outcome : Type 0 where
  pub reply : Reply
  pub records : List Record
  pub draws : ℕ

abbrev pub ok : Reply
ok = Status (codes "OK")

-- replies one behind another
abbrev pub array : List Reply → Reply
array replies = roll-Reply (Reply-F.Array replies)

-- the store after a row
abbrev pub left_by : Store → Outcome → Store
left_by store row = applied store row.records

-- a reply, and nothing is done
abbrev pub answers : Reply → Outcome
answers reply = record { reply = reply; records = []; draws = 0 }

-- a reply, and this is done
abbrev pub does : Reply → List Record → Outcome
does reply records = record { reply = reply; records = records; draws = 0 }

-- a fault, and nothing is done
abbrev pub refused : Refusal → Outcome
refused why = answers (Fault (refusal_text why))

-- what the row goes on with was found, or the command is refused. Rows that stand one in another refuse in the order in
-- which they stand.
abbrev pub with_found : {X : Type 0} → Result X Refusal → (X → Outcome) → Outcome
with_found (Ok found) row = row found
with_found (Err why) row = refused why

-- the word at a place, that of the name being 0. A row is only given words that fit it.
abbrev pub word_at : List (List ℕ) → ℕ → Result (List ℕ) Refusal
word_at [] place = Err Syntax
word_at (word ∷ words) zero = Ok word
word_at (word ∷ words) (suc place) = word_at words place

-- what is found behind what was found before, which may be refused
abbrev pub then_found : {X Y : Type 0} → Result X Refusal → (X → Result Y Refusal) → Result Y Refusal
then_found (Ok found) next = next found
then_found (Err why) next = Err why

-- a row of one word behind the name, of two, and of three
abbrev pub with_word : List (List ℕ) → (List ℕ → Outcome) → Outcome
with_word words row = with_found (word_at words 1) row

abbrev pub with_two_words : List (List ℕ) → (List ℕ → List ℕ → Outcome) → Outcome
with_two_words words row = with_word words (λ key. with_found (word_at words 2) (row key))

abbrev pub with_three_words : List (List ℕ) → (List ℕ → List ℕ → List ℕ → Outcome) → Outcome
with_three_words words row = with_two_words words (λ key word. with_found (word_at words 3) (row key word))
