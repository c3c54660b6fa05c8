-- What a feed of a reader makes of a client.
use Rattle.std.proofs.Common.{◌≡◌, ℕ, ◌+◌, List, [], ◌∷◌, ◌++◌, Ok, Err, length, map, refl, ap, subst, ◌∙◌}
use Rattle.resp_read.specs.Frames.{Form, Given, EmptyArray, NegativeArray, form_text, frame, commands_in, commands_from}
use Rattle.resp_read.specs.Reading.{Reading, Unfinished, Broken, reading, ReaderState, Waiting, Stopped, Spent}
use Rattle.resp_read.specs.Reading.{answer, after, unfinished}
use Rattle.resp_read.specs.declared.command.Command.{Command}
use Rattle.resp_read.specs.declared.stops.BadFrame.{BadFrame}
use Rattle.resp_read.specs.declared.stops.FeedStop.TheVariants.{Bad}
use Rattle.cl_core.specs.Kept.{IsWaiting}
use Rattle.cl_core.specs.Reads.{IsFed}
use Rattle.cl_core.specs.declared.client.Fed.TheVariants as fed

words_from : (at : ℕ) (forms : List Form) → map (λ c. c.words) (commands_from at forms) ≡ commands_in forms
words_from at [] = refl
words_from at (Given words ∷ forms) = ap (λ r. words ∷ r) (words_from (at + length (frame words)) forms)
words_from at (EmptyArray ∷ forms) = words_from (at + length (form_text EmptyArray)) forms
words_from at (NegativeArray n ∷ forms) = words_from (at + length (form_text (NegativeArray n))) forms

same_words : (commands : List Command) (at : ℕ) (forms : List Form) → commands ≡ commands_from at forms
    → map (λ c. c.words) commands ≡ commands_in forms
same_words commands at forms is = ap (map (λ c. c.words)) is ∙ words_from at forms

open_at : (start : ℕ) (rest piece : List ℕ) (new : ReaderState) (commands : List Command) (read : Reading)
    → reading (rest ++ piece) ≡ read
    → answer (Waiting start rest) piece ≡ Ok commands → new ≡ after (Waiting start rest) piece
    → IsFed (fed.Open (unfinished new) commands) read
open_at start rest piece new commands (Unfinished forms left) is given keeps =
    let answered = rw is at given in
    let whole : commands ≡ commands_from start forms = cc in
    (same_words commands start forms whole, ap unfinished (rw is at keeps))
open_at start rest piece new commands (Broken forms place kind) is given keeps = let answered = rw is at given in
    absurd (cc)

pub fed_open : (old new : ReaderState) (text piece : List ℕ) (commands : List Command) → IsWaiting old
    → unfinished old ≡ text
    → answer old piece ≡ Ok commands → new ≡ after old piece
    → IsFed (fed.Open (unfinished new) commands) (reading (text ++ piece))
fed_open (Waiting start rest) new text piece commands waits is given keeps =
    subst (λ bytes. IsFed (fed.Open (unfinished new) commands) (reading (bytes ++ piece))) is
    (open_at start rest piece new commands _ refl given keeps)
fed_open Stopped new text piece commands waits is given keeps = absurd waits
fed_open Spent new text piece commands waits is given keeps = absurd waits

broken_at : (start : ℕ) (rest piece : List ℕ) (commands : List Command) (at : ℕ) (due : BadFrame) (read : Reading)
    → reading (rest ++ piece) ≡ read
    → answer (Waiting start rest) piece ≡ Err (Bad commands at due) → IsFed (fed.Broken commands due) read
broken_at start rest piece commands at due (Unfinished forms left) is given = let answered = rw is at given in
    absurd (cc)
broken_at start rest piece commands at due (Broken forms place kind) is given =
    let answered = rw is at given in
    let whole : commands ≡ commands_from start forms = cc in
    (same_words commands start forms whole, cc)

pub fed_broken : (old : ReaderState) (text piece : List ℕ) (commands : List Command) (at : ℕ) (due : BadFrame)
    → IsWaiting old → unfinished old ≡ text
    → answer old piece ≡ Err (Bad commands at due) → IsFed (fed.Broken commands due) (reading (text ++ piece))
fed_broken (Waiting start rest) text piece commands at due waits is given =
    subst (λ bytes. IsFed (fed.Broken commands due) (reading (bytes ++ piece))) is
    (broken_at start rest piece commands at due _ refl given)
fed_broken Stopped text piece commands at due waits is given = absurd waits
fed_broken Spent text piece commands at due waits is given = absurd waits
