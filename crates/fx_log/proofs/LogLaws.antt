-- The laws of a log's reading.
use Rattle.std.proofs.Common.{◌≡◌, ℕ, None, List, [], refl, arith}
use Rattle.resp_read.specs.declared.command.Command.{Command}
use Rattle.resp_read.specs.declared.stops.BadFrame.{BadFrame}
use Rattle.resp_read.specs.Frames.{within_u64, commands_from, Begins, LongestSequence, IsBad, IsWhole}
use Rattle.resp_read.specs.Reading.{Reading, Unfinished, Broken, reading, IsReadingOf}
use Rattle.fx_log.specs.Logs.{IsLog}
use Rattle.fx_log.specs.Reading.{LogRead, Reads, Breaks, read_from, before_frame, log_of, log_reading, IsLogReadingOf}
use Rattle.fx_log.proofs.Runs.{stood-start, read-stood}
use Rattle.fx_log.proofs.Texts.{log-broke, log-framed}
use Rattle.fx_log.proofs.Staying.{ReadsText}

abbrev pub empty-sequence : LongestSequence [] [] []
empty-sequence = record { each = tt; text_is = refl; longest = λ others left each e. omega arith }

abbrev pub empty-begins : Begins []
empty-begins = ([], [], record { each = tt; text_is = refl })

abbrev pub empty-log : IsLog [] [] None
empty-log = record {
  commands = [];
  whole = record { forms = []; rest = []; sequence = empty-sequence; commands_are = refl };
  begins = empty-begins;
  within = (tt, tt);
  words_are = refl;
}

reads-commands : (text : List ℕ) (commands : List Command) → IsWhole text commands → Begins text → (r : LogRead)
    → read_from [] None commands ≡ r → IsLogReadingOf text r
reads-commands text commands whole begins (Reads groups opened) e =
    let stood = read-stood commands [] [] None groups opened stood-start e in (
      stood.items,
      record {
        commands = commands;
        whole = whole;
        begins = begins;
        within = stood.within;
        words_are = stood.words_are;
      },
      stood.groups_are,
    )
reads-commands text commands whole begins (Breaks groups place kind) e =
    log-broke [] text [] None empty-log commands groups place kind whole e

reads-broken : (text : List ℕ) (commands : List Command) (at : ℕ) (bad : BadFrame) → IsWhole text commands
    → IsBad text at bad → (r : LogRead) → read_from [] None commands ≡ r
    → IsLogReadingOf text (before_frame (within_u64 at) r)
reads-broken text commands at bad whole is_bad (Reads groups opened) e =
    log-framed [] text [] None empty-log commands groups opened (within_u64 at) at bad whole e is_bad refl
reads-broken text commands at bad whole is_bad (Breaks groups place kind) e =
    log-broke [] text [] None empty-log commands groups place kind whole e

by_reading : (text : List ℕ) (r : Reading) → IsReadingOf text r → IsLogReadingOf text (log_of r)
by_reading text (Unfinished forms left) is =
    let whole : IsWhole text (commands_from 0 forms) =
    record { forms = forms; rest = left; sequence = is.0; commands_are = refl } in
    reads-commands text (commands_from 0 forms) whole is.1 (read_from [] None (commands_from 0 forms)) refl
by_reading text (Broken forms place kind) is =
    let whole : IsWhole text (commands_from 0 forms) =
    record { forms = forms; rest = is.1.0; sequence = is.1.1; commands_are = refl } in
    reads-broken text (commands_from 0 forms) place kind whole is.0 (read_from [] None (commands_from 0 forms)) refl

pub log-reading-is : ReadsText → (text : List ℕ) → IsLogReadingOf text (log_reading text)
unfolding log_reading
log-reading-is reads text = by_reading text (reading text) (reads text)
