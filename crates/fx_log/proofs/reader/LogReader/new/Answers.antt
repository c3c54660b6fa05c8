use Rattle.std.proofs.Common.{[], None, refl, subst, arith}
use Rattle.resp_read.specs.Frames.{LongestSequence, IsWhole}
use Rattle.resp_read.specs.Reading.{ReaderState, Waiting, HasRead}
use Rattle.fx_log.specs.Logs.{IsLog}
use Rattle.fx_log.proofs.reader.LogReader.new.Goals as goal

pub returns-clause-stands : goal.returns-clause-stands
returns-clause-stands c =
    let stands : HasRead (Waiting 0 []) [] = subst
    (λ (s : ReaderState). HasRead s []) c.new.ensures.state c.new.ensures.stands in
    let seq : LongestSequence [] [] [] =
    record { each = tt; text_is = refl; longest = λ others left each e. omega arith } in
    let whole : IsWhole [] [] = record { forms = []; rest = []; sequence = seq; commands_are = refl } in
    let log : IsLog [] [] None = record {
      commands = [];
      whole = whole;
      begins = stands.2;
      within = (tt, tt);
      words_are = refl;
    } in
    (c.new.ensures.stands, ([], log))
