use Rattle.fx_record.proofs.WordLaws.{record_of-words, record_of-only, record_of-within, words-within}
use Rattle.fx_record.proofs.laws.each_record_has_its_own_words.Goals as goal

pub returns-clause-back : goal.returns-clause-back
returns-clause-back c = record_of-words

pub returns-clause-only : goal.returns-clause-only
returns-clause-only c = record_of-only

pub returns-clause-within : goal.returns-clause-within
returns-clause-within c = record_of-within

pub returns-clause-limited : goal.returns-clause-limited
returns-clause-limited c = words-within
