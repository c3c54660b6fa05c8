use Rattle.cmd_rows.proofs.WordPlaces.{word-found}
use Rattle.cmd_rows.proofs.replies.word.Goals as goal

pub returns : goal.returns
returns c = word-found c.args.words.now c.args.place c.get.result c.ok_or.result c.get.ensures.value
    c.ok_or.ensures.value
