use Rattle.std.proofs.Common.{sym}
use Rattle.std.proofs.lemmas.List.{take_all}
use Rattle.cmd_args.proofs.refusal.front.Goals as goal

pub returns-then-word-le-MAX_SHOWN_BYTES : goal.returns-then-word-le-MAX_SHOWN_BYTES
returns-then-word-le-MAX_SHOWN_BYTES c = sym (take_all 128 c.args.word.now c.if-word-le-MAX_SHOWN_BYTES.true)
