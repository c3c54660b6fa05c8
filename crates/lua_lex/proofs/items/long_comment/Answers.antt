use Rattle.lua_lex.proofs.Classes.{long_comment_len}
use Rattle.lua_lex.proofs.items.long_comment.Goals as goal

pub split_at-requires : goal.split_at-requires
split_at-requires c = long_comment_len c.args.text.now c.requires
