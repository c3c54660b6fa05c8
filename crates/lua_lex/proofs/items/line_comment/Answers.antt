use Rattle.lua_lex.proofs.Classes.{line_comment_len}
use Rattle.lua_lex.proofs.items.line_comment.Goals as goal

pub split_at-requires : goal.split_at-requires
split_at-requires c = line_comment_len c.args.text.now c.requires
