-- The replies of RESP2, and the one spelling of each.
use Rattle.std.specs.Prelude.{ℕ, ◌==◌, ◌||◌, if◌then◌else◌, List, ◌++◌, map, flat_map, length, decimal, codes}
use Rattle.std.specs.Fmt.{signed_decimal}
use Rattle.rs_base.specs.Bytes.{crlf}
use Rattle.resp_reply.specs.declared.reply.Reply.{Reply}
use Rattle.resp_reply.specs.declared.reply.Reply.TheOpen.{Reply-F}
use Rattle.resp_reply.specs.declared.reply.Reply.TheFolds.{fold-Reply}

-- a mark, a text, and the end of a line: `+OK` CR LF
abbrev pub line : List ℕ → List ℕ → List ℕ
line mark text = mark ++ text ++ crlf

-- a space for a CR or LF
abbrev pub blanked : ℕ → ℕ
blanked b = if b == 13 || b == 10 then 32 else b

-- a text without line ends, so that it stands on a line of its own
abbrev pub in_one_line : List ℕ → List ℕ
in_one_line text = map blanked text

-- a bulk string: `$`, its length, CR LF, its bytes, CR LF
abbrev pub bulk_text : List ℕ → List ℕ
bulk_text bytes = line (codes "$") (decimal (length bytes)) ++ bytes ++ crlf

-- an array: `*`, the number of its items, CR LF, its items' texts one behind the other
abbrev pub array_text : List (List ℕ) → List ℕ
array_text items = line (codes "*") (decimal (length items)) ++ flat_map (λ item. item) items

-- `+` for a status, `-` for a fault, `:` for an integer; `$-1` and `*-1` where there is no string and no array
abbrev pub reply_step : Reply-F (List ℕ) → List ℕ
reply_step (Reply-F.Status text) = line (codes "+") (in_one_line text)
reply_step (Reply-F.Fault text) = line (codes "-") (in_one_line text)
reply_step (Reply-F.Int n) = line (codes ":") (signed_decimal n)
reply_step (Reply-F.Bulk bytes) = bulk_text bytes
reply_step Reply-F.NullBulk = codes "$-1\r\n"
reply_step (Reply-F.Array items) = array_text items
reply_step Reply-F.NullArray = codes "*-1\r\n"

-- the text of a reply
abbrev pub reply_text : Reply → List ℕ
reply_text = fold-Reply (List ℕ) reply_step
