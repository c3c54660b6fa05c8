-- A text has one list of words and one tree at most.
use Rattle.std.proofs.Common.{◌≡◌, ◌⊎◌, inl, inr, ℕ, ◌+◌, ◌-◌, List, [], ◌∷◌, ◌++◌, length, map, take, drop, refl, sym}
use Rattle.std.proofs.Common.{ap, ap₂, ◌∙◌, subst, arith}
use Rattle.std.proofs.lemmas.List.{same_from_push}
use Rattle.lua_lex.specs.declared.kinds.TokenKind.{TokenKind}
use Rattle.lua_lex.specs.declared.kinds.TokenKind.TheVariants as kind
use Rattle.lua_lex.specs.declared.kinds.Token.{Token}
use Rattle.lua_lex.specs.Pieces.{ArePieces, pieces_text}
use Rattle.lua_lex.specs.Tokens.{HasTokens}
use Rattle.lua_lex.specs.Values.{IsString, IsQuoted, IsLong, piece_byte, line_feeds, without_break}
use Rattle.lua_lex.proofs.LexemeLemmas.{tokens_same}
use Rattle.lua_lex.proofs.ValueLemmas.{HasValue, HasValue-only}
use Rattle.lua_grammar.specs.declared.words.Word.{Word}
use Rattle.lua_grammar.specs.declared.statements.Stat.{Stat}
use Rattle.lua_grammar.specs.declared.statements.Body.{Body}
use Rattle.lua_grammar.specs.declared.statements.Chunk.{Chunk}
use Rattle.lua_grammar.specs.Contexts.{every_rule}
use Rattle.lua_grammar.specs.Trees.{IsTree, HasTree, AreWords, no_words, more_words, IsWord, IsNumbered, number_of}
use Rattle.lua_grammar.specs.Trees.{noted, spelling}
use Rattle.lua_grammar.proofs.Ends.{nothing_is_end}
use Rattle.lua_grammar.proofs.Once.{one_tree}

quoted_same : (text bytes bytes' : List ℕ) → IsQuoted text bytes → IsQuoted text bytes' → bytes ≡ bytes'
quoted_same text bytes bytes' q q' =
    let e : q.quote ∷ pieces_text q.pieces ++ q.quote ∷ [] ≡ q'.quote ∷ pieces_text q'.pieces ++ q'.quote ∷ [] =
    sym q.text_is ∙ q'.text_is in
    let quotes : q.quote ≡ q'.quote = cc in
    let inside : pieces_text q.pieces ++ q.quote ∷ [] ≡ pieces_text q'.pieces ++ q'.quote ∷ [] = cc in
    let are' : ArePieces q.quote q'.pieces (q.quote ∷ []) =
    subst (λ (b : ℕ). ArePieces b q'.pieces (b ∷ [])) (sym quotes) q'.are in
    let inside' = inside ∙ ap (λ (b : ℕ). pieces_text q'.pieces ++ b ∷ []) (sym quotes) in
    let read : HasValue q.quote (pieces_text q.pieces ++ q.quote ∷ []) (map piece_byte q.pieces) (q.quote ∷ []) =
    record { pieces = q.pieces; are = q.are; text_is = refl; bytes_are = refl } in
    q.bytes_are ∙ HasValue-only q.quote _ _ _ q.quote [] q.is_quote read refl refl refl q'.pieces are' inside'
    ∙ sym q'.bytes_are

long_same : (text bytes bytes' : List ℕ) → IsLong text bytes → IsLong text bytes' → bytes ≡ bytes'
long_same text bytes bytes' l l' =
    let e : 91 ∷ l.bracket ≡ 91 ∷ l'.bracket = sym l.text_is ∙ l'.text_is in
    let brackets : l.bracket ≡ l'.bracket = cc in
    let levels : l.at ≡ l'.at = cc in
    l.bytes_are ∙ ap₂ (λ (bracket : List ℕ) (at : ℕ). line_feeds
    (without_break (take (length bracket - (at + 2 + (at + 1))) (drop (at + 1) bracket))))
    brackets levels ∙ sym l'.bytes_are

not_both : (text bytes bytes' : List ℕ) → IsQuoted text bytes → IsLong text bytes' → ⊥
not_both text bytes bytes' q l =
    let e : q.quote ∷ pieces_text q.pieces ++ q.quote ∷ [] ≡ 91 ∷ l.bracket = sym q.text_is ∙ l.text_is in
    let same : q.quote ≡ 91 = cc in
    no_quote q.quote q.is_quote same
  where
    no_quote : (b : ℕ) → (b ≡ 34) ⊎ (b ≡ 39) → b ≡ 91 → ⊥
    no_quote b (inl f) g = omega arith
    no_quote b (inr f) g = omega arith

strings_same : (text bytes bytes' : List ℕ) → IsString text bytes → IsString text bytes' → bytes ≡ bytes'
strings_same text bytes bytes' (inl q) (inl q') = quoted_same text bytes bytes' q q'
strings_same text bytes bytes' (inl q) (inr l) = absurd (not_both text bytes bytes' q l)
strings_same text bytes bytes' (inr l) (inl q) = absurd (not_both text bytes' bytes q l)
strings_same text bytes bytes' (inr l) (inr l') = long_same text bytes bytes' l l'

numbers_same : (k : TokenKind) (spelled : List ℕ) (texts : List (List ℕ)) (n n' : ℕ) (after after' : List (List ℕ))
    → IsNumbered k spelled texts n after → IsNumbered k spelled texts n' after' → (n ≡ n') × (after ≡ after')
numbers_same kind.Text spelled texts n n' after after' is is' =
    let same = strings_same spelled is.0 is'.0 is.1 is'.1 in (
      is.2 ∙ ap (λ (b : List ℕ). number_of b texts) same ∙ sym is'.2,
      is.3 ∙ ap (λ (b : List ℕ). noted b texts) same
          ∙ sym is'.3,
    )
numbers_same kind.Name spelled texts n n' after after' is is' = (is.0 ∙ sym is'.0, is.1 ∙ sym is'.1)
numbers_same _ spelled texts n n' after after' is is' = (is.0 ∙ sym is'.0, is.1 ∙ sym is'.1)

abbrev word_of : TokenKind → ℕ → ℕ → ℕ → Word
word_of k text line start = record { kind = k; text = text; line = line; start = start }

abbrev chunk_of : List (List ℕ) → List Stat → List Body → Chunk
chunk_of texts block bodies = record { texts = texts; block = block; bodies = bodies }

word_same : (text : List ℕ) (t : Token) (texts : List (List ℕ)) (w w' : Word) (after after' : List (List ℕ))
    → IsWord text t texts w after
    → IsWord text t texts w' after' → (w ≡ w') × (after ≡ after')
word_same text t texts w w' after after' is is' =
    let (number, same) = numbers_same t.kind (spelling text t) texts w.text w'.text after after' is.text_is is'.text_is
    in
    let kinds = is.kind_is ∙ sym is'.kind_is in
    let lines = is.line_is ∙ sym is'.line_is in
    let starts = is.start_is ∙ sym is'.start_is in (
      ap₂ (λ (k : TokenKind) (n : ℕ). word_of k n w.line w.start) kinds number
          ∙ ap₂ (word_of w'.kind w'.text) lines starts,
      same,
    )

pub words_same : {text : List ℕ} {tokens tokens' : List Token} {words words' : List Word} {texts texts' : List (List ℕ)}
    → AreWords text tokens words texts → AreWords text tokens' words' texts' → tokens ≡ tokens'
    → (words ≡ words') × (texts ≡ texts')
words_same no_words no_words e = (refl, refl)
words_same no_words (more_words ws w) e = absurd (nothing_is_end _ _ e)
words_same (more_words ws w) no_words e = absurd (nothing_is_end _ _ (sym e))
words_same {text} (more_words {tokens = tokens} {after = after} {t = t} {w = w} ws is)
    (more_words {tokens = tokens'} {texts = texts'} {after = after'} {t = t'} {w = w'} ws' is') e =
    let (fronts, ends) = same_from_push tokens tokens' t t' e in
    let (words, texts) = words_same ws ws' fronts in
    let is_there = subst (λ (u : Token). IsWord text u texts' w after) ends
    (subst (λ (ts : List (List ℕ)). IsWord text t ts w after) texts is) in
    let (word, same) = word_same text t' texts' w w' after after' is_there is' in
    (ap₂ (λ (front : List Word) (last : Word). front ++ last ∷ []) words word, same)

-- whichever list of its tokens they are read from
pub same_words : {text : List ℕ} {tokens tokens' : List Token} {words words' : List Word} {texts texts' : List (List ℕ)}
    → HasTokens text tokens → AreWords text tokens words texts → HasTokens text tokens'
    → AreWords text tokens' words' texts' → words ≡ words'
same_words {text} {tokens} {tokens'} has are has' are' =
    (words_same are are' (tokens_same text tokens tokens' has has')).0

pub one_tree_of_text : (text : List ℕ) (chunk chunk' : Chunk) → HasTree text chunk → HasTree text chunk'
    → chunk ≡ chunk'
one_tree_of_text text chunk chunk' has has' =
    let tokens = tokens_same text has.tokens has'.tokens has.has_tokens has'.has_tokens in
    let (words, texts) = words_same has.are_words has'.are_words tokens in
    let tree = subst (λ (ws : List Word). IsTree every_rule ws chunk.block chunk.bodies) words has.is_tree in
    let (blocks, bodies) = one_tree has'.words _ _ _ _ tree has'.is_tree in
    ap₂ (λ (texts : List (List ℕ)) (block : List Stat). chunk_of texts block chunk.bodies) texts blocks
    ∙ ap (chunk_of chunk'.texts chunk'.block) bodies
