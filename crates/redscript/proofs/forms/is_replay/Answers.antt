use Rattle.std.proofs.Common.{◌≡◌, [], ◌∷◌, sym, ap, ◌∙◌, arith, codes}
use Rattle.std.proofs.lemmas.Slice.Eq.{bytes_eq-Decides}
use Rattle.redscript.proofs.Statuses.{one_word}
use Rattle.redscript.proofs.forms.is_replay.Goals as goal

pub returns-in-len1 : goal.returns-in-len1
returns-in-len1 c =
    let test = bytes_eq-Decides c.as_slice-in-len1.result.now c.as_slice-in-len1-2.result.now in
    let one : c.args.words.now ≡ c.command-item.result ∷ [] = sym c.as_slice.ensures
    ∙ one_word c.as_slice.result.now c.command-item.result (omega arith) c.command-item.is in (
      λ yes.
          let same = test.0 (sym c.eq.ensures ∙ yes) in
          let command : c.command-item.result ≡ codes "replay" = sym c.as_slice-in-len1.ensures.value ∙ same
          ∙ c.as_slice-in-len1-2.ensures in
          record { words_are = one ∙ ap (λ w. w ∷ []) command },
      λ form.
          let both : c.command-item.result ∷ [] ≡ codes "replay" ∷ [] = sym one ∙ form.words_are in
          let command : c.command-item.result ≡ codes "replay" = cc in
          c.eq.ensures ∙ test.1 (c.as_slice-in-len1.ensures.value ∙ command ∙ sym c.as_slice-in-len1-2.ensures),
    )
