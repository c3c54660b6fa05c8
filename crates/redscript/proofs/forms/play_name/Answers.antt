use Rattle.std.proofs.Common.{◌≡◌, [], ◌∷◌, sym, ap, ◌∙◌, arith, codes}
use Rattle.std.proofs.lemmas.Slice.Eq.{bytes_eq-Decides}
use Rattle.redscript.proofs.Statuses.{two_words, not_empty}
use Rattle.redscript.proofs.forms.play_name.Goals as goal

pub returns-then-not-is_empty-clause-found : goal.returns-then-not-is_empty-clause-found
returns-then-not-is_empty-clause-found c =
    let two = two_words c.as_slice.result.now c.command-item.result c.name-item.result
    (omega arith) c.command-item.is c.name-item.is in
    let same = (bytes_eq-Decides c.as_slice-2.result.now c.as_slice-3.result.now).0 (sym c.if-eq.ensures) in
    let command : c.command-item.result ≡ codes "play" = sym c.as_slice-2.ensures.value ∙ same ∙ c.as_slice-3.ensures in
    let name = sym c.as_slice-then-not-is_empty.ensures.value in
    record {
      words_are = sym c.as_slice.ensures ∙ two ∙ ap (λ w. w ∷ c.name-item.result ∷ []) command
          ∙ ap (λ n. codes "play" ∷ n ∷ []) name;
      some = not_empty c.as_slice-then-not-is_empty.result.now (λ none. let no =
          c.if-not-is_empty.ensures.1 (name ∙ none) in absurd (cc));
    }
