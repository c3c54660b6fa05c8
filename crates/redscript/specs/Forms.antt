-- The command lines of the program.
use Rattle.std.specs.Prelude.{◌≡◌, ℕ, ◌<◌, List, [], ◌∷◌, length, codes}
use Rattle.redscript.specs.declared.forms.Form.{Form}
use Rattle.redscript.specs.declared.forms.Form.TheVariants.{Play, Replay}

-- the words `play LOG`
pub record IsPlay (words : List (List ℕ)) (name : List ℕ) : Type 0 where
  pub words_are : words ≡ codes "play" ∷ name ∷ []
  pub some : 0 < length name

-- the word `replay`
pub record IsReplay (words : List (List ℕ)) : Type 0 where
  pub words_are : words ≡ codes "replay" ∷ []

-- the words have this form
abbrev pub IsForm : List (List ℕ) → Form → Type 0
IsForm words (Play name) = IsPlay words name.now
IsForm words Replay = IsReplay words

-- the words are no command line of the program
pub record HasNoForm (words : List (List ℕ)) : Type 0 where
  pub no_play : (name : List ℕ) → IsPlay words name → ⊥
  pub no_replay : IsReplay words → ⊥
