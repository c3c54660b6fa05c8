-- What a text is as an effect log: its groups, and the first place at which it is no log.
use Rattle.std.specs.Prelude.{◌≡◌, ℕ, ◌<◌, ◌⊎◌, Option, List, [], ◌∷◌, ◌++◌, length, map}
use Rattle.fx_record.specs.declared.record.Record.{Record}
use Rattle.fx_record.specs.RecordWords.{words_of, IsRecord}
use Rattle.resp_read.specs.declared.command.Command.{Command}
use Rattle.resp_read.specs.declared.stops.BadFrame.{BadFrame}
use Rattle.resp_read.specs.Frames.{within_u64, Begins, IsBad, IsWhole}
use Rattle.fx_log.specs.declared.group.Group.{Group}
use Rattle.fx_log.specs.declared.stops.LogKind.{LogKind}
use Rattle.fx_log.specs.declared.stops.LogKind.TheVariants.{Frame, Row, Nest}
use Rattle.fx_log.specs.Groups.{group_text, log_text}
use Rattle.fx_log.specs.Items.{multi, exec, Item, AreItems, IsOpen, items_words, open_words, BeginsItems, groups_of}

abbrev pub words_in : List Command → List (List (List ℕ))
words_in commands = map (λ (command : Command). command.words) commands

-- none, or one with which the commands before it begin no sequence of items
abbrev pub StopsItems : List (List (List ℕ)) → List Command → Type 0
StopsItems words [] = Unit {0}
StopsItems words (command ∷ rest) = BeginsItems (words ++ command.words ∷ []) → ⊥

-- commands are a sequence of items, then the part of one, then the command that may not stand there with those behind
-- it, if
-- there is one
pub record Splits (commands front rest : List Command) (items : List Item)
    (opened : Option (List Record)) : Type 0 where
  pub within : AreItems items × IsOpen opened
  pub commands_are : commands ≡ front ++ rest
  pub front_is : words_in front ≡ items_words items ++ open_words opened
  pub stops : StopsItems (words_in front) rest

-- a text is a log so far: its commands are a sequence of items, then the part of one, and it can go on to a sequence
-- of frames
pub record IsLog (text : List ℕ) (items : List Item) (opened : Option (List Record)) : Type 0 where
  pub commands : List Command
  pub whole : IsWhole text commands
  pub begins : Begins text
  pub within : AreItems items × IsOpen opened
  pub words_are : words_in commands ≡ items_words items ++ open_words opened

-- the groups of a text: those of the whole items before the first command that may not stand where it stands
pub record IsGroups (text : List ℕ) (groups : List Group) : Type 0 where
  pub commands : List Command
  pub front : List Command
  pub rest : List Command
  pub items : List Item
  pub opened : Option (List Record)
  pub whole : IsWhole text commands
  pub splits : Splits commands front rest items opened
  pub groups_are : groups ≡ groups_of items

-- words that are no record, nor `MULTI` or `EXEC`
pub record IsNoRow (words : List (List ℕ)) : Type 0 where
  pub no_multi : words ≡ multi → ⊥
  pub no_exec : words ≡ exec → ⊥
  pub no_record : (r : Record) → IsRecord r → words ≡ words_of r → ⊥

-- the kind of a command that may not stand where it stands
abbrev pub IsKind : LogKind → List (List ℕ) → Type 0
IsKind Frame words = ⊥
IsKind Row words = IsNoRow words
IsKind Nest words = (words ≡ multi) ⊎ (words ≡ exec)

-- the place of the first command that may not stand where it stands; where there is none, that of the bad frame
abbrev pub IsBadAt : List ℕ → List Command → ℕ → LogKind → Type 0
IsBadAt text [] place kind =
    (kind ≡ Frame) × ((at : ℕ) × (bad : BadFrame) × IsBad text at bad × (place ≡ within_u64 at))
IsBadAt text (command ∷ rest) place kind = (place ≡ command.place) × IsKind kind command.words

-- the first place, as a `u64`, at which a text is no log, and why
pub record IsBadLog (text : List ℕ) (place : ℕ) (kind : LogKind) : Type 0 where
  pub commands : List Command
  pub front : List Command
  pub rest : List Command
  pub items : List Item
  pub opened : Option (List Record)
  pub whole : IsWhole text commands
  pub splits : Splits commands front rest items opened
  pub bad : IsBadAt text rest place kind

abbrev pub HasBadPlace : List ℕ → Type 0
HasBadPlace text = (place : ℕ) × (kind : LogKind) × IsBadLog text place kind

-- less than the text of the next of these groups; nothing where there is none
abbrev pub IsPart : List ℕ → List Group → Type 0
IsPart part [] = part ≡ []
IsPart part (group ∷ groups) = length part < length (group_text group)

-- a front of the text of these groups: it reads as the groups whose text is whole in it, and has no bad place
pub record IsCut (text : List ℕ) (groups : List Group) : Type 0 where
  pub front : List Group
  pub back : List Group
  pub part : List ℕ
  pub groups_are : groups ≡ front ++ back
  pub text_is : text ≡ log_text front ++ part
  pub part_is : IsPart part back
  pub read : IsGroups text front
  pub good : HasBadPlace text → ⊥
