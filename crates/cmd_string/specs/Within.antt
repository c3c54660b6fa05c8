-- What keeps to the limits of a store.
use Rattle.ks_space.specs.Store.{IsDeadline}
use Rattle.cmd_string.specs.declared.getex.Change.{Change}
use Rattle.cmd_string.specs.declared.getex.Change.TheVariants.{AsBefore, Persist, ExpireAt}

abbrev pub IsChange : Change → Type 0
IsChange AsBefore = Unit {0}
IsChange Persist = Unit {0}
IsChange (ExpireAt at) = IsDeadline at
