-- A state of a sender as plain data.
use Rattle.originator.specs.declared.image.Fields.{Fields}
use Rattle.originator.specs.declared.image.Fields.TheVariants as fields
use Rattle.originator.specs.declared.states.OutState.{OutState}
use Rattle.originator.specs.declared.states.OutState.TheVariants.{AwaitCts, Sending, AwaitEnd}

-- the state that the fields say
abbrev pub out_value : Fields → OutState
out_value (fields.AwaitCts link unsent resends timer) = AwaitCts (record { link = link; unsent = unsent; resends = resends; timer = timer })
out_value (fields.Sending link unsent resends granted next at until announced) = Sending (record { link = link; unsent = unsent; resends = resends; granted = granted; next = next; at = at; until = until; announced = announced })
out_value (fields.AwaitEnd link resends timer) = AwaitEnd (record { link = link; resends = resends; timer = timer })
