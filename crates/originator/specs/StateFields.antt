-- How the states of a sender are kept.
use Rattle.std.specs.Prelude.{◌+◌, ◌-◌, ◌≤◌}
use Rattle.originator.specs.Link.{packets_of}
use Rattle.originator.specs.States.{AwaitCts, Sending, AwaitEnd, most_resends}
use Rattle.originator.specs.declared.await_cts.AwaitCts.TheInside.{Inside as AwaitCtsFields}
use Rattle.originator.specs.declared.sending.Sending.TheInside.{Inside as SendingFields}
use Rattle.originator.specs.declared.await_end.AwaitEnd.TheInside.{Inside as AwaitEndFields}

-- a first packet that was never queued, and at most two resends
pub record IsAwaitCts (a : AwaitCtsFields) : Type 0 where
  pub from_first : 1 ≤ a.unsent
  pub to_last : a.unsent ≤ packets_of a.link
  pub resends : a.resends ≤ most_resends

-- a window that isn't finished, within the message, and of no more packets than a byte can grant
pub record IsSending (a : SendingFields) : Type 0 where
  pub from_first : 1 ≤ a.next
  pub started : a.next ≤ a.at
  pub unfinished : a.at ≤ a.until
  pub narrow : a.until ≤ (a.next - 1) + 255
  pub to_last : a.until ≤ packets_of a.link
  pub unsent_from : 1 ≤ a.unsent
  pub unsent_to : a.unsent ≤ packets_of a.link + 1
  pub resends : a.resends ≤ most_resends

-- the count of resends, at most two
pub record IsAwaitEnd (a : AwaitEndFields) : Type 0 where
  pub resends : a.resends ≤ most_resends

-- what the fields say
abbrev pub view_await_cts : AwaitCtsFields → AwaitCts
view_await_cts a = record { link = a.link; unsent = a.unsent; resends = a.resends; timer = a.timer }

abbrev pub view_sending : SendingFields → Sending
view_sending a = record { link = a.link; unsent = a.unsent; resends = a.resends; granted = a.granted; next = a.next; at = a.at; until = a.until; announced = a.announced }

abbrev pub view_await_end : AwaitEndFields → AwaitEnd
view_await_end a = record { link = a.link; resends = a.resends; timer = a.timer }
