-- What the states of a sender have in common.
use Rattle.std.specs.Prelude.{◌≡◌, ℕ, ◌+◌, ◌-◌, min, Bool, false, not, ◌&&◌, nat_le, nat_lt, ◌==◌, if◌then◌else◌, Option, Some, None, is_some, ⊤}
use Rattle.tick_timers.specs.Timers.{Timer, is_due}
use Rattle.originator.specs.Link.{Link, packets_of, is_of_link}
use Rattle.originator.specs.States.{Sending as Window}
use Rattle.originator.specs.declared.states.OutState.{OutState}
use Rattle.originator.specs.declared.states.OutState.TheVariants.{AwaitCts, Sending, AwaitEnd}
use Rattle.originator.specs.declared.states.Stepped.{Stepped}
use Rattle.originator.specs.declared.states.Stepped.TheVariants.{On, Over}
use Rattle.tp_wire.specs.declared.wire.Kind.{Kind}

-- the message under way
abbrev pub link_of : OutState → Link
link_of (AwaitCts s) = s.link
link_of (Sending s) = s.link
link_of (AwaitEnd s) = s.link

-- the first packet that was never queued; one more than the last if each was
abbrev pub unsent_of : OutState → ℕ
unsent_of (AwaitCts s) = s.unsent
unsent_of (Sending s) = s.unsent
unsent_of (AwaitEnd s) = packets_of s.link + 1

-- how many CTS have named a packet below it
abbrev pub resends_of : OutState → ℕ
resends_of (AwaitCts s) = s.resends
resends_of (Sending s) = s.resends
resends_of (AwaitEnd s) = s.resends

-- how many of the packets that a window still queues were queued before
abbrev pub repeated : Window → ℕ
repeated s = min (s.until + 1) s.unsent - s.at

-- a window has still to be announced, and begins with a packet that was queued before
abbrev pub announces_again : Window → Bool
announces_again s = not s.announced && nat_lt s.next s.unsent

-- those of a message under way, which may have no window
abbrev pub repeated_of : OutState → ℕ
repeated_of (AwaitCts s) = 0
repeated_of (Sending s) = repeated s
repeated_of (AwaitEnd s) = 0

abbrev pub is_announced_again : OutState → Bool
is_announced_again (AwaitCts s) = false
is_announced_again (Sending s) = announces_again s
is_announced_again (AwaitEnd s) = false

-- each packet was queued
abbrev pub is_all_queued : OutState → Bool
is_all_queued state = unsent_of state == packets_of (link_of state) + 1

-- Sending has no timer
abbrev pub timer_of : OutState → Option Timer
timer_of (AwaitCts s) = Some s.timer
timer_of (Sending s) = None
timer_of (AwaitEnd s) = Some s.timer

-- the message awaits a CTS or the end acknowledgement
abbrev pub has_timer : OutState → Bool
has_timer state = is_some (timer_of state)

-- the message's timer is due
abbrev pub is_state_due : OutState → ℕ → Bool
is_state_due (AwaitCts s) now = is_due s.timer now
is_state_due (Sending s) now = false
is_state_due (AwaitEnd s) now = is_due s.timer now

-- a frame of this transport with this PGN field belongs to its message
abbrev pub is_of : OutState → Kind → ℕ → Bool
is_of state kind field = is_of_link (link_of state) kind field

-- a timer of so many ticks, started now
abbrev pub started : (now ticks : ℕ) → Timer
started now ticks = record { started = now; ticks = ticks }

-- the state without a window: by whether a packet was never queued
abbrev pub without_window : Link → (unsent resends : ℕ) → Timer → OutState
without_window link unsent resends timer =
    if nat_le unsent (packets_of link)
    then AwaitCts (record { link = link; unsent = unsent; resends = resends; timer = timer })
    else AwaitEnd (record { link = link; resends = resends; timer = timer })

-- the state that follows has this message
abbrev pub KeepsLink : Link → Stepped → Type 0
KeepsLink link (On state) = link_of state ≡ link
KeepsLink link (Over over) = ⊤
