-- A sender takes a CTS (SAE J1939-21, TP.CM_CTS; ISO 11783-3, ETP.CM_CTS): of each table the first row that fits.
use Rattle.std.specs.Prelude.{ℕ, ◌+◌, ◌-◌, min, Bool, false, ◌&&◌, ◌||◌, nat_lt, nat_le, ◌==◌, if◌then◌else◌, Option, Some, None}
use Rattle.tick_timers.specs.declared.durations.TheConstants.{T4}
use Rattle.tp_wire.specs.declared.reason.AbortReason.TheVariants.{CtsDuringTransfer, RetransmitLimit, Other}
use Rattle.originator.specs.Link.{Link, packets_of}
use Rattle.originator.specs.States.{Sending as Window, most_resends}
use Rattle.originator.specs.Readers.{link_of, started, without_window}
use Rattle.originator.specs.Endings.{aborts, ended}
use Rattle.originator.specs.declared.endings.Ending.{Ending}
use Rattle.originator.specs.declared.states.OutState.{OutState}
use Rattle.originator.specs.declared.states.OutState.TheVariants.{AwaitCts, Sending, AwaitEnd}
use Rattle.originator.specs.declared.states.Stepped.{Stepped}
use Rattle.originator.specs.declared.states.Stepped.TheVariants.{On, Over}

-- the outcome of a frame: the message continues in this state, or ends in this way
abbrev pub led : Option Ending → OutState → Stepped
led None state = On state
led (Some ending) state = Over (ended (link_of state) ending)

-- the window's last packet: as many as granted, at most to the last one of the message
abbrev pub window_end : Link → (granted next : ℕ) → ℕ
window_end link granted next = min ((next - 1) + granted) (packets_of link)

-- the window from `next` on
abbrev pub window_opened : Link → (unsent resends granted next : ℕ) → Stepped
window_opened link unsent resends granted next =
    On (Sending (record {
      link = link;
      unsent = unsent;
      resends = resends;
      granted = granted;
      next = next;
      at = next;
      until = window_end link granted next;
      announced = false;
    }))

-- there is no window: a hold; a packet that isn't there or is ahead of turn; a packet named again, too often or not; the next packet
abbrev pub cts_without_window : Link → (unsent resends granted next now : ℕ) → Stepped
cts_without_window link unsent resends granted next now =
    if granted == 0 then On (without_window link unsent resends (started now T4))
    else if next == 0 || nat_lt (min unsent (packets_of link)) next then Over (aborts link Other)
    else if nat_lt next unsent && resends == most_resends then Over (aborts link RetransmitLimit)
    else if nat_lt next unsent then window_opened link unsent (resends + 1) granted next
    else window_opened link unsent resends granted next

-- whether a CTS equals the one that opened the window
abbrev pub is_equal_cts : Window → (granted next : ℕ) → Bool
is_equal_cts s granted next = s.granted == granted && s.next == next

-- the window still has a packet that was never queued
abbrev pub has_unsent : Window → Bool
has_unsent s = nat_le s.unsent s.until

-- during a window an equal CTS is ignored; another one drops the window, or aborts if it would lose a new packet
abbrev pub cts_in_window : Window → (granted next now : ℕ) → Stepped
cts_in_window s granted next now =
    if is_equal_cts s granted next then On (Sending s)
    else if has_unsent s then Over (aborts s.link CtsDuringTransfer)
    else cts_without_window s.link s.unsent s.resends granted next now

-- a CTS of the message in each state
abbrev pub on_cts : OutState → (granted next now : ℕ) → Stepped
on_cts (Sending s) granted next now = cts_in_window s granted next now
on_cts (AwaitCts s) granted next now = cts_without_window s.link s.unsent s.resends granted next now
on_cts (AwaitEnd s) granted next now = cts_without_window s.link (packets_of s.link + 1) s.resends granted next now
