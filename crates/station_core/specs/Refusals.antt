-- Why a call of a station isn't done: of several causes the first. Each rule stands once: `refused` says what a cause makes, and
-- `done` what stands where there is none.
use Rattle.std.specs.Prelude.{◌≡◌, ℕ, nat_lt, Bool, ◌&&◌, not, ◌==◌, if◌then◌else◌, Option, Some, None}
use Rattle.std.specs.Option.{option_map}
use Rattle.pgn_ids.specs.Address.{null_address, is_one}
use Rattle.pgn_ids.specs.declared.address.Address.{Address}
use Rattle.tx_queue.specs.Queue.{free_places}
use Rattle.tp_wire.specs.declared.constants.TheConstants.{MIN_SIZE}
use Rattle.port_table.specs.Refusals as ports
use Rattle.port_table.specs.declared.refused.Refused.{Refused as PortsRefused}
use Rattle.port_table.specs.declared.refused.Refused.TheVariants as of_ports
use Rattle.lane_core.specs.Lane.{longest_to, is_full}
use Rattle.lane_core.specs.declared.refused.PumpRefused.{PumpRefused}
use Rattle.lane_core.specs.declared.refused.PumpRefused.TheVariants as of_lane
use Rattle.station_lanes.specs.LaneReaders.{refusal_at, is_pending_at, queues_abort_at}
use Rattle.station_core.specs.Station.{Station}
use Rattle.station_core.specs.declared.sending.TheConstants.{MOST_PUMPED}
use Rattle.station_core.specs.Sending.{lane_of}
use Rattle.station_core.specs.Timers.{is_due}
use Rattle.station_core.specs.declared.refused.Refused.{Refused}
use Rattle.station_core.specs.declared.refused.Refused.TheVariants.{NoSuchStation, SameStation, TooShort, TooLong, LaneFull, PortsFull, NoSuchPort, PortPaused, PortNotPaused, NothingToSend, NotYet, NothingDue, TxFull}
use Rattle.station_core.specs.declared.refused.Stopped.{Stopped}
use Rattle.station_core.specs.declared.refused.Stopped.TheVariants as stopped

-- why a call that takes memory isn't done: for the first of its causes; for want of memory only if there is none
abbrev pub IsAnswered : (refusal : Option Refused) → (answered : Option Stopped) → Type 0
IsAnswered refusal None = refusal ≡ None
IsAnswered refusal (Some (stopped.Refused cause)) = refusal ≡ Some cause
IsAnswered refusal (Some stopped.OutOfMemory) = refusal ≡ None

-- no station has an address that isn't one node's
abbrev pub making_refusal : (address : Address) → Option Refused
making_refusal address = if is_one address.0 then None else Some NoSuchStation

-- no place of the queue is free
abbrev pub is_queue_full : Station → Bool
is_queue_full st = free_places st.queue == 0

-- Ports

-- the causes of the ports
abbrev pub by_ports : PortsRefused → Refused
by_ports of_ports.PortsFull = PortsFull
by_ports of_ports.NoSuchPort = NoSuchPort
by_ports of_ports.PortPaused = PortPaused
by_ports of_ports.PortNotPaused = PortNotPaused

abbrev pub opens_unless : {A : Type 0} → (refused : Refused → A) → Station → (done : A) → A
opens_unless refused st done = ports.opens_unless (λ cause. refused (by_ports cause)) st.ports done

abbrev pub closes_unless : {A : Type 0} → (refused : Refused → A) → Station → (number : ℕ) → (done : A) → A
closes_unless refused st number done = ports.closes_unless (λ cause. refused (by_ports cause)) st.ports number done

abbrev pub pauses_unless : {A : Type 0} → (refused : Refused → A) → Station → (number : ℕ) → (done : A) → A
pauses_unless refused st number done = ports.pauses_unless (λ cause. refused (by_ports cause)) st.ports number done

abbrev pub resumes_unless : {A : Type 0} → (refused : Refused → A) → Station → (number : ℕ) → (done : A) → A
resumes_unless refused st number done = ports.resumes_unless (λ cause. refused (by_ports cause)) st.ports number done

-- Messages

-- a message of so many bytes from a station to a destination
abbrev pub message_unless : {A : Type 0} → (refused : Refused → A) → (from to : Address) → (len : ℕ) → (done : A) → A
message_unless refused from to len done =
    if to.0 == null_address then refused NoSuchStation
    else if from.0 == to.0 then refused SameStation
    else if nat_lt len MIN_SIZE then refused TooShort
    else if nat_lt (longest_to to.0) len then refused TooLong
    else done

-- such a message is sent, if its lane has room
abbrev pub sends_unless : {A : Type 0} → (refused : Refused → A) → Station → (to : Address) → (len : ℕ) → (done : A) → A
sends_unless refused st to len done = message_unless refused st.address to len (if is_full (lane_of st to) then refused LaneFull else done)

-- the causes of a lane
abbrev pub by_lane : PumpRefused → Refused
by_lane of_lane.NothingToSend = NothingToSend
by_lane of_lane.NotYet = NotYet

-- how many places a pump may need
abbrev pub pump_places : ℕ
pump_places = MOST_PUMPED

-- the lane has a cause, or the queue too few places
abbrev pub pumps_by : {A : Type 0} → (refused : Refused → A) → Station → Option PumpRefused → (done : A) → A
pumps_by refused st (Some cause) done = refused (by_lane cause)
pumps_by refused st None done = if nat_lt (free_places st.queue) pump_places then refused TxFull else done

abbrev pub pumps_unless : {A : Type 0} → (refused : Refused → A) → Station → (to : Address) → (now : ℕ) → (done : A) → A
pumps_unless refused st to now done =
    if to.0 == null_address then refused NoSuchStation
    else pumps_by refused st (refusal_at st.lanes to.0 now) done

abbrev pub cancels_unless : {A : Type 0} → (refused : Refused → A) → Station → (to : Address) → (number : ℕ) → (done : A) → A
cancels_unless refused st to number done =
    if to.0 == null_address then refused NoSuchStation
    else if not (is_pending_at st.lanes to.0 number) then refused NothingToSend
    else if queues_abort_at st.lanes to.0 number && is_queue_full st then refused TxFull
    else done

-- Frames and timers

abbrev pub takes_unless : {A : Type 0} → (refused : Refused → A) → Station → (done : A) → A
takes_unless refused st done = if is_queue_full st then refused TxFull else done

abbrev pub fires_unless : {A : Type 0} → (refused : Refused → A) → Station → (now : ℕ) → (done : A) → A
fires_unless refused st now done =
    if not (is_due st now) then refused NothingDue
    else if is_queue_full st then refused TxFull
    else done

-- The first cause, if there is one

abbrev pub opening_refusal : Station → Option Refused
opening_refusal st = option_map by_ports (ports.opening_refusal st.ports)

abbrev pub closing_refusal : Station → (number : ℕ) → Option Refused
closing_refusal st number = option_map by_ports (ports.closing_refusal st.ports number)

abbrev pub pausing_refusal : Station → (number : ℕ) → Option Refused
pausing_refusal st number = option_map by_ports (ports.pausing_refusal st.ports number)

abbrev pub resuming_refusal : Station → (number : ℕ) → Option Refused
resuming_refusal st number = option_map by_ports (ports.resuming_refusal st.ports number)

abbrev pub message_refusal : (from to : Address) → (len : ℕ) → Option Refused
message_refusal from to len = message_unless Some from to len None

abbrev pub sending_refusal : Station → (to : Address) → (len : ℕ) → Option Refused
sending_refusal st to len = sends_unless Some st to len None

abbrev pub pumping_refusal : Station → (to : Address) → (now : ℕ) → Option Refused
pumping_refusal st to now = pumps_unless Some st to now None

abbrev pub cancelling_refusal : Station → (to : Address) → (number : ℕ) → Option Refused
cancelling_refusal st to number = cancels_unless Some st to number None

abbrev pub taking_refusal : Station → Option Refused
taking_refusal st = takes_unless Some st None

abbrev pub firing_refusal : Station → (now : ℕ) → Option Refused
firing_refusal st now = fires_unless Some st now None
