-- Why calls on a station are refused: for the first of the station's causes. Where there is none, the station makes them.
use Rattle.std.proofs.Common.{◌≡◌, ℕ, Bool, true, false, List, length, Option, Some, None, Ok, Err, IsOk, ◌+◌, ◌==◌, nat_lt, not, ◌&&◌, cond, refl, sym, ap, ◌∙◌, subst}
use Rattle.std.specs.Option.{option_map}
use Rattle.bus_frame.specs.Frames.{CanFrame}
use Rattle.bus_order.specs.Bus as bus
use Rattle.pgn_ids.specs.Address.{null_address}
use Rattle.pgn_ids.specs.declared.address.Address.{Address}
use Rattle.tp_wire.specs.declared.constants.TheConstants.{MIN_SIZE}
use Rattle.tx_queue.specs.Queue.{free_places}
use Rattle.port_table.specs.Ports.{are_full, is_open, is_paused, with_port, with_paused, next_id}
use Rattle.port_table.specs.declared.refused.Refused.{Refused as PortsRefused}
use Rattle.port_table.specs.declared.refused.Refused.TheVariants as of_ports
use Rattle.lane_core.specs.Lane.{longest_to, is_full}
use Rattle.lane_core.specs.declared.refused.PumpRefused.{PumpRefused}
use Rattle.station_lanes.specs.LaneReaders.{refusal_at, is_pending_at, queues_abort_at}
use Rattle.station_core.specs.Station.{Station}
use Rattle.station_core.specs.Sending.{lane_of, sent, pumped, cancelled}
use Rattle.station_core.specs.Closing.{closed}
use Rattle.station_core.specs.Timers.{is_due, fired}
use Rattle.station_core.specs.Refusals.{IsAnswered, by_ports, pumps_by as pumps_by_lane, opening_refusal, closing_refusal, pausing_refusal, resuming_refusal, sending_refusal, pumping_refusal, taking_refusal, firing_refusal, cancelling_refusal}
use Rattle.station_core.specs.declared.refused.Refused.{Refused as Cause}
use Rattle.station_core.specs.declared.refused.Refused.TheVariants as cause
use Rattle.station_core.specs.declared.refused.Stopped.{Stopped}
use Rattle.station_core.specs.declared.refused.Stopped.TheVariants as stopped
use Rattle.segment_law.specs.Segment.{Segment, with_station, counted_repeat}
use Rattle.segment_law.specs.Calls.{Answer, done, refused, stepped, looks, no_place, pump_places, opens, closes, pauses, resumes, sends, pumps_by, pumps, cancels, takes_by, takes, repeats_by, repeats, fires}
use Rattle.segment_law.specs.declared.reply.Reply.TheVariants.{Opened, Sent}
use Rattle.segment_state.specs.declared.stop.Stop.{Stop}
use Rattle.segment_state.specs.Answers.{IsAnswer, refusal_of, stop_for, stop_of, first_refusal}

-- the answer to a call whose station names this cause first
abbrev pub answered_by : Option Cause → Answer → Answer
answered_by None does = does
answered_by (Some c) does = refused c

-- Each call, by the first cause of its station

-- one cause before the others
unless : {A : Type 0} (f : Option A → Option Cause) (b : Bool) (a : A) (o : Option A) (rest does : Answer) (stops : Answer) → answered_by (f (Some a)) does ≡ stops → rest ≡ answered_by (f o) does → cond b stops rest ≡ answered_by (f (cond b (Some a) o)) does
unless f true a o rest does stops e r = sym e
unless f false a o rest does stops e r = r

-- of a station itself
of_station : (b : Bool) (c : Cause) (o : Option Cause) (rest does : Answer) → rest ≡ answered_by o does → cond b (refused c) rest ≡ answered_by (cond b (Some c) o) does
of_station b c o rest does r = unless (λ o. o) b c o rest does (refused c) refl r

-- of its ports
of_port : (b : Bool) (c : PortsRefused) (o : Option PortsRefused) (rest does : Answer) → rest ≡ answered_by (option_map by_ports o) does → cond b (refused (by_ports c)) rest ≡ answered_by (option_map by_ports (cond b (Some c) o)) does
of_port b c o rest does r = unless (option_map by_ports) b c o rest does (refused (by_ports c)) refl r

module _ (seg : Segment) (i : ℕ) (st : Station) where
  pub opens_by : (pgn max_len : ℕ) → opens seg pgn max_len i st ≡ answered_by (opening_refusal st) (Ok (with_station seg i (record st { ports = with_port st.ports pgn max_len }), Opened (next_id st.ports)))
  opens_by pgn max_len = of_port (are_full st.ports) of_ports.PortsFull None _ _ refl

  pub closes_by : (number : ℕ) → closes seg number i st ≡ answered_by (closing_refusal st number) (done (with_station seg i (closed st number)))
  closes_by number = of_port (not (is_open st.ports number)) of_ports.NoSuchPort None _ _ refl

  pub pauses_by : (number : ℕ) → pauses seg number i st ≡ answered_by (pausing_refusal st number) (done (with_station seg i (record st { ports = with_paused st.ports number true })))
  pauses_by number = of_port (not (is_open st.ports number)) of_ports.NoSuchPort _ _ _ (of_port (is_paused st.ports number) of_ports.PortPaused None _ _ refl)

  pub resumes_by : (number : ℕ) → resumes seg number i st ≡ answered_by (resuming_refusal st number) (done (with_station seg i (record st { ports = with_paused st.ports number false })))
  resumes_by number = of_port (not (is_open st.ports number)) of_ports.NoSuchPort _ _ _ (of_port (not (is_paused st.ports number)) of_ports.PortNotPaused None _ _ refl)

  pub sends_by : (to : Address) (pgn : ℕ) (bytes : List ℕ) → sends seg to pgn bytes i st ≡ answered_by (sending_refusal st to (length bytes)) (Ok (with_station seg i (sent st to pgn bytes), Sent ((lane_of st to).sent + 1)))
  sends_by to pgn bytes =
      of_station (to.0 == null_address) cause.NoSuchStation _ _ _
      (of_station (st.address.0 == to.0) cause.SameStation _ _ _
      (of_station (nat_lt (length bytes) MIN_SIZE) cause.TooShort _ _ _
      (of_station (nat_lt (longest_to to.0) (length bytes)) cause.TooLong _ _ _
      (of_station (is_full (lane_of st to)) cause.LaneFull None _ _ refl))))

  pub pumps_are : (to : Address) → pumps seg to i st ≡ answered_by (pumping_refusal st to seg.now) (stepped seg i (pumped st to seg.now))
  pumps_are to = of_station (to.0 == null_address) cause.NoSuchStation _ _ _ (by (refusal_at st.lanes to.0 seg.now))
    where
      by : (o : Option PumpRefused) → pumps_by seg to i st o ≡ answered_by (pumps_by_lane Some st o None) (stepped seg i (pumped st to seg.now))
      by (Some c) = refl
      by None = of_station (nat_lt (free_places st.queue) pump_places) cause.TxFull None _ _ refl

  pub cancels_by : (to : Address) (number : ℕ) → cancels seg to number i st ≡ answered_by (cancelling_refusal st to number) (stepped seg i (cancelled st to number))
  cancels_by to number =
      of_station (to.0 == null_address) cause.NoSuchStation _ _ _
      (of_station (not (is_pending_at st.lanes to.0 number)) cause.NothingToSend _ _ _
      (of_station (queues_abort_at st.lanes to.0 number && no_place st) cause.TxFull None _ _ refl))

  pub takes_are : (room : Bool) (frame : CanFrame) → Some frame ≡ bus.next_frame seg.bus i → takes seg room i st ≡ answered_by (taking_refusal st) (looks (record seg { bus = bus.released (bus.taken seg.bus i) }) room i st frame)
  takes_are room frame next = ap (takes_by seg room i st) (sym next) ∙ of_station (no_place st) cause.TxFull None _ _ refl

  pub repeats_are : (room : Bool) (frame : CanFrame) → Some frame ≡ bus.frame_again seg.bus i → repeats seg room i st ≡ answered_by (taking_refusal st) (looks (record seg { counts = counted_repeat seg.counts }) room i st frame)
  repeats_are room frame again = ap (repeats_by seg room i st) (sym again) ∙ of_station (no_place st) cause.TxFull None _ _ refl

  pub fires_by : fires seg i st ≡ answered_by (firing_refusal st seg.now) (stepped seg i (fired st seg.now))
  fires_by = of_station (not (is_due st seg.now)) cause.NothingDue _ _ _ (of_station (no_place st) cause.TxFull None _ _ refl)

-- What follows of such an answer

module _ (answer does : Answer) (first : Option Cause) (is : answer ≡ answered_by first does) where
  -- it is as this cause says
  by_cause : (o : Option Cause) → first ≡ o → answer ≡ answered_by o does
  by_cause o e = is ∙ ap (λ (o : Option Cause). answered_by o does) e

  -- it is made where no cause holds
  pub goes_on : first ≡ None → answer ≡ does
  goes_on none = by_cause None none

  -- it ends for the first cause
  pub refuses : (seg after : Segment) (why : Cause) (stop : Stop) → stop ≡ stop_for why → IsOk does → after ≡ seg → Some why ≡ first → IsAnswer answer seg after (Err stop)
  refuses seg after why stop says ok same h = subst (λ (s : Stop). IsAnswer answer seg after (Err s)) (sym says) (by_cause (Some why) (sym h), same)

  -- or finds no memory where there is none
  ends : (seg after : Segment) (why : Stopped) → IsOk does → after ≡ seg → IsAnswered first (Some why) → IsAnswer answer seg after (Err (stop_of why))
  ends seg after (stopped.Refused c) ok same h = (by_cause (Some c) h, same)
  ends seg after stopped.OutOfMemory ok same h = (subst (λ (x : Answer). IsOk x) (sym (goes_on h)) ok, same)

  pub stops : (seg after : Segment) (why : Stopped) (stop : Stop) → stop ≡ stop_of why → IsOk does → after ≡ seg → IsAnswered first (Some why) → IsAnswer answer seg after (Err stop)
  stops seg after why stop says ok same h = subst (λ (s : Stop). IsAnswer answer seg after (Err s)) (sym says) (ends seg after why ok same h)

  -- why it is refused
  pub refused_for : None ≡ refusal_of does → first_refusal first ≡ refusal_of answer
  refused_for none = by first is
    where
      by : (o : Option Cause) → answer ≡ answered_by o does → first_refusal o ≡ refusal_of answer
      by None e = none ∙ sym (ap refusal_of e)
      by (Some c) e = sym (ap refusal_of e)
