-- Every call gives within the lives of ports.
use Rattle.std.proofs.Common.{◌≡◌, ℕ, true, false, [], set, Some, refl, sym, subst}
use Rattle.std.specs.Prelude.{slice_get}
use Rattle.tx_queue.specs.Queue.{behind}
use Rattle.port_table.specs.declared.port.PortId.{PortId}
use Rattle.lane_core.specs.Pump as lane-pump
use Rattle.lane_core.specs.Cancel as lane-cancel
use Rattle.station_core.specs.Station.{Station, StationStep, quietly}
use Rattle.station_core.specs.Sending.{sent}
use Rattle.station_core.specs.Timers.{fired}
use Rattle.station_core.specs.Taking.{taken}
use Rattle.station_core.specs.Overruns.{overrun}
use Rattle.segment_law.specs.Told.{opened_by, closed_by}
use Rattle.segment_law.specs.Segment.{Segment}
use Rattle.segment_law.specs.Calls.{applied, events_of}
use Rattle.segment_law.specs.Reached.{IsReached}
use Rattle.segment_law.specs.declared.call.Call.{Call}
use Rattle.segment_law.specs.declared.call.Call.TheVariants.{Open, Close, Send, Pump, Transmit, Take, TakeAgain, Overrun, Tick, Fire, Cancel, Inject, Pause, Resume}
use Rattle.segment_law.specs.declared.refusal.Refusal.{Refusal}
use Rattle.segment_law.specs.declared.reply.Reply.{Reply}
use Rattle.segment_law.specs.declared.reply.Reply.TheVariants.{Refused}
use Rattle.record_law.proofs.EachCall.{OfStation, each_applied}
use Rattle.record_law.proofs.ports.Calls.{Good, Goes, goes_same, goes_acts, goes_opened, goes_paused, goes_closed}
use Rattle.record_law.proofs.ports.Lives.{Openings, Closings}
use Rattle.record_law.proofs.ports.Receptions.{AreBound}
use Rattle.record_law.proofs.ports.Stations.{Acts, acts_lane, acts_taken, acts_fired, acts_overrun}

module _ (p : PortId) (n : ℕ) (os : Openings) (cs : Closings) where
  abbrev GoesBy : Call → Segment × Reply → Type 0
  GoesBy call step = Goes p n os cs (opened_by p call step.1) (closed_by p call step.1) step.0.stations (events_of step.1)

  -- a call that is refused opens and closes nothing
  refused_tells : (call : Call) (cause : Refusal) → (opened_by p call (Refused cause) ≡ []) × (closed_by p call (Refused cause) ≡ [])
  refused_tells (Open station pgn max_len) cause = (refl, refl)
  refused_tells (Close port) cause = (refl, refl)
  refused_tells (Send from to pgn bytes) cause = (refl, refl)
  refused_tells (Pump station to) cause = (refl, refl)
  refused_tells (Transmit station) cause = (refl, refl)
  refused_tells (Take station room) cause = (refl, refl)
  refused_tells (TakeAgain station room) cause = (refl, refl)
  refused_tells (Overrun station k) cause = (refl, refl)
  refused_tells (Tick k) cause = (refl, refl)
  refused_tells (Fire station) cause = (refl, refl)
  refused_tells (Cancel from to number) cause = (refl, refl)
  refused_tells (Inject frame) cause = (refl, refl)
  refused_tells (Pause port) cause = (refl, refl)
  refused_tells (Resume port) cause = (refl, refl)

  module _ (seg : Segment) (r : IsReached seg) (good : Good p n os cs seg.stations) where
    refused_goes : (call : Call) (cause : Refusal) → GoesBy call (seg, Refused cause)
    refused_goes call cause =
        let t = refused_tells call cause in
        subst (λ xs. Goes p n os cs xs (closed_by p call (Refused cause)) seg.stations []) (sym t.0)
        (subst (λ ys. Goes p n os cs [] ys seg.stations []) (sym t.1) (goes_same p n os cs seg.stations good))

    module _ (i : ℕ) (st : Station) (at : slice_get seg.stations i ≡ Some st) where
      own : st.ports.station ≡ st.address
      own = (good i st at).0.own

      each : AreBound st.ports st.sessions
      each = (good i st at).0.sessions

      acts : (step : StationStep) → Acts st step → Goes p n os cs [] [] (set seg.stations i step.station) step.events
      acts step h = goes_acts p n os cs seg.stations good i st at step h

      quiet : (new : Station) → new.address ≡ st.address → new.ports ≡ st.ports → new.sessions ≡ st.sessions → Goes p n os cs [] [] (set seg.stations i new) []
      quiet new address ports sessions = acts (quietly new) (record { address = address; ports = ports; sessions = subst (AreBound st.ports) (sym sessions) each; events = tt })

      of_station : OfStation seg GoesBy i st
      of_station = record {
        opens = λ a pgn max_len q. goes_opened p n os cs seg.stations good i st at pgn max_len;
        closes = λ port q is. goes_closed p n os cs seg.stations good i st at port is q r.places;
        sends = λ from to pgn bytes q other long short. quiet (sent st to pgn bytes) refl refl refl;
        pumps = λ a to q. acts _ (acts_lane st own each to (λ l. lane-pump.pumped l seg.now));
        transmits = λ a f q e free. quiet (record st { queue = behind st.queue }) refl refl refl;
        takes = λ a room f q e free. acts (taken st f room seg.now) (acts_taken st own each f room seg.now);
        repeats = λ a room f q e free. acts (taken st f room seg.now) (acts_taken st own each f room seg.now);
        overruns = λ a k q few. acts (overrun st) (acts_overrun st own each);
        fires = λ a q. acts (fired st seg.now) (acts_fired st own each seg.now);
        cancels = λ from to number q pending. acts _ (acts_lane st own each to (λ l. lane-cancel.cancelled l number));
        pauses = λ port q. goes_paused p n os cs seg.stations good i st at port.number true;
        resumes = λ port q. goes_paused p n os cs seg.stations good i st at port.number false;
      }

    pub goes_call : (call : Call) → GoesBy call (applied seg call)
    goes_call call = each_applied seg GoesBy (record { station = of_station; ticks = λ k. goes_same p n os cs seg.stations good; injects = λ f foreign free. goes_same p n os cs seg.stations good }) refused_goes call
