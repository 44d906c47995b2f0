-- The sender of a message to all queues its frames one by one (SAE J1939-21, TP.CM_BAM, TP.DT), and puts each on the bus.
use Rattle.std.proofs.Common.{◌≡◌, ℕ, suc, ◌+◌, ◌<◌, ◌≤◌, ◌==◌, Bool, true, false, cond, not, List, [], ◌∷◌, length, set, Option, Some, None, Err, refl, sym, ap, ◌∙◌, arith, add-one}
use Rattle.std.specs.Prelude.{nat_le, slice_get, unwrap_or}
use Rattle.std.proofs.lemmas.Bool.{le-leb, lt-leb, ne_eqb, eq-eqb}
use Rattle.std.specs.Cmp.{nat_cmp_total}
use Rattle.std.specs.Ordering.{nat_cmp, eq_by_cmp}
use Rattle.std.specs.FinMap as finmap
use Rattle.std.specs.FinMap.{get-insert, same_map, nat_cmp-IsAntisymmetric}
use Rattle.bus_frame.specs.Frames.{CanFrame}
use Rattle.tp_wire.specs.declared.outcome.Outcome.TheVariants as outcome
use Rattle.seg_cut.specs.Packets.{packet_count}
use Rattle.tick_timers.specs.declared.durations.TheConstants.{BROADCAST_GAP}
use Rattle.bam_session.specs.States.{Outgoing}
use Rattle.bam_session.specs.Frames.{announcement, next_packet}
use Rattle.bam_session.specs.declared.outgoing.BamPumped.TheVariants as pumping
use Rattle.tx_queue.specs.Queue.{front}
use Rattle.bus_order.specs.Bus as bus
use Rattle.lane_core.specs.Lane.{Lane}
use Rattle.lane_core.specs.Pump.{pump_refusal, pumped, after_packet, missing}
use Rattle.lane_core.specs.declared.message.Pending.{Pending}
use Rattle.lane_core.specs.declared.place.UnderWay.{UnderWay}
use Rattle.lane_core.specs.declared.place.UnderWay.TheVariants.{Nothing, Broadcast}
use Rattle.lane_core.specs.declared.probe.Standing.TheVariants.{Settled}
use Rattle.lane_core.specs.declared.probe.Token.{Token}
use Rattle.lane_core.specs.declared.refused.PumpRefused.{PumpRefused}
use Rattle.lane_core.specs.declared.refused.PumpRefused.TheVariants as pump
use Rattle.lane_core.specs.declared.step.Ended.{Ended}
use Rattle.lane_core.specs.Step.{LaneStep}
use Rattle.station_lanes.specs.Lanes.{Lanes}
use Rattle.station_lanes.specs.LaneCalls.{outcome_of}
use Rattle.station_lanes.specs.LaneReaders.{refusal_at, missing_at}
use Rattle.message_events.specs.declared.event.Event.{Event}
use Rattle.station_core.specs.Station.{Station, StationStep, new_station}
use Rattle.station_core.specs.Sending as sending
use Rattle.segment_law.specs.Segment.{Segment, place_of, station_at, with_station, counted, counted_frame}
use Rattle.segment_law.specs.Calls.{at_place, at_station, called, replied, applied, pumps, pumps_by, stepped, transmits, done, with_frame}
use Rattle.segment_law.specs.declared.call.Call.TheVariants.{Pump, Transmit}
use Rattle.segment_law.specs.declared.refusal.Refusal.TheVariants as refusal
use Rattle.segment_law.specs.declared.reply.Reply.TheVariants.{Refused, Done}
use Rattle.exchange_law.proofs.broadcasts.Receivers.{all}

module _ (xs : Station) (m : Pending) (more : List Pending) (number : ℕ) (token : Token) where
  abbrev lane_with : List Pending → UnderWay → Lane
  lane_with pending u = record { from = xs.address.0; to = 255; sent = number; pending = pending; under_way = u; standing = Settled; token = token }

  -- before the message begins
  abbrev pub ready : Lane
  ready = lane_with (m ∷ more) Nothing

  -- the BAM and so many packets were queued, the last at a tick
  abbrev pub going : ℕ → ℕ → Lane
  going k t = lane_with (m ∷ more) (Broadcast (record { from = xs.address.0; len = length m.bytes; next = suc k; gap = record { started = t; ticks = BROADCAST_GAP } }))

  -- the message has its outcome
  abbrev pub over_with : Lane
  over_with = lane_with more Nothing

  abbrev pub says_one : CanFrame → Option Ended → LaneStep
  says_one f e = record { frames = f ∷ []; ended = e }

  abbrev out : ℕ → ℕ → Outgoing
  out k t = record { from = xs.address.0; len = length m.bytes; next = suc k; gap = record { started = t; ticks = BROADCAST_GAP } }

  pub begins_now : (now : ℕ) → pumped ready now ≡ (going 0 now, says_one (announcement xs.address.0 m.pgn (length m.bytes)) None)
  begins_now now = refl

  due : (t now : ℕ) → t + BROADCAST_GAP ≤ now → nat_le (t + BROADCAST_GAP) now ≡ true
  due t now le = le-leb (t + BROADCAST_GAP) now le

  pub goes_now : (k t now : ℕ) → t + BROADCAST_GAP ≤ now → suc k < packet_count (length m.bytes) → pumped (going k t) now ≡ (going (suc k) now, says_one (next_packet (out k t) m.bytes) None)
  goes_now k t now le few =
      let c : (suc k == packet_count (length m.bytes)) ≡ false = ne_eqb (suc k) (packet_count (length m.bytes)) (λ e. absurd (omega (arith, e, few))) in
      ap (λ (b : Bool). after_packet (going k t) (cond (not b) (pumping.NotYet (out k t)) (cond (suc k == packet_count (length m.bytes)) (pumping.Last (next_packet (out k t) m.bytes)) (pumping.On (record (out k t) { next = suc k + 1; gap = record { started = now; ticks = BROADCAST_GAP } }) (next_packet (out k t) m.bytes))))) (due t now le)
      ∙ ap (λ (b : Bool). after_packet (going k t) (cond b (pumping.Last (next_packet (out k t) m.bytes)) (pumping.On (record (out k t) { next = suc k + 1; gap = record { started = now; ticks = BROADCAST_GAP } }) (next_packet (out k t) m.bytes)))) c
      ∙ ap (λ (n : ℕ). after_packet (going k t) (pumping.On (record (out k t) { next = n; gap = record { started = now; ticks = BROADCAST_GAP } }) (next_packet (out k t) m.bytes))) (add-one (suc k))

  pub ends_now : (k t now : ℕ) → t + BROADCAST_GAP ≤ now → suc k ≡ packet_count (length m.bytes) → pumped (going k t) now ≡ (over_with, says_one (next_packet (out k t) m.bytes) (Some (record { number = m.number; outcome = outcome.Broadcast })))
  ends_now k t now le last =
      let c : (suc k == packet_count (length m.bytes)) ≡ true = eq-eqb (suc k) (packet_count (length m.bytes)) last in
      ap (λ (b : Bool). after_packet (going k t) (cond (not b) (pumping.NotYet (out k t)) (cond (suc k == packet_count (length m.bytes)) (pumping.Last (next_packet (out k t) m.bytes)) (pumping.On (record (out k t) { next = suc k + 1; gap = record { started = now; ticks = BROADCAST_GAP } }) (next_packet (out k t) m.bytes))))) (due t now le)
      ∙ ap (λ (b : Bool). after_packet (going k t) (cond b (pumping.Last (next_packet (out k t) m.bytes)) (pumping.On (record (out k t) { next = suc k + 1; gap = record { started = now; ticks = BROADCAST_GAP } }) (next_packet (out k t) m.bytes)))) c

  pub ready_pumps : (now : ℕ) → pump_refusal ready now ≡ None
  ready_pumps now = refl

  pub going_pumps : (k t now : ℕ) → t + BROADCAST_GAP ≤ now → pump_refusal (going k t) now ≡ None
  going_pumps k t now le = ap (λ (b : Bool). cond {A = Option PumpRefused} b None (Some pump.NotYet)) (due t now le)

  pub going_waits : (k t : ℕ) → pump_refusal (going k t) t ≡ Some pump.NotYet
  going_waits k t =
      let late : nat_le (t + BROADCAST_GAP) t ≡ false = lt-leb (t + BROADCAST_GAP) t (omega arith) in
      ap (λ (b : Bool). cond {A = Option PumpRefused} b None (Some pump.NotYet)) late

  pub going_misses : (k t : ℕ) → missing (going k t) t ≡ BROADCAST_GAP
  going_misses k t = omega arith

  -- the sender, with its lane to all in a state
  abbrev pub sends : List CanFrame → Lane → Station
  sends queue l = record xs { queue = queue; lanes = finmap.insert xs.lanes 255 l }

  lane_there : (l : Lane) → finmap.get (finmap.insert xs.lanes 255 l) 255 ≡ Some l
  lane_there l = get-insert nat_cmp_total xs.lanes 255 l 255

  insert_over : (a b : Lane) → finmap.insert (finmap.insert xs.lanes 255 a) 255 b ≡ finmap.insert xs.lanes 255 b
  insert_over a b = same_map nat_cmp_total nat_cmp-IsAntisymmetric _ _ (λ q. get-insert nat_cmp_total (finmap.insert xs.lanes 255 a) 255 b q ∙ by q (eq_by_cmp nat_cmp q 255) refl ∙ sym (get-insert nat_cmp_total xs.lanes 255 b q))
    where
      by : (q : ℕ) (t : Bool) → eq_by_cmp nat_cmp q 255 ≡ t → cond t (Some b) (finmap.get (finmap.insert xs.lanes 255 a) q) ≡ cond t (Some b) (finmap.get xs.lanes q)
      by q true e = refl
      by q false e = get-insert nat_cmp_total xs.lanes 255 a q ∙ ap (λ c. cond c (Some a) (finmap.get xs.lanes q)) e

  module _ (seg : Segment) (i : ℕ) (l : Lane) (place : place_of seg xs.address ≡ Some i) (at : slice_get seg.stations i ≡ Some (sends [] l)) where
    refusal_is : (o : Option PumpRefused) → pump_refusal l seg.now ≡ o → refusal_at (sends [] l).lanes 255 seg.now ≡ o
    refusal_is o e = ap (λ (x : Option Lane). elim x as (λ (_ : Option Lane). Option PumpRefused) [ None ↦ Some pump.NothingToSend | Some y ↦ pump_refusal y seg.now ]) (lane_there l) ∙ e

    pumps_is : (o : Option PumpRefused) → pump_refusal l seg.now ≡ o → applied seg (Pump xs.address all) ≡ replied seg (pumps_by seg all i (sends [] l) o)
    unfolding called
    pumps_is o e =
        ap (λ (p : Option ℕ). replied seg (at_place seg p (pumps seg all))) place
        ∙ ap (λ (st : Option Station). replied seg (at_station st (pumps seg all i))) at
        ∙ ap (λ (r : Option PumpRefused). replied seg (pumps_by seg all i (sends [] l) r)) (refusal_is o e)

    pub too_soon : pump_refusal l seg.now ≡ Some pump.NotYet → applied seg (Pump xs.address all) ≡ (seg, Refused refusal.NotYet)
    too_soon e = pumps_is (Some pump.NotYet) e

    pub misses : missing_at (station_at seg xs.address).lanes 255 seg.now ≡ missing l seg.now
    misses =
        ap (λ (p : Option ℕ). missing_at (unwrap_or (elim p as (λ (_ : Option ℕ). Option Station) [ None ↦ None | Some j ↦ slice_get seg.stations j ]) (new_station xs.address)).lanes 255 seg.now) place
        ∙ ap (λ (o : Option Station). missing_at (unwrap_or o (new_station xs.address)).lanes 255 seg.now) at
        ∙ ap (λ (x : Option Lane). elim x as (λ (_ : Option Lane). ℕ) [ None ↦ 0 | Some y ↦ missing y seg.now ]) (lane_there l)

    module _ (after : Lane) (f : CanFrame) (e : Option Ended) (free : pump_refusal l seg.now ≡ None) (does : pumped l seg.now ≡ (after, says_one f e)) where
      abbrev pub told : List Event
      told = outcome_of xs.address all e

      step_is : sending.pumped (sends [] l) all seg.now ≡ record { station = sends (f ∷ []) after; events = told }
      step_is =
          ap (λ (x : Option Lane). (let r : StationStep = record {
            station = record xs { queue = (elim x as (λ (_ : Option Lane). LaneStep) [ None ↦ record { frames = []; ended = None } | Some y ↦ (pumped y seg.now).1 ]).frames; lanes = elim x as (λ (_ : Option Lane). Lanes) [ None ↦ finmap.insert xs.lanes 255 l | Some y ↦ finmap.insert (finmap.insert xs.lanes 255 l) 255 (pumped y seg.now).0 ] };
            events = outcome_of xs.address all (elim x as (λ (_ : Option Lane). LaneStep) [ None ↦ record { frames = []; ended = None } | Some y ↦ (pumped y seg.now).1 ]).ended;
          } in r)) (lane_there l)
          ∙ ap (λ (p : Lane × LaneStep). (let r : StationStep = record { station = record xs { queue = p.1.frames; lanes = finmap.insert (finmap.insert xs.lanes 255 l) 255 p.0 }; events = outcome_of xs.address all p.1.ended } in r)) does
          ∙ ap (λ (ls : Lanes). (let r : StationStep = record { station = record xs { queue = f ∷ []; lanes = ls }; events = told } in r)) (insert_over l after)

      abbrev pub pumped_segment : Segment
      pumped_segment = record { now = seg.now; stations = set seg.stations i (sends (f ∷ []) after); bus = seg.bus; counts = counted seg.counts told }

      pub pump_is : applied seg (Pump xs.address all) ≡ (pumped_segment, Done told)
      pump_is = pumps_is None free ∙ ap (λ (r : StationStep). replied seg (stepped seg i r)) step_is

  -- the frame leaves the queue
  module _ (seg : Segment) (i : ℕ) (l : Lane) (f : CanFrame) (place : place_of seg xs.address ≡ Some i) (at : slice_get seg.stations i ≡ Some (sends (f ∷ []) l)) (room : bus.is_full seg.bus ≡ false) where
    abbrev pub put_segment : Segment
    put_segment = record { now = seg.now; stations = set seg.stations i (sends [] l); bus = bus.put seg.bus f; counts = counted_frame seg.counts }

    pub transmit_is : applied seg (Transmit xs.address) ≡ (put_segment, Done [])
    unfolding called
    transmit_is =
        ap (λ (p : Option ℕ). replied seg (at_place seg p (transmits seg))) place
        ∙ ap (λ (st : Option Station). replied seg (at_station st (transmits seg i))) at
        ∙ ap (λ (b : Bool). replied seg (cond b (Err refusal.BusFull) (done (with_frame (with_station seg i (sends [] l)) f)))) room

    pub front_is : front (station_at seg xs.address).queue ≡ Some f
    front_is =
        ap (λ (p : Option ℕ). front (unwrap_or (elim p as (λ (_ : Option ℕ). Option Station) [ None ↦ None | Some j ↦ slice_get seg.stations j ]) (new_station xs.address)).queue) place
        ∙ ap (λ (o : Option Station). front (unwrap_or o (new_station xs.address)).queue) at
