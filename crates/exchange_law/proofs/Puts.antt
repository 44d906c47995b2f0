-- A station puts the first frame of its queue on the bus, or queues frames where its lane is pumped.
use Rattle.std.proofs.Common.{◌≡◌, ℕ, ◌+◌, ◌<◌, ◌≤◌, ◌^◌, ◌==◌, nat_lt, Bool, true, false, cond, ◌&&◌, List, [], ◌∷◌, ◌++◌, length, set, Option, Some, None, Err, refl, ap, ◌∙◌, subst, arith}
use Rattle.std.specs.Prelude.{slice_get, unwrap_or, is_some}
use Rattle.std.proofs.lemmas.List.{append-nil}
use Rattle.std.proofs.lemmas.Bool.{ne_eqb, ltb-true}
use Rattle.bus_frame.specs.Frames.{CanFrame}
use Rattle.pgn_ids.specs.Address.{is_one}
use Rattle.pgn_ids.specs.declared.address.Address.{Address}
use Rattle.tx_queue.specs.Queue.{free_places, front}
use Rattle.bus_order.specs.Bus as bus
use Rattle.bus_order.specs.Bus.{is_full}
use Rattle.lane_core.specs.declared.refused.PumpRefused.{PumpRefused}
use Rattle.station_lanes.specs.LaneReaders.{refusal_at}
use Rattle.station_core.specs.Station.{Station, StationStep, new_station}
use Rattle.station_core.specs.Sending as sending
use Rattle.segment_law.specs.Segment.{Segment, place_of, station_at, with_station, counted_frame}
use Rattle.segment_law.specs.Calls.{at_place, at_station, called, replied, applied, pumps, pumps_by, stepped, transmits, done, with_frame, is_address}
use Rattle.segment_law.specs.Record.{Record}
use Rattle.segment_law.specs.Reached.{IsReached}
use Rattle.segment_law.specs.Drive as drive
use Rattle.segment_law.specs.Drive.{events_in, with_call, stops_at, goes_on, pumps_again, puts, with_put, has_queued}
use Rattle.segment_law.specs.declared.call.Call.TheVariants.{Pump, Transmit}
use Rattle.segment_law.specs.declared.refusal.Refusal.TheVariants as refusal
use Rattle.segment_law.specs.declared.reply.Reply.{Reply}
use Rattle.segment_law.specs.declared.reply.Reply.TheVariants.{Done}
use Rattle.segment_law.proofs.Reaching.{reached_call}
use Rattle.exchange_law.proofs.broadcasts.Sweeps.{under_way, events-append, Offers}
use Rattle.exchange_law.proofs.broadcasts.Turns.{Rests, has_room, offers_put}

-- whether a station has something queued
pub queued_is : (seg : Segment) → IsReached seg → (j : ℕ) (z : Station) → slice_get seg.stations j ≡ Some z → has_queued seg z.address ≡ nat_lt 0 (length z.queue)
queued_is seg r j z at =
    let place : place_of seg z.address ≡ Some j = r.places j z at in
    ap (λ (p : Option ℕ). is_some p && nat_lt 0 (length (unwrap_or (elim p as (λ (_ : Option ℕ). Option Station) [ None ↦ None | Some k ↦ slice_get seg.stations k ]) (new_station z.address)).queue)) place
    ∙ ap (λ (o : Option Station). nat_lt 0 (length (unwrap_or o (new_station z.address)).queue)) at

module _ (z : Station) (seg : Segment) (r : IsReached seg) (j : ℕ) where
  -- the first frame of the queue comes on the bus
  module _ (f : CanFrame) (q : List CanFrame) (at : slice_get seg.stations j ≡ Some (record z { queue = f ∷ q })) (n L : ℕ) (rests : Rests n L seg.bus) (some : 1 ≤ n) (fits : L + 1 < 2 ^ 64) where
    place : place_of seg z.address ≡ Some j
    place = r.places j (record z { queue = f ∷ q }) at

    room : is_full seg.bus ≡ false
    room = has_room n L seg.bus rests some fits

    abbrev pub after_put : Segment
    after_put = record { now = seg.now; stations = set seg.stations j (record z { queue = q }); bus = bus.put seg.bus f; counts = counted_frame seg.counts }

    transmit_is : applied seg (Transmit z.address) ≡ (after_put, Done [])
    unfolding called
    transmit_is =
        ap (λ (p : Option ℕ). replied seg (at_place seg p (transmits seg))) place
        ∙ ap (λ (o : Option Station). replied seg (at_station o (transmits seg j))) at
        ∙ ap (λ (b : Bool). replied seg (cond b (Err refusal.BusFull) (done (with_frame (with_station seg j (record z { queue = q })) f)))) room

    front_is : front (station_at seg z.address).queue ≡ Some f
    front_is =
        ap (λ (p : Option ℕ). front (unwrap_or (elim p as (λ (_ : Option ℕ). Option Station) [ None ↦ None | Some k ↦ slice_get seg.stations k ]) (new_station z.address)).queue) place
        ∙ ap (λ (o : Option Station). front (unwrap_or o (new_station z.address)).queue) at

    pub put_reached : IsReached after_put
    put_reached = subst IsReached (ap (λ (x : Segment × Reply). x.0) transmit_is) (reached_call seg r (Transmit z.address) refl)

    pub put_offers : Offers n L 0 f after_put.bus
    put_offers = offers_put n L seg.bus rests some f fits

    pub puts_is : (calls : Record) (t : ℕ) (fs : List CanFrame) → puts (under_way seg calls t fs) z.address ≡ under_way after_put (calls ++ (Transmit z.address, Done []) ∷ []) (t + 1) (fs ++ f ∷ [])
    puts_is calls t fs =
        ap (λ (x : Segment × Reply). goes_on (stops_at (with_call (under_way seg calls t fs) (Transmit z.address) x) x.1) (with_put (front (station_at seg z.address).queue))) transmit_is
        ∙ ap (λ (o : Option CanFrame). with_put o (under_way after_put (calls ++ (Transmit z.address, Done []) ∷ []) t fs)) front_is

    pub put_told : (calls : Record) → events_in (calls ++ (Transmit z.address, Done []) ∷ []) ≡ events_in calls
    put_told calls = events-append calls ((Transmit z.address, Done []) ∷ []) ∙ append-nil (events_in calls)

  -- its lane to one node is pumped, and tells nothing
  module _ (to : Address) (own : is_one to.0 ≡ true) (at : slice_get seg.stations j ≡ Some z) (empty : z.queue ≡ []) (free : refusal_at z.lanes to.0 seg.now ≡ None)
      (new : Station) (does : sending.pumped z to seg.now ≡ record { station = new; events = [] }) where
    pumped_place : place_of seg z.address ≡ Some j
    pumped_place = r.places j z at

    not_null : (to.0 == 254) ≡ false
    not_null = let one : to.0 < 254 = ltb-true to.0 254 own in ne_eqb to.0 254 (λ e. absurd (omega (arith, e, one)))

    abbrev pub after_pump : Segment
    after_pump = record { now = seg.now; stations = set seg.stations j new; bus = seg.bus; counts = seg.counts }

    pump_is : applied seg (Pump z.address to) ≡ (after_pump, Done [])
    unfolding called
    pump_is =
        ap (λ (p : Option ℕ). replied seg (at_place seg p (pumps seg to))) pumped_place
        ∙ ap (λ (o : Option Station). replied seg (at_station o (pumps seg to j))) at
        ∙ ap (λ (b : Bool). replied seg (cond b (Err refusal.NoSuchStation) (pumps_by seg to j z (refusal_at z.lanes to.0 seg.now)))) not_null
        ∙ ap (λ (o : Option PumpRefused). replied seg (pumps_by seg to j z o)) free
        ∙ ap (λ (q : List CanFrame). replied seg (cond (nat_lt (free_places q) 8) (Err refusal.TxFull) (stepped seg j (sending.pumped z to seg.now)))) empty
        ∙ ap (λ (x : StationStep). replied seg (stepped seg j x)) does

    pub pump_reached : is_address to ≡ true → IsReached after_pump
    pump_reached small = subst IsReached (ap (λ (x : Segment × Reply). x.0) pump_is) (reached_call seg r (Pump z.address to) small)

    pub pumps_is : (calls : Record) (t : ℕ) (fs : List CanFrame) → drive.pumps z.address to (under_way seg calls t fs) ≡ under_way after_pump (calls ++ (Pump z.address to, Done []) ∷ []) t fs
    pumps_is calls t fs = ap (λ (x : Segment × Reply). pumps_again z.address to x.1 (with_call (under_way seg calls t fs) (Pump z.address to) x)) pump_is

    pub pump_told : (calls : Record) → events_in (calls ++ (Pump z.address to, Done []) ∷ []) ≡ events_in calls
    pump_told calls = events-append calls ((Pump z.address to, Done []) ∷ []) ∙ append-nil (events_in calls)
