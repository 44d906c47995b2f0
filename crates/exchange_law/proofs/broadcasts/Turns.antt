-- One turn of a drive: the sender queues a frame, puts it on the bus, and every station takes it.
use Rattle.std.proofs.Common.{◌≡◌, ℕ, zero, suc, ◌+◌, ◌-◌, ◌<◌, ◌≤◌, ◌^◌, Bool, true, false, cond, not, ◌&&◌, List, [], ◌∷◌, ◌++◌, length, set, get_or, Option, Some, None, Ok, Err, refl, sym, ap, ◌∙◌, subst, arith, length-set}
use Rattle.std.specs.Prelude.{All, nat_le, nat_lt, slice_get, unwrap_or}
use Rattle.std.proofs.lemmas.List.{append-nil, length_push, get_or_default}
use Rattle.std.proofs.lemmas.Option.{get_or_from_slice_get, slice_get_within}
use Rattle.std.proofs.lemmas.Bool.{le-leb, lt-leb, lt-ltb}
use Rattle.bus_frame.specs.Frames.{CanFrame}
use Rattle.pgn_ids.specs.declared.address.Address.{Address}
use Rattle.tick_timers.specs.declared.durations.TheConstants.{BROADCAST_GAP}
use Rattle.tx_queue.specs.Queue.{front}
use Rattle.bus_order.specs.Bus as bus
use Rattle.bus_order.specs.Bus.{Bus, start, bus_len, cursor_at, lowest, is_full}
use Rattle.bus_order.proofs.Cursors.{lowest_above}
use Rattle.bus_order.proofs.Lists.{slice_get-right}
use Rattle.lane_core.specs.Lane.{Lane}
use Rattle.lane_core.specs.Pump.{pump_refusal, pumped, missing}
use Rattle.lane_core.specs.declared.message.Pending.{Pending}
use Rattle.lane_core.specs.declared.probe.Token.{Token}
use Rattle.lane_core.specs.declared.refused.PumpRefused.TheVariants as pump
use Rattle.lane_core.specs.declared.step.Ended.{Ended}
use Rattle.station_lanes.specs.LaneCalls.{outcome_of}
use Rattle.message_events.specs.declared.event.Event.{Event}
use Rattle.station_core.specs.Station.{Station, new_station}
use Rattle.segment_law.specs.Segment.{Segment, place_of, has_station, station_at}
use Rattle.segment_law.specs.Calls.{applied, called, replied}
use Rattle.segment_law.specs.Record.{Record}
use Rattle.segment_law.specs.Reached.{IsFitBus, IsReached}
use Rattle.segment_law.specs.Drive.{Driven, events_in, with_call, stops_at, goes_on, makes, pumps_again, pumps, puts, with_put, has_queued, turn_puts, all_take}
use Rattle.segment_law.specs.declared.call.Call.TheVariants.{Pump, Transmit, Tick}
use Rattle.segment_law.specs.declared.refusal.Refusal.TheVariants as refusal
use Rattle.segment_law.specs.declared.reply.Reply.{Reply}
use Rattle.segment_law.specs.declared.reply.Reply.TheVariants.{Refused, Done}
use Rattle.segment_law.proofs.Buses.{put_fits}
use Rattle.segment_law.proofs.Reaching.{reached_call, slice_get_same}
use Rattle.exchange_law.proofs.broadcasts.Sweeps.{under_way, events-append, Offers, Swept, sweep, after, told_by}
use Rattle.exchange_law.proofs.broadcasts.Receivers.{all}
use Rattle.exchange_law.proofs.broadcasts.Senders.{sends, says_one, pumped_segment, pump_is, too_soon, misses, put_segment, transmit_is, front_is}

-- so many stations, all of which stand at the newest frame
pub record Rests (n L : ℕ) (b : Bus) : Type 0 where
  pub fit : IsFitBus n b
  pub len : bus_len b ≡ L
  pub took : (i : ℕ) → i < n → (cursor_at b i).place ≡ L

pub offers_rests : (n L : ℕ) (f : CanFrame) (b : Bus) → Offers n L n f b → Rests n (L + 1) b
offers_rests n L f b o = record { fit = o.fit; len = o.len; took = o.took }

module _ (n L : ℕ) (b : Bus) (r : Rests n L b) (some : 1 ≤ n) where
  few_kept : length b.kept ≤ 1
  few_kept =
      let low : L ≤ lowest b.cursors = lowest_above L b.cursors (omega (arith, some, r.fit.cursors)) (λ k d lt. let at : (cursor_at b k).place ≡ L = r.took k (omega (arith, lt, r.fit.cursors)) in same k d lt at) in
      omega (arith, low, r.fit.released, r.len)
    where
      same : (k : ℕ) (d : bus.Cursor) → k < length b.cursors → (cursor_at b k).place ≡ L → L ≤ (get_or b.cursors k d).place
      same k d lt at = rw (get_or_default b.cursors k d start lt, at) (omega arith)

  pub has_room : L + 1 < 2 ^ 64 → is_full b ≡ false
  has_room fits =
      let x : nat_le 4096 (length b.kept) ≡ false = lt-leb 4096 (length b.kept) (omega (arith, few_kept)) in
      let y : nat_lt (bus_len b + 1) (2 ^ 64) ≡ true = lt-ltb (bus_len b + 1) (2 ^ 64) (omega (arith, fits, r.len)) in
      rw (x, y) refl

  pub offers_put : (f : CanFrame) → L + 1 < 2 ^ 64 → Offers n L 0 f (bus.put b f)
  offers_put f fits =
      let first : b.first ≤ L + 1 = omega (arith, r.len) in
      let one : 0 < b.first = r.fit.sound.from_one in
      let t : nat_le b.first (L + 1) ≡ true = le-leb b.first (L + 1) first in
      record {
        fit = put_fits n b f r.fit (has_room fits);
        len = omega (arith, length_push b.kept f, r.len, one);
        frame = ap (λ (c : Bool). cond c (slice_get (b.kept ++ f ∷ []) (L + 1 - b.first)) None) t ∙ slice_get-right b.kept (f ∷ []) (L + 1 - b.first) 0 (omega (arith, r.len, one));
        took = λ i lt. absurd (omega arith);
        waits = λ i le lt. r.took i lt;
      }

-- no station has anything queued
pub nothing_queued : (seg : Segment) (a : Address) → All (λ (st : Station). st.queue ≡ []) seg.stations → has_queued seg a ≡ false
nothing_queued seg a queues = ap (λ (q : List CanFrame). has_station seg a && nat_lt 0 (length q)) (empty (place_of seg a)) ∙ never (has_station seg a)
  where
    never : (b : Bool) → (b && false) ≡ false
    never true = refl
    never false = refl

    there : (j : ℕ) (o : Option Station) → slice_get seg.stations j ≡ o → (unwrap_or o (new_station a)).queue ≡ []
    there j None e = refl
    there j (Some st) e = ap (λ (s : Station). s.queue) (sym (get_or_from_slice_get seg.stations j st st e)) ∙ queues j st (slice_get_within seg.stations j st e)

    empty : (p : Option ℕ) → (unwrap_or (elim p as (λ (_ : Option ℕ). Option Station) [ None ↦ None | Some j ↦ slice_get seg.stations j ]) (new_station a)).queue ≡ []
    empty None = refl
    empty (Some j) = there j (slice_get seg.stations j) refl

tick_is : (seg : Segment) (k : ℕ) → seg.now + k < 2 ^ 64 → applied seg (Tick k) ≡ (record seg { now = seg.now + k }, Done [])
unfolding called
tick_is seg k fits =
    let t : nat_lt (seg.now + k) (2 ^ 64) ≡ true = lt-ltb (seg.now + k) (2 ^ 64) fits in
    ap (λ (b : Bool). replied seg (cond (not b) (Err refusal.ClockEnd) (Ok (record seg { now = seg.now + k }, Done [])))) t

set_twice : {X : Type 0} (xs : List X) (i : ℕ) (x y : X) → set (set xs i x) i y ≡ set xs i y
set_twice [] i x y = refl
set_twice (a ∷ xs) zero x y = refl
set_twice (a ∷ xs) (suc i) x y = ap (λ ys. a ∷ ys) (set_twice xs i x y)

-- the sender has put its frame
pub record HasPut (n L now t i : ℕ) (fs : List CanFrame) (f : CanFrame) (stations : List Station) (new : Station) (events : List Event) (d : Driven) : Type 0 where
  pub segment : Segment
  pub calls : Record
  pub is : d ≡ under_way segment calls (t + 1) (fs ++ f ∷ [])
  pub reached : IsReached segment
  pub now_is : segment.now ≡ now
  pub stations_are : segment.stations ≡ set stations i new
  pub offers : Offers n L 0 f segment.bus
  pub told_are : events_in calls ≡ events

module _ (xs : Station) (m : Pending) (more : List Pending) (number : ℕ) (token : Token) (n L i : ℕ) (l after_it : Lane) (f : CanFrame) (e : Option Ended) (some : 1 ≤ n) (fits : L + 1 < 2 ^ 64) where
  abbrev sender : Address
  sender = xs.address

  abbrev with_frames : List CanFrame → Lane → Station
  with_frames queue lane = sends xs m more number token queue lane

  abbrev tells : List Event
  tells = outcome_of sender all e

  -- the lane is pumped, and the frame put
  module _ (seg : Segment) (r : IsReached seg) (rests : Rests n L seg.bus) (at : slice_get seg.stations i ≡ Some (with_frames [] l))
      (free : pump_refusal l seg.now ≡ None) (does : pumped l seg.now ≡ (after_it, says_one xs m more number token f e)) where
    place : place_of seg sender ≡ Some i
    place = r.places i (with_frames [] l) at

    seg1 : Segment
    seg1 = pumped_segment xs m more number token seg i l place at after_it f e free does

    first : applied seg (Pump sender all) ≡ (seg1, Done tells)
    unfolding seg1
    first = pump_is xs m more number token seg i l place at after_it f e free does

    r1 : IsReached seg1
    r1 = subst IsReached (ap (λ (s : Segment × Reply). s.0) first) (reached_call seg r (Pump sender all) refl)

    at1 : slice_get seg1.stations i ≡ Some (with_frames (f ∷ []) after_it)
    unfolding seg1
    at1 = slice_get_same seg.stations i (with_frames [] l) (with_frames (f ∷ []) after_it) at refl

    place1 : place_of seg1 sender ≡ Some i
    place1 = r1.places i (with_frames (f ∷ []) after_it) at1

    room : is_full seg1.bus ≡ false
    unfolding seg1
    room = has_room n L seg.bus rests some fits

    seg2 : Segment
    seg2 = put_segment xs m more number token seg1 i after_it f place1 at1 room

    second : applied seg1 (Transmit sender) ≡ (seg2, Done [])
    unfolding seg2
    second = transmit_is xs m more number token seg1 i after_it f place1 at1 room

    r2 : IsReached seg2
    r2 = subst IsReached (ap (λ (s : Segment × Reply). s.0) second) (reached_call seg1 r1 (Transmit sender) refl)

    -- a drive that is to put comes so far
    puts_it : (calls : Record) (t : ℕ) (fs : List CanFrame) → HasPut n L seg.now t i fs f seg.stations (with_frames [] after_it) (events_in calls) (puts (under_way seg1 calls t fs) sender)
    unfolding seg2 seg1
    puts_it calls t fs = record {
      segment = seg2;
      calls = calls ++ (Transmit sender, Done []) ∷ [];
      is =
          ap (λ (s : Segment × Reply). goes_on (stops_at (with_call (under_way seg1 calls t fs) (Transmit sender) s) s.1) (with_put (front (station_at seg1 sender).queue))) second
          ∙ ap (λ (o : Option CanFrame). with_put o (under_way seg2 (calls ++ (Transmit sender, Done []) ∷ []) t fs)) (front_is xs m more number token seg1 i after_it f place1 at1 room);
      reached = r2;
      now_is = clock;
      stations_are = stations;
      offers = offered;
      told_are = events-append calls ((Transmit sender, Done []) ∷ []) ∙ append-nil (events_in calls);
    }
      where
        clock : seg2.now ≡ seg.now
        clock = refl

        stations : seg2.stations ≡ set seg.stations i (with_frames [] after_it)
        stations = set_twice seg.stations i (with_frames (f ∷ []) after_it) (with_frames [] after_it)

        offered : Offers n L 0 f seg2.bus
        offered = offers_put n L seg.bus rests some f fits

    pumped_drive : (calls : Record) (t : ℕ) (fs : List CanFrame) → pumps sender all (under_way seg calls t fs) ≡ under_way seg1 (calls ++ (Pump sender all, Done tells) ∷ []) t fs
    pumped_drive calls t fs = ap (λ (s : Segment × Reply). pumps_again sender all s.1 (with_call (under_way seg calls t fs) (Pump sender all) s)) first

    made_pump : (calls : Record) (t : ℕ) (fs : List CanFrame) → makes (under_way seg calls t fs) (Pump sender all) ≡ under_way seg1 (calls ++ (Pump sender all, Done tells) ∷ []) t fs
    made_pump calls t fs = ap (λ (s : Segment × Reply). stops_at (with_call (under_way seg calls t fs) (Pump sender all) s) s.1) first

  -- the first part of a turn of the drive, where the lane is pumped at once
  pub turn_first : (seg : Segment) → IsReached seg → Rests n L seg.bus → slice_get seg.stations i ≡ Some (with_frames [] l) → All (λ (st : Station). st.queue ≡ []) seg.stations
      → pump_refusal l seg.now ≡ None → pumped l seg.now ≡ (after_it, says_one xs m more number token f e)
      → (calls : Record) (t : ℕ) (fs : List CanFrame) → HasPut n L seg.now t i fs f seg.stations (with_frames [] after_it) (events_in calls ++ tells) (turn_puts sender all (under_way seg calls t fs))
  turn_first seg r rests at queues free does calls t fs =
      let start : Driven = under_way seg calls t fs in
      let none : turn_puts sender all start ≡ puts (pumps sender all start) sender =
      ap (λ (b : Bool). cond b (puts start sender) (cond (has_queued seg all) (puts start all) (puts (pumps sender all start) sender))) (nothing_queued seg sender queues)
      ∙ ap (λ (b : Bool). cond b (puts start all) (puts (pumps sender all start) sender)) (nothing_queued seg all queues) in
      let calls1 : Record = calls ++ (Pump sender all, Done tells) ∷ [] in
      let p : HasPut n L seg.now t i fs f seg.stations (with_frames [] after_it) (events_in calls1) (puts (under_way (seg1 seg r rests at free does) calls1 t fs) sender) = puts_it seg r rests at free does calls1 t fs in
      record {
        segment = p.segment;
        calls = p.calls;
        is = none ∙ ap (λ (d : Driven). puts d sender) (pumped_drive seg r rests at free does calls t fs) ∙ p.is;
        reached = p.reached;
        now_is = p.now_is;
        stations_are = p.stations_are;
        offers = p.offers;
        told_are = p.told_are ∙ events-append calls ((Pump sender all, Done tells) ∷ []) ∙ ap (λ (es : List Event). events_in calls ++ es) (append-nil tells);
      }

  -- and where it has to wait for the gap
  pub turn_later : (seg : Segment) → IsReached seg → Rests n L seg.bus → slice_get seg.stations i ≡ Some (with_frames [] l) → All (λ (st : Station). st.queue ≡ []) seg.stations
      → pump_refusal l seg.now ≡ Some pump.NotYet → missing l seg.now ≡ BROADCAST_GAP → seg.now + BROADCAST_GAP < 2 ^ 64
      → pump_refusal l (seg.now + BROADCAST_GAP) ≡ None → pumped l (seg.now + BROADCAST_GAP) ≡ (after_it, says_one xs m more number token f e)
      → (calls : Record) (t : ℕ) (fs : List CanFrame) → HasPut n L (seg.now + BROADCAST_GAP) t i fs f seg.stations (with_frames [] after_it) (events_in calls ++ tells) (turn_puts sender all (under_way seg calls t fs))
  turn_later seg r rests at queues waits gap time free does calls t fs =
      let start : Driven = under_way seg calls t fs in
      let none : turn_puts sender all start ≡ puts (pumps sender all start) sender =
      ap (λ (b : Bool). cond b (puts start sender) (cond (has_queued seg all) (puts start all) (puts (pumps sender all start) sender))) (nothing_queued seg sender queues)
      ∙ ap (λ (b : Bool). cond b (puts start all) (puts (pumps sender all start) sender)) (nothing_queued seg all queues) in
      let place : place_of seg sender ≡ Some i = r.places i (with_frames [] l) at in
      let refused : applied seg (Pump sender all) ≡ (seg, Refused refusal.NotYet) = too_soon xs m more number token seg i l place at waits in
      let later : Segment = record seg { now = seg.now + BROADCAST_GAP } in
      let ticked : applied seg (Tick BROADCAST_GAP) ≡ (later, Done []) = tick_is seg BROADCAST_GAP time in
      let r' : IsReached later = record { some = r.some; stations = r.stations; places = r.places; bus = r.bus } in
      let calls1 : Record = calls ++ (Pump sender all, Refused refusal.NotYet) ∷ [] in
      let calls2 : Record = calls1 ++ (Tick BROADCAST_GAP, Done []) ∷ [] in
      let calls3 : Record = calls2 ++ (Pump sender all, Done tells) ∷ [] in
      let pumped_is : pumps sender all start ≡ under_way (seg1 later r' rests at free does) calls3 t fs =
      ap (λ (s : Segment × Reply). pumps_again sender all s.1 (with_call start (Pump sender all) s)) refused
      ∙ ap (λ (k : ℕ). makes (makes (under_way seg calls1 t fs) (Tick k)) (Pump sender all)) (misses xs m more number token seg i l place at ∙ gap)
      ∙ ap (λ (s : Segment × Reply). makes (stops_at (with_call (under_way seg calls1 t fs) (Tick BROADCAST_GAP) s) s.1) (Pump sender all)) ticked
      ∙ made_pump later r' rests at free does calls2 t fs in
      let p : HasPut n L later.now t i fs f seg.stations (with_frames [] after_it) (events_in calls3) (puts (under_way (seg1 later r' rests at free does) calls3 t fs) sender) = puts_it later r' rests at free does calls3 t fs in
      record {
        segment = p.segment;
        calls = p.calls;
        is = none ∙ ap (λ (d : Driven). puts d sender) pumped_is ∙ p.is;
        reached = p.reached;
        now_is = p.now_is;
        stations_are = p.stations_are;
        offers = p.offers;
        told_are =
            p.told_are
            ∙ events-append calls2 ((Pump sender all, Done tells) ∷ [])
            ∙ ap (λ (es : List Event). es ++ (tells ++ [])) (events-append calls1 ((Tick BROADCAST_GAP, Done []) ∷ []) ∙ append-nil (events_in calls1) ∙ events-append calls ((Pump sender all, Refused refusal.NotYet) ∷ []) ∙ append-nil (events_in calls))
            ∙ ap (λ (es : List Event). events_in calls ++ es) (append-nil tells);
      }

  -- then every station takes it
  pub turn_takes : (now t : ℕ) (fs : List CanFrame) (stations : List Station) (new : Station) (events : List Event) (d : Driven)
      → HasPut n L now t i fs f stations new events (turn_puts sender all d) → All (λ (st : Station). st.queue ≡ []) (set stations i new) → length stations ≡ n
      → Swept n L now f (after n L now f (t + 1) (fs ++ f ∷ []) (set stations i new)) (events ++ told_by n L now f (t + 1) (fs ++ f ∷ []) (set stations i new)) (t + 1) (fs ++ f ∷ []) (goes_on (turn_puts sender all d) (λ g. all_take g.segment.stations g))
  turn_takes now t fs stations new events d p queues many =
      let ys : List Station = set stations i new in
      let w : Swept n L now f (after n L now f (t + 1) (fs ++ f ∷ []) ys) (events_in p.calls ++ told_by n L now f (t + 1) (fs ++ f ∷ []) ys) (t + 1) (fs ++ f ∷ []) (all_take ys (under_way p.segment p.calls (t + 1) (fs ++ f ∷ []))) =
      sweep n L now f (t + 1) (fs ++ f ∷ []) ys [] p.segment p.calls p.reached p.now_is p.stations_are (omega (arith, many, length-set stations i new)) queues p.offers in
      record {
        segment = w.segment;
        calls = w.calls;
        is = ap (λ (x : Driven). goes_on x (λ g. all_take g.segment.stations g)) p.is ∙ ap (λ (zs : List Station). all_take zs (under_way p.segment p.calls (t + 1) (fs ++ f ∷ []))) p.stations_are ∙ w.is;
        reached = w.reached;
        now_is = w.now_is;
        stations_are = w.stations_are;
        offers = w.offers;
        told = w.told ∙ ap (λ (es : List Event). es ++ told_by n L now f (t + 1) (fs ++ f ∷ []) ys) p.told_are;
      }
