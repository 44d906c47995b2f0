-- The turns of a drain in which a frame leaves one of two stations: it is put, and every station takes it. The lane may be pumped first.
use Rattle.std.proofs.Common.{◌≡◌, ◌≢◌, ◌⊎◌, inl, inr, ℕ, ◌+◌, ◌-◌, ◌<◌, ◌≤◌, ◌^◌, ◌==◌, nat_lt, Bool, true, false, cond, not, ◌&&◌, List, [], ◌∷◌, ◌++◌, length, set, get_or, Option, Some, None, Err, refl, sym, ap, ◌∙◌, subst, arith}
use Rattle.std.specs.Prelude.{map, slice_get, is_none, is_some, unwrap_or, option_to_list}
use Rattle.std.specs.Option.{option_map}
use Rattle.std.specs.Cmp.{nat_cmp_total, unsigned_tied}
use Rattle.std.specs.FinMap as finmap
use Rattle.std.specs.FinMap.{get-insert}
use Rattle.std.proofs.lemmas.List.{length-map, append-nil}
use Rattle.std.proofs.lemmas.Option.{slice_get-map, slice_get-get_or, slice_get_within, get_or_from_slice_get, same_Some, none-some}
use Rattle.std.proofs.lemmas.Bool.{eqb-true, eq-eqb, ne_eqb, lt-ltb, ltb-true, true≢false}
use Rattle.bus_frame.specs.Frames.{CanFrame}
use Rattle.pgn_ids.specs.Address.{is_one}
use Rattle.pgn_ids.specs.declared.address.Address.{Address}
use Rattle.tp_wire.specs.declared.wire.Wire.{Wire}
use Rattle.tx_queue.specs.Queue.{free_places, front}
use Rattle.bus_order.specs.Bus as bus
use Rattle.bus_order.specs.Bus.{cursor_at, next_frame, is_full}
use Rattle.bus_order.proofs.Order.{frame_past}
use Rattle.lane_core.specs.Lane.{Lane}
use Rattle.lane_core.specs.Pump.{pump_refusal}
use Rattle.lane_core.specs.declared.refused.PumpRefused.{PumpRefused}
use Rattle.lane_core.specs.declared.refused.PumpRefused.TheVariants as pump
use Rattle.station_lanes.specs.Lanes.{Lanes}
use Rattle.station_lanes.specs.LaneReaders.{refusal_at}
use Rattle.message_events.specs.declared.event.Event.{Event}
use Rattle.station_sessions.specs.Receiving.{Inbound}
use Rattle.station_core.specs.Station.{Station, StationStep, new_station, quietly}
use Rattle.station_core.specs.Sending as sending
use Rattle.station_core.specs.Taking.{taken, wire_taken}
use Rattle.segment_law.specs.Segment.{Segment, place_of, station_at, with_station, counted_frame}
use Rattle.segment_law.specs.Calls.{Answer, no_place, at_place, at_station, called, replied, applied, transmits, done, with_frame, pumps, pumps_by, stepped, is_address}
use Rattle.segment_law.specs.Reached.{IsFitStation, IsFitBus, IsReached}
use Rattle.segment_law.specs.Readers.{front_at, next_pump}
use Rattle.segment_law.specs.declared.call.Call.TheVariants.{Pump, Transmit}
use Rattle.segment_law.specs.declared.refusal.Refusal.TheVariants as refusal
use Rattle.segment_law.specs.declared.reply.Reply.{Reply}
use Rattle.segment_law.specs.declared.reply.Reply.TheVariants.{Done}
use Rattle.record_law.proofs.Maps.{lane_here, lane_else}
use Rattle.record_law.proofs.Segments.{found_there, has_address}
use Rattle.exchange_law.proofs.Nodes.{IsBetween, flipped, taken_own, taken_there, taken_else}
use Rattle.exchange_law.proofs.Pairs.{Pair, s, d, is_s, is_d, put, both, s_at, d_at, s_set, d_set}
use Rattle.exchange_law.proofs.Puts.{after_put, put_reached, put_offers, after_pump, pump_reached}
use Rattle.exchange_law.proofs.broadcasts.Sweeps.{Offers}
use Rattle.exchange_law.proofs.broadcasts.Turns.{Rests, has_room}
use Rattle.segment_drain.specs.Chosen.{node, can, lowest, next_of}
use Rattle.segment_drain.specs.declared.choosing.Next.TheVariants.{Make}
use Rattle.segment_drain.specs.declared.kind.Kind.TheVariants as kind
use Rattle.segment_drain.proofs.Rests.{done_ok}
use Rattle.drain_law.proofs.Choices.{none_can, first_can, transmits_next, pumps_next, no_take, no_transmit, HasNoneQueued, would_pump, AreStill, no_pump, first_pump}
use Rattle.drain_law.proofs.Stages.{Stage, goes}
use Rattle.drain_law.proofs.Sweeps.{Offered, Swept, sweep, passes}

-- ---- a segment on which no frame waits

module _ (n K : ℕ) (seg : Segment) (r : IsReached seg) (many : length seg.stations ≡ n) (rests : Rests n K seg.bus) where
  -- the station that an address leads to
  there_at : (a : Address) (i : ℕ) → place_of seg a ≡ Some i → slice_get seg.stations i ≡ Some (get_or seg.stations i (new_station a))
  there_at a i e = found_there (λ (z : Station). z.address.0 == a.0) seg.stations i (new_station a) e

  pub none_takes : lowest seg kind.Take ≡ None
  none_takes = none_can seg kind.Take (λ k below. no_take seg (node k) (λ i e. (
      let l : i < length seg.stations = slice_get_within seg.stations i (get_or seg.stations i (new_station (node k))) (there_at (node k) i e) in
      let p : (cursor_at seg.bus i).place ≡ K = rests.took i (omega (arith, l, many)) in
      frame_past seg.bus ((cursor_at seg.bus i).place + 1) (omega (arith, p, rests.len)))))

  -- one station has frames to put
  module _ (j : ℕ) (z : Station) (f : CanFrame) (q : List CanFrame) (at : slice_get seg.stations j ≡ Some (record z { queue = f ∷ q })) (small : z.address.0 < 254)
      (others : (i : ℕ) (u : Station) → slice_get seg.stations i ≡ Some u → u.address.0 ≢ z.address.0 → u.queue ≡ []) (some : 1 ≤ n) (fits : K + 1 < 2 ^ 64) where
    place : place_of seg z.address ≡ Some j
    place = r.places j (record z { queue = f ∷ q }) at

    room : is_full seg.bus ≡ false
    room = has_room n K seg.bus rests some fits

    abbrev pub after_it : Segment
    after_it = after_put z seg r j f q at n K rests some fits

    pub transmit_is : applied seg (Transmit z.address) ≡ (after_it, Done [])
    unfolding called
    transmit_is =
        ap (λ (p : Option ℕ). replied seg (at_place seg p (transmits seg))) place
        ∙ ap (λ (o : Option Station). replied seg (at_station o (transmits seg j))) at
        ∙ ap (λ (b : Bool). replied seg (cond b (Err refusal.BusFull) (done (with_frame (with_station seg j (record z { queue = q })) f)))) room

    pub front_is : front_at seg z.address ≡ Some f
    front_is =
        ap (λ (p : Option ℕ). front (unwrap_or (elim p as (λ (_ : Option ℕ). Option Station) [ None ↦ None | Some k ↦ slice_get seg.stations k ]) (new_station z.address)).queue) place
        ∙ ap (λ (o : Option Station). front (unwrap_or o (new_station z.address)).queue) at

    pub transmits_first : next_of seg ≡ Make (Transmit z.address)
    transmits_first = transmits_next seg z.address none_takes (first_can seg kind.Transmit z.address.0 small lower
        (passes (called seg (Transmit z.address)) (done_ok seg (Transmit z.address) [] (ap (λ (x : Segment × Reply). x.1) transmit_is))))
      where
        lower : (k : ℕ) → k < z.address.0 → can seg kind.Transmit (node k) ≡ false
        lower k lt = (no_transmit seg (node k) (λ i u p e. others i u e (λ same. (let is : u.address.0 ≡ k = has_address seg (node k) i u p e in absurd (omega (arith, is, same, lt)))))).0

  -- none has, and the lane to one node is the lowest that has anything to queue
  module _ (empty : (i : ℕ) (u : Station) → slice_get seg.stations i ≡ Some u → u.queue ≡ []) (j : ℕ) (z : Station) (at : slice_get seg.stations j ≡ Some z) (small : z.address.0 < 254) (to : Address) (node_to : is_one to.0 ≡ true)
      (lower : (i : ℕ) (u : Station) → slice_get seg.stations i ≡ Some u → u.address.0 < z.address.0 → AreStill seg.now u.lanes 256) (own : AreStill seg.now z.lanes to.0) (free : refusal_at z.lanes to.0 seg.now ≡ None) where
    below : to.0 < 254
    below = ltb-true to.0 254 node_to

    not_null : (to.0 == 254) ≡ false
    not_null = let l : to.0 < 254 = below in ne_eqb to.0 254 (λ e. absurd (omega (arith, e, l)))

    no_queue : (k : ℕ) → HasNoneQueued seg (node k)
    no_queue k i u p e = empty i u e

    first_lane : next_pump seg z.address ≡ Some to
    first_lane = first_pump seg z.address j z (r.places j z at) at (empty j z at) to.0 (let l : to.0 < 254 = below in omega (arith, l)) own (λ i. not (not_null i) && is_none (free i))

    pub pumps_first : next_of seg ≡ Make (Pump z.address to)
    pumps_first = pumps_next seg z.address to none_takes
        (none_can seg kind.Transmit (λ k under. (no_transmit seg (node k) (no_queue k)).0))
        (none_can seg kind.Blocked (λ k under. (no_transmit seg (node k) (no_queue k)).1))
        (first_can seg kind.Pump z.address.0 small (λ k lt. ap is_some (no_pump seg (node k) (λ i u p e. (empty i u e, lower i u e (let is : u.address.0 ≡ k = has_address seg (node k) i u p e in omega (arith, is, lt)))))) (ap is_some first_lane))
        first_lane

    pub pump_is : (new : Station) (does : sending.pumped z to seg.now ≡ record { station = new; events = [] }) → applied seg (Pump z.address to) ≡ (after_pump z seg r j to node_to at (empty j z at) free new does, Done [])
    unfolding called
    pump_is new does =
        ap (λ (p : Option ℕ). replied seg (at_place seg p (pumps seg to))) (r.places j z at)
        ∙ ap (λ (o : Option Station). replied seg (at_station o (pumps seg to j))) at
        ∙ ap (λ (b : Bool). replied seg (cond b (Err refusal.NoSuchStation) (pumps_by seg to j z (refusal_at z.lanes to.0 seg.now)))) not_null
        ∙ ap (λ (o : Option PumpRefused). replied seg (pumps_by seg to j z o)) free
        ∙ ap (λ (q : List CanFrame). replied seg (cond (nat_lt (free_places q) 8) (Err refusal.TxFull) (stepped seg j (sending.pumped z to seg.now)))) (empty j z at)
        ∙ ap (λ (x : StationStep). replied seg (stepped seg j x)) does

-- ---- two stations

module _ (c : Pair) (L now : ℕ) (begin : Segment) where
  abbrev n : ℕ
  n = length c.stations

  -- the sender and the receiver in a state
  abbrev pub sends : List CanFrame → Lanes → Station
  sends queue lanes = record c.xs { queue = queue; lanes = lanes }

  abbrev pub hears : List CanFrame → Inbound → Station
  hears queue sessions = record c.ys { queue = queue; sessions = sessions }

  -- a drain put these frames and told these events, and the two stations stand so
  pub record Stands (x y : Station) (t : ℕ) (fs : List CanFrame) (es : List Event) : Type 0 where
    pub segment : Segment
    pub stage : Stage begin segment fs es
    pub reached : IsReached segment
    pub now_is : segment.now ≡ now
    pub stations_are : segment.stations ≡ both c x y
    pub rests : Rests n (L + t) segment.bus

  -- no lower lane has anything to queue
  pub record IsLowest : Type 0 where
    pub stations : (j : ℕ) (z : Station) → slice_get c.stations j ≡ Some z → z.address.0 < (s c).0 → AreStill now z.lanes 256
    pub lanes : AreStill now c.xs.lanes (d c).0

  some : 1 ≤ n
  some = omega (arith, slice_get_within c.stations c.i c.xs c.at)

  many : (x y : Station) → length (both c x y) ≡ n
  many x y = length-map c.stations (put c x y)

  s_small : (s c).0 < 254
  s_small = ltb-true (s c).0 254 c.own_s

  d_small : (d c).0 < 254
  d_small = ltb-true (d c).0 254 c.own_d

  -- what stands at a place
  pub record Was (x y : Station) (j : ℕ) (u : Station) : Type 0 where
    pub first : Station
    pub there : slice_get c.stations j ≡ Some first
    pub is : u ≡ put c x y first

  pub was : (x y : Station) (j : ℕ) (u : Station) → slice_get (both c x y) j ≡ Some u → Was x y j u
  was x y j u e = by (slice_get c.stations j) refl
    where
      by : (o : Option Station) → slice_get c.stations j ≡ o → Was x y j u
      by None q = absurd (none-some u (sym (slice_get-map (put c x y) c.stations j ∙ ap (option_map (put c x y)) q) ∙ e))
      by (Some z) q = record { first = z; there = q; is = sym (same_Some (put c x y z) u (sym (slice_get-map (put c x y) c.stations j ∙ ap (option_map (put c x y)) q) ∙ e)) }

  none_queued : (j : ℕ) (z : Station) → slice_get c.stations j ≡ Some z → z.queue ≡ []
  none_queued j z e = ap (λ (u : Station). u.queue) (sym (get_or_from_slice_get c.stations j z z e)) ∙ c.queues j z (slice_get_within c.stations j z e)

  -- a fact of every station, from that of the two and of the others
  of_each : (P : Station → Type 0) (x y : Station) → P x → P y → ((j : ℕ) (z : Station) → slice_get c.stations j ≡ Some z → is_s c z ≡ false → is_d c z ≡ false → P z) → (j : ℕ) (u : Station) → slice_get (both c x y) j ≡ Some u → P u
  of_each P x y h k rest j u e = let w = was x y j u e in subst P (sym w.is) (by w.first w.there (is_s c w.first) (is_d c w.first) refl refl)
    where
      by : (z : Station) → slice_get c.stations j ≡ Some z → (a b : Bool) → is_s c z ≡ a → is_d c z ≡ b → P (cond a x (cond b y z))
      by z at true b p q = h
      by z at false true p q = k
      by z at false false p q = rest j z at p q

  apart_s : ((s c).0 == (d c).0) ≡ false
  apart_s = flipped (d c).0 (s c).0 false c.apart

  has_free : (q : List CanFrame) → length q < 64 → (64 - length q == 0) ≡ false
  has_free q lt = ne_eqb (64 - length q) 0 (λ e. absurd (omega (arith, e, lt)))

  -- ---- every station takes the frame, and one of the two looks at it

  module _ (x y : Station) (k : ℕ) (z z' : Station) (more : List Event) (f : CanFrame) (at : slice_get (both c x y) k ≡ Some z) (takes : taken z f true now ≡ record { station = z'; events = more })
      (quiet : (j : ℕ) (u : Station) → slice_get (both c x y) j ≡ Some u → u.address.0 ≢ z.address.0 → taken u f true now ≡ quietly u)
      (rooms : (j : ℕ) (u : Station) → slice_get (both c x y) j ≡ Some u → no_place u ≡ false) (same : z'.address ≡ z.address) (small : z.address.0 < 254)
      (x' y' : Station) (is : set (both c x y) k z' ≡ both c x' y') where
    all_take : (t : ℕ) (fs : List CanFrame) (es : List Event) (seg : Segment) → Stage begin seg fs es → IsReached seg → seg.now ≡ now → seg.stations ≡ both c x y → Offers n (L + t) 0 f seg.bus → Stands x' y' (t + 1) fs (es ++ more)
    all_take t fs es seg stage r clock stations o = record {
      segment = w.segment;
      stage = subst (λ (b : Bool). Stage begin w.segment fs (cond b (es ++ more) es)) past w.stage;
      reached = w.offered.reached;
      now_is = w.offered.clock;
      stations_are = w.stations_are ∙ ap (λ (b : Bool). cond b (set (both c x y) k z') (both c x y)) past ∙ is;
      rests = record {
        fit = subst (λ (m : ℕ). IsFitBus m w.segment.bus) long w.offered.reached.bus;
        len = w.offered.len ∙ next;
        took = λ i lt. took i lt ∙ next;
      };
    }
      where
        next : L + t + 1 ≡ L + (t + 1)
        next = omega arith

        offered : Offered (L + t) now f 0 seg
        offered = record {
          reached = r;
          clock = clock;
          len = o.len;
          frame = o.frame;
          took = λ i u e lt. absurd (omega (arith, lt));
          waits = λ i u e le. o.waits i (omega arith) (let l : i < length seg.stations = slice_get_within seg.stations i u e in let m : length seg.stations ≡ n = ap length stations ∙ many x y in omega (arith, l, m));
        }

        w : Swept (L + t) now f begin (both c x y) k z z' more at takes quiet rooms same fs es 254
        w = sweep (L + t) now f begin (both c x y) k z z' more at takes quiet rooms same fs es seg stage offered stations

        past : nat_lt z.address.0 254 ≡ true
        past = lt-ltb z.address.0 254 small

        long : length w.segment.stations ≡ n
        long = ap length (w.stations_are ∙ ap (λ (b : Bool). cond b (set (both c x y) k z') (both c x y)) past ∙ is) ∙ many x' y'

        took : (i : ℕ) → i < n → (cursor_at w.segment.bus i).place ≡ L + t + 1
        took i lt =
            let inside : i < length w.segment.stations = omega (arith, lt, long) in
            let u : Station = get_or w.segment.stations i z in
            let fit : IsFitStation u = w.offered.reached.stations i z inside in
            w.offered.took i u (slice_get-get_or w.segment.stations i z inside) (ltb-true u.address.0 254 fit.own)

  -- ---- a frame of the sender

  module _ (w : Wire) (f : CanFrame) (h : IsBetween (s c) (d c) w f) where
    pub forward : (q p' : List CanFrame) (ls : Lanes) (ss ss' : Inbound) (more : List Event) → length q < 64 → wire_taken (hears [] ss) w (s c) (d c) true now ≡ record { station = hears p' ss'; events = more }
        → (t : ℕ) (fs : List CanFrame) (es : List Event) → Stands (sends (f ∷ q) ls) (hears [] ss) t fs es → L + t + 1 < 2 ^ 64 → Stands (sends q ls) (hears p' ss') (t + 1) (fs ++ f ∷ []) (es ++ more)
    forward q p' ls ss ss' more few takes t fs es a fits =
        all_take (sends q ls) (hears [] ss) c.k (hears [] ss) (hears p' ss') more f (d_at c (sends q ls) (hears [] ss))
        (taken_there (s c) (d c) w f h (hears [] ss) now c.apart (eq-eqb (d c).0 (d c).0 refl) ∙ takes) quiet rooms refl d_small
        (sends q ls) (hears p' ss') (d_set c (sends q ls) (hears [] ss) (hears p' ss')) t (fs ++ f ∷ []) es after
        (subst (λ (gs : List Event). Stage begin after (fs ++ f ∷ []) gs) (append-nil es)
        (subst (λ (o : Option CanFrame). Stage begin after (fs ++ option_to_list o) (es ++ [])) front
        (goes begin a.segment after fs es [] (Transmit (s c)) a.stage chosen does refl)))
        (put_reached z a.segment a.reached c.i f q at n (L + t) a.rests some fits) a.now_is stations (put_offers z a.segment a.reached c.i f q at n (L + t) a.rests some fits)
      where
        z : Station
        z = sends q ls

        at : slice_get a.segment.stations c.i ≡ Some (sends (f ∷ q) ls)
        at = ap (λ (zs : List Station). slice_get zs c.i) a.stations_are ∙ s_at c (sends (f ∷ q) ls) (hears [] ss)

        long : length a.segment.stations ≡ n
        long = ap length a.stations_are ∙ many (sends (f ∷ q) ls) (hears [] ss)

        others : (i : ℕ) (u : Station) → slice_get a.segment.stations i ≡ Some u → u.address.0 ≢ (s c).0 → u.queue ≡ []
        others i u e = of_each (λ (v : Station). v.address.0 ≢ (s c).0 → v.queue ≡ []) (sends (f ∷ q) ls) (hears [] ss) (λ ne. absurd (ne refl)) (λ ne. refl) (λ j v there _ _ ne. none_queued j v there) i u
            (ap (λ (zs : List Station). slice_get zs i) (sym a.stations_are) ∙ e)

        after : Segment
        after = after_it n (L + t) a.segment a.reached long a.rests c.i z f q at s_small others some fits

        chosen : next_of a.segment ≡ Make (Transmit (s c))
        chosen = transmits_first n (L + t) a.segment a.reached long a.rests c.i z f q at s_small others some fits

        does : applied a.segment (Transmit (s c)) ≡ (after, Done [])
        does = transmit_is n (L + t) a.segment a.reached long a.rests c.i z f q at s_small others some fits

        front : front_at a.segment (s c) ≡ Some f
        front = front_is n (L + t) a.segment a.reached long a.rests c.i z f q at s_small others some fits

        stations : after.stations ≡ both c (sends q ls) (hears [] ss)
        stations = ap (λ (zs : List Station). set zs c.i (sends q ls)) a.stations_are ∙ s_set c (sends (f ∷ q) ls) (hears [] ss) (sends q ls)

        quiet : (j : ℕ) (u : Station) → slice_get (both c (sends q ls) (hears [] ss)) j ≡ Some u → u.address.0 ≢ (d c).0 → taken u f true now ≡ quietly u
        quiet = of_each (λ (v : Station). v.address.0 ≢ (d c).0 → taken v f true now ≡ quietly v) (sends q ls) (hears [] ss)
            (λ ne. taken_own (s c) (d c) w f h (sends q ls) now (eq-eqb (s c).0 (s c).0 refl)) (λ ne. absurd (ne refl)) (λ j v there e g ne. taken_else (s c) (d c) w f h v now c.own_d g)

        rooms : (j : ℕ) (u : Station) → slice_get (both c (sends q ls) (hears [] ss)) j ≡ Some u → no_place u ≡ false
        rooms = of_each (λ (v : Station). no_place v ≡ false) (sends q ls) (hears [] ss) (has_free q few) refl (λ j v there e g. ap (λ (gs : List CanFrame). free_places gs == 0) (none_queued j v there))

    -- the lane is pumped first
    pub pumped : IsLowest → (q p' : List CanFrame) (l l' : Lane) (ss ss' : Inbound) (more : List Event) → length q < 64
        → pump_refusal l now ≡ None → sending.pumped (sends [] (finmap.insert c.xs.lanes (d c).0 l)) (d c) now ≡ record { station = sends (f ∷ q) (finmap.insert c.xs.lanes (d c).0 l'); events = [] }
        → wire_taken (hears [] ss) w (s c) (d c) true now ≡ record { station = hears p' ss'; events = more }
        → (t : ℕ) (fs : List CanFrame) (es : List Event) → Stands (sends [] (finmap.insert c.xs.lanes (d c).0 l)) (hears [] ss) t fs es → L + t + 1 < 2 ^ 64 → Stands (sends q (finmap.insert c.xs.lanes (d c).0 l')) (hears p' ss') (t + 1) (fs ++ f ∷ []) (es ++ more)
    pumped low q p' l l' ss ss' more few free does takes t fs es a fits = forward q p' (lanes_with l') ss ss' more few takes t fs es mid fits
      where
        lanes_with : Lane → Lanes
        lanes_with v = finmap.insert c.xs.lanes (d c).0 v

        x : Station
        x = sends [] (lanes_with l)

        new : Station
        new = sends (f ∷ q) (lanes_with l')

        at : slice_get a.segment.stations c.i ≡ Some x
        at = ap (λ (zs : List Station). slice_get zs c.i) a.stations_are ∙ s_at c x (hears [] ss)

        long : length a.segment.stations ≡ n
        long = ap length a.stations_are ∙ many x (hears [] ss)

        here : (i : ℕ) (u : Station) → slice_get a.segment.stations i ≡ Some u → slice_get (both c x (hears [] ss)) i ≡ Some u
        here i u e = ap (λ (zs : List Station). slice_get zs i) (sym a.stations_are) ∙ e

        empty : (i : ℕ) (u : Station) → slice_get a.segment.stations i ≡ Some u → u.queue ≡ []
        empty i u e = of_each (λ (v : Station). v.queue ≡ []) x (hears [] ss) refl refl (λ j v there _ _. none_queued j v there) i u (here i u e)

        lower : (i : ℕ) (u : Station) → slice_get a.segment.stations i ≡ Some u → u.address.0 < (s c).0 → AreStill a.segment.now u.lanes 256
        lower i u e lt = subst (λ (k : ℕ). AreStill k u.lanes 256) (sym a.now_is) (of_each (λ (v : Station). v.address.0 < (s c).0 → AreStill now v.lanes 256) x (hears [] ss)
            (λ under. absurd (omega (arith, under))) (λ under. low.stations c.k c.ys c.there under) (λ j v there _ _ under. low.stations j v there under) i u (here i u e) lt)

        own : AreStill a.segment.now (lanes_with l) (d c).0
        own to under = (λ i. not (to == 254) && is_none (else_is i)) ∙ subst (λ (k : ℕ). would_pump k c.xs.lanes to ≡ false) (sym a.now_is) (low.lanes to under)
          where
            else_is : refusal_at (lanes_with l) to a.segment.now ≡ refusal_at c.xs.lanes to a.segment.now
            else_is = ap (λ (o : Option Lane). elim o as (λ (_ : Option Lane). Option PumpRefused) [ None ↦ Some pump.NothingToSend | Some v ↦ pump_refusal v a.segment.now ]) (lane_else c.xs.lanes (d c).0 to l (λ e. absurd (omega (arith, e, under))))

        lane_there : finmap.get (lanes_with l) (d c).0 ≡ Some l
        lane_there = lane_here c.xs.lanes (d c).0 l

        free_now : refusal_at (lanes_with l) (d c).0 a.segment.now ≡ None
        free_now = ap (λ (o : Option Lane). elim o as (λ (_ : Option Lane). Option PumpRefused) [ None ↦ Some pump.NothingToSend | Some v ↦ pump_refusal v a.segment.now ]) lane_there ∙ ap (pump_refusal l) a.now_is ∙ free

        does_now : sending.pumped x (d c) a.segment.now ≡ record { station = new; events = [] }
        does_now = ap (sending.pumped x (d c)) a.now_is ∙ does

        after : Segment
        after = after_pump x a.segment a.reached c.i (d c) c.own_d at (empty c.i x at) free_now new does_now

        small : is_address (d c) ≡ true
        small = let one : (d c).0 < 254 = d_small in lt-ltb (d c).0 (2 ^ 8) (omega (arith, one))

        mid : Stands new (hears [] ss) t fs es
        mid = record {
          segment = after;
          stage = subst (λ (gs : List CanFrame). Stage begin after gs es) (append-nil fs) (subst (λ (gs : List Event). Stage begin after (fs ++ []) gs) (append-nil es)
              (goes begin a.segment after fs es [] (Pump (s c) (d c)) a.stage
              (pumps_first n (L + t) a.segment a.reached long a.rests empty c.i x at s_small (d c) c.own_d lower own free_now)
              (pump_is n (L + t) a.segment a.reached long a.rests empty c.i x at s_small (d c) c.own_d lower own free_now new does_now) refl));
          reached = pump_reached x a.segment a.reached c.i (d c) c.own_d at (empty c.i x at) free_now new does_now small;
          now_is = a.now_is;
          stations_are = ap (λ (zs : List Station). set zs c.i new) a.stations_are ∙ s_set c x (hears [] ss) new;
          rests = a.rests;
        }

  -- ---- a frame of the receiver

  module _ (w : Wire) (f : CanFrame) (h : IsBetween (d c) (s c) w f) where
    pub back : (q' : List CanFrame) (ls ls' : Lanes) (ss : Inbound) (more : List Event) → wire_taken (sends [] ls) w (d c) (s c) true now ≡ record { station = sends q' ls'; events = more }
        → (t : ℕ) (fs : List CanFrame) (es : List Event) → Stands (sends [] ls) (hears (f ∷ []) ss) t fs es → L + t + 1 < 2 ^ 64 → Stands (sends q' ls') (hears [] ss) (t + 1) (fs ++ f ∷ []) (es ++ more)
    back q' ls ls' ss more takes t fs es a fits =
        all_take (sends [] ls) (hears [] ss) c.i (sends [] ls) (sends q' ls') more f (s_at c (sends [] ls) (hears [] ss))
        (taken_there (d c) (s c) w f h (sends [] ls) now apart_s (eq-eqb (s c).0 (s c).0 refl) ∙ takes) quiet rooms refl s_small
        (sends q' ls') (hears [] ss) (s_set c (sends [] ls) (hears [] ss) (sends q' ls')) t (fs ++ f ∷ []) es after
        (subst (λ (gs : List Event). Stage begin after (fs ++ f ∷ []) gs) (append-nil es)
        (subst (λ (o : Option CanFrame). Stage begin after (fs ++ option_to_list o) (es ++ [])) front
        (goes begin a.segment after fs es [] (Transmit (d c)) a.stage chosen does refl)))
        (put_reached z a.segment a.reached c.k f [] at n (L + t) a.rests some fits) a.now_is stations (put_offers z a.segment a.reached c.k f [] at n (L + t) a.rests some fits)
      where
        z : Station
        z = hears [] ss

        at : slice_get a.segment.stations c.k ≡ Some (hears (f ∷ []) ss)
        at = ap (λ (zs : List Station). slice_get zs c.k) a.stations_are ∙ d_at c (sends [] ls) (hears (f ∷ []) ss)

        long : length a.segment.stations ≡ n
        long = ap length a.stations_are ∙ many (sends [] ls) (hears (f ∷ []) ss)

        others : (i : ℕ) (u : Station) → slice_get a.segment.stations i ≡ Some u → u.address.0 ≢ (d c).0 → u.queue ≡ []
        others i u e = of_each (λ (v : Station). v.address.0 ≢ (d c).0 → v.queue ≡ []) (sends [] ls) (hears (f ∷ []) ss) (λ ne. refl) (λ ne. absurd (ne refl)) (λ j v there _ _ ne. none_queued j v there) i u
            (ap (λ (zs : List Station). slice_get zs i) (sym a.stations_are) ∙ e)

        after : Segment
        after = after_it n (L + t) a.segment a.reached long a.rests c.k z f [] at d_small others some fits

        chosen : next_of a.segment ≡ Make (Transmit (d c))
        chosen = transmits_first n (L + t) a.segment a.reached long a.rests c.k z f [] at d_small others some fits

        does : applied a.segment (Transmit (d c)) ≡ (after, Done [])
        does = transmit_is n (L + t) a.segment a.reached long a.rests c.k z f [] at d_small others some fits

        front : front_at a.segment (d c) ≡ Some f
        front = front_is n (L + t) a.segment a.reached long a.rests c.k z f [] at d_small others some fits

        stations : after.stations ≡ both c (sends [] ls) (hears [] ss)
        stations = ap (λ (zs : List Station). set zs c.k (hears [] ss)) a.stations_are ∙ d_set c (sends [] ls) (hears (f ∷ []) ss) (hears [] ss)

        quiet : (j : ℕ) (u : Station) → slice_get (both c (sends [] ls) (hears [] ss)) j ≡ Some u → u.address.0 ≢ (s c).0 → taken u f true now ≡ quietly u
        quiet = of_each (λ (v : Station). v.address.0 ≢ (s c).0 → taken v f true now ≡ quietly v) (sends [] ls) (hears [] ss)
            (λ ne. absurd (ne refl)) (λ ne. taken_own (d c) (s c) w f h (hears [] ss) now (eq-eqb (d c).0 (d c).0 refl)) (λ j v there e g ne. taken_else (d c) (s c) w f h v now c.own_s e)

        rooms : (j : ℕ) (u : Station) → slice_get (both c (sends [] ls) (hears [] ss)) j ≡ Some u → no_place u ≡ false
        rooms = of_each (λ (v : Station). no_place v ≡ false) (sends [] ls) (hears [] ss) refl refl (λ j v there e g. ap (λ (gs : List CanFrame). free_places gs == 0) (none_queued j v there))
