-- One turn of a drive between two stations: the sender's first frame is put, else the receiver's, else the sender's lane is pumped.
use Rattle.std.proofs.Common.{◌≡◌, ℕ, ◌+◌, ◌-◌, ◌<◌, ◌≤◌, ◌^◌, ◌==◌, Bool, true, false, cond, List, [], ◌∷◌, ◌++◌, length, set, Some, None, refl, sym, ap, ◌∙◌, subst, arith}
use Rattle.std.specs.Prelude.{nat_lt, slice_get, flat_map}
use Rattle.std.proofs.lemmas.List.{length-map}
use Rattle.std.proofs.lemmas.Option.{slice_get_within}
use Rattle.std.proofs.lemmas.Bool.{eq-eqb, ne_eqb, lt-ltb, ltb-true}
use Rattle.bus_frame.specs.Frames.{CanFrame}
use Rattle.tp_wire.specs.declared.wire.Wire.{Wire}
use Rattle.station_lanes.specs.Lanes.{Lanes}
use Rattle.station_lanes.specs.LaneReaders.{refusal_at}
use Rattle.message_events.specs.declared.event.Event.{Event}
use Rattle.station_sessions.specs.Receiving.{Inbound}
use Rattle.station_core.specs.Station.{Station, quietly}
use Rattle.station_core.specs.Sending as sending
use Rattle.station_core.specs.Taking.{taken, wire_taken}
use Rattle.segment_law.specs.Segment.{Segment}
use Rattle.segment_law.specs.Calls.{no_place, is_address}
use Rattle.segment_law.specs.Record.{Record}
use Rattle.segment_law.specs.Reached.{IsReached}
use Rattle.segment_law.specs.Drive as drive
use Rattle.segment_law.specs.Drive.{Driven, events_in, goes_on, puts, has_queued, all_take, turn}
use Rattle.segment_law.specs.declared.call.Call.TheVariants.{Pump, Transmit}
use Rattle.segment_law.specs.declared.reply.Reply.TheVariants.{Done}
use Rattle.exchange_law.proofs.broadcasts.Sweeps.{under_way, Offers, Swept, sweep_free, after, told_by}
use Rattle.exchange_law.proofs.broadcasts.Turns.{Rests, offers_rests}
use Rattle.exchange_law.proofs.Nodes.{IsBetween, flipped, taken_own, taken_there, taken_else}
use Rattle.exchange_law.proofs.Pairs.{Pair, s, d, put, both, s_at, d_at, s_set, d_set, rooms, Passes, stations_after, told_by_d, told_by_s}
use Rattle.exchange_law.proofs.Puts.{queued_is, after_put, put_reached, put_offers, puts_is, put_told, after_pump, pump_reached, pumps_is, pump_told}

module _ (c : Pair) (L now : ℕ) where
  abbrev n : ℕ
  n = length c.stations

  -- the sender and the receiver in a state
  abbrev pub sends : List CanFrame → Lanes → Station
  sends queue lanes = record c.xs { queue = queue; lanes = lanes }

  abbrev pub hears : List CanFrame → Inbound → Station
  hears queue sessions = record c.ys { queue = queue; sessions = sessions }

  -- a drive of so many turns put these frames and told these events, and the two stations stand so
  pub record Stands (x y : Station) (t : ℕ) (fs : List CanFrame) (es : List Event) (dr : Driven) : Type 0 where
    pub segment : Segment
    pub calls : Record
    pub is : dr ≡ under_way segment calls t fs
    pub reached : IsReached segment
    pub now_is : segment.now ≡ now
    pub stations_are : segment.stations ≡ both c x y
    pub rests : Rests n (L + t) segment.bus
    pub told : events_in calls ≡ es

  -- the same with one more frame, which no station took yet
  record HasPut (x y : Station) (t : ℕ) (fs : List CanFrame) (f : CanFrame) (es : List Event) (dr : Driven) : Type 0 where
    segment : Segment
    calls : Record
    is : dr ≡ under_way segment calls (t + 1) (fs ++ f ∷ [])
    reached : IsReached segment
    now_is : segment.now ≡ now
    stations_are : segment.stations ≡ both c x y
    offers : Offers n (L + t) 0 f segment.bus
    told : events_in calls ≡ es

  some : 1 ≤ n
  some = omega (arith, slice_get_within c.stations c.i c.xs c.at)

  many : (x y : Station) → length (both c x y) ≡ n
  many x y = length-map c.stations (put c x y)

  -- ---- every station takes the frame

  module _ (x y x' y' : Station) (told_x told_y more : List Event) (f : CanFrame) (pass : Passes c f now)
      (one : taken x f true now ≡ record { station = x'; events = told_x }) (other : taken y f true now ≡ record { station = y'; events = told_y })
      (room_x : no_place x ≡ false) (room_y : no_place y ≡ false) (tells : flat_map (λ st. (taken st f true now).events) (both c x y) ≡ more) where
    all_taken : (t : ℕ) (fs : List CanFrame) (es : List Event) (dr : Driven) → HasPut x y t fs f es dr → Stands x' y' (t + 1) (fs ++ f ∷ []) (es ++ more) (goes_on dr (λ g. all_take g.segment.stations g))
    all_taken t fs es dr p =
        let ys : List Station = both c x y in
        let w : Swept n (L + t) now f (after n (L + t) now f (t + 1) (fs ++ f ∷ []) ys) (events_in p.calls ++ told_by n (L + t) now f (t + 1) (fs ++ f ∷ []) ys) (t + 1) (fs ++ f ∷ []) (all_take ys (under_way p.segment p.calls (t + 1) (fs ++ f ∷ []))) =
        sweep_free n (L + t) now f (t + 1) (fs ++ f ∷ []) ys [] p.segment p.calls p.reached p.now_is p.stations_are (omega (arith, many x y)) (rooms c x y room_x room_y) p.offers in
        let next : L + t + 1 ≡ L + (t + 1) = omega arith in
        record {
          segment = w.segment;
          calls = w.calls;
          is = ap (λ (z : Driven). goes_on z (λ g. all_take g.segment.stations g)) p.is ∙ ap (λ (zs : List Station). all_take zs (under_way p.segment p.calls (t + 1) (fs ++ f ∷ []))) p.stations_are ∙ w.is;
          reached = w.reached;
          now_is = w.now_is;
          stations_are = w.stations_are ∙ stations_after c x y x' y' told_x told_y f now pass one other;
          rests = subst (λ (k : ℕ). Rests n k w.segment.bus) next (offers_rests n (L + t) f w.segment.bus w.offers);
          told = w.told ∙ (λ i. p.told i ++ tells i);
        }

  room : (q : List CanFrame) → length q < 64 → (64 - length q == 0) ≡ false
  room q lt = ne_eqb (64 - length q) 0 (λ e. absurd (omega (arith, e, lt)))

  -- ---- a frame of the sender

  module _ (w : Wire) (f : CanFrame) (h : IsBetween (s c) (d c) w f) where
    passes_to_d : Passes c f now
    passes_to_d st a b = taken_else (s c) (d c) w f h st now c.own_d b

    forward : (q p p' : List CanFrame) (ls : Lanes) (ss ss' : Inbound) (more : List Event) → length q < 64 → length p < 64 → wire_taken (hears p ss) w (s c) (d c) true now ≡ record { station = hears p' ss'; events = more }
        → (t : ℕ) (fs : List CanFrame) (es : List Event) (dr : Driven) → HasPut (sends q ls) (hears p ss) t fs f es dr → Stands (sends q ls) (hears p' ss') (t + 1) (fs ++ f ∷ []) (es ++ more) (goes_on dr (λ g. all_take g.segment.stations g))
    forward q p p' ls ss ss' more room_q room_p takes t fs es dr =
        let own : taken (sends q ls) f true now ≡ quietly (sends q ls) = taken_own (s c) (d c) w f h (sends q ls) now (eq-eqb (s c).0 (s c).0 refl) in
        let there : taken (hears p ss) f true now ≡ record { station = hears p' ss'; events = more } = taken_there (s c) (d c) w f h (hears p ss) now c.apart (eq-eqb (d c).0 (d c).0 refl) ∙ takes in
        all_taken (sends q ls) (hears p ss) (sends q ls) (hears p' ss') [] more more f passes_to_d own there (room q room_q) (room p room_p)
        (told_by_d c (sends q ls) (hears p ss) (sends q ls) (hears p' ss') [] more f now passes_to_d own there refl) t fs es dr

  -- ---- a frame of the receiver

  module _ (w : Wire) (f : CanFrame) (h : IsBetween (d c) (s c) w f) where
    passes_to_s : Passes c f now
    passes_to_s st a b = taken_else (d c) (s c) w f h st now c.own_s a

    apart_s : ((s c).0 == (d c).0) ≡ false
    apart_s = flipped (d c).0 (s c).0 false c.apart

    back : (q p : List CanFrame) (q' : List CanFrame) (ls ls' : Lanes) (ss : Inbound) (more : List Event) → length q < 64 → length p < 64 → wire_taken (sends q ls) w (d c) (s c) true now ≡ record { station = sends q' ls'; events = more }
        → (t : ℕ) (fs : List CanFrame) (es : List Event) (dr : Driven) → HasPut (sends q ls) (hears p ss) t fs f es dr → Stands (sends q' ls') (hears p ss) (t + 1) (fs ++ f ∷ []) (es ++ more) (goes_on dr (λ g. all_take g.segment.stations g))
    back q p q' ls ls' ss more room_q room_p takes t fs es dr =
        let own : taken (hears p ss) f true now ≡ quietly (hears p ss) = taken_own (d c) (s c) w f h (hears p ss) now (eq-eqb (d c).0 (d c).0 refl) in
        let there : taken (sends q ls) f true now ≡ record { station = sends q' ls'; events = more } = taken_there (d c) (s c) w f h (sends q ls) now apart_s (eq-eqb (s c).0 (s c).0 refl) ∙ takes in
        all_taken (sends q ls) (hears p ss) (sends q' ls') (hears p ss) more [] more f passes_to_s there own (room q room_q) (room p room_p)
        (told_by_s c (sends q ls) (hears p ss) (sends q' ls') (hears p ss) more [] f now passes_to_s there own refl) t fs es dr

  -- ---- which station puts a frame

  module _ (q p : List CanFrame) (ls : Lanes) (ss : Inbound) (t : ℕ) (fs : List CanFrame) (es : List Event) (dr : Driven) (a : Stands (sends q ls) (hears p ss) t fs es dr) where
    s_here : slice_get a.segment.stations c.i ≡ Some (sends q ls)
    s_here = ap (λ (zs : List Station). slice_get zs c.i) a.stations_are ∙ s_at c (sends q ls) (hears p ss)

    d_here : slice_get a.segment.stations c.k ≡ Some (hears p ss)
    d_here = ap (λ (zs : List Station). slice_get zs c.k) a.stations_are ∙ d_at c (sends q ls) (hears p ss)

    s_queued : has_queued a.segment (s c) ≡ nat_lt 0 (length q)
    s_queued = queued_is a.segment a.reached c.i (sends q ls) s_here

    d_queued : has_queued a.segment (d c) ≡ nat_lt 0 (length p)
    d_queued = queued_is a.segment a.reached c.k (hears p ss) d_here

    abbrev now_on : Driven
    now_on = under_way a.segment a.calls t fs

    abbrev by_tests : (x y : Bool) → Driven
    by_tests x y = cond x (puts now_on (s c)) (cond y (puts now_on (d c)) (puts (drive.pumps (s c) (d c) now_on) (s c)))

    turn_is : goes_on dr (turn (s c) (d c)) ≡ goes_on (by_tests (nat_lt 0 (length q)) (nat_lt 0 (length p))) (λ g. all_take g.segment.stations g)
    turn_is = ap (λ (z : Driven). goes_on z (turn (s c) (d c))) a.is ∙ (λ i. goes_on (by_tests (s_queued i) (d_queued i)) (λ g. all_take g.segment.stations g))

  -- the sender, where something is queued
  module _ (f : CanFrame) (q p : List CanFrame) (ls : Lanes) (ss : Inbound) (t : ℕ) (fs : List CanFrame) (es : List Event) (dr : Driven) (a : Stands (sends (f ∷ q) ls) (hears p ss) t fs es dr) (fits : L + t + 1 < 2 ^ 64) where
    s_puts : HasPut (sends q ls) (hears p ss) t fs f es (puts (under_way a.segment a.calls t fs) (s c))
    s_puts =
        let z : Station = sends q ls in
        let at : slice_get a.segment.stations c.i ≡ Some (sends (f ∷ q) ls) = s_here (f ∷ q) p ls ss t fs es dr a in
        record {
          segment = after_put z a.segment a.reached c.i f q at n (L + t) a.rests some fits;
          calls = a.calls ++ (Transmit (s c), Done []) ∷ [];
          is = puts_is z a.segment a.reached c.i f q at n (L + t) a.rests some fits a.calls t fs;
          reached = put_reached z a.segment a.reached c.i f q at n (L + t) a.rests some fits;
          now_is = a.now_is;
          stations_are = ap (λ (zs : List Station). set zs c.i (sends q ls)) a.stations_are ∙ s_set c (sends (f ∷ q) ls) (hears p ss) (sends q ls);
          offers = put_offers z a.segment a.reached c.i f q at n (L + t) a.rests some fits;
          told = put_told z a.segment a.reached c.i f q at n (L + t) a.rests some fits a.calls ∙ a.told;
        }

    s_first : nat_lt 0 (length (f ∷ q)) ≡ true
    s_first = lt-ltb 0 (length (f ∷ q)) (omega arith)

  -- a turn of the sender
  pub turn_forward : (w : Wire) (f : CanFrame) → IsBetween (s c) (d c) w f → (q p' : List CanFrame) (ls : Lanes) (ss ss' : Inbound) (more : List Event) → length q < 64 → wire_taken (hears [] ss) w (s c) (d c) true now ≡ record { station = hears p' ss'; events = more }
      → (t : ℕ) (fs : List CanFrame) (es : List Event) (dr : Driven) → Stands (sends (f ∷ q) ls) (hears [] ss) t fs es dr → L + t + 1 < 2 ^ 64 → Stands (sends q ls) (hears p' ss') (t + 1) (fs ++ f ∷ []) (es ++ more) (goes_on dr (turn (s c) (d c)))
  turn_forward w f h q p' ls ss ss' more room takes t fs es dr a fits =
      let first : nat_lt 0 (length (f ∷ q)) ≡ true = s_first f q [] ls ss t fs es dr a fits in
      let is : goes_on dr (turn (s c) (d c)) ≡ goes_on (puts (under_way a.segment a.calls t fs) (s c)) (λ g. all_take g.segment.stations g) =
      turn_is (f ∷ q) [] ls ss t fs es dr a ∙ ap (λ (b : Bool). goes_on (by_tests (f ∷ q) [] ls ss t fs es dr a b (nat_lt 0 0)) (λ g. all_take g.segment.stations g)) first in
      subst (Stands (sends q ls) (hears p' ss') (t + 1) (fs ++ f ∷ []) (es ++ more)) (sym is)
      (forward w f h q [] p' ls ss ss' more room (omega arith) takes t fs es (puts (under_way a.segment a.calls t fs) (s c)) (s_puts f q [] ls ss t fs es dr a fits))

  -- a turn of the receiver
  pub turn_back : (w : Wire) (f : CanFrame) → IsBetween (d c) (s c) w f → (p q' : List CanFrame) (ls ls' : Lanes) (ss : Inbound) (more : List Event) → length p < 64 → wire_taken (sends [] ls) w (d c) (s c) true now ≡ record { station = sends q' ls'; events = more }
      → (t : ℕ) (fs : List CanFrame) (es : List Event) (dr : Driven) → Stands (sends [] ls) (hears (f ∷ p) ss) t fs es dr → L + t + 1 < 2 ^ 64 → Stands (sends q' ls') (hears p ss) (t + 1) (fs ++ f ∷ []) (es ++ more) (goes_on dr (turn (s c) (d c)))
  turn_back w f h p q' ls ls' ss more room takes t fs es dr a fits =
      let z : Station = hears p ss in
      let at : slice_get a.segment.stations c.k ≡ Some (hears (f ∷ p) ss) = d_here [] (f ∷ p) ls ss t fs es dr a in
      let first : nat_lt 0 (length (f ∷ p)) ≡ true = lt-ltb 0 (length (f ∷ p)) (omega arith) in
      let is : goes_on dr (turn (s c) (d c)) ≡ goes_on (puts (under_way a.segment a.calls t fs) (d c)) (λ g. all_take g.segment.stations g) =
      turn_is [] (f ∷ p) ls ss t fs es dr a ∙ ap (λ (b : Bool). goes_on (by_tests [] (f ∷ p) ls ss t fs es dr a (nat_lt 0 0) b) (λ g. all_take g.segment.stations g)) first in
      let putting : HasPut (sends [] ls) (hears p ss) t fs f es (puts (under_way a.segment a.calls t fs) (d c)) = record {
        segment = after_put z a.segment a.reached c.k f p at n (L + t) a.rests some fits;
        calls = a.calls ++ (Transmit (d c), Done []) ∷ [];
        is = puts_is z a.segment a.reached c.k f p at n (L + t) a.rests some fits a.calls t fs;
        reached = put_reached z a.segment a.reached c.k f p at n (L + t) a.rests some fits;
        now_is = a.now_is;
        stations_are = ap (λ (zs : List Station). set zs c.k (hears p ss)) a.stations_are ∙ d_set c (sends [] ls) (hears (f ∷ p) ss) (hears p ss);
        offers = put_offers z a.segment a.reached c.k f p at n (L + t) a.rests some fits;
        told = put_told z a.segment a.reached c.k f p at n (L + t) a.rests some fits a.calls ∙ a.told;
      } in
      subst (Stands (sends q' ls') (hears p ss) (t + 1) (fs ++ f ∷ []) (es ++ more)) (sym is)
      (back w f h [] p q' ls ls' ss more (omega arith) room takes t fs es (puts (under_way a.segment a.calls t fs) (d c)) putting)

  -- a turn in which the sender's lane is pumped
  pub turn_pump : (w : Wire) (f : CanFrame) → IsBetween (s c) (d c) w f → (q p' : List CanFrame) (ls ls' : Lanes) (ss ss' : Inbound) (more : List Event) → length q < 64
      → refusal_at ls (d c).0 now ≡ None → sending.pumped (sends [] ls) (d c) now ≡ record { station = sends (f ∷ q) ls'; events = [] }
      → wire_taken (hears [] ss) w (s c) (d c) true now ≡ record { station = hears p' ss'; events = more }
      → (t : ℕ) (fs : List CanFrame) (es : List Event) (dr : Driven) → Stands (sends [] ls) (hears [] ss) t fs es dr → L + t + 1 < 2 ^ 64 → Stands (sends q ls') (hears p' ss') (t + 1) (fs ++ f ∷ []) (es ++ more) (goes_on dr (turn (s c) (d c)))
  turn_pump w f h q p' ls ls' ss ss' more room free does takes t fs es dr a fits =
      let x : Station = sends [] ls in
      let new : Station = sends (f ∷ q) ls' in
      let at : slice_get a.segment.stations c.i ≡ Some x = s_here [] [] ls ss t fs es dr a in
      let free_now : refusal_at ls (d c).0 a.segment.now ≡ None = ap (refusal_at ls (d c).0) a.now_is ∙ free in
      let does_now : sending.pumped x (d c) a.segment.now ≡ record { station = new; events = [] } = ap (sending.pumped x (d c)) a.now_is ∙ does in
      let seg1 : Segment = after_pump x a.segment a.reached c.i (d c) c.own_d at refl free_now new does_now in
      let calls1 : Record = a.calls ++ (Pump (s c) (d c), Done []) ∷ [] in
      let d1 : Driven = under_way seg1 calls1 t fs in
      let one : (d c).0 < 254 = ltb-true (d c).0 254 c.own_d in
      let small : is_address (d c) ≡ true = lt-ltb (d c).0 (2 ^ 8) (omega (arith, one)) in
      let mid : Stands new (hears [] ss) t fs es d1 = record {
        segment = seg1;
        calls = calls1;
        is = refl;
        reached = pump_reached x a.segment a.reached c.i (d c) c.own_d at refl free_now new does_now small;
        now_is = a.now_is;
        stations_are = ap (λ (zs : List Station). set zs c.i new) a.stations_are ∙ s_set c x (hears [] ss) new;
        rests = a.rests;
        told = pump_told x a.segment a.reached c.i (d c) c.own_d at refl free_now new does_now a.calls ∙ a.told;
      } in
      let is : goes_on dr (turn (s c) (d c)) ≡ goes_on (puts d1 (s c)) (λ g. all_take g.segment.stations g) =
      turn_is [] [] ls ss t fs es dr a
      ∙ ap (λ (z : Driven). goes_on (puts z (s c)) (λ g. all_take g.segment.stations g)) (pumps_is x a.segment a.reached c.i (d c) c.own_d at refl free_now new does_now a.calls t fs) in
      subst (Stands (sends q ls') (hears p' ss') (t + 1) (fs ++ f ∷ []) (es ++ more)) (sym is)
      (forward w f h q [] p' ls' ss ss' more room (omega arith) takes t fs es (puts d1 (s c)) (s_puts f q [] ls' ss t fs es d1 mid fits))
