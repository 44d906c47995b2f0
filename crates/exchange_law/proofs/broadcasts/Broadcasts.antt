-- A message to all that nothing disturbs, turn by turn: after each turn one more frame was put, and every station stands where
-- the frames so far have led it.
use Rattle.std.proofs.Common.{◌≡◌, ℕ, zero, suc, ◌+◌, ◌*◌, ◌%◌, ◌<◌, ◌≤◌, ◌^◌, ◌==◌, Bool, true, false, cond, not, ◌&&◌, ◌||◌, List, [], ◌∷◌, ◌++◌, length, set, get_or, Option, Some, None, refl, sym, ap, ◌∙◌, subst, arith, add-one}
use Rattle.std.specs.Prelude.{All, map, nat_lt, slice_get}
use Rattle.std.specs.List.{range_with_len}
use Rattle.std.specs.FinMap as finmap
use Rattle.std.proofs.lemmas.List.{length-map, append-nil}
use Rattle.std.proofs.lemmas.List.Elements.{All-map}
use Rattle.std.proofs.lemmas.List.FromFn.{map-range_with_len_more}
use Rattle.std.proofs.lemmas.Option.{slice_get-map, slice_get_within}
use Rattle.std.proofs.lemmas.Bool.{eq-eqb, ltb-true}
use Rattle.std.specs.Option.{option_map}
use Rattle.bus_frame.specs.Frames.{CanFrame}
use Rattle.pgn_ids.specs.Address.{is_one}
use Rattle.pgn_ids.specs.Pgn.{is_pdu1}
use Rattle.pgn_ids.specs.declared.address.Address.{Address}
use Rattle.tp_wire.specs.Rows.{written}
use Rattle.tp_wire.specs.declared.outcome.Outcome.TheVariants as outcome
use Rattle.tp_wire.specs.declared.wire.Kind.TheVariants.{Tp}
use Rattle.tp_wire.specs.declared.wire.CmFrame.TheVariants.{Bam}
use Rattle.tp_wire.specs.declared.wire.Wire.{Wire}
use Rattle.tp_wire.specs.declared.wire.Wire.TheVariants.{Cm, Packet}
use Rattle.seg_cut.specs.Packets.{packet_count, packet}
use Rattle.tick_timers.specs.declared.durations.TheConstants.{BROADCAST_GAP}
use Rattle.lane_core.specs.Lane.{Lane}
use Rattle.lane_core.specs.Pump.{pump_refusal, missing}
use Rattle.lane_core.specs.declared.message.Pending.{Pending}
use Rattle.lane_core.specs.declared.probe.Token.{Token}
use Rattle.lane_core.specs.declared.step.Ended.{Ended}
use Rattle.message_events.specs.declared.event.Event.{Event}
use Rattle.message_events.specs.declared.event.Event.TheVariants as event
use Rattle.station_core.specs.Station.{Station, StationStep, quietly}
use Rattle.station_core.specs.Taking.{taken}
use Rattle.segment_law.specs.Segment.{Segment}
use Rattle.segment_law.specs.Record.{Record}
use Rattle.segment_law.specs.Reached.{IsFitMessage, IsFitStation, IsReached}
use Rattle.segment_law.specs.Drive.{Driven, events_in, goes_on, turn_puts, turn, turns_from}
use Rattle.segment_law.specs.Quiet.{given_by, broadcast_given}
use Rattle.segment_law.proofs.Booleans.{both_pass}
use Rattle.record_law.proofs.Readings.{GivesBack, ReadsBack}
use Rattle.exchange_law.proofs.broadcasts.Sweeps.{under_way, Swept, after, told_by}
use Rattle.exchange_law.proofs.broadcasts.Receivers.{GoesOn, Ends, all, hears, heard, place, join_of, bam_heard, packet_heard, last_heard, whole_message}
use Rattle.exchange_law.proofs.broadcasts.Senders.{ready, going, over_with, sends, begins_now, goes_now, ends_now, ready_pumps, going_pumps, going_waits, going_misses}
use Rattle.exchange_law.proofs.broadcasts.Turns.{Rests, offers_rests, HasPut, turn_first, turn_later, turn_takes}
use Rattle.exchange_law.proofs.broadcasts.Meanings.{IsSaid, bam_said, packet_said, taken_own, taken_other}
use Rattle.exchange_law.proofs.broadcasts.Lists.{map_both, flat_both, flat_none, set_where}

-- The setting

-- stations with nothing queued, of which one has a message to all that has not begun
pub record Setting : Type 0 where
  pub stations : List Station
  pub i : ℕ
  pub xs : Station
  pub m : Pending
  pub more : List Pending
  pub number : ℕ
  pub token : Token
  pub L : ℕ
  pub now0 : ℕ
  pub at : slice_get stations i ≡ Some xs
  pub only : (j : ℕ) (st : Station) → slice_get stations j ≡ Some st → (st.address.0 == xs.address.0) ≡ true → j ≡ i
  pub fit : All IsFitStation stations
  pub queues : All (λ (st : Station). st.queue ≡ []) stations
  pub own : is_one xs.address.0 ≡ true
  pub lane : finmap.get xs.lanes 255 ≡ Some (ready xs m more number token)
  pub msg : IsFitMessage 255 m
  pub bus_fits : L + (packet_count (length m.bytes) + 1) < 2 ^ 64
  pub clock_fits : now0 + BROADCAST_GAP * packet_count (length m.bytes) < 2 ^ 64

module _ (c : Setting) where
  abbrev pub s : Address
  s = c.xs.address

  abbrev pub n : ℕ
  n = length c.stations

  abbrev pub last : ℕ
  last = packet_count (length c.m.bytes)

  abbrev same : Station → Bool
  same st = st.address.0 == s.0

  -- the tick after so many turns
  abbrev pub time : ℕ → ℕ
  time zero = c.now0
  time (suc j) = c.now0 + BROADCAST_GAP * j

  abbrev pub bam_wire : Wire
  bam_wire = Cm (Bam (length c.m.bytes) last c.m.pgn)

  abbrev pub packet_wire : ℕ → Wire
  packet_wire j = Packet Tp (suc j) (packet c.m.bytes (suc j))

  abbrev wire_no : ℕ → Wire
  wire_no zero = bam_wire
  wire_no (suc j) = packet_wire j

  -- the frame of a turn, and those of all before
  abbrev pub frame_no : ℕ → CanFrame
  frame_no k = written (wire_no k) s.0 255

  abbrev pub frames : ℕ → List CanFrame
  frames zero = []
  frames (suc k) = frames k ++ frame_no k ∷ []

  abbrev lane_no : ℕ → Lane
  lane_no zero = ready c.xs c.m c.more c.number c.token
  lane_no (suc j) = going c.xs c.m c.more c.number c.token j (time (suc j))

  abbrev sender : Lane → Station
  sender l = sends c.xs c.m c.more c.number c.token [] l

  abbrev other : ℕ → Station → Station
  other zero st = record st { queue = [] }
  other (suc j) st = hears s c.m j (time (suc j)) st

  -- the stations after so many turns
  abbrev stage : ℕ → Station → Station
  stage k st = cond (same st) (sender (lane_no k)) (other k st)

  -- and when the sender has put one more frame
  abbrev mid : Lane → ℕ → Station → Station
  mid l k st = cond (same st) (sender l) (other k st)

  abbrev pub done : Station → Station
  done st = cond (same st) (sender (over_with c.xs c.m c.more c.number c.token)) (heard s c.m st)

  other_queue : (k : ℕ) (st : Station) → (other k st).queue ≡ []
  other_queue zero st = refl
  other_queue (suc j) st = refl

  other_address : (k : ℕ) (st : Station) → (other k st).address ≡ st.address
  other_address zero st = refl
  other_address (suc j) st = refl

  mid_queue : (l : Lane) (k : ℕ) (st : Station) → (mid l k st).queue ≡ []
  mid_queue l k st = elim (same st) as (λ b. (cond b (sender l) (other k st)).queue ≡ []) [ true ↦ refl | false ↦ other_queue k st ]

  mid_queues : (l : Lane) (k : ℕ) → All (λ (st : Station). st.queue ≡ []) (map (mid l k) c.stations)
  mid_queues l k = All-map (λ (st : Station). st.queue ≡ []) (mid l k) c.stations (λ j d lt. mid_queue l k (get_or c.stations j d))

  -- the sender stands at its place
  sender_at : (k : ℕ) → slice_get (map (stage k) c.stations) c.i ≡ Some (sender (lane_no k))
  sender_at k =
      let own : same c.xs ≡ true = eq-eqb s.0 s.0 refl in
      slice_get-map (stage k) c.stations c.i
      ∙ ap (option_map (stage k)) c.at
      ∙ ap (λ (b : Bool). Some (cond b (sender (lane_no k)) (other k c.xs))) own

  sender_set : (l : Lane) (k : ℕ) → set (map (stage k) c.stations) c.i (sender l) ≡ map (mid l k) c.stations
  sender_set l k =
      set_where same (sender l) (stage k) c.stations c.i c.xs c.at (eq-eqb s.0 s.0 refl) c.only
      ∙ again c.stations
    where
      one : (st : Station) (b : Bool) → cond b (sender l) (cond b (sender (lane_no k)) (other k st)) ≡ cond b (sender l) (other k st)
      one st true = refl
      one st false = refl

      again : (xs : List Station) → map (λ st. cond (same st) (sender l) (stage k st)) xs ≡ map (mid l k) xs
      again [] = refl
      again (st ∷ xs) = (λ i. one st (same st) i ∷ again xs i)

  -- ---- each station takes the frame of a turn

  module _ (gives : GivesBack) (reads : ReadsBack) (seven : (k : ℕ) → k ≤ last → length (packet c.m.bytes k) ≡ 7) where
    said : (k : ℕ) → k ≤ last → IsSaid s (wire_no k) (frame_no k)
    said zero le = bam_said s c.own gives reads (length c.m.bytes) last c.m.pgn (ltb-true c.m.pgn (2 ^ 18) (both_pass (nat_lt c.m.pgn (2 ^ 18)) (not (is_pdu1 c.m.pgn) || c.m.pgn % 2 ^ 8 == 0) c.msg.pgn).0)
    said (suc j) le = packet_said s c.own gives reads (suc j) (packet c.m.bytes (suc j)) (omega arith) (seven (suc j) le)

    own_takes : (l : Lane) (k now : ℕ) → k ≤ last → taken (sender l) (frame_no k) true now ≡ quietly (sender l)
    own_takes l k now le = taken_own s (wire_no k) (frame_no k) (said k le) (sender l) now (eq-eqb s.0 s.0 refl)

    other_same : (k : ℕ) (st : Station) → same st ≡ false → same (other k st) ≡ false
    other_same k st e = ap (λ (a : Address). a.0 == s.0) (other_address k st) ∙ e

    -- before the last packet
    other_takes : (k : ℕ) (st : Station) (now : ℕ) → k < last → now ≡ time (suc k) → same st ≡ false → taken (other k st) (frame_no k) true now ≡ quietly (other (suc k) st)
    other_takes zero st now few clock e =
        taken_other s bam_wire (frame_no 0) (said 0 (omega arith)) (other 0 st) now (other_same 0 st e)
        ∙ bam_heard s c.m c.msg.pgn c.msg.least c.msg.most st now
        ∙ ap (λ (t : ℕ). quietly (hears s c.m 0 t st)) clock
    other_takes (suc j) st now few clock e =
        taken_other s (packet_wire j) (frame_no (suc j)) (said (suc j) (omega arith)) (other (suc j) st) now (other_same (suc j) st e)
        ∙ packet_heard s c.m st j (time (suc j)) now few
        ∙ ap (λ (t : ℕ). quietly (hears s c.m (suc j) t st)) clock

    one_takes : (k : ℕ) (st : Station) (now : ℕ) → k < last → now ≡ time (suc k) → taken (mid (lane_no (suc k)) k st) (frame_no k) true now ≡ quietly (stage (suc k) st)
    one_takes k st now few clock = by (same st) refl
      where
        by : (b : Bool) → same st ≡ b → taken (cond b (sender (lane_no (suc k))) (other k st)) (frame_no k) true now ≡ quietly (cond b (sender (lane_no (suc k))) (other (suc k) st))
        by true e = own_takes (lane_no (suc k)) k now (omega arith)
        by false e = other_takes k st now few clock e

    -- the last packet
    module _ (goes_on' : GoesOn) (ends : Ends) where
      one_ends : (j : ℕ) (st : Station) (now : ℕ) → suc j ≡ last → IsFitStation st
          → taken (mid (over_with c.xs c.m c.more c.number c.token) (suc j) st) (frame_no (suc j)) true now ≡ record { station = done st; events = cond (not (same st) && place s c.m st) (given_by st c.m s all) [] }
      one_ends j st now is_last fit = by (same st) refl
        where
          whole : (join_of s c.m (suc j)).bytes ≡ c.m.bytes
          whole = ap (λ (k : ℕ). (join_of s c.m k).bytes) is_last ∙ whole_message s c.m goes_on' ends

          by : (b : Bool) → same st ≡ b
              → taken (cond b (sender (over_with c.xs c.m c.more c.number c.token)) (other (suc j) st)) (frame_no (suc j)) true now ≡ record { station = cond b (sender (over_with c.xs c.m c.more c.number c.token)) (heard s c.m st); events = cond (not b && place s c.m st) (given_by st c.m s all) [] }
          by true e = own_takes (over_with c.xs c.m c.more c.number c.token) (suc j) now (omega (arith, is_last))
          by false e =
              taken_other s (packet_wire j) (frame_no (suc j)) (said (suc j) (omega (arith, is_last))) (other (suc j) st) now (other_same (suc j) st e)
              ∙ last_heard s c.m st j (time (suc j)) now is_last c.msg.pgn fit.ports whole

    -- ---- turn by turn

    abbrev no_events : List Event
    no_events = []

    -- what a drive of so many turns has done
    pub record After (k : ℕ) (d : Driven) : Type 0 where
      pub segment : Segment
      pub calls : Record
      pub is : d ≡ under_way segment calls k (frames k)
      pub reached : IsReached segment
      pub now_is : segment.now ≡ time k
      pub stations_are : segment.stations ≡ map (stage k) c.stations
      pub rests : Rests n (c.L + k) segment.bus
      pub told : events_in calls ≡ no_events

    some : 1 ≤ n
    some = omega (arith, slice_get_within c.stations c.i c.xs c.at)

    time_next : (j : ℕ) → time (suc j) + BROADCAST_GAP ≡ time (suc (suc j))
    time_next j = omega arith

    stage_queues : (k : ℕ) → All (λ (st : Station). st.queue ≡ []) (map (stage k) c.stations)
    stage_queues k = mid_queues (lane_no k) k

    module _ (k : ℕ) (d : Driven) (a : After k d) (few : k ≤ last) where
      sender_here : slice_get a.segment.stations c.i ≡ Some (sender (lane_no k))
      sender_here = ap (λ (xs : List Station). slice_get xs c.i) a.stations_are ∙ sender_at k

      empty : All (λ (st : Station). st.queue ≡ []) a.segment.stations
      empty = subst (All (λ (st : Station). st.queue ≡ [])) (sym a.stations_are) (stage_queues k)

      fits : c.L + k + 1 < 2 ^ 64
      fits = omega (arith, c.bus_fits, few)

      abbrev turned : Driven
      turned = goes_on d (turn s all)

      abbrev begun : Driven
      begun = under_way a.segment a.calls k (frames k)

      -- the frame is put, and every station takes it
      taken_by_all : (l : Lane) (now : ℕ) (events : List Event) → HasPut n (c.L + k) now k c.i (frames k) (frame_no k) a.segment.stations (sender l) events (turn_puts s all begun)
          → Swept n (c.L + k) now (frame_no k) (after n (c.L + k) now (frame_no k) (k + 1) (frames (suc k)) (map (mid l k) c.stations)) (events ++ told_by n (c.L + k) now (frame_no k) (k + 1) (frames (suc k)) (map (mid l k) c.stations)) (k + 1) (frames (suc k)) turned
      taken_by_all l now events p =
          let set_is : set a.segment.stations c.i (sender l) ≡ map (mid l k) c.stations = ap (λ (xs : List Station). set xs c.i (sender l)) a.stations_are ∙ sender_set l k in
          let many : length a.segment.stations ≡ n = ap length a.stations_are ∙ length-map c.stations (stage k) in
          let w = turn_takes c.xs c.m c.more c.number c.token n (c.L + k) c.i (lane_no k) l (frame_no k) None some fits now k (frames k) a.segment.stations (sender l) events begun p (subst (All (λ (st : Station). st.queue ≡ [])) (sym set_is) (mid_queues l k)) many in
          let swept = subst (λ (xs : List Station). Swept n (c.L + k) now (frame_no k) (after n (c.L + k) now (frame_no k) (k + 1) (frames (suc k)) xs) (events ++ told_by n (c.L + k) now (frame_no k) (k + 1) (frames (suc k)) xs) (k + 1) (frames (suc k)) (turn s all begun)) set_is w in
          subst (λ (x : Driven). Swept n (c.L + k) now (frame_no k) (after n (c.L + k) now (frame_no k) (k + 1) (frames (suc k)) (map (mid l k) c.stations)) (events ++ told_by n (c.L + k) now (frame_no k) (k + 1) (frames (suc k)) (map (mid l k) c.stations)) (k + 1) (frames (suc k)) x) (ap (λ (x : Driven). goes_on x (turn s all)) (sym a.is)) swept

      -- a turn that isn't the last
      goes : (now : ℕ) → now ≡ time (suc k) → k < last → HasPut n (c.L + k) now k c.i (frames k) (frame_no k) a.segment.stations (sender (lane_no (suc k))) (events_in a.calls ++ no_events) (turn_puts s all begun) → After (suc k) turned
      goes now clock few' p =
          let w = taken_by_all (lane_no (suc k)) now (events_in a.calls ++ no_events) p in
          let before : events_in a.calls ++ no_events ≡ no_events = append-nil (events_in a.calls) ∙ a.told in
          let quiet = map_both IsFitStation (λ st. (taken st (frame_no k) true now).station) (mid (lane_no (suc k)) k) (stage (suc k)) (λ st fit. ap (λ (x : StationStep). x.station) (one_takes k st now few' clock)) c.stations c.fit in
          let silent = flat_both IsFitStation (λ st. (taken st (frame_no k) true now).events) (mid (lane_no (suc k)) k) (λ _. no_events) (λ st fit. ap (λ (x : StationStep). x.events) (one_takes k st now few' clock)) c.stations c.fit in
          record {
            segment = w.segment;
            calls = w.calls;
            is = w.is ∙ ap (λ (t : ℕ). under_way w.segment w.calls t (frames (suc k))) (add-one k);
            reached = w.reached;
            now_is = w.now_is ∙ clock;
            stations_are = w.stations_are ∙ quiet;
            rests = subst (λ (L : ℕ). Rests n L w.segment.bus) (let e : c.L + k + 1 ≡ c.L + suc k = omega arith in e) (offers_rests n (c.L + k) (frame_no k) w.segment.bus w.offers);
            told = w.told ∙ (λ i. before i ++ silent i) ∙ flat_none c.stations;
          }

    -- the next turn, before the last
    pub next_turn : (k : ℕ) (d : Driven) → After k d → k < last → After (suc k) (goes_on d (turn s all))
    next_turn zero d a few =
        let le : 0 ≤ last = omega arith in
        let p = turn_first c.xs c.m c.more c.number c.token n (c.L + 0) c.i (lane_no 0) (lane_at a.segment.now) (frame_no 0) None some (fits 0 d a le) a.segment a.reached a.rests (sender_here 0 d a le) (empty 0 d a le) (ready_pumps c.xs c.m c.more c.number c.token a.segment.now) (begins_now c.xs c.m c.more c.number c.token a.segment.now) a.calls 0 (frames 0) in
        let clock : a.segment.now ≡ time 1 = a.now_is ∙ (let e : c.now0 ≡ c.now0 + BROADCAST_GAP * 0 = omega arith in e) in
        let q = subst (λ (t : ℕ). HasPut n (c.L + 0) a.segment.now 0 c.i (frames 0) (frame_no 0) a.segment.stations (sender (lane_at t)) (events_in a.calls ++ no_events) (turn_puts s all (under_way a.segment a.calls 0 (frames 0)))) clock p in
        goes 0 d a le a.segment.now clock few q
      where
        lane_at : ℕ → Lane
        lane_at t = going c.xs c.m c.more c.number c.token 0 t
    next_turn (suc j) d a few =
        let le : suc j ≤ last = omega arith in
        let at_time : a.segment.now ≡ time (suc j) = a.now_is in
        let later : time (suc j) + BROADCAST_GAP ≤ a.segment.now + BROADCAST_GAP = omega (arith, at_time) in
        let clock : a.segment.now + BROADCAST_GAP ≡ time (suc (suc j)) = ap (λ (t : ℕ). t + BROADCAST_GAP) at_time ∙ time_next j in
        let room : a.segment.now + BROADCAST_GAP < 2 ^ 64 = omega (arith, c.clock_fits, at_time, few) in
        let p = turn_later c.xs c.m c.more c.number c.token n (c.L + suc j) c.i (lane_no (suc j)) (going c.xs c.m c.more c.number c.token (suc j) (a.segment.now + BROADCAST_GAP)) (frame_no (suc j)) None some (fits (suc j) d a le) a.segment a.reached a.rests (sender_here (suc j) d a le) (empty (suc j) d a le)
        (ap (pump_refusal (lane_no (suc j))) at_time ∙ going_waits c.xs c.m c.more c.number c.token j (time (suc j)))
        (ap (missing (lane_no (suc j))) at_time ∙ going_misses c.xs c.m c.more c.number c.token j (time (suc j)))
        room
        (going_pumps c.xs c.m c.more c.number c.token j (time (suc j)) (a.segment.now + BROADCAST_GAP) later)
        (goes_now c.xs c.m c.more c.number c.token j (time (suc j)) (a.segment.now + BROADCAST_GAP) later few)
        a.calls (suc j) (frames (suc j)) in
        let q = subst (λ (t : ℕ). HasPut n (c.L + suc j) (a.segment.now + BROADCAST_GAP) (suc j) c.i (frames (suc j)) (frame_no (suc j)) a.segment.stations (sender (going c.xs c.m c.more c.number c.token (suc j) t)) (events_in a.calls ++ no_events) (turn_puts s all (under_way a.segment a.calls (suc j) (frames (suc j))))) clock p in
        goes (suc j) d a le (a.segment.now + BROADCAST_GAP) clock few q

    -- what the whole drive has done
    pub record Whole (d : Driven) : Type 0 where
      pub segment : Segment
      pub calls : Record
      pub is : d ≡ under_way segment calls (suc last) (frames (suc last))
      pub reached : IsReached segment
      pub stations_are : segment.stations ≡ map done c.stations
      pub rests : Rests n (c.L + last + 1) segment.bus
      pub told : events_in calls ≡ event.Outcome s all c.m.number outcome.Broadcast ∷ broadcast_given c.stations c.m s all

    -- the last turn
    pub last_turn : (goes_on' : GoesOn) (ends : Ends) (j : ℕ) (d : Driven) → suc j ≡ last → After (suc j) d → Whole (goes_on d (turn s all))
    last_turn goes_on' ends j d is_last a =
        let le : suc j ≤ last = omega (arith, is_last) in
        let over : Lane = over_with c.xs c.m c.more c.number c.token in
        let ended : Option Ended = Some (record { number = c.m.number; outcome = outcome.Broadcast }) in
        let at_time : a.segment.now ≡ time (suc j) = a.now_is in
        let now : ℕ = a.segment.now + BROADCAST_GAP in
        let later : time (suc j) + BROADCAST_GAP ≤ now = omega (arith, at_time) in
        let room : now < 2 ^ 64 = omega (arith, c.clock_fits, at_time, is_last) in
        let p = turn_later c.xs c.m c.more c.number c.token n (c.L + suc j) c.i (lane_no (suc j)) over (frame_no (suc j)) ended some (fits (suc j) d a le) a.segment a.reached a.rests (sender_here (suc j) d a le) (empty (suc j) d a le)
        (ap (pump_refusal (lane_no (suc j))) at_time ∙ going_waits c.xs c.m c.more c.number c.token j (time (suc j)))
        (ap (missing (lane_no (suc j))) at_time ∙ going_misses c.xs c.m c.more c.number c.token j (time (suc j)))
        room
        (going_pumps c.xs c.m c.more c.number c.token j (time (suc j)) now later)
        (ends_now c.xs c.m c.more c.number c.token j (time (suc j)) now later is_last)
        a.calls (suc j) (frames (suc j)) in
        let outcome_told : List Event = event.Outcome s all c.m.number outcome.Broadcast ∷ [] in
        let w = taken_by_all (suc j) d a le over now (events_in a.calls ++ outcome_told) p in
        let stations = map_both IsFitStation (λ st. (taken st (frame_no (suc j)) true now).station) (mid over (suc j)) done (λ st fit. ap (λ (x : StationStep). x.station) (one_ends goes_on' ends j st now is_last fit)) c.stations c.fit in
        let given = flat_both IsFitStation (λ st. (taken st (frame_no (suc j)) true now).events) (mid over (suc j)) (λ st. cond (not (same st) && place s c.m st) (given_by st c.m s all) []) (λ st fit. ap (λ (x : StationStep). x.events) (one_ends goes_on' ends j st now is_last fit)) c.stations c.fit in
        let numbers : suc j + 1 ≡ suc last = add-one (suc j) ∙ ap suc is_last in
        record {
          segment = w.segment;
          calls = w.calls;
          is = w.is ∙ (λ i. under_way w.segment w.calls (numbers i) (frames (suc (is_last i))));
          reached = w.reached;
          stations_are = w.stations_are ∙ stations;
          rests = subst (λ (L : ℕ). Rests n L w.segment.bus) (ap (λ (k : ℕ). c.L + k + 1) is_last) (offers_rests n (c.L + suc j) (frame_no (suc j)) w.segment.bus w.offers);
          told = w.told ∙ (λ i. (a.told i ++ outcome_told) ++ given i);
        }

    -- all turns but the last, from a segment at rest
    turns_after : (k : ℕ) (d : Driven) → turns_from (suc k) s all d ≡ goes_on (turns_from k s all d) (turn s all)
    turns_after zero d = refl
    turns_after (suc k) d = turns_after k (goes_on d (turn s all))

    after_turns : (k : ℕ) (d : Driven) → After 0 d → k ≤ last → After k (turns_from k s all d)
    after_turns zero d a le = a
    after_turns (suc k) d a le = subst (After (suc k)) (sym (turns_after k d)) (next_turn k (turns_from k s all d) (after_turns k d a (omega arith)) (omega arith))

    pub whole_drive : GoesOn → Ends → (d : Driven) → 1 ≤ last → After 0 d → Whole (turns_from (suc last) s all d)
    whole_drive goes_on' ends d some' a = by last refl some'
      where
        by : (k : ℕ) → k ≡ last → 1 ≤ k → Whole (turns_from (suc last) s all d)
        by zero e lt = absurd (omega arith)
        by (suc j) e lt =
            subst Whole (sym (turns_after last d))
            (last_turn goes_on' ends j (turns_from last s all d) e (subst (λ (k : ℕ). After k (turns_from last s all d)) (sym e) (after_turns last d a (omega arith))))

  -- the frames are those of the message
  pub frames_are : (k : ℕ) → frames (suc k) ≡ written bam_wire s.0 255 ∷ map (λ j. written (Packet Tp j (packet c.m.bytes j)) s.0 255) (range_with_len 1 k)
  frames_are zero = refl
  frames_are (suc k) =
      ap (λ (fs : List CanFrame). fs ++ frame_no (suc k) ∷ []) (frames_are k)
      ∙ ap (λ (fs : List CanFrame). written bam_wire s.0 255 ∷ fs) (sym (map-range_with_len_more (λ j. written (Packet Tp j (packet c.m.bytes j)) s.0 255) 1 k (suc k) (omega arith)))
      ∙ ap (λ (x : ℕ). written bam_wire s.0 255 ∷ map (λ j. written (Packet Tp j (packet c.m.bytes j)) s.0 255) (range_with_len 1 x)) (add-one k)
