-- A quiet segment is the setting of a message to all, and what its drive has done is what was promised.
use Rattle.std.proofs.Common.{◌≡◌, ℕ, suc, ◌+◌, ◌*◌, ◌<◌, ◌≤◌, ◌^◌, ◌==◌, Bool, true, false, cond, ◌&&◌, List, [], ◌∷◌, length, drop, get_or, Option, Some, None, refl, sym, ap, ◌∙◌, subst, arith}
use Rattle.std.specs.Prelude.{All, map, slice_get, is_some, unwrap_or}
use Rattle.std.specs.FinMap as finmap
use Rattle.std.proofs.lemmas.List.{length-map}
use Rattle.std.proofs.lemmas.List.Elements.{All-map, All-head, All-tail}
use Rattle.std.proofs.lemmas.List.FromFn.{length-map-range_with_len}
use Rattle.std.proofs.lemmas.List.Sums.{AllPass-from_list_all, list_all-from_AllPass}
use Rattle.std.proofs.lemmas.List.Quantifiers.{position-Some}
use Rattle.std.proofs.lemmas.Option.{slice_get-map, slice_get-get_or, slice_get_within, get_or_from_slice_get, same_Some}
use Rattle.std.proofs.lemmas.Bool.{eqb-true, eq-eqb, ltb-true}
use Rattle.std.specs.Option.{option_map}
use Rattle.std.specs.Cmp.{nat_cmp_total}
use Rattle.std.specs.FinMap.{get-insert}
use Rattle.pgn_ids.specs.declared.address.Address.{Address}
use Rattle.tp_wire.specs.Rows.{written}
use Rattle.tp_wire.specs.declared.wire.Kind.TheVariants.{Tp}
use Rattle.tp_wire.specs.declared.wire.Wire.TheVariants.{Packet}
use Rattle.seg_cut.specs.Packets.{packet_count, packet}
use Rattle.tick_timers.specs.declared.durations.TheConstants.{BROADCAST_GAP}
use Rattle.bus_order.specs.Bus.{bus_len, cursor_at, waiting}
use Rattle.bus_order.proofs.Steps.{read_within}
use Rattle.lane_core.specs.Lane.{Lane, new_lane}
use Rattle.lane_core.specs.declared.message.Pending.{Pending}
use Rattle.lane_core.specs.declared.place.UnderWay.TheVariants.{Nothing}
use Rattle.lane_core.specs.declared.probe.Standing.TheVariants.{Settled}
use Rattle.lane_core.specs.declared.probe.Token.{Token}
use Rattle.station_lanes.specs.LaneCalls.{lane_to}
use Rattle.exchange_law.proofs.Lanes.{insert_same}
use Rattle.station_core.specs.Station.{Station, new_station}
use Rattle.segment_law.specs.Segment.{Segment, place_of, station_at, lane_at, waiting_at}
use Rattle.segment_law.specs.Reached.{IsFitMessage, IsFitLane, IsFitStation, IsReached}
use Rattle.segment_law.specs.Drive.{driven, turns_from, not_driven}
use Rattle.segment_law.specs.Quiet.{quiet, quiet_broadcast, is_at_rest, IsSettled, IsQuiet, IsUndisturbed, IsQuietExchange}
use Rattle.segment_law.proofs.Booleans.{both_pass, both}
use Rattle.segment_law.proofs.Records.{stands_reached}
use Rattle.record_law.proofs.Readings.{GivesBack, ReadsBack}
use Rattle.exchange_law.proofs.broadcasts.Sweeps.{under_way, waiting_is}
use Rattle.exchange_law.proofs.broadcasts.Receivers.{GoesOn, Ends, all, heard}
use Rattle.exchange_law.proofs.broadcasts.Senders.{ready, over_with, sends}
use Rattle.exchange_law.proofs.broadcasts.Turns.{Rests}
use Rattle.exchange_law.proofs.broadcasts.Broadcasts.{Setting, After, Whole, whole_drive, frames, frames_are, done}

quiet_is : (m : Pending) (s : Address) → quiet m s all ≡ quiet_broadcast m s all
unfolding quiet
quiet_is m s = refl

quiet_len : (m : Pending) (s : Address) → length (quiet m s all) ≡ suc (packet_count (length m.bytes))
quiet_len m s = ap length (quiet_is m s) ∙ ap suc (length-map-range_with_len (λ k. written (Packet Tp k (packet m.bytes k)) s.0 255) 1 (packet_count (length m.bytes)))

module _ (seg : Segment) (r : IsReached seg) (i : ℕ) (xs : Station) (at : slice_get seg.stations i ≡ Some xs) where
  place : place_of seg xs.address ≡ Some i
  place = r.places i xs at

  pub station_is : station_at seg xs.address ≡ xs
  station_is =
      ap (λ (p : Option ℕ). unwrap_or (elim p as (λ (_ : Option ℕ). Option Station) [ None ↦ None | Some j ↦ slice_get seg.stations j ]) (new_station xs.address)) place
      ∙ ap (λ (o : Option Station). unwrap_or o (new_station xs.address)) at

  fits : IsFitStation xs
  fits = subst IsFitStation (get_or_from_slice_get seg.stations i xs xs at) (r.stations i xs (slice_get_within seg.stations i xs at))

  -- a message to all that has not begun
  record Found (m : Pending) : Type 0 where
    pub more : List Pending
    pub number : ℕ
    pub token : Token
    pub there : finmap.get xs.lanes 255 ≡ Some (ready xs m more number token)
    pub msg : IsFitMessage 255 m

  found : (m : Pending) → slice_get (lane_to xs.address xs.lanes 255).pending 0 ≡ Some m → IsSettled (lane_to xs.address xs.lanes 255) → Found m
  found m = by (finmap.get xs.lanes 255) refl
    where
      lit : (l : Lane) (more : List Pending) → l.from ≡ xs.address.0 → l.to ≡ 255 → l.pending ≡ m ∷ more → l.under_way ≡ Nothing → l.standing ≡ Settled → l ≡ ready xs m more l.sent l.token
      lit l more a b c d e = λ j. record { from = a j; to = b j; sent = l.sent; pending = c j; under_way = d j; standing = e j; token = l.token }

      front_of : (l : Lane) (ps : List Pending) → l.pending ≡ ps → slice_get ps 0 ≡ Some m → l.pending ≡ m ∷ drop 1 ps
      front_of l [] e h = absurd cc
      front_of l (p ∷ ps) e h = e ∙ ap (λ (x : Pending). x ∷ ps) (same_Some p m h)

      by : (o : Option Lane) → finmap.get xs.lanes 255 ≡ o
          → slice_get (elim o as (λ (_ : Option Lane). Lane) [ None ↦ new_lane xs.address.0 255 | Some l ↦ l ]).pending 0 ≡ Some m
          → IsSettled (elim o as (λ (_ : Option Lane). Lane) [ None ↦ new_lane xs.address.0 255 | Some l ↦ l ]) → Found m
      by None e h t = absurd cc
      by (Some l) e h t =
          let f : IsFitLane xs.address 255 l = fits.lanes 255 l e in
          let p : l.pending ≡ m ∷ drop 1 l.pending = front_of l l.pending refl h in
          record {
            more = drop 1 l.pending;
            number = l.sent;
            token = l.token;
            there = e ∙ ap (λ (x : Lane). Some x) (lit l (drop 1 l.pending) f.from_it f.to_it p t.under_way t.standing);
            msg = All-head (IsFitMessage 255) m (drop 1 l.pending) (subst (All (IsFitMessage 255)) p f.pending);
          }

-- ---- a segment at rest

no_length : {X : Type 0} (xs : List X) → length xs ≡ 0 → xs ≡ []
no_length [] e = refl
no_length (x ∷ xs) e = absurd (omega (arith, e))

module _ (seg : Segment) (r : IsReached seg) (rest : is_at_rest seg ≡ true) where
  abbrev rests_at : Station → Bool
  rests_at st = length st.queue == 0 && waiting_at seg st.address == 0

  tests : All (λ (st : Station). rests_at st ≡ true) seg.stations
  tests = AllPass-from_list_all rests_at seg.stations rest

  queue_of : (st : Station) → rests_at st ≡ true → st.queue ≡ []
  queue_of st e = no_length st.queue (eqb-true (length st.queue) 0 (both_pass (length st.queue == 0) (waiting_at seg st.address == 0) e).0)

  pub queues : All (λ (st : Station). st.queue ≡ []) seg.stations
  queues j d lt = queue_of (get_or seg.stations j d) (tests j d lt)

  pub rests : Rests (length seg.stations) (bus_len seg.bus) seg.bus
  rests = record { fit = r.bus; len = refl; took = took }
    where
      took : (j : ℕ) → j < length seg.stations → (cursor_at seg.bus j).place ≡ bus_len seg.bus
      took j lt =
          let d : Station = new_station (record { 0 = 0 }) in
          let st : Station = get_or seg.stations j d in
          let at : slice_get seg.stations j ≡ Some st = slice_get-get_or seg.stations j d lt in
          let none : waiting_at seg st.address ≡ 0 = eqb-true (waiting_at seg st.address) 0 (both_pass (length st.queue == 0) (waiting_at seg st.address == 0) (tests j d lt)).1 in
          let waits : waiting seg.bus j ≡ 0 = sym (waiting_is seg st.address j st (r.places j st at) at) ∙ none in
          let within : (cursor_at seg.bus j).place ≤ bus_len seg.bus = read_within seg.bus j (cursor_at seg.bus j) r.bus.sound (omega (arith, lt, r.bus.cursors)) refl in
          omega (arith, waits, within)

-- ---- from a quiet segment to its end

module _ (gives : GivesBack) (reads : ReadsBack) (goes_on : GoesOn) (ends : Ends) (seven : (message : List ℕ) (k : ℕ) → k ≤ packet_count (length message) → length (packet message k) ≡ 7)
    (seg : Segment) (r : IsReached seg) (i : ℕ) (xs : Station) (at : slice_get seg.stations i ≡ Some xs) (m : Pending) (q : IsQuiet seg xs.address all m) where
  lane_is : lane_at seg xs.address all ≡ lane_to xs.address xs.lanes 255
  lane_is = ap (λ (st : Station). lane_to st.address st.lanes 255) (station_is seg r i xs at)

  it : Found seg r i xs at m
  it = found seg r i xs at m (ap (λ (l : Lane). slice_get l.pending 0) (sym lane_is) ∙ q.front) (subst IsSettled lane_is q.settled)

  only : (j : ℕ) (st : Station) → slice_get seg.stations j ≡ Some st → (st.address.0 == xs.address.0) ≡ true → j ≡ i
  only j st there same =
      let e : st.address ≡ xs.address = (λ k. record { 0 = eqb-true st.address.0 xs.address.0 same k }) in
      same_Some j i (sym (r.places j st there) ∙ ap (place_of seg) e ∙ r.places i xs at)

  bus_room : bus_len seg.bus + (packet_count (length m.bytes) + 1) < 2 ^ 64
  bus_room =
      let lt : bus_len seg.bus + length (quiet m xs.address all) < 2 ^ 64 = ltb-true (bus_len seg.bus + length (quiet m xs.address all)) (2 ^ 64) q.places in
      omega (arith, lt, quiet_len m xs.address)

  clock_room : seg.now + BROADCAST_GAP * packet_count (length m.bytes) < 2 ^ 64
  clock_room = ltb-true (seg.now + BROADCAST_GAP * packet_count (length m.bytes)) (2 ^ 64) q.receiver

  abbrev setting : Setting
  setting = record {
    stations = seg.stations;
    i = i;
    xs = xs;
    m = m;
    more = it.more;
    number = it.number;
    token = it.token;
    L = bus_len seg.bus;
    now0 = seg.now;
    at = at;
    only = only;
    fit = r.stations;
    queues = queues seg r q.at_rest;
    own = (fits seg r i xs at).own;
    lane = it.there;
    msg = it.msg;
    bus_fits = bus_room;
    clock_fits = clock_room;
  }

  -- the sender is as it was, and so are the others
  abbrev before : Station
  before = sends xs m it.more it.number it.token [] (ready xs m it.more it.number it.token)

  abbrev IsKnown : Station → Type 0
  IsKnown st = ((st.address.0 == xs.address.0) ≡ true → st ≡ xs) × (st.queue ≡ [])

  known : All IsKnown seg.stations
  known j d lt = (it_is, queues seg r q.at_rest j d lt)
    where
      it_is : ((get_or seg.stations j d).address.0 == xs.address.0) ≡ true → get_or seg.stations j d ≡ xs
      it_is same =
          let there : slice_get seg.stations j ≡ Some (get_or seg.stations j d) = slice_get-get_or seg.stations j d lt in
          same_Some (get_or seg.stations j d) xs (sym there ∙ ap (slice_get seg.stations) (only j (get_or seg.stations j d) there same) ∙ at)

  sender_as_it_was : xs ≡ before
  sender_as_it_was =
      let empty : xs.queue ≡ [] = ap (λ (st : Station). st.queue) (sym (get_or_from_slice_get seg.stations i xs xs at)) ∙ queues seg r q.at_rest i xs (slice_get_within seg.stations i xs at) in
      let same : finmap.insert xs.lanes 255 (ready xs m it.more it.number it.token) ≡ xs.lanes = insert_same xs.lanes 255 (ready xs m it.more it.number it.token) it.there in
      (λ k. let st : Station = record xs { queue = empty k; lanes = sym same k } in st)

  unchanged_one : (z : Station) → IsKnown z → (b : Bool) → (z.address.0 == xs.address.0) ≡ b → z ≡ cond b before (record z { queue = [] })
  unchanged_one z h true e = h.0 e ∙ sender_as_it_was
  unchanged_one z h false e = (λ k. let st : Station = record z { queue = h.1 k } in st)

  unchanged : (zs : List Station) → All IsKnown zs → zs ≡ map (λ st. cond (st.address.0 == xs.address.0) before (record st { queue = [] })) zs
  unchanged [] h = refl
  unchanged (z ∷ zs) h = (λ k. unchanged_one z (All-head IsKnown z zs h) (z.address.0 == xs.address.0) refl k ∷ unchanged zs (All-tail IsKnown z zs h) k)

  first : After setting gives reads (seven m.bytes) 0 (not_driven seg)
  first = record {
    segment = seg;
    calls = [];
    is = refl;
    reached = r;
    now_is = refl;
    stations_are = unchanged seg.stations known;
    rests = subst (λ (L : ℕ). Rests (length seg.stations) L seg.bus) (let e : bus_len seg.bus ≡ bus_len seg.bus + 0 = omega arith in e) (rests seg r q.at_rest);
    told = refl;
  }

  abbrev done_with : Station → Station
  done_with = done setting

  some_packets : 1 ≤ packet_count (length m.bytes)
  some_packets = let long : 9 ≤ length m.bytes = it.msg.least in omega (arith, long)

  whole : Whole setting gives reads (seven m.bytes) (turns_from (suc (packet_count (length m.bytes))) xs.address all (not_driven seg))
  whole = whole_drive setting gives reads (seven m.bytes) goes_on ends (not_driven seg) some_packets first

  drive_is : driven seg xs.address all (length (quiet m xs.address all)) ≡ under_way whole.segment whole.calls (suc (packet_count (length m.bytes))) (frames setting (suc (packet_count (length m.bytes))))
  unfolding driven
  drive_is = ap (λ (k : ℕ). turns_from k xs.address all (not_driven seg)) (quiet_len m xs.address) ∙ whole.is

  -- afterwards it is at rest again
  done_queue : (st : Station) → (done_with st).queue ≡ []
  done_queue st = elim (st.address.0 == xs.address.0) as (λ b. (cond b (sends xs m it.more it.number it.token [] (over_with xs m it.more it.number it.token)) (heard xs.address m st)).queue ≡ []) [ true ↦ refl | false ↦ refl ]

  rest_after : is_at_rest whole.segment ≡ true
  rest_after = list_all-from_AllPass (λ st. length st.queue == 0 && waiting_at whole.segment st.address == 0) whole.segment.stations one
    where
      empty : All (λ (st : Station). st.queue ≡ []) whole.segment.stations
      empty = subst (All (λ (st : Station). st.queue ≡ [])) (sym whole.stations_are) (All-map (λ (st : Station). st.queue ≡ []) done_with seg.stations (λ j d lt. done_queue (get_or seg.stations j d)))

      one : All (λ (st : Station). (length st.queue == 0 && waiting_at whole.segment st.address == 0) ≡ true) whole.segment.stations
      one j d lt =
          let st : Station = get_or whole.segment.stations j d in
          let there : slice_get whole.segment.stations j ≡ Some st = slice_get-get_or whole.segment.stations j d lt in
          let many : length whole.segment.stations ≡ length seg.stations = ap length whole.stations_are ∙ length-map seg.stations done_with in
          let none : waiting_at whole.segment st.address ≡ 0 = waiting_is whole.segment st.address j st (whole.reached.places j st there) there ∙ (let e : waiting whole.segment.bus j ≡ 0 = omega (arith, whole.rests.len, whole.rests.took j (omega (arith, lt, many))) in e) in
          let nothing : length st.queue ≡ 0 = ap length (empty j d lt) in
          both (length st.queue == 0) (waiting_at whole.segment st.address == 0) (eq-eqb (length st.queue) 0 nothing) (eq-eqb (waiting_at whole.segment st.address) 0 none)

  -- and the lane is settled
  settled_after : IsSettled (lane_at whole.segment xs.address all)
  settled_after = subst IsSettled (sym lane_after) (record { under_way = refl; standing = refl })
    where
      over : Lane
      over = over_with xs m it.more it.number it.token

      sender : Station
      sender = sends xs m it.more it.number it.token [] (over_with xs m it.more it.number it.token)

      there : slice_get whole.segment.stations i ≡ Some (sends xs m it.more it.number it.token [] (over_with xs m it.more it.number it.token))
      there =
          ap (λ (zs : List Station). slice_get zs i) whole.stations_are
          ∙ slice_get-map done_with seg.stations i
          ∙ ap (option_map done_with) at
          ∙ ap (λ (b : Bool). Some (cond b (sends xs m it.more it.number it.token [] (over_with xs m it.more it.number it.token)) (heard xs.address m xs))) (eq-eqb xs.address.0 xs.address.0 refl)

      lane_after : lane_at whole.segment xs.address all ≡ over_with xs m it.more it.number it.token
      lane_after =
          ap (λ (st : Station). lane_to st.address st.lanes 255) (station_is whole.segment whole.reached i (sends xs m it.more it.number it.token [] (over_with xs m it.more it.number it.token)) there)
          ∙ ap (λ (o : Option Lane). elim o as (λ (_ : Option Lane). Lane) [ None ↦ new_lane xs.address.0 255 | Some l ↦ l ]) (get-insert nat_cmp_total xs.lanes 255 (over_with xs m it.more it.number it.token) 255)

  pub undisturbed : IsUndisturbed seg xs.address all m (driven seg xs.address all (length (quiet m xs.address all)))
  undisturbed = subst (IsUndisturbed seg xs.address all m) (sym drive_is) (record {
    turns = sym (quiet_len m xs.address);
    frames = frames_are setting (packet_count (length m.bytes)) ∙ sym (quiet_is m xs.address);
    ended = refl;
    events = whole.told;
    at_rest = rest_after;
    settled = settled_after;
  })

-- the law
pub quiet_exchange : GivesBack → ReadsBack → GoesOn → Ends → ((message : List ℕ) (k : ℕ) → k ≤ packet_count (length message) → length (packet message k) ≡ 7) → IsQuietExchange all
quiet_exchange gives reads goes_on ends seven addresses steps seg s m stands q =
    let r : IsReached seg = stands_reached addresses steps seg stands in
    by r (place_of seg s) refl q.sender
  where
    has : Station → Bool
    has st = st.address.0 == s.0

    at_place : IsReached seg → (i : ℕ) → place_of seg s ≡ Some i → IsUndisturbed seg s all m (driven seg s all (length (quiet m s all)))
    at_place r i p =
        let d : Station = new_station s in
        let found = position-Some (λ (st : Station). st.address.0 == s.0) seg.stations i d p in
        let xs : Station = get_or seg.stations i d in
        let at : slice_get seg.stations i ≡ Some xs = slice_get-get_or seg.stations i d found.0 in
        let address : xs.address ≡ s = (λ k. record { 0 = eqb-true xs.address.0 s.0 found.1 k }) in
        subst (λ (a : Address). IsQuiet seg a all m → IsUndisturbed seg a all m (driven seg a all (length (quiet m a all)))) address (undisturbed gives reads goes_on ends seven seg r i xs at m) q

    by : IsReached seg → (o : Option ℕ) → place_of seg s ≡ o → is_some o ≡ true → IsUndisturbed seg s all m (driven seg s all (length (quiet m s all)))
    by r None e h = absurd cc
    by r (Some i) e h = at_place r i e
