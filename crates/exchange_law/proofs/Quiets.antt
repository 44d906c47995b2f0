-- A quiet segment is where an exchange begins, and what its drive has done is what was promised.
use Rattle.std.proofs.Common.{◌≡◌, ◌≢◌, ℕ, suc, ◌+◌, ◌<◌, ◌≤◌, ◌^◌, ◌==◌, Bool, true, false, cond, not, ◌&&◌, List, [], ◌∷◌, ◌++◌, length, drop, get_or, Option, Some, None, refl, sym, ap, ◌∙◌, subst, arith, ⊎_elim}
use Rattle.std.specs.Prelude.{All, map, slice_get, is_some}
use Rattle.std.specs.FinMap as finmap
use Rattle.std.proofs.lemmas.List.{length-map}
use Rattle.std.proofs.lemmas.List.Elements.{All-map, All-head, All-tail}
use Rattle.std.proofs.lemmas.List.Sums.{list_all-from_AllPass}
use Rattle.std.proofs.lemmas.List.Quantifiers.{position-Some}
use Rattle.std.proofs.lemmas.Option.{slice_get-get_or, slice_get_within, get_or_from_slice_get, same_Some}
use Rattle.std.proofs.lemmas.Bool.{eqb-true, eq-eqb, ne_eqb, ltb-true, cases_eq}
use Rattle.std.specs.Cmp.{nat_cmp_total, unsigned_tied}
use Rattle.std.specs.FinMap.{get-insert}
use Rattle.bus_frame.specs.Frames.{CanFrame}
use Rattle.pgn_ids.specs.Address.{global_address}
use Rattle.pgn_ids.specs.declared.address.Address.{Address}
use Rattle.tp_wire.specs.declared.constants.TheConstants.{TP_MAX_SIZE, ETP_MAX_SIZE}
use Rattle.tp_wire.specs.declared.outcome.Outcome.TheVariants as outcome
use Rattle.bus_order.specs.Bus.{bus_len, waiting}
use Rattle.lane_core.specs.Lane.{Lane, new_lane, kind_for}
use Rattle.lane_core.specs.declared.message.Pending.{Pending}
use Rattle.lane_core.specs.declared.place.UnderWay.TheVariants.{Nothing}
use Rattle.lane_core.specs.declared.probe.Standing.TheVariants.{Settled}
use Rattle.lane_core.specs.declared.probe.Token.{Token}
use Rattle.port_table.specs.Ports.{is_any_paused}
use Rattle.station_lanes.specs.LaneCalls.{lane_to}
use Rattle.message_events.specs.declared.event.Event.TheVariants as event
use Rattle.exchange_law.proofs.Lanes.{insert_same}
use Rattle.station_core.specs.Station.{Station, new_station}
use Rattle.segment_law.specs.Segment.{Segment, place_of, has_station, station_at, lane_at, waiting_at}
use Rattle.segment_law.specs.Record.{Record, StandsAt}
use Rattle.segment_law.specs.Reached.{IsFitMessage, IsFitLane, IsFitStation, IsReached}
use Rattle.segment_law.specs.Drive.{driven, turns_from, not_driven}
use Rattle.session_table.specs.Key.{session_for}
use Rattle.segment_law.specs.Quiet.{quiet, quiet_broadcast, quiet_connection, given_by, broadcast_given, takers, has_place, is_to_all, is_at_rest, IsSettled, IsQuiet, quiet_events, IsUndisturbed, IsQuietExchange, may_broadcast, may_receive}
use Rattle.segment_law.proofs.Booleans.{both_pass, both as both_are, not_passes}
use Rattle.segment_law.proofs.Records.{stands_reached}
use Rattle.exchange_law.proofs.broadcasts.Receivers.{all}
use Rattle.exchange_law.proofs.broadcasts.Sweeps.{under_way, waiting_is}
use Rattle.exchange_law.proofs.broadcasts.Quiets.{station_is, queues, rests}
use Rattle.exchange_law.proofs.broadcasts.Turns.{Rests}
use Rattle.exchange_law.proofs.Pairs.{Pair, is_s, is_d, put, s_at}
use Rattle.exchange_law.proofs.Senders.{Sent, ready, over_with, lanes_with, sends, rts}
use Rattle.exchange_law.proofs.Receivers.{Welcome, hears}
use Rattle.exchange_law.proofs.Rows.{Laws}
use Rattle.exchange_law.proofs.Turns.{Stands}
use Rattle.exchange_law.proofs.Exchanges.{told, left, Finished, exchange_runs}
use Rattle.exchange_law.proofs.Tilings.{Tiled, tiled}
use Rattle.exchange_law.proofs.Selves.{none_pending}

-- ---- a message that has not begun

module _ (xs : Station) (fits : IsFitStation xs) (to : ℕ) where
  abbrev waits : Pending → List Pending → ℕ → Token → Lane
  waits m more number token = record { from = xs.address.0; to = to; sent = number; pending = m ∷ more; under_way = Nothing; standing = Settled; token = token }

  record Found (m : Pending) : Type 0 where
    more : List Pending
    number : ℕ
    token : Token
    there : finmap.get xs.lanes to ≡ Some (waits m more number token)
    msg : IsFitMessage to m

  found : (m : Pending) → slice_get (lane_to xs.address xs.lanes to).pending 0 ≡ Some m → IsSettled (lane_to xs.address xs.lanes to) → Found m
  found m = by (finmap.get xs.lanes to) refl
    where
      lit : (l : Lane) (more : List Pending) → l.from ≡ xs.address.0 → l.to ≡ to → l.pending ≡ m ∷ more → l.under_way ≡ Nothing → l.standing ≡ Settled → l ≡ waits m more l.sent l.token
      lit l more a b c d e = λ j. record { from = a j; to = b j; sent = l.sent; pending = c j; under_way = d j; standing = e j; token = l.token }

      front_of : (l : Lane) (ps : List Pending) → l.pending ≡ ps → slice_get ps 0 ≡ Some m → l.pending ≡ m ∷ drop 1 ps
      front_of l [] e h = absurd cc
      front_of l (p ∷ ps) e h = e ∙ ap (λ (x : Pending). x ∷ ps) (same_Some p m h)

      by : (o : Option Lane) → finmap.get xs.lanes to ≡ o
          → slice_get (elim o as (λ (_ : Option Lane). Lane) [ None ↦ new_lane xs.address.0 to | Some l ↦ l ]).pending 0 ≡ Some m
          → IsSettled (elim o as (λ (_ : Option Lane). Lane) [ None ↦ new_lane xs.address.0 to | Some l ↦ l ]) → Found m
      by None e h t = absurd cc
      by (Some l) e h t =
          let f : IsFitLane xs.address to l = fits.lanes to l e in
          let p : l.pending ≡ m ∷ drop 1 l.pending = front_of l l.pending refl h in
          record {
            more = drop 1 l.pending;
            number = l.sent;
            token = l.token;
            there = e ∙ ap (λ (x : Lane). Some x) (lit l (drop 1 l.pending) f.from_it f.to_it p t.under_way t.standing);
            msg = All-head (IsFitMessage to) m (drop 1 l.pending) (subst (All (IsFitMessage to)) p f.pending);
          }

-- ---- stations of a segment

module _ (seg : Segment) (r : IsReached seg) where
  fits_at : (i : ℕ) (xs : Station) → slice_get seg.stations i ≡ Some xs → IsFitStation xs
  fits_at i xs at = subst IsFitStation (get_or_from_slice_get seg.stations i xs xs at) (r.stations i xs (slice_get_within seg.stations i xs at))

  only_at : (i : ℕ) (xs : Station) → slice_get seg.stations i ≡ Some xs → (j : ℕ) (st : Station) → slice_get seg.stations j ≡ Some st → (st.address.0 == xs.address.0) ≡ true → j ≡ i
  only_at i xs at j st there same =
      let e : st.address ≡ xs.address = (λ k. record { 0 = eqb-true st.address.0 xs.address.0 same k }) in
      same_Some j i (sym (r.places j st there) ∙ ap (place_of seg) e ∙ r.places i xs at)

  -- a station has an address
  record At (a : Address) : Type 0 where
    i : ℕ
    st : Station
    at : slice_get seg.stations i ≡ Some st
    address : st.address ≡ a

  found_at : (a : Address) → has_station seg a ≡ true → At a
  found_at a = by (place_of seg a) refl
    where
      by : (o : Option ℕ) → place_of seg a ≡ o → is_some o ≡ true → At a
      by None e h = absurd cc
      by (Some i) e h =
          let default : Station = new_station a in
          let f = position-Some (λ (st : Station). st.address.0 == a.0) seg.stations i default e in
          let st : Station = get_or seg.stations i default in
          record { i = i; st = st; at = slice_get-get_or seg.stations i default f.0; address = (λ k. record { 0 = eqb-true st.address.0 a.0 f.1 k }) }

-- ---- from a quiet segment to its end

module _ (laws : Laws) (addresses : List Address) (steps : Record) (seg : Segment) (stands : StandsAt addresses steps seg) (i k : ℕ) (xs ys : Station) (at : slice_get seg.stations i ≡ Some xs) (there : slice_get seg.stations k ≡ Some ys) (m : Pending) (q : IsQuiet seg xs.address ys.address m) where
  r : IsReached seg
  r = stands_reached addresses steps seg stands

  abbrev s : Address
  s = xs.address

  abbrev d : Address
  d = ys.address

  fits_s : IsFitStation xs
  fits_s = fits_at seg r i xs at

  fits_d : IsFitStation ys
  fits_d = fits_at seg r k ys there

  to_one : is_to_all d ≡ false
  to_one = let one : d.0 < 254 = ltb-true d.0 254 fits_d.own in ne_eqb d.0 255 (λ e. absurd (omega (arith, e, one)))

  lane_is : lane_at seg s d ≡ lane_to s xs.lanes d.0
  lane_is = ap (λ (st : Station). lane_to st.address st.lanes d.0) (station_is seg r i xs at)

  it : Found xs fits_s d.0 m
  it = found xs fits_s d.0 m (ap (λ (l : Lane). slice_get l.pending 0) (sym lane_is) ∙ q.front) (subst IsSettled lane_is q.settled)

  -- no station sends to itself
  apart : (d.0 == s.0) ≡ false
  apart = by (d.0 == s.0) refl
    where
      by : (b : Bool) → (d.0 == s.0) ≡ b → b ≡ false
      by true e = absurd (let same : d ≡ s = (λ j. record { 0 = eqb-true d.0 s.0 e j }) in none_pending s addresses steps seg stands m (ap (λ (a : Address). slice_get (lane_at seg s a).pending 0) (sym same) ∙ q.front))
      by false e = refl

  empty : (j : ℕ) (st : Station) → slice_get seg.stations j ≡ Some st → st.queue ≡ []
  empty j st here = ap (λ (z : Station). z.queue) (sym (get_or_from_slice_get seg.stations j st st here)) ∙ queues seg r q.at_rest j st (slice_get_within seg.stations j st here)

  abbrev pair : Pair
  pair = record {
    stations = seg.stations;
    i = i;
    k = k;
    xs = xs;
    ys = ys;
    at = at;
    there = there;
    only_s = only_at seg r i xs at;
    only_d = only_at seg r k ys there;
    apart = apart;
    queues = queues seg r q.at_rest;
    own_s = fits_s.own;
    own_d = fits_d.own;
  }

  most_is : length m.bytes ≤ ETP_MAX_SIZE
  most_is = subst (λ (b : Bool). length m.bytes ≤ cond b TP_MAX_SIZE ETP_MAX_SIZE) to_one it.msg.most

  abbrev e : Sent
  e = record {
    pair = pair;
    m = m;
    more = it.more;
    number = it.number;
    token = it.token;
    kind = kind_for (length m.bytes);
    is_kind = refl;
    pgn = it.msg.pgn;
    least = it.msg.least;
    most = most_is;
  }

  receives : (has_station seg d && has_place ys m s (session_for (kind_for (length m.bytes))) && not (is_any_paused ys.ports (takers ys m))) ≡ true
  receives =
      ap (λ (st : Station). has_station seg d && has_place st m s (session_for (kind_for (length m.bytes))) && not (is_any_paused st.ports (takers st m))) (sym (station_is seg r k ys there))
      ∙ ap (λ (b : Bool). cond b (may_broadcast seg m) (may_receive seg m s d)) (sym to_one) ∙ q.receiver

  welcome : Welcome e
  welcome =
      let a = both_pass (has_station seg d && has_place ys m s (session_for (kind_for (length m.bytes)))) (not (is_any_paused ys.ports (takers ys m))) receives in
      let b = both_pass (has_station seg d) (has_place ys m s (session_for (kind_for (length m.bytes)))) a.0 in
      record { place = b.1; flowing = not_passes (is_any_paused ys.ports (takers ys m)) a.1; ports = fits_d.ports }

  -- before: each of the two is as it was
  abbrev IsKnown : Station → Type 0
  IsKnown st = (is_s pair st ≡ true → st ≡ xs) × (is_d pair st ≡ true → st ≡ ys)

  known : All IsKnown seg.stations
  known j default lt =
      let st : Station = get_or seg.stations j default in
      let here : slice_get seg.stations j ≡ Some st = slice_get-get_or seg.stations j default lt in (
        (λ same. same_Some st xs (sym here ∙ ap (slice_get seg.stations) (only_at seg r i xs at j st here same) ∙ at)),
        (λ same. same_Some st ys (sym here ∙ ap (slice_get seg.stations) (only_at seg r k ys there j st here same) ∙ there)),
      )

  abbrev sender : Station
  sender = sends e [] (lanes_with e (ready e))

  abbrev receiver : Station
  receiver = hears e [] ys.sessions

  sender_is : xs ≡ sender
  sender_is =
      let same : lanes_with e (ready e) ≡ xs.lanes = insert_same xs.lanes d.0 (ready e) it.there in
      (λ j. let st : Station = record xs { queue = empty i xs at j; lanes = sym same j } in st)

  receiver_is : ys ≡ receiver
  receiver_is = (λ j. let st : Station = record ys { queue = empty k ys there j } in st)

  as_they_were : (zs : List Station) → All IsKnown zs → zs ≡ map (put pair sender receiver) zs
  as_they_were [] h = refl
  as_they_were (z ∷ zs) h = (λ j. one z (All-head IsKnown z zs h) (is_s pair z) (is_d pair z) refl refl j ∷ as_they_were zs (All-tail IsKnown z zs h) j)
    where
      one : (st : Station) → IsKnown st → (a b : Bool) → is_s pair st ≡ a → is_d pair st ≡ b → st ≡ cond a sender (cond b receiver st)
      one st h true b x y = h.0 x ∙ sender_is
      one st h false true x y = h.1 y ∙ receiver_is
      one st h false false x y = refl

  abbrev L : ℕ
  L = bus_len seg.bus

  begins_here : Stands pair L seg.now sender receiver 0 [] [] (not_driven seg)
  begins_here = record {
    segment = seg;
    calls = [];
    is = refl;
    reached = r;
    now_is = refl;
    stations_are = as_they_were seg.stations known;
    rests = subst (λ (n : ℕ). Rests (length seg.stations) n seg.bus) (let n : L ≡ L + 0 = omega arith in n) (rests seg r q.at_rest);
    told = refl;
  }

  tiles : Tiled laws e welcome L seg.now
  tiles = tiled laws e welcome L seg.now

  abbrev frames : List CanFrame
  frames = rts e ∷ left laws e welcome L seg.now (suc tiles.windows) 1

  quiet_is : quiet m s d ≡ frames
  unfolding quiet
  quiet_is = ap (λ (b : Bool). cond b (quiet_broadcast m s d) (quiet_connection (kind_for (length m.bytes)) m s d)) to_one ∙ sym tiles.frames

  finished : Finished laws e welcome L seg.now (0 + length frames) ([] ++ frames) (turns_from (length frames) s d (not_driven seg))
  finished =
      let room : L + length (quiet m s d) < 2 ^ 64 = ltb-true (L + length (quiet m s d)) (2 ^ 64) q.places in
      let long : length (quiet m s d) ≡ length frames = ap (λ (fs : List CanFrame). length fs) quiet_is in
      exchange_runs laws e welcome L seg.now tiles.windows tiles.tiles (not_driven seg) begins_here (omega (arith, room, long))

  -- ---- afterwards

  abbrev last_s : Station
  last_s = sends e [] (lanes_with e (over_with e))

  abbrev last_d : Station
  last_d = hears e [] finished.sessions

  abbrev end_segment : Segment
  end_segment = finished.stands.segment

  rest_after : is_at_rest end_segment ≡ true
  rest_after = list_all-from_AllPass (λ st. length st.queue == 0 && waiting_at end_segment st.address == 0) end_segment.stations one
    where
      none_queued : (st : Station) → st.queue ≡ [] → (a b : Bool) → (cond a last_s (cond b last_d st)).queue ≡ []
      none_queued st h true b = refl
      none_queued st h false true = refl
      none_queued st h false false = h

      all_empty : All (λ (st : Station). st.queue ≡ []) end_segment.stations
      all_empty = subst (All (λ (st : Station). st.queue ≡ [])) (sym finished.stands.stations_are)
          (All-map (λ (st : Station). st.queue ≡ []) (put pair last_s last_d) seg.stations (λ j default lt. none_queued (get_or seg.stations j default) (queues seg r q.at_rest j default lt) (is_s pair (get_or seg.stations j default)) (is_d pair (get_or seg.stations j default))))

      one : All (λ (st : Station). (length st.queue == 0 && waiting_at end_segment st.address == 0) ≡ true) end_segment.stations
      one j default lt =
          let st : Station = get_or end_segment.stations j default in
          let here : slice_get end_segment.stations j ≡ Some st = slice_get-get_or end_segment.stations j default lt in
          let many : length end_segment.stations ≡ length seg.stations = ap length finished.stands.stations_are ∙ length-map seg.stations (put pair last_s last_d) in
          let none : waiting_at end_segment st.address ≡ 0 = waiting_is end_segment st.address j st (finished.stands.reached.places j st here) here ∙ (let z : waiting end_segment.bus j ≡ 0 = omega (arith, finished.stands.rests.len, finished.stands.rests.took j (omega (arith, lt, many))) in z) in
          let nothing : length st.queue ≡ 0 = ap length (all_empty j default lt) in
          both_are (length st.queue == 0) (waiting_at end_segment st.address == 0) (eq-eqb (length st.queue) 0 nothing) (eq-eqb (waiting_at end_segment st.address) 0 none)

  settled_after : IsSettled (lane_at end_segment s d)
  settled_after = subst IsSettled (sym lane_after) (record { under_way = refl; standing = refl })
    where
      here : slice_get end_segment.stations i ≡ Some last_s
      here = ap (λ (zs : List Station). slice_get zs i) finished.stands.stations_are ∙ s_at pair last_s last_d

      lane_after : lane_at end_segment s d ≡ over_with e
      lane_after =
          ap (λ (st : Station). lane_to st.address st.lanes d.0) (station_is end_segment finished.stands.reached i last_s here)
          ∙ ap (λ (o : Option Lane). elim o as (λ (_ : Option Lane). Lane) [ None ↦ new_lane s.0 d.0 | Some l ↦ l ])
          (get-insert nat_cmp_total xs.lanes d.0 (over_with e) d.0 ∙ ap (λ b. cond b (Some (over_with e)) (finmap.get xs.lanes d.0)) (unsigned_tied d.0 d.0 ∙ eq-eqb d.0 d.0 refl))

  drive_is : driven seg s d (length (quiet m s d)) ≡ under_way end_segment finished.stands.calls (0 + length frames) frames
  unfolding driven
  drive_is = ap (λ (fs : List CanFrame). turns_from (length fs) s d (not_driven seg)) quiet_is ∙ finished.stands.is

  told_is : quiet_events seg m s d ≡ told laws e welcome L seg.now
  told_is =
      ap (λ (b : Bool). cond b (event.Outcome s d m.number outcome.Broadcast ∷ broadcast_given seg.stations m s d) (given_by (station_at seg d) m s d ++ event.Outcome s d m.number outcome.Acknowledged ∷ [])) to_one
      ∙ ap (λ (st : Station). given_by st m s d ++ event.Outcome s d m.number outcome.Acknowledged ∷ []) (station_is seg r k ys there)

  pub undisturbed : IsUndisturbed seg s d m (driven seg s d (length (quiet m s d)))
  undisturbed = subst (IsUndisturbed seg s d m) (sym drive_is) (record {
    turns = (let n : 0 + length frames ≡ length frames = omega arith in n) ∙ ap (λ (fs : List CanFrame). length fs) (sym quiet_is);
    frames = sym quiet_is;
    ended = refl;
    events = finished.stands.told ∙ sym told_is;
    at_rest = rest_after;
    settled = settled_after;
  })

-- the law
pub quiet_exchange : Laws → (d : Address) → d.0 ≢ global_address → IsQuietExchange d
quiet_exchange laws d node addresses steps seg s m stands q =
    let r : IsReached seg = stands_reached addresses steps seg stands in
    let to_one : is_to_all d ≡ false = ne_eqb d.0 255 node in
    let receives : may_receive seg m s d ≡ true = ap (λ (b : Bool). cond b (may_broadcast seg m) (may_receive seg m s d)) (sym to_one) ∙ q.receiver in
    let st : Station = station_at seg d in
    let a = both_pass (has_station seg d && has_place st m s (session_for (kind_for (length m.bytes)))) (not (is_any_paused st.ports (takers st m))) receives in
    let has : has_station seg d ≡ true = (both_pass (has_station seg d) (has_place st m s (session_for (kind_for (length m.bytes)))) a.0).0 in
    let x : At seg r s = found_at seg r s q.sender in
    let y : At seg r d = found_at seg r d has in
    subst (λ (p : Address × Address). IsQuiet seg p.0 p.1 m → IsUndisturbed seg p.0 p.1 m (driven seg p.0 p.1 (length (quiet m p.0 p.1)))) (λ j. (x.address j, y.address j))
    (λ w. undisturbed laws addresses steps seg stands x.i y.i x.st y.st x.at y.at m w) q

-- to one station or to all
pub every_exchange : IsQuietExchange all → ((d : Address) → d.0 ≢ global_address → IsQuietExchange d) → (d : Address) → IsQuietExchange d
every_exchange to_all to_one d = ⊎_elim (λ (is : d.0 ≡ 255). subst IsQuietExchange (let same : all ≡ d = (λ j. record { 0 = sym is j }) in same) to_all) (λ (node : d.0 ≢ 255). to_one d node) (cases_eq d.0 255)
