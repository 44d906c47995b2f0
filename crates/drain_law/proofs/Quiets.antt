-- A message at the front of the lowest lane of a quiet segment is drained as it is driven.
use Rattle.std.proofs.Common.{◌≡◌, ◌≢◌, ℕ, suc, ◌+◌, ◌<◌, ◌≤◌, ◌^◌, ◌==◌, nat_lt, Bool, true, false, cond, not, ◌&&◌, List, [], ◌∷◌, ◌++◌, length, drop, get_or, Option, Some, None, refl, sym, ap, ◌∙◌, subst, arith, ⊎_elim}
use Rattle.std.specs.Prelude.{All, map, slice_get, is_some}
use Rattle.std.specs.Option.{option_map}
use Rattle.std.specs.FinMap as finmap
use Rattle.std.specs.FinMap.{get-empty, len-empty}
use Rattle.std.proofs.lemmas.List.{length-map}
use Rattle.std.proofs.lemmas.List.Elements.{All-head, All-tail}
use Rattle.std.proofs.lemmas.List.Quantifiers.{position-Some}
use Rattle.std.proofs.lemmas.Option.{slice_get-get_or, slice_get_within, get_or_from_slice_get, same_Some, none-some}
use Rattle.std.proofs.lemmas.Bool.{true≢false, lt-ltb, eqb-true, eq-eqb, ne_eqb, ltb-true, cases_eq}
use Rattle.bus_frame.specs.Frames.{CanFrame}
use Rattle.pgn_ids.specs.Address.{global_address}
use Rattle.pgn_ids.specs.declared.address.Address.{Address}
use Rattle.tp_wire.specs.declared.constants.TheConstants.{TP_MAX_SIZE, ETP_MAX_SIZE}
use Rattle.tp_wire.specs.declared.outcome.Outcome.TheVariants as outcome
use Rattle.bus_order.specs.Bus.{bus_len}
use Rattle.lane_core.specs.Lane.{Lane, new_lane, kind_for}
use Rattle.lane_core.specs.declared.message.Pending.{Pending}
use Rattle.lane_core.specs.declared.place.UnderWay.TheVariants.{Nothing}
use Rattle.lane_core.specs.declared.probe.Standing.TheVariants.{Settled, InDoubt}
use Rattle.lane_core.specs.declared.probe.Token.{Token}
use Rattle.port_table.specs.Ports.{is_any_paused}
use Rattle.session_table.specs.Key.{key_cmp, session_for}
use Rattle.station_lanes.specs.LaneCalls.{lane_to}
use Rattle.station_lanes.specs.LaneReaders.{least_below}
use Rattle.message_events.specs.declared.event.Event.{Event}
use Rattle.message_events.specs.declared.event.Event.TheVariants as event
use Rattle.station_core.specs.Station.{Station, new_station}
use Rattle.segment_law.specs.Segment.{Segment, place_of, has_station, station_at, lane_at}
use Rattle.segment_law.specs.Record.{Record, StandsAt}
use Rattle.segment_law.specs.Reached.{IsFitMessage, IsFitLane, IsFitStation, IsReached}
use Rattle.segment_law.specs.Readers.{pumps_to, next_pump}
use Rattle.segment_law.specs.Quiet.{quiet, quiet_broadcast, quiet_connection, given_by, takers, is_to_all, is_at_rest, IsSettled}
use Rattle.segment_law.proofs.Records.{stands_reached}
use Rattle.session_table.specs.declared.key.Key.{Key}
use Rattle.station_sessions.specs.Opening.{key_of, others_than}
use Rattle.station_sessions.specs.Receiving.{Inbound}
use Rattle.station_sessions.proofs.SessionMaps.{remove_inserted, remove_missing}
use Rattle.exchange_law.proofs.Lanes.{insert_same}
use Rattle.exchange_law.proofs.broadcasts.Quiets.{station_is, queues, rests}
use Rattle.exchange_law.proofs.broadcasts.Turns.{Rests}
use Rattle.exchange_law.proofs.Pairs.{Pair, is_s, is_d, put, both, s_at}
use Rattle.exchange_law.proofs.Senders.{Sent, ready, over_with, lanes_with, sends, rts}
use Rattle.exchange_law.proofs.Receivers.{Welcome, key, hears, sessions_with}
use Rattle.exchange_law.proofs.Rows.{Laws}
use Rattle.exchange_law.proofs.Exchanges.{left}
use Rattle.exchange_law.proofs.Tilings.{Tiled, tiled}
use Rattle.exchange_law.proofs.Selves.{none_pending}
use Rattle.work_law.proofs.Resting.{none_found}
use Rattle.segment_drain.specs.Chosen.{node, can, lowest}
use Rattle.segment_drain.specs.declared.kind.Kind.TheVariants as kind
use Rattle.drain_law.specs.Waiting.{BeginsAtOnce, IsReadyLane, is_wanted, IsLastOr, refused_frames, frames_of_one, events_of_one}
use Rattle.drain_law.proofs.Choices.{AreStill, would_pump, pumps_at, least_first}
use Rattle.drain_law.proofs.Stages.{Stage, begins}
use Rattle.drain_law.proofs.Turns.{Stands, IsLowest, Was, was}
use Rattle.drain_law.proofs.Refusals.{refused_lane, Refused, refuses}
use Rattle.drain_law.proofs.Exchanges.{told, sessions_after, Finished, exchange_runs}

-- ---- the least number that passes

pub below_none : (test : ℕ → Bool) (n : ℕ) → least_below test n ≡ None → (k : ℕ) → k < n → test k ≡ false
below_none test n none k lt = none_found test n k (ap is_some none) lt

pub below_first : (test : ℕ → Bool) (n k : ℕ) → least_below test n ≡ Some k → (j : ℕ) → j < k → test j ≡ false
below_first test n k first j lt = below_none test k (least_first test n k first) j lt

pub none_mapped : (o : Option ℕ) → option_map node o ≡ None → o ≡ None
none_mapped None e = refl
none_mapped (Some k) e = absurd (none-some (node k) (sym e))

pub same_number : (o : Option ℕ) (a : Address) → option_map node o ≡ Some a → o ≡ Some a.0
same_number None a e = absurd (none-some a e)
same_number (Some k) a e = ap (λ (x : Address). Some x.0) (same_Some (node k) a e)

pub unsome : (o : Option Address) → is_some o ≡ false → o ≡ None
unsome None e = refl
unsome (Some a) e = absurd (true≢false e)

-- ---- a message that has not begun

module _ (xs : Station) (fits : IsFitStation xs) (to : ℕ) where
  abbrev waits : Pending → List Pending → ℕ → Token → Lane
  waits m more number token = record { from = xs.address.0; to = to; sent = number; pending = m ∷ more; under_way = Nothing; standing = Settled; token = token }

  record Found (m : Pending) : Type 0 where
    more : List Pending
    number : ℕ
    token : Token
    there : finmap.get xs.lanes to ≡ Some (waits m more number token)
    msg : IsFitMessage to m

  found : (m : Pending) → slice_get (lane_to xs.address xs.lanes to).pending 0 ≡ Some m → IsSettled (lane_to xs.address xs.lanes to) → Found m
  found m = by (finmap.get xs.lanes to) refl
    where
      lit : (l : Lane) (more : List Pending) → l.from ≡ xs.address.0 → l.to ≡ to → l.pending ≡ m ∷ more → l.under_way ≡ Nothing → l.standing ≡ Settled → l ≡ waits m more l.sent l.token
      lit l more a b c d e = λ j. record { from = a j; to = b j; sent = l.sent; pending = c j; under_way = d j; standing = e j; token = l.token }

      front_of : (l : Lane) (ps : List Pending) → l.pending ≡ ps → slice_get ps 0 ≡ Some m → l.pending ≡ m ∷ drop 1 ps
      front_of l [] e h = absurd cc
      front_of l (p ∷ ps) e h = e ∙ ap (λ (x : Pending). x ∷ ps) (same_Some p m h)

      by : (o : Option Lane) → finmap.get xs.lanes to ≡ o
          → slice_get (elim o as (λ (_ : Option Lane). Lane) [ None ↦ new_lane xs.address.0 to | Some l ↦ l ]).pending 0 ≡ Some m
          → IsSettled (elim o as (λ (_ : Option Lane). Lane) [ None ↦ new_lane xs.address.0 to | Some l ↦ l ]) → Found m
      by None e h t = absurd cc
      by (Some l) e h t =
          let f : IsFitLane xs.address to l = fits.lanes to l e in
          let p : l.pending ≡ m ∷ drop 1 l.pending = front_of l l.pending refl h in
          record {
            more = drop 1 l.pending;
            number = l.sent;
            token = l.token;
            there = e ∙ ap (λ (x : Lane). Some x) (lit l (drop 1 l.pending) f.from_it f.to_it p t.under_way t.standing);
            msg = All-head (IsFitMessage to) m (drop 1 l.pending) (subst (All (IsFitMessage to)) p f.pending);
          }

-- ---- stations of a segment

module _ (seg : Segment) (r : IsReached seg) where
  fits_at : (i : ℕ) (xs : Station) → slice_get seg.stations i ≡ Some xs → IsFitStation xs
  fits_at i xs at = subst IsFitStation (get_or_from_slice_get seg.stations i xs xs at) (r.stations i xs (slice_get_within seg.stations i xs at))

  only_at : (i : ℕ) (xs : Station) → slice_get seg.stations i ≡ Some xs → (j : ℕ) (st : Station) → slice_get seg.stations j ≡ Some st → (st.address.0 == xs.address.0) ≡ true → j ≡ i
  only_at i xs at j st there same =
      let e : st.address ≡ xs.address = (λ k. record { 0 = eqb-true st.address.0 xs.address.0 same k }) in
      same_Some j i (sym (r.places j st there) ∙ ap (place_of seg) e ∙ r.places i xs at)

  -- a station has an address
  record At (a : Address) : Type 0 where
    i : ℕ
    st : Station
    at : slice_get seg.stations i ≡ Some st
    address : st.address ≡ a

  found_at : (a : Address) → has_station seg a ≡ true → At a
  found_at a = by (place_of seg a) refl
    where
      by : (o : Option ℕ) → place_of seg a ≡ o → is_some o ≡ true → At a
      by None e h = absurd cc
      by (Some i) e h =
          let default : Station = new_station a in
          let f = position-Some (λ (st : Station). st.address.0 == a.0) seg.stations i default e in
          let st : Station = get_or seg.stations i default in
          record { i = i; st = st; at = slice_get-get_or seg.stations i default f.0; address = (λ k. record { 0 = eqb-true st.address.0 a.0 f.1 k }) }

-- ---- afterwards

-- a station after the exchange, from before it
pub record IsLeft (s d : Address) (lane : Lane) (before after : Station) : Type 0 where
  pub address : after.address ≡ before.address
  pub ports : after.ports ≡ before.ports
  pub queue : after.queue ≡ []
  pub lanes : after.lanes ≡ cond (before.address.0 == s.0) (finmap.insert before.lanes d.0 lane) before.lanes
  pub sessions : before.sessions ≡ finmap.empty → after.sessions ≡ finmap.empty

-- the message has its outcome by these frames, with these events, and the lane is as it was without it
pub record HasEnded (seg : Segment) (s d : Address) (m : Pending) (fs : List CanFrame) (es : List Event) : Type 0 where
  pub after : Segment
  pub stage : Stage seg after fs es
  pub reached : IsReached after
  pub clock : after.now ≡ seg.now
  pub lane : Lane
  pub pending : (lane_at seg s d).pending ≡ m ∷ lane.pending
  pub ready : IsReadyLane lane
  pub many : length after.stations ≡ length seg.stations
  pub stations : (j : ℕ) (u : Station) → slice_get after.stations j ≡ Some u → (z : Station) × (slice_get seg.stations j ≡ Some z) × IsLeft s d lane z u
  pub resting : Rests (length seg.stations) (bus_len seg.bus + length fs) after.bus

-- a segment with nothing under way, and the message at the front of a settled lane to a station
pub record IsSet (seg : Segment) (s d : Address) (m : Pending) : Type 0 where
  pub sender : has_station seg s ≡ true
  pub receiver : has_station seg d ≡ true
  pub at_rest : is_at_rest seg ≡ true
  pub settled : IsSettled (lane_at seg s d)
  pub front : slice_get (lane_at seg s d).pending 0 ≡ Some m
  pub last : IsLastOr (is_wanted seg d m) (drop 1 (lane_at seg s d).pending)
  pub flowing : is_any_paused (station_at seg d).ports (takers (station_at seg d) m) ≡ false
  pub sessions : (a : Address) → (station_at seg a).sessions ≡ finmap.empty

-- ---- from a quiet segment to its end

module _ (laws : Laws) (addresses : List Address) (steps : Record) (seg : Segment) (stands : StandsAt addresses steps seg) (i k : ℕ) (xs ys : Station) (at : slice_get seg.stations i ≡ Some xs) (there : slice_get seg.stations k ≡ Some ys) (m : Pending) (q : IsSet seg xs.address ys.address m)
    (first : lowest seg kind.Pump ≡ Some xs.address) (its : next_pump seg xs.address ≡ Some ys.address) where
  r : IsReached seg
  r = stands_reached addresses steps seg stands

  abbrev s : Address
  s = xs.address

  abbrev d : Address
  d = ys.address

  fits_s : IsFitStation xs
  fits_s = fits_at seg r i xs at

  fits_d : IsFitStation ys
  fits_d = fits_at seg r k ys there

  to_one : is_to_all d ≡ false
  to_one = let one : d.0 < 254 = ltb-true d.0 254 fits_d.own in ne_eqb d.0 255 (λ e. absurd (omega (arith, e, one)))

  lane_is : lane_at seg s d ≡ lane_to s xs.lanes d.0
  lane_is = ap (λ (st : Station). lane_to st.address st.lanes d.0) (station_is seg r i xs at)

  it : Found xs fits_s d.0 m
  it = found xs fits_s d.0 m (ap (λ (l : Lane). slice_get l.pending 0) (sym lane_is) ∙ q.front) (subst IsSettled lane_is q.settled)

  -- no station sends to itself
  apart : (d.0 == s.0) ≡ false
  apart = by (d.0 == s.0) refl
    where
      by : (b : Bool) → (d.0 == s.0) ≡ b → b ≡ false
      by true e = absurd (let same : d ≡ s = (λ j. record { 0 = eqb-true d.0 s.0 e j }) in none_pending s addresses steps seg stands m (ap (λ (a : Address). slice_get (lane_at seg s a).pending 0) (sym same) ∙ q.front))
      by false e = refl

  empty : (j : ℕ) (st : Station) → slice_get seg.stations j ≡ Some st → st.queue ≡ []
  empty j st here = ap (λ (z : Station). z.queue) (sym (get_or_from_slice_get seg.stations j st st here)) ∙ queues seg r q.at_rest j st (slice_get_within seg.stations j st here)

  abbrev pair : Pair
  pair = record {
    stations = seg.stations;
    i = i;
    k = k;
    xs = xs;
    ys = ys;
    at = at;
    there = there;
    only_s = only_at seg r i xs at;
    only_d = only_at seg r k ys there;
    apart = apart;
    queues = queues seg r q.at_rest;
    own_s = fits_s.own;
    own_d = fits_d.own;
  }

  most_is : length m.bytes ≤ ETP_MAX_SIZE
  most_is = subst (λ (b : Bool). length m.bytes ≤ cond b TP_MAX_SIZE ETP_MAX_SIZE) to_one it.msg.most

  abbrev e : Sent
  e = record {
    pair = pair;
    m = m;
    more = it.more;
    number = it.number;
    token = it.token;
    kind = kind_for (length m.bytes);
    is_kind = refl;
    pgn = it.msg.pgn;
    least = it.msg.least;
    most = most_is;
  }

  none_s : xs.sessions ≡ finmap.empty
  none_s = ap (λ (st : Station). st.sessions) (sym (station_is seg r i xs at)) ∙ q.sessions s

  none_d : ys.sessions ≡ finmap.empty
  none_d = ap (λ (st : Station). st.sessions) (sym (station_is seg r k ys there)) ∙ q.sessions d

  abbrev some_takers : Bool
  some_takers = nat_lt 0 (length (takers ys m))

  wanted_is : is_wanted seg d m ≡ some_takers
  wanted_is = ap (λ (st : Station). nat_lt 0 (length (takers st m))) (station_is seg r k ys there)

  welcome : some_takers ≡ true → Welcome e
  welcome some =
      let key : Key = key_of s (session_for (kind_for (length m.bytes))) in
      let none : others_than ys.sessions key ≡ 0 = ap (λ (x : Inbound). others_than x key) none_d ∙ ap (λ (x : Inbound). finmap.len x) (remove_missing finmap.empty key (get-empty key_cmp key)) ∙ len-empty key_cmp _ in
      record {
        place = (λ j. some j && ap (λ (n : ℕ). nat_lt n 32) none j);
        flowing = ap (λ (st : Station). is_any_paused st.ports (takers st m)) (sym (station_is seg r k ys there)) ∙ q.flowing;
        ports = fits_d.ports;
      }

  -- before: each of the two is as it was
  abbrev IsKnown : Station → Type 0
  IsKnown st = (is_s pair st ≡ true → st ≡ xs) × (is_d pair st ≡ true → st ≡ ys)

  known : All IsKnown seg.stations
  known j default lt =
      let st : Station = get_or seg.stations j default in
      let here : slice_get seg.stations j ≡ Some st = slice_get-get_or seg.stations j default lt in (
        (λ same. same_Some st xs (sym here ∙ ap (slice_get seg.stations) (only_at seg r i xs at j st here same) ∙ at)),
        (λ same. same_Some st ys (sym here ∙ ap (slice_get seg.stations) (only_at seg r k ys there j st here same) ∙ there)),
      )

  abbrev sender : Station
  sender = sends e [] (lanes_with e (ready e))

  abbrev receiver : Station
  receiver = hears e [] ys.sessions

  sender_is : xs ≡ sender
  sender_is =
      let same : lanes_with e (ready e) ≡ xs.lanes = insert_same xs.lanes d.0 (ready e) it.there in
      (λ j. let st : Station = record xs { queue = empty i xs at j; lanes = sym same j } in st)

  receiver_is : ys ≡ receiver
  receiver_is = (λ j. let st : Station = record ys { queue = empty k ys there j } in st)

  as_they_were : (zs : List Station) → All IsKnown zs → zs ≡ map (put pair sender receiver) zs
  as_they_were [] h = refl
  as_they_were (z ∷ zs) h = (λ j. one z (All-head IsKnown z zs h) (is_s pair z) (is_d pair z) refl refl j ∷ as_they_were zs (All-tail IsKnown z zs h) j)
    where
      one : (st : Station) → IsKnown st → (a b : Bool) → is_s pair st ≡ a → is_d pair st ≡ b → st ≡ cond a sender (cond b receiver st)
      one st h true b x y = h.0 x ∙ sender_is
      one st h false true x y = h.1 y ∙ receiver_is
      one st h false false x y = refl

  abbrev L : ℕ
  L = bus_len seg.bus

  begins_here : Stands pair L seg.now seg sender receiver 0 [] []
  begins_here = record {
    segment = seg;
    stage = begins seg;
    reached = r;
    now_is = refl;
    stations_are = as_they_were seg.stations known;
    rests = subst (λ (n : ℕ). Rests (length seg.stations) n seg.bus) (let n : L ≡ L + 0 = omega arith in n) (rests seg r q.at_rest);
  }

  -- no lower lane has anything to queue
  lowest_one : IsLowest pair L seg.now seg
  lowest_one = record { stations = lower; lanes = own }
    where
      test : ℕ → Bool
      test n = can seg kind.Pump (node n)

      none_below : (n : ℕ) → n < s.0 → next_pump seg (node n) ≡ None
      none_below n lt = unsome (next_pump seg (node n)) (below_first test 254 s.0 (same_number (least_below test 254) s first) n lt)

      lower : (j : ℕ) (z : Station) → slice_get seg.stations j ≡ Some z → z.address.0 < s.0 → AreStill seg.now z.lanes 256
      lower j z here lt to under =
          sym (pumps_at seg z.address j z (r.places j z here) here (empty j z here) to)
          ∙ below_none (pumps_to seg z.address) 256 (none_mapped (least_below (pumps_to seg z.address) 256) (none_below z.address.0 lt)) to under

      own : AreStill seg.now xs.lanes d.0
      own to under =
          sym (pumps_at seg s i xs (r.places i xs at) at (empty i xs at) to)
          ∙ below_first (pumps_to seg s) 256 d.0 (same_number (least_below (pumps_to seg s) 256) d its) to under

  -- ---- afterwards

  -- the two have changed so, and no session is open
  module _ (fs : List CanFrame) (es : List Event) (lane : Lane) (ready : IsReadyLane lane) (waits_on : lane.pending ≡ it.more) (sessions : Inbound) (none : sessions ≡ finmap.empty) (t : ℕ) (length_is : t ≡ length fs)
      (stood : Stands pair L seg.now seg (sends e [] (lanes_with e lane)) (hears e [] sessions) t fs es) where
    abbrev last_s : Station
    last_s = sends e [] (lanes_with e lane)

    abbrev last_d : Station
    last_d = hears e [] sessions

    left_as : (j : ℕ) (z : Station) → slice_get seg.stations j ≡ Some z → IsLeft s d lane z (put pair last_s last_d z)
    left_as j z here = by (is_s pair z) (is_d pair z) refl refl
      where
        by : (a b : Bool) → is_s pair z ≡ a → is_d pair z ≡ b → IsLeft s d lane z (cond a last_s (cond b last_d z))
        by true b x y =
            let is : get_or seg.stations j z ≡ xs = (known j z (slice_get_within seg.stations j z here)).0 (ap (λ (u : Station). is_s pair u) (get_or_from_slice_get seg.stations j z z here) ∙ x) in
            let it : z ≡ xs = sym (get_or_from_slice_get seg.stations j z z here) ∙ is in
            record {
              address = ap (λ (u : Station). u.address) (sym it);
              ports = ap (λ (u : Station). u.ports) (sym it);
              queue = refl;
              lanes = ap (λ (u : Station). finmap.insert u.lanes d.0 lane) (sym it) ∙ ap (λ (t : Bool). cond t (finmap.insert z.lanes d.0 lane) z.lanes) (sym x);
              sessions = λ empty_before. ap (λ (u : Station). u.sessions) (sym it) ∙ empty_before;
            }
        by false true x y =
            let is : get_or seg.stations j z ≡ ys = (known j z (slice_get_within seg.stations j z here)).1 (ap (λ (u : Station). is_d pair u) (get_or_from_slice_get seg.stations j z z here) ∙ y) in
            let it : z ≡ ys = sym (get_or_from_slice_get seg.stations j z z here) ∙ is in
            record {
              address = ap (λ (u : Station). u.address) (sym it);
              ports = ap (λ (u : Station). u.ports) (sym it);
              queue = refl;
              lanes = ap (λ (u : Station). u.lanes) (sym it) ∙ ap (λ (t : Bool). cond t (finmap.insert z.lanes d.0 lane) z.lanes) (sym x);
              sessions = λ empty_before. none;
            }
        by false false x y = record {
          address = refl;
          ports = refl;
          queue = empty j z here;
          lanes = ap (λ (t : Bool). cond t (finmap.insert z.lanes d.0 lane) z.lanes) (sym x);
          sessions = λ empty_before. empty_before;
        }

    stood_at : (j : ℕ) (u : Station) → slice_get stood.segment.stations j ≡ Some u → (z : Station) × (slice_get seg.stations j ≡ Some z) × IsLeft s d lane z u
    stood_at j u here =
        let w = was pair L seg.now seg last_s last_d j u (ap (λ (zs : List Station). slice_get zs j) (sym stood.stations_are) ∙ here) in
        (w.first, w.there, subst (IsLeft s d lane w.first) (sym w.is) (left_as j w.first w.there))

    has_ended : HasEnded seg s d m fs es
    has_ended = record {
      after = stood.segment;
      stage = stood.stage;
      reached = stood.reached;
      clock = stood.now_is;
      lane = lane;
      pending = ap (λ (l : Lane). l.pending) lane_is ∙ ap (λ (o : Option Lane). (elim o as (λ (_ : Option Lane). Lane) [ None ↦ new_lane s.0 d.0 | Some l ↦ l ]).pending) it.there ∙ ap (λ (ms : List Pending). m ∷ ms) (sym waits_on);
      ready = ready;
      many = ap length stood.stations_are ∙ length-map seg.stations (put pair last_s last_d);
      stations = stood_at;
      resting = subst (λ (n : ℕ). Rests (length seg.stations) n stood.segment.bus) (ap (λ (n : ℕ). L + n) length_is) stood.rests;
    }

  -- ---- a port takes it

  module _ (some : some_takers ≡ true) (places : L + length (quiet m s d) < 2 ^ 64) where
    abbrev hosts : Welcome e
    hosts = welcome some

    tiles : Tiled laws e hosts L seg.now
    tiles = tiled laws e hosts L seg.now

    abbrev frames : List CanFrame
    frames = rts e ∷ left laws e hosts L seg.now (suc tiles.windows) 1

    quiet_is : quiet m s d ≡ frames
    unfolding quiet
    quiet_is = ap (λ (b : Bool). cond b (quiet_broadcast m s d) (quiet_connection (kind_for (length m.bytes)) m s d)) to_one ∙ sym tiles.frames

    finished : Finished laws e hosts L seg.now seg lowest_one (0 + length frames) ([] ++ frames)
    finished =
        let long : length (quiet m s d) ≡ length frames = ap (λ (fs : List CanFrame). length fs) quiet_is in
        exchange_runs laws e hosts L seg.now seg lowest_one tiles.windows tiles.tiles begins_here (omega (arith, places, long))

    -- where no session was open, none is
    none_left : sessions_after laws e hosts L seg.now seg lowest_one finished.state ≡ finmap.empty
    none_left =
        remove_inserted ys.sessions (key e e.kind) _
        ∙ ap (λ (x : Inbound). finmap.remove x (key e e.kind)) none_d
        ∙ remove_missing finmap.empty (key e e.kind) (get-empty key_cmp (key e e.kind))

    told_is : told laws e hosts L seg.now seg lowest_one ≡ events_of_one seg (s, d, m)
    told_is =
        ap (λ (st : Station). given_by st m s d ++ event.Outcome s d m.number outcome.Acknowledged ∷ []) (sym (station_is seg r k ys there))
        ∙ ap (λ (b : Bool). cond b (given_by (station_at seg d) m s d ++ event.Outcome s d m.number outcome.Acknowledged ∷ []) (event.Outcome s d m.number (outcome.Aborted 2) ∷ [])) (sym (wanted_is ∙ some))

    frames_are : frames ≡ frames_of_one seg (s, d, m)
    frames_are = sym quiet_is ∙ ap (λ (b : Bool). cond b (quiet m s d) (refused_frames m s d)) (sym (wanted_is ∙ some))

    carried : HasEnded seg s d m (frames_of_one seg (s, d, m)) (events_of_one seg (s, d, m))
    carried = subst (λ (z : List CanFrame × List Event). HasEnded seg s d m z.0 z.1) (λ j. (frames_are j, told_is j))
        (has_ended frames (told laws e hosts L seg.now seg lowest_one) (over_with e) (record { under_way = refl; standing = tt }) refl
        (sessions_after laws e hosts L seg.now seg lowest_one finished.state) none_left (0 + length frames) (let n : 0 + length frames ≡ length frames = omega arith in n) finished.stands)

  -- ---- no port takes it

  module _ (none : some_takers ≡ false) (places : L + 2 < 2 ^ 64) where
    no_takers : takers ys m ≡ []
    no_takers = by (takers ys m) none
      where
        by : (ps : List ℕ) → nat_lt 0 (length ps) ≡ false → ps ≡ []
        by [] e = refl
        by (p ∷ ps) e = absurd (true≢false (sym (lt-ltb 0 (length (p ∷ ps)) (omega arith)) ∙ e))

    last_one : it.more ≡ []
    last_one = by it.more (subst (λ (b : Bool). IsLastOr b it.more) (wanted_is ∙ none) (subst (λ (ms : List Pending). IsLastOr (is_wanted seg d m) ms) drops q.last))
      where
        drops : drop 1 (lane_at seg s d).pending ≡ it.more
        drops = ap (λ (l : Lane). drop 1 l.pending) lane_is ∙ ap (λ (o : Option Lane). drop 1 (elim o as (λ (_ : Option Lane). Lane) [ None ↦ new_lane s.0 d.0 | Some l ↦ l ]).pending) it.there

        by : (ms : List Pending) → IsLastOr false ms → ms ≡ []
        by [] x = refl
        by (x ∷ ms) y = absurd y

    ended : Refused laws e no_takers none_s none_d L seg.now seg lowest_one
    ended = refuses laws e no_takers none_s none_d L seg.now seg lowest_one begins_here (omega (arith, places))

    told_of : event.Outcome s d m.number (outcome.Aborted 2) ∷ [] ≡ events_of_one seg (s, d, m)
    told_of = ap (λ (b : Bool). cond b (given_by (station_at seg d) m s d ++ event.Outcome s d m.number outcome.Acknowledged ∷ []) (event.Outcome s d m.number (outcome.Aborted 2) ∷ [])) (sym (wanted_is ∙ none))

    frames_were : refused_frames m s d ≡ frames_of_one seg (s, d, m)
    frames_were = ap (λ (b : Bool). cond b (quiet m s d) (refused_frames m s d)) (sym (wanted_is ∙ none))

    doubtful : IsReadyLane (refused_lane e)
    doubtful = record { under_way = refl; standing = subst (λ (ms : List Pending). BeginsAtOnce InDoubt ms) (sym last_one) tt }

    refused : HasEnded seg s d m (frames_of_one seg (s, d, m)) (events_of_one seg (s, d, m))
    refused = subst (λ (z : List CanFrame × List Event). HasEnded seg s d m z.0 z.1) (λ j. (frames_were j, told_of j))
        (has_ended (refused_frames m s d) (event.Outcome s d m.number (outcome.Aborted 2) ∷ []) (refused_lane e) doubtful refl
        ys.sessions none_d 2 refl ended.stands)

  pub either_ends : L + length (frames_of_one seg (s, d, m)) < 2 ^ 64 → HasEnded seg s d m (frames_of_one seg (s, d, m)) (events_of_one seg (s, d, m))
  either_ends places = by some_takers refl
    where
      by : (b : Bool) → some_takers ≡ b → HasEnded seg s d m (frames_of_one seg (s, d, m)) (events_of_one seg (s, d, m))
      by true w = carried w (subst (λ (b : Bool). L + length (cond b (quiet m s d) (refused_frames m s d)) < 2 ^ 64) (wanted_is ∙ w) places)
      by false w = refused w (subst (λ (b : Bool). L + length (cond b (quiet m s d) (refused_frames m s d)) < 2 ^ 64) (wanted_is ∙ w) places)

-- the law for one message
pub one_ends : Laws → (addresses : List Address) (steps : Record) (seg : Segment) (s d : Address) (m : Pending) → StandsAt addresses steps seg → IsSet seg s d m → lowest seg kind.Pump ≡ Some s → next_pump seg s ≡ Some d
    → bus_len seg.bus + length (frames_of_one seg (s, d, m)) < 2 ^ 64 → HasEnded seg s d m (frames_of_one seg (s, d, m)) (events_of_one seg (s, d, m))
one_ends laws addresses steps seg s d m stands q first its places =
    let r : IsReached seg = stands_reached addresses steps seg stands in
    let x : At seg r s = found_at seg r s q.sender in
    let y : At seg r d = found_at seg r d q.receiver in
    subst (λ (p : Address × Address). IsSet seg p.0 p.1 m → lowest seg kind.Pump ≡ Some p.0 → next_pump seg p.0 ≡ Some p.1 → bus_len seg.bus + length (frames_of_one seg (p.0, p.1, m)) < 2 ^ 64 → HasEnded seg p.0 p.1 m (frames_of_one seg (p.0, p.1, m)) (events_of_one seg (p.0, p.1, m))) (λ j. (x.address j, y.address j))
    (λ w f g h. either_ends laws addresses steps seg stands x.i y.i x.st y.st x.at y.at m w f g h) q first its places
