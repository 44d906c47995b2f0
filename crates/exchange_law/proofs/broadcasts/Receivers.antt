-- What a station makes of the frames of a message to all (SAE J1939-21, TP.CM_BAM, TP.DT).
use Rattle.std.proofs.Common.{◌≡◌, ℕ, zero, suc, ◌+◌, ◌<◌, ◌≤◌, ◌==◌, Bool, true, false, cond, not, ◌&&◌, List, [], ◌∷◌, length, Option, Some, None, refl, sym, ap, ◌∙◌, subst, arith, add-one}
use Rattle.std.specs.Prelude.{IsTrue, nat_le, nat_lt}
use Rattle.std.specs.Option.{option_flatten}
use Rattle.std.proofs.lemmas.Bool.{le-leb, lt-leb, lt-ltb, le-ltb, ltb-true, ltb-false, ne_eqb, eq-eqb}
use Rattle.std.specs.FinMap as finmap
use Rattle.std.specs.FinMap.{get-insert, get-remove}
use Rattle.pgn_ids.specs.Pgn.{is_pgn}
use Rattle.pgn_ids.specs.declared.address.Address.{Address}
use Rattle.tp_wire.specs.declared.reason.AbortReason.{AbortReason}
use Rattle.tp_wire.specs.declared.reason.AbortReason.TheVariants.{NoFurtherSession, Resources}
use Rattle.tp_wire.specs.declared.wire.Kind.TheVariants.{Tp}
use Rattle.tp_wire.specs.declared.wire.Wire.{Wire}
use Rattle.tp_wire.specs.declared.wire.Wire.TheVariants.{Packet}
use Rattle.tp_wire.specs.declared.constants.TheConstants.{MIN_SIZE, TP_MAX_SIZE}
use Rattle.seg_cut.specs.Packets.{packet_count, packet}
use Rattle.seg_cut.specs.Join.{Join, IsFrontOf, joined, is_complete, wants_last}
use Rattle.tick_timers.specs.declared.durations.TheConstants.{T1}
use Rattle.bam_session.specs.States as bam
use Rattle.bam_session.specs.Receiving as receiving
use Rattle.port_table.specs.Ports.{ports_for}
use Rattle.lane_core.specs.declared.message.Pending.{Pending}
use Rattle.session_table.specs.declared.TheConstants.{MAX_SESSIONS}
use Rattle.session_table.specs.declared.key.Key.{Key}
use Rattle.session_table.specs.declared.key.SessionKind.TheVariants as session
use Rattle.session_table.specs.declared.incoming.Incoming.{Incoming}
use Rattle.session_table.specs.declared.incoming.Incoming.TheVariants as incoming
use Rattle.session_table.specs.Sessions.{Sessions, state_at}
use Rattle.session_table.proofs.Keys.{key_total}
use Rattle.session_table.proofs.Tables.{key_eq-refl}
use Rattle.station_sessions.specs.Given.{given_to}
use Rattle.station_sessions.specs.Receiving.{Inbound, Reception, broadcast_settled, received, received_by}
use Rattle.station_sessions.specs.Opening.{key_of, others_than, set_for, is_tp_size, refusal, whole_join, bam_received}
use Rattle.station_core.specs.Station.{Station, StationStep, quietly, by_session}
use Rattle.station_core.specs.Taking.{in_session}
use Rattle.station_sessions.proofs.SessionMaps.{insert_again, remove_inserted}
use Rattle.segment_law.specs.Quiet.{takers, has_place, given_by}
use Rattle.record_law.proofs.Told.{clean_is}

module _ {T : Type 0} (m : Sessions T) (k : Key) where
  state_inserted : (v : T × Incoming) → state_at (finmap.insert m k (Some v)) k ≡ Some v
  state_inserted v = ap option_flatten (get-insert key_total m k (Some v) k ∙ ap (λ b. cond b (Some (Some v)) (finmap.get m k)) (key_eq-refl k))

  state_removed : state_at (finmap.remove m k) k ≡ None
  state_removed = ap option_flatten (get-remove key_total m k k ∙ ap (λ b. cond b None (finmap.get m k)) (key_eq-refl k))

-- a session opens where there is a place for it
opens_where : (set : List ℕ) (others : ℕ) (x : Reception) (y : AbortReason → Reception) (z : Reception) → ((reason : AbortReason) → y reason ≡ z)
    → (elim (refusal true true set others) as (λ (_ : Option AbortReason). Reception) [ None ↦ x | Some reason ↦ y reason ]) ≡ cond (nat_lt 0 (length set) && nat_lt others MAX_SESSIONS) x z
opens_where [] others x y z same = same Resources
opens_where (n ∷ set) others x y z same =
    let some : (length (n ∷ set) == 0) ≡ false = ne_eqb (length (n ∷ set)) 0 (λ e. absurd (omega (arith, e))) in
    let has : nat_lt 0 (length (n ∷ set)) ≡ true = lt-ltb 0 (length (n ∷ set)) (omega arith) in
    rw (some, has) (by (nat_lt others MAX_SESSIONS) refl)
  where
    by : (b : Bool) → nat_lt others MAX_SESSIONS ≡ b → (elim (cond {A = Option AbortReason} (nat_le MAX_SESSIONS others) (Some NoFurtherSession) None) as (λ (_ : Option AbortReason). Reception) [ None ↦ x | Some reason ↦ y reason ]) ≡ cond b x z
    by true e =
        let le : nat_le MAX_SESSIONS others ≡ false = lt-leb MAX_SESSIONS others (ltb-true others MAX_SESSIONS e) in
        rw le refl
    by false e =
        let le : nat_le MAX_SESSIONS others ≡ true = le-leb MAX_SESSIONS others (ltb-false others MAX_SESSIONS e) in
        rw le (same NoFurtherSession)

-- what the join of packets says of the message
abbrev pub GoesOn : Type 0
GoesOn = (message : List ℕ) (j : Join) → IsFrontOf message j → j.next ≤ packet_count j.size → IsFrontOf message (joined j (packet message j.next))

abbrev pub Ends : Type 0
Ends = (message : List ℕ) (j : Join) → IsFrontOf message j → IsTrue (is_complete j) → j.bytes ≡ message

abbrev pub all : Address
all = record { 0 = 255 }

module _ (s : Address) (m : Pending) where
  abbrev pub len : ℕ
  len = length m.bytes

  abbrev pub last : ℕ
  last = packet_count len

  abbrev pub key : Key
  key = key_of s session.Broadcast

  abbrev pub place : Station → Bool
  place st = has_place st m s session.Broadcast

  -- so many packets were joined
  pub join_of : ℕ → Join
  join_of zero = whole_join len
  join_of (suc k) = joined (join_of k) (packet m.bytes (suc k))

  abbrev broadcast : ℕ → ℕ → bam.Incoming
  broadcast k t = record { from = s.0; pgn = m.pgn; join = join_of k; timer = record { started = t; ticks = T1 } }

  -- a station that has heard the BAM and so many packets, the last at a tick
  abbrev sessions_at : ℕ → ℕ → Station → Inbound
  sessions_at k t st = cond (place st) (finmap.insert st.sessions key (Some (takers st m, incoming.Broadcast (broadcast k t)))) (finmap.remove st.sessions key)

  abbrev pub hears : ℕ → ℕ → Station → Station
  hears k t st = record st { queue = []; sessions = sessions_at k t st }

  -- one that has heard the whole message
  abbrev pub heard : Station → Station
  heard st = record st { queue = []; sessions = finmap.remove st.sessions key }

  join_next : (k : ℕ) → (join_of k).next ≡ suc k
  unfolding join_of
  join_next zero = refl
  join_next (suc k) = ap (λ n. n + 1) (join_next k) ∙ add-one (suc k)

  join_size : (k : ℕ) → (join_of k).size ≡ len
  unfolding join_of
  join_size zero = refl
  join_size (suc k) = join_size k

  -- the BAM
  pub bam_heard : is_pgn m.pgn ≡ true → MIN_SIZE ≤ len → len ≤ TP_MAX_SIZE → (st : Station) (t : ℕ) → by_session (record st { queue = [] }) (bam_received st.ports s len last m.pgn true t st.sessions) ≡ quietly (hears 0 t st)
  unfolding join_of
  bam_heard is long short st t =
      let size : is_tp_size len last ≡ true = sized in
      let set : set_for st.ports m.pgn len ≡ takers st m = ap (λ (p : ℕ). ports_for st.ports p len) (clean_is m.pgn is).1 in
      let x : List ℕ → Reception = λ (ns : List ℕ). record { sessions = finmap.insert st.sessions key (Some (ns, incoming.Broadcast (broadcast 0 t))); frame = None; events = [] } in
      let z : Reception = record { sessions = finmap.remove st.sessions key; frame = None; events = [] } in
      let others : ℕ = others_than st.sessions key in
      ap (λ (r : Reception). by_session (record st { queue = [] }) r) (ap (λ (b : Bool). elim (refusal b true (set_for st.ports m.pgn len) others) as (λ (_ : Option AbortReason). Reception) [ None ↦ x (set_for st.ports m.pgn len) | Some reason ↦ z ]) size
      ∙ ap (λ (ns : List ℕ). elim (refusal true true ns others) as (λ (_ : Option AbortReason). Reception) [ None ↦ x ns | Some reason ↦ z ]) set
      ∙ opens_where (takers st m) others (x (takers st m)) (λ _. z) z (λ _. refl))
      ∙ out (place st)
    where
      sized : is_tp_size len last ≡ true
      sized =
          let a : nat_le MIN_SIZE len ≡ true = le-leb MIN_SIZE len long in
          let b : nat_le len TP_MAX_SIZE ≡ true = le-leb len TP_MAX_SIZE short in
          let c : (last == packet_count len) ≡ true = eq-eqb last (packet_count len) refl in
          rw (a, b, c) refl

      out : (b : Bool) → by_session (record st { queue = [] }) (cond {A = Reception} b (record { sessions = finmap.insert st.sessions key (Some (takers st m, incoming.Broadcast (broadcast 0 t))); frame = None; events = [] }) (record { sessions = finmap.remove st.sessions key; frame = None; events = [] }))
          ≡ quietly (record st { queue = []; sessions = cond b (finmap.insert st.sessions key (Some (takers st m, incoming.Broadcast (broadcast 0 t)))) (finmap.remove st.sessions key) })
      out true = refl
      out false = refl

  abbrev packet_of : ℕ → Wire
  packet_of k = Packet Tp (suc k) (packet m.bytes (suc k))

  goes_tests : (k : ℕ) (t now : ℕ) → suc k < last → receiving.received (broadcast k t) (suc k) (packet m.bytes (suc k)) now ≡ receiving.Awaits (broadcast (suc k) now)
  unfolding join_of
  goes_tests k t now more =
      let a : nat_lt (suc k) (join_of k).next ≡ false = le-ltb (suc k) (join_of k).next (omega (arith, join_next k)) in
      let b : nat_lt (join_of k).next (suc k) ≡ false = le-ltb (join_of k).next (suc k) (omega (arith, join_next k)) in
      let c : wants_last (join_of k) ≡ false = ne_eqb (join_of k).next (packet_count (join_of k).size) (λ e. absurd (let w : suc k ≡ last = sym (join_next k) ∙ e ∙ ap packet_count (join_size k) in omega (arith, w))) in
      ap (λ (x : Bool). cond x (receiving.Awaits (broadcast k t)) (cond (nat_lt (join_of k).next (suc k)) receiving.Drops (cond (not (wants_last (join_of k))) (receiving.Awaits (broadcast (suc k) now)) (receiving.Completes (join_of (suc k)).bytes)))) a
      ∙ ap (λ (x : Bool). cond x receiving.Drops (cond (not (wants_last (join_of k))) (receiving.Awaits (broadcast (suc k) now)) (receiving.Completes (join_of (suc k)).bytes))) b
      ∙ ap (λ (x : Bool). cond (not x) (receiving.Awaits (broadcast (suc k) now)) (receiving.Completes (join_of (suc k)).bytes)) c

  ends_tests : (k : ℕ) (t now : ℕ) → suc k ≡ last → receiving.received (broadcast k t) (suc k) (packet m.bytes (suc k)) now ≡ receiving.Completes (join_of (suc k)).bytes
  unfolding join_of
  ends_tests k t now is_last =
      let a : nat_lt (suc k) (join_of k).next ≡ false = le-ltb (suc k) (join_of k).next (omega (arith, join_next k)) in
      let b : nat_lt (join_of k).next (suc k) ≡ false = le-ltb (join_of k).next (suc k) (omega (arith, join_next k)) in
      let c : wants_last (join_of k) ≡ true = eq-eqb (join_of k).next (packet_count (join_of k).size) (join_next k ∙ is_last ∙ sym (ap packet_count (join_size k))) in
      ap (λ (x : Bool). cond x (receiving.Awaits (broadcast k t)) (cond (nat_lt (join_of k).next (suc k)) receiving.Drops (cond (not (wants_last (join_of k))) (receiving.Awaits (broadcast (suc k) now)) (receiving.Completes (join_of (suc k)).bytes)))) a
      ∙ ap (λ (x : Bool). cond x receiving.Drops (cond (not (wants_last (join_of k))) (receiving.Awaits (broadcast (suc k) now)) (receiving.Completes (join_of (suc k)).bytes))) b
      ∙ ap (λ (x : Bool). cond (not x) (receiving.Awaits (broadcast (suc k) now)) (receiving.Completes (join_of (suc k)).bytes)) c

  module _ (st : Station) (k t now : ℕ) where
    abbrev at : Bool → ℕ → ℕ → Inbound
    at b j u = cond b (finmap.insert st.sessions key (Some (takers st m, incoming.Broadcast (broadcast j u)))) (finmap.remove st.sessions key)

    -- a session is there, and settled by what its step answers
    stepped_by : (r : receiving.Received) → receiving.received (broadcast k t) (suc k) (packet m.bytes (suc k)) now ≡ r
        → received st.ports key (packet_of k) true now (at true k t) ≡ broadcast_settled st.ports.station key (takers st m) true (at true k t) (broadcast k t) r
    stepped_by r is =
        ap (λ (o : Option (List ℕ × Incoming)). received_by o st.ports key (packet_of k) true now (at true k t)) (state_inserted st.sessions key (takers st m, incoming.Broadcast (broadcast k t)))
        ∙ ap (λ (x : receiving.Received). broadcast_settled st.ports.station key (takers st m) true (at true k t) (broadcast k t) x) is

    nothing_there : received st.ports key (packet_of k) true now (at false k t) ≡ record { sessions = at false k t; frame = None; events = [] }
    nothing_there = ap (λ (o : Option (List ℕ × Incoming)). received_by o st.ports key (packet_of k) true now (at false k t)) (state_removed st.sessions key)

    abbrev as_step : (sessions : Inbound) (r : Reception) → StationStep
    as_step sessions r = by_session (record st { queue = []; sessions = sessions }) r

    -- a packet that isn't the last
    pub packet_heard : suc k < last → in_session (hears k t st) key (packet_of k) true now ≡ quietly (hears (suc k) now st)
    packet_heard more = by (place st)
      where
        by : (b : Bool) → as_step (at b k t) (received st.ports key (packet_of k) true now (at b k t)) ≡ quietly (record st { queue = []; sessions = at b (suc k) now })
        by true =
            ap (as_step (at true k t)) (stepped_by (receiving.Awaits (broadcast (suc k) now)) (goes_tests k t now more))
            ∙ ap (λ (x : Inbound). quietly (record st { queue = []; sessions = x })) (insert_again st.sessions key (Some (takers st m, incoming.Broadcast (broadcast k t))) (Some (takers st m, incoming.Broadcast (broadcast (suc k) now))))
        by false = ap (as_step (at false k t)) nothing_there

    -- the last one
    pub last_heard : suc k ≡ last → is_pgn m.pgn ≡ true → st.ports.station ≡ st.address → (join_of (suc k)).bytes ≡ m.bytes
        → in_session (hears k t st) key (packet_of k) true now ≡ record { station = heard st; events = cond (place st) (given_by st m s all) [] }
    last_heard is_last is own whole = by (place st)
      where
        by : (b : Bool) → as_step (at b k t) (received st.ports key (packet_of k) true now (at b k t)) ≡ record { station = record st { queue = []; sessions = finmap.remove st.sessions key }; events = cond b (given_by st m s all) [] }
        by true =
            ap (as_step (at true k t)) (stepped_by (receiving.Completes (join_of (suc k)).bytes) (ends_tests k t now is_last))
            ∙ (λ i. let r : StationStep = record {
              station = record st { queue = []; sessions = remove_inserted st.sessions key (Some (takers st m, incoming.Broadcast (broadcast k t))) i };
              events = given_to (own i) (takers st m) (record { from = s; to = all; pgn = (clean_is m.pgn is).1 i; bytes = whole i });
            } in r)
        by false = ap (as_step (at false k t)) nothing_there

-- all packets together are the message
module _ (s : Address) (m : Pending) (goes_on : GoesOn) (ends : Ends) where
  front_of : (k : ℕ) → k ≤ last s m → IsFrontOf m.bytes (join_of s m k)
  unfolding join_of
  front_of zero few = record { same_size = refl; from_packet = omega arith; front = refl }
  front_of (suc k) few =
      let h : IsFrontOf m.bytes (join_of s m k) = front_of k (omega arith) in
      let fits : (join_of s m k).next ≤ packet_count (join_of s m k).size = rw (join_next s m k, join_size s m k) few in
      subst (λ (n : ℕ). IsFrontOf m.bytes (joined (join_of s m k) (packet m.bytes n))) (join_next s m k) (goes_on m.bytes (join_of s m k) h fits)

  pub whole_message : (join_of s m (last s m)).bytes ≡ m.bytes
  whole_message = ends m.bytes (join_of s m (last s m)) (front_of (last s m) (omega arith)) (eq-eqb (join_of s m (last s m)).next (packet_count (join_of s m (last s m)).size + 1) (join_next s m (last s m) ∙ sym (add-one (last s m)) ∙ ap (λ n. packet_count n + 1) (sym (join_size s m (last s m)))))
