-- Each session of a station is that of a transfer whose opening it took, behind the end of every message of that source and kind.
use Rattle.std.proofs.Common.{◌≡◌, ◌⊎◌, inl, inr, ℕ, ◌+◌, ◌<◌, ◌≤◌, ◌==◌, Bool, true, false, cond, List, [], ◌∷◌, ◌++◌, map, filter_map, length, Option, Some, None, refl, sym, ap, ◌∙◌, subst, arith, ⊎_elim}
use Rattle.std.specs.Prelude.{Contains}
use Rattle.std.specs.FinMap as finmap
use Rattle.std.specs.List.{cons_option}
use Rattle.std.proofs.lemmas.List.Elements.{Contains-append_cases, Contains-push_cases}
use Rattle.bus_frame.specs.Frames.{CanFrame}
use Rattle.pgn_ids.specs.Address.{global_address}
use Rattle.pgn_ids.specs.Pgn.{clean}
use Rattle.pgn_ids.specs.declared.address.Address.{Address}
use Rattle.tp_wire.specs.declared.wire.Wire.{Wire}
use Rattle.message_events.specs.declared.event.Event.{Event}
use Rattle.message_events.specs.declared.event.Event.TheVariants as event
use Rattle.port_table.specs.Ports.{Ports}
use Rattle.port_table.specs.PortSet.{without_number}
use Rattle.responder.specs.Steps.{stepped, expired}
use Rattle.responder.specs.Room.{prepared, prepared_to_expire}
use Rattle.responder.specs.declared.flow.Flow.{Flow}
use Rattle.responder.specs.declared.received.Received.{Received}
use Rattle.responder.specs.declared.received.Received.TheVariants.{On, Complete, Ended}
use Rattle.bam_session.specs.States as bam
use Rattle.bam_session.specs.Receiving as bam-steps
use Rattle.session_table.specs.declared.key.Key.{Key}
use Rattle.session_table.specs.declared.key.SessionKind.{SessionKind}
use Rattle.session_table.specs.declared.key.SessionKind.TheVariants.{Broadcast, Tp, Etp}
use Rattle.session_table.specs.declared.incoming.Incoming.{Incoming}
use Rattle.session_table.specs.declared.incoming.Incoming.TheVariants as incoming
use Rattle.session_table.specs.Incoming.{pgn_of}
use Rattle.session_table.specs.Sessions.{state_at}
use Rattle.station_sessions.specs.Receiving.{Inbound, Reception, broadcast_settled, connection_settled, session_stepped, session_fired, flow_at, received_by, received, fired_by, fired_at, aborted_at, unbound_by, unbound_at}
use Rattle.segment_law.specs.Told.{Placed}
use Rattle.record_law.proofs.Maps.{State, OfEach, key_cases, put_of_each, dropped_of_each, of_each_put, of_each_dropped}
use Rattle.record_law.proofs.Segments.{same_address}
use Rattle.record_law.proofs.Tests.{on_test, either}
use Rattle.record_law.proofs.readers.Filled.{IsSeven}
use Rattle.foreign_law.specs.Taken.{Seen, Message, message_at}
use Rattle.foreign_law.specs.Assembled.{Transfer, transfer_of, kind_for, IsAssembled, AreOfOneKind}
use Rattle.foreign_law.proofs.Later.{AreNext, HasNoOffset, HasNoOpening, IsNewest, newest_on}
use Rattle.foreign_law.proofs.Connections.{wire_of, IsUnderWay, connection_stays, connection_goes, connection_expires, message_of}
use Rattle.foreign_law.proofs.Connections as connections
use Rattle.foreign_law.proofs.Broadcasts.{IsToAll, broadcast_stays, broadcast_goes, message_to_all}
use Rattle.foreign_law.proofs.Broadcasts as broadcasts

-- Lists

pub in_none : {A : Type 0} (x : A) → Contains [] x → ⊥
in_none x c = absurd (let l = c.1 in omega (arith, l))

pub in_first : {A : Type 0} (y : A) (ys : List A) (x : A) → Contains (y ∷ ys) x → (y ≡ x) ⊎ Contains ys x
in_first y ys x c = ⊎_elim
    (λ (one : Contains (y ∷ []) x). inl (⊎_elim (λ none. absurd (in_none x none)) (λ e. e) (Contains-push_cases [] y x one)))
    (λ rest. inr rest)
    (Contains-append_cases (y ∷ []) ys x c)

-- the messages of events at a station, with the place of their call
abbrev pub told : Address → ℕ → List Event → List (Placed Message)
told a place events = map (λ (m : Message). (place, m)) (filter_map (message_at a) events)

-- the transfer goes to the station with an address, or to all
module _ (a : Address) where
  abbrev pub GoesTo : SessionKind → (to : Address) → Type 0
  GoesTo Broadcast to = to.0 ≡ global_address
  GoesTo Tp to = to.0 ≡ a.0
  GoesTo Etp to = to.0 ≡ a.0

  one_destination : (k : SessionKind) (to other : Address) → GoesTo k to → GoesTo k other → to ≡ other
  one_destination Broadcast to other h g = same_address to other (h ∙ sym g)
  one_destination Tp to other h g = same_address to other (h ∙ sym g)
  one_destination Etp to other h g = same_address to other (h ∙ sym g)

  -- what is kept of a transfer with these packets
  abbrev pub IsStateOf : List (Placed Seen) → Transfer → (opening before : ℕ) → List (Placed (List ℕ)) → Incoming → Type 0
  IsStateOf taken t opening before packets (incoming.Broadcast s) = IsToAll taken t opening packets s
  IsStateOf taken t opening before packets (incoming.Connection s) = IsUnderWay taken t opening before packets s

  -- as far as n calls go
  pub record IsFromOpening (taken : List (Placed Seen)) (given : List (Placed Message)) (n : ℕ) (key : Key) (s : Incoming) : Type 0 where
    pub transfer : Transfer
    pub opening : ℕ
    pub packets : List (Placed (List ℕ))
    pub kind : transfer.kind ≡ key.kind
    pub from : transfer.from ≡ key.source
    pub to : GoesTo transfer.kind transfer.to
    pub size : kind_for transfer.to transfer.size ≡ transfer.kind
    pub begun : opening ≤ n
    pub latest : IsNewest taken transfer opening
    pub state : IsStateOf taken transfer opening (n + 1) packets s
    pub apart : (g : Placed Message) → Contains given g → g.1.from ≡ transfer.from → (transfer_of g.1).kind ≡ transfer.kind → g.0 < opening

  abbrev pub AreFromOpenings : List (Placed Seen) → List (Placed Message) → ℕ → Inbound → Type 0
  AreFromOpenings taken given n m = OfEach (λ q v. IsFromOpening taken given n q v.1) m

  module _ (n : ℕ) (taken more : List (Placed Seen)) (given : List (Placed Message)) where
    -- all that is given is one message, which was put together behind the others of its source and kind
    pub record IsOne (gs : List (Placed Message)) : Type 0 where
      pub message : Message
      pub opening : ℕ
      pub same : (g : Placed Message) → Contains gs g → g ≡ (n + 1, message)
      pub assembled : IsAssembled (taken ++ more) opening (n + 1, message)
      pub apart : (g : Placed Message) → Contains given g → AreOfOneKind g.1 message → g.0 < opening

    -- what a step gives and leaves
    pub record Settles (gs : List (Placed Message)) (sessions : Inbound) : Type 0 where
      pub gives : (gs ≡ []) ⊎ IsOne gs
      pub leaves : AreFromOpenings (taken ++ more) (given ++ gs) (n + 1) sessions

    -- no DPO for the session of a key, and no opening of its source and kind
    abbrev pub IsQuiet : Key → Type 0
    IsQuiet q = (t : Transfer) → t.kind ≡ q.kind → t.from ≡ q.source → (t.kind ≡ Etp → HasNoOffset more t) × HasNoOpening more t

    -- the messages are of no such source and kind
    abbrev pub AreOfOthers : List (Placed Message) → Key → Type 0
    AreOfOthers gs q = (g : Placed Message) → Contains gs g → g.1.from ≡ q.source → (transfer_of g.1).kind ≡ q.kind → ⊥

  module _ (n : ℕ) (taken more : List (Placed Seen)) (next : AreNext n taken more) (given : List (Placed Message)) where
    abbrev all : List (Placed Seen)
    all = taken ++ more

    abbrev Done : List (Placed Message) → Inbound → Type 0
    Done gs sessions = Settles n taken more given gs sessions

    abbrev Quiet : Key → Type 0
    Quiet q = IsQuiet n taken more given q

    abbrev Others : List (Placed Message) → Key → Type 0
    Others gs q = AreOfOthers n taken more given gs q

    none_so : (q : Key) → Others [] q
    none_so q g c e k = in_none g c

    module _ (gs : List (Placed Message)) (q : Key) (others : Others gs q) (s : Incoming) (h : IsFromOpening taken given n q s) where
      -- the session goes on
      goes_on : HasNoOpening more h.transfer → (u : Incoming) (packets : List (Placed (List ℕ))) → IsStateOf all h.transfer h.opening (n + 1 + 1) packets u → IsFromOpening all (given ++ gs) (n + 1) q u
      goes_on fresh u packets state = record {
        transfer = h.transfer;
        opening = h.opening;
        packets = packets;
        kind = h.kind;
        from = h.from;
        to = h.to;
        size = h.size;
        begun = (let l : h.opening ≤ n = h.begun in omega (arith, l));
        latest = newest_on n taken more next h.transfer h.opening fresh h.latest;
        state = state;
        apart = λ g c from kind. ⊎_elim
            (λ (old : Contains given g). h.apart g old from kind)
            (λ (new : Contains gs g). absurd (others g new (from ∙ h.from) (kind ∙ h.kind)))
            (Contains-append_cases given gs g c);
      }

      -- it isn't concerned
      stays_so : Quiet q → IsFromOpening all (given ++ gs) (n + 1) q s
      stays_so quiet = goes_on (quiet h.transfer h.kind h.from).1 s h.packets (by s h.state)
        where
          by : (u : Incoming) → IsStateOf taken h.transfer h.opening (n + 1) h.packets u → IsStateOf all h.transfer h.opening (n + 1 + 1) h.packets u
          by (incoming.Broadcast u) w = broadcast_stays n taken more next h.transfer h.opening h.packets u w
          by (incoming.Connection u) w = connection_stays n taken more next h.transfer h.opening h.packets (quiet h.transfer h.kind h.from).0 u w

    module _ (m : Inbound) (each : AreFromOpenings taken given n m) where
      -- no session is concerned
      pub settles_none : ((q : Key) → Quiet q) → Done [] m
      settles_none quiet = record { gives = inl refl; leaves = λ q v e. stays_so [] q (none_so q) v.1 (each q v e) (quiet q) }

      pub settles_dropped : ((q : Key) → Quiet q) → (k : Key) → Done [] (finmap.remove m k)
      settles_dropped quiet k = record { gives = inl refl; leaves = of_each_dropped (λ q v. IsFromOpening all (given ++ []) (n + 1) q v.1) m k (λ q v e. stays_so [] q (none_so q) v.1 (each q v e) (quiet q)) }

      pub settles_aborted : ((q : Key) → Quiet q) → (k : Key) (pgn : ℕ) → Done [] (aborted_at k pgn m)
      settles_aborted quiet k pgn = by (state_at m k)
        where
          by : (o : Option State) → Done [] (elim o [ None ↦ m | Some v ↦ cond (clean (pgn_of v.1) == clean pgn) (finmap.remove m k) m ])
          by None = settles_none quiet
          by (Some v) = either (Done []) (clean (pgn_of v.1) == clean pgn) (finmap.remove m k) m (settles_dropped quiet k) (settles_none quiet)

      module _ (key : Key) (quiet : (q : Key) → (q ≡ key → ⊥) → Quiet q) where
        others_stay : (gs : List (Placed Message)) → ((q : Key) → (q ≡ key → ⊥) → Others gs q) → (q : Key) (v : State) → (q ≡ key → ⊥) → state_at m q ≡ Some v → IsFromOpening all (given ++ gs) (n + 1) q v.1
        others_stay gs others q v apart e = stays_so gs q (others q apart) v.1 (each q v e) (quiet q apart)

        pub settles_ended : Done [] (finmap.remove m key)
        settles_ended = record { gives = inl refl; leaves = dropped_of_each (λ q v. IsFromOpening all (given ++ []) (n + 1) q v.1) m key (others_stay [] (λ q _. none_so q)) }

        pub settles_on : (set : List ℕ) (s : Incoming) → IsFromOpening all (given ++ []) (n + 1) key s → Done [] (finmap.insert m key (Some (set, s)))
        settles_on set s h = record { gives = inl refl; leaves = put_of_each (λ q v. IsFromOpening all (given ++ []) (n + 1) q v.1) m key (set, s) h (others_stay [] (λ q _. none_so q)) }

        -- without a session
        settles_unheard : state_at m key ≡ None → Done [] m
        settles_unheard none = record { gives = inl refl; leaves = λ q v e. by q v e (key_cases q key) }
          where
            by : (q : Key) (v : State) → state_at m q ≡ Some v → (q ≡ key) ⊎ (q ≡ key → ⊥) → IsFromOpening all (given ++ []) (n + 1) q v.1
            by q v e (inl s) = absurd (let is : None ≡ Some v = sym none ∙ ap (λ x. state_at m x) (sym s) ∙ e in cc)
            by q v e (inr apart) = others_stay [] (λ q _. none_so q) q v apart e

        -- A message that is complete

        module _ (station : Address) (set : List ℕ) (w : Message) (t : Transfer) (opening : ℕ) (is : transfer_of w ≡ t) (assembled : IsAssembled all opening (n + 1, w)) (kind : t.kind ≡ key.kind) (from : t.from ≡ key.source)
            (apart : (g : Placed Message) → Contains given g → g.1.from ≡ t.from → (transfer_of g.1).kind ≡ t.kind → g.0 < opening) where
          abbrev gives_it : List ℕ → List Event
          gives_it ports = map (λ (number : ℕ). event.Given (record { station = station; number = number }) w.from w.to w.pgn w.bytes) ports

          one_message : (ports : List ℕ) (g : Placed Message) → Contains (told a (n + 1) (gives_it ports)) g → g ≡ (n + 1, w)
          one_message [] g c = absurd (in_none g c)
          one_message (k ∷ ports) g c = on_test (λ b. Contains (map (λ (m : Message). (n + 1, m)) (cons_option (cond b (Some w) None) (filter_map (message_at a) (gives_it ports)))) g → g ≡ (n + 1, w)) (station.0 == a.0)
              (λ _ d. ⊎_elim (λ (e : (n + 1, w) ≡ g). sym e) (λ rest. one_message ports g rest) (in_first (n + 1, w) (told a (n + 1) (gives_it ports)) g d))
              (λ _ d. one_message ports g d) c

          of_key : (q : Key) → (q ≡ key → ⊥) → Others (told a (n + 1) (gives_it set)) q
          of_key q apart_key g c e k =
              let g_is : g ≡ (n + 1, w) = one_message set g c in
              let source : q.source ≡ key.source = sym e ∙ ap (λ (x : Placed Message). x.1.from) g_is ∙ ap (λ (u : Transfer). u.from) is ∙ from in
              let same_kind : q.kind ≡ key.kind = sym k ∙ ap (λ (x : Placed Message). (transfer_of x.1).kind) g_is ∙ ap (λ (u : Transfer). u.kind) is ∙ kind in
              apart_key (λ i. record { source = source i; kind = same_kind i })

          settles_given : Done (told a (n + 1) (gives_it set)) (finmap.remove m key)
          settles_given = record {
            gives = inr (record {
              message = w;
              opening = opening;
              same = one_message set;
              assembled = assembled;
              apart = λ g c k. apart g c (k.source ∙ ap (λ (u : Transfer). u.from) is) (k.kind ∙ ap (λ (u : Transfer). u.kind) is);
            });
            leaves = dropped_of_each (λ q v. IsFromOpening all (given ++ told a (n + 1) (gives_it set)) (n + 1) q v.1) m key (others_stay (told a (n + 1) (gives_it set)) of_key);
          }

          settles_concluded : (room : Bool) (answer refused : Option CanFrame) → (let r : Reception = cond room (record { sessions = finmap.remove m key; frame = answer; events = gives_it set }) (record { sessions = finmap.remove m key; frame = refused; events = [] }) in Done (told a (n + 1) r.events) r.sessions)
          settles_concluded true answer refused = settles_given
          settles_concluded false answer refused = settles_ended

        -- A step of the session

        module _ (fresh : (t : Transfer) → t.kind ≡ key.kind → t.from ≡ key.source → HasNoOpening more t) where
          abbrev SettledBy : Reception → Type 0
          SettledBy r = Done (told a (n + 1) r.events) r.sessions

          module _ (station : Address) (set : List ℕ) (room : Bool) where
            connection_settles : (s : Incoming) (h : IsFromOpening taken given n key s) (r : Received) → connections.Goes n taken more next h.transfer h.opening h.packets r → SettledBy (connection_settled station key set room m r)
            connection_settles s h (On u frame) g = settles_on set (incoming.Connection u) (goes_on [] key (none_so key) s h (fresh h.transfer h.kind h.from) (incoming.Connection u) g.0 g.1)
            connection_settles s h (Complete w) g = settles_concluded station set (message_of n taken more next h.transfer h.opening h.packets w) h.transfer h.opening g.0 g.1 h.kind h.from h.apart room _ _
            connection_settles s h (Ended frame) g = settles_ended

            broadcast_settles : (s : bam.Incoming) (h : IsFromOpening taken given n key (incoming.Broadcast s)) (r : bam-steps.Received) → broadcasts.Goes n taken more next h.transfer h.opening h.packets s h.state r → SettledBy (broadcast_settled station key set room m s r)
            broadcast_settles s h (bam-steps.Awaits u) g = settles_on set (incoming.Broadcast u) (goes_on [] key (none_so key) (incoming.Broadcast s) h (fresh h.transfer h.kind h.from) (incoming.Broadcast u) g.0 g.1)
            broadcast_settles s h (bam-steps.Completes bytes) g = settles_concluded station set (message_to_all s bytes) h.transfer h.opening g.0 g.1 h.kind h.from h.apart room None None
            broadcast_settles s h bam-steps.Drops g = settles_ended

            step_settles : (wire : Wire) (to : Address) → Contains more (n + 1, Some (wire, key.source, to)) → ((y : Placed Seen) → Contains more y → wire_of y.1 ≡ Some wire) → GoesTo key.kind to → IsSeven wire
                → (s : Incoming) → IsFromOpening taken given n key s → (flow : Flow) (now : ℕ) → SettledBy (session_stepped station key set room m flow s wire now)
            step_settles wire to here only goes seven s h flow now = by s h
              where
                its_own : (t : Transfer) → t.kind ≡ key.kind → t.from ≡ key.source → GoesTo t.kind t.to → Contains more (n + 1, Some (wire, t.from, t.to))
                its_own t kind from it =
                    let same : t.to ≡ to = one_destination t.kind t.to to it (subst (λ k. GoesTo k to) (sym kind) goes) in
                    subst (λ (x : Address). Contains more (n + 1, Some (wire, x, t.to))) (sym from) (subst (λ (x : Address). Contains more (n + 1, Some (wire, key.source, x))) (sym same) here)

                by : (s : Incoming) → IsFromOpening taken given n key s → SettledBy (session_stepped station key set room m flow s wire now)
                by (incoming.Broadcast s) h = broadcast_settles s h (bam-steps.stepped s wire now) (broadcast_goes n taken more next h.transfer h.opening h.packets s h.state h.begun h.size (newest_on n taken more next h.transfer h.opening (fresh h.transfer h.kind h.from) h.latest) wire (its_own h.transfer h.kind h.from h.to) seven now)
                by (incoming.Connection s) h = connection_settles (incoming.Connection s) h (stepped (prepared s wire room flow) wire room flow now)
                    (connection_goes n taken more next h.transfer h.opening h.packets h.begun h.size (newest_on n taken more next h.transfer h.opening (fresh h.transfer h.kind h.from) h.latest) s h.state wire (its_own h.transfer h.kind h.from h.to) only seven room flow now)

          fire_settles : (station : Address) (set : List ℕ) (s : Incoming) → IsFromOpening taken given n key s → (flow : Flow) (now : ℕ) → SettledBy (session_fired station key set m flow s now)
          fire_settles station set (incoming.Broadcast s) h flow now = settles_ended
          fire_settles station set (incoming.Connection s) h flow now =
              connection_settles station set true (incoming.Connection s) h (expired (prepared_to_expire s flow) flow now) (connection_expires n taken more next h.transfer h.opening h.packets s h.state flow now)

          pub settles_fired : (ports : Ports) (now : ℕ) → SettledBy (fired_at ports key now m)
          settles_fired ports now = by (state_at m key) refl
            where
              by : (o : Option State) → state_at m key ≡ o → SettledBy (fired_by o ports key now m)
              by None e = settles_unheard e
              by (Some v) e = fire_settles ports.station v.0 v.1 (each key v e) (flow_at ports v.0) now

          pub settles_received : (ports : Ports) (wire : Wire) (to : Address) → Contains more (n + 1, Some (wire, key.source, to)) → ((y : Placed Seen) → Contains more y → wire_of y.1 ≡ Some wire) → GoesTo key.kind to → IsSeven wire
              → (room : Bool) (now : ℕ) → SettledBy (received ports key wire room now m)
          settles_received ports wire to here only goes seven room now = by (state_at m key) refl
            where
              by : (o : Option State) → state_at m key ≡ o → SettledBy (received_by o ports key wire room now m)
              by None e = settles_unheard e
              by (Some v) e = step_settles ports.station v.0 room wire to here only goes seven v.1 (each key v e) (flow_at ports v.0) now

-- A port that is taken out of the set of a session changes no more than the set

pub unbound_keeps : (P : Key → Incoming → Type 0) (m : Inbound) → OfEach (λ q v. P q v.1) m → (key : Key) (number : ℕ) → OfEach (λ q v. P q v.1) (unbound_at key number m).sessions
unbound_keeps P m each key number = by (state_at m key) refl
  where
    by : (o : Option State) → state_at m key ≡ o → OfEach (λ q v. P q v.1) (unbound_by o key number m).sessions
    by None e = each
    by (Some v) e = either (λ (r : Reception). OfEach (λ q w. P q w.1) r.sessions) (length (without_number v.0 number) == 0) _ _
        (of_each_dropped (λ q w. P q w.1) m key each)
        (of_each_put (λ q w. P q w.1) m key (without_number v.0 number, v.1) (each key v e) each)
