-- The destination's station takes a frame from the sender to it.
use Rattle.std.proofs.Common.{◌≡◌, ℕ, ◌<◌, ◌^◌, ◌==◌, Bool, true, false, ◌&&◌, List, [], ◌∷◌, ◌++◌, map, filter_map, length, Option, Some, None, refl, sym, ap, ◌∙◌, arith, eq-eqb}
use Rattle.std.specs.Prelude.{option_to_list}
use Rattle.std.specs.List.{cons_option}
use Rattle.std.specs.FinMap as finmap
use Rattle.bus_frame.specs.Frames.{CanFrame}
use Rattle.pgn_ids.specs.Pgn.{clean}
use Rattle.pgn_ids.specs.declared.address.Address.{Address}
use Rattle.tp_wire.specs.Reason.{reason_byte}
use Rattle.tp_wire.specs.Rows.{written}
use Rattle.tp_wire.specs.declared.reason.AbortReason.TheVariants.{Resources}
use Rattle.tp_wire.specs.declared.wire.Kind.{Kind}
use Rattle.tp_wire.specs.declared.wire.Kind.TheVariants.{Tp, Etp}
use Rattle.tp_wire.specs.declared.wire.CmFrame.TheVariants.{Rts, EndOfMsgAck, EtpRts, EtpEoma}
use Rattle.tp_wire.specs.declared.wire.Wire.{Wire}
use Rattle.tp_wire.specs.declared.wire.Wire.TheVariants.{Cm}
use Rattle.seg_cut.specs.Packets.{packet_count}
use Rattle.port_table.specs.Ports.{Ports, ports_for}
use Rattle.responder.specs.Finished.{Finished}
use Rattle.responder.specs.Answers.{abort_frame, end_frame}
use Rattle.responder.specs.declared.received.Received.{Received}
use Rattle.responder.specs.declared.received.Received.TheVariants.{On, Complete, Ended}
use Rattle.session_table.specs.declared.key.Key.{Key}
use Rattle.session_table.specs.declared.key.SessionKind.TheVariants as session
use Rattle.session_table.specs.declared.incoming.Incoming.{Incoming}
use Rattle.session_table.specs.declared.incoming.Incoming.TheVariants as incoming
use Rattle.session_table.specs.Key.{session_for}
use Rattle.message_events.specs.declared.event.Event.{Event}
use Rattle.station_sessions.specs.Receiving.{Inbound, connection_settled}
use Rattle.station_core.specs.Station.{Station, StationStep, quietly, by_session}
use Rattle.station_sessions.specs.Opening.{key_of}
use Rattle.segment_law.specs.Told.{Message}
use Rattle.record_law.proofs.Maps.{state_put, state_dropped, state_put_else, state_dropped_else}
use Rattle.lane_law.specs.Choice.{IsChoice}
use Rattle.lane_law.specs.Lane as machine
use Rattle.broadcast_law.proofs.Ports.{gives_to, first_message}
use Rattle.broadcast_law.proofs.SessionSteps.{FitsPeer}
use Rattle.broadcast_law.proofs.Stations.{IsOwn}
use Rattle.connection_law.proofs.Frames.{Back, BackEnd, returns}
use Rattle.connection_law.proofs.Rows.{returns_end, returns_eoma}
use Rattle.connection_law.proofs.SessionWires.{AsksIn, said_peer, Replies}
use Rattle.connection_law.proofs.Sides.{asked_none}
use Rattle.connection_law.proofs.Tellings.{told_here}
use Rattle.connection_law.proofs.Roles.{station_told, numbers_at, told_to, receiver_view, IsReceiverOf, real_at, answers_more}
use Rattle.connection_law.proofs.View.{Laws, IsPair, Mark, View}
use Rattle.connection_law.proofs.Sender.{small_s, small_d}
use Rattle.connection_law.proofs.Follows.{Left, Goes, Whole, Gone, left_by}
use Rattle.connection_law.proofs.Receiver.{tp_with, etp_with, with_kind, marked, mark_of, ports_of, settled_view}

-- an RTS marks what had been sent, and the ports that it finds
abbrev pub opens_by : Ports → Wire → ℕ → (Kind → Mark) → Kind → Mark
opens_by ports (Cm (Rts size packets most pgn)) n old = marked Tp (mark_of n pgn size (ports_for ports (clean pgn) size)) old
opens_by ports (Cm (EtpRts size pgn)) n old = marked Etp (mark_of n pgn size (ports_for ports (clean pgn) size)) old
opens_by ports w n old = old

pub at_all : (m : Message) (ks : List ℕ) → numbers_at (map (λ k. (k, m)) ks) ≡ ks
at_all m [] = refl
at_all m (k ∷ ks) = ap (λ js. k ∷ js) (at_all m ks)

module _ (laws : Laws) (choose : machine.OnEachLane (λ lane. IsChoice lane.stream.given lane.stream.sent)) (s d : Address) (pair : IsPair s d) where
  low_s : s.0 < 256
  low_s = let l : s.0 < 254 = small_s laws s d pair in omega arith

  low_d : d.0 < 256
  low_d = let l : d.0 < 254 = small_d laws s d pair in omega arith

  abbrev own_key : Kind → Key
  own_key k = key_of s (session_for k)

  tp_not_etp : own_key Tp ≡ own_key Etp → ⊥
  tp_not_etp e = let z : session.Tp ≡ session.Etp = ap (λ (x : Key). x.kind) e in cc

  etp_not_tp : own_key Etp ≡ own_key Tp → ⊥
  etp_not_tp e = let z : session.Etp ≡ session.Tp = ap (λ (x : Key). x.kind) e in cc

  -- the session of a kind changes
  put_tp : (m : Inbound) (kind : Kind) (x : List ℕ × Incoming) → real_at laws s d pair (finmap.insert m (own_key kind) (Some x)) Tp ≡ tp_with kind (Some x) (real_at laws s d pair m Tp)
  put_tp m Tp x = state_put m (own_key Tp) x
  put_tp m Etp x = state_put_else m (own_key Etp) x (own_key Tp) tp_not_etp

  put_etp : (m : Inbound) (kind : Kind) (x : List ℕ × Incoming) → real_at laws s d pair (finmap.insert m (own_key kind) (Some x)) Etp ≡ etp_with kind (Some x) (real_at laws s d pair m Etp)
  put_etp m Tp x = state_put_else m (own_key Tp) x (own_key Etp) etp_not_tp
  put_etp m Etp x = state_put m (own_key Etp) x

  drop_tp : (m : Inbound) (kind : Kind) → real_at laws s d pair (finmap.remove m (own_key kind)) Tp ≡ tp_with kind None (real_at laws s d pair m Tp)
  drop_tp m Tp = state_dropped m (own_key Tp)
  drop_tp m Etp = state_dropped_else m (own_key Etp) (own_key Tp) tp_not_etp

  drop_etp : (m : Inbound) (kind : Kind) → real_at laws s d pair (finmap.remove m (own_key kind)) Etp ≡ etp_with kind None (real_at laws s d pair m Etp)
  drop_etp m Tp = state_dropped_else m (own_key Tp) (own_key Etp) etp_not_tp
  drop_etp m Etp = state_dropped m (own_key Etp)

  module _ (v : View) (behind : List CanFrame) (l : machine.Lane) (st : Station) (h : IsOwn d st) (is : IsReceiverOf laws s d pair v behind st) where
    abbrev pub shown : StationStep → View
    shown step = receiver_view laws s d pair v behind step

    -- what is queued answers as much
    pub answers_are : (frame : Option CanFrame) (back : List Back) → filter_map (returns s d) (option_to_list frame) ≡ back → filter_map (returns s d) (behind ++ (st.queue ++ option_to_list frame)) ≡ v.answers ++ back
    answers_are frame back e = answers_more laws s d pair behind st.queue (option_to_list frame) ∙ (λ i. sym is.answers i ++ e i)

    pub shows_put : (kind : Kind) (x : List ℕ × Incoming) (frame : Option CanFrame) → AsksIn d.0 s.0 frame → shown (quietly (record st { queue = st.queue ++ option_to_list frame; sessions = finmap.insert st.sessions (own_key kind) (Some x) })) ≡ record (with_kind kind (Some x) v) { answers = v.answers ++ []; given = v.given ++ [] }
    shows_put kind x frame a = λ i. (let w : View = record v { tp = tp_is i; etp = etp_is i; answers = answers_are frame [] (asked_none laws.gives s d d.0 s.0 frame low_d low_s a) i; given = v.given ++ [] } in w)
      where
        tp_is : real_at laws s d pair (finmap.insert st.sessions (own_key kind) (Some x)) Tp ≡ tp_with kind (Some x) v.tp
        tp_is = put_tp st.sessions kind x ∙ ap (tp_with kind (Some x)) (sym is.tp)

        etp_is : real_at laws s d pair (finmap.insert st.sessions (own_key kind) (Some x)) Etp ≡ etp_with kind (Some x) v.etp
        etp_is = put_etp st.sessions kind x ∙ ap (etp_with kind (Some x)) (sym is.etp)

    pub shows_drop : (kind : Kind) (frame : Option CanFrame) (events : List Event) (back : List Back) (told : List _) → filter_map (returns s d) (option_to_list frame) ≡ back → told_to d s d events ≡ told
        → shown (record { station = record st { queue = st.queue ++ option_to_list frame; sessions = finmap.remove st.sessions (own_key kind) }; events = events }) ≡ record (with_kind kind None v) { answers = v.answers ++ back; given = v.given ++ told }
    shows_drop kind frame events back told a t = λ i. (let w : View = record v { tp = tp_is i; etp = etp_is i; answers = answers_are frame back a i; given = v.given ++ t i } in w)
      where
        tp_is : real_at laws s d pair (finmap.remove st.sessions (own_key kind)) Tp ≡ tp_with kind None v.tp
        tp_is = drop_tp st.sessions kind ∙ ap (tp_with kind None) (sym is.tp)

        etp_is : real_at laws s d pair (finmap.remove st.sessions (own_key kind)) Etp ≡ etp_with kind None v.etp
        etp_is = drop_etp st.sessions kind ∙ ap (etp_with kind None) (sym is.etp)

    -- A step of a session

    abbrev pub IsFine : Left → Type 0
    IsFine (Goes i) = Unit {0}
    IsFine (Whole m) = m.peer.pgn < 2 ^ 18
    IsFine Gone = Unit {0}

    end_is : (kind : Kind) (w : Finished) → FitsPeer d.0 s.0 w.peer → w.peer.pgn < 2 ^ 18 → filter_map (returns s d) (end_frame kind w.peer w.size ∷ []) ≡ BackEnd ∷ []
    end_is Tp w p q = ap (λ o. cons_option o []) ((λ i. returns s d (written (Cm (EndOfMsgAck w.size (packet_count w.size) w.peer.pgn)) (p.0 i) (p.1 i))) ∙ returns_end s d laws.reads pair.one_s pair.one_d w.size (packet_count w.size) w.peer.pgn q)
    end_is Etp w p q = ap (λ o. cons_option o []) ((λ i. returns s d (written (Cm (EtpEoma w.size w.peer.pgn)) (p.0 i) (p.1 i))) ∙ returns_eoma s d laws.reads pair.one_s pair.one_d w.size w.peer.pgn q)

    abort_is : (kind : Kind) (w : Finished) (reason : ℕ) → FitsPeer d.0 s.0 w.peer → filter_map (returns s d) (abort_frame kind w.peer reason ∷ []) ≡ []
    abort_is Tp w reason p = asked_none laws.gives s d d.0 s.0 (Some (abort_frame Tp w.peer reason)) low_d low_s (said_peer d.0 s.0 w.peer _ (tt, tt) p)
    abort_is Etp w reason p = asked_none laws.gives s d d.0 s.0 (Some (abort_frame Etp w.peer reason)) low_d low_s (said_peer d.0 s.0 w.peer _ (tt, tt) p)

    abbrev whole_events : List ℕ → Finished → List Event
    whole_events set w = gives_to st.ports.station set (record { 0 = w.peer.from }) (record { 0 = w.peer.to }) (clean w.peer.pgn) w.bytes

    told_all : (set : List ℕ) (w : Finished) → FitsPeer d.0 s.0 w.peer → station_told d s d (whole_events set w) ≡ map (λ k. (k, (clean w.peer.pgn, w.bytes))) set
    told_all set w p = told_here s d d st.ports.station (record { 0 = w.peer.from }) (record { 0 = w.peer.to }) (clean w.peer.pgn) w.bytes here set
      where
        here : (st.ports.station.0 == d.0 && (w.peer.from == s.0 && w.peer.to == d.0)) ≡ true
        here = λ i. eq-eqb st.ports.station.0 d.0 (ap (λ (a : Address). a.0) h.ports.station) i && (eq-eqb w.peer.from s.0 p.1 i && eq-eqb w.peer.to d.0 p.0 i)

    told_is : (set : List ℕ) (w : Finished) → 0 < length set → FitsPeer d.0 s.0 w.peer → told_to d s d (whole_events set w) ≡ (clean w.peer.pgn, w.bytes) ∷ []
    told_is set w some p = ap first_message (told_all set w p) ∙ first set some
      where
        first : (xs : List ℕ) → 0 < length xs → first_message (map (λ k. (k, (clean w.peer.pgn, w.bytes))) xs) ≡ (clean w.peer.pgn, w.bytes) ∷ []
        first [] l = absurd (omega (arith, l))
        first (x ∷ xs) l = refl

    pub shows_step : (kind : Kind) (set : List ℕ) (room : Bool) → 0 < length set → (r : Received) → Replies d.0 s.0 r → IsFine (left_by r) → shown (by_session st (connection_settled st.ports.station (own_key kind) set room st.sessions r)) ≡ settled_view v kind set room (left_by r)
    shows_step kind set room some (On t frame) a f = shows_put kind (set, incoming.Connection t) frame a.1
    shows_step kind set true some (Complete w) a f = shows_drop kind (Some (end_frame w.kind w.peer w.size)) (gives_to st.ports.station set (record { 0 = w.peer.from }) (record { 0 = w.peer.to }) (clean w.peer.pgn) w.bytes) (BackEnd ∷ []) ((clean w.peer.pgn, w.bytes) ∷ []) (end_is w.kind w a f) (told_is set w some a)
    shows_step kind set false some (Complete w) a f = shows_drop kind (Some (abort_frame w.kind w.peer (reason_byte Resources))) [] [] [] (abort_is w.kind w (reason_byte Resources) a) refl
    shows_step kind set room some (Ended frame) a f = shows_drop kind frame [] [] [] (asked_none laws.gives s d d.0 s.0 frame low_d low_s a) refl

    abbrev numbers_told : StationStep → List ℕ
    numbers_told step = numbers_at (station_told d s d step.events)

    pub tells_step : (kind : Kind) (set : List ℕ) (room : Bool) → (r : Received) → Replies d.0 s.0 r → numbers_told (by_session st (connection_settled st.ports.station (own_key kind) set room st.sessions r)) ≡ ports_of set room (left_by r)
    tells_step kind set room (On t frame) a = refl
    tells_step kind set true (Complete w) a = ap numbers_at (told_all set w a) ∙ at_all (clean w.peer.pgn, w.bytes) set
    tells_step kind set false (Complete w) a = refl
    tells_step kind set room (Ended frame) a = refl
