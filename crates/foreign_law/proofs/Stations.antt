-- What a frame makes of the sessions of a station: each is still that of a transfer whose opening it took, and what it gives was put
-- together.
use Rattle.std.proofs.Common.{◌≡◌, inl, ℕ, zero, suc, ◌+◌, ◌<◌, ◌≤◌, ◌==◌, Bool, true, false, cond, not, ◌&&◌, ◌||◌, List, [], ◌∷◌, ◌++◌, map, Option, Some, None, refl, sym, ap, ◌∙◌, subst, arith, eqb-true, eq-eqb, ltb-true, leb-true, ne_eqb, ⊎_elim}
use Rattle.std.specs.Prelude.{Contains, nat_le, option_to_list}
use Rattle.std.proofs.lemmas.Bool.{and_parts, lt-leb}
use Rattle.std.proofs.lemmas.List.Elements.{Contains-append_cases, Contains-append_right, Contains-push, Contains-push_cases}
use Rattle.std.proofs.lemmas.Option.{same_Some, none-some}
use Rattle.bus_frame.specs.Frames.{CanFrame}
use Rattle.pgn_ids.specs.Address.{global_address, is_one}
use Rattle.pgn_ids.specs.Pgn.{clean}
use Rattle.pgn_ids.specs.Identifier.{meaning_of}
use Rattle.pgn_ids.specs.declared.address.Address.{Address}
use Rattle.tp_wire.specs.Reading.{reading, between, body_of}
use Rattle.tp_wire.specs.Rows.{goes_to, comes_from}
use Rattle.tp_wire.specs.Sizes.{is_size_of}
use Rattle.tp_wire.specs.declared.constants.TheConstants.{MIN_SIZE, TP_MAX_SIZE, ETP_MAX_SIZE, ETP_MAX_WINDOW}
use Rattle.tp_wire.specs.declared.reason.AbortReason.{AbortReason}
use Rattle.tp_wire.specs.declared.wire.Kind.{Kind}
use Rattle.tp_wire.specs.declared.wire.Kind.TheVariants as kind
use Rattle.tp_wire.specs.declared.wire.CmFrame.{CmFrame}
use Rattle.tp_wire.specs.declared.wire.CmFrame.TheVariants.{Rts, Cts, EndOfMsgAck, Bam, Abort, EtpRts, EtpCts, EtpDpo, EtpEoma, EtpAbort}
use Rattle.tp_wire.specs.declared.wire.Wire.{Wire}
use Rattle.tp_wire.specs.declared.wire.Wire.TheVariants.{Cm, Packet, Request, Ack}
use Rattle.seg_cut.specs.Packets.{packet_count}
use Rattle.responder.specs.Unfinished.{Unfinished, begun}
use Rattle.responder.specs.Window.{most_of}
use Rattle.responder.specs.Asking.{asking}
use Rattle.responder.specs.Room.{first_join}
use Rattle.responder.specs.declared.flow.Flow.{Flow}
use Rattle.bam_session.specs.States as bam
use Rattle.lane_core.specs.Lane.{Lane}
use Rattle.lane_core.specs.Step.{LaneStep}
use Rattle.lane_core.specs.Hear.{heard}
use Rattle.lane_core.specs.Fire.{fired as lane_fires}
use Rattle.lane_core.specs.Overrun.{overrun as lane_overrun}
use Rattle.lane_core.specs.declared.step.Ended.{Ended}
use Rattle.message_events.specs.declared.event.Event.{Event}
use Rattle.message_events.specs.declared.event.Event.TheVariants as event
use Rattle.port_table.specs.Ports.{without_port}
use Rattle.session_table.specs.DueOrder.{first_due}
use Rattle.session_table.specs.Key.{session_for}
use Rattle.session_table.specs.declared.key.Key.{Key}
use Rattle.session_table.specs.declared.key.SessionKind.{SessionKind}
use Rattle.session_table.specs.declared.key.SessionKind.TheVariants.{Broadcast, Tp, Etp}
use Rattle.session_table.specs.declared.incoming.Incoming.{Incoming}
use Rattle.session_table.specs.declared.incoming.Incoming.TheVariants as incoming
use Rattle.station_lanes.specs.Lanes.{Lanes}
use Rattle.station_lanes.specs.LaneCalls.{step_at, outcome_of}
use Rattle.station_lanes.specs.LaneReaders.{overrun_lanes, overrun_events, due_lane}
use Rattle.station_sessions.specs.Receiving.{Reception, flow_at, received, fired_at}
use Rattle.station_sessions.specs.Opening.{key_of, refusal, is_tp_size, is_etp_size, set_for, others_than, whole_join, peer_of, rts_received, bam_received}
use Rattle.station_core.specs.Closing.{closed_below, closed}
use Rattle.station_core.specs.Overruns.{overrun}
use Rattle.station_core.specs.Timers.{lane_fired, fired}
use Rattle.station_core.specs.Station.{Station, StationStep, new_station, quietly, by_session, by_lane}
use Rattle.station_core.specs.Taking.{packet_kind, abort_taken, cm_taken, wire_taken, looks_at, meaning_taken, taken}
use Rattle.segment_law.specs.Told.{Placed}
use Rattle.record_law.proofs.Tests.{on_test, either}
use Rattle.record_law.proofs.Lists.{Each, each_append}
use Rattle.record_law.proofs.Maps.{OfEach, of_each_none}
use Rattle.record_law.proofs.readers.Filled.{IsSeven}
use Rattle.record_law.proofs.readers.Sessions.{MeansSeven, reading_seven}
use Rattle.foreign_law.specs.Taken.{Heard, Seen, Message, heard_by}
use Rattle.foreign_law.specs.Assembled.{Transfer, kind_for, Announces, opened_by}
use Rattle.foreign_law.proofs.Later.{AreNext, HasNoOpening}
use Rattle.foreign_law.proofs.Later as later
use Rattle.foreign_law.proofs.Courses.{course_begins}
use Rattle.foreign_law.proofs.Connections.{asks_for, wire_of}
use Rattle.foreign_law.proofs.Sessions.{told, in_none, GoesTo, IsFromOpening, AreFromOpenings, IsQuiet, Settles, settles_none, settles_aborted, settles_ended, settles_on, settles_received, settles_fired, unbound_keeps}

-- What a frame says of its addresses

between_goes : (from to : Address) (o : Option Wire) (m : Heard) → between from to o ≡ Some m → goes_to m.0 m.2.0 ≡ true
between_goes from to None m e = absurd (none-some m e)
between_goes from to (Some w) m e = on_test (λ b. (goes_to w to.0 && comes_from w from.0) ≡ b → cond {A = Option Heard} b (Some (w, from, to)) None ≡ Some m → goes_to m.0 m.2.0 ≡ true) (goes_to w to.0 && comes_from w from.0)
    (λ t p q. subst (λ (x : Heard). goes_to x.0 x.2.0 ≡ true) (same_Some (w, from, to) m q) (and_parts (goes_to w to.0) (comes_from w from.0) p).0)
    (λ t p q. absurd (none-some m q)) refl e

pub reading_goes : (f : CanFrame) (m : Heard) → reading f ≡ Some m → goes_to m.0 m.2.0 ≡ true
unfolding reading
reading_goes f m e = between_goes (meaning_of f.id).from (meaning_of f.id).to (body_of (meaning_of f.id).pgn f.bytes) m e

between_to : (from to : Address) (o : Option Wire) (m : Heard) → between from to o ≡ Some m → m.2 ≡ to
between_to from to None m e = absurd (none-some m e)
between_to from to (Some w) m e = on_test (λ b. cond {A = Option Heard} b (Some (w, from, to)) None ≡ Some m → m.2 ≡ to) (goes_to w to.0 && comes_from w from.0)
    (λ t q. sym (ap (λ (x : Heard). x.2) (same_Some (w, from, to) m q)))
    (λ t q. absurd (none-some m q)) e

reading_to : (f : CanFrame) (m : Heard) → reading f ≡ Some m → m.2 ≡ (meaning_of f.id).to
unfolding reading
reading_to f m e = between_to (meaning_of f.id).from (meaning_of f.id).to (body_of (meaning_of f.id).pgn f.bytes) m e

-- Sizes

tp_size : (size : ℕ) → is_size_of kind.Tp size ≡ true → is_size_of kind.Etp size ≡ false
tp_size size e =
    let most : size ≤ TP_MAX_SIZE = leb-true size TP_MAX_SIZE (and_parts (nat_le MIN_SIZE size) (nat_le size TP_MAX_SIZE) e).1 in
    let low : nat_le (TP_MAX_SIZE + 1) size ≡ false = lt-leb (TP_MAX_SIZE + 1) size (omega (arith, most)) in
    ap (λ b. b && nat_le size ETP_MAX_SIZE) low

-- a session opens only for a size that its kind carries
sized : (is_size room : Bool) (set : List ℕ) (others : ℕ) → refusal is_size room set others ≡ None → is_size ≡ true
sized true room set others e = refl
sized false room set others e = absurd (cc)

-- An outcome gives nothing

pub outcome_gives : (a : Address) (place : ℕ) (from to : Address) (o : Option Ended) → told a place (outcome_of from to o) ≡ []
outcome_gives a place from to None = refl
outcome_gives a place from to (Some e) = refl

abbrev IsOutcome : Event → Type 0
IsOutcome (event.Given port from to pgn bytes) = ⊥
IsOutcome (event.Outcome from to number outcome) = Unit {0}

outcomes_give : (a : Address) (place : ℕ) (es : List Event) → Each IsOutcome es → told a place es ≡ []
outcomes_give a place [] h = refl
outcomes_give a place (event.Given port from to pgn bytes ∷ es) h = absurd h.0
outcomes_give a place (event.Outcome from to number outcome ∷ es) h = outcomes_give a place es h.1

one_outcome : (from to : Address) (o : Option Ended) → Each IsOutcome (outcome_of from to o)
one_outcome from to None = tt
one_outcome from to (Some e) = (tt, tt)

overrun_outcomes : (from : Address) (lanes : Lanes) (n : ℕ) → Each IsOutcome (overrun_events from lanes n)
unfolding overrun_events
overrun_outcomes from lanes zero = tt
overrun_outcomes from lanes (suc n) = each_append IsOutcome (overrun_events from lanes n) _ (overrun_outcomes from lanes n) (one_outcome from (record { 0 = n }) (step_at (overrun_lanes lanes n) n lane_overrun).ended)

module _ (a : Address) (n : ℕ) (before : List (Placed Seen)) (within : (x : Placed Seen) → Contains before x → x.0 ≤ n) (given : List (Placed Message)) (ended : (g : Placed Message) → Contains given g → g.0 ≤ n)
    (st : Station) (address : st.address.0 ≡ a.0) (each : AreFromOpenings a before given n st.sessions) where
  -- what the station gives and leaves by a step at which it takes these frames
  abbrev pub ActsBy : List (Placed Seen) → StationStep → Type 0
  ActsBy more step = Settles a n before more given (told a (n + 1) step.events) step.station.sessions

  module _ (more : List (Placed Seen)) (next : AreNext n before more) where
    abbrev Acts : StationStep → Type 0
    Acts step = ActsBy more step

    pub acts_quietly : (step : StationStep) → told a (n + 1) step.events ≡ [] → Settles a n before more given [] step.station.sessions → Acts step
    acts_quietly step none h = subst (λ gs. Settles a n before more given gs step.station.sessions) (sym none) h

    pub acts_lane : ((q : Key) → IsQuiet a n before more given q) → (to : Address) (step : Lane → Lane × LaneStep) → Acts (by_lane st to step)
    acts_lane quiet to step = acts_quietly (by_lane st to step) (outcome_gives a (n + 1) st.address to (step_at st.lanes to.0 step).ended) (settles_none a n before more next given st.sessions each quiet)

    pub acts_none : ((q : Key) → IsQuiet a n before more given q) → Acts (quietly st)
    acts_none quiet = settles_none a n before more next given st.sessions each quiet

  -- A frame

  module _ (wire : Wire) (from to : Address) (goes : goes_to wire to.0 ≡ true) (meant : (to.0 == a.0 || to.0 == global_address) ≡ true) (room : Bool) (now : ℕ) where
    abbrev more : List (Placed Seen)
    more = (n + 1, Some (wire, from, to)) ∷ []

    is_it : (y : Placed Seen) → Contains more y → (n + 1, Some (wire, from, to)) ≡ y
    is_it y c = ⊎_elim (λ none. absurd (in_none y none)) (λ e. e) (Contains-push_cases [] (n + 1, Some (wire, from, to)) y c)

    next : AreNext n before more
    next = record { before = within; now = λ x c. sym (ap (λ (y : Placed Seen). y.0) (is_it x c)) }

    only : (y : Placed Seen) → Contains more y → wire_of y.1 ≡ Some wire
    only y c = sym (ap (λ (z : Placed Seen). wire_of z.1) (is_it y c))

    here : Contains more (n + 1, Some (wire, from, to))
    here = Contains-push [] (n + 1, Some (wire, from, to))

    abbrev Quiet : Key → Type 0
    Quiet q = IsQuiet a n before more given q

    abbrev Does : StationStep → Type 0
    Does step = ActsBy more step

    -- to one node: to this one
    to_own : is_one to.0 ≡ true → to.0 ≡ a.0
    to_own one = by (to.0 == a.0) refl meant
      where
        by : (b : Bool) → (to.0 == a.0) ≡ b → (b || to.0 == global_address) ≡ true → to.0 ≡ a.0
        by true e m = eqb-true to.0 a.0 e
        by false e m = let g : to.0 ≡ 255 = eqb-true to.0 255 m in let l : to.0 < 254 = ltb-true to.0 254 one in absurd (omega (arith, g, l))

    not_all : is_one to.0 ≡ true → (to.0 == global_address) ≡ false
    not_all one = ne_eqb to.0 255 (λ e. let l : to.0 < 254 = ltb-true to.0 254 one in omega (arith, e, l))

    no_miss : (place : ℕ) → Contains more (place, None) → ⊥
    no_miss place c = absurd (let e : None ≡ Some (wire, from, to) = sym (ap (λ (y : Placed Seen). y.1) (is_it _ c)) in none-some (wire, from, to) e)

    -- a frame that opens nothing
    no_opening : opened_by wire ≡ None → (t : Transfer) → HasNoOpening more t
    no_opening opens_none t = (λ place w c e. absurd (let f : None ≡ Some t.kind = sym opens_none ∙ ap opened_by (sym (same_Some _ _ (only _ c))) ∙ e in none-some t.kind f), no_miss)

    -- a frame that is no DPO
    quiet_frame : opened_by wire ≡ None → ((packets offset field : ℕ) → wire ≡ Cm (EtpDpo packets offset field) → ⊥) → (q : Key) → Quiet q
    quiet_frame opens_none none q t k f = (λ etp place offset o. none o.0 offset o.1 (sym (same_Some _ _ (only _ o.2))), no_opening opens_none t)

    -- an opening is for the session of its source and kind
    quiet_opening : (kind : SessionKind) → opened_by wire ≡ Some kind → ((packets offset field : ℕ) → wire ≡ Cm (EtpDpo packets offset field) → ⊥) → (q : Key) → (q ≡ key_of from kind → ⊥) → Quiet q
    quiet_opening kind opens none q apart t k f = (λ etp place offset o. none o.0 offset o.1 (sym (same_Some _ _ (only _ o.2))), others)
      where
        others : HasNoOpening more t
        others = (
          λ place w c e.
              let g : (wire, from, to) ≡ (w, t.from, t.to) = same_Some (wire, from, to) (w, t.from, t.to) (ap (λ (y : Placed Seen). y.1) (is_it _ c)) in
              let source : q.source ≡ from = sym f ∙ sym (ap (λ (y : Heard). y.1) g) in
              let same_kind : q.kind ≡ kind = sym k ∙ same_Some t.kind kind (sym e ∙ sym (ap (λ (y : Heard). opened_by y.0) g) ∙ opens) in
              apart (λ i. record { source = source i; kind = same_kind i }),
          no_miss,
        )

    -- a DPO is for the session of ETP of its source
    quiet_else : opened_by wire ≡ None → (kind : SessionKind) → ((packets offset field : ℕ) → wire ≡ Cm (EtpDpo packets offset field) → kind ≡ Etp) → (q : Key) → (q ≡ key_of from kind → ⊥) → Quiet q
    quiet_else opens_none kind is_etp q apart t k f = (
      λ etp place offset o.
          let e : (wire, from, to) ≡ (Cm (EtpDpo o.0 offset o.1), t.from, t.to) = same_Some (wire, from, to) (Cm (EtpDpo o.0 offset o.1), t.from, t.to) (ap (λ (y : Placed Seen). y.1) (is_it _ o.2)) in
          let source : q.source ≡ from = sym f ∙ sym (ap (λ (y : Heard). y.1) e) in
          let same_kind : q.kind ≡ kind = sym k ∙ etp ∙ sym (is_etp o.0 offset o.1 (ap (λ (y : Heard). y.0) e)) in
          apart (λ i. record { source = source i; kind = same_kind i }),
      no_opening opens_none t,
    )

    acts_in_session : opened_by wire ≡ None → (kind : SessionKind) → ((packets offset field : ℕ) → wire ≡ Cm (EtpDpo packets offset field) → kind ≡ Etp) → GoesTo a kind to → IsSeven wire
        → Does (by_session st (received st.ports (key_of from kind) wire room now st.sessions))
    acts_in_session opens_none kind is_etp own seven = settles_received a n before more next given st.sessions each (key_of from kind) (quiet_else opens_none kind is_etp) (λ t _ _. no_opening opens_none t) st.ports wire to here only own seven room now

    -- An opening

    module _ (none : (packets offset field : ℕ) → wire ≡ Cm (EtpDpo packets offset field) → ⊥) where
      begins_apart : (g : Placed Message) → Contains (given ++ []) g → g.0 < n + 1
      begins_apart g c = ⊎_elim (λ (old : Contains given g). let l : g.0 ≤ n = ended g old in omega (arith, l)) (λ new. absurd (in_none g new)) (Contains-append_cases given [] g c)

      opened_here : Contains (before ++ more) (n + 1, Some (wire, from, to))
      opened_here = Contains-append_right before more _ here

      by_refusal : (o : Option AbortReason) (x : Reception) (y : AbortReason → Reception) → (o ≡ None → Does (by_session st x)) → ((reason : AbortReason) → Does (by_session st (y reason))) → Does (by_session st (elim o as (λ (_ : Option AbortReason). Reception) [ None ↦ x | Some reason ↦ y reason ]))
      by_refusal None x y h k = h refl
      by_refusal (Some reason) x y h k = k reason

      acts_rts : (k : Kind) → opened_by wire ≡ Some (session_for k) → (is_size : Bool) (size most pgn : ℕ) → (is_size ≡ true → Announces (session_for k) size (clean pgn) wire × (kind_for to size ≡ session_for k)) → to.0 ≡ a.0 → GoesTo a (session_for k) to
          → Does (by_session st (rts_received st.address st.ports k is_size from size most pgn room now st.sessions))
      acts_rts k opens is_size size most pgn announces own goes_there =
          let key : Key = key_of from (session_for k) in
          let set : List ℕ = set_for st.ports pgn size in
          let flow : Flow = flow_at st.ports set in
          let m : Unfinished = begun k (peer_of st.address from pgn) most (first_join k size flow) in
          let t : Transfer = record { kind = session_for k; from = from; to = to; pgn = clean pgn; size = size } in
          by_refusal (refusal is_size room set (others_than st.sessions key)) _ _
          (λ e.
          let s : Announces (session_for k) size (clean pgn) wire × (kind_for to size ≡ session_for k) = announces (sized is_size room set (others_than st.sessions key) e) in
          settles_on a n before more next given st.sessions each key (quiet_opening (session_for k) opens none) set (incoming.Connection (asking m flow now)) (record {
            transfer = t;
            opening = n + 1;
            packets = [];
            kind = refl;
            from = refl;
            to = goes_there;
            size = s.1;
            begun = omega arith;
            latest = (λ place w c _. later.within n before more next (place, Some (w, from, to)) c, λ place c. later.within n before more next (place, None) c);
            state = asks_for (before ++ more) t (n + 1) (n + 1 + 1) [] m flow now
                (record { kind = refl; from = refl; to = address ∙ sym own; pgn = refl })
                (course_begins (before ++ more) t (n + 1) (first_join k size flow) (wire, opened_here, s.0) refl refl refl)
                (λ _. refl);
            apart = λ g c _ _. begins_apart g c;
          }))
          (λ reason. settles_ended a n before more next given st.sessions each key (quiet_opening (session_for k) opens none))

      acts_bam : (size packets pgn : ℕ) → wire ≡ Cm (Bam size packets pgn) → to.0 ≡ global_address → Does (by_session st (bam_received st.ports from size packets pgn room now st.sessions))
      acts_bam size packets pgn is all =
          let key : Key = key_of from Broadcast in
          let set : List ℕ = set_for st.ports pgn size in
          let t : Transfer = record { kind = Broadcast; from = from; to = to; pgn = clean pgn; size = size } in
          by_refusal (refusal (is_tp_size size packets) room set (others_than st.sessions key)) _ _
          (λ e.
          let s = and_parts (is_size_of kind.Tp size) (packets == packet_count size) (sized (is_tp_size size packets) room set (others_than st.sessions key) e) in
          let count : packets ≡ packet_count size = eqb-true packets (packet_count size) s.1 in
          settles_on a n before more next given st.sessions each key (quiet_opening Broadcast (ap opened_by is) none) set (incoming.Broadcast (bam.announced from.0 pgn (whole_join size) now)) (record {
            transfer = t;
            opening = n + 1;
            packets = [];
            kind = refl;
            from = refl;
            to = all;
            size = ap (λ b. cond b Broadcast (cond (is_size_of kind.Etp size) Etp Tp)) (eq-eqb to.0 global_address all);
            begun = omega arith;
            latest = (λ place w c _. later.within n before more next (place, Some (w, from, to)) c, λ place c. later.within n before more next (place, None) c);
            state = record {
              is = record { kind = refl; from = refl; to = sym all; pgn = refl };
              course = course_begins (before ++ more) t (n + 1) (whole_join size) (wire, opened_here, (pgn, is ∙ ap (λ p. Cm (Bam size p pgn)) count, refl)) refl refl refl;
            };
            apart = λ g c _ _. begins_apart g c;
          }))
          (λ reason. settles_ended a n before more next given st.sessions each key (quiet_opening Broadcast (ap opened_by is) none))

  -- Each frame, in the table's order

  module _ (from to : Address) (meant : (to.0 == a.0 || to.0 == global_address) ≡ true) (room : Bool) (now : ℕ) where
    module _ (frame : CmFrame) (goes : goes_to (Cm frame) to.0 ≡ true) (opens_none : opened_by (Cm frame) ≡ None) (none : (packets offset field : ℕ) → Cm frame ≡ Cm (EtpDpo packets offset field) → ⊥) where
      abbrev By : StationStep → Type 0
      By step = ActsBy (more (Cm frame) from to goes meant room now) step

      cm_lane : By (by_lane st from (λ lane. heard lane (Cm frame) now))
      cm_lane = acts_lane (more (Cm frame) from to goes meant room now) (next (Cm frame) from to goes meant room now) (quiet_frame (Cm frame) from to goes meant room now opens_none none) from (λ lane. heard lane (Cm frame) now)

      cm_abort : (k : SessionKind) (pgn : ℕ) → By (abort_taken st from k pgn (Cm frame) now)
      cm_abort k pgn = acts_quietly (more (Cm frame) from to goes meant room now) (next (Cm frame) from to goes meant room now) (abort_taken st from k pgn (Cm frame) now)
          (outcome_gives a (n + 1) st.address from (step_at st.lanes from.0 (λ lane. heard lane (Cm frame) now)).ended)
          (settles_aborted a n before (more (Cm frame) from to goes meant room now) (next (Cm frame) from to goes meant room now) given st.sessions each (quiet_frame (Cm frame) from to goes meant room now opens_none none) (key_of from k) pgn)

    cm_acts : (frame : CmFrame) (goes : goes_to (Cm frame) to.0 ≡ true) → ActsBy (more (Cm frame) from to goes meant room now) (cm_taken st frame from room now)
    cm_acts (Rts size packets most pgn) goes = acts_rts (Cm (Rts size packets most pgn)) from to goes meant room now (λ x y z e. cc) kind.Tp refl (is_tp_size size packets) size (most_of kind.Tp most) pgn
        (λ e.
        let s = and_parts (is_size_of kind.Tp size) (packets == packet_count size) e in
        let count : packets ≡ packet_count size = eqb-true packets (packet_count size) s.1 in (
          (most, pgn, ap (λ p. Cm (Rts size p most pgn)) count, refl),
          ap (λ b. cond b Broadcast (cond (is_size_of kind.Etp size) Etp Tp)) (not_all (Cm (Rts size packets most pgn)) from to goes meant room now goes) ∙ ap (λ b. cond b Etp Tp) (tp_size size s.0),
        ))
        (to_own (Cm (Rts size packets most pgn)) from to goes meant room now goes) (to_own (Cm (Rts size packets most pgn)) from to goes meant room now goes)
    cm_acts (Cts granted number pgn) goes = cm_lane (Cts granted number pgn) goes refl (λ x y z e. cc)
    cm_acts (EndOfMsgAck size packets pgn) goes = cm_lane (EndOfMsgAck size packets pgn) goes refl (λ x y z e. cc)
    cm_acts (Bam size packets pgn) goes = acts_bam (Cm (Bam size packets pgn)) from to goes meant room now (λ x y z e. cc) size packets pgn refl (eqb-true to.0 global_address goes)
    cm_acts (Abort reason pgn) goes = cm_abort (Abort reason pgn) goes refl (λ x y z e. cc) Tp pgn
    cm_acts (EtpRts size pgn) goes = acts_rts (Cm (EtpRts size pgn)) from to goes meant room now (λ x y z e. cc) kind.Etp refl (is_etp_size size) size ETP_MAX_WINDOW pgn
        (λ e. (
          (pgn, refl, refl),
          ap (λ b. cond b Broadcast (cond (is_size_of kind.Etp size) Etp Tp)) (not_all (Cm (EtpRts size pgn)) from to goes meant room now goes) ∙ ap (λ b. cond b Etp Tp) e,
        ))
        (to_own (Cm (EtpRts size pgn)) from to goes meant room now goes) (to_own (Cm (EtpRts size pgn)) from to goes meant room now goes)
    cm_acts (EtpCts granted number pgn) goes = cm_lane (EtpCts granted number pgn) goes refl (λ x y z e. cc)
    cm_acts (EtpDpo packets offset pgn) goes = acts_in_session (Cm (EtpDpo packets offset pgn)) from to goes meant room now refl Etp (λ x y z e. refl) (to_own (Cm (EtpDpo packets offset pgn)) from to goes meant room now goes) tt
    cm_acts (EtpEoma size pgn) goes = cm_lane (EtpEoma size pgn) goes refl (λ x y z e. cc)
    cm_acts (EtpAbort reason pgn) goes = cm_abort (EtpAbort reason pgn) goes refl (λ x y z e. cc) Etp pgn

    own_or_all : GoesTo a (packet_kind kind.Tp to) to
    own_or_all = by (to.0 == global_address) refl meant
      where
        by : (b : Bool) → (to.0 == global_address) ≡ b → (to.0 == a.0 || b) ≡ true → GoesTo a (cond b Broadcast Tp) to
        by true e m = eqb-true to.0 global_address e
        by false e m = own (to.0 == a.0) refl m
          where
            own : (c : Bool) → (to.0 == a.0) ≡ c → (c || false) ≡ true → to.0 ≡ a.0
            own true f k = eqb-true to.0 a.0 f
            own false f k = absurd (cc)

    wire_acts : (wire : Wire) (goes : goes_to wire to.0 ≡ true) → IsSeven wire → ActsBy (more wire from to goes meant room now) (wire_taken st wire from to room now)
    wire_acts (Cm frame) goes seven = cm_acts frame goes
    wire_acts (Packet kind.Tp sequence bytes) goes seven = acts_in_session (Packet kind.Tp sequence bytes) from to goes meant room now refl (packet_kind kind.Tp to) (λ x y z e. cc) own_or_all seven
    wire_acts (Packet kind.Etp sequence bytes) goes seven = acts_in_session (Packet kind.Etp sequence bytes) from to goes meant room now refl Etp (λ x y z e. cc) (to_own (Packet kind.Etp sequence bytes) from to goes meant room now goes) seven
    wire_acts (Request pgn) goes seven =
        let h : ActsBy (more (Request pgn) from to goes meant room now) (quietly st) = acts_none (more (Request pgn) from to goes meant room now) (next (Request pgn) from to goes meant room now) (quiet_frame (Request pgn) from to goes meant room now refl (λ x y z e. cc)) in
        either (λ (x : Station). ActsBy (more (Request pgn) from to goes meant room now) (quietly x)) (to.0 == st.address.0) _ _ h h
    wire_acts (Ack control address pgn) goes seven =
        let h : ActsBy (more (Ack control address pgn) from to goes meant room now) (quietly st) = acts_none (more (Ack control address pgn) from to goes meant room now) (next (Ack control address pgn) from to goes meant room now) (quiet_frame (Ack control address pgn) from to goes meant room now refl (λ x y z e. cc)) in
        either (λ (x : Station). ActsBy (more (Ack control address pgn) from to goes meant room now) (quietly x)) (address.0 == st.address.0 || to.0 == st.address.0) _ _ h h

  -- A frame that is taken

  abbrev pub heard_now : Option Heard → List (Placed Seen)
  heard_now o = map (λ (x : Seen). (n + 1, x)) (map Some (option_to_list o))

  pub next_none : AreNext n before []
  next_none = record { before = within; now = λ x c. absurd (in_none x c) }

  pub quiet_none : (q : Key) → IsQuiet a n before [] given q
  quiet_none q t k f = (λ e place offset o. absurd (in_none _ o.2), ((λ place w c e. absurd (in_none _ c)), (λ place c. absurd (in_none _ c))))

  meaning_acts : (o : Option Heard) → ((m : Heard) → o ≡ Some m → (goes_to m.0 m.2.0 ≡ true) × ((m.2.0 == a.0 || m.2.0 == global_address) ≡ true) × IsSeven m.0) → (room : Bool) (now : ℕ) → ActsBy (heard_now o) (meaning_taken st o room now)
  meaning_acts None h room now = acts_none [] next_none quiet_none
  meaning_acts (Some m) h room now = let it = h m refl in wire_acts m.1 m.2 it.1 room now m.0 it.0 it.2

  pub taken_acts : (f : CanFrame) (room : Bool) (now : ℕ) → ActsBy (heard_now (heard_by a f)) (taken st f room now)
  taken_acts f room now =
      let same : looks_at st f ≡ looks_at (new_station a) f = ap (λ (x : ℕ). not ((meaning_of f.id).from.0 == x) && ((meaning_of f.id).to.0 == x || (meaning_of f.id).to.0 == global_address)) address in
      subst (λ b. ActsBy (heard_now (heard_by a f)) (cond b (meaning_taken st (reading f) room now) (quietly st))) (sym same) (by (looks_at (new_station a) f) refl)
    where
      facts : looks_at (new_station a) f ≡ true → (m : Heard) → reading f ≡ Some m → (goes_to m.0 m.2.0 ≡ true) × ((m.2.0 == a.0 || m.2.0 == global_address) ≡ true) × IsSeven m.0
      facts looks m e = (
        reading_goes f m e,
        subst (λ (x : Address). (x.0 == a.0 || x.0 == global_address) ≡ true) (sym (reading_to f m e)) (and_parts (not ((meaning_of f.id).from.0 == a.0)) ((meaning_of f.id).to.0 == a.0 || (meaning_of f.id).to.0 == global_address) looks).1,
        subst MeansSeven e (reading_seven f),
      )

      by : (b : Bool) → looks_at (new_station a) f ≡ b → ActsBy (heard_now (cond b (reading f) None)) (cond b (meaning_taken st (reading f) room now) (quietly st))
      by true e = meaning_acts (reading f) (facts e) room now
      by false e = acts_none [] next_none quiet_none

  -- Timers, missed frames and ports

  pub lane_acts : (to : Address) (step : Lane → Lane × LaneStep) → ActsBy [] (by_lane st to step)
  lane_acts to step = acts_lane [] next_none quiet_none to step

  lane_fired_acts : (now : ℕ) (o : Option ℕ) → ActsBy [] (lane_fired st now o)
  lane_fired_acts now None = acts_none [] next_none quiet_none
  lane_fired_acts now (Some to) = lane_acts (record { 0 = to }) (λ l. lane_fires l now)

  pub fired_acts : (now : ℕ) → ActsBy [] (fired st now)
  fired_acts now = by (first_due st.sessions now)
    where
      by : (o : Option Key) → ActsBy [] (elim o as (λ (_ : Option Key). StationStep) [ None ↦ lane_fired st now (due_lane st.lanes now) | Some key ↦ by_session st (fired_at st.ports key now st.sessions) ])
      by None = lane_fired_acts now (due_lane st.lanes now)
      by (Some key) = settles_fired a n before [] next_none given st.sessions each key (λ q _. quiet_none q) (λ t _ _. ((λ place w c e. absurd (in_none _ c)), (λ place c. absurd (in_none _ c)))) st.ports now

  -- frames were missed
  abbrev pub missed_now : List (Placed Seen)
  missed_now = (n + 1, None) ∷ []

  pub next_missed : AreNext n before missed_now
  next_missed = record { before = within; now = λ x c. ⊎_elim (λ none. absurd (in_none x none)) (λ e. sym (ap (λ (y : Placed Seen). y.0) e)) (Contains-push_cases [] (n + 1, None) x c) }

  pub overrun_acts : ActsBy missed_now (overrun st)
  overrun_acts = acts_quietly missed_now next_missed (overrun st) (outcomes_give a (n + 1) (overrun_events st.address st.lanes 256) (overrun_outcomes st.address st.lanes 256))
      (record { gives = inl refl; leaves = of_each_none (λ q v. IsFromOpening a (before ++ missed_now) (given ++ []) (n + 1) q v.1) })

  -- its sessions are as they were, or fewer
  pub stays_as : AreFromOpenings a (before ++ []) (given ++ []) (n + 1) st.sessions
  stays_as = (settles_none a n before [] next_none given st.sessions each quiet_none).leaves

  pub closed_acts : (number : ℕ) → AreFromOpenings a (before ++ []) (given ++ []) (n + 1) (closed st number).sessions
  unfolding closed_below
  closed_acts number = below 254
    where
      P : Key → Incoming → Type 0
      P q s = IsFromOpening a (before ++ []) (given ++ []) (n + 1) q s

      begin : Station
      begin = record st { ports = without_port st.ports number }

      below : (k : ℕ) → OfEach (λ q v. P q v.1) (closed_below begin number k).sessions
      below zero = stays_as
      below (suc k) =
          let source : Address = record { 0 = k } in
          let one = unbound_keeps P (closed_below begin number k).sessions (below k) (key_of source Broadcast) number in
          let two = unbound_keeps P _ one (key_of source Tp) number in
          unbound_keeps P _ two (key_of source Etp) number
