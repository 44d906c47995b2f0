-- The receiver takes a frame of the broadcasts of s, and its session and what it gives are what the stream makes of that frame.
use Rattle.std.proofs.Common.{◌≡◌, inl, ℕ, ◌==◌, Bool, true, false, cond, not, ◌||◌, List, [], ◌∷◌, ◌++◌, Option, Some, None, refl, sym, ap, ◌∙◌, subst, eqb-true, ne_eqb, eq-eqb, append-nil}
use Rattle.std.specs.Option.{option_map}
use Rattle.std.proofs.lemmas.Bool.{and_parts, and_from}
use Rattle.std.proofs.lemmas.Option.{none-some, same_Some}
use Rattle.bus_frame.specs.Frames.{CanFrame}
use Rattle.pgn_ids.specs.Pgn.{clean}
use Rattle.pgn_ids.specs.Identifier.{meaning_of}
use Rattle.pgn_ids.specs.declared.address.Address.{Address}
use Rattle.tp_wire.specs.Reading.{reading}
use Rattle.tp_wire.specs.declared.wire.Kind.TheVariants.{Tp, Etp}
use Rattle.tp_wire.specs.declared.wire.CmFrame.TheVariants.{Rts, Cts, EndOfMsgAck, Bam, Abort, EtpRts, EtpCts, EtpDpo, EtpEoma, EtpAbort}
use Rattle.tp_wire.specs.declared.wire.Wire.{Wire}
use Rattle.tp_wire.specs.declared.wire.Wire.TheVariants.{Cm, Packet, Request, Ack}
use Rattle.bam_session.specs.States as bam
use Rattle.bam_session.specs.Receiving as bam-steps
use Rattle.responder.specs.Readers.{unfinished_of}
use Rattle.session_table.specs.declared.key.Key.{Key}
use Rattle.session_table.specs.declared.key.SessionKind.TheVariants as session
use Rattle.session_table.specs.declared.incoming.Incoming.{Incoming}
use Rattle.session_table.specs.declared.incoming.Incoming.TheVariants as incoming
use Rattle.session_table.specs.Sessions.{state_at}
use Rattle.station_sessions.specs.Receiving.{broadcast_settled, received_by}
use Rattle.station_core.specs.Station.{Station, StationStep, quietly, by_session}
use Rattle.station_sessions.specs.Opening.{refusal, is_tp_size, set_for, others_than, whole_join, bam_received}
use Rattle.station_core.specs.Taking.{in_session, looks_at, meaning_taken, wire_taken, taken}
use Rattle.segment_law.specs.Told as told
use Rattle.record_law.proofs.Maps.{session_at, state_put, state_dropped}
use Rattle.record_law.proofs.Tests.{on_test, by_option}
use Rattle.lane_law.specs.Frame.{Frame, Packet as Data}
use Rattle.lane_law.specs.Session.{Session}
use Rattle.broadcast_law.proofs.Carried.{all, of_lane, of_meaning, carried, is_to_all, Meaning, IsRead, reading_tells}
use Rattle.broadcast_law.proofs.Ports.{gives_to, told_to, told_once}
use Rattle.broadcast_law.proofs.Receive.{left_of, MayTell, Taken, ends, packet_heard, bam_opens, packet_shown, bam_shown, ShowsBam}
use Rattle.broadcast_law.proofs.Receptions.{key_all, no_broadcast}
use Rattle.broadcast_law.proofs.Stations.{IsOwn}
use Rattle.broadcast_law.proofs.View.{View, IsHeard, Stands, GoesOn}

-- a carried frame is a BAM or a packet, of s to all
pub record IsOfLane (s : Address) (from to : Address) : Type 0 where
  pub source : from ≡ s
  pub goal : to ≡ all

lane_test : (s from to : Address) (x w : Wire) → cond (is_to_all s from to) (Some x) None ≡ Some w → IsOfLane s from to × (x ≡ w)
lane_test s from to x w e = on_test (λ b. is_to_all s from to ≡ b → cond b (Some x) None ≡ Some w → IsOfLane s from to × (x ≡ w)) (is_to_all s from to)
    (λ _ t q.
    let p : ((from.0 == s.0) ≡ true) × ((to.0 == 255) ≡ true) = and_parts (from.0 == s.0) (to.0 == 255) t in
    let f : from.0 ≡ s.0 = eqb-true from.0 s.0 p.0 in
    let g : to.0 ≡ 255 = eqb-true to.0 255 p.1 in
    (record { source = λ i. record { 0 = f i }; goal = λ i. record { 0 = g i } }, same_Some x w q))
    (λ _ t q. absurd (none-some w q)) refl e

module _ (s listener : Address) (goes : GoesOn) (a : Address) where
  abbrev key : Key
  key = key_all s

  -- the view once a station's step is made
  abbrev pub heard_view : View → StationStep → View
  heard_view v step = record v { session = session_at step.station.sessions key; given = v.given ++ told_to listener s step.events }

  -- where nothing is told
  shown_as : (v : View) (x y : Option Incoming) → y ≡ x → Stands s (record v { session = x }) → Stands s (record v { session = y; given = v.given ++ [] })
  shown_as v x y e h = subst (λ o. Stands s (record v { session = o; given = v.given ++ [] })) (sym e) (subst (λ g. Stands s (record v { session = x; given = g })) (sym (append-nil v.given)) h)

  abbrev bare : Option (List ℕ × Incoming) → Option Incoming
  bare o = option_map (λ (v : List ℕ × Incoming). v.1) o

  -- a BAM
  hears_bam : (v : View) (st : Station) (size packets pgn : ℕ) (room : Bool) (now : ℕ) → Taken s goes v (Cm (Bam size packets pgn)) → Stands s (heard_view v (by_session st (bam_received st.ports s size packets pgn room now st.sessions)))
  hears_bam v st size packets pgn room now t =
      let b : ShowsBam t.frame size pgn = bam_shown t.frame size packets pgn t.shows in
      by_option (λ r. Stands s (heard_view v (by_session st r))) (refusal (is_tp_size size packets) room (set_for st.ports pgn size) (others_than st.sessions key)) _ _
      (shown_as v (Some (incoming.Broadcast (bam.announced s.0 pgn (whole_join size) now))) _ (ap bare (state_put st.sessions key (set_for st.ports pgn size, incoming.Broadcast (bam.announced s.0 pgn (whole_join size) now))))
      (bam_opens s goes v t.stream b.number b.message size pgn now t.carries (t.again ∙ ap (λ (f : Frame). f ∷ []) b.frame) b.length_is b.pgn_is))
      (λ reason. shown_as v None _ (ap bare (state_dropped st.sessions key)) (ends s goes v t.stream t.carries))

  -- what a packet leaves
  concludes : (v : View) (st : Station) (set : List ℕ) (b : bam.Incoming) (room : Bool) (r : bam-steps.Received) → ((told : List told.Message) → MayTell b.pgn r told → Stands s (record v { session = left_of r; given = v.given ++ told }))
      → Stands s (heard_view v (by_session st (broadcast_settled st.ports.station key set room st.sessions b r)))
  concludes v st set b room (bam-steps.Awaits t) h = subst (λ o. Stands s (record v { session = o; given = v.given ++ [] })) (sym (ap bare (state_put st.sessions key (set, incoming.Broadcast t)))) (h [] refl)
  concludes v st set b room bam-steps.Drops h = subst (λ o. Stands s (record v { session = o; given = v.given ++ [] })) (sym (ap bare (state_dropped st.sessions key))) (h [] refl)
  concludes v st set b true (bam-steps.Completes bytes) h =
      let from : Address = record { 0 = b.from } in
      subst (λ o. Stands s (record v { session = o; given = v.given ++ told_to listener s (gives_to st.ports.station set from all (clean b.pgn) bytes) })) (sym (ap bare (state_dropped st.sessions key)))
      (h (told_to listener s (gives_to st.ports.station set from all (clean b.pgn) bytes)) (told_once st.ports.station from all (clean b.pgn) bytes listener s set))
  concludes v st set b false (bam-steps.Completes bytes) h = subst (λ o. Stands s (record v { session = o; given = v.given ++ [] })) (sym (ap bare (state_dropped st.sessions key))) (h [] (inl refl))

  -- a packet
  hears_packet : (v : View) (st : Station) (k : ℕ) (bytes : List ℕ) (room : Bool) (now : ℕ) → IsOwn a st → v.session ≡ session_at st.sessions key → Taken s goes v (Packet Tp k bytes) → Stands s (heard_view v (in_session st key (Packet Tp k bytes) room now))
  hears_packet v st k bytes room now h q t = by (state_at st.sessions key) refl
    where
      frame_is : t.frame ≡ Data k bytes
      frame_is = packet_shown t.frame k bytes t.shows

      heard : IsHeard s.0 v.session t.stream.session
      heard = t.session k bytes frame_is

      with_same : (set : List ℕ) (b : bam.Incoming) → state_at st.sessions key ≡ Some (set, incoming.Broadcast b) → (o : Option Session) → t.stream.session ≡ o → IsHeard s.0 (Some (incoming.Broadcast b)) o → Stands s (heard_view v (by_session st (broadcast_settled st.ports.station key set room st.sessions b (bam-steps.received b k bytes now))))
      with_same set b e None is same = absurd same
      with_same set b e (Some x) is same = concludes v st set b room (bam-steps.received b k bytes now)
          (λ ts m. packet_heard s goes v t.stream b x k now bytes ts t.carries is (t.again ∙ ap (λ (f : Frame). f ∷ []) frame_is) same m)

      by : (o : Option (List ℕ × Incoming)) → state_at st.sessions key ≡ o → Stands s (heard_view v (by_session st (received_by o st.ports key (Packet Tp k bytes) room now st.sessions)))
      by None e = shown_as v v.session (session_at st.sessions key) (sym q) (t.stream, record { carries = t.carries; session = heard })
      by (Some (set, incoming.Broadcast b)) e =
          let is : v.session ≡ Some (incoming.Broadcast b) = q ∙ ap bare e in
          with_same set b e t.stream.session refl (subst (λ o. IsHeard s.0 o t.stream.session) is heard)
      by (Some (set, incoming.Connection u)) e = absurd (no_broadcast (unfinished_of u).kind (h.sessions key (set, incoming.Connection u) e).state.1)

  hears_wire : (v : View) (st : Station) (wire w : Wire) (from to : Address) (room : Bool) (now : ℕ) → IsOwn a st → v.session ≡ session_at st.sessions key → of_lane s wire from to ≡ Some w → Taken s goes v w → Stands s (heard_view v (wire_taken st wire from to room now))
  hears_wire v st (Cm (Bam size packets pgn)) w from to room now h q c t =
      let l : IsOfLane s from to × (Cm (Bam size packets pgn) ≡ w) = lane_test s from to (Cm (Bam size packets pgn)) w c in
      subst (λ x. Stands s (heard_view v (by_session st (bam_received st.ports x size packets pgn room now st.sessions)))) (sym l.0.source) (hears_bam v st size packets pgn room now (subst (Taken s goes v) (sym l.1) t))
  hears_wire v st (Packet Tp k bytes) w from to room now h q c t =
      let l : IsOfLane s from to × (Packet Tp k bytes ≡ w) = lane_test s from to (Packet Tp k bytes) w c in
      subst (λ x. Stands s (heard_view v (wire_taken st (Packet Tp k bytes) x to room now))) (sym l.0.source)
      (subst (λ x. Stands s (heard_view v (wire_taken st (Packet Tp k bytes) s x room now))) (sym l.0.goal) (hears_packet v st k bytes room now h q (subst (Taken s goes v) (sym l.1) t)))
  hears_wire v st (Cm (Rts size packets most pgn)) w from to room now h q c t = absurd (none-some w c)
  hears_wire v st (Cm (Cts granted next pgn)) w from to room now h q c t = absurd (none-some w c)
  hears_wire v st (Cm (EndOfMsgAck size packets pgn)) w from to room now h q c t = absurd (none-some w c)
  hears_wire v st (Cm (Abort reason pgn)) w from to room now h q c t = absurd (none-some w c)
  hears_wire v st (Cm (EtpRts size pgn)) w from to room now h q c t = absurd (none-some w c)
  hears_wire v st (Cm (EtpCts granted next pgn)) w from to room now h q c t = absurd (none-some w c)
  hears_wire v st (Cm (EtpDpo packets offset pgn)) w from to room now h q c t = absurd (none-some w c)
  hears_wire v st (Cm (EtpEoma size pgn)) w from to room now h q c t = absurd (none-some w c)
  hears_wire v st (Cm (EtpAbort reason pgn)) w from to room now h q c t = absurd (none-some w c)
  hears_wire v st (Packet Etp k bytes) w from to room now h q c t = absurd (none-some w c)
  hears_wire v st (Request pgn) w from to room now h q c t = absurd (none-some w c)
  hears_wire v st (Ack control address pgn) w from to room now h q c t = absurd (none-some w c)

  of_lane_is : (wire w : Wire) (from to : Address) → of_lane s wire from to ≡ Some w → IsOfLane s from to
  of_lane_is (Cm (Bam size packets pgn)) w from to c = (lane_test s from to (Cm (Bam size packets pgn)) w c).0
  of_lane_is (Packet Tp k bytes) w from to c = (lane_test s from to (Packet Tp k bytes) w c).0
  of_lane_is (Cm (Rts size packets most pgn)) w from to c = absurd (none-some w c)
  of_lane_is (Cm (Cts granted next pgn)) w from to c = absurd (none-some w c)
  of_lane_is (Cm (EndOfMsgAck size packets pgn)) w from to c = absurd (none-some w c)
  of_lane_is (Cm (Abort reason pgn)) w from to c = absurd (none-some w c)
  of_lane_is (Cm (EtpRts size pgn)) w from to c = absurd (none-some w c)
  of_lane_is (Cm (EtpCts granted next pgn)) w from to c = absurd (none-some w c)
  of_lane_is (Cm (EtpDpo packets offset pgn)) w from to c = absurd (none-some w c)
  of_lane_is (Cm (EtpEoma size pgn)) w from to c = absurd (none-some w c)
  of_lane_is (Cm (EtpAbort reason pgn)) w from to c = absurd (none-some w c)
  of_lane_is (Packet Etp k bytes) w from to c = absurd (none-some w c)
  of_lane_is (Request pgn) w from to c = absurd (none-some w c)
  of_lane_is (Ack control address pgn) w from to c = absurd (none-some w c)

  pub hears : (v : View) (st : Station) (f : CanFrame) (w : Wire) (room : Bool) (now : ℕ) → IsOwn a st → (s.0 ≡ a.0 → ⊥) → v.session ≡ session_at st.sessions key → carried s f ≡ Some w → Taken s goes v w → Stands s (heard_view v (taken st f room now))
  hears v st f w room now h n q c t = by (reading f) refl c
    where
      by : (o : Option Meaning) → reading f ≡ o → of_meaning s o ≡ Some w → Stands s (heard_view v (taken st f room now))
      by None e d = absurd (none-some w d)
      by (Some m) e d =
          let r : IsRead f m = reading_tells f m e in
          let l : IsOfLane s m.1 m.2 = of_lane_is m.0 w m.1 m.2 d in
          let from : (meaning_of f.id).from.0 ≡ s.0 = ap (λ (x : Address). x.0) (sym r.source ∙ l.source) in
          let to : (meaning_of f.id).to.0 ≡ 255 = ap (λ (x : Address). x.0) (sym r.goal ∙ l.goal) in
          let other : ((meaning_of f.id).from.0 == st.address.0) ≡ false = ne_eqb (meaning_of f.id).from.0 st.address.0 (λ x. n (sym from ∙ x ∙ ap (λ (y : Address). y.0) h.address)) in
          let one : not ((meaning_of f.id).from.0 == st.address.0) ≡ true = ap not other in
          let any : ((meaning_of f.id).to.0 == st.address.0 || (meaning_of f.id).to.0 == 255) ≡ true = or_true ((meaning_of f.id).to.0 == st.address.0) ((meaning_of f.id).to.0 == 255) (eq-eqb (meaning_of f.id).to.0 255 to) in
          let looks : looks_at st f ≡ true = and_from (not ((meaning_of f.id).from.0 == st.address.0)) ((meaning_of f.id).to.0 == st.address.0 || (meaning_of f.id).to.0 == 255) one any in
          let is : taken st f room now ≡ wire_taken st m.0 m.1 m.2 room now = λ i. cond {A = StationStep} (looks i) (meaning_taken st (e i) room now) (quietly st) in
          subst (λ x. Stands s (heard_view v x)) (sym is) (hears_wire v st m.0 w m.1 m.2 room now h q d t)
        where
          or_true : (x y : Bool) → y ≡ true → (x || y) ≡ true
          or_true true y z = refl
          or_true false y z = z
