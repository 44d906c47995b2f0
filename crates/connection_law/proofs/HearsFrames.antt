-- The destination's station takes any frame from the sender to it.
use Rattle.std.proofs.Common.{◌≡◌, ℕ, ◌<◌, ◌^◌, ◌==◌, Bool, true, false, cond, not, ◌||◌, List, [], ◌∷◌, ◌++◌, filter_map, length, Option, Some, None, refl, sym, ap, ◌∙◌, subst, arith, append-nil, eqb-true, eq-eqb, ne_eqb}
use Rattle.std.specs.List.{cons_option}
use Rattle.std.proofs.lemmas.Bool.{and_parts, and_from}
use Rattle.std.proofs.lemmas.Option.{none-some, same_Some}
use Rattle.bus_frame.specs.Frames.{CanFrame}
use Rattle.pgn_ids.specs.Identifier.{meaning_of}
use Rattle.pgn_ids.specs.declared.address.Address.{Address}
use Rattle.tp_wire.specs.Reading.{reading}
use Rattle.tp_wire.specs.Rows.{written}
use Rattle.tp_wire.specs.declared.wire.Kind.TheVariants.{Tp, Etp}
use Rattle.tp_wire.specs.declared.wire.CmFrame.{CmFrame}
use Rattle.tp_wire.specs.declared.wire.CmFrame.TheVariants.{Rts, Cts, EndOfMsgAck, Bam, Abort, EtpRts, EtpCts, EtpDpo, EtpEoma, EtpAbort}
use Rattle.tp_wire.specs.declared.wire.Wire.{Wire}
use Rattle.tp_wire.specs.declared.wire.Wire.TheVariants.{Cm, Packet, Request, Ack}
use Rattle.session_table.specs.declared.key.SessionKind.TheVariants as session
use Rattle.station_core.specs.Station.{Station, StationStep, quietly, queues}
use Rattle.station_sessions.specs.Opening.{key_of, opening_received}
use Rattle.record_law.proofs.Openings.{opening_untold}
use Rattle.station_core.specs.Taking.{answer, in_session, wire_taken, looks_at, meaning_taken, taken}
use Rattle.segment_law.specs.Told.{AtPort}
use Rattle.record_law.proofs.Segments.{same_address}
use Rattle.record_law.proofs.Tests.{on_test}
use Rattle.lane_law.specs.Choice.{IsChoice}
use Rattle.lane_law.specs.Frame.{Frame, Rts as Begins, Dpo, Packet as Data, Request as Asks, Place}
use Rattle.lane_law.specs.Lane as machine
use Rattle.broadcast_law.proofs.Carried.{Meaning, IsRead, reading_tells}
use Rattle.broadcast_law.proofs.Stations.{IsOwn}
use Rattle.connection_law.proofs.Frames.{BackAck, goes, returns, forward_of, of_forward, is_way}
use Rattle.connection_law.proofs.Rows.{returns_ack}
use Rattle.connection_law.proofs.Roles.{station_told, numbers_at, IsReceiverOf, receiver_view}
use Rattle.connection_law.proofs.View.{Laws, IsPair, View, IsShown, Still, Next, next_still}
use Rattle.connection_law.proofs.Sender.{small_d}
use Rattle.connection_law.proofs.Moves.{Taken}
use Rattle.connection_law.proofs.Receiver.{replies}
use Rattle.connection_law.proofs.HearsIn.{opens_by, answers_are}
use Rattle.connection_law.proofs.HearsRows.{packet, dpo, rts, etp_rts}

-- where a session is asked for nothing is told
abbrev pub IsQuiet : Wire → List AtPort → Type 0
IsQuiet (Cm (Rts size packets most pgn)) given = given ≡ []
IsQuiet (Cm (EtpRts size pgn)) given = given ≡ []
IsQuiet w given = Unit {0}

-- a frame of the way is of this pair
record IsWay (s d from to : Address) (x w : Wire) : Type 0 where
  source : from ≡ s
  goal : to ≡ d
  wire : x ≡ w

way_test : (s d from to : Address) (x w : Wire) → cond (is_way s d from to) (Some x) None ≡ Some w → IsWay s d from to x w
way_test s d from to x w e = on_test (λ b. is_way s d from to ≡ b → cond b (Some x) None ≡ Some w → IsWay s d from to x w) (is_way s d from to)
    (λ _ t q.
    let p : ((from.0 == s.0) ≡ true) × ((to.0 == d.0) ≡ true) = and_parts (from.0 == s.0) (to.0 == d.0) t in
    record { source = same_address from s (eqb-true from.0 s.0 p.0); goal = same_address to d (eqb-true to.0 d.0 p.1); wire = same_Some x w q })
    (λ _ t q. absurd (none-some w q)) refl e

token_small : (p : Place) (g : Frame) (pgn : ℕ) → IsShown p g (Request pgn) → pgn < 2 ^ 18
token_small p (Begins n m) pgn h = absurd h
token_small p (Dpo o) pgn h = absurd h
token_small p (Data k b) pgn h = absurd h
token_small p (Asks true) pgn h = omega (arith, h)
token_small p (Asks false) pgn h = omega (arith, h)

module _ (laws : Laws) (choose : machine.OnEachLane (λ lane. IsChoice lane.stream.given lane.stream.sent)) (s d : Address) (pair : IsPair s d)
    (v : View) (behind : List CanFrame) (l : machine.Lane) (st : Station) (h : IsOwn d st) (is : IsReceiverOf laws s d pair v behind st) where
  abbrev shown : StationStep → View
  shown step = receiver_view laws s d pair v behind step

  abbrev Goal : Wire → StationStep → Type 0
  Goal w step = Next s d (numbers_at (station_told d s d step.events)) l (record (shown step) { opened = opens_by st.ports w (length v.sent) v.opened }) × IsQuiet w (station_told d s d step.events)

  own : st.address.0 ≡ d.0
  own = ap (λ (x : Address). x.0) h.address

  -- a Request is answered
  request : (pgn : ℕ) → Taken laws s d l v (Request pgn) → Goal (Request pgn) (quietly (queues st (answer st s pgn ∷ [])))
  request pgn t = (next_still s d l _ (subst (Still s d l) (sym (λ i. (let w : View = record v { tp = sym is.tp i; etp = sym is.etp i; answers = answers i; given = append-nil v.given i } in w))) (replies laws choose s d v l pgn t)), tt)
    where
      answers : filter_map (returns s d) (behind ++ (st.queue ++ answer st s pgn ∷ [])) ≡ v.answers ++ BackAck pgn ∷ []
      answers = answers_are laws choose s d pair v behind l st h is (Some (answer st s pgn)) (BackAck pgn ∷ [])
          (ap (λ o. cons_option o []) ((λ i. returns s d (written (Ack 1 s pgn) (own i) 255)) ∙ returns_ack s d laws.reads pair.one_s pair.one_d 1 pgn (token_small t.lane.stream.reached t.frame pgn t.shows)))

  not_global : (d.0 == 255) ≡ false
  not_global = ne_eqb d.0 255 (λ e. (let l : d.0 < 254 = small_d laws s d pair in omega (arith, e, l)))

  -- an opening gives nothing
  opening_quiet : (frame : CmFrame) (room : Bool) (now : ℕ) → station_told d s d (opening_received st.address st.ports frame s room now st.sessions).events ≡ []
  opening_quiet frame room now = ap (station_told d s d) (opening_untold st.address st.ports s room now st.sessions frame)

  -- a wire of the pair
  of_pair : (x : Wire) (room : Bool) (now : ℕ) → of_forward s d x s d ≡ Some x → Taken laws s d l v x → Goal x (wire_taken st x s d room now)
  of_pair (Cm (Rts size packets most pgn)) room now c t = (rts laws choose s d pair v behind l st h is size packets most pgn room now t, opening_quiet (Rts size packets most pgn) room now)
  of_pair (Cm (EtpRts size pgn)) room now c t = (etp_rts laws choose s d pair v behind l st h is size pgn room now t, opening_quiet (EtpRts size pgn) room now)
  of_pair (Cm (EtpDpo packets offset pgn)) room now c t = (dpo laws choose s d pair v behind l st h is packets offset pgn room now t, tt)
  of_pair (Packet Tp k bytes) room now c t = subst (λ b. Goal (Packet Tp k bytes) (in_session st (key_of s (cond b session.Broadcast session.Tp)) (Packet Tp k bytes) room now)) (sym not_global) (packet laws choose s d pair v behind l st h is Tp k bytes room now t, tt)
  of_pair (Packet Etp k bytes) room now c t = (packet laws choose s d pair v behind l st h is Etp k bytes room now t, tt)
  of_pair (Request pgn) room now c t = subst (λ b. Goal (Request pgn) (quietly (cond b (queues st (answer st s pgn ∷ [])) st))) (sym (eq-eqb d.0 st.address.0 (sym own))) (request pgn t)
  of_pair (Cm (Cts count next pgn)) room now c t = absurd (none-some _ c)
  of_pair (Cm (EndOfMsgAck size packets pgn)) room now c t = absurd (none-some _ c)
  of_pair (Cm (Bam size packets pgn)) room now c t = absurd (none-some _ c)
  of_pair (Cm (Abort reason pgn)) room now c t = absurd (none-some _ c)
  of_pair (Cm (EtpCts count next pgn)) room now c t = absurd (none-some _ c)
  of_pair (Cm (EtpEoma size pgn)) room now c t = absurd (none-some _ c)
  of_pair (Cm (EtpAbort reason pgn)) room now c t = absurd (none-some _ c)
  of_pair (Ack control address pgn) room now c t = absurd (none-some _ c)

  way_of : (x w : Wire) (from to : Address) → of_forward s d x from to ≡ Some w → IsWay s d from to x w
  way_of (Cm (Rts size packets most pgn)) w from to c = way_test s d from to _ w c
  way_of (Cm (EtpRts size pgn)) w from to c = way_test s d from to _ w c
  way_of (Cm (EtpDpo packets offset pgn)) w from to c = way_test s d from to _ w c
  way_of (Packet kind k bytes) w from to c = way_test s d from to _ w c
  way_of (Request pgn) w from to c = way_test s d from to _ w c
  way_of (Cm (Cts count next pgn)) w from to c = absurd (none-some w c)
  way_of (Cm (EndOfMsgAck size packets pgn)) w from to c = absurd (none-some w c)
  way_of (Cm (Bam size packets pgn)) w from to c = absurd (none-some w c)
  way_of (Cm (Abort reason pgn)) w from to c = absurd (none-some w c)
  way_of (Cm (EtpCts count next pgn)) w from to c = absurd (none-some w c)
  way_of (Cm (EtpEoma size pgn)) w from to c = absurd (none-some w c)
  way_of (Cm (EtpAbort reason pgn)) w from to c = absurd (none-some w c)
  way_of (Ack control address pgn) w from to c = absurd (none-some w c)

  or_left : (x y : Bool) → x ≡ true → (x || y) ≡ true
  or_left true y e = refl
  or_left false y e = absurd (cc)

  pub hears_in : (f : CanFrame) (w : Wire) (room : Bool) (now : ℕ) → goes s d f ≡ Some w → Taken laws s d l v w → Goal w (taken st f room now)
  hears_in f w room now c t = by (reading f) refl c
    where
      by : (o : Option Meaning) → reading f ≡ o → forward_of s d o ≡ Some w → Goal w (taken st f room now)
      by None e q = absurd (none-some w q)
      by (Some m) e q =
          let r : IsRead f m = reading_tells f m e in
          let y : IsWay s d m.1 m.2 m.0 w = way_of m.0 w m.1 m.2 q in
          let from : (meaning_of f.id).from.0 ≡ s.0 = ap (λ (x : Address). x.0) (sym r.source ∙ y.source) in
          let to : (meaning_of f.id).to.0 ≡ d.0 = ap (λ (x : Address). x.0) (sym r.goal ∙ y.goal) in
          let other : ((meaning_of f.id).from.0 == st.address.0) ≡ false = ne_eqb (meaning_of f.id).from.0 st.address.0 (λ x. pair.apart (sym from ∙ x ∙ own)) in
          let any : ((meaning_of f.id).to.0 == st.address.0 || (meaning_of f.id).to.0 == 255) ≡ true = or_left ((meaning_of f.id).to.0 == st.address.0) ((meaning_of f.id).to.0 == 255) (eq-eqb (meaning_of f.id).to.0 st.address.0 (to ∙ sym own)) in
          let looks : looks_at st f ≡ true = and_from (not ((meaning_of f.id).from.0 == st.address.0)) ((meaning_of f.id).to.0 == st.address.0 || (meaning_of f.id).to.0 == 255) (ap not other) any in
          let taken_is : taken st f room now ≡ wire_taken st w s d room now = (λ i. cond {A = StationStep} (looks i) (meaning_taken st (e i) room now) (quietly st)) ∙ (λ i. wire_taken st (y.wire i) (y.source i) (y.goal i) room now) in
          let here : of_forward s d w s d ≡ Some w = (λ i. of_forward s d (sym y.wire i) (sym y.source i) (sym y.goal i)) ∙ q in
          subst (Goal w) (sym taken_is) (of_pair w room now here t)
