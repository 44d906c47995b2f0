-- What a call makes of the ports of the destination's station: one opens or closes, or all stay.
use Rattle.std.proofs.Common.{◌≡◌, ◌⊎◌, inl, inr, ℕ, zero, suc, ◌+◌, ◌==◌, Bool, true, cond, ◌&&◌, ◌||◌, List, [], ◌∷◌, Option, Some, None, refl, sym, ap, ◌∙◌, subst, eqb-true, eq-eqb}
use Rattle.std.proofs.lemmas.Bool.{and_parts, and_from}
use Rattle.bus_frame.specs.Frames.{CanFrame}
use Rattle.pgn_ids.specs.declared.address.Address.{Address}
use Rattle.tp_wire.specs.Reading.{reading}
use Rattle.tp_wire.specs.declared.wire.CmFrame.{CmFrame}
use Rattle.tp_wire.specs.declared.wire.CmFrame.TheVariants.{Rts, Cts, EndOfMsgAck, Bam, Abort, EtpRts, EtpCts, EtpDpo, EtpEoma, EtpAbort}
use Rattle.tp_wire.specs.declared.wire.Wire.{Wire}
use Rattle.tp_wire.specs.declared.wire.Wire.TheVariants.{Cm, Packet, Request, Ack}
use Rattle.port_table.specs.Ports.{Ports, next_id, with_port, without_port, with_paused}
use Rattle.port_table.specs.declared.port.PortId.{PortId}
use Rattle.session_table.specs.DueOrder.{first_due}
use Rattle.station_lanes.specs.LaneReaders.{due_lane}
use Rattle.message_events.specs.declared.event.Event.{Event}
use Rattle.station_core.specs.Closing.{closed_below, closed}
use Rattle.station_core.specs.Station.{Station, StationStep}
use Rattle.station_core.specs.Taking.{cm_taken, wire_taken, looks_at, meaning_taken, taken}
use Rattle.station_core.specs.Timers.{lane_fired, fired}
use Rattle.segment_law.specs.Headline.{port_of}
use Rattle.segment_law.specs.Told.{same_port, opened_by, closed_by}
use Rattle.segment_law.specs.declared.call.Call.{Call}
use Rattle.segment_law.specs.declared.call.Call.TheVariants.{Open, Close, Send, Pump, Transmit, Take, TakeAgain, Overrun, Tick, Fire, Cancel, Inject, Pause, Resume}
use Rattle.segment_law.specs.declared.refusal.Refusal.{Refusal}
use Rattle.segment_law.specs.declared.reply.Reply.{Reply}
use Rattle.segment_law.specs.declared.reply.Reply.TheVariants.{Opened, Sent, Refused, Done}
use Rattle.record_law.proofs.Tests.{on_test, either, by_option}
use Rattle.connection_law.proofs.View.{Has}
use Rattle.connection_law.proofs.Tables.{Stands, stands_on, stands_new, stands_less, stands_marked}

-- What a call tells of the ports of station d

abbrev pub opened_at : Address → Call → Reply → ℕ → List (ℕ × ℕ)
opened_at d call reply p = opened_by (port_of d p) call reply

abbrev closed_of : Address → Call → List ℕ
closed_of d (Close port) = cond (port.station.0 == d.0) (port.number ∷ []) []
closed_of d _ = []

abbrev pub closed_at : Address → Call → Reply → List ℕ
closed_at d call (Done events) = closed_of d call
closed_at d call (Opened port) = []
closed_at d call (Sent number) = []
closed_at d call (Refused cause) = []

pub refused_none : (d : Address) (call : Call) (cause : Refusal) (p : ℕ) → opened_at d call (Refused cause) p ≡ []
refused_none d (Open station pgn max_len) cause p = refl
refused_none d (Close port) cause p = refl
refused_none d (Send from to pgn bytes) cause p = refl
refused_none d (Pump station to) cause p = refl
refused_none d (Transmit station) cause p = refl
refused_none d (Take station room) cause p = refl
refused_none d (TakeAgain station room) cause p = refl
refused_none d (Overrun station n) cause p = refl
refused_none d (Tick n) cause p = refl
refused_none d (Fire station) cause p = refl
refused_none d (Cancel from to number) cause p = refl
refused_none d (Inject frame) cause p = refl
refused_none d (Pause port) cause p = refl
refused_none d (Resume port) cause p = refl

-- what doesn't close stays, and a port of another station too
shut_done : (d : Address) (call : Call) (events : List Event) (p : ℕ) → closed_by (port_of d p) call (Done events) ≡ [] → Has (closed_of d call) p → ⊥
shut_done d (Close port) events p e h = on_test (λ b. (port.station.0 == d.0) ≡ b → Has (cond b (port.number ∷ []) []) p → ⊥) (port.station.0 == d.0)
    (λ _ t k. by t k) (λ _ _ k. k) refl h
  where
    by : (port.station.0 == d.0) ≡ true → Has (port.number ∷ []) p → ⊥
    by t (inl q) =
        let same : same_port port (port_of d p) ≡ true = and_from (port.station.0 == d.0) (port.number == p) t (eq-eqb port.number p q) in
        let none : port ∷ [] ≡ [] = sym (ap (λ b. cond {A = List PortId} b (port ∷ []) []) same) ∙ e in
        cc
    by t (inr q) = q
shut_done d (Open station pgn max_len) events p e h = h
shut_done d (Send from to pgn bytes) events p e h = h
shut_done d (Pump station to) events p e h = h
shut_done d (Transmit station) events p e h = h
shut_done d (Take station room) events p e h = h
shut_done d (TakeAgain station room) events p e h = h
shut_done d (Overrun station n) events p e h = h
shut_done d (Tick n) events p e h = h
shut_done d (Fire station) events p e h = h
shut_done d (Cancel from to number) events p e h = h
shut_done d (Inject frame) events p e h = h
shut_done d (Pause port) events p e h = h
shut_done d (Resume port) events p e h = h

pub shut : (d : Address) (call : Call) (reply : Reply) (p : ℕ) → closed_by (port_of d p) call reply ≡ [] → Has (closed_at d call reply) p → ⊥
shut d call (Done events) p e h = shut_done d call events p e h
shut d call (Opened port) p e h = h
shut d call (Sent number) p e h = h
shut d call (Refused cause) p e h = h

pub none_closes : (d : Address) (call : Call) (reply : Reply) (p : ℕ) → closed_at d call reply ≡ [] → closed_by (port_of d p) call reply ≡ []
none_closes d (Close port) (Done events) p e = on_test (λ b. (port.station.0 == d.0) ≡ b → cond {A = List ℕ} b (port.number ∷ []) [] ≡ [] → cond {A = List PortId} (b && (port.number == p)) (port ∷ []) [] ≡ []) (port.station.0 == d.0)
    (λ _ _ k. absurd (cc)) (λ _ _ _. refl) refl e
none_closes d (Close port) (Opened q) p e = refl
none_closes d (Close port) (Sent number) p e = refl
none_closes d (Close port) (Refused cause) p e = refl
none_closes d (Open station pgn max_len) reply p e = refl
none_closes d (Send from to pgn bytes) reply p e = refl
none_closes d (Pump station to) reply p e = refl
none_closes d (Transmit station) reply p e = refl
none_closes d (Take station room) reply p e = refl
none_closes d (TakeAgain station room) reply p e = refl
none_closes d (Overrun station n) reply p e = refl
none_closes d (Tick n) reply p e = refl
none_closes d (Fire station) reply p e = refl
none_closes d (Cancel from to number) reply p e = refl
none_closes d (Inject frame) reply p e = refl
none_closes d (Pause port) reply p e = refl
none_closes d (Resume port) reply p e = refl

-- its table holds on to what stands in it, and gets what opens
abbrev pub Turns : (opened : ℕ → List (ℕ × ℕ)) → (closed : List ℕ) → (old new : Ports) → Type 0
Turns opened closed old new = (p pgn len : ℕ) → Stands p pgn len old.open_ports ⊎ Has (opened p) (pgn, len) → (Has closed p → ⊥) → Stands p pgn len new.open_ports

abbrev pub none_opened : ℕ → List (ℕ × ℕ)
none_opened p = []

pub turns_same : (old new : Ports) → new ≡ old → Turns none_opened [] old new
turns_same old new e p pgn len (inl h) n = subst (λ (x : Ports). Stands p pgn len x.open_ports) (sym e) h
turns_same old new e p pgn len (inr h) n = absurd h

pub turns_paused : (old : Ports) (number : ℕ) (paused : Bool) → Turns none_opened [] old (with_paused old number paused)
turns_paused old number paused p pgn len (inl h) n = stands_marked p pgn len number paused old.open_ports h
turns_paused old number paused p pgn len (inr h) n = absurd h

pub turns_closed : (old : Ports) (number : ℕ) → Turns none_opened (number ∷ []) old (without_port old number)
turns_closed old number p pgn len (inl h) n = stands_less p pgn len number old.open_ports (λ e. n (inl (sym e))) h
turns_closed old number p pgn len (inr h) n = absurd h

-- a port that opens is of its station
abbrev opens_here : Address → Ports → (pgn max_len : ℕ) → ℕ → List (ℕ × ℕ)
opens_here d ports pgn max_len p = cond (same_port (next_id ports) (port_of d p)) ((pgn, max_len) ∷ []) []

pub turns_opened : (d : Address) (old : Ports) (pgn max_len : ℕ) → Turns (opens_here d old pgn max_len) [] old (with_port old pgn max_len)
turns_opened d old pgn max_len p q len (inl h) n = stands_on p q len old pgn max_len h
turns_opened d old pgn max_len p q len (inr h) n = on_test (λ b. same_port (next_id old) (port_of d p) ≡ b → Has {A = ℕ × ℕ} (cond b ((pgn, max_len) ∷ []) []) (q, len) → Stands p q len (with_port old pgn max_len).open_ports) (same_port (next_id old) (port_of d p))
    (λ _ e k. here e k) (λ _ _ k. absurd k) refl h
  where
    here : same_port (next_id old) (port_of d p) ≡ true → Has {A = ℕ × ℕ} ((pgn, max_len) ∷ []) (q, len) → Stands p q len (with_port old pgn max_len).open_ports
    here e (inl k) =
        let t : ((old.station.0 == d.0) ≡ true) × ((old.opened + 1 == p) ≡ true) = and_parts (old.station.0 == d.0) (old.opened + 1 == p) e in
        subst (λ (z : ℕ × ℕ). Stands p z.0 z.1 (with_port old pgn max_len).open_ports) k (stands_new p pgn max_len old (eqb-true (old.opened + 1) p t.1))
    here e (inr k) = absurd k

pub opens_elsewhere : (d : Address) (ports : Ports) (pgn max_len p : ℕ) (o : ℕ × ℕ) → (ports.station.0 ≡ d.0 → ⊥) → Has (opens_here d ports pgn max_len p) o → ⊥
opens_elsewhere d ports pgn max_len p o n h = on_test (λ b. same_port (next_id ports) (port_of d p) ≡ b → Has {A = ℕ × ℕ} (cond b ((pgn, max_len) ∷ []) []) o → ⊥) (same_port (next_id ports) (port_of d p))
    (λ _ e _. n (eqb-true ports.station.0 d.0 (and_parts (ports.station.0 == d.0) (ports.opened + 1 == p) e).0)) (λ _ _ k. k) refl h

-- Steps of a station that leave its ports as they are

module _ (st : Station) where
  abbrev Stay : StationStep → Type 0
  Stay step = step.station.ports ≡ st.ports

  cm_ports : (frame : CmFrame) (from : Address) (room : Bool) (now : ℕ) → Stay (cm_taken st frame from room now)
  cm_ports (Rts size packets most pgn) from room now = refl
  cm_ports (Cts count next pgn) from room now = refl
  cm_ports (EndOfMsgAck size packets pgn) from room now = refl
  cm_ports (Bam size packets pgn) from room now = refl
  cm_ports (Abort reason pgn) from room now = refl
  cm_ports (EtpRts size pgn) from room now = refl
  cm_ports (EtpCts count next pgn) from room now = refl
  cm_ports (EtpDpo packets offset pgn) from room now = refl
  cm_ports (EtpEoma size pgn) from room now = refl
  cm_ports (EtpAbort reason pgn) from room now = refl

  wire_ports : (w : Wire) (from to : Address) (room : Bool) (now : ℕ) → Stay (wire_taken st w from to room now)
  wire_ports (Cm frame) from to room now = cm_ports frame from room now
  wire_ports (Packet kind number bytes) from to room now = refl
  wire_ports (Request pgn) from to room now = either (λ (x : Station). x.ports ≡ st.ports) (to.0 == st.address.0) _ _ refl refl
  wire_ports (Ack control address pgn) from to room now = either (λ (x : Station). x.ports ≡ st.ports) (address.0 == st.address.0 || to.0 == st.address.0) _ _ refl refl

  meaning_ports : (m : Option (Wire × Address × Address)) (room : Bool) (now : ℕ) → Stay (meaning_taken st m room now)
  meaning_ports None room now = refl
  meaning_ports (Some m) room now = wire_ports m.0 m.1 m.2 room now

  pub taken_ports : (f : CanFrame) (room : Bool) (now : ℕ) → Stay (taken st f room now)
  taken_ports f room now = either Stay (looks_at st f) _ _ (meaning_ports (reading f) room now) refl

  lane_ports : (now : ℕ) (o : Option ℕ) → Stay (lane_fired st now o)
  lane_ports now None = refl
  lane_ports now (Some to) = refl

  pub fired_ports : (now : ℕ) → Stay (fired st now)
  fired_ports now = by_option Stay (first_due st.sessions now) _ _ (lane_ports now (due_lane st.lanes now)) (λ _. refl)

below_ports : (st : Station) (number n : ℕ) → (closed_below st number n).ports ≡ st.ports
unfolding closed_below
below_ports st number zero = refl
below_ports st number (suc n) = below_ports st number n

pub closed_ports : (st : Station) (number : ℕ) → (closed st number).ports ≡ without_port st.ports number
closed_ports st number = below_ports (record st { ports = without_port st.ports number }) number 254
