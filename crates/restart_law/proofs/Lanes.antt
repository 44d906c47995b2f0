-- What each step of a lane keeps, each call of its station keeps of the lane to one destination.
use Rattle.std.proofs.Common.{◌≡◌, ℕ, zero, suc, ◌≤◌, ◌==◌, ◌&&◌, ◌||◌, nat_lt, Bool, true, false, cond, List, [], ◌∷◌, ◌++◌, length, Option, Some, None, refl, sym, ap, ◌∙◌, subst, arith, eqb-true, ltb-false, append-nil}
use Rattle.std.specs.FinMap as map
use Rattle.std.proofs.lemmas.Bool.{eqb-false}
use Rattle.bus_frame.specs.Frames.{CanFrame}
use Rattle.pgn_ids.specs.Pgn.{is_pgn}
use Rattle.pgn_ids.specs.declared.address.Address.{Address}
use Rattle.tp_wire.specs.Reading.{reading}
use Rattle.tp_wire.specs.declared.constants.TheConstants.{MIN_SIZE, TP_MAX_SIZE, ETP_MAX_SIZE}
use Rattle.tp_wire.specs.declared.wire.CmFrame.{CmFrame}
use Rattle.tp_wire.specs.declared.wire.CmFrame.TheVariants.{Rts, Cts, EndOfMsgAck, Bam, Abort, EtpRts, EtpCts, EtpDpo, EtpEoma, EtpAbort}
use Rattle.tp_wire.specs.declared.wire.Wire.{Wire}
use Rattle.tp_wire.specs.declared.wire.Wire.TheVariants.{Cm, Packet, Request, Ack}
use Rattle.lane_core.specs.Answer.{answered}
use Rattle.lane_core.specs.Cancel as lane-cancel
use Rattle.lane_core.specs.Fire as lane-fire
use Rattle.lane_core.specs.Hear.{heard}
use Rattle.lane_core.specs.Lane.{Lane, new_lane, longest_to, pushed}
use Rattle.lane_core.specs.Overrun as lane-overrun
use Rattle.lane_core.specs.Pump as lane-pump
use Rattle.lane_core.specs.Step.{LaneStep, nothing_to_do}
use Rattle.session_table.specs.DueOrder.{first_due}
use Rattle.station_lanes.specs.LaneCalls.{lane_to, stepped_lanes}
use Rattle.station_lanes.specs.LaneReaders.{due_lane, is_pending_at, overrun_lanes}
use Rattle.station_lanes.specs.Lanes.{Lanes}
use Rattle.station_core.specs.Closing.{closed_below, closed}
use Rattle.station_core.specs.Overruns.{overrun}
use Rattle.station_core.specs.Sending.{sent, pumped, cancelled}
use Rattle.station_core.specs.Station.{Station, StationStep}
use Rattle.station_core.specs.Taking.{cm_taken, wire_taken, looks_at, meaning_taken, taken}
use Rattle.station_core.specs.Timers.{lane_fired, fired}
use Rattle.port_table.specs.Ports.{without_port}
use Rattle.segment_law.specs.Told.{Message, sent_by}
use Rattle.segment_law.specs.declared.call.Call.TheVariants.{Send}
use Rattle.segment_law.specs.declared.reply.Reply.TheVariants.{Sent}
use Rattle.record_law.proofs.Tests.{on_test, either, by_option}
use Rattle.record_law.proofs.outcomes.Lanes.{put_here, put_apart}

-- what is known of a lane and of the messages that were sent in it, whatever step it makes
pub record IsKept (Q : List Message → Lane → Type 0) : Type 0 where
  pub sends : (ms : List Message) (lane : Lane) (pgn : ℕ) (bytes : List ℕ) → is_pgn pgn ≡ true → MIN_SIZE ≤ length bytes → length bytes ≤ ETP_MAX_SIZE → Q ms lane → Q (ms ++ (pgn, bytes) ∷ []) (pushed lane pgn bytes)
  pub hears : (ms : List Message) (lane : Lane) (wire : Wire) (now : ℕ) → Q ms lane → Q ms (heard lane wire now).0
  pub settles : (ms : List Message) (lane : Lane) (pgn : ℕ) → Q ms lane → Q ms (answered lane pgn)
  pub fires : (ms : List Message) (lane : Lane) (now : ℕ) → Q ms lane → Q ms (lane-fire.fired lane now).0
  pub overruns : (ms : List Message) (lane : Lane) → Q ms lane → Q ms (lane-overrun.overrun lane).0
  pub pumps : (ms : List Message) (lane : Lane) (now : ℕ) → Q ms lane → Q ms (lane-pump.pumped lane now).0
  pub cancels : (ms : List Message) (lane : Lane) (number : ℕ) → lane-cancel.numbered lane.pending number ≡ true → Q ms lane → Q ms (lane-cancel.cancelled lane number).0

module _ (a : Address) (q : ℕ) (P : Lane → Type 0) (lanes : Lanes) (h : P (lane_to a lanes q)) where
  -- a lane makes a step, if it is there
  steps_kept : (to : ℕ) (step : Lane → Lane × LaneStep) → ((lane : Lane) → map.get lanes to ≡ Some lane → P lane → P (step lane).0) → P (lane_to a (stepped_lanes lanes to step) q)
  steps_kept to step keeps = by (map.get lanes to) refl
    where
      by : (o : Option Lane) → map.get lanes to ≡ o → P (lane_to a (elim o as (λ (_ : Option Lane). Lanes) [ None ↦ lanes | Some lane ↦ map.insert lanes to (step lane).0 ]) q)
      by None e = h
      by (Some lane) e = on_test (λ b. (q == to) ≡ b → P (lane_to a (map.insert lanes to (step lane).0) q)) (q == to)
          (λ _ t. let same : q ≡ to = eqb-true q to t in subst P (sym (put_here a lanes to q (step lane).0 same)) (keeps lane e (subst P (found same) h)))
          (λ _ t. subst P (sym (put_apart a lanes to q (step lane).0 (eqb-false q to t))) h) refl
        where
          found : q ≡ to → lane_to a lanes q ≡ lane
          found same = ap (lane_to a lanes) same ∙ ap (λ (o : Option Lane). elim o as (λ (_ : Option Lane). Lane) [ None ↦ new_lane a.0 to | Some z ↦ z ]) e

module _ (a : Address) (q : ℕ) (Q : List Message → Lane → Type 0) (k : IsKept Q) (ms : List Message) (u : Station) (h : Q ms (lane_to a u.lanes q)) where
  abbrev IsIn : Lanes → Type 0
  IsIn lanes = Q ms (lane_to a lanes q)

  abbrev Keeps : StationStep → Type 0
  Keeps step = IsIn step.station.lanes

  hears_at : (from : ℕ) (wire : Wire) (now : ℕ) → IsIn (stepped_lanes u.lanes from (λ lane. heard lane wire now))
  hears_at from wire now = steps_kept a q (Q ms) u.lanes h from (λ lane. heard lane wire now) (λ lane _. k.hears ms lane wire now)

  cm_kept : (frame : CmFrame) (from : Address) (room : Bool) (now : ℕ) → Keeps (cm_taken u frame from room now)
  cm_kept (Rts size packets most pgn) from room now = h
  cm_kept (Cts granted next pgn) from room now = hears_at from.0 (Cm (Cts granted next pgn)) now
  cm_kept (EndOfMsgAck size packets pgn) from room now = hears_at from.0 (Cm (EndOfMsgAck size packets pgn)) now
  cm_kept (Bam size packets pgn) from room now = h
  cm_kept (Abort reason pgn) from room now = hears_at from.0 (Cm (Abort reason pgn)) now
  cm_kept (EtpRts size pgn) from room now = h
  cm_kept (EtpCts granted next pgn) from room now = hears_at from.0 (Cm (EtpCts granted next pgn)) now
  cm_kept (EtpDpo packets offset pgn) from room now = h
  cm_kept (EtpEoma size pgn) from room now = hears_at from.0 (Cm (EtpEoma size pgn)) now
  cm_kept (EtpAbort reason pgn) from room now = hears_at from.0 (Cm (EtpAbort reason pgn)) now

  wire_kept : (w : Wire) (from to : Address) (room : Bool) (now : ℕ) → Keeps (wire_taken u w from to room now)
  wire_kept (Cm frame) from to room now = cm_kept frame from room now
  wire_kept (Packet kind number bytes) from to room now = h
  wire_kept (Request pgn) from to room now = either (λ (z : Station). IsIn z.lanes) (to.0 == u.address.0) _ _ h h
  wire_kept (Ack control address pgn) from to room now = either (λ (z : Station). IsIn z.lanes) (address.0 == u.address.0 || to.0 == u.address.0) _ _ (steps_kept a q (Q ms) u.lanes h from.0 (λ lane. (answered lane pgn, nothing_to_do)) (λ lane _. k.settles ms lane pgn)) h

  meaning_kept : (m : Option (Wire × Address × Address)) (room : Bool) (now : ℕ) → Keeps (meaning_taken u m room now)
  meaning_kept None room now = h
  meaning_kept (Some m) room now = wire_kept m.0 m.1 m.2 room now

  pub taken_kept : (f : CanFrame) (room : Bool) (now : ℕ) → Keeps (taken u f room now)
  taken_kept f room now = either Keeps (looks_at u f) _ _ (meaning_kept (reading f) room now) h

  lane_kept : (now : ℕ) (o : Option ℕ) → Keeps (lane_fired u now o)
  lane_kept now None = h
  lane_kept now (Some to) = steps_kept a q (Q ms) u.lanes h to (λ lane. lane-fire.fired lane now) (λ lane _. k.fires ms lane now)

  pub fired_kept : (now : ℕ) → Keeps (fired u now)
  fired_kept now = by_option Keeps (first_due u.sessions now) _ _ (lane_kept now (due_lane u.lanes now)) (λ _. h)

  pub pumped_kept : (to : Address) (now : ℕ) → Keeps (pumped u to now)
  pumped_kept to now = steps_kept a q (Q ms) u.lanes h to.0 (λ lane. lane-pump.pumped lane now) (λ lane _. k.pumps ms lane now)

  pub cancelled_kept : (to : Address) (number : ℕ) → is_pending_at u.lanes to.0 number ≡ true → Keeps (cancelled u to number)
  cancelled_kept to number pending = steps_kept a q (Q ms) u.lanes h to.0 (λ lane. lane-cancel.cancelled lane number)
      (λ lane e. k.cancels ms lane number (sym (ap (λ (o : Option Lane). elim o as (λ (_ : Option Lane). Bool) [ None ↦ false | Some z ↦ lane-cancel.numbered z.pending number ]) e) ∙ pending))

  below_kept : (n : ℕ) → IsIn (overrun_lanes u.lanes n)
  unfolding overrun_lanes
  below_kept zero = h
  below_kept (suc n) = steps_kept a q (Q ms) (overrun_lanes u.lanes n) (below_kept n) n lane-overrun.overrun (λ lane _. k.overruns ms lane)

  pub overrun_kept : Keeps (overrun u)
  overrun_kept = below_kept 256

  -- a message is sent, in this lane or in another one
  module _ (is : u.address ≡ a) (from to x : Address) (goal : x.0 ≡ q) (pgn : ℕ) (bytes : List ℕ) (own : (from.0 == a.0) ≡ true) (fits : is_pgn pgn ≡ true) (long : nat_lt (length bytes) MIN_SIZE ≡ false) (short : nat_lt (longest_to to.0) (length bytes) ≡ false) where
    most : length bytes ≤ ETP_MAX_SIZE
    most = on_test (λ b. (to.0 == 255) ≡ b → length bytes ≤ cond b TP_MAX_SIZE ETP_MAX_SIZE → length bytes ≤ ETP_MAX_SIZE) (to.0 == 255) (λ _ _ l. omega (arith, l)) (λ _ _ l. l) refl (ltb-false (longest_to to.0) (length bytes) short)

    pub sent_kept : (number : ℕ) → Q (ms ++ sent_by a x (Send from to pgn bytes) (Sent number)) (lane_to a (sent u to pgn bytes).lanes q)
    sent_kept number = on_test (λ b. (to.0 == x.0) ≡ b → Q (ms ++ cond (from.0 == a.0 && b) ((pgn, bytes) ∷ []) []) (lane_to a (sent u to pgn bytes).lanes q)) (to.0 == x.0)
        (λ _ t.
        let same : q ≡ to.0 = sym goal ∙ sym (eqb-true to.0 x.0 t) in
        let new : Lane = pushed (lane_to u.address u.lanes to.0) pgn bytes in
        let shown : lane_to a (map.insert u.lanes to.0 new) q ≡ pushed (lane_to a u.lanes q) pgn bytes = put_here a u.lanes to.0 q new same ∙ (λ i. pushed (lane_to (is i) u.lanes (sym same i)) pgn bytes) in
        subst (λ (b : Bool). Q (ms ++ cond (b && true) ((pgn, bytes) ∷ []) []) (lane_to a (map.insert u.lanes to.0 new) q)) (sym own)
        (subst (Q (ms ++ (pgn, bytes) ∷ [])) (sym shown) (k.sends ms (lane_to a u.lanes q) pgn bytes fits (ltb-false (length bytes) MIN_SIZE long) most h)))
        (λ _ t.
        let apart : q ≡ to.0 → ⊥ = (λ e. eqb-false to.0 x.0 t (sym e ∙ sym goal)) in
        let new : Lane = pushed (lane_to u.address u.lanes to.0) pgn bytes in
        subst (λ (b : Bool). Q (ms ++ cond (b && false) ((pgn, bytes) ∷ []) []) (lane_to a (map.insert u.lanes to.0 new) q)) (sym own)
        (subst (λ (xs : List Message). Q xs (lane_to a (map.insert u.lanes to.0 new) q)) (sym (append-nil ms)) (subst (Q ms) (sym (put_apart a u.lanes to.0 q new apart)) h))) refl

below_lanes : (st : Station) (number n : ℕ) → (closed_below st number n).lanes ≡ st.lanes
unfolding closed_below
below_lanes st number zero = refl
below_lanes st number (suc n) = below_lanes st number n

pub closed_lanes : (st : Station) (number : ℕ) → (closed st number).lanes ≡ st.lanes
closed_lanes st number = below_lanes (record st { ports = without_port st.ports number }) number 254
