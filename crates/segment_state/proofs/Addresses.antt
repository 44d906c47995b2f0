-- A station keeps its address, whatever it does.
use Rattle.std.proofs.Common.{◌≡◌, ℕ, zero, suc, Bool, true, false, cond, Option, Some, None, refl, rules, arith}
use Rattle.bus_frame.specs.Frames.{CanFrame}
use Rattle.pgn_ids.specs.declared.address.Address.{Address}
use Rattle.tp_wire.specs.Reading.{reading}
use Rattle.tp_wire.specs.declared.wire.CmFrame.{CmFrame}
use Rattle.tp_wire.specs.declared.wire.CmFrame.TheVariants.{Rts, Cts, EndOfMsgAck, Bam, Abort, EtpRts, EtpCts, EtpDpo, EtpEoma, EtpAbort}
use Rattle.tp_wire.specs.declared.wire.Wire.{Wire}
use Rattle.tp_wire.specs.declared.wire.Wire.TheVariants.{Cm, Packet, Request, Ack}
use Rattle.station_core.specs.Station.{Station, quietly}
use Rattle.station_core.specs.Taking.{cm_taken, request_taken, ack_taken, wire_taken, looks_at, meaning_taken, taken}
use Rattle.station_core.specs.Closing.{closed, closed_below}
use Rattle.station_core.specs.Timers.{lane_fired, fired}

closed_below_keeps : (st : Station) (number n : ℕ) → (closed_below st number n).address ≡ st.address
unfolding closed_below
closed_below_keeps st number zero = refl
closed_below_keeps st number (suc n) = closed_below_keeps st number n

pub closed_keeps : (st : Station) (number : ℕ) → (closed st number).address ≡ st.address
closed_keeps st number = closed_below_keeps _ number 254

cm_keeps : (st : Station) (frame : CmFrame) (from : Address) (room : Bool) (now : ℕ) → (cm_taken st frame from room now).station.address ≡ st.address
cm_keeps st (Rts size packets most pgn) from room now = refl
cm_keeps st (Cts granted next pgn) from room now = refl
cm_keeps st (EndOfMsgAck size packets pgn) from room now = refl
cm_keeps st (Bam size packets pgn) from room now = refl
cm_keeps st (Abort reason pgn) from room now = refl
cm_keeps st (EtpRts size pgn) from room now = refl
cm_keeps st (EtpCts granted next pgn) from room now = refl
cm_keeps st (EtpDpo packets offset pgn) from room now = refl
cm_keeps st (EtpEoma size pgn) from room now = refl
cm_keeps st (EtpAbort reason pgn) from room now = refl

request_keeps : (st : Station) (from to : Address) (pgn : ℕ) → (request_taken st from to pgn).address ≡ st.address
request_keeps st from to pgn = search rules

ack_keeps : (st : Station) (from to address : Address) (pgn : ℕ) → (ack_taken st from to address pgn).address ≡ st.address
ack_keeps st from to address pgn = search rules

wire_keeps : (st : Station) (wire : Wire) (from to : Address) (room : Bool) (now : ℕ) → (wire_taken st wire from to room now).station.address ≡ st.address
wire_keeps st (Cm frame) from to room now = cm_keeps st frame from room now
wire_keeps st (Packet kind sequence bytes) from to room now = refl
wire_keeps st (Request pgn) from to room now = request_keeps st from to pgn
wire_keeps st (Ack control address pgn) from to room now = ack_keeps st from to address pgn

meaning_keeps : (st : Station) (meaning : Option (Wire × Address × Address)) (room : Bool) (now : ℕ) → (meaning_taken st meaning room now).station.address ≡ st.address
meaning_keeps st None room now = refl
meaning_keeps st (Some m) room now = wire_keeps st m.0 m.1 m.2 room now

pub taken_keeps : (st : Station) (f : CanFrame) (room : Bool) (now : ℕ) → (taken st f room now).station.address ≡ st.address
taken_keeps st f room now =
    elim (looks_at st f) as (λ b. (cond b (meaning_taken st (reading f) room now) (quietly st)).station.address ≡ st.address) [
      | true ↦ meaning_keeps st (reading f) room now
      | false ↦ refl
    ]

lane_fired_keeps : (st : Station) (now : ℕ) (to : Option ℕ) → (lane_fired st now to).station.address ≡ st.address
lane_fired_keeps st now None = refl
lane_fired_keeps st now (Some to) = refl

pub fired_keeps : (st : Station) (now : ℕ) → (fired st now).station.address ≡ st.address
fired_keeps st now = grind (arith, lane_fired_keeps)
