-- The sender's lane to one node: its message begins, a CTS opens a window, and the end acknowledgement ends it (SAE J1939-21,
-- connection mode data transfer; ISO 11783-3).
use Rattle.std.proofs.Common.{◌≡◌, ℕ, ◌+◌, ◌-◌, ◌<◌, ◌≤◌, ◌==◌, nat_lt, min, Bool, true, false, cond, ◌&&◌, List, [], ◌∷◌, ◌++◌, length, Option, Some, None, refl, sym, ap, ◌∙◌, arith}
use Rattle.std.proofs.lemmas.Bool.{eq-eqb, ne_eqb, le-ltb, ltb-true}
use Rattle.std.specs.Cmp.{nat_cmp_total, unsigned_tied}
use Rattle.std.specs.Ordering.{nat_cmp, eq_by_cmp}
use Rattle.std.specs.FinMap as finmap
use Rattle.std.specs.FinMap.{get-insert, same_map, nat_cmp-IsAntisymmetric}
use Rattle.bus_frame.specs.Frames.{CanFrame}
use Rattle.pgn_ids.specs.Pgn.{is_pgn, clean}
use Rattle.pgn_ids.specs.declared.address.Address.{Address}
use Rattle.tp_wire.specs.Rows.{written}
use Rattle.tp_wire.specs.declared.constants.TheConstants.{MIN_SIZE, ETP_MAX_SIZE}
use Rattle.tp_wire.specs.declared.outcome.Outcome.TheVariants as outcome
use Rattle.tp_wire.specs.declared.wire.Kind.{Kind}
use Rattle.tp_wire.specs.declared.wire.Kind.TheVariants.{Tp, Etp}
use Rattle.tp_wire.specs.declared.wire.CmFrame.{CmFrame}
use Rattle.tp_wire.specs.declared.wire.CmFrame.TheVariants.{Cts, EndOfMsgAck, EtpCts, EtpEoma}
use Rattle.tp_wire.specs.declared.wire.Wire.TheVariants.{Cm}
use Rattle.seg_cut.specs.Packets.{packet_count}
use Rattle.tick_timers.specs.Timers.{Timer}
use Rattle.tick_timers.specs.declared.durations.TheConstants.{T3}
use Rattle.tp_wire.specs.Kinds.{is_same_kind}
use Rattle.responder.specs.Window.{clear_to_send}
use Rattle.originator.specs.Link.{Link, is_of_link, request_to_send}
use Rattle.originator.specs.Cts.{on_cts}
use Rattle.originator.specs.Step.{on_end}
use Rattle.originator.specs.States as states
use Rattle.originator.specs.Pump as out
use Rattle.originator.specs.Endings.{acknowledged}
use Rattle.originator.specs.declared.states.OutState.{OutState}
use Rattle.originator.specs.declared.states.OutState.TheVariants.{AwaitCts, Sending, AwaitEnd}
use Rattle.originator.specs.declared.states.Stepped.{Stepped}
use Rattle.originator.specs.declared.states.Stepped.TheVariants.{On, Over}
use Rattle.lane_core.specs.Hear.{heard}
use Rattle.lane_core.specs.Endings.{after_step}
use Rattle.lane_core.specs.Lane.{Lane, kind_for}
use Rattle.lane_core.specs.Pump.{pump_refusal, pumped}
use Rattle.lane_core.specs.declared.message.Pending.{Pending}
use Rattle.lane_core.specs.declared.place.UnderWay.{UnderWay}
use Rattle.lane_core.specs.declared.place.UnderWay.TheVariants.{Nothing, Connection}
use Rattle.lane_core.specs.declared.probe.Standing.TheVariants.{Settled}
use Rattle.lane_core.specs.declared.probe.Token.{Token}
use Rattle.lane_core.specs.declared.refused.PumpRefused.{PumpRefused}
use Rattle.lane_core.specs.declared.refused.PumpRefused.TheVariants as pump
use Rattle.lane_core.specs.Step.{LaneStep}
use Rattle.station_lanes.specs.Lanes.{Lanes}
use Rattle.station_lanes.specs.LaneCalls.{outcome_of}
use Rattle.station_lanes.specs.LaneReaders.{refusal_at}
use Rattle.message_events.specs.declared.event.Event.TheVariants as event
use Rattle.station_core.specs.Station.{Station, StationStep, by_lane}
use Rattle.station_core.specs.Sending as sending
use Rattle.station_core.specs.Taking.{wire_taken}
use Rattle.record_law.proofs.Told.{clean_is}
use Rattle.exchange_law.proofs.Pairs.{Pair}

-- a message to one node
pub record Sent : Type 0 where
  pub pair : Pair
  pub m : Pending
  pub more : List Pending
  pub number : ℕ
  pub token : Token
  pub kind : Kind
  pub is_kind : kind_for (length m.bytes) ≡ kind
  pub pgn : is_pgn m.pgn ≡ true
  pub least : MIN_SIZE ≤ length m.bytes
  pub most : length m.bytes ≤ ETP_MAX_SIZE

-- the frames of either transport
abbrev pub end_of : Kind → (len pgn : ℕ) → CmFrame
end_of Tp len pgn = EndOfMsgAck len (packet_count len) pgn
end_of Etp len pgn = EtpEoma len pgn

module _ (e : Sent) where
  abbrev pub s : Address
  s = e.pair.xs.address

  abbrev pub d : Address
  d = e.pair.ys.address

  abbrev pub len : ℕ
  len = length e.m.bytes

  abbrev pub last : ℕ
  last = packet_count len

  abbrev pub link_with : Kind → Link
  link_with kind = record { kind = kind; from = s.0; to = d.0; pgn = e.m.pgn; len = len }

  abbrev pub link : Link
  link = link_with e.kind

  -- no window, and packet k is the first that was not queued
  abbrev pub awaits : ℕ → Timer → OutState
  awaits k timer = AwaitCts (record { link = link; unsent = k; resends = 0; timer = timer })

  -- a window from packet k to packet u, of which the packets from a on are still to be queued
  abbrev pub window : (k g u a : ℕ) → Bool → states.Sending
  window k g u a announced = record { link = link; unsent = a; resends = 0; granted = g; next = k; at = a; until = u; announced = announced }

  abbrev pub awaits_end : Timer → OutState
  awaits_end timer = AwaitEnd (record { link = link; resends = 0; timer = timer })

  abbrev lane_with : List Pending → UnderWay → Lane
  lane_with pending u = record { from = s.0; to = d.0; sent = e.number; pending = pending; under_way = u; standing = Settled; token = e.token }

  -- before the message begins, under way, and when it has its outcome
  abbrev pub ready : Lane
  ready = lane_with (e.m ∷ e.more) Nothing

  abbrev pub going : OutState → Lane
  going o = lane_with (e.m ∷ e.more) (Connection o)

  abbrev pub over_with : Lane
  over_with = lane_with e.more Nothing

  abbrev pub lanes_with : Lane → Lanes
  lanes_with l = finmap.insert e.pair.xs.lanes d.0 l

  -- the sender
  abbrev pub sends : List CanFrame → Lanes → Station
  sends queue lanes = record e.pair.xs { queue = queue; lanes = lanes }

  lane_there : (l : Lane) → finmap.get (lanes_with l) d.0 ≡ Some l
  lane_there l = get-insert nat_cmp_total e.pair.xs.lanes d.0 l d.0 ∙ ap (λ b. cond b (Some l) (finmap.get e.pair.xs.lanes d.0)) (unsigned_tied d.0 d.0 ∙ eq-eqb d.0 d.0 refl)

  insert_over : (a b : Lane) → finmap.insert (lanes_with a) d.0 b ≡ lanes_with b
  insert_over a b = same_map nat_cmp_total nat_cmp-IsAntisymmetric _ _ (λ q. get-insert nat_cmp_total (lanes_with a) d.0 b q ∙ by q (eq_by_cmp nat_cmp q d.0) refl ∙ sym (get-insert nat_cmp_total e.pair.xs.lanes d.0 b q))
    where
      by : (q : ℕ) (t : Bool) → eq_by_cmp nat_cmp q d.0 ≡ t → cond t (Some b) (finmap.get (lanes_with a) q) ≡ cond t (Some b) (finmap.get e.pair.xs.lanes q)
      by q true t = refl
      by q false t = get-insert nat_cmp_total e.pair.xs.lanes d.0 a q ∙ ap (λ c. cond c (Some a) (finmap.get e.pair.xs.lanes q)) t

  -- a step of the lane is the station's
  pub by_lane_is : (q : List CanFrame) (l after : Lane) (step : Lane → Lane × LaneStep) (says : LaneStep) → step l ≡ (after, says)
      → by_lane (sends q (lanes_with l)) d step ≡ record { station = sends (q ++ says.frames) (lanes_with after); events = outcome_of s d says.ended }
  by_lane_is q l after step says does =
      ap (λ (x : Option Lane). (let r : StationStep = record {
        station = record e.pair.xs { queue = q ++ (elim x as (λ (_ : Option Lane). LaneStep) [ None ↦ record { frames = []; ended = None } | Some y ↦ (step y).1 ]).frames; lanes = elim x as (λ (_ : Option Lane). Lanes) [ None ↦ lanes_with l | Some y ↦ finmap.insert (lanes_with l) d.0 (step y).0 ] };
        events = outcome_of s d (elim x as (λ (_ : Option Lane). LaneStep) [ None ↦ record { frames = []; ended = None } | Some y ↦ (step y).1 ]).ended;
      } in r)) (lane_there l)
      ∙ ap (λ (p : Lane × LaneStep). (let r : StationStep = record { station = record e.pair.xs { queue = q ++ p.1.frames; lanes = finmap.insert (lanes_with l) d.0 p.0 }; events = outcome_of s d p.1.ended } in r)) does
      ∙ ap (λ (ls : Lanes). (let r : StationStep = record { station = record e.pair.xs { queue = q ++ says.frames; lanes = ls }; events = outcome_of s d says.ended } in r)) (insert_over l after)

  pub refusal_is : (l : Lane) (now : ℕ) → refusal_at (lanes_with l) d.0 now ≡ pump_refusal l now
  refusal_is l now = ap (λ (x : Option Lane). elim x as (λ (_ : Option Lane). Option PumpRefused) [ None ↦ Some pump.NothingToSend | Some y ↦ pump_refusal y now ]) (lane_there l)

  pub not_to_all : (d.0 == 255) ≡ false
  not_to_all = let one : d.0 < 254 = ltb-true d.0 254 e.pair.own_d in ne_eqb d.0 255 (λ q. absurd (omega (arith, q, one)))

  -- ---- the message begins

  abbrev pub rts : CanFrame
  rts = written (Cm (request_to_send e.kind len e.m.pgn)) s.0 d.0

  abbrev pub since : ℕ → Timer
  since now = record { started = now; ticks = T3 }

  begins_now : (now : ℕ) → pumped ready now ≡ (going (awaits 1 (since now)), record { frames = rts ∷ []; ended = None })
  begins_now now = rw (not_to_all, e.is_kind) refl

  pub begins : (now : ℕ) → sending.pumped (sends [] (lanes_with ready)) d now ≡ record { station = sends (rts ∷ []) (lanes_with (going (awaits 1 (since now)))); events = [] }
  begins now = by_lane_is [] ready (going (awaits 1 (since now))) (λ l. pumped l now) (record { frames = rts ∷ []; ended = None }) (begins_now now)

  -- ---- a part of a window is queued

  pub goes : (o : OutState) (now : ℕ) → sending.pumped (sends [] (lanes_with (going o))) d now ≡ record { station = sends (out.pumped o e.m.bytes now).1 (lanes_with (going (out.pumped o e.m.bytes now).0)); events = [] }
  goes o now = by_lane_is [] (going o) (going (out.pumped o e.m.bytes now).0) (λ l. pumped l now) (record { frames = (out.pumped o e.m.bytes now).1; ended = None }) refl

  -- ---- a CTS is taken

  is_its_own : (clean e.m.pgn == e.m.pgn) ≡ true
  is_its_own = eq-eqb (clean e.m.pgn) e.m.pgn (clean_is e.m.pgn e.pgn).1

  opens : (k g u : ℕ) (timer : Timer) (now : ℕ) → 1 ≤ g → 1 ≤ k → k ≤ last → k - 1 + g ≡ u → u ≤ last → on_cts (awaits k timer) g k now ≡ On (Sending (window k g u k false))
  opens k g u timer now some from_first in_message end within =
      let a : (g == 0) ≡ false = ne_eqb g 0 (λ q. absurd (omega (arith, q))) in
      let b : (k == 0) ≡ false = ne_eqb k 0 (λ q. absurd (omega (arith, q))) in
      let c : nat_lt (min k last) k ≡ false = le-ltb (min k last) k (omega arith) in
      let n : nat_lt k k ≡ false = le-ltb k k (omega arith) in
      let z : min (k - 1 + g) last ≡ u = omega arith in
      rw (a, b, c, n, z) refl

  -- a frame of its own transport and PGN
  of_it : (kind : Kind) → e.kind ≡ kind → is_of_link link kind e.m.pgn ≡ true
  of_it Tp is = (λ i. is_same_kind (is i) Tp && is_its_own i)
  of_it Etp is = (λ i. is_same_kind (is i) Etp && is_its_own i)

  pub cts_taken : (k g u : ℕ) (timer : Timer) (now : ℕ) → 1 ≤ g → 1 ≤ k → k ≤ last → k - 1 + g ≡ u → u ≤ last
      → wire_taken (sends [] (lanes_with (going (awaits k timer)))) (Cm (clear_to_send e.kind g k e.m.pgn)) d s true now ≡ record { station = sends [] (lanes_with (going (Sending (window k g u k false)))); events = [] }
  cts_taken k g u timer now some from_first in_message end within = by e.kind refl
    where
      opened : Stepped
      opened = On (Sending (window k g u k false))

      by : (kind : Kind) → e.kind ≡ kind → wire_taken (sends [] (lanes_with (going (awaits k timer)))) (Cm (clear_to_send kind g k e.m.pgn)) d s true now ≡ record { station = sends [] (lanes_with (going (Sending (window k g u k false)))); events = [] }
      by Tp is = by_lane_is [] (going (awaits k timer)) (going (Sending (window k g u k false))) (λ l. heard l (Cm (Cts g k e.m.pgn)) now) (record { frames = []; ended = None })
          (ap (λ (b : Bool). after_step (going (awaits k timer)) (cond b (on_cts (awaits k timer) g k now) (On (awaits k timer)))) (of_it Tp is)
          ∙ ap (after_step (going (awaits k timer))) (opens k g u timer now some from_first in_message end within))
      by Etp is = by_lane_is [] (going (awaits k timer)) (going (Sending (window k g u k false))) (λ l. heard l (Cm (EtpCts g k e.m.pgn)) now) (record { frames = []; ended = None })
          (ap (λ (b : Bool). after_step (going (awaits k timer)) (cond b (on_cts (awaits k timer) g k now) (On (awaits k timer)))) (of_it Etp is)
          ∙ ap (after_step (going (awaits k timer))) (opens k g u timer now some from_first in_message end within))

  -- ---- the end acknowledgement is taken

  ends_it : (timer : Timer) → on_end (awaits_end timer) len ≡ Over acknowledged
  ends_it timer =
      let a : (len == len) ≡ true = eq-eqb len len refl in
      let b : (last + 1 == last + 1) ≡ true = eq-eqb (last + 1) (last + 1) refl in
      rw (a, b) refl

  settles : after_step (going (awaits_end (since 0))) (Over acknowledged) ≡ (over_with, record { frames = []; ended = Some (record { number = e.m.number; outcome = outcome.Acknowledged }) })
  settles = rw not_to_all refl

  abbrev pub ended : LaneStep
  ended = record { frames = []; ended = Some (record { number = e.m.number; outcome = outcome.Acknowledged }) }

  pub end_taken : (timer : Timer) (now : ℕ) → wire_taken (sends [] (lanes_with (going (awaits_end timer)))) (Cm (end_of e.kind len e.m.pgn)) d s true now
      ≡ record { station = sends [] (lanes_with over_with); events = event.Outcome s d e.m.number outcome.Acknowledged ∷ [] }
  end_taken timer now = by e.kind refl
    where
      state : OutState
      state = awaits_end timer

      by : (kind : Kind) → e.kind ≡ kind → wire_taken (sends [] (lanes_with (going (awaits_end timer)))) (Cm (end_of kind len e.m.pgn)) d s true now
          ≡ record { station = sends [] (lanes_with over_with); events = event.Outcome s d e.m.number outcome.Acknowledged ∷ [] }
      by Tp is = by_lane_is [] (going (awaits_end timer)) over_with (λ l. heard l (Cm (EndOfMsgAck len last e.m.pgn)) now) ended
          ((λ i. after_step (going (awaits_end timer)) (cond (of_it Tp is i && eq-eqb last last refl i) (on_end (awaits_end timer) len) (On (awaits_end timer))))
          ∙ ap (after_step (going (awaits_end timer))) (ends_it timer) ∙ settles)
      by Etp is = by_lane_is [] (going (awaits_end timer)) over_with (λ l. heard l (Cm (EtpEoma len e.m.pgn)) now) ended
          ((λ i. after_step (going (awaits_end timer)) (cond (of_it Etp is i) (on_end (awaits_end timer) len) (On (awaits_end timer))))
          ∙ ap (after_step (going (awaits_end timer))) (ends_it timer) ∙ settles)
