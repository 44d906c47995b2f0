-- A lane to one destination with nothing on the way: the machine has one for it, whatever the destination was and said before. So that this
-- holds on when a message is acknowledged, it has one for the lane without the message under way too.
use Rattle.std.proofs.Common.{◌≡◌, ℕ, ◌+◌, ◌<◌, ◌≤◌, ◌^◌, ◌==◌, ◌&&◌, ◌||◌, nat_lt, Bool, true, cond, List, [], ◌∷◌, ◌++◌, filter_map, length, drop, Option, Some, None, refl, sym, ap, ◌∙◌, subst, arith, eq-eqb, append-nil}
use Rattle.std.specs.List.{cons_option}
use Rattle.pgn_ids.specs.Pgn.{is_pgn, clean}
use Rattle.pgn_ids.specs.declared.address.Address.{Address}
use Rattle.tp_wire.specs.Rows.{written}
use Rattle.tp_wire.specs.declared.constants.TheConstants.{MIN_SIZE, ETP_MAX_SIZE}
use Rattle.tp_wire.specs.declared.outcome.Outcome.TheVariants as outcome
use Rattle.tp_wire.specs.declared.wire.CmFrame.TheVariants.{Rts, Cts, EndOfMsgAck, Bam, Abort, EtpRts, EtpCts, EtpDpo, EtpEoma, EtpAbort}
use Rattle.tp_wire.specs.declared.wire.Kind.TheVariants.{Tp, Etp}
use Rattle.tp_wire.specs.declared.wire.Wire.{Wire}
use Rattle.tp_wire.specs.declared.wire.Wire.TheVariants.{Cm, Packet, Request, Ack}
use Rattle.tick_timers.specs.Timers.{Timer}
use Rattle.originator.specs.Endings as out
use Rattle.originator.specs.Link.{packets_of}
use Rattle.originator.specs.Readers.{link_of, is_of, is_all_queued}
use Rattle.originator.specs.Step.{on_end}
use Rattle.originator.specs.declared.states.OutState.{OutState}
use Rattle.originator.specs.declared.states.Stepped.{Stepped}
use Rattle.originator.specs.declared.states.Stepped.TheVariants.{On, Over}
use Rattle.lane_core.specs.Answer.{answered, answered_by}
use Rattle.lane_core.specs.Cancel.{numbered, is_front, withdrawn, without_number, cancelled, cancelled_by}
use Rattle.lane_core.specs.Endings.{over, after_step, ended_lane, standing_after}
use Rattle.lane_core.specs.Fire.{probe_fired, fired, fired_by}
use Rattle.lane_core.specs.Hear.{connection_heard, heard, heard_by}
use Rattle.lane_core.specs.Lane.{Lane, new_lane, pushed, with_under_way}
use Rattle.lane_core.specs.Overrun.{overrun, overrun_by}
use Rattle.lane_core.specs.Probe.{is_token, other_token, most_requests, probes, request_frame, token_pgn}
use Rattle.lane_core.specs.Pump.{idle_pumped, pumped, pumped_by}
use Rattle.lane_core.specs.Step.{LaneStep}
use Rattle.lane_core.specs.declared.message.Pending.{Pending}
use Rattle.lane_core.specs.declared.place.UnderWay.{UnderWay}
use Rattle.lane_core.specs.declared.place.UnderWay.TheVariants.{Nothing, Broadcast, Connection}
use Rattle.lane_core.specs.declared.probe.Standing.{Standing}
use Rattle.lane_core.specs.declared.probe.Standing.TheVariants.{Settled, InDoubt as Doubted, Probing}
use Rattle.lane_core.specs.declared.probe.Token.{Token}
use Rattle.lane_core.specs.declared.probe.Token.TheVariants.{ConnectionManagement, DataTransfer}
use Rattle.segment_law.specs.Told as told
use Rattle.record_law.proofs.Tests.{on_test, either}
use Rattle.record_law.proofs.Told.{clean_is}
use Rattle.lane_law.specs.Choice.{IsChoice}
use Rattle.lane_law.specs.Lane as machine
use Rattle.lane_law.specs.Lane.{InDoubt}
use Rattle.connection_law.proofs.Burst.{pumps}
use Rattle.connection_law.proofs.Frames.{BackAck, goes}
use Rattle.connection_law.proofs.Hearing.{IsBack, hears_frame, is_answered, overruns, cancels, no_front}
use Rattle.connection_law.proofs.Moves.{Taken, takes, hears, forgets, forgets_answer, skips}
use Rattle.connection_law.proofs.Pumping.{asks, fires}
use Rattle.connection_law.proofs.Receiver.{replies}
use Rattle.connection_law.proofs.Rows.{goes_request}
use Rattle.connection_law.proofs.Sender.{ended_told, stepped_view, pushes, under_is}
use Rattle.connection_law.proofs.View.{Laws, IsPair, View, IsStanding, IsUnderWay, Carries, Sim, Still}
use Rattle.restart_law.proofs.Alone.{no_marks}
use Rattle.restart_law.proofs.Lanes.{IsKept}

module _ (laws : Laws) (choose : machine.OnEachLane (λ lane. IsChoice lane.stream.given lane.stream.sent)) (begins_so : machine.IsReached true (machine.start true)) (s d : Address) (pair : IsPair s d) where
  -- what is shown of a lane and of what was sent in it, with these frames on the way and these outcomes
  abbrev shown : Lane → List told.Message → List Wire → List told.NumberedOutcome → View
  shown lane ms forward ended = record { lane = lane; forward = forward; again = []; answers = []; heard = []; tp = None; etp = None; sent = ms; given = []; ended = ended; opened = no_marks }

  abbrev pub bare : Lane → List told.Message → View
  bare lane ms = shown lane ms [] []

  abbrev pub IsBare : List told.Message → Lane → Type 0
  IsBare ms lane = (l : machine.Lane) × Sim s d (bare lane ms) l

  -- the lane without the message under way
  abbrev without : Lane → Lane
  without lane = record lane { under_way = Nothing; standing = Settled }

  abbrev IsFree : UnderWay → List told.Message → Lane → Type 0
  IsFree Nothing ms lane = Unit {0}
  IsFree (Broadcast b) ms lane = Unit {0}
  IsFree (Connection o) ms lane = IsBare ms (without lane)

  abbrev pub IsReady : List told.Message → Lane → Type 0
  IsReady ms lane = IsBare ms lane × IsFree lane.under_way ms lane

  -- what is on the way is missed, and what was told is no part of this
  cleared : (lane : Lane) (ms : List told.Message) (forward : List Wire) (ended : List told.NumberedOutcome) (l : machine.Lane) → Sim s d (shown lane ms forward ended) l → IsBare ms lane
  cleared lane ms forward ended l h =
      let x : Still s d l (shown lane ms [] ended) = skips laws s d forward [] (shown lane ms forward ended) l h (sym (append-nil forward)) in
      let c : Carries s d (shown lane ms [] ended) x.lane = x.sim.carries in
      (x.lane, record { carries = record { reached = c.reached; good = c.good; sent = c.sent; given = c.given; forward = c.forward; again = c.again; answers = c.answers; heard = c.heard; sender = c.sender; ended = tt }; session = x.sim.session })

  stepped : (ms : List told.Message) (lane : Lane) (step : Lane × LaneStep) (l : machine.Lane) → Still s d l (stepped_view laws s d pair (bare lane ms) step) → IsBare ms step.0
  stepped ms lane step l x = cleared step.0 ms (filter_map (goes s d) step.1.frames) (ended_told step.1.ended) x.lane x.sim

  pub new_ready : IsReady [] (new_lane s.0 d.0)
  new_ready = (
    (
      machine.start true,
      record {
        carries = record {
          reached = begins_so;
          good = tt;
          sent = refl;
          given = refl;
          forward = refl;
          again = tt;
          answers = refl;
          heard = refl;
          sender = record { from = refl; to = refl; count = refl; last = omega arith; token_is = refl; under_way = (refl, tt, refl) };
          ended = tt;
        };
        session = tt;
      },
    ),
    tt,
  )

  -- A message is sent

  bare_sends : (ms : List told.Message) (lane : Lane) (pgn : ℕ) (bytes : List ℕ) → is_pgn pgn ≡ true → MIN_SIZE ≤ length bytes → length bytes ≤ ETP_MAX_SIZE → IsBare ms lane → IsBare (ms ++ (pgn, bytes) ∷ []) (pushed lane pgn bytes)
  bare_sends ms lane pgn bytes fits long most b =
      let c : (pgn < 2 ^ 18) × (clean pgn ≡ pgn) = clean_is pgn fits in
      let x : Still s d b.0 (record (bare lane ms) { lane = pushed lane pgn bytes; sent = ms ++ (pgn, bytes) ∷ [] }) = pushes laws s d pair (bare lane ms) b.0 pgn bytes b.1 (omega (arith, long)) most c.0 c.1 in
      (x.lane, x.sim)

  sends_ready : (ms : List told.Message) (lane : Lane) (pgn : ℕ) (bytes : List ℕ) → is_pgn pgn ≡ true → MIN_SIZE ≤ length bytes → length bytes ≤ ETP_MAX_SIZE → IsReady ms lane → IsReady (ms ++ (pgn, bytes) ∷ []) (pushed lane pgn bytes)
  sends_ready ms lane pgn bytes fits long most h = (bare_sends ms lane pgn bytes fits long most h.0, free lane.under_way h.1)
    where
      free : (u : UnderWay) → IsFree u ms lane → IsFree u (ms ++ (pgn, bytes) ∷ []) (pushed lane pgn bytes)
      free Nothing f = tt
      free (Broadcast b) f = tt
      free (Connection o) f = bare_sends ms (without lane) pgn bytes fits long most f

  module _ (ms : List told.Message) (lane : Lane) (h : IsReady ms lane) where
    abbrev v : View
    v = bare lane ms

    abbrev l : machine.Lane
    l = h.0.0

    is_under : (u : UnderWay) (ps : List Pending) → lane.under_way ≡ u → lane.pending ≡ ps → IsUnderWay s d u lane.standing ps l.stream.queued l.stream.sent l.phase l.pending
    is_under u ps e p = under_is laws s d pair v l u ps h.0.1 e p

    -- where nothing is under way nothing has to be free
    idle : (new : Lane) → new.under_way ≡ Nothing → IsFree new.under_way ms new
    idle new u = subst (λ (x : UnderWay). IsFree x ms new) (sym u) tt

    -- A frame of the destination

    free_step : (step : Stepped) → IsBare ms (without lane) → IsFree (after_step lane step).0.under_way ms (after_step lane step).0
    free_step (On new) f = f
    free_step (Over by) f = tt

    module _ (o : OutState) (u : lane.under_way ≡ Connection o) (f : IsBare ms (without lane)) where
      abbrev IsBareAfter : Stepped → Type 0
      IsBareAfter step = IsBare ms (after_step lane step).0

      stays : IsBareAfter (On o)
      stays = subst (λ (x : UnderWay). IsBare ms (with_under_way lane x)) u h.0

      plain : (wire : Wire) (now : ℕ) → IsBack wire [] → IsBareAfter (connection_heard o wire now)
      plain wire now back = subst (λ (x : UnderWay). IsBare ms (heard_by x lane wire now).0) u (stepped ms lane (heard lane wire now) l (hears_frame laws s d pair v l wire now h.0.1 back))

      -- it acknowledges: in the machine the message was cancelled before it began
      acknowledged : (ps : List Pending) → lane.pending ≡ ps → IsBare ms (ended_lane lane outcome.Acknowledged)
      acknowledged [] e = absurd (no_front laws s d pair v l o h.0.1 u e)
      acknowledged (m ∷ ps) e =
          let front : numbered lane.pending m.number ≡ true = ap (λ (xs : List Pending). numbered xs m.number) e ∙ ap (λ b. b || numbered ps m.number) (eq-eqb m.number m.number refl) in
          let rest : without_number lane.pending m.number ≡ drop 1 lane.pending = ap (λ (xs : List Pending). without_number xs m.number) e ∙ ap (λ b. cond b ps (m ∷ without_number ps m.number)) (eq-eqb m.number m.number refl) ∙ ap (λ (xs : List Pending). drop 1 xs) (sym e) in
          let settled : lane.standing ≡ Settled = (is_under (Connection o) (m ∷ ps) u e).0 in
          let after : Settled ≡ standing_after lane outcome.Acknowledged = sym settled ∙ on_test (λ b. lane.standing ≡ cond (b || true) lane.standing Doubted) (lane.to == 255) (λ _. refl) (λ _. refl) in
          let x : IsBare ms (withdrawn (without lane) m.number).0 = stepped ms (without lane) (withdrawn (without lane) m.number) f.0 (cancels laws s d pair (bare (without lane) ms) f.0 m.number f.1 front) in
          subst (λ (z : List Pending × Standing). IsBare ms (record lane { pending = z.0; under_way = Nothing; standing = z.1 })) (λ i. (rest i, after i)) x

      ends : (b : Bool) (size : ℕ) → IsBareAfter (cond b (on_end o size) (On o))
      ends b size = either IsBareAfter b (on_end o size) (On o) (either IsBareAfter (size == (link_of o).len && is_all_queued o) (Over out.acknowledged) (On o) (acknowledged lane.pending refl) stays) stays

      bare_hears : (wire : Wire) (now : ℕ) → IsBareAfter (connection_heard o wire now)
      bare_hears (Cm (EndOfMsgAck size packets pgn)) now = ends (is_of o Tp pgn && packets == packets_of (link_of o)) size
      bare_hears (Cm (EtpEoma size pgn)) now = ends (is_of o Etp pgn) size
      bare_hears (Cm (Abort reason pgn)) now = plain (Cm (Abort reason pgn)) now tt
      bare_hears (Cm (EtpAbort reason pgn)) now = plain (Cm (EtpAbort reason pgn)) now tt
      bare_hears (Cm (Rts size packets most pgn)) now = plain (Cm (Rts size packets most pgn)) now tt
      bare_hears (Cm (Cts count next pgn)) now = plain (Cm (Cts count next pgn)) now refl
      bare_hears (Cm (Bam size packets pgn)) now = plain (Cm (Bam size packets pgn)) now tt
      bare_hears (Cm (EtpRts size pgn)) now = plain (Cm (EtpRts size pgn)) now tt
      bare_hears (Cm (EtpCts count next pgn)) now = plain (Cm (EtpCts count next pgn)) now refl
      bare_hears (Cm (EtpDpo packets offset pgn)) now = plain (Cm (EtpDpo packets offset pgn)) now tt
      bare_hears (Packet kind sequence bytes) now = plain (Packet kind sequence bytes) now tt
      bare_hears (Request pgn) now = plain (Request pgn) now tt
      bare_hears (Ack control address pgn) now = plain (Ack control address pgn) now tt

    hears_ready : (wire : Wire) (now : ℕ) → IsReady ms (heard lane wire now).0
    hears_ready wire now = by lane.under_way refl h.1
      where
        by : (u : UnderWay) → lane.under_way ≡ u → IsFree u ms lane → IsReady ms (heard_by u lane wire now).0
        by Nothing u f = h
        by (Broadcast b) u f = h
        by (Connection o) u f = (bare_hears o u f wire now, free_step (connection_heard o wire now) f)

    -- An Acknowledgement of the destination

    token_names : (t : Token) → is_token t (token_pgn t) ≡ true
    token_names ConnectionManagement = refl
    token_names DataTransfer = refl

    -- the machine goes through a round of doubt
    settles_bare : lane.under_way ≡ Nothing → l.phase ≡ InDoubt → IsBare ms (record lane { standing = Settled; token = other_token lane.token })
    settles_bare u doubt =
        let pgn : ℕ = token_pgn lane.token in
        let asked : Lane = (probes lane 1 0).0 in
        let settled : Lane = record lane { standing = Settled; token = other_token lane.token } in
        let one : Still s d l (stepped_view laws s d pair v (probes lane 1 0)) = asks laws s d pair v l 1 0 h.0.1 u doubt in
        let carried : goes s d (request_frame lane) ≡ Some (Request pgn) = (λ i. goes s d (written (Request pgn) (h.0.1.carries.sender.from i) (h.0.1.carries.sender.to i))) ∙ goes_request s d laws.reads pair.one_s pair.one_d pgn (small lane.token) in
        let sim : Sim s d (shown asked ms (Request pgn ∷ []) []) one.lane = subst (λ (o : Option Wire). Sim s d (shown asked ms (cons_option o []) []) one.lane) carried one.sim in
        let two : Taken laws s d one.lane (record (shown asked ms [] []) { again = Request pgn ∷ [] }) (Request pgn) = takes laws s d (shown asked ms (Request pgn ∷ []) []) one.lane sim (Request pgn) [] refl in
        let three : Still s d one.lane (record (shown asked ms [] []) { again = Request pgn ∷ []; answers = BackAck pgn ∷ [] }) = replies laws choose s d (record (shown asked ms [] []) { again = Request pgn ∷ [] }) one.lane pgn two in
        let four : Still s d three.lane (record (shown asked ms [] []) { again = Request pgn ∷ []; heard = BackAck pgn ∷ [] }) = hears laws s d (record (shown asked ms [] []) { again = Request pgn ∷ []; answers = BackAck pgn ∷ [] }) three.lane three.sim (BackAck pgn) [] refl in
        let five : Still s d four.lane (record (shown (answered asked pgn) ms [] []) { again = Request pgn ∷ []; heard = BackAck pgn ∷ [] }) = is_answered laws s d pair (record (shown asked ms [] []) { again = Request pgn ∷ []; heard = BackAck pgn ∷ [] }) four.lane pgn four.sim refl in
        let is : answered asked pgn ≡ settled = ap (λ b. cond {A = Lane} b settled asked) (token_names lane.token) in
        let sim_five : Sim s d (record (shown settled ms [] []) { again = Request pgn ∷ []; heard = BackAck pgn ∷ [] }) five.lane = subst (λ (z : Lane). Sim s d (record (shown z ms [] []) { again = Request pgn ∷ []; heard = BackAck pgn ∷ [] }) five.lane) is five.sim in
        let six : Still s d five.lane (record (shown settled ms [] []) { heard = BackAck pgn ∷ [] }) = forgets laws s d (record (shown settled ms [] []) { again = Request pgn ∷ []; heard = BackAck pgn ∷ [] }) five.lane sim_five in
        let seven : Still s d six.lane (bare settled ms) = forgets_answer laws s d (record (shown settled ms [] []) { heard = BackAck pgn ∷ [] }) six.lane six.sim in
        (seven.lane, seven.sim)
      where
        small : (t : Token) → token_pgn t < 2 ^ 18
        small ConnectionManagement = omega arith
        small DataTransfer = omega arith

    settles_ready : (pgn : ℕ) → IsReady ms (answered lane pgn)
    settles_ready pgn = by lane.standing refl
      where
        settled : Lane
        settled = record lane { standing = Settled; token = other_token lane.token }

        go : (count : ℕ) (timer : Timer) → lane.standing ≡ Probing count timer → (u : UnderWay) → lane.under_way ≡ u → (ps : List Pending) → lane.pending ≡ ps → IsBare ms settled × IsFree u ms settled
        go count timer e Nothing u ps p = (settles_bare u (subst (λ (x : Standing). IsStanding x l.phase) e (is_under Nothing ps u p).0), tt)
        go count timer e (Broadcast b) u ps p = absurd (is_under (Broadcast b) ps u p)
        go count timer e (Connection o) u [] p = absurd (is_under (Connection o) [] u p)
        go count timer e (Connection o) u (m ∷ ps) p = absurd (let z : Probing count timer ≡ Settled = sym e ∙ (is_under (Connection o) (m ∷ ps) u p).0 in cc)

        by : (st : Standing) → lane.standing ≡ st → IsReady ms (answered_by st lane pgn)
        by Settled e = h
        by Doubted e = h
        by (Probing count timer) e = either (IsReady ms) (is_token lane.token pgn) settled lane (go count timer e lane.under_way refl lane.pending refl) h

    -- Its timer fires, or its station missed frames

    fires_ready : (now : ℕ) → IsReady ms (fired lane now).0
    fires_ready now = (stepped ms lane (fired lane now) l (fires laws s d pair v l now h.0.1), by lane.under_way refl)
      where
        probing : lane.under_way ≡ Nothing → (st : Standing) → IsFree (probe_fired st lane now).0.under_way ms (probe_fired st lane now).0
        probing u Settled = h.1
        probing u Doubted = h.1
        probing u (Probing count timer) = either (λ (x : Lane × LaneStep). IsFree x.0.under_way ms x.0) (nat_lt count most_requests) (probes lane (count + 1) now) (over lane outcome.Unreachable None) (idle (probes lane (count + 1) now).0 u) tt

        by : (u : UnderWay) → lane.under_way ≡ u → IsFree (fired_by u lane now).0.under_way ms (fired_by u lane now).0
        by Nothing u = probing u lane.standing
        by (Broadcast b) u = h.1
        by (Connection o) u = tt

    overruns_ready : IsReady ms (overrun lane).0
    overruns_ready = (stepped ms lane (overrun lane) l (overruns laws s d pair v l h.0.1), by lane.under_way)
      where
        by : (u : UnderWay) → IsFree (overrun_by u lane).0.under_way ms (overrun_by u lane).0
        by Nothing = h.1
        by (Broadcast b) = h.1
        by (Connection o) = tt

    -- It is pumped

    pumps_ready : (now : ℕ) → IsReady ms (pumped lane now).0
    pumps_ready now = (stepped ms lane (pumped lane now) l (pumps laws s d pair v l now h.0.1), by lane.under_way refl h.1)
      where
        idles : lane.under_way ≡ Nothing → (st : Standing) → lane.standing ≡ st → (ps : List Pending) → IsFree (idle_pumped st ps lane now).0.under_way ms (idle_pumped st ps lane now).0
        idles u Settled e [] = h.1
        idles u Settled e (m ∷ ps) = either (λ (x : Lane × LaneStep). IsFree x.0.under_way ms x.0) (lane.to == 255) _ _ tt (subst (λ (x : UnderWay × Standing). IsBare ms (record lane { under_way = x.0; standing = x.1 })) (λ i. (u i, e i)) h.0)
        idles u Doubted e [] = h.1
        idles u Doubted e (m ∷ ps) = idle (probes lane 1 now).0 u
        idles u (Probing count timer) e [] = h.1
        idles u (Probing count timer) e (m ∷ ps) = h.1

        by : (u : UnderWay) → lane.under_way ≡ u → IsFree u ms lane → IsFree (pumped_by u lane now).0.under_way ms (pumped_by u lane now).0
        by Nothing u f = idles u lane.standing refl lane.pending
        by (Broadcast b) u f = absurd (is_under (Broadcast b) lane.pending u refl)
        by (Connection o) u f = f

    -- A message is cancelled

    cancels_ready : (number : ℕ) → numbered lane.pending number ≡ true → IsReady ms (cancelled lane number).0
    cancels_ready number is = (stepped ms lane (cancelled lane number) l (cancels laws s d pair v l number h.0.1 is), by lane.under_way refl h.1)
      where
        by : (u : UnderWay) → lane.under_way ≡ u → IsFree u ms lane → IsFree (cancelled_by u lane number).0.under_way ms (cancelled_by u lane number).0
        by Nothing u f = idle (withdrawn lane number).0 u
        by (Broadcast b) u f = absurd (is_under (Broadcast b) lane.pending u refl)
        by (Connection o) u f = either (λ (x : Lane × LaneStep). IsFree x.0.under_way ms x.0) (is_front lane.pending number) _ _ tt
            (subst (λ (x : UnderWay). IsFree x ms (withdrawn lane number).0) (sym u) (stepped ms (without lane) (withdrawn (without lane) number) f.0 (cancels laws s d pair (bare (without lane) ms) f.0 number f.1 is)))

  pub ready_kept : IsKept IsReady
  ready_kept = record {
    sends = sends_ready;
    hears = λ ms lane wire now h. hears_ready ms lane h wire now;
    settles = λ ms lane pgn h. settles_ready ms lane h pgn;
    fires = λ ms lane now h. fires_ready ms lane h now;
    overruns = overruns_ready;
    pumps = λ ms lane now h. pumps_ready ms lane h now;
    cancels = λ ms lane number is h. cancels_ready ms lane h number is;
  }
