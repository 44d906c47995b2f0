-- What each call of a station makes of the lane from s to d: a message is sent, or some of those pending end.
use Rattle.std.proofs.Common.{◌≡◌, ◌⊎◌, inl, inr, ℕ, ◌+◌, ◌==◌, Bool, true, false, cond, ◌&&◌, List, [], ◌∷◌, ◌++◌, length, Some, refl, sym, subst, ap, ◌∙◌, arith, eqb-true}
use Rattle.std.specs.Prelude.{slice_get}
use Rattle.std.proofs.lemmas.Bool.{eqb-false}
use Rattle.pgn_ids.specs.declared.address.Address.{Address}
use Rattle.tx_queue.specs.Queue.{behind}
use Rattle.port_table.specs.Ports.{with_port, with_paused}
use Rattle.lane_core.specs.Lane.{Lane, pushed}
use Rattle.lane_core.specs.declared.message.Pending.{Pending}
use Rattle.station_lanes.specs.LaneCalls.{lane_to}
use Rattle.message_events.specs.declared.event.Event.{Event}
use Rattle.station_core.specs.Station.{Station, StationStep, quietly}
use Rattle.station_core.specs.Sending.{lane_of, sent, pumped, cancelled}
use Rattle.station_core.specs.Taking.{taken}
use Rattle.station_core.specs.Timers.{fired}
use Rattle.station_core.specs.Closing.{closed}
use Rattle.station_core.specs.Overruns.{overrun}
use Rattle.segment_law.specs.Told.{Message, sent_by, is_lane}
use Rattle.segment_law.specs.Segment.{Segment, lane_at, with_station}
use Rattle.segment_law.specs.Calls.{applied, with_frame, events_of}
use Rattle.segment_law.specs.Reached.{IsReached}
use Rattle.segment_law.specs.declared.call.Call.{Call}
use Rattle.segment_law.specs.declared.refusal.Refusal.{Refusal}
use Rattle.segment_law.specs.declared.reply.Reply.{Reply}
use Rattle.segment_law.specs.declared.reply.Reply.TheVariants.{Refused}
use Rattle.segment_law.proofs.FitStations.{Stays, taken_stays, pumped_stays, cancelled_stays, fired_stays, closed_stays}
use Rattle.segment_law.proofs.Reaching.{as_it_is}
use Rattle.record_law.proofs.EachCall.{OfStation, each_applied}
use Rattle.record_law.proofs.Segments.{has_address}
use Rattle.record_law.proofs.Told.{none_refused}
use Rattle.record_law.proofs.Tests.{on_test}
use Rattle.record_law.proofs.outcomes.Counting.{times}
use Rattle.record_law.proofs.outcomes.LaneSteps.{numbers_of}
use Rattle.record_law.proofs.outcomes.Events.{named_in}
use Rattle.record_law.proofs.outcomes.Lanes.{put_here, put_apart}
use Rattle.record_law.proofs.outcomes.Stations.{StepTells, same, taken_tells, pumped_tells, cancelled_tells, fired_tells, overrun_tells, closed_tells}
use Rattle.record_law.proofs.outcomes.Places.{lane_before, lane_after, lane_stays}

-- numbers that were pending have ended
pub record Ended (before after : Lane) (numbers : List ℕ) : Type 0 where
  pub sent : after.sent ≡ before.sent
  pub each : (n : ℕ) → times n (numbers_of before.pending) ≡ times n (numbers_of after.pending) + times n numbers

-- one message was sent
pub record Added (before after : Lane) : Type 0 where
  pub sent : after.sent ≡ before.sent + 1
  pub each : (n : ℕ) → times n (numbers_of after.pending) ≡ times n (numbers_of before.pending) + times n ((before.sent + 1) ∷ [])

-- a call that sends one tells nothing
pub record SendsOne (before after : Lane) (more : List Message) (numbers : List ℕ) : Type 0 where
  pub one : length more ≡ 1
  pub none : numbers ≡ []
  pub added : Added before after

-- one that sends none may tell what ended
pub record EndsSome (before after : Lane) (more : List Message) (numbers : List ℕ) : Type 0 where
  pub none : more ≡ []
  pub ended : Ended before after numbers

module _ (s d : Address) where
  -- what a call makes of the lane
  abbrev pub Good : (seg next : Segment) → List Message → List Event → Type 0
  Good seg next more events = SendsOne (lane_at seg s d) (lane_at next s d) more (named_in s d events) ⊎ EndsSome (lane_at seg s d) (lane_at next s d) more (named_in s d events)

  abbrev pub GoodBy : Segment → Call → Segment × Reply → Type 0
  GoodBy seg call step = Good seg step.0 (sent_by s d call step.1) (events_of step.1)

  -- nothing of the lane changes
  pub good_same : (seg next : Segment) (events : List Event) → lane_at next s d ≡ lane_at seg s d → named_in s d events ≡ [] → Good seg next [] events
  good_same seg next events e none = inr (record {
    none = refl;
    ended = record {
      sent = ap (λ (l : Lane). l.sent) e;
      each = λ n.
          let all : times n (numbers_of (lane_at next s d).pending) ≡ times n (numbers_of (lane_at seg s d).pending) = ap (λ (l : Lane). times n (numbers_of l.pending)) e in
          let z : times n (named_in s d events) ≡ 0 = ap (times n) none in
          omega (arith, all, z);
    };
  })

  module _ (seg : Segment) (r : IsReached seg) (i : ℕ) (st : Station) (at : slice_get seg.stations i ≡ Some st) where
    -- a station makes a step
    good_step : (step : StationStep) → step.station.address ≡ st.address → StepTells st step → Good seg (with_station seg i step.station) [] step.events
    good_step step address h = on_test (λ t. (st.address.0 == s.0) ≡ t → Good seg next [] step.events) (st.address.0 == s.0)
        (λ _ t. mine (eqb-true st.address.0 s.0 t))
        (λ _ f. let apart : st.address.0 ≡ s.0 → ⊥ = eqb-false st.address.0 s.0 f in
        good_same seg next step.events (lane_stays seg next r i st step.station at address refl s d apart) (h.others s d apart)) refl
      where
        next : Segment
        next = with_station seg i step.station

        mine : st.address.0 ≡ s.0 → Good seg next [] step.events
        mine e =
            let before : lane_at seg s d ≡ lane_to st.address st.lanes d.0 = lane_before seg next r i st step.station at address refl s d e in
            let after : lane_at next s d ≡ lane_to st.address step.station.lanes d.0 = lane_after seg next r i st step.station at address refl s d e in
            inr (record {
              none = refl;
              ended = record {
                sent = ap (λ (l : Lane). l.sent) after ∙ h.sent d.0 ∙ sym (ap (λ (l : Lane). l.sent) before);
                each = λ n.
                    let x : times n (numbers_of (lane_at seg s d).pending) ≡ times n (numbers_of (lane_to st.address st.lanes d.0).pending) = ap (λ (l : Lane). times n (numbers_of l.pending)) before in
                    let y : times n (numbers_of (lane_at next s d).pending) ≡ times n (numbers_of (lane_to st.address step.station.lanes d.0).pending) = ap (λ (l : Lane). times n (numbers_of l.pending)) after in
                    let z : times n (numbers_of (lane_to st.address st.lanes d.0).pending) ≡ times n (numbers_of (lane_to st.address step.station.lanes d.0).pending) + times n (named_in s d step.events) = h.own s d e n in
                    omega (arith, x, y, z);
              };
            })

    -- the station changes, and its lanes don't
    good_quiet : (new : Station) → new.address ≡ st.address → StepTells st (quietly new) → Good seg (with_station seg i new) [] []
    good_quiet new address h = good_step (quietly new) address h

    stays : Stays st.address st
    stays = as_it_is seg r i st at

    -- A message is sent

    numbers_pushed : (n : ℕ) (messages : List Pending) (m : Pending) → times n (numbers_of (messages ++ m ∷ [])) ≡ times n (numbers_of messages) + times n (m.number ∷ [])
    numbers_pushed n [] m = omega arith
    numbers_pushed n (x ∷ messages) m = let e : times n (numbers_of (messages ++ m ∷ [])) ≡ times n (numbers_of messages) + times n (m.number ∷ []) = numbers_pushed n messages m in omega (arith, e)

    module _ (to : Address) (pgn : ℕ) (bytes : List ℕ) where
      abbrev next : Segment
      next = with_station seg i (sent st to pgn bytes)

      -- in this lane
      sent_here : st.address.0 ≡ s.0 → to.0 ≡ d.0 → Good seg next ((pgn, bytes) ∷ []) []
      sent_here e t =
          let before : lane_at seg s d ≡ lane_to st.address st.lanes d.0 = lane_before seg next r i st (sent st to pgn bytes) at refl refl s d e in
          let old : Lane = lane_of st to in
          let is_old : lane_at seg s d ≡ old = before ∙ ap (lane_to st.address st.lanes) (sym t) in
          let is_new : lane_at next s d ≡ pushed old pgn bytes = lane_after seg next r i st (sent st to pgn bytes) at refl refl s d e ∙ put_here st.address st.lanes to.0 d.0 (pushed old pgn bytes) (sym t) in
          inl (record {
            one = refl;
            none = refl;
            added = record {
              sent = ap (λ (l : Lane). l.sent) is_new ∙ sym (ap (λ (l : Lane). l.sent + 1) is_old);
              each = λ n.
                  let x : times n (numbers_of (lane_at next s d).pending) ≡ times n (numbers_of (pushed old pgn bytes).pending) = ap (λ (l : Lane). times n (numbers_of l.pending)) is_new in
                  let y : times n (numbers_of (lane_at seg s d).pending) ≡ times n (numbers_of old.pending) = ap (λ (l : Lane). times n (numbers_of l.pending)) is_old in
                  let z : times n (((lane_at seg s d).sent + 1) ∷ []) ≡ times n ((old.sent + 1) ∷ []) = ap (λ (l : Lane). times n ((l.sent + 1) ∷ [])) is_old in
                  let w : times n (numbers_of (pushed old pgn bytes).pending) ≡ times n (numbers_of old.pending) + times n ((old.sent + 1) ∷ []) = numbers_pushed n old.pending (record { number = old.sent + 1; pgn = pgn; bytes = bytes }) in
                  omega (arith, x, y, z, w);
            };
          })

      -- in another one
      sent_else : ((st.address.0 ≡ s.0) → to.0 ≡ d.0 → ⊥) → Good seg next [] []
      sent_else n = good_same seg next [] (on_test (λ b. (st.address.0 == s.0) ≡ b → lane_at next s d ≡ lane_at seg s d) (st.address.0 == s.0)
          (λ _ t. let e : st.address.0 ≡ s.0 = eqb-true st.address.0 s.0 t in
          lane_after seg next r i st (sent st to pgn bytes) at refl refl s d e
          ∙ put_apart st.address st.lanes to.0 d.0 (pushed (lane_of st to) pgn bytes) (λ q. n e (sym q))
          ∙ sym (lane_before seg next r i st (sent st to pgn bytes) at refl refl s d e))
          (λ _ f. lane_stays seg next r i st (sent st to pgn bytes) at refl refl s d (eqb-false st.address.0 s.0 f)) refl) refl

      sent_good : (from : Address) → from.0 ≡ st.address.0 → Good seg next (cond (is_lane s d from to) ((pgn, bytes) ∷ []) []) []
      sent_good from is = by (from.0 == s.0) (to.0 == d.0) refl refl
        where
          by : (p q : Bool) → (from.0 == s.0) ≡ p → (to.0 == d.0) ≡ q → Good seg next (cond (p && q) ((pgn, bytes) ∷ []) []) []
          by true true e f = sent_here (sym is ∙ eqb-true from.0 s.0 e) (eqb-true to.0 d.0 f)
          by true false e f = sent_else (λ x y. eqb-false to.0 d.0 f y)
          by false q e f = sent_else (λ x y. eqb-false from.0 s.0 e (is ∙ x))

    pub of_station : OfStation seg (GoodBy seg) i st
    of_station = record {
      opens = λ a pgn max_len q. good_quiet (record st { ports = with_port st.ports pgn max_len }) refl (same st);
      closes = λ port q is. good_quiet (closed st port.number) (closed_stays st.address st port.number stays).address (closed_tells st port.number);
      sends = λ from to pgn bytes q other long short. sent_good to pgn bytes from (sym (has_address seg from i st q at));
      pumps = λ a to q. good_step (pumped st to seg.now) (pumped_stays st.address st to seg.now stays).address (pumped_tells st to seg.now);
      transmits = λ a f q e free. good_quiet (record st { queue = behind st.queue }) refl (same st);
      takes = λ a room f q e free. good_step (taken st f room seg.now) (taken_stays st.address st f room seg.now stays).address (taken_tells st f room seg.now);
      repeats = λ a room f q e free. good_step (taken st f room seg.now) (taken_stays st.address st f room seg.now stays).address (taken_tells st f room seg.now);
      overruns = λ a n q few. good_step (overrun st) refl (overrun_tells st);
      fires = λ a q. good_step (fired st seg.now) (fired_stays st.address st seg.now stays).address (fired_tells st seg.now);
      cancels = λ from to number q pending. good_step (cancelled st to number) (cancelled_stays st.address st to number stays).address (cancelled_tells st to number pending);
      pauses = λ port q. good_quiet (record st { ports = with_paused st.ports port.number true }) refl (same st);
      resumes = λ port q. good_quiet (record st { ports = with_paused st.ports port.number false }) refl (same st);
    }

  -- a call that is refused changes nothing
  refused_good : (seg : Segment) (call : Call) (cause : Refusal) → GoodBy seg call (seg, Refused cause)
  refused_good seg call cause = subst (λ (ms : List Message). Good seg seg ms []) (sym (none_refused s d call cause)) (good_same seg seg [] refl refl)

  pub good_call : (seg : Segment) → IsReached seg → (call : Call) → GoodBy seg call (applied seg call)
  good_call seg r call = each_applied seg (GoodBy seg) (record {
    station = of_station seg r;
    ticks = λ n. good_same seg (record seg { now = seg.now + n }) [] refl refl;
    injects = λ f foreign free. good_same seg (with_frame seg f) [] refl refl;
  }) (refused_good seg) call
