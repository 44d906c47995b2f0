-- The number that a Send is answered is that of its message among those sent.
use Rattle.std.proofs.Common.{◌≡◌, ◌⊎◌, inl, inr, ℕ, suc, ◌+◌, ◌==◌, cond, List, [], ◌∷◌, ◌++◌, map, length, Option, Some, None, refl, sym, ap, ◌∙◌, subst, arith, eqb-true, append_assoc}
use Rattle.std.specs.Prelude.{slice_get, unwrap_or, position}
use Rattle.std.proofs.lemmas.Bool.{and_parts}
use Rattle.std.proofs.lemmas.List.{map-append}
use Rattle.pgn_ids.specs.declared.address.Address.{Address}
use Rattle.lane_core.specs.Lane.{Lane}
use Rattle.message_events.specs.declared.event.Event.{Event}
use Rattle.station_core.specs.Station.{Station, new_station}
use Rattle.station_core.specs.Sending.{lane_of}
use Rattle.segment_law.specs.Numbering.{item}
use Rattle.segment_law.specs.Segment.{Segment, place_of, lane_at}
use Rattle.segment_law.specs.Calls.{applied, events_of}
use Rattle.segment_law.specs.Record.{Record}
use Rattle.segment_law.specs.Drift.{DriftsTo}
use Rattle.segment_law.specs.Told.{Message, is_lane, sent_by, sent}
use Rattle.segment_law.specs.declared.call.Call.{Call}
use Rattle.segment_law.specs.declared.call.Call.TheVariants.{Open, Close, Send, Pump, Transmit, Take, TakeAgain, Overrun, Tick, Fire, Cancel, Inject, Pause, Resume}
use Rattle.segment_law.specs.declared.refusal.Refusal.{Refusal}
use Rattle.segment_law.specs.declared.reply.Reply.{Reply}
use Rattle.segment_law.specs.declared.reply.Reply.TheVariants.{Opened, Sent, Refused, Done}
use Rattle.record_law.specs.Numbers.{Answered, answered_by, answered, AreFrom, AreNumbered}
use Rattle.record_law.proofs.AlongDrifts.{along_drift}
use Rattle.record_law.proofs.EachCall.{Accepted, each_applied}
use Rattle.record_law.proofs.Lists.{Each, each_all}
use Rattle.record_law.proofs.Tests.{on_test}
use Rattle.record_law.proofs.Told.{none_refused, flat, items_flat}
use Rattle.record_law.proofs.outcomes.Beginning.{new_sent}
use Rattle.record_law.proofs.outcomes.Calls.{Good, good_call}

-- Lists whose numbers rise by one

abbrev numbers_of : List Answered → List ℕ
numbers_of answers = map (λ (a : Answered). a.0) answers

abbrev messages_of : List Answered → List Message
messages_of answers = map (λ (a : Answered). a.1) answers

item_behind : (before behind : List Message) (m : Message) → item (before ++ m ∷ behind) (length before + 1) ≡ Some m
item_behind before behind m = let e : length before + 1 ≡ suc (length before) = omega arith in ap (item (before ++ m ∷ behind)) e ∙ by before
  where
    by : (ms : List Message) → slice_get (ms ++ m ∷ behind) (length ms) ≡ Some m
    by [] = refl
    by (x ∷ ms) = by ms

own_items : (before : List Message) (answers : List Answered) → AreFrom (length before + 1) (numbers_of answers) → Each (λ (a : Answered). item (before ++ messages_of answers) a.0 ≡ Some a.1) answers
own_items before [] from = tt
own_items before (a ∷ answers) from =
    let longer : length (before ++ a.1 ∷ []) ≡ length before + 1 = last_counts before in
    let rest : Each (λ (b : Answered). item ((before ++ a.1 ∷ []) ++ messages_of answers) b.0 ≡ Some b.1) answers =
    own_items (before ++ a.1 ∷ []) answers (subst (λ (n : ℕ). AreFrom (n + 1) (numbers_of answers)) (sym longer) from.1) in (
      ap (item (before ++ a.1 ∷ messages_of answers)) from.0 ∙ item_behind before (messages_of answers) a.1,
      subst (λ (ms : List Message). Each (λ (b : Answered). item ms b.0 ≡ Some b.1) answers) (append_assoc before (a.1 ∷ []) (messages_of answers)) rest,
    )
  where
    last_counts : (ms : List Message) → length (ms ++ a.1 ∷ []) ≡ length ms + 1
    last_counts [] = refl
    last_counts (m ∷ ms) = let e : length (ms ++ a.1 ∷ []) ≡ length ms + 1 = last_counts ms in omega (arith, e)

module _ (s d : Address) where
  -- The messages are those that were sent

  messages_by : (call : Call) (reply : Reply) → messages_of (answered_by s d call reply) ≡ sent_by s d call reply
  messages_by (Send from to pgn bytes) (Sent number) = on_test (λ b. messages_of (cond b ((number, (pgn, bytes)) ∷ []) []) ≡ cond b ((pgn, bytes) ∷ []) []) (is_lane s d from to) (λ _. refl) (λ _. refl)
  messages_by (Send from to pgn bytes) (Opened port) = refl
  messages_by (Send from to pgn bytes) (Refused cause) = refl
  messages_by (Send from to pgn bytes) (Done events) = refl
  messages_by (Open station pgn max_len) reply = refl
  messages_by (Close port) reply = refl
  messages_by (Pump station to) reply = refl
  messages_by (Transmit station) reply = refl
  messages_by (Take station room) reply = refl
  messages_by (TakeAgain station room) reply = refl
  messages_by (Overrun station n) reply = refl
  messages_by (Tick n) reply = refl
  messages_by (Fire station) reply = refl
  messages_by (Cancel from to number) reply = refl
  messages_by (Inject frame) reply = refl
  messages_by (Pause port) reply = refl
  messages_by (Resume port) reply = refl

  abbrev all_answered : Record → List Answered
  all_answered steps = flat (λ step. answered_by s d step.0 step.1) steps

  messages_all : (steps : Record) → messages_of (all_answered steps) ≡ flat (λ step. sent_by s d step.0 step.1) steps
  messages_all [] = refl
  messages_all (step ∷ steps) = map-append (λ (a : Answered). a.1) (answered_by s d step.0 step.1) (all_answered steps) ∙ (λ k. messages_by step.0 step.1 k ++ messages_all steps k)

  -- A call is answered none, or the next number

  none_answered : (call : Call) (cause : Refusal) → answered_by s d call (Refused cause) ≡ []
  none_answered call cause = by (answered_by s d call (Refused cause)) (messages_by call (Refused cause) ∙ none_refused s d call cause)
    where
      by : (answers : List Answered) → messages_of answers ≡ [] → answers ≡ []
      by [] e = refl
      by (a ∷ answers) e = absurd (cc)

  module _ (seg : Segment) where
    abbrev next_number : ℕ
    next_number = (lane_at seg s d).sent + 1

    abbrev AreNext : List Answered → List Message → Type 0
    AreNext answers messages = ((answers ≡ []) × (messages ≡ [])) ⊎ ((numbers_of answers ≡ next_number ∷ []) × (length messages ≡ 1))

    abbrev AreNextBy : Call → Segment × Reply → Type 0
    AreNextBy call step = AreNext (answered_by s d call step.1) (sent_by s d call step.1)

    lane_is : (i : ℕ) (st : Station) (from to : Address) → slice_get seg.stations i ≡ Some st → place_of seg from ≡ Some i → from.0 ≡ s.0 → to.0 ≡ d.0 → lane_of st to ≡ lane_at seg s d
    lane_is i st from to at place is_s is_d =
        let there : place_of seg s ≡ Some i = ap (λ (k : ℕ). position (λ (z : Station). z.address.0 == k) seg.stations) (sym is_s) ∙ place in
        ap (λ (k : ℕ). lane_of st (record { 0 = k })) is_d
        ∙ sym (ap (λ (p : Option ℕ). lane_of (unwrap_or (elim p as (λ (_ : Option ℕ). Option Station) [ None ↦ None | Some j ↦ slice_get seg.stations j ]) (new_station s)) d) there
        ∙ ap (λ (o : Option Station). lane_of (unwrap_or o (new_station s)) d) at)

    sends_next : (i : ℕ) (st : Station) (from to : Address) (pgn : ℕ) (bytes : List ℕ) → slice_get seg.stations i ≡ Some st → place_of seg from ≡ Some i → AreNextBy (Send from to pgn bytes) (seg, Sent ((lane_of st to).sent + 1))
    sends_next i st from to pgn bytes at place = on_test (λ b. is_lane s d from to ≡ b → AreNext (cond b (((lane_of st to).sent + 1, (pgn, bytes)) ∷ []) []) (cond b ((pgn, bytes) ∷ []) [])) (is_lane s d from to)
        (λ _ e. let p = and_parts (from.0 == s.0) (to.0 == d.0) e in inr (ap (λ (l : Lane). (l.sent + 1) ∷ []) (lane_is i st from to at place (eqb-true from.0 s.0 p.0) (eqb-true to.0 d.0 p.1)), refl))
        (λ _ e. inl (refl, refl)) refl

    next_each : Accepted seg AreNextBy
    next_each = record {
      station = λ i st at. record {
        opens = λ a pgn max_len q. inl (refl, refl);
        closes = λ port q is. inl (refl, refl);
        sends = λ from to pgn bytes q apart long short. sends_next i st from to pgn bytes at q;
        pumps = λ a to q. inl (refl, refl);
        transmits = λ a f q e free. inl (refl, refl);
        takes = λ a room f q e free. inl (refl, refl);
        repeats = λ a room f q e free. inl (refl, refl);
        overruns = λ a n q few. inl (refl, refl);
        fires = λ a q. inl (refl, refl);
        cancels = λ from to number q pending. inl (refl, refl);
        pauses = λ port q. inl (refl, refl);
        resumes = λ port q. inl (refl, refl);
      };
      ticks = λ n. inl (refl, refl);
      injects = λ f foreign free. inl (refl, refl);
    }

    next_call : (call : Call) → AreNextBy call (applied seg call)
    next_call call = each_applied seg AreNextBy next_each (λ c cause. inl (none_answered c cause, none_refused s d c cause)) call

  -- Along a record

  abbrev GoOn : Segment → Record → Segment → Type 0
  GoOn seg steps last = AreFrom ((lane_at seg s d).sent + 1) (numbers_of (all_answered steps))

  one_more : (seg next : Segment) (answers rest : List Answered) (messages : List Message) (events : List Event) → AreNext seg answers messages → Good s d seg next messages events
      → AreFrom ((lane_at next s d).sent + 1) (numbers_of rest) → AreFrom ((lane_at seg s d).sent + 1) (numbers_of (answers ++ rest))
  one_more seg next answers rest messages events (inl (none, without)) (inl g) h = absurd (let z : length messages ≡ 0 = ap (λ (xs : List Message). length xs) without in omega (arith, z, g.one))
  one_more seg next answers rest messages events (inl (none, without)) (inr g) h =
      subst (λ (xs : List Answered). AreFrom ((lane_at seg s d).sent + 1) (numbers_of (xs ++ rest))) (sym none) (subst (λ (k : ℕ). AreFrom (k + 1) (numbers_of rest)) g.ended.sent h)
  one_more seg next answers rest messages events (inr (is, some)) (inl g) h =
      subst (AreFrom ((lane_at seg s d).sent + 1)) (sym (map-append (λ (a : Answered). a.0) answers rest ∙ ap (λ (xs : List ℕ). xs ++ numbers_of rest) is))
      (refl, subst (λ (k : ℕ). AreFrom (k + 1) (numbers_of rest)) g.added.sent h)
  one_more seg next answers rest messages events (inr (is, some)) (inr g) h = absurd (let z : length messages ≡ 0 = ap (λ (xs : List Message). length xs) g.none in omega (arith, z, some))

pub are_numbered : (addresses : List Address) (steps : Record) (seg : Segment) → DriftsTo addresses steps seg → (s d : Address) → AreNumbered (answered steps s d) (sent steps s d)
are_numbered addresses steps seg h s d =
    let answers : List Answered = all_answered s d steps in
    let from : AreFrom 1 (numbers_of answers) = subst (λ (k : ℕ). AreFrom (k + 1) (numbers_of answers)) (new_sent s d addresses)
    (along_drift (GoOn s d) (λ seg r. tt)
    (λ seg call rest last r fit go. one_more s d seg (applied seg call).0 (answered_by s d call (applied seg call).1) (all_answered s d rest) (sent_by s d call (applied seg call).1) (events_of (applied seg call).1) (next_call s d seg call) (good_call s d seg r call) go)
    (λ seg tick steps last go. go) addresses steps seg h) in
    let is_sent : messages_of answers ≡ sent steps s d = messages_all s d steps ∙ sym (items_flat (λ step. sent_by s d step.0 step.1) 1 steps) in
    let own : Each (λ (a : Answered). item (sent steps s d) a.0 ≡ Some a.1) answers =
    subst (λ (ms : List Message). Each (λ (a : Answered). item ms a.0 ≡ Some a.1) answers) is_sent (own_items [] answers from) in
    subst (λ (xs : List Answered). AreNumbered xs (sent steps s d)) (sym (items_flat (λ step. answered_by s d step.0 step.1) 1 steps))
    (record { in_turn = from; its_own = each_all (λ (a : Answered). item (sent steps s d) a.0 ≡ Some a.1) answers own })
