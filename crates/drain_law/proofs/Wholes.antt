-- A drain of a ready segment ends each message that waits, one after another, and is then at rest.
use Rattle.std.proofs.Common.{◌≡◌, ◌≢◌, ◌⊎◌, inl, inr, ℕ, suc, ◌+◌, ◌<◌, ◌≤◌, ◌^◌, ◌==◌, nat_lt, Bool, true, false, cond, List, [], ◌∷◌, ◌++◌, length, Option, Some, None, refl, sym, ap, ◌∙◌, subst, arith}
use Rattle.std.proofs.lemmas.Bool.{cases_lt, lt-ltb, ne_eqb}
use Rattle.std.proofs.lemmas.List.{append-nil, append_assoc, length-append}
use Rattle.std.proofs.lemmas.Option.{none-some, same_Some}
use Rattle.bus_frame.specs.Frames.{CanFrame}
use Rattle.pgn_ids.specs.Address.{global_address}
use Rattle.pgn_ids.specs.declared.address.Address.{Address}
use Rattle.tp_wire.specs.declared.outcome.Outcome.TheVariants as outcome
use Rattle.bus_order.specs.Bus.{bus_len}
use Rattle.message_events.specs.declared.event.Event.{Event}
use Rattle.message_events.specs.declared.event.Event.TheVariants as event
use Rattle.segment_law.specs.Drive.{events_in}
use Rattle.segment_law.specs.Record.{Record, StandsAt}
use Rattle.segment_law.specs.Reached.{IsReached}
use Rattle.segment_law.specs.Segment.{Segment, station_at, lane_at}
use Rattle.segment_law.proofs.Records.{stands_reached}
use Rattle.exchange_law.proofs.Rows.{Laws}
use Rattle.work_law.specs.Storm.{WorkFalls, OverrunsFall}
use Rattle.segment_drain.specs.Chosen.{node, lowest, next_of}
use Rattle.segment_drain.specs.Drains.{Drain, turn_by, turn, turns_from, end_at, last_look, undrained, drained}
use Rattle.segment_drain.specs.Enough.{enough_turns}
use Rattle.segment_drain.specs.declared.choosing.Next.{Next}
use Rattle.segment_drain.specs.declared.choosing.Next.TheVariants.{Make, End}
use Rattle.segment_drain.specs.declared.end.DrainEnd.{DrainEnd}
use Rattle.segment_drain.specs.declared.end.DrainEnd.TheVariants as end
use Rattle.segment_drain.specs.declared.kind.Kind.TheVariants as kind
use Rattle.segment_drain.proofs.Drains.{turn_on, last_on, last_off, ended_stays}
use Rattle.segment_drain.proofs.Enough.{never_out}
use Rattle.segment_drain.proofs.Wholes.{turns_stand}
use Rattle.drain_law.specs.Waiting.{Waiting, IsReady, messages_of, frames_of_one, frames_of, events_of_one, events_of_all}
use Rattle.drain_law.specs.Ended.{AreEnded, EndByDestination}
use Rattle.drain_law.proofs.Stages.{Stage, begins, compose}
use Rattle.drain_law.proofs.Quiets.{HasEnded, one_ends}
use Rattle.drain_law.proofs.Ready.{ends_here, no_messages}
use Rattle.record_law.proofs.Tests.{equal_or_not}
use Rattle.drain_law.proofs.Lists.{Heads}
use Rattle.drain_law.proofs.Steps.{First, starts, none_at_all, first_of_all, all_messages, ready_again, all_same_frames, all_same_events}

-- two lists with the same first element and the same rest
heads : {X : Type 0} (x y : X) (xs ys : List X) → x ∷ xs ≡ y ∷ ys → (x ≡ y) × (xs ≡ ys)
heads x y xs ys e = (cc, cc)

none_some : {X : Type 0} (x : X) (xs : List X) → x ∷ xs ≡ [] → ⊥
none_some x xs e = absurd (let n : length (x ∷ xs) ≡ 0 = ap length e in omega (arith, n))

module _ (laws : Laws) (addresses : List Address) (steps : Record) (start : Segment) (stands : StandsAt addresses steps start) where
  -- all these messages have their outcomes, and no other waits
  record Done (fs : List CanFrame) (es : List Event) : Type 0 where
    pub last : Segment
    pub stage : Stage start last fs es
    pub reached : IsReached last
    pub ready : IsReady last
    pub none : (a to : ℕ) → a < 254 → to < 256 → (lane_at last (node a) (node to)).pending ≡ []

  module _ (seg : Segment) (fs : List CanFrame) (es : List Event) (stage : Stage start seg fs es) (ready : IsReady seg) where
    abbrev here : Record
    here = steps ++ (turns_from stage.turns (undrained start)).calls

    stands_here : StandsAt addresses here seg
    stands_here = subst (StandsAt addresses here) stage.segment (turns_stand addresses steps start stands stage.turns)

    reached_here : IsReached seg
    reached_here = stands_reached addresses here seg stands_here

  carry_all : (ws : List Waiting) (seg : Segment) (fs : List CanFrame) (es : List Event) → Stage start seg fs es → IsReady seg → messages_of seg ≡ ws → bus_len seg.bus + length (frames_of seg ws) < 2 ^ 64
      → Done (fs ++ frames_of seg ws) (es ++ events_of_all seg ws)
  carry_all [] seg fs es stage ready is room = by (lowest seg kind.Pump) refl
    where
      all : Record
      all = here seg fs es stage ready

      now : StandsAt addresses all seg
      now = stands_here seg fs es stage ready

      by : (o : Option Address) → lowest seg kind.Pump ≡ o → Done (fs ++ []) (es ++ [])
      by None e = subst (λ (z : List CanFrame × List Event). Done z.0 z.1) (λ i. (sym (append-nil fs) i, sym (append-nil es) i))
          (record { last = seg; stage = stage; reached = reached_here seg fs es stage ready; ready = ready; none = none_at_all addresses all seg now ready e })
      by (Some s) e =
          let f : First seg ready = first_of_all addresses all seg now ready s e in
          let h : Heads (messages_of seg) (f.s, f.d, f.m) = starts seg ready f in
          absurd (none_some (f.s, f.d, f.m) h.rest (sym h.is ∙ is))
  carry_all (w ∷ ws) seg fs es stage ready is room = by (lowest seg kind.Pump) refl (carry_all ws)
    where
      all : Record
      all = here seg fs es stage ready

      now : StandsAt addresses all seg
      now = stands_here seg fs es stage ready

      reached : IsReached seg
      reached = reached_here seg fs es stage ready

      Rest : Type 0
      Rest = (seg : Segment) (fs : List CanFrame) (es : List Event) → Stage start seg fs es → IsReady seg → messages_of seg ≡ ws → bus_len seg.bus + length (frames_of seg ws) < 2 ^ 64 → Done (fs ++ frames_of seg ws) (es ++ events_of_all seg ws)

      by : (o : Option Address) → lowest seg kind.Pump ≡ o → Rest → Done (fs ++ frames_of seg (w ∷ ws)) (es ++ events_of_all seg (w ∷ ws))
      by None e rest = absurd (none_some w ws (sym is ∙ no_messages seg reached ready (none_at_all addresses all seg now ready e)))
      by (Some s) e rest =
          let room_now : bus_len seg.bus + length (frames_of_one seg w ++ frames_of seg ws) < 2 ^ 64 = room in
          let f : First seg ready = first_of_all addresses all seg now ready s e in
          let h : Heads (messages_of seg) (f.s, f.d, f.m) = starts seg ready f in
          let same : (f.s, f.d, f.m) ≡ w = (heads (f.s, f.d, f.m) w h.rest ws (sym h.is ∙ is)).0 in
          let frames : frames_of_one seg (f.s, f.d, f.m) ≡ frames_of_one seg w = ap (frames_of_one seg) same in
          let long : length (frames_of_one seg w ++ frames_of seg ws) ≡ length (frames_of_one seg w) + length (frames_of seg ws) = length-append (frames_of_one seg w) (frames_of seg ws) in
          let as_long : length (frames_of_one seg (f.s, f.d, f.m)) ≡ length (frames_of_one seg w) = ap (λ (gs : List CanFrame). length gs) frames in
          let c : HasEnded seg f.s f.d f.m (frames_of_one seg (f.s, f.d, f.m)) (events_of_one seg (f.s, f.d, f.m)) = one_ends laws addresses all seg f.s f.d f.m now f.set f.chosen f.its (omega (arith, room_now, long, as_long)) in
          let left : ws ≡ messages_of c.after = (heads w (f.s, f.d, f.m) ws (messages_of c.after) (sym is ∙ all_messages seg ready f (frames_of_one seg (f.s, f.d, f.m)) (events_of_one seg (f.s, f.d, f.m)) reached c)).1 in
          let stage_next : Stage start c.after (fs ++ frames_of_one seg w) (es ++ events_of_one seg w) =
          subst (λ (x : Waiting). Stage start c.after (fs ++ frames_of_one seg x) (es ++ events_of_one seg x)) same (compose start seg fs es stage c.after (frames_of_one seg (f.s, f.d, f.m)) (events_of_one seg (f.s, f.d, f.m)) c.stage) in
          let same_frames : frames_of c.after ws ≡ frames_of seg ws = all_same_frames seg f.s f.d f.m (frames_of_one seg (f.s, f.d, f.m)) (events_of_one seg (f.s, f.d, f.m)) reached c ws in
          let same_length : length (frames_of c.after ws) ≡ length (frames_of seg ws) = ap (λ (gs : List CanFrame). length gs) same_frames in
          let room_next : bus_len c.after.bus + length (frames_of c.after ws) < 2 ^ 64 = omega (arith, room_now, long, as_long, same_length, c.resting.len) in
          let done = rest c.after (fs ++ frames_of_one seg w) (es ++ events_of_one seg w) stage_next (ready_again seg ready f (frames_of_one seg (f.s, f.d, f.m)) (events_of_one seg (f.s, f.d, f.m)) reached c) (sym left) room_next in
          subst (λ (z : List CanFrame × List Event). Done z.0 z.1) (λ i. (
            (ap (λ (gs : List CanFrame). (fs ++ frames_of_one seg w) ++ gs) same_frames ∙ append_assoc fs (frames_of_one seg w) (frames_of seg ws)) i,
            (ap (λ (hs : List Event). (es ++ events_of_one seg w) ++ hs) (all_same_events seg f.s f.d f.m (frames_of_one seg (f.s, f.d, f.m)) (events_of_one seg (f.s, f.d, f.m)) reached c ws) ∙ append_assoc es (events_of_one seg w) (events_of_all seg ws)) i,
          )) done

-- ---- the whole drain

-- a drain with enough turns that comes to its end is at rest there
module _ (falls : WorkFalls) (overruns_fall : OverrunsFall) (addresses : List Address) (steps : Record) (seg : Segment) (stands : StandsAt addresses steps seg) (turns : ℕ) (enough : enough_turns seg ≤ turns)
    (n : ℕ) (on : (turns_from n (undrained seg)).ended ≡ None) (ends : next_of (turns_from n (undrained seg)).segment ≡ End end.Rest) where
  abbrev x : Drain
  x = turns_from n (undrained seg)

  abbrev rested : Drain
  rested = record x { ended = Some end.Rest }

  next_turn : turns_from (suc n) (undrained seg) ≡ rested
  unfolding turns_from
  next_turn = turn_on x on ∙ ap (turn_by x) ends

  -- a drain that goes on is not over before
  before : turns < n → (turns_from turns (undrained seg)).ended ≡ None
  before lt = by (turns_from turns (undrained seg)).ended refl
    where
      by : (o : Option DrainEnd) → (turns_from turns (undrained seg)).ended ≡ o → o ≡ None
      by None e = refl
      by (Some why) e = absurd (none-some why (sym on ∙ ap (λ (z : Drain). z.ended) (ended_stays (undrained seg) why turns n (omega (arith, lt)) e) ∙ e))

  never_before : turns < n → ⊥
  unfolding drained turns_from
  never_before lt = by (next_of y.segment) refl
    where
      y : Drain
      y = turns_from turns (undrained seg)

      by : (k : Next) → next_of y.segment ≡ k → ⊥
      by (Make call) e = never_out falls overruns_fall addresses steps seg stands turns enough (ap (λ (z : Drain). z.ended) (last_on y (before lt)) ∙ ap (λ (k : Next). Some (end_at k)) e)
      by (End why) e =
          let over : (turns_from (suc turns) (undrained seg)).ended ≡ Some why = ap (λ (z : Drain). z.ended) (turn_on y (before lt) ∙ ap (turn_by y) e) in
          none-some why (sym on ∙ ap (λ (z : Drain). z.ended) (ended_stays (undrained seg) why (suc turns) n (omega (arith, lt)) over) ∙ over)

  whole_drain : drained seg turns ≡ rested
  unfolding drained
  whole_drain = by (cases_lt turns n) (equal_or_not turns n)
    where
      by : (turns < n) ⊎ (n ≤ turns) → (turns ≡ n) ⊎ (turns ≡ n → ⊥) → last_look (turns_from turns (undrained seg)) ≡ rested
      by (inl lt) same = absurd (never_before lt)
      by (inr le) (inl e) = ap (λ (k : ℕ). last_look (turns_from k (undrained seg))) e ∙ last_on x on ∙ ap (λ (k : Next). record x { ended = Some (end_at k) }) ends
      by (inr le) (inr ne) =
          let over : (turns_from (suc n) (undrained seg)).ended ≡ Some end.Rest = ap (λ (z : Drain). z.ended) next_turn in
          let same : turns_from turns (undrained seg) ≡ turns_from (suc n) (undrained seg) = ended_stays (undrained seg) end.Rest (suc n) turns (omega (arith, le, ne)) over in
          ap last_look (same ∙ next_turn) ∙ last_off rested end.Rest refl

module _ (falls : WorkFalls) (overruns_fall : OverrunsFall) (laws : Laws) where
  pub end_by_destination : EndByDestination
  unfolding drained
  end_by_destination addresses steps seg turns stands ready places enough = record {
    frames = ap (λ (x : Drain). x.frames) whole ∙ done.stage.frames;
    events = ap (λ (x : Drain). events_in x.calls) whole ∙ done.stage.told;
    ended = ap (λ (x : Drain). x.ended) whole;
    ready = subst IsReady (sym (ap (λ (x : Drain). x.segment) whole ∙ done.stage.segment)) done.ready;
    empty = ap messages_of (ap (λ (x : Drain). x.segment) whole ∙ done.stage.segment) ∙ no_messages done.last done.reached done.ready done.none;
  }
    where
      done : Done laws addresses steps seg stands (frames_of seg (messages_of seg)) (events_of_all seg (messages_of seg))
      done = carry_all laws addresses steps seg stands (messages_of seg) seg [] [] (begins seg) ready refl places

      whole : drained seg turns ≡ record (turns_from done.stage.turns (undrained seg)) { ended = Some end.Rest }
      whole = whole_drain falls overruns_fall addresses steps seg stands turns enough (done.stage.turns) done.stage.on (ap next_of done.stage.segment ∙ ends_here done.last done.reached done.ready done.none)
