-- Enough turns end a drain.
use Rattle.std.proofs.Common.{◌≡◌, ◌≢◌, ℕ, zero, suc, ◌+◌, ◌*◌, ◌^◌, ◌≤◌, Bool, true, false, cond, List, ◌++◌, length, Option, Some, None, refl, sym, ap, ◌∙◌, subst, arith}
use Rattle.std.proofs.lemmas.Option.{same_Some, none-some}
use Rattle.pgn_ids.specs.declared.address.Address.{Address}
use Rattle.bus_order.specs.Bus.{bus_len}
use Rattle.segment_law.specs.Segment.{Segment, new_segment}
use Rattle.segment_law.specs.Calls.{applied}
use Rattle.segment_law.specs.Readers.{front_at}
use Rattle.segment_law.specs.Record.{Record, StandsAt}
use Rattle.segment_law.specs.declared.call.Call.{Call}
use Rattle.segment_law.specs.declared.call.Call.TheVariants.{Fire}
use Rattle.segment_law.specs.declared.refusal.Refusal.{Refusal}
use Rattle.segment_law.specs.declared.reply.Reply.{Reply}
use Rattle.segment_law.specs.declared.reply.Reply.TheVariants.{Done}
use Rattle.segment_law.specs.Reached.{IsReached}
use Rattle.segment_law.proofs.Records.{stands_reached}
use Rattle.segment_law.proofs.Drifting.{stands_drifts}
use Rattle.message_events.specs.declared.event.Event.{Event}
use Rattle.segment_state.specs.Next.{any_work}
use Rattle.work_law.specs.Work.{work}
use Rattle.work_law.specs.Course.{each_turn}
use Rattle.work_law.specs.Storm.{allowances, WorkFalls, OverrunsFall, NoStorm}
use Rattle.work_law.proofs.Ending.{paid}
use Rattle.segment_drain.specs.Chosen.{is_hold, next_of}
use Rattle.segment_drain.specs.Drains.{Drain, end_by, turn_by, turn, turns_from, end_at, last_look, undrained, drained, IsDrained}
use Rattle.segment_drain.specs.Enough.{calls_left, enough_turns, HasEnough}
use Rattle.segment_drain.specs.Calm.{AreCalm}
use Rattle.segment_drain.specs.declared.choosing.Next.{Next}
use Rattle.segment_drain.specs.declared.choosing.Next.TheVariants.{Make, End}
use Rattle.segment_drain.specs.declared.drained.Drained as ran
use Rattle.segment_drain.specs.declared.end.DrainEnd.{DrainEnd}
use Rattle.segment_drain.specs.declared.end.DrainEnd.TheVariants as end
use Rattle.segment_drain.proofs.Drains.{turn_on, turn_off, last_on, last_off}
use Rattle.segment_drain.proofs.Wholes.{Fits, next_fits, turns_stand}
use Rattle.segment_drain.proofs.Calm.{calm_call, no_pause}
use Rattle.segment_drain.proofs.Rests.{done_ok}
use Rattle.segment_drain.proofs.Falling.{calm_fire, IsMade, Advances, WorksOff, GoesOn, IsHeld, Turns, Goes, next_goes}

-- twice the work, and one where the clock has to go on first
idle : Segment → ℕ
idle seg = cond {A = ℕ} (any_work seg seg.now) 0 1

left : ℕ → Segment → ℕ
left hold seg = 2 * work (paid hold) seg + idle seg

idle_most : (seg : Segment) → idle seg ≤ 1
unfolding idle
idle_most seg = by (any_work seg seg.now)
  where
    by : (b : Bool) → cond {A = ℕ} b 0 1 ≤ 1
    by true = omega arith
    by false = omega arith

-- a call that doesn't end the drain leaves less
lessens : (hold : ℕ) (seg : Segment) (call : Call) → Advances hold seg call → end_by (applied seg call).0 call (applied seg call).1 ≡ None → left hold (applied seg call).0 + 1 ≤ left hold seg
unfolding left idle
lessens hold seg call (WorksOff less) on = let m : idle (applied seg call).0 ≤ 1 = idle_most (applied seg call).0 in omega (arith, less, m)
lessens hold seg call (GoesOn kept len before then) on =
    let b : idle seg ≡ 1 = ap (λ (x : Bool). cond {A = ℕ} x 0 1) before in
    let t : idle (applied seg call).0 ≡ 0 = ap (λ (x : Bool). cond {A = ℕ} x 0 1) then in
    omega (arith, kept, b, t)
lessens hold seg call (IsHeld e) on = absurd (none-some end.Held (sym on ∙ e))

-- nor does it need more places of the bus than what is worked off
fits : (hold : ℕ) (seg : Segment) (call : Call) → IsMade seg call → Advances hold seg call → end_by (applied seg call).0 call (applied seg call).1 ≡ None → bus_len (applied seg call).0.bus + work (paid hold) (applied seg call).0 ≤ bus_len seg.bus + work (paid hold) seg
fits hold seg call m (WorksOff less) on = let l = m.len in omega (arith, less, l)
fits hold seg call m (GoesOn kept len before then) on = omega (arith, kept, len)
fits hold seg call m (IsHeld e) on = absurd (none-some end.Held (sym on ∙ e))

-- no more is left than what was asked for
pub asked_most : NoStorm → (addresses : List Address) (steps : Record) (seg : Segment) → StandsAt addresses steps seg → calls_left seg ≤ allowances (each_turn seg) (new_segment addresses) steps
asked_most law addresses steps seg h = let e = law (each_turn seg) addresses steps seg h in omega (arith, e)

module _ (falls : WorkFalls) (overruns_fall : OverrunsFall) (addresses : List Address) (steps : Record) (start : Segment) (h : StandsAt addresses steps start) where
  abbrev hold : ℕ
  hold = 2 + length start.stations

  abbrev at_turn : ℕ → Drain
  at_turn n = turns_from n (undrained start)

  goes_at : (n : ℕ) → length (at_turn n).segment.stations ≡ length start.stations → Goes hold (at_turn n).segment (next_of (at_turn n).segment)
  goes_at n same = next_goes falls overruns_fall hold addresses (steps ++ (at_turn n).calls) (at_turn n).segment (stands_drifts addresses (steps ++ (at_turn n).calls) (at_turn n).segment (turns_stand addresses steps start h n)) (omega (arith, same))

  -- Each turn leaves less

  record Less (n : ℕ) (d : Drain) : Type 0 where
    stations : length d.segment.stations ≡ length start.stations
    less : d.ended ≡ None → left hold d.segment + n ≤ left hold start
    places : d.ended ≡ None → bus_len d.segment.bus + work (paid hold) d.segment ≤ bus_len start.bus + work (paid hold) start

  turn_lessens : (n : ℕ) → Less n (at_turn n) → Less (suc n) (turn (at_turn n))
  turn_lessens n k = by d.ended refl
    where
      d : Drain
      d = at_turn n

      next : d.ended ≡ None → (x : Next) → Goes hold d.segment x → Less (suc n) (turn_by d x)
      next on (Make call) g = record {
        stations = g.made.stations ∙ k.stations;
        less = λ e. (let l : left hold (applied d.segment call).0 + 1 ≤ left hold d.segment = lessens hold d.segment call g.advances e in let m : left hold d.segment + n ≤ left hold start = k.less on in omega (arith, l, m));
        places = λ e. (let l = fits hold d.segment call g.made g.advances e in let m = k.places on in omega (arith, l, m));
      }
      next on (End why) g = record { stations = k.stations; less = λ e. absurd (none-some why (sym e)); places = λ e. absurd (none-some why (sym e)) }

      by : (o : Option DrainEnd) → d.ended ≡ o → Less (suc n) (turn d)
      by None e = subst (Less (suc n)) (sym (turn_on d e)) (next e (next_of d.segment) (goes_at n k.stations))
      by (Some why) e = subst (Less (suc n)) (sym (turn_off d why e)) (record { stations = k.stations; less = λ q. absurd (none-some why (sym q ∙ e)); places = λ q. absurd (none-some why (sym q ∙ e)) })

  turns_lessen : (n : ℕ) → Less n (at_turn n)
  unfolding turns_from
  turns_lessen zero = record { stations = refl; less = λ e. omega arith; places = λ e. omega arith }
  turns_lessen (suc n) = turn_lessens n (turns_lessen n)

  -- so enough of them end it
  ends : (n : ℕ) → enough_turns start ≤ n → (at_turn n).ended ≡ None → ⊥
  unfolding left idle
  ends n enough on =
      let l : left hold (at_turn n).segment + n ≤ left hold start = (turns_lessen n).less on in
      let m : idle start ≤ 1 = idle_most start in
      omega (arith, l, m, enough)

  -- Why a drain ends

  -- the last place of the bus is used, though there were places for all that is left
  pub record IsOut (seg : Segment) : Type 0 where
    pub last : 2 ^ 64 ≤ bus_len seg.bus + 1
    pub before : bus_len seg.bus + work (paid hold) seg ≤ bus_len start.bus + work (paid hold) start

  -- a turn ends it as none, as at rest, as held, or since the last place of the bus is used
  abbrev Fair : Segment → Option DrainEnd → Type 0
  Fair seg None = Unit {0}
  Fair seg (Some end.Rest) = bus_len seg.bus + work (paid hold) seg ≤ bus_len start.bus + work (paid hold) start
  Fair seg (Some end.Held) = Unit {0}
  Fair seg (Some (end.Refused cause)) = IsOut seg
  Fair seg (Some why) = ⊥

  end_fair : (n : ℕ) → (at_turn n).ended ≡ None → (why : DrainEnd) → Goes hold (at_turn n).segment (End why) → Fair (at_turn n).segment (Some why)
  end_fair n on end.Rest g = (turns_lessen n).places on
  end_fair n on (end.Refused cause) g = record { last = g; before = (turns_lessen n).places on }
  end_fair n on end.Held g = absurd g
  end_fair n on end.Turns g = absurd g
  end_fair n on end.OutOfMemory g = absurd g

  call_fair : (call : Call) (after : Segment) (events : List Event) → Fair after (end_by after call (Done events))
  call_fair (Fire a) after events = by (is_hold (front_at after a))
    where
      by : (b : Bool) → Fair after (cond b (Some end.Held) None)
      by true = tt
      by false = tt
  call_fair call after events = tt

  turn_fair : (n : ℕ) → Fair (at_turn n).segment (at_turn n).ended → Fair (turn (at_turn n)).segment (turn (at_turn n)).ended
  turn_fair n k = by d.ended refl
    where
      d : Drain
      d = at_turn n

      next : d.ended ≡ None → (x : Next) → Goes hold d.segment x → Fair (turn_by d x).segment (turn_by d x).ended
      next on (Make call) g = subst (λ (reply : Reply). Fair (applied d.segment call).0 (end_by (applied d.segment call).0 call reply)) (sym g.made.done) (call_fair call (applied d.segment call).0 g.made.events)
      next on (End why) g = end_fair n on why g

      by : (o : Option DrainEnd) → d.ended ≡ o → Fair (turn d).segment (turn d).ended
      by None e = subst (λ (x : Drain). Fair x.segment x.ended) (sym (turn_on d e)) (next e (next_of d.segment) (goes_at n (turns_lessen n).stations))
      by (Some why) e = subst (λ (x : Drain). Fair x.segment x.ended) (sym (turn_off d why e)) k

  turns_fair : (n : ℕ) → Fair (at_turn n).segment (at_turn n).ended
  unfolding turns_from
  turns_fair zero = tt
  turns_fair (suc n) = turn_fair n (turns_fair n)

  -- the last look

  ended_fair : (n : ℕ) (why x : DrainEnd) → (at_turn n).ended ≡ Some why → (drained start n).ended ≡ Some x → Fair (at_turn n).segment (Some x)
  unfolding drained
  ended_fair n why x q e = subst (Fair (at_turn n).segment) (ap (λ (z : Drain). z.ended) (sym (last_off (at_turn n) why q)) ∙ e) (turns_fair n)

  pub never_out : (n : ℕ) → enough_turns start ≤ n → (drained start n).ended ≡ Some end.Turns → ⊥
  never_out n enough e = by (at_turn n).ended refl
    where
      by : (o : Option DrainEnd) → (at_turn n).ended ≡ o → ⊥
      by None q = ends n enough q
      by (Some why) q = ended_fair n why end.Turns q e

  looked_fair : (n : ℕ) → (at_turn n).ended ≡ None → (x : Next) (cause : Refusal) → Goes hold (at_turn n).segment x → Some (end_at x) ≡ Some (end.Refused cause) → IsOut (at_turn n).segment
  looked_fair n on (Make call) cause g e = absurd (cc)
  looked_fair n on (End why) cause g e = subst (Fair (at_turn n).segment) e (end_fair n on why g)

  pub out_of_places : (n : ℕ) (cause : Refusal) → (drained start n).ended ≡ Some (end.Refused cause) → IsOut (drained start n).segment
  unfolding drained
  out_of_places n cause e = by (at_turn n).ended refl
    where
      d : Drain
      d = at_turn n

      by : (o : Option DrainEnd) → d.ended ≡ o → IsOut (last_look d).segment
      by None q = subst (λ (x : Drain). IsOut x.segment) (sym (last_on d q)) (looked_fair n q (next_of d.segment) cause (goes_at n (turns_lessen n).stations) (ap (λ (x : Drain). x.ended) (sym (last_on d q)) ∙ e))
      by (Some why) q = subst (λ (x : Drain). IsOut x.segment) (sym (last_off d why q)) (ended_fair n why (end.Refused cause) q e)

  looked_within : (n : ℕ) → (at_turn n).ended ≡ None → (x : Next) → Goes hold (at_turn n).segment x → Some (end_at x) ≡ Some end.Rest → bus_len (at_turn n).segment.bus + work (paid hold) (at_turn n).segment ≤ bus_len start.bus + work (paid hold) start
  looked_within n on (Make call) g e = absurd (cc)
  looked_within n on (End why) g e = subst (Fair (at_turn n).segment) e (end_fair n on why g)

  -- at rest there are places for what is left
  pub rest_within : (n : ℕ) → (drained start n).ended ≡ Some end.Rest → bus_len (drained start n).segment.bus + work (paid hold) (drained start n).segment ≤ bus_len start.bus + work (paid hold) start
  unfolding drained
  rest_within n e = by (at_turn n).ended refl
    where
      d : Drain
      d = at_turn n

      by : (o : Option DrainEnd) → d.ended ≡ o → bus_len (last_look d).segment.bus + work (paid hold) (last_look d).segment ≤ bus_len start.bus + work (paid hold) start
      by None q = subst (λ (x : Drain). bus_len x.segment.bus + work (paid hold) x.segment ≤ bus_len start.bus + work (paid hold) start) (sym (last_on d q)) (looked_within n q (next_of d.segment) (goes_at n (turns_lessen n).stations) (ap (λ (x : Drain). x.ended) (sym (last_on d q)) ∙ e))
      by (Some why) q = subst (λ (x : Drain). bus_len x.segment.bus + work (paid hold) x.segment ≤ bus_len start.bus + work (paid hold) start) (sym (last_off d why q)) (ended_fair n why end.Rest q e)

  -- Without a paused port and a session on hold

  never_held : (call : Call) (seg : Segment) → IsReached seg → AreCalm seg → Turns hold seg call → end_by (applied seg call).0 call (applied seg call).1 ≡ Some end.Held → ⊥
  never_held (Fire a) seg r calm g e =
      let h : is_hold (front_at (applied seg (Fire a)).0 a) ≡ false = calm_fire seg r calm (g.fires refl) a (done_ok seg (Fire a) g.made.events g.made.done) in
      none-some end.Held (sym (ap (end_by (applied seg (Fire a)).0 (Fire a)) g.made.done ∙ ap (λ b. cond {A = Option DrainEnd} b (Some end.Held) None) h) ∙ e)
  never_held call seg r calm g e = none-some end.Held (sym (ap (end_by (applied seg call).0 call) g.made.done) ∙ e)

  module _ (calm : AreCalm start) where
    record StaysCalm (d : Drain) : Type 0 where
      segment : AreCalm d.segment
      never : d.ended ≡ Some end.Held → ⊥

    end_unheld : (seg : Segment) (why : DrainEnd) → Goes hold seg (End why) → Some why ≡ Some end.Held → ⊥
    end_unheld seg why g e = subst (λ (w : DrainEnd). Goes hold seg (End w)) (same_Some why end.Held e) g

    turn_calm : (n : ℕ) → StaysCalm (at_turn n) → StaysCalm (turn (at_turn n))
    turn_calm n k = by d.ended refl
      where
        d : Drain
        d = at_turn n

        reached : IsReached d.segment
        reached = stands_reached addresses (steps ++ d.calls) d.segment (turns_stand addresses steps start h n)

        next : (x : Next) → next_of d.segment ≡ x → Goes hold d.segment x → StaysCalm (turn_by d x)
        next (Make call) is g = record { segment = calm_call d.segment k.segment call (no_pause call (subst Fits is (next_fits d.segment)).1); never = never_held call d.segment reached k.segment g }
        next (End why) is g = record { segment = k.segment; never = end_unheld d.segment why g }

        by : (o : Option DrainEnd) → d.ended ≡ o → StaysCalm (turn d)
        by None e = subst StaysCalm (sym (turn_on d e)) (next (next_of d.segment) refl (goes_at n (turns_lessen n).stations))
        by (Some why) e = subst StaysCalm (sym (turn_off d why e)) k

    turns_calm : (n : ℕ) → StaysCalm (at_turn n)
    unfolding turns_from
    turns_calm zero = record { segment = calm; never = λ e. none-some end.Held e }
    turns_calm (suc n) = turn_calm n (turns_calm n)

    looked_unheld : (seg : Segment) (x : Next) → Goes hold seg x → Some (end_at x) ≡ Some end.Held → ⊥
    looked_unheld seg (Make call) g e = (let z : end.Turns ≡ end.Held = same_Some end.Turns end.Held e in absurd (cc))
    looked_unheld seg (End why) g e = end_unheld seg why g e

    pub unheld : (n : ℕ) → (drained start n).ended ≡ Some end.Held → ⊥
    unfolding drained
    unheld n e = by d.ended refl
      where
        d : Drain
        d = at_turn n

        by : (o : Option DrainEnd) → d.ended ≡ o → ⊥
        by None q = looked_unheld d.segment (next_of d.segment) (goes_at n (turns_lessen n).stations) (ap (λ (x : Drain). x.ended) (sym (last_on d q)) ∙ e)
        by (Some why) q = (turns_calm n).never (ap (λ (x : Drain). x.ended) (sym (last_off d why q)) ∙ e)

  -- What the code returns

  module _ (turns : ℕ) (done : ran.Drained) (seg : Segment) (is : done.end ≢ end.OutOfMemory → IsDrained (drained start turns) seg done) where
    ended_as : (why : DrainEnd) → done.end ≡ why → (why ≡ end.OutOfMemory → ⊥) → (drained start turns).ended ≡ Some why
    ended_as why e apart = (is (λ q. apart (sym e ∙ q))).end ∙ ap (λ (w : DrainEnd). Some w) e

    pub enough_end : enough_turns start ≤ turns → done.end ≢ end.Turns
    enough_end enough e = never_out turns enough (ended_as end.Turns e (λ q. (let z : end.Turns ≡ end.OutOfMemory = q in absurd (cc))))

    out_end : (cause : Refusal) → done.end ≡ end.Refused cause → IsOut (drained start turns).segment
    out_end cause e = out_of_places turns cause (ended_as (end.Refused cause) e (λ q. (let z : end.Refused cause ≡ end.OutOfMemory = q in absurd (cc))))

    pub refused_end : (cause : Refusal) → done.end ≡ end.Refused cause → 2 ^ 64 ≤ bus_len seg.bus + 1
    refused_end cause e =
        let shown : IsDrained (drained start turns) seg done = is (λ q. (let z : end.Refused cause ≡ end.OutOfMemory = sym e ∙ q in absurd (cc))) in
        subst (λ (s : Segment). 2 ^ 64 ≤ bus_len s.bus + 1) (sym shown.shown.segment) (out_end cause e).last

    pub held_end : AreCalm start → done.end ≢ end.Held
    held_end calm e = unheld calm turns (ended_as end.Held e (λ q. (let z : end.Held ≡ end.OutOfMemory = q in absurd (cc))))

    -- so only the end at rest is left
    pub rest_end : HasEnough start turns → done.end ≢ end.OutOfMemory → done.end ≡ end.Rest
    rest_end enough some = by done.end refl
      where
        by : (why : DrainEnd) → done.end ≡ why → done.end ≡ end.Rest
        by end.Rest e = e
        by end.Held e = absurd (held_end enough.calm e)
        by end.Turns e = absurd (enough_end enough.turns_left e)
        by (end.Refused cause) e = let o = out_end cause e in let p = enough.places in absurd (omega (arith, o.last, o.before, p))
        by end.OutOfMemory e = absurd (some e)
