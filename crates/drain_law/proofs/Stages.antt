-- How far a drain is: the segment, the frames and the events of so many turns, none of which ended it.
use Rattle.std.proofs.Common.{◌≡◌, ℕ, zero, suc, ◌+◌, List, [], ◌∷◌, ◌++◌, Option, Some, None, refl, sym, ap, ◌∙◌, subst, arith}
use Rattle.std.proofs.lemmas.List.{append-nil, append_assoc}
use Rattle.std.proofs.lemmas.Option.{none-some}
use Rattle.bus_frame.specs.Frames.{CanFrame}
use Rattle.message_events.specs.declared.event.Event.{Event}
use Rattle.segment_law.specs.Segment.{Segment}
use Rattle.segment_law.specs.Calls.{applied}
use Rattle.segment_law.specs.Drive.{events_in}
use Rattle.segment_law.specs.declared.call.Call.{Call}
use Rattle.segment_law.specs.declared.reply.Reply.{Reply}
use Rattle.segment_law.specs.declared.reply.Reply.TheVariants.{Done}
use Rattle.segment_core.specs.Transmits.{put_by}
use Rattle.exchange_law.proofs.broadcasts.Sweeps.{events-append}
use Rattle.segment_drain.specs.Chosen.{next_of}
use Rattle.segment_drain.specs.Drains.{Drain, end_by, makes, turn_by, turn, turns_from, undrained}
use Rattle.segment_drain.specs.declared.choosing.Next.{Next}
use Rattle.segment_drain.specs.declared.choosing.Next.TheVariants.{Make, End}
use Rattle.segment_drain.specs.declared.end.DrainEnd.{DrainEnd}
use Rattle.segment_drain.proofs.Drains.{turn_on, turn_off}

module _ (start : Segment) where
  pub record Stage (seg : Segment) (fs : List CanFrame) (es : List Event) : Type 0 where
    pub turns : ℕ
    pub on : (turns_from turns (undrained start)).ended ≡ None
    pub segment : (turns_from turns (undrained start)).segment ≡ seg
    pub frames : (turns_from turns (undrained start)).frames ≡ fs
    pub told : events_in (turns_from turns (undrained start)).calls ≡ es

  pub begins : Stage start [] []
  unfolding turns_from
  begins = record { turns = 0; on = refl; segment = refl; frames = refl; told = refl }

  -- a call that is done and doesn't end the drain
  module _ (seg next : Segment) (fs : List CanFrame) (es events : List Event) (call : Call) (h : Stage seg fs es)
      (chosen : next_of seg ≡ Make call) (does : applied seg call ≡ (next, Done events)) (on : end_by next call (Done events) ≡ None) where
    abbrev d : Drain
    d = turns_from h.turns (undrained start)

    made : turn d ≡ makes d call (next, Done events)
    made =
        turn_on d h.on
        ∙ ap (λ (s : Segment). turn_by d (next_of s)) h.segment
        ∙ ap (turn_by d) chosen
        ∙ ap (λ (s : Segment). makes d call (applied s call)) h.segment
        ∙ ap (makes d call) does

    pub goes : Stage next (fs ++ put_by seg call (Done events)) (es ++ events)
    unfolding turns_from
    goes = record {
      turns = suc h.turns;
      on = ap (λ (x : Drain). x.ended) made ∙ on;
      segment = ap (λ (x : Drain). x.segment) made;
      frames = ap (λ (x : Drain). x.frames) made ∙ (λ i. h.frames i ++ put_by (h.segment i) call (Done events));
      told = ap (λ (x : Drain). events_in x.calls) made ∙ events-append d.calls ((call, Done events) ∷ []) ∙ (λ i. h.told i ++ append-nil events i);
    }

-- ---- one drain after another

turns_add : (d : Drain) (a b : ℕ) → turns_from (b + a) d ≡ turns_from b (turns_from a d)
unfolding turns_from
turns_add d a zero = let n : 0 + a ≡ a = omega arith in ap (λ (k : ℕ). turns_from k d) n
turns_add d a (suc b) = (let n : suc b + a ≡ suc (b + a) = omega arith in ap (λ (k : ℕ). turns_from k d) n) ∙ ap turn (turns_add d a b)

-- a drain of which another has begun
record Follows (d x y : Drain) : Type 0 where
  on : y.ended ≡ None
  segment : y.segment ≡ x.segment
  frames : y.frames ≡ d.frames ++ x.frames
  calls : y.calls ≡ d.calls ++ x.calls

follows_turn : (d x y : Drain) → x.ended ≡ None → (turn x).ended ≡ None → Follows d x y → Follows d (turn x) (turn y)
follows_turn d x y here on h = by (next_of x.segment) refl
  where
    by : (n : Next) → next_of x.segment ≡ n → Follows d (turn x) (turn y)
    by (End why) e = absurd (none-some why (sym on ∙ ap (λ (z : Drain). z.ended) (turn_on x here ∙ ap (turn_by x) e)))
    by (Make call) e =
        let step : Segment × Reply = applied x.segment call in
        let xs : turn x ≡ makes x call step = turn_on x here ∙ ap (turn_by x) e in
        let ys : turn y ≡ makes y call step = turn_on y h.on ∙ ap (λ (s : Segment). turn_by y (next_of s)) h.segment ∙ ap (turn_by y) e ∙ ap (λ (s : Segment). makes y call (applied s call)) h.segment in
        record {
          on = ap (λ (z : Drain). z.ended) ys ∙ ap (λ (z : Drain). z.ended) (sym xs) ∙ on;
          segment = ap (λ (z : Drain). z.segment) ys ∙ ap (λ (z : Drain). z.segment) (sym xs);
          frames = ap (λ (z : Drain). z.frames) ys ∙ (λ i. h.frames i ++ put_by (h.segment i) call step.1) ∙ append_assoc d.frames x.frames (put_by x.segment call step.1) ∙ ap (λ (z : Drain). d.frames ++ z.frames) (sym xs);
          calls = ap (λ (z : Drain). z.calls) ys ∙ (λ i. h.calls i ++ (call, step.1) ∷ []) ∙ append_assoc d.calls x.calls ((call, step.1) ∷ []) ∙ ap (λ (z : Drain). d.calls ++ z.calls) (sym xs);
        }

module _ (start mid : Segment) (fs : List CanFrame) (es : List Event) (h : Stage start mid fs es) where
  abbrev d' : Drain
  d' = turns_from h.turns (undrained start)

  follows : (b : ℕ) → (turns_from b (undrained mid)).ended ≡ None → Follows d' (turns_from b (undrained mid)) (turns_from b d')
  unfolding turns_from
  follows zero on = record { on = h.on; segment = h.segment; frames = sym (append-nil d'.frames); calls = sym (append-nil d'.calls) }
  follows (suc b) on = by (turns_from b (undrained mid)).ended refl (follows b)
    where
      by : (o : Option DrainEnd) → (turns_from b (undrained mid)).ended ≡ o → ((turns_from b (undrained mid)).ended ≡ None → Follows d' (turns_from b (undrained mid)) (turns_from b d')) → Follows d' (turn (turns_from b (undrained mid))) (turn (turns_from b d'))
      by None e rest = follows_turn d' (turns_from b (undrained mid)) (turns_from b d') e on (rest e)
      by (Some why) e rest = absurd (none-some why (sym on ∙ ap (λ (z : Drain). z.ended) (turn_off (turns_from b (undrained mid)) why e) ∙ e))

  pub compose : (last : Segment) (gs : List CanFrame) (hs : List Event) → Stage mid last gs hs → Stage start last (fs ++ gs) (es ++ hs)
  compose last gs hs k =
      let x : Drain = turns_from k.turns (undrained mid) in
      let f : Follows d' x (turns_from k.turns d') = follows k.turns k.on in
      let same : turns_from (k.turns + h.turns) (undrained start) ≡ turns_from k.turns d' = turns_add (undrained start) h.turns k.turns in
      record {
        turns = k.turns + h.turns;
        on = ap (λ (z : Drain). z.ended) same ∙ f.on;
        segment = ap (λ (z : Drain). z.segment) same ∙ f.segment ∙ k.segment;
        frames = ap (λ (z : Drain). z.frames) same ∙ f.frames ∙ (λ i. h.frames i ++ k.frames i);
        told = ap (λ (z : Drain). events_in z.calls) same ∙ ap events_in f.calls ∙ events-append d'.calls x.calls ∙ (λ i. h.told i ++ k.told i);
      }
