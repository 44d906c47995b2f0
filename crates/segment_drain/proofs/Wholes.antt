-- A drain of any number of turns: its calls go on where a record stopped, and it ends at rest only where nothing is left.
use Rattle.std.proofs.Common.{◌≡◌, ℕ, zero, suc, ◌+◌, ◌^◌, ◌<◌, ◌≤◌, nat_lt, Bool, true, false, cond, ◌&&◌, List, [], ◌∷◌, ◌++◌, length, Option, Some, None, refl, sym, ap, ◌∙◌, subst, arith, true≢false, append-nil, append_assoc}
use Rattle.std.specs.Prelude.{is_some, unwrap_or}
use Rattle.std.specs.List.{list_all}
use Rattle.std.specs.Option.{option_map}
use Rattle.std.proofs.lemmas.Bool.{lt-ltb}
use Rattle.std.proofs.lemmas.List.{length-append}
use Rattle.std.proofs.lemmas.List.Folds.{list_all-append}
use Rattle.std.proofs.lemmas.Option.{none-some, same_Some}
use Rattle.pgn_ids.specs.declared.address.Address.{Address}
use Rattle.station_lanes.specs.LaneReaders.{least_below}
use Rattle.bus_order.specs.Bus.{bus_len}
use Rattle.segment_law.specs.Segment.{Segment, waiting_at}
use Rattle.segment_law.specs.Calls.{is_call, applied, events_of}
use Rattle.segment_law.specs.Readers.{pumps_to, front_at}
use Rattle.segment_law.specs.Record.{Step, Record, StandsAt}
use Rattle.segment_law.specs.declared.call.Call.{Call}
use Rattle.segment_law.specs.declared.call.Call.TheVariants.{Pump, Transmit, Take, Overrun, Fire, Cancel}
use Rattle.segment_law.specs.declared.refusal.Refusal.TheVariants as refusal
use Rattle.segment_law.specs.declared.reply.Reply.{Reply}
use Rattle.segment_law.specs.declared.reply.Reply.TheVariants.{Refused, Done}
use Rattle.segment_law.proofs.Booleans.{both_pass}
use Rattle.segment_law.proofs.Drifting.{stands_drifts}
use Rattle.segment_law.proofs.Records.{call_goes_on}
use Rattle.segment_law.specs.Drive.{events_in}
use Rattle.work_law.specs.ToAll.{ends_well, is_cancel, BroadcastsEnd}
use Rattle.work_law.specs.Rest.{Rests, Ends}
use Rattle.work_law.proofs.StationCalls.{least_found}
use Rattle.segment_drain.specs.Chosen.{node, can, lowest, furthest, next_tick, is_hold, or_else, pump_of, makes_room, waits_until, unblocked, untaken, next_of}
use Rattle.segment_drain.specs.Drains.{Drain, end_by, makes, turn_by, turn, turns_from, end_at, last_look, undrained, drained, is_drain_call, IsDrained}
use Rattle.segment_drain.specs.Rested.{IsAtRest}
use Rattle.segment_drain.specs.declared.choosing.Next.{Next}
use Rattle.segment_drain.specs.declared.choosing.Next.TheVariants.{Make, End}
use Rattle.segment_drain.specs.declared.drained.Drained as ran
use Rattle.segment_drain.specs.declared.end.DrainEnd.{DrainEnd}
use Rattle.segment_drain.specs.declared.end.DrainEnd.TheVariants as end
use Rattle.segment_drain.specs.declared.kind.Kind.{Kind}
use Rattle.segment_drain.specs.declared.kind.Kind.TheVariants as kind
use Rattle.segment_drain.proofs.Drains.{turn_on, turn_off, last_on, last_off}
use Rattle.segment_drain.proofs.Rests.{end_rests}

-- Its next call is one of six, and has values of its types

abbrev pub Fits : Next → Type 0
Fits (Make call) = (is_call call ≡ true) × (is_drain_call call ≡ true)
Fits (End why) = Unit {0}

or_fits : (o : Option Address) (call : Address → Call) (other : Next) → ((a : Address) → o ≡ Some a → Fits (Make (call a))) → Fits other → Fits (or_else o call other)
or_fits (Some a) call other h k = h a refl
or_fits None call other h k = k

pub lowest_small : (seg : Segment) (kind : Kind) (a : Address) → lowest seg kind ≡ Some a → a.0 < 254
lowest_small seg kind a e = by (least_below test 254) refl e
  where
    test : ℕ → Bool
    test n = can seg kind (node n)

    by : (o : Option ℕ) → least_below test 254 ≡ o → option_map node o ≡ Some a → a.0 < 254
    by None q is = absurd (none-some a is)
    by (Some k) q is = subst (λ (x : Address). x.0 < 254) (same_Some (node k) a is) (least_found test 254 k q).1

pub pump_fits : (seg : Segment) (a : Address) → a.0 < 254 → Fits (Make (pump_of seg a))
pump_fits seg a small = by (least_below (pumps_to seg a) 256) refl
  where
    by : (o : Option ℕ) → least_below (pumps_to seg a) 256 ≡ o → Fits (Make (Pump a (unwrap_or (option_map node o) a)))
    by None q = (lt-ltb a.0 256 (omega (arith, small)), refl)
    by (Some k) q = (lt-ltb k 256 (least_found (pumps_to seg a) 256 k q).1, refl)

either_fits : (b : Bool) (x y : Next) → Fits x → Fits y → Fits (cond b x y)
either_fits true x y h k = h
either_fits false x y h k = k

room_fits : (seg : Segment) (b : Bool) → Fits (cond b (Make (Overrun (furthest seg) (waiting_at seg (furthest seg)))) (End (end.Refused refusal.BusFull)))
room_fits seg true = (refl, refl)
room_fits seg false = tt

until_fits : (now : ℕ) (o : Option ℕ) → Fits (waits_until now o)
until_fits now None = tt
until_fits now (Some t) = (refl, refl)

pub next_fits : (seg : Segment) → Fits (next_of seg)
unfolding next_of
next_fits seg =
    or_fits (lowest seg kind.Take) (λ a. Take a true) (untaken seg) (λ a e. (refl, refl))
    (or_fits (lowest seg kind.Transmit) Transmit (cond (is_some (lowest seg kind.Blocked)) (makes_room seg) (unblocked seg)) (λ a e. (refl, refl))
    (either_fits (is_some (lowest seg kind.Blocked)) (makes_room seg) (unblocked seg) (room_fits seg (nat_lt (bus_len seg.bus + 1) (2 ^ 64)))
    (or_fits (lowest seg kind.Pump) (pump_of seg) (or_else (lowest seg kind.Fire) Fire (waits_until seg.now (next_tick seg))) (λ a e. pump_fits seg a (lowest_small seg kind.Pump a e))
    (or_fits (lowest seg kind.Fire) Fire (waits_until seg.now (next_tick seg)) (λ a e. (refl, refl)) (until_fits seg.now (next_tick seg))))))

-- What holds of a drain turn by turn

module _ (P : Drain → Type 0)
    (more : (d : Drain) (call : Call) → next_of d.segment ≡ Make call → P d → P (makes d call (applied d.segment call)))
    (over : (d : Drain) (why : DrainEnd) → P d → P (record d { ended = Some why })) where
  turn_keeps : (d : Drain) → P d → P (turn d)
  turn_keeps d h = by d.ended refl
    where
      next : (x : Next) → next_of d.segment ≡ x → P (turn_by d x)
      next (Make call) e = more d call e h
      next (End why) e = over d why h

      by : (o : Option DrainEnd) → d.ended ≡ o → P (turn d)
      by None e = subst P (sym (turn_on d e)) (next (next_of d.segment) refl)
      by (Some why) e = subst P (sym (turn_off d why e)) h

  last_keeps : (d : Drain) → P d → P (last_look d)
  last_keeps d h = by d.ended refl
    where
      by : (o : Option DrainEnd) → d.ended ≡ o → P (last_look d)
      by None e = subst P (sym (last_on d e)) (over d (end_at (next_of d.segment)) h)
      by (Some why) e = subst P (sym (last_off d why e)) h

  pub turns_keep : (start : Drain) → P start → (n : ℕ) → P (turns_from n start)
  unfolding turns_from
  turns_keep start h zero = h
  turns_keep start h (suc n) = turn_keeps (turns_from n start) (turns_keep start h n)

  pub drained_keeps : (seg : Segment) → P (undrained seg) → (n : ℕ) → P (drained seg n)
  unfolding drained
  drained_keeps seg h n = last_keeps (turns_from n (undrained seg)) (turns_keep (undrained seg) h n)

-- its calls go on where the record stopped
module _ (addresses : List Address) (steps : Record) where
  abbrev Stands : Drain → Type 0
  Stands d = StandsAt addresses (steps ++ d.calls) d.segment

  stands_more : (d : Drain) (call : Call) → next_of d.segment ≡ Make call → Stands d → Stands (makes d call (applied d.segment call))
  stands_more d call e k = subst (λ (all : Record). StandsAt addresses all (applied d.segment call).0) (append_assoc steps d.calls ((call, (applied d.segment call).1) ∷ [])) (call_goes_on addresses (steps ++ d.calls) d.segment call k (subst Fits e (next_fits d.segment)).0)

  stands_first : (seg : Segment) → StandsAt addresses steps seg → Stands (undrained seg)
  stands_first seg h = subst (λ (all : Record). StandsAt addresses all seg) (sym (append-nil steps)) h

  pub turns_stand : (seg : Segment) → StandsAt addresses steps seg → (n : ℕ) → StandsAt addresses (steps ++ (turns_from n (undrained seg)).calls) (turns_from n (undrained seg)).segment
  turns_stand seg h n = turns_keep Stands stands_more (λ d why k. k) (undrained seg) (stands_first seg h) n

  pub drain_stands : (seg : Segment) → StandsAt addresses steps seg → (n : ℕ) → StandsAt addresses (steps ++ (drained seg n).calls) (drained seg n).segment
  drain_stands seg h n = drained_keeps Stands stands_more (λ d why k. k) seg (stands_first seg h) n

-- only a Cancel ends a message to all otherwise than as broadcast, and it makes none
events_push : (xs : Record) (x : Step) → list_all ends_well (events_in xs) ≡ true → list_all ends_well (events_of x.1) ≡ true → list_all ends_well (events_in (xs ++ x ∷ [])) ≡ true
events_push [] x h k = ap (list_all ends_well) (append-nil (events_of x.1)) ∙ k
events_push (y ∷ ys) x h k =
    let q = both_pass (list_all ends_well (events_of y.1)) (list_all ends_well (events_in ys)) (sym (list_all-append ends_well (events_of y.1) (events_in ys)) ∙ h) in
    list_all-append ends_well (events_of y.1) (events_in (ys ++ x ∷ [])) ∙ (λ i. q.0 i && events_push ys x q.1 k i)

not_cancel : (call : Call) → is_drain_call call ≡ true → is_cancel call ≡ false
not_cancel (Cancel from to number) is = absurd (true≢false (sym is))
not_cancel call is = refl

pub drain_to_all : BroadcastsEnd → (addresses : List Address) (steps : Record) (seg : Segment) → StandsAt addresses steps seg → (n : ℕ) → list_all ends_well (events_in (drained seg n).calls) ≡ true
drain_to_all broadcasts addresses steps seg h n = (drained_keeps Both more (λ d why k. k) seg (stands_first addresses steps seg h, refl) n).1
  where
    Both : Drain → Type 0
    Both d = StandsAt addresses (steps ++ d.calls) d.segment × (list_all ends_well (events_in d.calls) ≡ true)

    more : (d : Drain) (call : Call) → next_of d.segment ≡ Make call → Both d → Both (makes d call (applied d.segment call))
    more d call e k =
        let fits = subst Fits e (next_fits d.segment) in
        (stands_more addresses steps d call e k.0, events_push d.calls (call, (applied d.segment call).1) k.1 (broadcasts addresses (steps ++ d.calls) d.segment call (stands_drifts addresses (steps ++ d.calls) d.segment k.0) fits.0 (not_cancel call fits.1)))

-- each of them is one of the six
all_push : (test : Step → Bool) (xs : Record) (x : Step) → list_all test xs ≡ true → test x ≡ true → list_all test (xs ++ x ∷ []) ≡ true
all_push test [] x h k = ap (λ b. b && true) k
all_push test (y ∷ ys) x h k = by (test y) h (λ q. all_push test ys x q k)
  where
    by : (b : Bool) → (b && list_all test ys) ≡ true → (list_all test ys ≡ true → list_all test (ys ++ x ∷ []) ≡ true) → (b && list_all test (ys ++ x ∷ [])) ≡ true
    by true q rest = rest q
    by false q rest = q

pub drain_calls : (seg : Segment) (n : ℕ) → list_all (λ (step : Step). is_drain_call step.0) (drained seg n).calls ≡ true
drain_calls seg = drained_keeps AreCalls more (λ d why k. k) seg refl
  where
    AreCalls : Drain → Type 0
    AreCalls d = list_all (λ (step : Step). is_drain_call step.0) d.calls ≡ true

    more : (d : Drain) (call : Call) → next_of d.segment ≡ Make call → AreCalls d → AreCalls (makes d call (applied d.segment call))
    more d call e k = all_push (λ (step : Step). is_drain_call step.0) d.calls (call, (applied d.segment call).1) k (subst Fits e (next_fits d.segment)).1

-- it makes at most one a turn
turn_few : (d : Drain) (n : ℕ) → length d.calls ≤ n → length (turn d).calls ≤ suc n
turn_few d n h = by d.ended refl
  where
    next : (x : Next) → length (turn_by d x).calls ≤ suc n
    next (Make call) = let e : length (d.calls ++ (call, (applied d.segment call).1) ∷ []) ≡ length d.calls + 1 = length-append d.calls ((call, (applied d.segment call).1) ∷ []) in omega (arith, e, h)
    next (End why) = omega (arith, h)

    by : (o : Option DrainEnd) → d.ended ≡ o → length (turn d).calls ≤ suc n
    by None e = subst (λ (x : Drain). length x.calls ≤ suc n) (sym (turn_on d e)) (next (next_of d.segment))
    by (Some why) e = subst (λ (x : Drain). length x.calls ≤ suc n) (sym (turn_off d why e)) (omega (arith, h))

turns_few : (seg : Segment) (n : ℕ) → length (turns_from n (undrained seg)).calls ≤ n
unfolding turns_from
turns_few seg zero = omega arith
turns_few seg (suc n) = turn_few (turns_from n (undrained seg)) n (turns_few seg n)

pub drain_few : (seg : Segment) (n : ℕ) → length (drained seg n).calls ≤ n
unfolding drained
drain_few seg n = by d.ended refl
  where
    d : Drain
    d = turns_from n (undrained seg)

    by : (o : Option DrainEnd) → d.ended ≡ o → length (last_look d).calls ≤ n
    by None e = subst (λ (x : Drain). length x.calls ≤ n) (sym (last_on d e)) (turns_few seg n)
    by (Some why) e = subst (λ (x : Drain). length x.calls ≤ n) (sym (last_off d why e)) (turns_few seg n)

-- Where it ends at rest

is_rest : DrainEnd → Bool
is_rest end.Rest = true
is_rest why = false

never_rest : (o : Option DrainEnd) (why : DrainEnd) → is_rest why ≡ false → o ≡ Some why → o ≡ Some end.Rest → ⊥
unfolding is_rest
never_rest o why apart e q = true≢false (ap is_rest (same_Some end.Rest why (sym q ∙ e)) ∙ apart)

held_or_on : (b : Bool) → cond b (Some end.Held) None ≡ Some end.Rest → ⊥
unfolding is_rest
held_or_on true e = never_rest (Some end.Held) end.Held refl refl e
held_or_on false e = none-some end.Rest e

call_never_rests : (call : Call) (after : Segment) (reply : Reply) → end_by after call reply ≡ Some end.Rest → ⊥
unfolding is_rest
call_never_rests call after (Refused cause) e = never_rest (Some (end.Refused cause)) (end.Refused cause) refl refl e
call_never_rests (Fire a) after (Done events) e = held_or_on (is_hold (front_at after a)) e
call_never_rests call after reply e = none-some end.Rest e

abbrev RestsWell : Drain → Type 0
RestsWell d = d.ended ≡ Some end.Rest → next_of d.segment ≡ End end.Rest

end_is : (x : Next) → end_at x ≡ end.Rest → x ≡ End end.Rest
unfolding is_rest
end_is (Make call) e = absurd (true≢false (sym (ap is_rest e)))
end_is (End why) e = ap (λ (w : DrainEnd). End w) e

turn_rests : (d : Drain) → RestsWell d → RestsWell (turn d)
turn_rests d h = by d.ended refl
  where
    next : (x : Next) → next_of d.segment ≡ x → RestsWell (turn_by d x)
    next (Make call) e q = absurd (call_never_rests call (applied d.segment call).0 (applied d.segment call).1 q)
    next (End why) e q = e ∙ ap (λ (w : DrainEnd). End w) (same_Some why end.Rest q)

    by : (o : Option DrainEnd) → d.ended ≡ o → RestsWell (turn d)
    by None e = subst RestsWell (sym (turn_on d e)) (next (next_of d.segment) refl)
    by (Some why) e = subst RestsWell (sym (turn_off d why e)) h

turns_rest : (seg : Segment) (n : ℕ) → RestsWell (turns_from n (undrained seg))
unfolding turns_from
turns_rest seg zero = λ q. absurd (none-some end.Rest q)
turns_rest seg (suc n) = turn_rests (turns_from n (undrained seg)) (turns_rest seg n)

pub drained_rests : (seg : Segment) (n : ℕ) → RestsWell (drained seg n)
unfolding drained
drained_rests seg n = by d.ended refl
  where
    d : Drain
    d = turns_from n (undrained seg)

    by : (o : Option DrainEnd) → d.ended ≡ o → RestsWell (last_look d)
    by None e = subst RestsWell (sym (last_on d e)) (λ q. end_is (next_of d.segment) (same_Some (end_at (next_of d.segment)) end.Rest q))
    by (Some why) e = subst RestsWell (sym (last_off d why e)) (turns_rest seg n)

pub drain_rests : (rests_law : Rests) (ends_law : Ends) (addresses : List Address) (steps : Record) (start seg : Segment) (turns : ℕ) (done : ran.Drained) → StandsAt addresses steps start → IsDrained (drained start turns) seg done → done.end ≡ end.Rest → IsAtRest (steps ++ (drained start turns).calls) seg
drain_rests rests_law ends_law addresses steps start seg turns done h is e =
    subst (λ (s : Segment). IsAtRest (steps ++ (drained start turns).calls) s) (sym is.shown.segment)
    (end_rests rests_law ends_law addresses (steps ++ (drained start turns).calls) (drained start turns).segment (drain_stands addresses steps start h turns) (drained_rests start turns (is.end ∙ ap (λ (w : DrainEnd). Some w) e)))
