-- What the steps of a record tell stands at their places, in their order; and only a Send that isn't refused tells a message
-- that is sent, to another station than its own.
use Rattle.std.proofs.Common.{◌≡◌, ℕ, zero, suc, ◌+◌, ◌<◌, ◌≤◌, ◌==◌, ◌^◌, ◌%◌, ◌/◌, ◌*◌, ◌||◌, not, nat_lt, Bool, true, false, cond, List, [], ◌∷◌, ◌++◌, map, length, Option, Some, None, refl, sym, ap, ◌∙◌, subst, arith, append-nil, append_assoc}
use Rattle.std.specs.Prelude.{slice_get}
use Rattle.std.proofs.lemmas.Bool.{and_parts, ltb-true, eqb-true, eq-eqb, true≢false}
use Rattle.std.proofs.lemmas.List.{map-append}
use Rattle.pgn_ids.specs.Pgn.{is_pdu1, is_pgn, clean}
use Rattle.pgn_ids.specs.declared.address.Address.{Address}
use Rattle.station_core.specs.Sending.{lane_of}
use Rattle.message_events.specs.declared.event.Event.{Event}
use Rattle.segment_law.specs.Told.{Message, Placed, told_from, items_of, places_of, sent_by, is_lane}
use Rattle.segment_law.specs.Numbering.{item, IsAfter}
use Rattle.segment_law.specs.Segment.{Segment}
use Rattle.segment_law.specs.Calls.{applied}
use Rattle.segment_law.specs.Record.{Step, Record}
use Rattle.segment_law.specs.declared.call.Call.{Call}
use Rattle.segment_law.specs.declared.call.Call.TheVariants.{Open, Close, Send, Pump, Transmit, Take, TakeAgain, Overrun, Tick, Fire, Cancel, Inject, Pause, Resume}
use Rattle.segment_law.specs.declared.refusal.Refusal.{Refusal}
use Rattle.segment_law.specs.declared.reply.Reply.{Reply}
use Rattle.segment_law.specs.declared.reply.Reply.TheVariants.{Sent, Refused, Done}
use Rattle.record_law.proofs.EachCall.{Accepted, each_applied}
use Rattle.record_law.proofs.Lists.{Each}
use Rattle.record_law.proofs.Segments.{has_address}
use Rattle.record_law.proofs.Tests.{on_test}

-- What steps tell

pub items_placed : {A : Type 0} (place : ℕ) (xs : List A) → items_of (map (λ (x : A). (place, x)) xs) ≡ xs
items_placed place [] = refl
items_placed place (x ∷ xs) = ap (λ ys. x ∷ ys) (items_placed place xs)

pub told_last : {A : Type 0} (tells : Step → List A) (place : ℕ) (steps : Record) (x : Step) → told_from tells place (steps ++ x ∷ []) ≡ told_from tells place steps ++ map (λ (y : A). (place + length steps, y)) (tells x)
told_last {A} tells place [] x =
    let e : place ≡ place + 0 = omega arith in
    append-nil (map (λ (y : A). (place, y)) (tells x)) ∙ ap (λ n. map (λ (y : A). (n, y)) (tells x)) e
told_last {A} tells place (w ∷ steps) x =
    let e : (place + 1) + length steps ≡ place + length (w ∷ steps) = omega arith in
    ap (λ ys. map (λ (y : A). (place, y)) (tells w) ++ ys) (told_last tells (place + 1) steps x ∙ ap (λ n. told_from tells (place + 1) steps ++ map (λ (y : A). (n, y)) (tells x)) e)
    ∙ sym (append_assoc (map (λ (y : A). (place, y)) (tells w)) (told_from tells (place + 1) steps) (map (λ (y : A). (place + length (w ∷ steps), y)) (tells x)))

-- all of it, without places

abbrev pub flat : {A : Type 0} → (Step → List A) → Record → List A
flat tells [] = []
flat tells (step ∷ steps) = tells step ++ flat tells steps

pub items_flat : {A : Type 0} (tells : Step → List A) (place : ℕ) (steps : Record) → items_of (told_from tells place steps) ≡ flat tells steps
items_flat tells place [] = refl
items_flat {A} tells place (step ∷ steps) = map-append (λ (z : Placed A). z.1) (map (λ (x : A). (place, x)) (tells step)) (told_from tells (place + 1) steps) ∙ (λ k. items_placed place (tells step) k ++ items_flat tells (place + 1) steps k)

pub flat_append : {A : Type 0} (tells : Step → List A) (xs ys : Record) → flat tells (xs ++ ys) ≡ flat tells xs ++ flat tells ys
flat_append tells [] ys = refl
flat_append tells (x ∷ xs) ys = ap (λ zs. tells x ++ zs) (flat_append tells xs ys) ∙ sym (append_assoc (tells x) (flat tells xs) (flat tells ys))

-- What was sent

pub item_more : {A : Type 0} (xs ys : List A) (n : ℕ) (x : A) → item xs n ≡ Some x → item (xs ++ ys) n ≡ Some x
item_more xs ys zero x e = absurd (cc)
item_more xs ys (suc n) x e = got xs n e
  where
    got : (xs : List _) (k : ℕ) → slice_get xs k ≡ Some x → slice_get (xs ++ ys) k ≡ Some x
    got [] k e = absurd (cc)
    got (z ∷ xs) zero e = e
    got (z ∷ xs) (suc k) e = got xs k e

pub after_more : (xs ys : List ℕ) (n place : ℕ) → IsAfter (item xs n) place → IsAfter (item (xs ++ ys) n) place
after_more xs ys n place h = by (item xs n) refl h
  where
    by : (o : Option ℕ) → item xs n ≡ o → IsAfter o place → IsAfter (item (xs ++ ys) n) place
    by None e k = absurd k
    by (Some x) e k = subst (λ o. IsAfter o place) (sym (item_more xs ys n x e)) k

pub after_all : (sends : List (Placed Message)) (n place : ℕ) → Each (λ (x : Placed Message). x.0 < place) sends → 0 < n → n ≤ length sends → IsAfter (item (places_of sends) n) place
after_all sends zero place h some within = absurd (omega (arith, some))
after_all sends (suc n) place h some within = got sends n h (omega (arith, within))
  where
    got : (xs : List (Placed Message)) (k : ℕ) → Each (λ (x : Placed Message). x.0 < place) xs → k < length xs → IsAfter (slice_get (places_of xs) k) place
    got [] k h l = absurd (omega (arith, l))
    got (x ∷ xs) zero h l = h.0
    got (x ∷ xs) (suc k) h l = got xs k h.1 (omega (arith, l))

-- a PGN is meant as it is
pub clean_is : (pgn : ℕ) → is_pgn pgn ≡ true → (pgn < 2 ^ 18) × (clean pgn ≡ pgn)
clean_is pgn is =
    let h : (nat_lt pgn (2 ^ 18) ≡ true) × ((not (is_pdu1 pgn) || pgn % 2 ^ 8 == 0) ≡ true) = and_parts (nat_lt pgn (2 ^ 18)) (not (is_pdu1 pgn) || pgn % 2 ^ 8 == 0) is in
    (ltb-true pgn (2 ^ 18) h.0, by (is_pdu1 pgn) h.1)
  where
    by : (b : Bool) → (not b || pgn % 2 ^ 8 == 0) ≡ true → cond b (pgn / 2 ^ 8 * 2 ^ 8) pgn ≡ pgn
    by true e = let z : pgn % 2 ^ 8 ≡ 0 = eqb-true (pgn % 2 ^ 8) 0 e in omega (arith, z)
    by false e = refl

-- A refusal, or a reply with events, takes no message for sending

module _ (s d : Address) where
  pub none_refused : (call : Call) (cause : Refusal) → sent_by s d call (Refused cause) ≡ []
  none_refused (Open station pgn max_len) cause = refl
  none_refused (Close port) cause = refl
  none_refused (Send from to pgn bytes) cause = refl
  none_refused (Pump station to) cause = refl
  none_refused (Transmit station) cause = refl
  none_refused (Take station room) cause = refl
  none_refused (TakeAgain station room) cause = refl
  none_refused (Overrun station n) cause = refl
  none_refused (Tick n) cause = refl
  none_refused (Fire station) cause = refl
  none_refused (Cancel from to number) cause = refl
  none_refused (Inject frame) cause = refl
  none_refused (Pause port) cause = refl
  none_refused (Resume port) cause = refl

  pub none_done : (call : Call) (events : List Event) → sent_by s d call (Done events) ≡ []
  none_done (Open station pgn max_len) events = refl
  none_done (Close port) events = refl
  none_done (Send from to pgn bytes) events = refl
  none_done (Pump station to) events = refl
  none_done (Transmit station) events = refl
  none_done (Take station room) events = refl
  none_done (TakeAgain station room) events = refl
  none_done (Overrun station n) events = refl
  none_done (Tick n) events = refl
  none_done (Fire station) events = refl
  none_done (Cancel from to number) events = refl
  none_done (Inject frame) events = refl
  none_done (Pause port) events = refl
  none_done (Resume port) events = refl

-- A Send to the sender itself is refused

module _ (s : Address) where
  none_if : (from to : Address) (pgn : ℕ) (bytes : List ℕ) (number : ℕ) → (is_lane s s from to ≡ true → ⊥) → sent_by s s (Send from to pgn bytes) (Sent number) ≡ []
  none_if from to pgn bytes number n = on_test (λ b. is_lane s s from to ≡ b → cond {A = List Message} b ((pgn, bytes) ∷ []) [] ≡ []) (is_lane s s from to) (λ _ e. absurd (n e)) (λ _ e. refl) refl

  other_lane : (a from to : Address) → a.0 ≡ from.0 → (a.0 == to.0) ≡ false → is_lane s s from to ≡ true → ⊥
  other_lane a from to found other e =
      let p : ((from.0 == s.0) ≡ true) × ((to.0 == s.0) ≡ true) = and_parts (from.0 == s.0) (to.0 == s.0) e in
      let same : a.0 ≡ to.0 = found ∙ eqb-true from.0 s.0 p.0 ∙ sym (eqb-true to.0 s.0 p.1) in
      true≢false (sym (eq-eqb a.0 to.0 same) ∙ other)

  abbrev SendsNone : Call → Segment × Reply → Type 0
  SendsNone call step = sent_by s s call step.1 ≡ []

  accepted : (seg : Segment) → Accepted seg SendsNone
  accepted seg = record {
    station = λ i st at. record {
      opens = λ a pgn max_len q. refl;
      closes = λ port q is. refl;
      sends = λ from to pgn bytes q other long short. none_if from to pgn bytes ((lane_of st to).sent + 1) (other_lane st.address from to (has_address seg from i st q at) other);
      pumps = λ a to q. refl;
      transmits = λ a f q e free. refl;
      takes = λ a room f q e free. refl;
      repeats = λ a room f q e free. refl;
      overruns = λ a n q few. refl;
      fires = λ a q. refl;
      cancels = λ from to number q pending. refl;
      pauses = λ port q. refl;
      resumes = λ port q. refl;
    };
    ticks = λ n. refl;
    injects = λ f foreign free. refl;
  }

  pub none_to_itself : (seg : Segment) (call : Call) → sent_by s s call (applied seg call).1 ≡ []
  none_to_itself seg call = each_applied seg SendsNone (accepted seg) (none_refused s s) call
