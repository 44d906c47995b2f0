-- A station that sent nothing before was told no outcome before: so of one that starts the law from a moment on speaks of all outcomes.
use Rattle.std.proofs.Common.{◌≡◌, ◌≢◌, ℕ, zero, suc, ◌+◌, ◌<◌, ◌^◌, true, List, [], ◌∷◌, ◌++◌, filter_map, length, refl, sym, ap, ◌∙◌, subst, eq-eqb}
use Rattle.std.specs.List.{list_all}
use Rattle.bus_frame.specs.Frames.{CanFrame}
use Rattle.pgn_ids.specs.declared.address.Address.{Address}
use Rattle.segment_law.specs.Calls.{events_of, is_frame}
use Rattle.segment_law.specs.Record.{Step, Record}
use Rattle.segment_law.specs.Told.{Message, Placed, NumberedOutcome, places_of, sends, outcome_in, outcomes}
use Rattle.segment_law.specs.Numbering.{item, IsAfter}
use Rattle.segment_law.specs.Headline.{HeadlineDrifts, HaveOneOutcome}
use Rattle.segment_law.proofs.Drifting.{stands_drifts}
use Rattle.record_law.specs.Numbers.{answered}
use Rattle.record_law.proofs.Lists.{Each, all_each}
use Rattle.network_law.specs.Between.{Sender, Sentence, sender_at}
use Rattle.network_law.proofs.Places.{told_append}
use Rattle.restart_law.specs.Start.{IsOnBusSince, IsStart, HoldsFromAMoment, sender_since, receiver_since}

no_item : (n place : ℕ) → IsAfter (item {A = ℕ} [] n) place → ⊥
no_item zero place h = h
no_item (suc n) place h = h

none_after : (xs : List (Placed NumberedOutcome)) → Each (λ (o : Placed NumberedOutcome). IsAfter (item {A = ℕ} [] o.1.0) o.0) xs → xs ≡ []
none_after [] h = refl
none_after (o ∷ xs) h = absurd (no_item o.1.0 o.0 h.0)

none_told : (s x : Address) (steps : Record) → sends steps s x ≡ [] → HaveOneOutcome steps s x → outcomes steps s x ≡ []
none_told s x steps none one = none_after (outcomes steps s x)
    (subst (λ (xs : List (Placed Message)). Each (λ (o : Placed NumberedOutcome). IsAfter (item (places_of xs) o.1.0) o.0) (outcomes steps s x)) none
    (all_each (λ (o : Placed NumberedOutcome). IsAfter (item (places_of (sends steps s x)) o.1.0) o.0) (outcomes steps s x) one.sent_before))

module _ (headline : HeadlineDrifts) (holds : HoldsFromAMoment) (s d : Address) (before_s since_s before since : Record) (bus : List CanFrame) (distinct : s.0 ≢ d.0) (are : list_all is_frame bus ≡ true) (room : length bus + 1 < 2 ^ 64)
    (s_on : IsOnBusSince s before_s since_s bus) (d_on : IsOnBusSince d before since bus) (start : IsStart s d before_s s_on.start d_on.start) where
  abbrev from : Record
  from = before_s ++ since_s

  outcomes_are : (x : Address) → (sender_since s before_s since_s).outcomes x ≡ outcomes from s x
  outcomes_are x =
      let none : outcomes before_s s x ≡ [] = none_told s x before_s (start.nothing_sent x) ((headline (s ∷ []) before_s s_on.start (stands_drifts (s ∷ []) before_s s_on.start s_on.stands)).one_outcome s x (rw (eq-eqb s.0 s.0 refl) refl)) in
      sym (told_append (λ (step : Step). filter_map (outcome_in s x) (events_of step.1)) 1 before_s since_s ∙ ap (λ (xs : List (Placed NumberedOutcome)). xs ++ (sender_since s before_s since_s).outcomes x) none)

  pub started : Sentence d (sender_at s from) (receiver_since d s before since)
  started = subst (λ (z : Sender). Sentence d z (receiver_since d s before since)) (λ k. (let z : Sender = record { sends = λ x. sends from s x; answers = λ x. answered from s x; outcomes = λ x. outcomes_are x k } in z))
      (holds s d before_s since_s before since bus distinct are room s_on d_on start.nothing_on_the_way)
