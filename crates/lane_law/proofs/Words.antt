-- The facts that the proofs keep by recursion on lists, in the words of specs/.
use Rattle.std.proofs.Common.{◌≡◌, ◌≢◌, ℕ, zero, suc, ◌+◌, ◌<◌, ◌≤◌, inl, inr, List, [], ◌∷◌, sym, arith}
use Rattle.std.specs.Prelude.{All, Contains, Some}
use Rattle.std.specs.List.Sorted.{IsStrictlyIncreasing}
use Rattle.std.proofs.lemmas.List.Elements.{All-nil, All-cons, Contains-append_right, Contains-append_cases, All-contains_itself, All-weaker}
use Rattle.std.proofs.lemmas.List.Kept.{AllPairs-cons}
use Rattle.lane_law.specs.Message.{Message, IsSent}
use Rattle.lane_law.specs.Session.{Given, Session}
use Rattle.lane_law.specs.Choice.{IsGiven, IsChoice, numbers}
use Rattle.lane_law.specs.Lane.{Lane, LaneEvent, after, Ends, Cancels, GivesUp, Acknowledges}
use Rattle.lane_law.specs.Outcome.{outcome, Fate, Acknowledged, Unreachable, Other, Outcome, Says, AreTrue, AreOneEach, AreWithin}
use Rattle.lane_law.specs.Stream.{Stream, IsOfReached}
use Rattle.lane_law.proofs.Streams.{Rise, AreSent, IsStream, session_at}
use Rattle.lane_law.proofs.Ahead.{WasGiven, given_below}
use Rattle.lane_law.proofs.Numbers
use Rattle.lane_law.proofs.Numbers.{Agrees, AllAgree, IsOpen, AreSingle}

numbers_rise : (above : ℕ) (gs : List Given) → Rise above gs → IsStrictlyIncreasing (numbers gs)
numbers_rise above [] h k l = absurd (omega arith)
numbers_rise above (g ∷ []) h k l = absurd (omega arith)
numbers_rise above (g ∷ i ∷ gs) h zero l = h.1.0
numbers_rise above (g ∷ i ∷ gs) h (suc k) l = let e : suc k + 1 ≡ suc (k + 1) = omega arith in rw e (numbers_rise g.number (i ∷ gs) h.1 k (omega arith))

all_sent : (sent : List Message) (gs : List Given) → AreSent sent gs → All (λ g. IsSent sent g.number g.message) gs
all_sent sent [] h = All-nil (λ g. IsSent sent g.number g.message)
all_sent sent (g ∷ gs) h = All-cons (λ g. IsSent sent g.number g.message) g gs h.0 (all_sent sent gs h.1)

pub is_choice : (sent : List Message) (gs : List Given) → Rise 0 gs → AreSent sent gs → IsChoice gs sent
is_choice sent gs rise are_sent = record { rising = numbers_rise 0 gs rise; as_sent = all_sent sent gs are_sent }

pub is_given : (n : ℕ) (gs : List Given) → WasGiven n gs → IsGiven gs n
is_given n [] h = absurd h
is_given n (g ∷ gs) h = elim h [
  | inl e ↦ (0, omega arith, e)
  | inr later ↦ Contains-append_right (g.number ∷ []) (numbers gs) n (is_given n gs later)
]

pub was_given : (n : ℕ) (gs : List Given) → IsGiven gs n → WasGiven n gs
was_given n [] h = absurd (omega (arith, h.1))
was_given n (g ∷ gs) h = elim (Contains-append_cases (g.number ∷ []) (numbers gs) n h) [
  | inl here ↦ inl (only here)
  | inr later ↦ inr (was_given n gs later)
]
  where
    only : Contains (g.number ∷ []) n → g.number ≡ n
    only (zero, l, e) = e
    only (suc k, l, e) = absurd (omega (arith, l))

says : (given : List Given) (n : ℕ) (fate : Fate) → Agrees given n fate → Says given n fate
says given n Acknowledged h = is_given n given h
says given n Unreachable h = λ g. h (was_given n given g)
says given n Other h = tt

pub are_true : (given : List Given) (os : List Outcome) → AllAgree given os → AreTrue given os
are_true given [] h = All-nil (λ o. Says given o.number o.fate)
are_true given (o ∷ os) h = All-cons (λ o. Says given o.number o.fate) o os (says given o.number o.fate h.0) (are_true given os h.1)

others : (o : Outcome) (os : List Outcome) → IsOpen o.number os → All (λ b. o.number ≢ b.number) os
others o [] h = All-nil (λ b. o.number ≢ b.number)
others o (b ∷ os) h = All-cons (λ b. o.number ≢ b.number) b os (λ e. h.0 (sym e)) (others o os h.1)

pub are_one_each : (os : List Outcome) → AreSingle os → AreOneEach os
are_one_each [] h = λ i j d lt below. absurd (omega (arith, below))
are_one_each (o ∷ os) h = AllPairs-cons (λ a b. a.number ≢ b.number) o os (others o os h.0) (are_one_each os h.1)

pub are_within : (last : ℕ) (os : List Outcome) → Numbers.AreWithin last os → AreWithin last os
are_within last [] h = All-nil (λ o. (0 < o.number) × (o.number ≤ last))
are_within last (o ∷ os) h = All-cons (λ o. (0 < o.number) × (o.number ≤ last)) o os (h.0, h.1) (are_within last os h.2)

pub of_reached : (s : Stream) (x : Session) → s.session ≡ Some x → IsStream s → IsOfReached s x
of_reached s x e i =
    let z = session_at s x e i in
    record {
      number = z.number;
      pgn = z.pgn;
      size = z.size;
      offset = z.offset;
      collected = z.collected;
      was_sent = z.was_sent;
      not_given = λ g. let lt = given_below s.reached.number s.reached.number s.given z.new (was_given s.reached.number s.given g) in absurd (omega (arith, lt));
    }

one_more_outcome : (o : Outcome) (os : List Outcome) → All (Contains (o ∷ os)) os
one_more_outcome o os = All-weaker (Contains os) (Contains (o ∷ os)) (λ p h. Contains-append_right (o ∷ []) os p h) os (All-contains_itself os)

-- an outcome stays
pub outcomes_stay : (l : Lane) (e : LaneEvent) → All (Contains (after e l).outcomes) l.outcomes
outcomes_stay l (Ends n) = one_more_outcome (outcome n Other) l.outcomes
outcomes_stay l (Cancels earlier n later) = one_more_outcome (outcome n Other) l.outcomes
outcomes_stay l (GivesUp n rest) = one_more_outcome (outcome n Unreachable) l.outcomes
outcomes_stay l (Acknowledges n k) = one_more_outcome (outcome n Acknowledged) l.outcomes
outcomes_stay l _ = All-contains_itself l.outcomes
