-- The numbers of a lane: those that are pending, and those that have an outcome.
use Rattle.std.proofs.Common.{◌≡◌, ◌≢◌, ℕ, ◌+◌, ◌<◌, ◌≤◌, inl, inr, List, [], ◌∷◌, ◌++◌, sym, arith}
use Rattle.std.specs.List.{AllByRecursion as Each}
use Rattle.lane_law.specs.Frame.{Frame, Rts, Dpo, Packet, Request, Place, place_after}
use Rattle.lane_law.specs.Session.{Given}
use Rattle.lane_law.specs.Message.{Message}
use Rattle.lane_law.specs.Outcome.{Fate, Acknowledged, Unreachable, Other, Outcome, outcome}
use Rattle.lane_law.proofs.Streams.{InOrder, end_of}
use Rattle.lane_law.proofs.Ahead.{WasGiven, each_push, each_weaker, order_le, given_more, given_cases}

-- what a fate says of what was given
abbrev pub Agrees : List Given → ℕ → Fate → Type 0
Agrees given n Acknowledged = WasGiven n given
Agrees given n Unreachable = WasGiven n given → ⊥
Agrees given n Other = Unit {0}

-- what all outcomes say of it
abbrev pub AllAgree : List Given → List Outcome → Type 0
AllAgree given [] = Unit {0}
AllAgree given (o ∷ os) = Agrees given o.number o.fate × AllAgree given os

-- the number has no outcome
abbrev pub IsOpen : ℕ → List Outcome → Type 0
IsOpen n [] = Unit {0}
IsOpen n (o ∷ os) = (o.number ≢ n) × IsOpen n os

-- no number has two outcomes
abbrev pub AreSingle : List Outcome → Type 0
AreSingle [] = Unit {0}
AreSingle (o ∷ os) = IsOpen o.number os × AreSingle os

-- each outcome names one of the first so many numbers
abbrev pub AreWithin : ℕ → List Outcome → Type 0
AreWithin last [] = Unit {0}
AreWithin last (o ∷ os) = (0 < o.number) × (o.number ≤ last) × AreWithin last os

-- the numbers rise, from above this one
abbrev pub Rising : ℕ → List ℕ → Type 0
Rising b [] = Unit {0}
Rising b (n ∷ ns) = (b < n) × Rising n ns

-- the pending numbers rise above the last that was begun, and have no outcome; the outcomes are one a number
pub record AreNumbers (begun last : ℕ) (pending : List ℕ) (outcomes : List Outcome) : Type 0 where
  pub begun_le : begun ≤ last
  pub rising : Rising begun pending
  pub within : Each (λ n. n ≤ last) pending
  pub no_outcome : Each (λ n. IsOpen n outcomes) pending
  pub outcomes_within : AreWithin last outcomes
  pub single : AreSingle outcomes

rising_push : (b n : ℕ) (ns : List ℕ) → b < n → Each (λ k. k < n) ns → Rising b ns → Rising b (ns ++ n ∷ [])
rising_push b n [] lt h r = (lt, tt)
rising_push b n (k ∷ ns) lt h r = (r.0, rising_push k n ns h.0 h.1 r.1)

pub rising_lower : (b c : ℕ) (ns : List ℕ) → c ≤ b → Rising b ns → Rising c ns
rising_lower b c [] le r = tt
rising_lower b c (n ∷ ns) le r = (omega (arith, r.0), r.1)

rising_above : (b c : ℕ) (ns : List ℕ) → c ≤ b → Rising b ns → Each (λ k. c < k) ns
rising_above b c [] le r = tt
rising_above b c (n ∷ ns) le r = (omega (arith, r.0), rising_above n c ns (omega (arith, r.0)) r.1)

pub rising_at : (b n : ℕ) (earlier later : List ℕ) → Rising b (earlier ++ n ∷ later) → b < n
rising_at b n [] later r = r.0
rising_at b n (k ∷ earlier) later r = let h = rising_at k n earlier later r.1 in omega (arith, h, r.0)

rising_without : (b n : ℕ) (earlier later : List ℕ) → Rising b (earlier ++ n ∷ later) → Rising b (earlier ++ later)
rising_without b n [] later r = rising_lower n b later (omega (arith, r.0)) r.1
rising_without b n (k ∷ earlier) later r = (r.0, rising_without k n earlier later r.1)

others : (b n : ℕ) (earlier later : List ℕ) → Rising b (earlier ++ n ∷ later) → Each (λ k. n ≢ k) (earlier ++ later)
others b n [] later r = each_weaker (λ k. n < k) (λ k. n ≢ k) (λ k h. omega (arith, h)) later (rising_above n n later (omega arith) r.1)
others b n (k ∷ earlier) later r = let h = rising_at k n earlier later r.1 in (omega (arith, h), others k n earlier later r.1)

each_without : (P : ℕ → Type 0) (n : ℕ) (earlier later : List ℕ) → Each P (earlier ++ n ∷ later) → Each P (earlier ++ later) × P n
each_without P n [] later h = (h.1, h.0)
each_without P n (k ∷ earlier) later h = let r = each_without P n earlier later h.1 in ((h.0, r.0), r.1)

open_beyond : (last n : ℕ) (os : List Outcome) → last < n → AreWithin last os → IsOpen n os
open_beyond last n [] lt h = tt
open_beyond last n (o ∷ os) lt h = (omega (arith, h.1), open_beyond last n os lt h.2)

within_more : (last last' : ℕ) (os : List Outcome) → last ≤ last' → AreWithin last os → AreWithin last' os
within_more last last' [] le h = tt
within_more last last' (o ∷ os) le h = (h.0, omega (arith, h.1, le), within_more last last' os le h.2)

open_all : (n : ℕ) (os : List Outcome) (ns : List ℕ) → Each (λ k. n ≢ k) ns → Each (λ k. IsOpen k os) ns → Each (λ k. (n ≢ k) × IsOpen k os) ns
open_all n os [] h g = tt
open_all n os (k ∷ ns) h g = ((h.0, g.0), open_all n os ns h.1 g.1)

-- one more message
pub numbers_sent : (begun last last' : ℕ) (pending : List ℕ) (os : List Outcome) → last' ≡ last + 1 → AreNumbers begun last pending os → AreNumbers begun last' (pending ++ (last + 1) ∷ []) os
numbers_sent begun last last' pending os e i = record {
  begun_le = omega (arith, i.begun_le, e);
  rising = rising_push begun (last + 1) pending (omega (arith, i.begun_le)) (each_weaker (λ n. n ≤ last) (λ n. n < last + 1) (λ n h. omega (arith, h)) pending i.within) i.rising;
  within = each_push (λ n. n ≤ last') pending (last + 1) (omega (arith, e)) (each_weaker (λ n. n ≤ last) (λ n. n ≤ last') (λ n h. omega (arith, h, e)) pending i.within);
  no_outcome = each_push (λ n. IsOpen n os) pending (last + 1) (open_beyond last (last + 1) os (omega arith) i.outcomes_within) i.no_outcome;
  outcomes_within = within_more last last' os (omega (arith, e)) i.outcomes_within;
  single = i.single;
}

-- the front one begins
pub numbers_begun : (begun last n : ℕ) (rest : List ℕ) (os : List Outcome) → AreNumbers begun last (n ∷ rest) os → AreNumbers n last rest os
numbers_begun begun last n rest os i = record {
  begun_le = i.within.0;
  rising = i.rising.1;
  within = i.within.1;
  no_outcome = i.no_outcome.1;
  outcomes_within = i.outcomes_within;
  single = i.single;
}

-- one that is pending ends
pub numbers_without : (begun last n : ℕ) (earlier later : List ℕ) (os : List Outcome) (fate : Fate) → AreNumbers begun last (earlier ++ n ∷ later) os → AreNumbers begun last (earlier ++ later) (outcome n fate ∷ os)
numbers_without begun last n earlier later os fate i =
    let w = each_without (λ k. k ≤ last) n earlier later i.within in
    let o = each_without (λ k. IsOpen k os) n earlier later i.no_outcome in
    let above : 0 < n = let h = rising_at begun n earlier later i.rising in omega (arith, h) in
    record {
      begun_le = i.begun_le;
      rising = rising_without begun n earlier later i.rising;
      within = w.0;
      no_outcome = open_all n os (earlier ++ later) (others begun n earlier later i.rising) o.0;
      outcomes_within = (above, w.1, i.outcomes_within);
      single = (o.1, i.single);
    }

-- the one under way ends
pub numbers_over : (begun last n : ℕ) (pending : List ℕ) (os : List Outcome) (fate : Fate) → n ≡ begun → 0 < n → IsOpen n os → AreNumbers begun last pending os → AreNumbers begun last pending (outcome n fate ∷ os)
numbers_over begun last n pending os fate e pos o i = record {
  begun_le = i.begun_le;
  rising = i.rising;
  within = i.within;
  no_outcome = open_all n os pending (each_weaker (λ k. begun < k) (λ k. n ≢ k) (λ k h. omega (arith, h, e)) pending (rising_above begun begun pending (omega arith) i.rising)) i.no_outcome;
  outcomes_within = (pos, omega (arith, i.begun_le, e), i.outcomes_within);
  single = (o, i.single);
}

-- no outcome says Unreachable of this number
abbrev pub Spares : Fate → ℕ → ℕ → Type 0
Spares Acknowledged k n = Unit {0}
Spares Unreachable k n = k ≢ n
Spares Other k n = Unit {0}

abbrev pub IsSpared : List Outcome → ℕ → Type 0
IsSpared [] n = Unit {0}
IsSpared (o ∷ os) n = Spares o.fate o.number n × IsSpared os n

spares_other : (fate : Fate) (k n : ℕ) → k ≢ n → Spares fate k n
spares_other Acknowledged k n h = tt
spares_other Unreachable k n h = h
spares_other Other k n h = tt

pub spared_open : (n : ℕ) (os : List Outcome) → IsOpen n os → IsSpared os n
spared_open n [] h = tt
spared_open n (o ∷ os) h = (spares_other o.fate o.number n h.0, spared_open n os h.1)

-- the frames ahead begin no such message
abbrev pub BeginsSpared : List Outcome → Frame → Type 0
BeginsSpared os (Rts n m) = IsSpared os n
BeginsSpared os (Dpo o) = Unit {0}
BeginsSpared os (Packet s b) = Unit {0}
BeginsSpared os (Request t) = Unit {0}

pub spared_passed : (os : List Outcome) (p : Place) (f : Frame) → IsSpared os p.number → BeginsSpared os f → IsSpared os (place_after p f).number
spared_passed os p (Rts n m) h b = b
spared_passed os p (Dpo o) h b = h
spared_passed os p (Packet s c) h b = h
spared_passed os p (Request t) h b = h

-- an outcome under a number that no frame ahead begins
pub spared_ahead : (sent : List Message) (os : List Outcome) (n : ℕ) (fate : Fate) (p : Place) (fs : List Frame) → ((k : ℕ) → k ≤ (end_of p fs).number → Spares fate n k) → InOrder sent p fs → Each (BeginsSpared os) fs → Each (BeginsSpared (outcome n fate ∷ os)) fs
spared_ahead sent os n fate p [] g o b = tt
spared_ahead sent os n fate p (Rts k m ∷ fs) g o b = ((g k (order_le sent (place_after p (Rts k m)) fs o.1), b.0), spared_ahead sent os n fate (place_after p (Rts k m)) fs g o.1 b.1)
spared_ahead sent os n fate p (Dpo k ∷ fs) g o b = (tt, spared_ahead sent os n fate (place_after p (Dpo k)) fs g o.1 b.1)
spared_ahead sent os n fate p (Packet s c ∷ fs) g o b = (tt, spared_ahead sent os n fate p fs g o.1 b.1)
spared_ahead sent os n fate p (Request t ∷ fs) g o b = (tt, spared_ahead sent os n fate p fs g o.1 b.1)

agrees_push : (given : List Given) (g : Given) (n : ℕ) (fate : Fate) → Spares fate n g.number → Agrees given n fate → Agrees (given ++ g ∷ []) n fate
agrees_push given g n Acknowledged s h = given_more n given g h
agrees_push given g n Unreachable s h = λ i. elim (given_cases n given g i) [ inl j ↦ h j | inr e ↦ s (sym e) ]
agrees_push given g n Other s h = tt

pub agree_push : (given : List Given) (g : Given) (os : List Outcome) → IsSpared os g.number → AllAgree given os → AllAgree (given ++ g ∷ []) os
agree_push given g [] s h = tt
agree_push given g (o ∷ os) s h = (agrees_push given g o.number o.fate s.0 h.0, agree_push given g os s.1 h.1)
