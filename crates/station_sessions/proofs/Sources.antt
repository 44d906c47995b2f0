-- From which sources there are sessions, by the least key that a table finds above another.
use Rattle.std.proofs.Common.{◌≡◌, ℕ, zero, suc, ◌≤◌, ◌<◌, Bool, true, false, nat_lt, ◌==◌, List, Option, Some, None, refl, sym, ap, ◌∙◌, arith, true≢false, ltb-true, ltb-false, eqb-true, IfNone, IsSome, subst}
use Rattle.std.specs.Option.{option_flatten}
use Rattle.std.specs.Cmp.{nat_cmp_is}
use Rattle.std.specs.Ordering.{is_lt, is_gt, ordering_then}
use Rattle.std.specs.declared.cmp.Ordering.TheVariants.{Less, Equal, Greater}
use Rattle.std.specs.Bool.{OnTrue}
use Rattle.std.specs.FinMap as map
use Rattle.std.specs.FinMap.{empty_of_len, get-empty}
use Rattle.session_table.specs.declared.key.Key.{Key}
use Rattle.session_table.specs.declared.key.SessionKind.{SessionKind}
use Rattle.session_table.specs.declared.key.SessionKind.TheVariants.{Broadcast, Tp, Etp}
use Rattle.session_table.specs.declared.incoming.Incoming.{Incoming}
use Rattle.session_table.specs.Key.{key_cmp, by_kind, is_above_key}
use Rattle.session_table.specs.DueOrder.{IsPicked, IsLeastPicked, is_above_low}
use Rattle.session_table.specs.Sessions.{state_at}
use Rattle.station_sessions.specs.Receiving.{Inbound}
use Rattle.station_sessions.specs.Opening.{key_of}
use Rattle.station_sessions.specs.Sources.{last_below, HasNoneBetween, HasSomeOf}

-- Keys of two sources

less_source : (a b : Key) → a.source.0 < b.source.0 → key_cmp a b ≡ Less
less_source a b l = ap (λ o. ordering_then o (by_kind a b)) (sym (nat_cmp_is a.source.0 b.source.0 Less l))

greater_source : (a b : Key) → b.source.0 < a.source.0 → key_cmp a b ≡ Greater
greater_source a b l = ap (λ o. ordering_then o (by_kind a b)) (sym (nat_cmp_is a.source.0 b.source.0 Greater l))

same_source : (a b : Key) → a.source.0 ≡ b.source.0 → key_cmp a b ≡ by_kind a b
same_source a b e = ap (λ o. ordering_then o (by_kind a b)) (sym (nat_cmp_is a.source.0 b.source.0 Equal e))

-- no kind comes behind the last one
last_kind : (s : ℕ) (k : Key) → is_lt (by_kind (key_of (record { 0 = s }) Etp) k) ≡ false
last_kind s k = by k.kind
  where
    by : (kind : SessionKind) → is_lt (by_kind (key_of (record { 0 = s }) Etp) (record { source = k.source; kind = kind })) ≡ false
    by Broadcast = refl
    by Tp = refl
    by Etp = refl

-- a key is above the last one of the sources below n exactly where its source isn't one of them
pub above_from : (n : ℕ) (k : Key) → n ≤ k.source.0 → is_above_key (last_below n) k ≡ true
above_from zero k le = refl
above_from (suc s) k le = ap is_lt (less_source (key_of (record { 0 = s }) Etp) k (omega (arith, le)))

pub from_above : (n : ℕ) (k : Key) → is_above_key (last_below n) k ≡ true → n ≤ k.source.0
from_above zero k e = omega arith
from_above (suc s) k e = by (nat_lt s k.source.0) refl
  where
    low : Key
    low = key_of (record { 0 = s }) Etp

    level : k.source.0 ≤ s → (b : Bool) → nat_lt k.source.0 s ≡ b → suc s ≤ k.source.0
    level le true t = absurd (true≢false (sym e ∙ ap is_lt (greater_source low k (ltb-true k.source.0 s t))))
    level le false t =
        let same : s ≡ k.source.0 = omega (arith, le, ltb-false k.source.0 s t) in
        absurd (true≢false (sym e ∙ ap is_lt (same_source low k same) ∙ last_kind s k))

    by : (b : Bool) → nat_lt s k.source.0 ≡ b → suc s ≤ k.source.0
    by true t = omega (arith, ltb-true s k.source.0 t)
    by false t = level (ltb-false s k.source.0 t) (nat_lt k.source.0 s) refl

-- The least key that is found

module _ (m : Inbound) (low : Option Key) where
  no_state : (k : Key) → is_above_key low k ≡ true → (IsPicked m (is_above_low low) k → ⊥) → state_at m k ≡ None
  no_state k above none = by (map.get m k) refl
    where
      by : (o : Option (Option (List ℕ × Incoming))) → map.get m k ≡ o → state_at m k ≡ None
      by None e = ap option_flatten e
      by (Some None) e = ap option_flatten e
      by (Some (Some v)) e = absurd (none (v, e, above))

-- the source of the least key from a source on is the next one
pub next_is : (m : Inbound) (n : ℕ) (found : Key) → IsLeastPicked m (is_above_low (last_below n)) (Some found) → HasNoneBetween m n found.source.0
next_is m n found h = λ s from below kind.
    let k : Key = key_of (record { 0 = s }) kind in
    no_state m (last_below n) k (above_from n k from) (λ p. absurd (true≢false (sym (ap is_gt (greater_source found k below)) ∙ h.1 k p)))

pub next_from : (m : Inbound) (n : ℕ) (found : Key) → IsLeastPicked m (is_above_low (last_below n)) (Some found) → n ≤ found.source.0
next_from m n found h = from_above n found h.0.2

pub next_has : (m : Inbound) (n : ℕ) (found : Key) → IsLeastPicked m (is_above_low (last_below n)) (Some found) → HasSomeOf m found.source.0
next_has m n found h = (found.kind, subst (λ (o : Option (List ℕ × Incoming)). IsSome o) (sym (ap option_flatten h.0.1)) refl)

-- and without one there is none
pub none_is : (m : Inbound) (n high : ℕ) → IsLeastPicked m (is_above_low (last_below n)) None → HasNoneBetween m n high
none_is m n high h = λ s from below kind.
    let k : Key = key_of (record { 0 = s }) kind in
    no_state m (last_below n) k (above_from n k from) (h k)

-- what holds anyhow holds where nothing is found
pub if_none : {A : Type 0} {P : Type 0} (o : Option A) → P → IfNone o P
if_none None p = p
if_none (Some a) p = tt

-- an empty table has no session
pub none_of_empty : (m : Inbound) (b : Bool) → b ≡ (map.len m == 0) → OnTrue b (HasNoneBetween m 0 256)
none_of_empty m false e = tt
none_of_empty m true e = λ s from below kind.
    let k : Key = key_of (record { 0 = s }) kind in
    ap (λ (x : Inbound). state_at x k) (empty_of_len m (eqb-true (map.len m) 0 (sym e))) ∙ ap option_flatten (get-empty key_cmp k)
