-- Look-ups in the lanes and in the sessions of a station: what was put is found under its own key, and all else is as it was.
use Rattle.std.proofs.Common.{◌≡◌, ◌⊎◌, inl, inr, ℕ, true, false, cond, List, Option, Some, None, refl, sym, ap, ◌∙◌, subst, eq-eqb, ne_eqb}
use Rattle.std.specs.Option.{option_flatten, option_map}
use Rattle.std.specs.Cmp.{nat_cmp_total, unsigned_tied}
use Rattle.std.specs.FinMap as finmap
use Rattle.std.specs.FinMap.{get-insert, get-remove, get-empty}
use Rattle.lane_core.specs.Lane.{Lane}
use Rattle.session_table.specs.declared.key.Key.{Key}
use Rattle.session_table.specs.declared.incoming.Incoming.{Incoming}
use Rattle.session_table.specs.Key.{key_cmp, key_eq}
use Rattle.session_table.specs.Sessions.{state_at}
use Rattle.session_table.proofs.Keys.{key_total}
use Rattle.session_table.proofs.Tables.{key_eq-refl, key_eq-same}
use Rattle.station_lanes.specs.Lanes.{Lanes}
use Rattle.station_sessions.specs.Receiving.{Inbound}
use Rattle.record_law.proofs.Tests.{on_test}

pub lane_here : (lanes : Lanes) (to : ℕ) (lane : Lane) → finmap.get (finmap.insert lanes to lane) to ≡ Some lane
lane_here lanes to lane = get-insert nat_cmp_total lanes to lane to ∙ ap (λ b. cond b (Some lane) (finmap.get lanes to)) (unsigned_tied to to ∙ eq-eqb to to refl)

pub lane_else : (lanes : Lanes) (to q : ℕ) (lane : Lane) → (q ≡ to → ⊥) → finmap.get (finmap.insert lanes to lane) q ≡ finmap.get lanes q
lane_else lanes to q lane n = get-insert nat_cmp_total lanes to lane q ∙ ap (λ b. cond b (Some lane) (finmap.get lanes q)) (unsigned_tied q to ∙ ne_eqb q to n)

key_apart_eq : (q k : Key) → (q ≡ k → ⊥) → key_eq q k ≡ false
key_apart_eq q k n = on_test (λ b. key_eq q k ≡ b → key_eq q k ≡ false) (key_eq q k) (λ e p. absurd (n (key_eq-same q k p))) (λ e p. p) refl

-- a session with the ports that it gives to
abbrev pub State : Type 0
State = List ℕ × Incoming

module _ (m : Inbound) (k : Key) where
  pub state_put : (v : State) → state_at (finmap.insert m k (Some v)) k ≡ Some v
  state_put v = ap option_flatten (get-insert key_total m k (Some v) k ∙ ap (λ b. cond b (Some (Some v)) (finmap.get m k)) (key_eq-refl k))

  pub state_dropped : state_at (finmap.remove m k) k ≡ None
  state_dropped = ap option_flatten (get-remove key_total m k k ∙ ap (λ b. cond b None (finmap.get m k)) (key_eq-refl k))

  pub state_put_else : (v : State) (q : Key) → (q ≡ k → ⊥) → state_at (finmap.insert m k (Some v)) q ≡ state_at m q
  state_put_else v q n = ap option_flatten (get-insert key_total m k (Some v) q ∙ ap (λ b. cond b (Some (Some v)) (finmap.get m q)) (key_apart_eq q k n))

  pub state_dropped_else : (q : Key) → (q ≡ k → ⊥) → state_at (finmap.remove m k) q ≡ state_at m q
  state_dropped_else q n = ap option_flatten (get-remove key_total m k q ∙ ap (λ b. cond b None (finmap.get m q)) (key_apart_eq q k n))

pub state_empty : (q : Key) → state_at {T = List ℕ} finmap.empty q ≡ None
state_empty q = ap option_flatten (get-empty {X = Option State} key_cmp q)

-- the session of a key, without its ports
abbrev pub session_at : Inbound → Key → Option Incoming
session_at m k = option_map (λ (v : State). v.1) (state_at m k)

-- a session is as it was, or is no more
abbrev pub StaysOrEnds : (after before : Option Incoming) → Type 0
StaysOrEnds after before = (after ≡ None) ⊎ (after ≡ before)

pub stays_or_ends : (x y z : Option Incoming) → StaysOrEnds y x → StaysOrEnds z y → StaysOrEnds z x
stays_or_ends x y z h (inl q) = inl q
stays_or_ends x y z (inl p) (inr q) = inl (q ∙ p)
stays_or_ends x y z (inr p) (inr q) = inr (q ∙ p)

-- by whether it is the same key
pub key_cases : (q k : Key) → (q ≡ k) ⊎ (q ≡ k → ⊥)
key_cases q k = on_test (λ b. key_eq q k ≡ b → (q ≡ k) ⊎ (q ≡ k → ⊥)) (key_eq q k)
    (λ e p. inl (key_eq-same q k p))
    (λ e p. inr (λ s. let t : key_eq q k ≡ true = ap (λ x. key_eq q x) (sym s) ∙ key_eq-refl q in absurd (cc))) refl

module _ (m : Inbound) (k q : Key) where
  -- where a session ends
  pub dropped_stays : StaysOrEnds (session_at (finmap.remove m k) q) (session_at m q)
  dropped_stays = by (key_cases q k)
    where
      by : (q ≡ k) ⊎ (q ≡ k → ⊥) → StaysOrEnds (session_at (finmap.remove m k) q) (session_at m q)
      by (inl e) = inl (ap (option_map (λ (v : State). v.1)) (ap (λ x. state_at (finmap.remove m k) x) e ∙ state_dropped m k))
      by (inr n) = inr (ap (option_map (λ (v : State). v.1)) (state_dropped_else m k q n))

  -- where another one changes
  pub put_stays : (v : State) → (q ≡ k → ⊥) → StaysOrEnds (session_at (finmap.insert m k (Some v)) q) (session_at m q)
  put_stays v n = inr (ap (option_map (λ (v : State). v.1)) (state_put_else m k v q n))

-- a fact holds of each session
abbrev pub OfEach : (Key → State → Type 0) → Inbound → Type 0
OfEach P m = (q : Key) (v : State) → state_at m q ≡ Some v → P q v

module _ (P : Key → State → Type 0) (m : Inbound) (k : Key) where
  -- where the fact is of the others before
  pub put_of_each : (v : State) → P k v → ((q : Key) (w : State) → (q ≡ k → ⊥) → state_at m q ≡ Some w → P q w) → OfEach P (finmap.insert m k (Some v))
  put_of_each v h all q w e = by (key_cases q k)
    where
      by : (q ≡ k) ⊎ (q ≡ k → ⊥) → P q w
      by (inl s) = let is : Some v ≡ Some w = sym (ap (λ x. state_at (finmap.insert m k (Some v)) x) s ∙ state_put m k v) ∙ e in
          let it : v ≡ w = cc in subst (λ x. P x w) (sym s) (subst (λ x. P k x) it h)
      by (inr n) = all q w n (sym (state_put_else m k v q n) ∙ e)

  pub dropped_of_each : ((q : Key) (w : State) → (q ≡ k → ⊥) → state_at m q ≡ Some w → P q w) → OfEach P (finmap.remove m k)
  dropped_of_each all q w e = by (key_cases q k)
    where
      by : (q ≡ k) ⊎ (q ≡ k → ⊥) → P q w
      by (inl s) = let is : None ≡ Some w = sym (ap (λ x. state_at (finmap.remove m k) x) s ∙ state_dropped m k) ∙ e in absurd (cc)
      by (inr n) = all q w n (sym (state_dropped_else m k q n) ∙ e)

  pub of_each_put : (v : State) → P k v → OfEach P m → OfEach P (finmap.insert m k (Some v))
  of_each_put v h all = put_of_each v h (λ q w n e. all q w e)

  pub of_each_dropped : OfEach P m → OfEach P (finmap.remove m k)
  of_each_dropped all = dropped_of_each (λ q w n e. all q w e)

pub of_each_none : (P : Key → State → Type 0) → OfEach P finmap.empty
of_each_none P q v e = let is : None ≡ Some v = sym (state_empty q) ∙ e in absurd (cc)
