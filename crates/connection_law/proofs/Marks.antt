-- A port that closes leaves the sets of the sessions of its station, and is no longer due to be given anything.
use Rattle.std.proofs.Common.{◌≡◌, ◌⊎◌, inl, inr, ℕ, ◌<◌, ◌==◌, true, cond, not, List, [], ◌∷◌, length, Option, Some, None, refl, sym, ◌∙◌, subst, eqb-true}
use Rattle.std.proofs.lemmas.Bool.{eqb-false}
use Rattle.port_table.specs.PortSet.{without_number}
use Rattle.session_table.specs.declared.incoming.Incoming.{Incoming}
use Rattle.record_law.proofs.Lists.{Each}
use Rattle.record_law.proofs.Tests.{on_test}
use Rattle.lane_law.specs.Session.{Session}
use Rattle.connection_law.proofs.View.{Mark, Has, IsMarked, IsHeardAs}
use Rattle.connection_law.proofs.Receiver.{Real}

-- each but one of a set's ports are in another
abbrev pub HasOthers : (number : ℕ) → (set more : List ℕ) → Type 0
HasOthers number set more = (k : ℕ) → (k ≡ number → ⊥) → Has more k → Has set k

-- a session is no more, or is as it was, perhaps without one port
abbrev pub Lessens : (number : ℕ) → (new old : Real) → Type 0
Lessens number new old = (new ≡ None) ⊎ ((new ≡ old) ⊎ ((v : List ℕ × Incoming) × (set : List ℕ) × (old ≡ Some v) × (new ≡ Some (set, v.1)) × (0 < length set) × HasOthers number set v.0))

pub has_without : (number : ℕ) (set : List ℕ) → HasOthers number (without_number set number) set
has_without number [] k n h = absurd h
has_without number (j ∷ set) k n h = on_test (λ b. (j == number) ≡ b → Has (cond (not b) (j ∷ without_number set number) (without_number set number)) k) (j == number)
    (λ _ e. gone (has_without number set k n) e h) (λ _ _. kept (has_without number set k n) h) refl
  where
    gone : (Has set k → Has (without_number set number) k) → (j == number) ≡ true → Has (j ∷ set) k → Has (without_number set number) k
    gone rest e (inl q) = absurd (n (sym q ∙ eqb-true j number e))
    gone rest e (inr r) = rest r

    kept : (Has set k → Has (without_number set number) k) → Has (j ∷ set) k → Has (j ∷ without_number set number) k
    kept rest (inl q) = inl q
    kept rest (inr r) = inr (rest r)

-- the mark without the ports that closed
abbrev pub less_mark : List ℕ → Mark → Mark
less_mark [] m = m
less_mark (number ∷ closed) m = record m { due = without_number m.due number }

pub less_count : (closed : List ℕ) (m : Mark) → (less_mark closed m).count ≡ m.count
less_count [] m = refl
less_count (number ∷ closed) m = refl

each_without : (number : ℕ) (set more due : List ℕ) → HasOthers number set more → Each (Has more) due → Each (Has set) (without_number due number)
each_without number set more [] w h = tt
each_without number set more (k ∷ due) w h = on_test (λ b. (k == number) ≡ b → Each (Has set) (cond (not b) (k ∷ without_number due number) (without_number due number))) (k == number)
    (λ _ _. each_without number set more due w h.1)
    (λ _ e. (w k (eqb-false k number e) h.0, each_without number set more due w h.1)) refl

marked_without : (number : ℕ) (m : Mark) (set more : List ℕ) (n pgn size : ℕ) → HasOthers number set more → IsMarked m more n pgn size → IsMarked (less_mark (number ∷ []) m) set n pgn size
marked_without number m set more n pgn size w h = (h.0, h.1, h.2, h.3, each_without number set more m.due w h.4)

-- what stands for a session stands for it without the port
pub heard_without : (R : Incoming → Session → Type 0) (number : ℕ) (m : Mark) (new old : Real) → Lessens number new old → (new ≡ None) ⊎ ((o : Option Session) → IsHeardAs R m old o → IsHeardAs R (less_mark (number ∷ []) m) new o)
heard_without R number m new old (inl e) = inl e
heard_without R number m new old (inr (inl e)) = inr (λ o h. subst (λ r. IsHeardAs R (less_mark (number ∷ []) m) r o) (sym e) (same old o h))
  where
    same : (r : Real) (o : Option Session) → IsHeardAs R m r o → IsHeardAs R (less_mark (number ∷ []) m) r o
    same None None h = tt
    same None (Some x) h = h
    same (Some v) None h = h
    same (Some v) (Some x) h = (h.0, marked_without number m v.0 v.0 x.number x.pgn x.size (λ k n q. q) h.1, h.2)
heard_without R number m new old (inr (inr (v, set, was, is, some, others))) = inr (λ o h. subst (λ r. IsHeardAs R (less_mark (number ∷ []) m) r o) (sym is) (fewer o (subst (λ r. IsHeardAs R m r o) was h)))
  where
    fewer : (o : Option Session) → IsHeardAs R m (Some v) o → IsHeardAs R (less_mark (number ∷ []) m) (Some (set, v.1)) o
    fewer None h = h
    fewer (Some x) h = (some, marked_without number m set v.0 x.number x.pgn x.size others h.1, h.2)
