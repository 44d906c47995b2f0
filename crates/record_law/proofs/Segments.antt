-- Look-ups in the parts of a segment: the station that an address leads to has that address, and each station and each cursor
-- of a new segment is new.
use Rattle.std.proofs.Common.{◌≡◌, ◌<◌, ℕ, zero, suc, ◌+◌, ◌==◌, nat_lt, Bool, true, cond, not, List, [], ◌∷◌, map, length, get_or, replicate, Some, None, refl, ap, ◌∙◌, subst, arith, eqb-true}
use Rattle.std.specs.Prelude.{slice_get, position}
use Rattle.std.specs.List.{position_or_len}
use Rattle.std.proofs.lemmas.Bool.{ltb-true}
use Rattle.std.proofs.lemmas.Option.{same_Some, none-some, slice_get-get_or}
use Rattle.pgn_ids.specs.declared.address.Address.{Address}
use Rattle.bus_order.specs.Bus.{start}
use Rattle.station_core.specs.Station.{Station, new_station}
use Rattle.segment_law.specs.Segment.{Segment, place_of}
use Rattle.record_law.proofs.Tests.{on_test}

abbrev pub same_address : (a b : Address) → a.0 ≡ b.0 → a ≡ b
same_address a b e = λ i. record { 0 = e i }

-- what is found at a place passes
found_at : {A : Type 0} (test : A → Bool) (xs : List A) (x : A) → slice_get xs (position_or_len test xs) ≡ Some x → test x ≡ true
found_at test [] x e = absurd (none-some x e)
found_at test (y ∷ ys) x e = on_test (λ b. test y ≡ b → slice_get (y ∷ ys) (cond (not b) (1 + position_or_len test ys) 0) ≡ Some x → test x ≡ true) (test y)
    (λ _ t q. subst (λ z. test z ≡ true) (same_Some y x q) t)
    (λ _ t q. let n : 1 + position_or_len test ys ≡ suc (position_or_len test ys) = omega arith in found_at test ys x (subst (λ k. slice_get (y ∷ ys) k ≡ Some x) n q)) refl e

pub found_passes : {A : Type 0} (test : A → Bool) (xs : List A) (i : ℕ) (x : A) → position test xs ≡ Some i → slice_get xs i ≡ Some x → test x ≡ true
found_passes test xs i x p e = on_test (λ b. cond b (Some (position_or_len test xs)) None ≡ Some i → test x ≡ true) (nat_lt (position_or_len test xs) (length xs))
    (λ _ q. found_at test xs x (ap (slice_get xs) (same_Some (position_or_len test xs) i q) ∙ e))
    (λ _ q. absurd (none-some i q)) p

-- there is one
pub found_there : {A : Type 0} (test : A → Bool) (xs : List A) (i : ℕ) (d : A) → position test xs ≡ Some i → slice_get xs i ≡ Some (get_or xs i d)
found_there test xs i d p = on_test (λ b. nat_lt (position_or_len test xs) (length xs) ≡ b → cond b (Some (position_or_len test xs)) None ≡ Some i → slice_get xs i ≡ Some (get_or xs i d)) (nat_lt (position_or_len test xs) (length xs))
    (λ _ t q. slice_get-get_or xs i d (subst (λ k. k < length xs) (same_Some (position_or_len test xs) i q) (ltb-true (position_or_len test xs) (length xs) t)))
    (λ _ t q. absurd (none-some i q)) refl p

-- the station that an address leads to has it
pub has_address : (seg : Segment) (a : Address) (i : ℕ) (st : Station) → place_of seg a ≡ Some i → slice_get seg.stations i ≡ Some st → st.address.0 ≡ a.0
has_address seg a i st place at = eqb-true st.address.0 a.0 (found_passes (λ (z : Station). z.address.0 == a.0) seg.stations i st place at)

-- A new segment

-- what holds of every new station
pub new_each : (P : Station → Type 0) → ((a : Address) → P (new_station a)) → (addresses : List Address) (j : ℕ) (st : Station) → slice_get (map new_station addresses) j ≡ Some st → P st
new_each P h [] j st e = absurd (none-some st e)
new_each P h (a ∷ addresses) zero st e = subst P (same_Some (new_station a) st e) (h a)
new_each P h (a ∷ addresses) (suc j) st e = new_each P h addresses j st e

pub new_at : (addresses : List Address) (j : ℕ) (st : Station) → slice_get (map new_station addresses) j ≡ Some st → st ≡ new_station st.address
new_at addresses j st e = new_each (λ (z : Station). z ≡ new_station z.address) (λ a. refl) addresses j st e

pub start_at : (n y : ℕ) → get_or (replicate n start) y start ≡ start
start_at zero y = refl
start_at (suc n) zero = refl
start_at (suc n) (suc y) = start_at n y
