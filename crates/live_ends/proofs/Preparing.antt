-- Places that are looked for, one port after another.
use Rattle.std.proofs.Common.{◌≡◌, ℕ, zero, suc, ◌+◌, ◌<◌, ◌≤◌, ◌==◌, Bool, true, false, cond, List, ◌∷◌, ◌++◌, length, set, get_or, inl, inr, refl, sym, ap, ◌∙◌, subst, arith, eqb-true, eq-eqb, []}
use Rattle.pgn_ids.specs.declared.address.Address.{Address}
use Rattle.port_table.specs.declared.port.PortId.{PortId}
use Rattle.segment_law.specs.Told.{same_port}
use Rattle.segment_rings.specs.Views.{DoorView, SameDoor}
use Rattle.live_ends.specs.Ends.{NoneAt, PortsApart, SameDoors}
use Rattle.live_ends.specs.Places.{times, port, RoomAt, LacksRoom, IsPrepared, Prepared, HavePlaces, LacksPlace}
use Rattle.live_ends.proofs.Giving.{none_at, same_port-sym}

-- one port

pub room_absent : (p : PortId) (needed : ℕ) (ds : List DoorView) → NoneAt p ds → RoomAt p needed ds
room_absent p needed [] n = tt
room_absent p needed (d ∷ ds) n = (λ same. absurd (let e : true ≡ false = sym same ∙ n.0 in cc), room_absent p needed ds n.1)

pub room_at : (p : PortId) (needed k : ℕ) (ds : List DoorView) (d e : DoorView) → k < length ds → (get_or ds k d).port ≡ p → PortsApart ds → needed ≤ e.free → needed ≤ e.spare → e.active ≡ true → RoomAt p needed (set ds k e)
room_at p needed k [] d e l at a f s o = absurd (omega arith)
room_at p needed zero (x ∷ ds) d e l at a f s o = (λ _. (f, s, o), room_absent p needed ds (subst (λ (q : PortId). NoneAt q ds) at a.0))
room_at p needed (suc k) (x ∷ ds) d e l at a f s o =
    let none : same_port x.port p ≡ false = none_at x.port p k ds d (omega arith) at a.0 in
    let other : same_port p x.port ≡ false = same_port-sym x.port p none in
    (λ same. absurd (let e : true ≡ false = sym same ∙ other in cc), room_at p needed k ds d e (omega arith) at a.1 f s o)

-- all ports

pub times_append : (m : ℕ) (xs : List ℕ) (n : ℕ) → times m (xs ++ n ∷ []) ≡ times m xs + cond {A = ℕ} (n == m) 1 0
times_append m [] n = omega arith
times_append m (x ∷ xs) n = omega (arith, times_append m xs n)

pub times_at : (ns : List ℕ) (i d : ℕ) → i < length ns → 0 < times (get_or ns i d) ns
times_at [] i d l = absurd (omega arith)
times_at (n ∷ ns) zero d l = let e : cond {A = ℕ} (n == n) 1 0 ≡ 1 = rw (eq-eqb n n refl) refl in omega arith
times_at (n ∷ ns) (suc i) d l = let h = times_at ns i d (omega arith) in omega arith

module _ (station : Address) (numbers : List ℕ) where
  pub prepared_none : (ds : List DoorView) → Prepared station numbers [] ds
  prepared_none [] = tt
  prepared_none (d ∷ ds) = (λ _ some. absurd (omega (arith, some)), prepared_none ds)

  is_prepared_same : (seen : List ℕ) (d e : DoorView) → SameDoor d e → IsPrepared station numbers seen d → IsPrepared station numbers seen e
  is_prepared_same seen d e s h at some =
      let q : e.port.number ≡ d.port.number = ap (λ (p : PortId). p.number) s.port in
      let old : (times d.port.number numbers ≤ d.free) × (times d.port.number numbers ≤ d.spare) × (d.active ≡ true) = h (ap (λ (p : PortId). p.station) (sym s.port) ∙ at) (subst (λ (n : ℕ). 0 < times n seen) q some) in
      let t : times e.port.number numbers ≡ times d.port.number numbers = ap (λ (n : ℕ). times n numbers) q in
      (omega (arith, t, old.0, s.free), omega (arith, t, old.1, s.spare), s.active ∙ old.2)

  pub prepared_same : (seen : List ℕ) (ds es : List DoorView) → SameDoors ds es → Prepared station numbers seen ds → Prepared station numbers seen es
  prepared_same seen [] [] s h = tt
  prepared_same seen [] (e ∷ es) s h = absurd s
  prepared_same seen (d ∷ ds) [] s h = tt
  prepared_same seen (d ∷ ds) (e ∷ es) s h = (is_prepared_same seen d e s.0 h.0, prepared_same seen ds es s.1 h.1)

  one_more : (seen : List ℕ) (n : ℕ) (d : DoorView) → (same_port (port station n) d.port ≡ true → (times n numbers ≤ d.free) × (times n numbers ≤ d.spare) × (d.active ≡ true)) → IsPrepared station numbers seen d → IsPrepared station numbers (seen ++ n ∷ []) d
  one_more seen n d room h at some = by (n == d.port.number) refl
    where
      by : (b : Bool) → (n == d.port.number) ≡ b → (times d.port.number numbers ≤ d.free) × (times d.port.number numbers ≤ d.spare) × (d.active ≡ true)
      by true e =
          let same : n ≡ d.port.number = eqb-true n d.port.number e in
          let one : (station.0 == d.port.station.0) ≡ true = eq-eqb station.0 d.port.station.0 (ap (λ (a : Address). a.0) (sym at)) in
          let is : same_port (port station n) d.port ≡ true = rw (one, e) refl in
          let r : (times n numbers ≤ d.free) × (times n numbers ≤ d.spare) × (d.active ≡ true) = room is in
          let t : times n numbers ≡ times d.port.number numbers = ap (λ (m : ℕ). times m numbers) same in
          (omega (arith, t, r.0), omega (arith, t, r.1), r.2)
      by false e =
          let z : cond {A = ℕ} (n == d.port.number) 1 0 ≡ 0 = rw e refl in
          h at (omega (arith, some, times_append d.port.number seen n, z))

  pub prepared_more : (seen : List ℕ) (n : ℕ) (ds : List DoorView) → RoomAt (port station n) (times n numbers) ds → Prepared station numbers seen ds → Prepared station numbers (seen ++ n ∷ []) ds
  prepared_more seen n [] r h = tt
  prepared_more seen n (d ∷ ds) r h = (one_more seen n d r.0 h.0, prepared_more seen n ds r.1 h.1)

  from_times : (k free spare : ℕ) (active : Bool) → (0 < k → (k ≤ free) × (k ≤ spare) × (active ≡ true)) → (k ≤ free) × (k ≤ spare) × (0 < k → active ≡ true)
  from_times zero free spare active h = (omega arith, omega arith, λ some. absurd (omega (arith, some)))
  from_times (suc k) free spare active h = let r = h (omega arith) in (r.0, r.1, λ _. r.2)

  pub prepared_all : (ds : List DoorView) → Prepared station numbers numbers ds → HavePlaces station numbers ds
  prepared_all [] h = tt
  prepared_all (d ∷ ds) h = (λ at. from_times (times d.port.number numbers) d.free d.spare d.active (h.0 at), prepared_all ds h.1)

  pub lacks_place : (n : ℕ) (ds : List DoorView) → 0 < times n numbers → LacksRoom (port station n) (times n numbers) ds → LacksPlace station numbers ds
  lacks_place n ds some h = record {
    place = h.place;
    within = h.is.0;
    lacks = λ d.
        let p : (get_or ds h.place d).port ≡ port station n = h.is.1 d in
        let e : (get_or ds h.place d).port.number ≡ n = ap (λ (q : PortId). q.number) p in (
          ap (λ (q : PortId). q.station) p,
          subst (λ (m : ℕ). 0 < times m numbers) (sym e) some,
          elim (h.lacks d) [
            | inl z ↦ inl (subst (λ (m : ℕ). (get_or ds h.place d).free < times m numbers) (sym e) z)
            | inr z ↦ inr z
          ],
        );
  }
