-- Packets that come one after another, and the windows that they come in.
use Rattle.std.proofs.Common.{◌≡◌, ℕ, zero, suc, ◌+◌, ◌<◌, ◌≤◌, List, ◌∷◌, ◌++◌, map, true, refl, subst, arith}
use Rattle.std.specs.Prelude.{flat_map}
use Rattle.std.specs.List.{range_with_len}
use Rattle.std.proofs.lemmas.List.{append-nil, append_assoc}
use Rattle.bus_frame.specs.Frames.{CanFrame}
use Rattle.tp_wire.specs.Rows.{written}
use Rattle.tp_wire.specs.declared.wire.Wire.TheVariants.{Packet}
use Rattle.seg_cut.specs.Packets.{packet}
use Rattle.log_decode.specs.Session.{is_within}
use Rattle.decode_law.proofs.Steps.{Laws, Case, last, Place, Stands, Over}
use Rattle.decode_law.proofs.Frames.{packet_goes, packet_ends}

-- packets of a window, by their sequence numbers up to its top
module _ (laws : Laws) (c : Case) (place : Place) (top : ℕ) (inside : (i : ℕ) → i ≤ top → is_within place.window i ≡ true)
    (f : ℕ → CanFrame) (f_is : (i : ℕ) → 1 ≤ i → f i ≡ written (Packet c.kind i (packet c.m.bytes (place.offset + i))) c.s.0 c.d.0) where
  next_packet : (i : ℕ) (rest : List CanFrame) → 1 ≤ i → i ≤ top → place.offset + i < last laws c → Stands laws c (place.offset + i) place (f i ∷ rest) → Stands laws c (place.offset + (i + 1)) place rest
  next_packet i rest from_first up_to more a =
      let e : place.offset + i + 1 ≡ place.offset + (i + 1) = omega arith in
      subst (λ k. Stands laws c k place rest) e (packet_goes laws c (place.offset + i) place i rest from_first (inside i up_to) refl more (subst (λ x. Stands laws c (place.offset + i) place (x ∷ rest)) (f_is i from_first) a))

  pub packets_go : (n i : ℕ) (rest : List CanFrame) → 1 ≤ i → i + n ≤ top + 1 → place.offset + i + n ≤ last laws c → Stands laws c (place.offset + i) place (map f (range_with_len i n) ++ rest) → Stands laws c (place.offset + i + n) place rest
  packets_go zero i rest from_first up_to within a = let e : place.offset + i ≡ place.offset + i + 0 = omega arith in subst (λ k. Stands laws c k place rest) e a
  packets_go (suc n) i rest from_first up_to within a =
      let e : place.offset + (i + 1) + n ≡ place.offset + i + suc n = omega arith in
      subst (λ k. Stands laws c k place rest) e
      (packets_go n (i + 1) rest (omega arith) (omega (arith, up_to)) (omega (arith, within)) (next_packet i (map f (range_with_len (i + 1) n) ++ rest) from_first (omega (arith, up_to)) (omega (arith, within)) a))

  pub packets_end : (n i : ℕ) (rest : List CanFrame) → 1 ≤ i → i + n ≤ top → place.offset + i + n ≡ last laws c → Stands laws c (place.offset + i) place (map f (range_with_len i (suc n)) ++ rest) → Over laws c rest
  packets_end zero i rest from_first up_to all a =
      packet_ends laws c (place.offset + i) place i rest from_first (inside i (omega (arith, up_to))) refl (omega (arith, all)) (subst (λ x. Stands laws c (place.offset + i) place (x ∷ rest)) (f_is i from_first) a)
  packets_end (suc n) i rest from_first up_to all a =
      packets_end n (i + 1) rest (omega arith) (omega (arith, up_to)) (omega (arith, all))
      (next_packet i (map f (range_with_len (i + 1) (suc n)) ++ rest) from_first (omega (arith, up_to)) (omega (arith, all)) a)

-- windows that follow one another, each of its first packet and how many: all but the last leave more to come
module _ (count all : ℕ) (window : ℕ × ℕ → List CanFrame) (first size : ℕ → ℕ) (At : ℕ → List CanFrame → Type 0) (Ended : List CanFrame → Type 0)
    (inner : (j n : ℕ) (rest : List CanFrame) → j + suc (suc n) ≡ count → At (first j) (window (first j, size j) ++ rest) → At (first (j + 1)) rest)
    (outer : (j : ℕ) (rest : List CanFrame) → j + 1 ≡ count → At (first j) (window (first j, size j) ++ rest) → Ended rest) where
  abbrev group : ℕ → ℕ × ℕ
  group j = (first j, size j)

  pub windows_end : (n j : ℕ) (rest : List CanFrame) → j + suc n ≡ count → At (first j) (flat_map window (map group (range_with_len j (suc n))) ++ rest) → Ended rest
  windows_end zero j rest all a = outer j rest (omega (arith, all)) (subst (λ fs. At (first j) (fs ++ rest)) (append-nil (window (group j))) a)
  windows_end (suc n) j rest all a =
      windows_end n (j + 1) rest (omega (arith, all))
      (inner j n (flat_map window (map group (range_with_len (j + 1) (suc n))) ++ rest) all
      (subst (At (first j)) (append_assoc (window (group j)) (flat_map window (map group (range_with_len (j + 1) (suc n)))) rest) a))
