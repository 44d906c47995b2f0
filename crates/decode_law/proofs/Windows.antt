-- The windows of a message to one node, one after another.
use Rattle.std.proofs.Common.{◌≡◌, ℕ, suc, ◌+◌, ◌-◌, ◌*◌, ◌/◌, ◌<◌, ◌≤◌, ◌^◌, min, true, Some, List, ◌∷◌, ◌++◌, map, refl, sym, subst, arith}
use Rattle.std.proofs.lemmas.Bool.{le-leb}
use Rattle.std.specs.Prelude.{flat_map}
use Rattle.std.specs.List.{range_with_len}
use Rattle.bus_frame.specs.Frames.{CanFrame}
use Rattle.pgn_ids.specs.Address.{is_one}
use Rattle.tp_wire.specs.Rows.{written}
use Rattle.tp_wire.specs.declared.wire.Kind.TheVariants.{Tp, Etp}
use Rattle.tp_wire.specs.declared.wire.CmFrame.TheVariants.{Cts, EtpCts, EtpDpo}
use Rattle.tp_wire.specs.declared.wire.Wire.TheVariants.{Cm, Packet}
use Rattle.seg_cut.specs.Packets.{packet}
use Rattle.segment_law.specs.Quiet.{groups, tp_window, etp_window}
use Rattle.log_decode.specs.Session.{is_within}
use Rattle.decode_law.proofs.Steps.{Laws, Case, last, Place, first_place, Stands, Over, step}
use Rattle.decode_law.proofs.Walks.{packets_go, packets_end, windows_end}
use Rattle.decode_law.proofs.Managing.{cts_goes, etp_cts_goes, dpo_goes}

module _ (laws : Laws) (c : Case) (own : is_one c.d.0 ≡ true) (some : 2 ≤ last laws c) where
  -- ---- TP

  module _ (is : c.kind ≡ Tp) where
    abbrev tp_count : ℕ
    tp_count = (last laws c + 16 - 1) / 16

    abbrev tp_first : ℕ → ℕ
    tp_first j = 16 * j + 1

    abbrev tp_size : ℕ → ℕ
    tp_size j = min 16 (last laws c - 16 * j)

    abbrev tp_frame : ℕ → CanFrame
    tp_frame p = written (Packet Tp p (packet c.m.bytes p)) c.s.0 c.d.0

    tp_same : (i : ℕ) → 1 ≤ i → tp_frame i ≡ written (Packet c.kind i (packet c.m.bytes (0 + i))) c.s.0 c.d.0
    tp_same i from_first = let e : i ≡ 0 + i = omega arith in (λ z. written (Packet (sym is z) i (packet c.m.bytes (e z))) c.s.0 c.d.0)

    abbrev tp_place : Place
    tp_place = first_place Tp

    tp_inside : (i : ℕ) → i ≤ last laws c → is_within tp_place.window i ≡ true
    tp_inside i up_to = refl

    tp_granted : (j : ℕ) (rest : List CanFrame) → Stands laws c (tp_first j) tp_place (tp_window c.m c.s c.d (tp_first j, tp_size j) ++ rest)
        → Stands laws c (0 + tp_first j) tp_place (map tp_frame (range_with_len (tp_first j) (tp_size j)) ++ rest)
    tp_granted j rest a =
        let e : tp_first j ≡ 0 + tp_first j = omega arith in
        subst (λ k. Stands laws c k tp_place (map tp_frame (range_with_len (tp_first j) (tp_size j)) ++ rest)) e
        (step laws c (written (Cm (Cts (tp_size j) (tp_first j) c.m.pgn)) c.d.0 c.s.0) (map tp_frame (range_with_len (tp_first j) (tp_size j)) ++ rest) (tp_first j) tp_place (tp_first j) tp_place
        (λ time now x g. cts_goes laws c own (tp_first j) tp_place time now x g is (tp_size j) (tp_first j)) a)

    tp_inner : (j n : ℕ) (rest : List CanFrame) → j + suc (suc n) ≡ tp_count → Stands laws c (tp_first j) tp_place (tp_window c.m c.s c.d (tp_first j, tp_size j) ++ rest) → Stands laws c (tp_first (j + 1)) tp_place rest
    tp_inner j n rest all a =
        let e : 0 + tp_first j + tp_size j ≡ tp_first (j + 1) = omega (arith, all) in
        subst (λ k. Stands laws c k tp_place rest) e
        (packets_go laws c tp_place (last laws c) tp_inside tp_frame tp_same (tp_size j) (tp_first j) rest (omega arith) (omega (arith, all)) (omega (arith, all)) (tp_granted j rest a))

    tp_outer : (j : ℕ) (rest : List CanFrame) → j + 1 ≡ tp_count → Stands laws c (tp_first j) tp_place (tp_window c.m c.s c.d (tp_first j, tp_size j) ++ rest) → Over laws c rest
    tp_outer j rest all a =
        let n : ℕ = tp_size j - 1 in
        let e : tp_size j ≡ suc n = omega (arith, all, some) in
        packets_end laws c tp_place (last laws c) tp_inside tp_frame tp_same n (tp_first j) rest (omega arith) (omega (arith, all, some)) (omega (arith, all, some))
        (subst (λ k. Stands laws c (0 + tp_first j) tp_place (map tp_frame (range_with_len (tp_first j) k) ++ rest)) e (tp_granted j rest a))

    pub tp_windows : (rest : List CanFrame) → Stands laws c 1 tp_place (flat_map (tp_window c.m c.s c.d) (groups 16 (last laws c)) ++ rest) → Over laws c rest
    tp_windows rest a =
        let n : ℕ = tp_count - 1 in
        let e : tp_count ≡ suc n = omega (arith, some) in
        windows_end tp_count (last laws c) (tp_window c.m c.s c.d) tp_first tp_size (λ k fs. Stands laws c k tp_place fs) (Over laws c) tp_inner tp_outer n 0 rest (omega (arith, some))
        (subst (λ k. Stands laws c 1 tp_place (flat_map (tp_window c.m c.s c.d) (map (λ j. (tp_first j, tp_size j)) (range_with_len 0 k)) ++ rest)) e a)

  -- ---- ETP

  module _ (is : c.kind ≡ Etp) (most : last laws c < 2 ^ 24) where
    abbrev etp_count : ℕ
    etp_count = (last laws c + 64 - 1) / 64

    abbrev etp_first : ℕ → ℕ
    etp_first j = 64 * j + 1

    abbrev etp_size : ℕ → ℕ
    etp_size j = min 64 (last laws c - 64 * j)

    -- the packet of a sequence number, in the window of this first packet
    abbrev etp_frame : (first : ℕ) → ℕ → CanFrame
    etp_frame first i = written (Packet Etp i (packet c.m.bytes (first + i - 1))) c.s.0 c.d.0

    etp_same : (j i : ℕ) → 1 ≤ i → etp_frame (etp_first j) i ≡ written (Packet c.kind i (packet c.m.bytes (etp_first j - 1 + i))) c.s.0 c.d.0
    etp_same j i from_first = let e : etp_first j + i - 1 ≡ etp_first j - 1 + i = omega (arith, from_first) in (λ z. written (Packet (sym is z) i (packet c.m.bytes (e z))) c.s.0 c.d.0)

    -- whatever the window before it
    record Between (next : ℕ) (rest : List CanFrame) : Type 0 where
      place : Place
      stands : Stands laws c next place rest

    -- the window of a group
    abbrev etp_place : ℕ → Place
    etp_place j = record { offset = etp_first j - 1; window = Some (etp_size j) }

    etp_inside : (j i : ℕ) → i ≤ etp_size j → is_within (Some (etp_size j)) i ≡ true
    etp_inside j i up_to = le-leb i (etp_size j) up_to

    etp_granted : (j : ℕ) (rest : List CanFrame) → etp_first j ≤ last laws c → Between (etp_first j) (etp_window c.m c.s c.d (etp_first j, etp_size j) ++ rest)
        → Stands laws c (etp_first j - 1 + 1) (etp_place j) (map (etp_frame (etp_first j)) (range_with_len 1 (etp_size j)) ++ rest)
    etp_granted j rest within a =
        let e : etp_first j ≡ etp_first j - 1 + 1 = omega arith in
        let packets : List CanFrame = map (etp_frame (etp_first j)) (range_with_len 1 (etp_size j)) ++ rest in
        let announcing : CanFrame = written (Cm (EtpDpo (etp_size j) (etp_first j - 1) c.m.pgn)) c.s.0 c.d.0 in
        let shut : Place = record { offset = a.place.offset; window = Some 0 } in
        let asked = step laws c (written (Cm (EtpCts (etp_size j) (etp_first j) c.m.pgn)) c.d.0 c.s.0) (announcing ∷ packets) (etp_first j) a.place (etp_first j) shut
        (λ time now x g. etp_cts_goes laws c own (etp_first j) a.place time now x g is (etp_size j) (etp_first j) (omega (arith, within, most))) a.stands in
        subst (λ k. Stands laws c k (etp_place j) packets) e
        (step laws c announcing packets (etp_first j) shut (etp_first j) (etp_place j)
        (λ time now x g. dpo_goes laws c own (etp_first j) shut time now x g is (etp_size j) (etp_first j - 1) (omega (arith, within, most))) asked)

    etp_inner : (j n : ℕ) (rest : List CanFrame) → j + suc (suc n) ≡ etp_count → Between (etp_first j) (etp_window c.m c.s c.d (etp_first j, etp_size j) ++ rest) → Between (etp_first (j + 1)) rest
    etp_inner j n rest all a =
        let e : etp_first j - 1 + 1 + etp_size j ≡ etp_first (j + 1) = omega (arith, all) in
        record {
          place = etp_place j;
          stands = subst (λ k. Stands laws c k (etp_place j) rest) e
              (packets_go laws c (etp_place j) (etp_size j) (etp_inside j) (etp_frame (etp_first j)) (etp_same j) (etp_size j) 1 rest (omega arith) (omega arith) (omega (arith, all)) (etp_granted j rest (omega (arith, all)) a));
        }

    etp_outer : (j : ℕ) (rest : List CanFrame) → j + 1 ≡ etp_count → Between (etp_first j) (etp_window c.m c.s c.d (etp_first j, etp_size j) ++ rest) → Over laws c rest
    etp_outer j rest all a =
        let n : ℕ = etp_size j - 1 in
        let e : etp_size j ≡ suc n = omega (arith, all, some) in
        packets_end laws c (etp_place j) (etp_size j) (etp_inside j) (etp_frame (etp_first j)) (etp_same j) n 1 rest (omega arith) (omega (arith, e)) (omega (arith, all, some))
        (subst (λ k. Stands laws c (etp_first j - 1 + 1) (etp_place j) (map (etp_frame (etp_first j)) (range_with_len 1 k) ++ rest)) e (etp_granted j rest (omega (arith, all, some)) a))

    pub etp_windows : (rest : List CanFrame) → Stands laws c 1 (first_place Etp) (flat_map (etp_window c.m c.s c.d) (groups 64 (last laws c)) ++ rest) → Over laws c rest
    etp_windows rest a =
        let n : ℕ = etp_count - 1 in
        let e : etp_count ≡ suc n = omega (arith, some) in
        windows_end etp_count (last laws c) (etp_window c.m c.s c.d) etp_first etp_size Between (Over laws c) etp_inner etp_outer n 0 rest (omega (arith, some))
        (record { place = first_place Etp; stands = subst (λ k. Stands laws c 1 (first_place Etp) (flat_map (etp_window c.m c.s c.d) (map (λ j. (etp_first j, etp_size j)) (range_with_len 0 k)) ++ rest)) e a })
