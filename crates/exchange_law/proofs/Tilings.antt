-- The windows that are asked for one after another are the groups of the quiet list: each but the last is full, and the last has
-- what is left.
use Rattle.std.proofs.Common.{◌≡◌, ℕ, zero, suc, ◌+◌, ◌-◌, ◌*◌, ◌/◌, ◌≤◌, min, List, [], ◌∷◌, ◌++◌, map, refl, sym, ap, ◌∙◌, subst, arith}
use Rattle.std.specs.Prelude.{flat_map}
use Rattle.std.specs.List.{range_with_len}
use Rattle.std.proofs.lemmas.List.{append-nil, append_assoc}
use Rattle.bus_frame.specs.Frames.{CanFrame}
use Rattle.tp_wire.specs.Rows.{written}
use Rattle.tp_wire.specs.declared.wire.Kind.{Kind}
use Rattle.tp_wire.specs.declared.wire.Kind.TheVariants.{Tp, Etp}
use Rattle.tp_wire.specs.declared.wire.CmFrame.TheVariants.{Cts, EtpCts, EtpDpo}
use Rattle.tp_wire.specs.declared.wire.Wire.TheVariants.{Cm, Packet}
use Rattle.seg_cut.specs.Packets.{packet}
use Rattle.originator.specs.Link.{request_to_send}
use Rattle.originator.specs.Pump as out
use Rattle.responder.specs.Window.{clear_to_send}
use Rattle.segment_law.specs.Quiet.{tp_window, etp_window, quiet_connection}
use Rattle.exchange_law.proofs.Senders.{Sent, s, d, len, last, rts}
use Rattle.exchange_law.proofs.Receivers.{Welcome}
use Rattle.exchange_law.proofs.Rows.{Laws, packet_wire}
use Rattle.exchange_law.proofs.Sessions.{widest, grant, ending}
use Rattle.exchange_law.proofs.Exchanges.{left, Tiles, reach, opened}

-- the same frames, numbered from the window's first packet
shifted : {X : Type 0} (f g : ℕ → X) (a b : ℕ) → ((i : ℕ) → f (a + i) ≡ g (b + i)) → (n : ℕ) → map f (range_with_len a n) ≡ map g (range_with_len b n)
shifted f g a b same zero = refl
shifted f g a b same (suc n) = (λ j. first j ∷ shifted f g (a + 1) (b + 1) later n j)
  where
    first : f a ≡ g b
    first = (let x : a ≡ a + 0 = omega arith in let y : b + 0 ≡ b = omega arith in ap f x ∙ same 0 ∙ ap g y)

    later : (i : ℕ) → f (a + 1 + i) ≡ g (b + 1 + i)
    later i = (let x : a + 1 + i ≡ a + (1 + i) = omega arith in let y : b + (1 + i) ≡ b + 1 + i = omega arith in ap f x ∙ same (1 + i) ∙ ap g y)

module _ (laws : Laws) (e : Sent) (h : Welcome e) (L now : ℕ) where
  -- a CTS, and the frames that it grants
  abbrev asked : Kind → (k : ℕ) → List CanFrame
  asked kind k = written (Cm (clear_to_send kind (grant e kind k) k e.m.pgn)) (d e).0 (s e).0 ∷ (out.announcement kind (opened laws e h L now k) ++ map (λ p. written (packet_wire laws e kind k p) (s e).0 (d e).0) (range_with_len k (grant e kind k)))

  -- ---- TP

  module _ (is : e.kind ≡ Tp) where
    tp_most : widest e.kind ≡ 16
    tp_most = ap widest is

    abbrev tp_group : ℕ → ℕ × ℕ
    tp_group j = (16 * j + 1, min 16 (last e - 16 * j))

    tp_full : (j n : ℕ) → j + suc (suc n) ≡ (last e + 16 - 1) / 16 → reach laws e h L now (16 * j + 1) + 1 ≡ 16 * (j + 1) + 1
    tp_full j n all = omega (arith, all, tp_most)

    tp_rest : (j : ℕ) → j + 1 ≡ (last e + 16 - 1) / 16 → reach laws e h L now (16 * j + 1) + 1 ≡ last e + 1
    tp_rest j all = omega (arith, all, tp_most)

    tp_inside : (j n : ℕ) → j + suc n ≡ (last e + 16 - 1) / 16 → 16 * j + 1 ≤ last e
    tp_inside j n all = omega (arith, all)

    tp_tiles : (n j : ℕ) → j + suc n ≡ (last e + 16 - 1) / 16 → Tiles laws e h L now (suc n) (16 * j + 1)
    tp_tiles zero j all = (tp_inside j 0 all, tp_rest j (omega (arith, all)))
    tp_tiles (suc n) j all = (tp_inside j (suc n) all, subst (Tiles laws e h L now (suc n)) (sym (tp_full j n all)) (tp_tiles n (j + 1) (omega (arith, all))))

    tp_asked : (j : ℕ) → asked e.kind (16 * j + 1) ≡ tp_window e.m (s e) (d e) (tp_group j)
    tp_asked j =
        let g : min 16 (last e + 1 - (16 * j + 1)) ≡ min 16 (last e - 16 * j) = omega arith in
        ap (λ (kind : Kind). asked kind (16 * j + 1)) is
        ∙ ap (λ (n : ℕ). written (Cm (Cts n (16 * j + 1) e.m.pgn)) (d e).0 (s e).0 ∷ map (λ p. written (Packet Tp p (packet e.m.bytes p)) (s e).0 (d e).0) (range_with_len (16 * j + 1) n)) g

    tp_left : (n j : ℕ) → j + suc n ≡ (last e + 16 - 1) / 16 → left laws e h L now (suc n) (16 * j + 1) ≡ flat_map (tp_window e.m (s e) (d e)) (map tp_group (range_with_len j (suc n))) ++ ending e Tp ∷ []
    tp_left zero j all = (λ i. tp_asked j i ++ ending e (is i) ∷ []) ∙ ap (λ (fs : List CanFrame). fs ++ ending e Tp ∷ []) (sym (append-nil (tp_window e.m (s e) (d e) (tp_group j))))
    tp_left (suc n) j all =
        (λ i. tp_asked j i ++ (ap (left laws e h L now (suc n)) (tp_full j n all) ∙ tp_left n (j + 1) (omega (arith, all))) i)
        ∙ sym (append_assoc (tp_window e.m (s e) (d e) (tp_group j)) (flat_map (tp_window e.m (s e) (d e)) (map tp_group (range_with_len (j + 1) (suc n)))) (ending e Tp ∷ []))

    -- the frames of the whole message
    pub tp_frames : (n : ℕ) → 0 + suc n ≡ (last e + 16 - 1) / 16 → rts e ∷ left laws e h L now (suc n) 1 ≡ quiet_connection Tp e.m (s e) (d e)
    tp_frames n all =
        (λ i. written (Cm (request_to_send (is i) (len e) e.m.pgn)) (s e).0 (d e).0 ∷ tp_left n 0 all i)
        ∙ ap (λ (k : ℕ). written (Cm (request_to_send Tp (len e) e.m.pgn)) (s e).0 (d e).0 ∷ (flat_map (tp_window e.m (s e) (d e)) (map tp_group (range_with_len 0 k)) ++ ending e Tp ∷ [])) (let x : suc n ≡ (last e + 16 - 1) / 16 = omega (arith, all) in x)

  -- ---- ETP

  module _ (is : e.kind ≡ Etp) where
    etp_most : widest e.kind ≡ 64
    etp_most = ap widest is

    abbrev etp_group : ℕ → ℕ × ℕ
    etp_group j = (64 * j + 1, min 64 (last e - 64 * j))

    etp_full : (j n : ℕ) → j + suc (suc n) ≡ (last e + 64 - 1) / 64 → reach laws e h L now (64 * j + 1) + 1 ≡ 64 * (j + 1) + 1
    etp_full j n all = omega (arith, all, etp_most)

    etp_rest : (j : ℕ) → j + 1 ≡ (last e + 64 - 1) / 64 → reach laws e h L now (64 * j + 1) + 1 ≡ last e + 1
    etp_rest j all = omega (arith, all, etp_most)

    etp_inside : (j n : ℕ) → j + suc n ≡ (last e + 64 - 1) / 64 → 64 * j + 1 ≤ last e
    etp_inside j n all = omega (arith, all)

    pub etp_tiles : (n j : ℕ) → j + suc n ≡ (last e + 64 - 1) / 64 → Tiles laws e h L now (suc n) (64 * j + 1)
    etp_tiles zero j all = (etp_inside j 0 all, etp_rest j (omega (arith, all)))
    etp_tiles (suc n) j all = (etp_inside j (suc n) all, subst (Tiles laws e h L now (suc n)) (sym (etp_full j n all)) (etp_tiles n (j + 1) (omega (arith, all))))

    etp_asked : (j : ℕ) → asked e.kind (64 * j + 1) ≡ etp_window e.m (s e) (d e) (etp_group j)
    etp_asked j =
        ap (λ (kind : Kind). asked kind k) is
        ∙ (λ i. written (Cm (EtpCts (g i) k e.m.pgn)) (d e).0 (s e).0 ∷ written (Cm (EtpDpo (all i) (k - 1) e.m.pgn)) (s e).0 (d e).0 ∷ map (λ p. written (Packet Etp (p - (k - 1)) (packet e.m.bytes p)) (s e).0 (d e).0) (range_with_len k (g i)))
        ∙ ap (λ (fs : List CanFrame). written (Cm (EtpCts (min 64 (last e - 64 * j)) k e.m.pgn)) (d e).0 (s e).0 ∷ written (Cm (EtpDpo (min 64 (last e - 64 * j)) (k - 1) e.m.pgn)) (s e).0 (d e).0 ∷ fs)
        (shifted (λ p. written (Packet Etp (p - (k - 1)) (packet e.m.bytes p)) (s e).0 (d e).0) (λ i. written (Packet Etp i (packet e.m.bytes (k + i - 1))) (s e).0 (d e).0) k 1 same (min 64 (last e - 64 * j)))
      where
        k : ℕ
        k = 64 * j + 1

        g : min 64 (last e + 1 - (64 * j + 1)) ≡ min 64 (last e - 64 * j)
        g = omega arith

        all : reach laws e h L now (64 * j + 1) + 1 - (64 * j + 1) ≡ min 64 (last e - 64 * j)
        all = omega (arith, etp_most)

        same : (i : ℕ) → written (Packet Etp (k + i - (k - 1)) (packet e.m.bytes (k + i))) (s e).0 (d e).0 ≡ written (Packet Etp (1 + i) (packet e.m.bytes (k + (1 + i) - 1))) (s e).0 (d e).0
        same i =
            let x : k + i - (k - 1) ≡ 1 + i = omega arith in
            let y : k + i ≡ k + (1 + i) - 1 = omega arith in
            (λ z. written (Packet Etp (x z) (packet e.m.bytes (y z))) (s e).0 (d e).0)

    etp_left : (n j : ℕ) → j + suc n ≡ (last e + 64 - 1) / 64 → left laws e h L now (suc n) (64 * j + 1) ≡ flat_map (etp_window e.m (s e) (d e)) (map etp_group (range_with_len j (suc n))) ++ ending e Etp ∷ []
    etp_left zero j all = (λ i. etp_asked j i ++ ending e (is i) ∷ []) ∙ ap (λ (fs : List CanFrame). fs ++ ending e Etp ∷ []) (sym (append-nil (etp_window e.m (s e) (d e) (etp_group j))))
    etp_left (suc n) j all =
        (λ i. etp_asked j i ++ (ap (left laws e h L now (suc n)) (etp_full j n all) ∙ etp_left n (j + 1) (omega (arith, all))) i)
        ∙ sym (append_assoc (etp_window e.m (s e) (d e) (etp_group j)) (flat_map (etp_window e.m (s e) (d e)) (map etp_group (range_with_len (j + 1) (suc n)))) (ending e Etp ∷ []))

    pub etp_frames : (n : ℕ) → 0 + suc n ≡ (last e + 64 - 1) / 64 → rts e ∷ left laws e h L now (suc n) 1 ≡ quiet_connection Etp e.m (s e) (d e)
    etp_frames n all =
        (λ i. written (Cm (request_to_send (is i) (len e) e.m.pgn)) (s e).0 (d e).0 ∷ etp_left n 0 all i)
        ∙ ap (λ (k : ℕ). written (Cm (request_to_send Etp (len e) e.m.pgn)) (s e).0 (d e).0 ∷ (flat_map (etp_window e.m (s e) (d e)) (map etp_group (range_with_len 0 k)) ++ ending e Etp ∷ [])) (let x : suc n ≡ (last e + 64 - 1) / 64 = omega (arith, all) in x)

  -- ---- either

  pub record Tiled : Type 0 where
    pub windows : ℕ
    pub tiles : Tiles laws e h L now (suc windows) 1
    pub frames : rts e ∷ left laws e h L now (suc windows) 1 ≡ quiet_connection e.kind e.m (s e) (d e)

  pub tiled : Tiled
  tiled = by e.kind refl
    where
      some_packets : 2 ≤ last e
      some_packets = omega (arith, e.least)

      by : (kind : Kind) → e.kind ≡ kind → Tiled
      by Tp is =
          let n : ℕ = (last e + 16 - 1) / 16 - 1 in
          let all : 0 + suc n ≡ (last e + 16 - 1) / 16 = omega (arith, some_packets) in
          record { windows = n; tiles = tp_tiles is n 0 all; frames = tp_frames is n all ∙ ap (λ (kind : Kind). quiet_connection kind e.m (s e) (d e)) (sym is) }
      by Etp is =
          let n : ℕ = (last e + 64 - 1) / 64 - 1 in
          let all : 0 + suc n ≡ (last e + 64 - 1) / 64 = omega (arith, some_packets) in
          record { windows = n; tiles = etp_tiles is n 0 all; frames = etp_frames is n all ∙ ap (λ (kind : Kind). quiet_connection kind e.m (s e) (d e)) (sym is) }
