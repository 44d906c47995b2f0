-- Of a message of which a log lacks frames nothing else is told.
use Rattle.std.proofs.Common.{◌≡◌, ℕ, zero, suc, ◌+◌, ◌-◌, ◌*◌, ◌/◌, ◌<◌, ◌≤◌, ◌^◌, ◌==◌, ◌||◌, ◌&&◌, min, List, [], ◌∷◌, ◌++◌, Bool, true, false, cond, map, length, Some, None, refl, sym, ap, ◌∙◌, subst, arith, nat_lt, if◌then◌else◌, inl, inr}
use Rattle.std.specs.Prelude.{flat_map, nat_le}
use Rattle.std.specs.List.{range_with_len}
use Rattle.std.proofs.lemmas.List.{append-nil, append_assoc}
use Rattle.std.proofs.lemmas.Bool.{le-leb, leb-true, leb-false, eq-eqb}
use Rattle.bus_frame.specs.Frames.{CanFrame}
use Rattle.log_fields.specs.declared.iface.Iface.{Iface}
use Rattle.pgn_ids.specs.Address.{is_one, global_address}
use Rattle.pgn_ids.specs.Pgn.{clean}
use Rattle.pgn_ids.specs.declared.address.Address.{Address}
use Rattle.tp_wire.specs.Rows.{IsRow, written, goes_to}
use Rattle.tp_wire.specs.declared.constants.TheConstants.{MIN_SIZE, TP_MAX_SIZE, ETP_MAX_SIZE}
use Rattle.tp_wire.specs.declared.wire.Kind.{Kind}
use Rattle.tp_wire.specs.declared.wire.Kind.TheVariants.{Tp, Etp}
use Rattle.tp_wire.specs.declared.wire.CmFrame.TheVariants.{Rts, Cts, EndOfMsgAck, Bam, EtpRts, EtpCts, EtpDpo, EtpEoma}
use Rattle.tp_wire.specs.declared.wire.Wire.{Wire}
use Rattle.tp_wire.specs.declared.wire.Wire.TheVariants.{Cm, Packet}
use Rattle.seg_cut.specs.Packets.{packet_count, packet}
use Rattle.lane_core.specs.Lane.{kind_for}
use Rattle.lane_core.specs.declared.message.Pending.{Pending}
use Rattle.segment_law.specs.Quiet.{quiet, quiet_broadcast, quiet_connection, is_to_all, groups, tp_window, etp_window}
use Rattle.log_decode.specs.Session.{opened, sequence_heard, heard}
use Rattle.log_decode.specs.Sessions.{Heard, heard_at, losses, announced}
use Rattle.log_decode.specs.Decoder.{frame_taken, cm_frame_taken, wire_taken, passed}
use Rattle.log_reports.specs.declared.key.Key.{Key}
use Rattle.log_decode.specs.declared.session.Session.{Session}
use Rattle.log_decode.specs.declared.session.Fate.{Fate}
use Rattle.log_decode.specs.declared.session.Fate.TheVariants as fates
use Rattle.log_reports.specs.declared.told.Cause.TheVariants.{TooLong, EndOfLog}
use Rattle.log_reports.specs.declared.told.Told.TheVariants.{Lost}
use Rattle.log_decode.proofs.Own.{of_own, own_heard, own_announced}
use Rattle.decode_law.specs.Hearing.{IsSendable, key_for, kind_to}
use Rattle.decode_law.specs.Lacking.{IsToldOf, IsToldRightly}
use Rattle.decode_law.proofs.Steps.{Laws, key_with}
use Rattle.log_reports.specs.Keys.{transport_of}
use Rattle.decode_law.proofs.Alone.{IsOf, Holds, Comes, lost, passes, none_passes, comes}
use Rattle.decode_law.proofs.Through.{Fine, nothing_more, one_more, free_only}
use Rattle.decode_law.proofs.Gaps.{IsFront, front_later, packet_comes, cts_comes, ack_comes, etp_ack_comes, Ahead, Within, stuck_later, etp_cts_comes, dpo_comes, dpo_missing, etp_packet_comes, etp_packet_missing, next_window}

module _ (laws : Laws) (m : Pending) (s d : Address) (iface : Iface) (kind : Kind) (h : IsSendable m s d) where
  abbrev key : Key
  key = key_with iface s d kind

  abbrev len : ℕ
  len = length m.bytes

  abbrev last : ℕ
  last = packet_count len

  abbrev Of : Session → Type 0
  Of x = IsOf key m.pgn m.bytes x

  abbrev On : (Session → Type 0) → Heard → Type 0
  On S x = Holds key m.pgn m.bytes S x

  abbrev Right : (Heard → Type 0) → List CanFrame → Type 0
  Right C whole = Fine key m.pgn m.bytes C whole

  meaning : (w : Wire) (a b : Address) (most now : ℕ) (x : Heard) → IsRow w a.0 b.0 → frame_taken iface (written w a.0 b.0) most now x ≡ wire_taken (record { iface = iface; from = a; to = b }) w most now x
  meaning w a b most now x row = ap (λ o. elim o [ None ↦ x | Some r ↦ wire_taken (record { iface = iface; from = r.1; to = r.2 }) r.0 most now x ]) (laws.reads w a b row)

  later : (S S' : Session → Type 0) → ((x : Session) → S x → S' x) → (x : Heard) → On S x → On S' x
  later S S' skip x (inl a) = inl (a.0, a.1, a.2, skip a.0 a.3)
  later S S' skip x (inr a) = inr a

  sooner : (S S' : Session → Type 0) → ((x : Session) → S x → S' x) → (whole : List CanFrame) → Right (On S') whole → Right (On S) whole
  sooner S S' skip whole rest l log told a part = rest l log told (record { es = a.es; only = a.only; so = later S S' skip _ a.so }) part

  one_frame : (S S' : Session → Type 0) (frame : CanFrame) (f : ℕ → Session → Session × Fate)
      → ((most now : ℕ) (x : Heard) → frame_taken iface frame most now x ≡ heard_at (f now) key x)
      → ((now : ℕ) (x : Session) → Of x → S x → Comes key m.pgn m.bytes S' (f now x))
      → ((x : Session) → S x → S' x) → (whole : List CanFrame) → Right (On S') whole → Right (On S) (frame ∷ whole)
  one_frame S S' frame f is does skip whole rest =
      one_more key m.pgn m.bytes (On S) (passes key m.pgn m.bytes S) (On S') frame whole (later S S' skip)
      (λ most now x c. subst (On S') (sym (ap (of_own key) (is most now x) ∙ own_heard key (f now) x)) (comes key m.pgn m.bytes S S' (f now) (does now) (of_own key x) c))
      rest

  ends : (S : Session → Type 0) → Right (On S) []
  ends S = nothing_more key m.pgn m.bytes (On S) (passes key m.pgn m.bytes S) right
    where
      right : (x : Heard) → On S x → IsToldOf key m.pgn m.bytes (x.1 ++ losses (fates.Lost EndOfLog) x.0)
      right x (inl a) = subst (λ (y : Heard). IsToldOf key m.pgn m.bytes (y.1 ++ losses (fates.Lost EndOfLog) y.0)) (sym a.1) (lost key m.pgn m.bytes a.0 a.2 EndOfLog)
      right x (inr a) = subst (λ (y : Heard). IsToldOf key m.pgn m.bytes (y.1 ++ losses (fates.Lost EndOfLog) y.0)) (sym a.1) (subst (IsToldOf key m.pgn m.bytes) (sym (append-nil a.0)) a.2)

  -- ---- the announcement

  abbrev Nothing : Heard → Type 0
  Nothing x = x ≡ ([], [])

  opens : (S : Session → Type 0) (frame : CanFrame) → ((most now : ℕ) (x : Heard) → frame_taken iface frame most now x ≡ announced key (record { pgn = m.pgn; size = len; is_sound = true }) most now x)
      → ((now : ℕ) → S (opened key.transport m.pgn len now)) → (whole : List CanFrame) → Right (On S) whole → Right Nothing (frame ∷ whole)
  opens S frame is first whole rest =
      one_more key m.pgn m.bytes Nothing (λ before time x e. ap (passed before time) e ∙ none_passes [] before time) (On S) frame whole (λ x e. inr ([], e, inl refl))
      (λ most now x e. subst (On S) (sym (ap (of_own key) (is most now x) ∙ own_announced key (record { pgn = m.pgn; size = len; is_sound = true }) most now x ∙ ap (announced key (record { pgn = m.pgn; size = len; is_sound = true }) most now) e)) (begun most now))
      rest
    where
      begun : (most now : ℕ) → On S (announced key (record { pgn = m.pgn; size = len; is_sound = true }) most now ([], []))
      begun most now = elim (nat_lt most len) as (λ b. On S (if b then ([], Lost key (clean m.pgn) 0 len TooLong ∷ []) else ((key, opened key.transport m.pgn len now) ∷ [], []))) [
        | true ↦ inr (Lost key (clean m.pgn) 0 len TooLong ∷ [], refl, inr (inr (0, TooLong, refl)))
        | false ↦ inl (opened key.transport m.pgn len now, refl, record { pgn_is = refl; size_is = refl }, first now)
      ]

  -- ---- TP

  module _ (is : kind ≡ Tp) (carries : (k : ℕ) (b : List ℕ) → goes_to (Packet Tp k b) d.0 ≡ true) where
    abbrev Front : ℕ → Session → Type 0
    Front k x = IsFront laws key m.pgn m.bytes 0 None k x

    abbrev frame : ℕ → CanFrame
    frame k = written (Packet Tp k (packet m.bytes k)) s.0 d.0

    packet_is : (k most now : ℕ) (x : Heard) → 1 ≤ k → k ≤ last → frame_taken iface (frame k) most now x ≡ heard_at (λ y. sequence_heard d y k (packet m.bytes k) now) key x
    unfolding wire_taken
    packet_is k most now x from_first within =
        meaning (Packet Tp k (packet m.bytes k)) s d most now x (record { numbers = from_first; widths = laws.seven m.bytes k within; source = h.source; destination = carries k (packet m.bytes k) })
        ∙ ap (λ t. heard_at (λ y. sequence_heard d y k (packet m.bytes k) now) (key_with iface s d t) x) (sym is)

    one_packet : (k : ℕ) → 1 ≤ k → k ≤ last → (whole : List CanFrame) → Right (On (Front (k + 1))) whole → Right (On (Front k)) (frame k ∷ whole)
    one_packet k from_first within whole rest =
        one_frame (Front k) (Front (k + 1)) (frame k) (λ now y. sequence_heard d y k (packet m.bytes k) now) (λ most now x. packet_is k most now x from_first within)
        (λ now x o g. packet_comes laws key m.pgn m.bytes d 0 None k k now x o g refl (omega arith) within)
        (λ x g. front_later laws key m.pgn m.bytes 0 None k x g) whole rest

    packets : (n i : ℕ) (rest : List CanFrame) → 1 ≤ i → i + n ≤ last + 1 → Right (On (Front (i + n))) rest → Right (On (Front i)) (map frame (range_with_len i n) ++ rest)
    packets zero i rest from_first within r = let e : i + 0 ≡ i = omega arith in subst (λ k. Right (On (Front k)) rest) e r
    packets (suc n) i rest from_first within r =
        let e : i + suc n ≡ i + 1 + n = omega arith in
        one_packet i from_first (omega (arith, within)) (map frame (range_with_len (i + 1) n) ++ rest)
        (packets n (i + 1) rest (omega arith) (omega (arith, within)) (subst (λ k. Right (On (Front k)) rest) e r))

    front_up : (a b : ℕ) → a ≤ b → (x : Session) → Front a x → Front b x
    front_up a b le x g = let u = g.up_to in record { offset_is = g.offset_is; window_is = g.window_is; front = g.front; up_to = omega (arith, u, le) }

    begins : (now : ℕ) → Front 1 (opened key.transport m.pgn len now)
    begins now = record { offset_is = refl; window_is = ap (λ t. (opened (transport_of t) m.pgn len now).window) is; front = record { same_size = refl; from_packet = omega arith; front = refl }; up_to = omega arith }

    module _ (own : is_one d.0 ≡ true) where
      cts_is : (granted first most now : ℕ) (x : Heard) → frame_taken iface (written (Cm (Cts granted first m.pgn)) d.0 s.0) most now x ≡ heard_at (λ y. heard y (Cts granted first m.pgn) now) key x
      unfolding wire_taken cm_frame_taken
      cts_is granted first most now x =
          meaning (Cm (Cts granted first m.pgn)) d s most now x (record { numbers = tt; widths = h.pgn; source = own; destination = h.source })
          ∙ ap (λ t. heard_at (λ y. heard y (Cts granted first m.pgn) now) (key_with iface s d t) x) (sym is)

      ack_is : (packets most now : ℕ) (x : Heard) → frame_taken iface (written (Cm (EndOfMsgAck len packets m.pgn)) d.0 s.0) most now x ≡ heard_at (λ y. heard y (EndOfMsgAck len packets m.pgn) now) key x
      unfolding wire_taken cm_frame_taken
      ack_is packets most now x =
          meaning (Cm (EndOfMsgAck len packets m.pgn)) d s most now x (record { numbers = tt; widths = h.pgn; source = own; destination = h.source })
          ∙ ap (λ t. heard_at (λ y. heard y (EndOfMsgAck len packets m.pgn) now) (key_with iface s d t) x) (sym is)

      abbrev tp_count : ℕ
      tp_count = (last + 16 - 1) / 16

      one_window : (j : ℕ) → j + 1 ≤ tp_count → (rest : List CanFrame) → Right (On (Front (16 * (j + 1) + 1))) rest → Right (On (Front (16 * j + 1))) (tp_window m s d (16 * j + 1, min 16 (last - 16 * j)) ++ rest)
      one_window j more rest r =
          one_frame (Front (16 * j + 1)) (Front (16 * j + 1)) (written (Cm (Cts (min 16 (last - 16 * j)) (16 * j + 1) m.pgn)) d.0 s.0) (λ now y. heard y (Cts (min 16 (last - 16 * j)) (16 * j + 1) m.pgn) now)
          (λ most now x. cts_is (min 16 (last - 16 * j)) (16 * j + 1) most now x)
          (λ now x o g. cts_comes laws key m.pgn m.bytes x o 0 None (16 * j + 1) (min 16 (last - 16 * j)) (16 * j + 1) now g) (λ x g. g)
          (map frame (range_with_len (16 * j + 1) (min 16 (last - 16 * j))) ++ rest)
          (packets (min 16 (last - 16 * j)) (16 * j + 1) rest (omega arith) (omega (arith, more)) (sooner (Front (16 * j + 1 + min 16 (last - 16 * j))) (Front (16 * (j + 1) + 1)) (front_up (16 * j + 1 + min 16 (last - 16 * j)) (16 * (j + 1) + 1) (omega arith)) rest r))

      abbrev tp_group : ℕ → ℕ × ℕ
      tp_group j = (16 * j + 1, min 16 (last - 16 * j))

      tp_windows : (n j : ℕ) (rest : List CanFrame) → j + n ≤ tp_count → Right (On (Front (16 * (j + n) + 1))) rest → Right (On (Front (16 * j + 1))) (flat_map (tp_window m s d) (map tp_group (range_with_len j n)) ++ rest)
      tp_windows zero j rest all r = let e : j + 0 ≡ j = omega arith in subst (λ k. Right (On (Front (16 * k + 1))) rest) e r
      tp_windows (suc n) j rest all r =
          let e : j + suc n ≡ j + 1 + n = omega arith in
          subst (λ fs. Right (On (Front (16 * j + 1))) fs) (sym (append_assoc (tp_window m s d (tp_group j)) (flat_map (tp_window m s d) (map tp_group (range_with_len (j + 1) n))) rest))
          (one_window j (omega (arith, all)) (flat_map (tp_window m s d) (map tp_group (range_with_len (j + 1) n)) ++ rest)
          (tp_windows n (j + 1) rest (omega (arith, all)) (subst (λ k. Right (On (Front (16 * k + 1))) rest) e r)))

  -- ---- ETP

  module _ (is : kind ≡ Etp) (own : is_one d.0 ≡ true) (most_packets : last < 2 ^ 24) where
    abbrev Before : (offset : ℕ) → Session → Type 0
    Before offset x = Ahead laws key m.pgn m.bytes offset x

    abbrev In : (offset size sequence : ℕ) → Session → Type 0
    In offset size sequence x = Within laws key m.pgn m.bytes offset size sequence x

    etp_packet_is : (k sequence most now : ℕ) (x : Heard) → 1 ≤ sequence → k ≤ last → frame_taken iface (written (Packet Etp sequence (packet m.bytes k)) s.0 d.0) most now x ≡ heard_at (λ y. sequence_heard d y sequence (packet m.bytes k) now) key x
    unfolding wire_taken
    etp_packet_is k sequence most now x from_first within =
        meaning (Packet Etp sequence (packet m.bytes k)) s d most now x (record { numbers = from_first; widths = laws.seven m.bytes k within; source = h.source; destination = own })
        ∙ ap (λ t. heard_at (λ y. sequence_heard d y sequence (packet m.bytes k) now) (key_with iface s d t) x) (sym is)

    etp_cts_is : (granted first most now : ℕ) (x : Heard) → first < 2 ^ 24 → frame_taken iface (written (Cm (EtpCts granted first m.pgn)) d.0 s.0) most now x ≡ heard_at (λ y. heard y (EtpCts granted first m.pgn) now) key x
    unfolding wire_taken cm_frame_taken
    etp_cts_is granted first most now x fits =
        meaning (Cm (EtpCts granted first m.pgn)) d s most now x (record { numbers = fits; widths = h.pgn; source = own; destination = h.source })
        ∙ ap (λ t. heard_at (λ y. heard y (EtpCts granted first m.pgn) now) (key_with iface s d t) x) (sym is)

    dpo_is : (size offset most now : ℕ) (x : Heard) → offset < 2 ^ 24 → frame_taken iface (written (Cm (EtpDpo size offset m.pgn)) s.0 d.0) most now x ≡ heard_at (λ y. heard y (EtpDpo size offset m.pgn) now) key x
    unfolding wire_taken cm_frame_taken
    dpo_is size offset most now x fits =
        meaning (Cm (EtpDpo size offset m.pgn)) s d most now x (record { numbers = fits; widths = h.pgn; source = h.source; destination = own })
        ∙ ap (λ t. heard_at (λ y. heard y (EtpDpo size offset m.pgn) now) (key_with iface s d t) x) (sym is)

    etp_ack_is : (most now : ℕ) (x : Heard) → frame_taken iface (written (Cm (EtpEoma len m.pgn)) d.0 s.0) most now x ≡ heard_at (λ y. heard y (EtpEoma len m.pgn) now) key x
    unfolding wire_taken cm_frame_taken
    etp_ack_is most now x =
        meaning (Cm (EtpEoma len m.pgn)) d s most now x (record { numbers = tt; widths = h.pgn; source = own; destination = h.source })
        ∙ ap (λ t. heard_at (λ y. heard y (EtpEoma len m.pgn) now) (key_with iface s d t) x) (sym is)

    module _ (offset size : ℕ) (some : 1 ≤ size) (within : offset + size ≤ last) where
      abbrev etp_frame : ℕ → CanFrame
      etp_frame i = written (Packet Etp i (packet m.bytes (offset + 1 + i - 1))) s.0 d.0

      etp_one : (i : ℕ) → 1 ≤ i → i ≤ size → (whole : List CanFrame) → Right (On (In offset size (i + 1))) whole → Right (On (In offset size i)) (etp_frame i ∷ whole)
      etp_one i from_first up_to whole rest =
          let e : offset + i ≡ offset + 1 + i - 1 = omega arith in
          subst (λ k. Right (On (In offset size i)) (written (Packet Etp i (packet m.bytes k)) s.0 d.0 ∷ whole)) e
          (one_frame (In offset size i) (In offset size (i + 1)) (written (Packet Etp i (packet m.bytes (offset + i))) s.0 d.0) (λ now y. sequence_heard d y i (packet m.bytes (offset + i)) now)
          (λ most now x. etp_packet_is (offset + i) i most now x from_first (omega (arith, up_to, within)))
          (λ now x o g. etp_packet_comes laws key m.pgn m.bytes d offset size i now from_first up_to (omega (arith, up_to, within)) x o g)
          (λ x g. etp_packet_missing laws key m.pgn m.bytes offset size i x g) whole rest)

      etp_packets : (n i : ℕ) (rest : List CanFrame) → 1 ≤ i → i + n ≡ size + 1 → Right (On (Before (offset + size))) rest → Right (On (In offset size i)) (map etp_frame (range_with_len i n) ++ rest)
      etp_packets zero i rest from_first all r =
          let e : size + 1 ≡ i = omega (arith, all) in
          subst (λ k. Right (On (In offset size k)) rest) e
          (sooner (In offset size (size + 1)) (Before (offset + size)) (next_window laws key m.pgn m.bytes offset size some) rest r)
      etp_packets (suc n) i rest from_first all r =
          etp_one i from_first (omega (arith, all)) (map etp_frame (range_with_len (i + 1) n) ++ rest) (etp_packets n (i + 1) rest (omega arith) (omega (arith, all)) r)

      etp_granted : (rest : List CanFrame) → Right (On (Before (offset + size))) rest → Right (On (Before offset)) (etp_window m s d (offset + 1, size) ++ rest)
      etp_granted rest r =
          let e : offset ≡ offset + 1 - 1 = omega arith in
          one_frame (Before offset) (Before offset) (written (Cm (EtpCts size (offset + 1) m.pgn)) d.0 s.0) (λ now y. heard y (EtpCts size (offset + 1) m.pgn) now)
          (λ most now x. etp_cts_is size (offset + 1) most now x (omega (arith, some, within, most_packets)))
          (λ now x o g. etp_cts_comes laws key m.pgn m.bytes x o offset size (offset + 1) now g) (λ x g. g)
          (written (Cm (EtpDpo size (offset + 1 - 1) m.pgn)) s.0 d.0 ∷ map etp_frame (range_with_len 1 size) ++ rest)
          (subst (λ k. Right (On (Before offset)) (written (Cm (EtpDpo size k m.pgn)) s.0 d.0 ∷ map etp_frame (range_with_len 1 size) ++ rest)) e
          (one_frame (Before offset) (In offset size 1) (written (Cm (EtpDpo size offset m.pgn)) s.0 d.0) (λ now y. heard y (EtpDpo size offset m.pgn) now)
          (λ most now x. dpo_is size offset most now x (omega (arith, some, within, most_packets)))
          (λ now x o g. dpo_comes laws key m.pgn m.bytes x o offset size now g)
          (λ x g. dpo_missing laws key m.pgn m.bytes offset size (omega (arith, some, within)) x g)
          (map etp_frame (range_with_len 1 size) ++ rest)
          (etp_packets size 1 rest (omega arith) (omega arith) r)))

    abbrev etp_count : ℕ
    etp_count = (last + 64 - 1) / 64

    abbrev etp_group : ℕ → ℕ × ℕ
    etp_group j = (64 * j + 1, min 64 (last - 64 * j))

    before_up : (a b : ℕ) → a ≤ b → (x : Session) → Before a x → Before b x
    before_up a b le x (inl g) = let u = g.up_to in let v = g.reach in inl (record { last = g.last; window_is = g.window_is; front = g.front; up_to = omega (arith, u, le); reach = omega (arith, v, le) })
    before_up a b le x (inr g) = inr (stuck_later laws key m.pgn m.bytes a b x le g)

    etp_windows : (n j : ℕ) (rest : List CanFrame) → j + n ≤ etp_count → Right (On (Before (64 * (j + n)))) rest → Right (On (Before (64 * j))) (flat_map (etp_window m s d) (map etp_group (range_with_len j n)) ++ rest)
    etp_windows zero j rest all r = let e : j + 0 ≡ j = omega arith in subst (λ k. Right (On (Before (64 * k))) rest) e r
    etp_windows (suc n) j rest all r =
        let e : j + suc n ≡ j + 1 + n = omega arith in
        let size : ℕ = min 64 (last - 64 * j) in
        let others : List CanFrame = flat_map (etp_window m s d) (map etp_group (range_with_len (j + 1) n)) in
        subst (λ fs. Right (On (Before (64 * j))) fs) (sym (append_assoc (etp_window m s d (etp_group j)) (flat_map (etp_window m s d) (map etp_group (range_with_len (j + 1) n))) rest))
        (etp_granted (64 * j) size (omega (arith, all)) (omega (arith, all)) (others ++ rest)
        (sooner (Before (64 * j + size)) (Before (64 * (j + 1))) (before_up (64 * j + size) (64 * (j + 1)) (omega arith)) (others ++ rest)
        (etp_windows n (j + 1) rest (omega (arith, all)) (subst (λ k. Right (On (Before (64 * k))) rest) e r))))

    etp_begins : (now : ℕ) → Before 0 (opened key.transport m.pgn len now)
    etp_begins now = inl (record { last = 0; window_is = ap (λ t. (opened (transport_of t) m.pgn len now).window) is; front = record { same_size = refl; from_packet = omega arith; front = refl }; up_to = omega arith; reach = omega arith })

-- ---- each way

module _ (laws : Laws) (m : Pending) (s d : Address) (h : IsSendable m s d) (iface : Iface) where
  abbrev size : ℕ
  size = length m.bytes

  tp_sound : (most : ℕ) → size ≤ most → (nat_le MIN_SIZE size && nat_le size most && (packet_count size == packet_count size)) ≡ true
  tp_sound most short =
      let a : nat_le MIN_SIZE size ≡ true = le-leb MIN_SIZE size h.least in
      let b : nat_le size most ≡ true = le-leb size most short in
      let e : (packet_count size == packet_count size) ≡ true = eq-eqb (packet_count size) (packet_count size) refl in
      rw (a, b, e) refl

  etp_sound : TP_MAX_SIZE + 1 ≤ size → size ≤ ETP_MAX_SIZE → (nat_le (TP_MAX_SIZE + 1) size && nat_le size ETP_MAX_SIZE) ≡ true
  etp_sound long short =
      let a : nat_le (TP_MAX_SIZE + 1) size ≡ true = le-leb (TP_MAX_SIZE + 1) size long in
      let b : nat_le size ETP_MAX_SIZE ≡ true = le-leb size ETP_MAX_SIZE short in
      rw (a, b) refl

  -- of frames that are these, or of which some are missing
  abbrev AreRight : Kind → List CanFrame → Type 0
  AreRight kind whole = Fine (key_with iface s d kind) m.pgn m.bytes (λ x. x ≡ ([], [])) whole

  module _ (to_all : is_to_all d ≡ true) where
    short : size ≤ TP_MAX_SIZE
    short = subst (λ b. size ≤ cond b TP_MAX_SIZE ETP_MAX_SIZE) to_all h.most

    bam_is : (most now : ℕ) (x : Heard) → frame_taken iface (written (Cm (Bam size (packet_count size) m.pgn)) s.0 d.0) most now x ≡ announced (key_with iface s d Tp) (record { pgn = m.pgn; size = size; is_sound = true }) most now x
    unfolding wire_taken cm_frame_taken
    bam_is most now x =
        meaning laws m s d iface Tp h (Cm (Bam size (packet_count size) m.pgn)) s d most now x (record { numbers = tt; widths = h.pgn; source = h.source; destination = to_all })
        ∙ ap (λ t. announced (key_with iface s d Tp) (record { pgn = m.pgn; size = size; is_sound = t }) most now x) (tp_sound TP_MAX_SIZE short)

    broadcast_right : AreRight Tp (quiet_broadcast m s d)
    broadcast_right =
        opens laws m s d iface Tp h (Front laws m s d iface Tp h refl (λ k b. h.destination) 1) (written (Cm (Bam size (packet_count size) m.pgn)) s.0 d.0) bam_is (begins laws m s d iface Tp h refl (λ k b. h.destination))
        (map (frame laws m s d iface Tp h refl (λ k b. h.destination)) (range_with_len 1 (packet_count size)))
        (subst (λ fs. Fine (key_with iface s d Tp) m.pgn m.bytes (On laws m s d iface Tp h (Front laws m s d iface Tp h refl (λ k b. h.destination) 1)) fs) (append-nil (map (frame laws m s d iface Tp h refl (λ k b. h.destination)) (range_with_len 1 (packet_count size))))
        (packets laws m s d iface Tp h refl (λ k b. h.destination) (packet_count size) 1 [] (omega arith) (omega arith) (ends laws m s d iface Tp h (Front laws m s d iface Tp h refl (λ k b. h.destination) (1 + packet_count size)))))

  module _ (own : is_one d.0 ≡ true) where
    abbrev ack : CanFrame
    ack = written (Cm (EndOfMsgAck size (packet_count size) m.pgn)) d.0 s.0

    rts_is : size ≤ TP_MAX_SIZE → (most now : ℕ) (x : Heard) → frame_taken iface (written (Cm (Rts size (packet_count size) 255 m.pgn)) s.0 d.0) most now x ≡ announced (key_with iface s d Tp) (record { pgn = m.pgn; size = size; is_sound = true }) most now x
    unfolding wire_taken cm_frame_taken
    rts_is short most now x =
        meaning laws m s d iface Tp h (Cm (Rts size (packet_count size) 255 m.pgn)) s d most now x (record { numbers = tt; widths = h.pgn; source = h.source; destination = own })
        ∙ ap (λ t. announced (key_with iface s d Tp) (record { pgn = m.pgn; size = size; is_sound = t }) most now x) (tp_sound TP_MAX_SIZE short)

    abbrev At : ℕ → Session → Type 0
    At k = Front laws m s d iface Tp h refl (λ i b. h.destination) k

    tp_right : size ≤ TP_MAX_SIZE → AreRight Tp (quiet_connection Tp m s d)
    tp_right short =
        let count : ℕ = (packet_count size + 16 - 1) / 16 in
        opens laws m s d iface Tp h (At 1) (written (Cm (Rts size (packet_count size) 255 m.pgn)) s.0 d.0) (rts_is short) (begins laws m s d iface Tp h refl (λ k b. h.destination))
        (flat_map (tp_window m s d) (groups 16 (packet_count size)) ++ ack ∷ [])
        (tp_windows laws m s d iface Tp h refl (λ k b. h.destination) own count 0 (ack ∷ []) (omega arith)
        (one_frame laws m s d iface Tp h (At (16 * (0 + count) + 1)) (At (16 * (0 + count) + 1)) ack (λ now y. heard y (EndOfMsgAck size (packet_count size) m.pgn) now)
        (λ most now x. ack_is laws m s d iface Tp h refl (λ k b. h.destination) own (packet_count size) most now x)
        (λ now x o g. ack_comes laws (key_with iface s d Tp) m.pgn m.bytes x o (At (16 * (0 + count) + 1)) (packet_count size) now)
        (λ x g. g) [] (ends laws m s d iface Tp h (At (16 * (0 + count) + 1)))))

    abbrev etp_ack : CanFrame
    etp_ack = written (Cm (EtpEoma size m.pgn)) d.0 s.0

    module _ (long : TP_MAX_SIZE + 1 ≤ size) (most_bytes : size ≤ ETP_MAX_SIZE) where
      etp_rts_is : (most now : ℕ) (x : Heard) → frame_taken iface (written (Cm (EtpRts size m.pgn)) s.0 d.0) most now x ≡ announced (key_with iface s d Etp) (record { pgn = m.pgn; size = size; is_sound = true }) most now x
      unfolding wire_taken cm_frame_taken
      etp_rts_is most now x =
          meaning laws m s d iface Etp h (Cm (EtpRts size m.pgn)) s d most now x (record { numbers = tt; widths = h.pgn; source = h.source; destination = own })
          ∙ ap (λ t. announced (key_with iface s d Etp) (record { pgn = m.pgn; size = size; is_sound = t }) most now x) (etp_sound long most_bytes)

      fits : packet_count size < 2 ^ 24
      fits = omega (arith, most_bytes)

      abbrev Etp_at : ℕ → Session → Type 0
      Etp_at k = Before laws m s d iface Etp h refl own fits k

      etp_right : AreRight Etp (quiet_connection Etp m s d)
      etp_right =
          let count : ℕ = (packet_count size + 64 - 1) / 64 in
          opens laws m s d iface Etp h (Etp_at 0) (written (Cm (EtpRts size m.pgn)) s.0 d.0) etp_rts_is (etp_begins laws m s d iface Etp h refl own fits)
          (flat_map (etp_window m s d) (groups 64 (packet_count size)) ++ etp_ack ∷ [])
          (etp_windows laws m s d iface Etp h refl own fits count 0 (etp_ack ∷ []) (omega arith)
          (one_frame laws m s d iface Etp h (Etp_at (64 * (0 + count))) (Etp_at (64 * (0 + count))) etp_ack (λ now y. heard y (EtpEoma size m.pgn) now)
          (λ most now x. etp_ack_is laws m s d iface Etp h refl own fits most now x)
          (λ now x o g. etp_ack_comes laws (key_with iface s d Etp) m.pgn m.bytes x o (Etp_at (64 * (0 + count))) now)
          (λ x g. g) [] (ends laws m s d iface Etp h (Etp_at (64 * (0 + count))))))

  -- ---- the law

  own_of : is_to_all d ≡ false → is_one d.0 ≡ true
  own_of to_one = by (is_one d.0) (d.0 == global_address) to_one h.destination
    where
      by : (a b : Bool) → b ≡ false → (a || b) ≡ true → a ≡ true
      by true b e f = refl
      by false b e f = absurd (let g : false ≡ true = sym e ∙ f in cc)

  connection : is_to_all d ≡ false → (t : Bool) → nat_le size TP_MAX_SIZE ≡ t → Fine (key_with iface s d (kind_for size)) m.pgn m.bytes (λ x. x ≡ ([], [])) (quiet_connection (kind_for size) m s d)
  connection e true t = rw (t) (tp_right (own_of e) (leb-true size TP_MAX_SIZE t))
  connection e false t =
      let lt : TP_MAX_SIZE < size = leb-false size TP_MAX_SIZE t in
      let most : size ≤ ETP_MAX_SIZE = subst (λ b. size ≤ cond b TP_MAX_SIZE ETP_MAX_SIZE) e h.most in
      rw (t) (etp_right (own_of e) (omega (arith, lt)) most)

  all_right : AreRight (kind_to m d) (quiet m s d)
  unfolding quiet
  all_right = by (is_to_all d) refl
    where
      by : (b : Bool) → is_to_all d ≡ b → Fine (key_with iface s d (if is_to_all d then Tp else kind_for size)) m.pgn m.bytes (λ x. x ≡ ([], [])) (if is_to_all d then quiet_broadcast m s d else quiet_connection (kind_for size) m s d)
      by true e = rw (e) (broadcast_right e)
      by false e = rw (e) (connection e (nat_le size TP_MAX_SIZE) refl)

pub lacking_logs : Laws → (m : Pending) (s d : Address) → IsSendable m s d → IsToldRightly m s d
lacking_logs laws m s d h l iface log g = all_right laws m s d h iface l log [] (record { es = []; only = free_only (key_for iface m s d) l.buses g.free; so = refl }) g.part
