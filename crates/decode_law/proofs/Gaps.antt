-- What a frame of a message does to it, as frames before it may be missing.
use Rattle.std.proofs.Common.{◌≡◌, ℕ, ◌+◌, ◌<◌, ◌≤◌, ◌==◌, ◌&&◌, List, Bool, true, false, length, Option, Some, refl, sym, ap, ◌∙◌, subst, arith, nat_lt, if◌then◌else◌, ◌⊎◌, inl, inr}
use Rattle.std.specs.Prelude.{nat_le}
use Rattle.std.proofs.lemmas.Bool.{le-leb, leb-true, eq-eqb, eqb-true, ne_eqb}
use Rattle.pgn_ids.specs.Address.{global_address}
use Rattle.pgn_ids.specs.Pgn.{clean}
use Rattle.pgn_ids.specs.declared.address.Address.{Address}
use Rattle.tp_wire.specs.declared.wire.CmFrame.TheVariants.{Cts, EndOfMsgAck, EtpCts, EtpDpo, EtpEoma}
use Rattle.seg_cut.specs.Packets.{packet_count, packet}
use Rattle.seg_cut.specs.Join.{Join, IsFrontOf, joined, wants, is_complete}
use Rattle.log_decode.specs.Session.{roomy, accepted, renewed, packet_heard, is_within, sequence_heard, heard}
use Rattle.log_reports.specs.declared.key.Key.{Key}
use Rattle.log_decode.specs.declared.session.Session.{Session}
use Rattle.log_decode.specs.declared.session.Fate.{Fate}
use Rattle.log_decode.specs.declared.session.Fate.TheVariants as fates
use Rattle.log_reports.specs.declared.told.Cause.TheVariants.{Missing, Acknowledged}
use Rattle.decode_law.proofs.Steps.{Laws, roomy_front, roomy_next, roomy_size}
use Rattle.decode_law.proofs.Alone.{IsOf, Comes}

-- the next packet
is_taken : (to : Address) (x : Session) (n : ℕ) (b : List ℕ) (now : ℕ) (c : Bool) → wants x.join n ≡ true → is_complete (joined (roomy x.join) b) ≡ c → packet_heard to x n b now ≡ (accepted x b now, if c then fates.Given else fates.GoesOn)
unfolding packet_heard
is_taken to x n b now c w e = rw (w, e) refl

-- another one
is_passed : (to : Address) (x : Session) (n : ℕ) (b : List ℕ) (now : ℕ) (m : Bool) → wants x.join n ≡ false → (nat_lt x.join.next n && to.0 == global_address) ≡ m → packet_heard to x n b now ≡ (if m then (x, fates.Lost Missing) else (renewed x now, fates.GoesOn))
unfolding packet_heard
is_passed to x n b now m w e = rw (w, e) refl

module _ (laws : Laws) (key : Key) (pgn : ℕ) (bytes : List ℕ) where
  abbrev pub count : ℕ
  count = packet_count (length bytes)

  abbrev pub Of : Session → Type 0
  Of x = IsOf key pgn bytes x

  abbrev pub Becomes : (Session → Type 0) → Session × Fate → Type 0
  Becomes S r = Comes key pgn bytes S r

  pub becomes : (S S' : Session → Type 0) → ((x : Session) → S x → S' x) → (r : Session × Fate) → Becomes S r → Becomes S' r
  becomes S S' so r (inl c) = inl (c.0, c.1, c.2, so c.0 c.3)
  becomes S S' so r (inr c) = inr c

  -- the packets before its next one have come, and that is no later than packet k
  pub record IsFront (offset : ℕ) (window : Option ℕ) (k : ℕ) (x : Session) : Type 0 where
    pub offset_is : x.offset ≡ offset
    pub window_is : x.window ≡ window
    pub front : IsFrontOf bytes x.join
    pub up_to : x.join.next ≤ k

  pub front_later : (offset : ℕ) (window : Option ℕ) (k : ℕ) (x : Session) → IsFront offset window k x → IsFront offset window (k + 1) x
  front_later offset window k x g = let le = g.up_to in record { offset_is = g.offset_is; window_is = g.window_is; front = g.front; up_to = omega (arith, le) }

  -- a packet of it comes
  module _ (to : Address) (offset : ℕ) (window : Option ℕ) (sequence k now : ℕ) (x : Session) (o : Of x) (g : IsFront offset window k x)
      (inside : is_within window sequence ≡ true) (sum : offset + sequence ≡ k) (within : k ≤ count) where
    abbrev b : List ℕ
    b = packet bytes k

    abbrev j : Join
    j = joined (roomy x.join) b

    number : x.offset + sequence ≡ k
    number = ap (λ n. n + sequence) g.offset_is ∙ sum

    heard_as : sequence_heard to x sequence b now ≡ packet_heard to x k b now
    heard_as = rw (ap (λ w. is_within w sequence) g.window_is ∙ inside) (ap (λ n. packet_heard to x n b now) number)

    roomy_is : IsFrontOf bytes (roomy x.join)
    roomy_is = roomy_front bytes x.join g.front

    front_next : (k == x.join.next) ≡ true → IsFrontOf bytes j
    front_next t =
        let next : (roomy x.join).next ≡ k = roomy_next x.join ∙ sym (eqb-true k x.join.next t) in
        let size : packet_count (roomy x.join).size ≡ count = ap packet_count roomy_is.same_size in
        let le : (roomy x.join).next ≤ packet_count (roomy x.join).size = omega (arith, next, size, within) in
        subst (λ n. IsFrontOf bytes (joined (roomy x.join) (packet bytes n))) next (laws.goes_on bytes (roomy x.join) roomy_is le)

    wanted : (k == x.join.next) ≡ true → wants x.join k ≡ true
    wanted t =
        let size : packet_count x.join.size ≡ count = ap packet_count g.front.same_size in
        let le : nat_le k (packet_count x.join.size) ≡ true = le-leb k (packet_count x.join.size) (omega (arith, size, within)) in
        rw (t, le) refl

    next_comes : (t : (k == x.join.next) ≡ true) (c : Bool) → is_complete j ≡ c → Becomes (IsFront offset window (k + 1)) (packet_heard to x k b now)
    next_comes t true e =
        inr (inl (accepted x b now, is_taken to x k b now true (wanted t) e, record { pgn_is = o.pgn_is; size_is = (front_next t).same_size }, e, laws.ends bytes j (front_next t) e))
    next_comes t false e =
        let next : (roomy x.join).next ≡ x.join.next = roomy_next x.join in
        let le = g.up_to in
        inl (
          accepted x b now,
          is_taken to x k b now false (wanted t) e,
          record { pgn_is = o.pgn_is; size_is = (front_next t).same_size },
          record { offset_is = g.offset_is; window_is = g.window_is; front = front_next t; up_to = omega (arith, next, le) },
        )

    other_comes : (k == x.join.next) ≡ false → (m : Bool) → (nat_lt x.join.next k && to.0 == global_address) ≡ m → Becomes (IsFront offset window (k + 1)) (packet_heard to x k b now)
    other_comes t true e = inr (inr (x, Missing, is_passed to x k b now true (rw (t) refl) e, o))
    other_comes t false e =
        let le = g.up_to in
        inl (
          renewed x now,
          is_passed to x k b now false (rw (t) refl) e,
          record { pgn_is = o.pgn_is; size_is = o.size_is },
          record { offset_is = g.offset_is; window_is = g.window_is; front = g.front; up_to = omega (arith, le) },
        )

    pub packet_comes : Becomes (IsFront offset window (k + 1)) (sequence_heard to x sequence b now)
    packet_comes = subst (Becomes (IsFront offset window (k + 1))) (sym heard_as) (by (k == x.join.next) refl)
      where
        by : (t : Bool) → (k == x.join.next) ≡ t → Becomes (IsFront offset window (k + 1)) (packet_heard to x k b now)
        by true t = next_comes t (is_complete j) refl
        by false t = other_comes t (nat_lt x.join.next k && to.0 == global_address) refl

  -- it can't be completed: a packet from this one on can't come any more, since its window isn't open and isn't opened again
  pub record IsStuck (bound : ℕ) (x : Session) : Type 0 where
    pub last : ℕ
    pub window_is : x.window ≡ Some last
    pub gap : ℕ
    pub up_to : x.join.next ≤ gap
    pub early : gap ≤ bound
    pub within : gap ≤ count
    pub shut : (x.offset + last < gap) ⊎ (gap ≤ x.offset)

  pub stuck_later : (a b : ℕ) (x : Session) → a ≤ b → IsStuck a x → IsStuck b x
  stuck_later a b x le g = let l = g.early in record { last = g.last; window_is = g.window_is; gap = g.gap; up_to = g.up_to; early = omega (arith, l, le); within = g.within; shut = g.shut }

  module _ (to : Address) (bound sequence now : ℕ) (b : List ℕ) (x : Session) (o : Of x) (g : IsStuck bound x) (from_first : 1 ≤ sequence) where
    abbrev n : ℕ
    n = x.offset + sequence

    abbrev stuck_join : Join
    stuck_join = joined (roomy x.join) b

    still : IsStuck bound (renewed x now)
    still = record { last = g.last; window_is = g.window_is; gap = g.gap; up_to = g.up_to; early = g.early; within = g.within; shut = g.shut }

    before_gap : sequence ≤ g.last → n ≡ x.join.next → (x.offset + g.last < g.gap) ⊎ (g.gap ≤ x.offset) → x.join.next + 1 ≤ g.gap
    before_gap le e (inl s) = let l = g.last in omega (arith, le, e, s)
    before_gap le e (inr s) = let u = g.up_to in absurd (omega (arith, e, s, u, from_first))

    first_is : (a c : Bool) → (a && c) ≡ true → a ≡ true
    first_is true c e = refl
    first_is false c e = absurd (let no : false ≡ true = e in cc)

    stuck_next : sequence ≤ g.last → wants x.join n ≡ true → Becomes (IsStuck bound) (packet_heard to x n b now)
    stuck_next le w =
        let e : n ≡ x.join.next = eqb-true n x.join.next (first_is (n == x.join.next) (nat_le n (packet_count x.join.size)) w) in
        let more : x.join.next + 1 ≤ g.gap = before_gap le e g.shut in
        let next : (roomy x.join).next ≡ x.join.next = roomy_next x.join in
        let size : (roomy x.join).size ≡ x.join.size = roomy_size x.join in
        let all : packet_count (roomy x.join).size ≡ count = ap packet_count (size ∙ o.size_is) in
        let w' = g.within in
        inl (
          accepted x b now,
          is_taken to x n b now false w (ne_eqb ((roomy x.join).next + 1) (packet_count (roomy x.join).size + 1) (λ e. absurd (omega (arith, e, next, all, more, w')))),
          record { pgn_is = o.pgn_is; size_is = size ∙ o.size_is },
          record { last = g.last; window_is = g.window_is; gap = g.gap; up_to = omega (arith, next, more); early = g.early; within = g.within; shut = g.shut },
        )

    stuck_other : wants x.join n ≡ false → (m : Bool) → (nat_lt x.join.next n && to.0 == global_address) ≡ m → Becomes (IsStuck bound) (packet_heard to x n b now)
    stuck_other w true e = inr (inr (x, Missing, is_passed to x n b now true w e, o))
    stuck_other w false e = inl (renewed x now, is_passed to x n b now false w e, record { pgn_is = o.pgn_is; size_is = o.size_is }, still)

    stuck_number : sequence ≤ g.last → Becomes (IsStuck bound) (packet_heard to x n b now)
    stuck_number le = by (wants x.join n) refl
      where
        by : (t : Bool) → wants x.join n ≡ t → Becomes (IsStuck bound) (packet_heard to x n b now)
        by true t = stuck_next le t
        by false t = stuck_other t (nat_lt x.join.next n && to.0 == global_address) refl

    pub stuck_packet : Becomes (IsStuck bound) (sequence_heard to x sequence b now)
    stuck_packet = by (nat_le sequence g.last) refl
      where
        inside : is_within x.window sequence ≡ nat_le sequence g.last
        inside = ap (λ w. is_within w sequence) g.window_is

        by : (t : Bool) → nat_le sequence g.last ≡ t → Becomes (IsStuck bound) (sequence_heard to x sequence b now)
        by true t = rw (inside ∙ t) (stuck_number (leb-true sequence g.last t))
        by false t = rw (inside ∙ t) (inl (renewed x now, refl, record { pgn_is = o.pgn_is; size_is = o.size_is }, still))

  -- ---- connection management frames

  module _ (x : Session) (o : Of x) where
    same : (clean pgn == clean x.pgn) ≡ true
    same = eq-eqb (clean pgn) (clean x.pgn) (ap clean (sym o.pgn_is))

    -- TP: a CTS changes nothing
    pub cts_comes : (offset : ℕ) (window : Option ℕ) (k granted first now : ℕ) → IsFront offset window k x → Becomes (IsFront offset window k) (heard x (Cts granted first pgn) now)
    cts_comes offset window k granted first now g =
        inl (renewed x now, rw (same) refl, record { pgn_is = o.pgn_is; size_is = o.size_is }, record { offset_is = g.offset_is; window_is = g.window_is; front = g.front; up_to = g.up_to })

    -- the end acknowledgement
    whole_size : (length bytes == x.join.size) ≡ true
    whole_size = eq-eqb (length bytes) x.join.size (sym o.size_is)

    pub ack_comes : (S : Session → Type 0) (packets now : ℕ) → Becomes S (heard x (EndOfMsgAck (length bytes) packets pgn) now)
    ack_comes S packets now = inr (inr (x, Acknowledged, rw (same, whole_size) refl, o))

    pub etp_ack_comes : (S : Session → Type 0) (now : ℕ) → Becomes S (heard x (EtpEoma (length bytes) pgn) now)
    etp_ack_comes S now = inr (inr (x, Acknowledged, rw (same, whole_size) refl, o))

  -- ETP: ahead of the window behind this offset, no later packet fits into the one that may still be open
  pub record IsAhead (offset : ℕ) (x : Session) : Type 0 where
    pub last : ℕ
    pub window_is : x.window ≡ Some last
    pub front : IsFrontOf bytes x.join
    pub up_to : x.join.next ≤ offset + 1
    pub reach : x.offset + last ≤ offset

  abbrev pub Ahead : (offset : ℕ) → Session → Type 0
  Ahead offset x = IsAhead offset x ⊎ IsStuck offset x

  -- in that window, ahead of the packet of this sequence number
  abbrev pub Within : (offset size sequence : ℕ) → Session → Type 0
  Within offset size sequence x = IsFront offset (Some size) (offset + sequence) x ⊎ IsStuck (offset + 1) x

  pub etp_cts_comes : (x : Session) (o : Of x) (offset granted first now : ℕ) → Ahead offset x → Becomes (Ahead offset) (heard x (EtpCts granted first pgn) now)
  etp_cts_comes x o offset granted first now (inl g) =
      let reach = g.reach in
      inl (
        record x { window = Some 0; heard = now },
        rw (same x o) refl,
        record { pgn_is = o.pgn_is; size_is = o.size_is },
        inl (record { last = 0; window_is = refl; front = g.front; up_to = g.up_to; reach = omega (arith, reach) }),
      )
  etp_cts_comes x o offset granted first now (inr g) =
      inl (
        record x { window = Some 0; heard = now },
        rw (same x o) refl,
        record { pgn_is = o.pgn_is; size_is = o.size_is },
        inr (record { last = 0; window_is = refl; gap = g.gap; up_to = g.up_to; early = g.early; within = g.within; shut = closed g.shut }),
      )
    where
      closed : (x.offset + g.last < g.gap) ⊎ (g.gap ≤ x.offset) → (x.offset + 0 < g.gap) ⊎ (g.gap ≤ x.offset)
      closed (inl s) = inl (omega (arith, s))
      closed (inr s) = inr s

  pub dpo_comes : (x : Session) (o : Of x) (offset size now : ℕ) → Ahead offset x → Becomes (Within offset size 1) (heard x (EtpDpo size offset pgn) now)
  dpo_comes x o offset size now (inl g) =
      inl (
        record x { offset = offset; window = Some size; heard = now },
        rw (same x o) refl,
        record { pgn_is = o.pgn_is; size_is = o.size_is },
        inl (record { offset_is = refl; window_is = refl; front = g.front; up_to = g.up_to }),
      )
  dpo_comes x o offset size now (inr g) =
      let early = g.early in
      inl (
        record x { offset = offset; window = Some size; heard = now },
        rw (same x o) refl,
        record { pgn_is = o.pgn_is; size_is = o.size_is },
        inr (record { last = size; window_is = refl; gap = g.gap; up_to = g.up_to; early = omega (arith, early); within = g.within; shut = inr early }),
      )

  -- a DPO that is missing: the window's first packet can't come any more
  pub dpo_missing : (offset size : ℕ) → offset + 1 ≤ count → (x : Session) → Ahead offset x → Within offset size 1 x
  dpo_missing offset size some x (inl g) =
      let reach = g.reach in
      inr (record { last = g.last; window_is = g.window_is; gap = offset + 1; up_to = g.up_to; early = omega arith; within = some; shut = inl (omega (arith, reach)) })
  dpo_missing offset size some x (inr g) = inr (stuck_later offset (offset + 1) x (omega arith) g)

  pub etp_packet_comes : (to : Address) (offset size sequence now : ℕ) → 1 ≤ sequence → sequence ≤ size → offset + sequence ≤ count → (x : Session) → Of x → Within offset size sequence x
      → Becomes (Within offset size (sequence + 1)) (sequence_heard to x sequence (packet bytes (offset + sequence)) now)
  etp_packet_comes to offset size sequence now from_first up_to within x o (inl g) =
      becomes (IsFront offset (Some size) (offset + sequence + 1)) (Within offset size (sequence + 1))
      (λ y h. let e : offset + sequence + 1 ≡ offset + (sequence + 1) = omega arith in inl (subst (λ k. IsFront offset (Some size) k y) e h))
      (sequence_heard to x sequence (packet bytes (offset + sequence)) now)
      (packet_comes to offset (Some size) sequence (offset + sequence) now x o g (le-leb sequence size up_to) refl within)
  etp_packet_comes to offset size sequence now from_first up_to within x o (inr g) =
      becomes (IsStuck (offset + 1)) (Within offset size (sequence + 1)) (λ y h. inr h)
      (sequence_heard to x sequence (packet bytes (offset + sequence)) now)
      (stuck_packet to (offset + 1) sequence now (packet bytes (offset + sequence)) x o g from_first)

  pub etp_packet_missing : (offset size sequence : ℕ) (x : Session) → Within offset size sequence x → Within offset size (sequence + 1) x
  etp_packet_missing offset size sequence x (inl g) =
      let e : offset + sequence + 1 ≡ offset + (sequence + 1) = omega arith in
      inl (subst (λ k. IsFront offset (Some size) k x) e (front_later offset (Some size) (offset + sequence) x g))
  etp_packet_missing offset size sequence x (inr g) = inr g

  -- the window is over
  pub next_window : (offset size : ℕ) → 1 ≤ size → (x : Session) → Within offset size (size + 1) x → Ahead (offset + size) x
  next_window offset size some x (inl g) =
      let u = g.up_to in
      let e = g.offset_is in
      inl (record { last = size; window_is = g.window_is; front = g.front; up_to = omega (arith, u); reach = omega (arith, e) })
  next_window offset size some x (inr g) = inr (stuck_later (offset + 1) (offset + size) x (omega (arith, some)) g)
