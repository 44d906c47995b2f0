-- What was put together from the frames taken so far is so when a call takes more.
use Rattle.std.proofs.Common.{◌≡◌, ◌⊎◌, inl, inr, ℕ, ◌+◌, ◌<◌, ◌≤◌, List, [], ◌∷◌, ◌++◌, length, Some, None, subst, arith, ⊎_elim}
use Rattle.std.specs.Prelude.{Contains}
use Rattle.std.proofs.lemmas.List.Elements.{Contains-append_left, Contains-append_right, Contains-append_cases}
use Rattle.tp_wire.specs.declared.wire.Wire.{Wire}
use Rattle.session_table.specs.declared.key.SessionKind.{SessionKind}
use Rattle.session_table.specs.declared.key.SessionKind.TheVariants.{Broadcast, Tp, Etp}
use Rattle.segment_law.specs.Told.{Placed}
use Rattle.foreign_law.specs.Taken.{Seen, Message}
use Rattle.foreign_law.specs.Assembled.{Transfer, transfer_of, opened_by, IsTaken, IsOpenedAt, IsOffsetAt, IsLastOffset, IsNumber, IsPacket, ArePackets, IsAssembled}

-- the frames of n calls, and those of the next one
pub record AreNext (n : ℕ) (taken more : List (Placed Seen)) : Type 0 where
  pub before : (x : Placed Seen) → Contains taken x → x.0 ≤ n
  pub now : (x : Placed Seen) → Contains more x → x.0 ≡ n + 1

-- the frames have no DPO of the transfer
abbrev pub HasNoOffset : List (Placed Seen) → Transfer → Type 0
HasNoOffset more t = (place offset : ℕ) → IsOffsetAt more t place offset → ⊥

-- they have no opening of its source and kind, and no frames were missed
abbrev pub HasNoOpening : List (Placed Seen) → Transfer → Type 0
HasNoOpening more t = ((place : ℕ) (wire : Wire) → IsTaken more t place wire → opened_by wire ≡ Some t.kind → ⊥) × ((place : ℕ) → Contains more (place, None) → ⊥)

-- the opening is the last one that was taken, and no frames were missed since
abbrev pub IsNewest : List (Placed Seen) → Transfer → (opening : ℕ) → Type 0
IsNewest taken t opening = ((place : ℕ) (wire : Wire) → IsTaken taken t place wire → opened_by wire ≡ Some t.kind → place ≤ opening) × ((place : ℕ) → Contains taken (place, None) → place ≤ opening)

module _ (n : ℕ) (taken more : List (Placed Seen)) (next : AreNext n taken more) where
  abbrev all : List (Placed Seen)
  all = taken ++ more

  pub within : (x : Placed Seen) → Contains all x → x.0 ≤ n + 1
  within x c = ⊎_elim (λ (old : Contains taken x). let l : x.0 ≤ n = next.before x old in omega (arith, l)) (λ (new : Contains more x). let e : x.0 ≡ n + 1 = next.now x new in omega (arith, e)) (Contains-append_cases taken more x c)

  module _ (t : Transfer) where
    taken_on : (place : ℕ) (wire : Wire) → IsTaken taken t place wire → IsTaken all t place wire
    taken_on place wire c = Contains-append_left taken more (place, Some (wire, t.from, t.to)) c

    pub opened_on : (place : ℕ) → IsOpenedAt taken t place → IsOpenedAt all t place
    opened_on place o = (o.0, taken_on place o.0 o.1, o.2)

    pub newest_on : (opening : ℕ) → HasNoOpening more t → IsNewest taken t opening → IsNewest all t opening
    newest_on opening none h = (
      λ place wire c e. ⊎_elim (λ old. h.0 place wire old e) (λ new. absurd (none.0 place wire new e)) (Contains-append_cases taken more _ c),
      λ place c. ⊎_elim (λ old. h.1 place old) (λ new. absurd (none.1 place new)) (Contains-append_cases taken more _ c),
    )

    -- a DPO is one of those before, or a new one
    offset_is : (place offset : ℕ) → IsOffsetAt all t place offset → IsOffsetAt taken t place offset ⊎ IsOffsetAt more t place offset
    offset_is place offset o = ⊎_elim
        (λ old. inl (o.0, o.1, old, o.3))
        (λ new. inr (o.0, o.1, new, o.3))
        (Contains-append_cases taken more _ o.2)

    offset_on : (place offset : ℕ) → IsOffsetAt taken t place offset → IsOffsetAt all t place offset
    offset_on place offset o = (o.0, o.1, Contains-append_left taken more _ o.2, o.3)

    offset_before : (place offset : ℕ) → IsOffsetAt taken t place offset → place ≤ n
    offset_before place offset o = next.before _ o.2

    offset_now : (place offset : ℕ) → IsOffsetAt more t place offset → place ≡ n + 1
    offset_now place offset o = next.now _ o.2

    -- what was the last offset before a place
    pub last_on : (opening before offset : ℕ) → before ≤ n + 1 → IsLastOffset taken t opening before offset → IsLastOffset all t opening before offset
    last_on opening before offset le o = record {
      place = o.place;
      is_taken = offset_on o.place offset o.is_taken;
      after_opening = o.after_opening;
      in_time = o.in_time;
      no_later = λ later other k. ⊎_elim
          (λ (old : IsOffsetAt taken t later other). o.no_later later other old)
          (λ (new : IsOffsetAt more t later other). let e : later ≡ n + 1 = offset_now later other new in inr (omega (arith, e, le)))
          (offset_is later other k);
    }

    -- the last offset so far stays it without a DPO
    pub last_stays : (opening offset : ℕ) → HasNoOffset more t → IsLastOffset taken t opening (n + 1) offset → IsLastOffset all t opening (n + 1 + 1) offset
    last_stays opening offset none o = record {
      place = o.place;
      is_taken = offset_on o.place offset o.is_taken;
      after_opening = o.after_opening;
      in_time = (let l : o.place < n + 1 = o.in_time in omega (arith, l));
      no_later = λ later other k. ⊎_elim
          (λ (old : IsOffsetAt taken t later other). ⊎_elim
          (λ (l : later ≤ o.place). inl l)
          (λ (l : n + 1 ≤ later). let b : later ≤ n = offset_before later other old in absurd (omega (arith, l, b)))
          (o.no_later later other old))
          (λ (new : IsOffsetAt more t later other). absurd (none later other new))
          (offset_is later other k);
    }

    -- a DPO that is taken now is the last one
    pub last_new : (opening offset : ℕ) → opening ≤ n → IsOffsetAt more t (n + 1) offset → IsLastOffset all t opening (n + 1 + 1) offset
    last_new opening offset le o = record {
      place = n + 1;
      is_taken = (o.0, o.1, behind o.2, o.3);
      after_opening = omega (arith, le);
      in_time = omega arith;
      no_later = λ later other k. let l : later ≤ n + 1 = within _ k.2 in inl l;
    }
      where
        behind : {x : Placed Seen} → Contains more x → Contains all x
        behind {x} c = Contains-append_right taken more x c

    number_on : (kind : SessionKind) (opening place sequence k : ℕ) → place ≤ n + 1 → IsNumber taken t kind opening place sequence k → IsNumber all t kind opening place sequence k
    number_on Broadcast opening place sequence k le e = e
    number_on Tp opening place sequence k le e = e
    number_on Etp opening place sequence k le e = (e.0, last_on opening place e.0 le e.1, e.2)

    packet_place : (opening k : ℕ) (p : Placed (List ℕ)) → IsPacket taken t opening k p → p.0 ≤ n
    packet_place opening k p h = next.before _ h.is_taken

    packet_on : (opening k : ℕ) (p : Placed (List ℕ)) → IsPacket taken t opening k p → IsPacket all t opening k p
    packet_on opening k p h = record {
      sequence = h.sequence;
      is_taken = taken_on p.0 _ h.is_taken;
      number = number_on t.kind opening p.0 h.sequence k (let l : p.0 ≤ n = packet_place opening k p h in omega (arith, l)) h.number;
      seven = h.seven;
    }

    pub packets_on : (opening after k : ℕ) (ps : List (Placed (List ℕ))) → ArePackets taken t opening after k ps → ArePackets all t opening after k ps
    packets_on opening after k [] h = tt
    packets_on opening after k (p ∷ ps) h = (h.0, packet_on opening k p h.1, packets_on opening p.0 (k + 1) ps h.2)

    -- one packet more
    pub packets_next : (opening after k j : ℕ) (ps : List (Placed (List ℕ))) (packet : List ℕ) → ArePackets taken t opening after k ps → after ≤ n → j ≡ k + length ps → IsPacket all t opening j (n + 1, packet)
        → ArePackets all t opening after k (ps ++ (n + 1, packet) ∷ [])
    packets_next opening after k j [] packet h le e is = (omega (arith, le), subst (λ i. IsPacket all t opening i (n + 1, packet)) (omega (arith, e)) is, tt)
    packets_next opening after k j (p ∷ ps) packet h le e is =
        (h.0, packet_on opening k p h.1, packets_next opening p.0 (k + 1) j ps packet h.2 (packet_place opening k p h.1) (omega (arith, e)) is)

  -- a message that was put together
  pub assembled_on : (opening : ℕ) (g : Placed Message) → g.0 ≤ n → IsAssembled taken opening g → IsAssembled all opening g
  assembled_on opening g le h = record {
    opened = opened_on (transfer_of g.1) opening h.opened;
    latest = λ place wire c e. ⊎_elim
        (λ old. h.latest place wire old e)
        (λ new. let now : place ≡ n + 1 = next.now _ new in inr (omega (arith, now, le)))
        (Contains-append_cases taken more _ c);
    unbroken = λ place c. ⊎_elim
        (λ old. h.unbroken place old)
        (λ new. let now : place ≡ n + 1 = next.now _ new in inr (omega (arith, now, le)))
        (Contains-append_cases taken more _ c);
    earlier = h.earlier;
    last = h.last;
    in_turn = packets_on (transfer_of g.1) opening opening 1 (h.earlier ++ (g.0, h.last) ∷ []) h.in_turn;
    all = h.all;
    bytes = h.bytes;
  }
