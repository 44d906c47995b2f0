-- A transfer under way: its opening, its packets so far, and the join that they made.
use Rattle.std.proofs.Common.{◌≡◌, inl, ℕ, zero, suc, ◌+◌, ◌-◌, ◌*◌, ◌≤◌, true, List, [], ◌∷◌, ◌++◌, length, take, refl, sym, ap, ◌∙◌, subst, arith, eqb-true, append_assoc, append-nil}
use Rattle.std.proofs.lemmas.List.{length-append, length-take-le}
use Rattle.seg_cut.specs.Join.{Join, joined, wants_last}
use Rattle.seg_cut.specs.Packets.{packet_count}
use Rattle.segment_law.specs.Told.{Placed}
use Rattle.record_law.proofs.Lists.{take_more}
use Rattle.foreign_law.specs.Taken.{Seen, Message}
use Rattle.foreign_law.specs.Assembled.{Transfer, transfer_of, kind_for, bytes_of, IsOpenedAt, IsLastOpening, IsPacket, ArePackets, IsAssembled}
use Rattle.foreign_law.proofs.Later.{AreNext, IsNewest, opened_on, packets_on, packets_next}

pub record Course (taken : List (Placed Seen)) (t : Transfer) (opening : ℕ) (packets : List (Placed (List ℕ))) (j : Join) : Type 0 where
  pub opened : IsOpenedAt taken t opening
  pub in_turn : ArePackets taken t opening opening 1 packets
  pub next : j.next ≡ length packets + 1
  pub size : j.size ≡ t.size
  pub bytes : j.bytes ≡ take t.size (bytes_of packets)

none_taken : (n : ℕ) → [] ≡ take n (bytes_of [])
none_taken zero = refl
none_taken (suc n) = refl

bytes_more : (ps : List (Placed (List ℕ))) (p : Placed (List ℕ)) → bytes_of (ps ++ p ∷ []) ≡ bytes_of ps ++ p.1
bytes_more [] p = append-nil p.1
bytes_more (q ∷ ps) p = ap (λ xs. q.1 ++ xs) (bytes_more ps p) ∙ sym (append_assoc q.1 (bytes_of ps) p.1)

-- it begins
pub course_begins : (taken : List (Placed Seen)) (t : Transfer) (opening : ℕ) (j : Join) → IsOpenedAt taken t opening → j.next ≡ 1 → j.size ≡ t.size → j.bytes ≡ [] → Course taken t opening [] j
course_begins taken t opening j o next size bytes = record { opened = o; in_turn = tt; next = next; size = size; bytes = bytes ∙ none_taken t.size }

-- nothing but the room changes
pub course_same : (taken : List (Placed Seen)) (t : Transfer) (opening : ℕ) (packets : List (Placed (List ℕ))) (j k : Join) → k.next ≡ j.next → k.size ≡ j.size → k.bytes ≡ j.bytes → Course taken t opening packets j → Course taken t opening packets k
course_same taken t opening packets j k next size bytes c = record { opened = c.opened; in_turn = c.in_turn; next = next ∙ c.next; size = size ∙ c.size; bytes = bytes ∙ c.bytes }

-- the packets have seven bytes each
all_bytes : (taken : List (Placed Seen)) (t : Transfer) (opening after k : ℕ) (ps : List (Placed (List ℕ))) → ArePackets taken t opening after k ps → length (bytes_of ps) ≡ 7 * length ps
all_bytes taken t opening after k [] h = refl
all_bytes taken t opening after k (p ∷ ps) h =
    let rest : length (bytes_of ps) ≡ 7 * length ps = all_bytes taken t opening p.0 (k + 1) ps h.2 in
    let first : length p.1 ≡ 7 = h.1.seven in
    let both : length (p.1 ++ bytes_of ps) ≡ length p.1 + length (bytes_of ps) = length-append p.1 (bytes_of ps) in
    omega (arith, rest, first, both)

module _ (n : ℕ) (taken more : List (Placed Seen)) (next : AreNext n taken more) (t : Transfer) (opening : ℕ) (packets : List (Placed (List ℕ))) (j : Join) (c : Course taken t opening packets j) where
  abbrev all : List (Placed Seen)
  all = taken ++ more

  pub course_on : Course all t opening packets j
  course_on = record { opened = opened_on n taken more next t opening c.opened; in_turn = packets_on n taken more next t opening opening 1 packets c.in_turn; next = c.next; size = c.size; bytes = c.bytes }

  -- the next packet
  module _ (packet : List ℕ) (le : opening ≤ n) (is : IsPacket all t opening j.next (n + 1, packet)) where
    abbrev pub with_it : List (Placed (List ℕ))
    with_it = packets ++ (n + 1, packet) ∷ []

    pub course_next : Course all t opening with_it (joined j packet)
    course_next = record {
      opened = opened_on n taken more next t opening c.opened;
      in_turn = packets_next n taken more next t opening opening 1 j.next packets packet c.in_turn le (let e : j.next ≡ length packets + 1 = c.next in omega (arith, e)) is;
      next = (let e : j.next ≡ length packets + 1 = c.next in let l : length with_it ≡ length packets + 1 = length-append packets ((n + 1, packet) ∷ []) in omega (arith, e, l));
      size = c.size;
      bytes =
          ap (λ (s : ℕ). j.bytes ++ take (s - length j.bytes) packet) c.size
          ∙ ap (λ (xs : List ℕ). xs ++ take (t.size - length xs) packet) c.bytes
          ∙ take_more t.size (bytes_of packets) packet
          ∙ ap (take t.size) (sym (bytes_more packets (n + 1, packet)));
    }

    -- with the last packet it is a message
    module _ (last : wants_last j ≡ true) (m : Message) (bytes : m.bytes ≡ (joined j packet).bytes) (from : m.from ≡ t.from) (to : m.to ≡ t.to) (pgn : m.pgn ≡ t.pgn) (kind : kind_for t.to t.size ≡ t.kind) (newest : IsNewest (taken ++ more) t opening) where
      whole : length m.bytes ≡ t.size
      whole =
          let it : Course all t opening with_it (joined j packet) = course_next in
          let count : length with_it ≡ length packets + 1 = length-append packets ((n + 1, packet) ∷ []) in
          let now : j.next ≡ length packets + 1 = c.next in
          let to_last : j.next ≡ packet_count t.size = eqb-true j.next (packet_count j.size) last ∙ ap packet_count c.size in
          let there : length (bytes_of with_it) ≡ 7 * length with_it = all_bytes all t opening opening 1 with_it it.in_turn in
          ap length (bytes ∙ it.bytes) ∙ length-take-le t.size (bytes_of with_it) (omega (arith, count, now, to_last, there))

      pub its_transfer : transfer_of m ≡ t
      its_transfer = λ i. record { kind = (ap (λ (a : _). kind_for a (length m.bytes)) to ∙ ap (λ s. kind_for t.to s) whole ∙ kind) i; from = from i; to = to i; pgn = pgn i; size = whole i }

      pub course_ends : IsAssembled all opening (n + 1, m)
      course_ends =
          let it : Course all t opening with_it (joined j packet) = course_next in
          let now : j.next ≡ length packets + 1 = c.next in
          record {
            opened = subst (λ (u : Transfer). IsOpenedAt all u opening) (sym its_transfer) it.opened;
            latest = subst (λ (u : Transfer). IsLastOpening all u opening (n + 1)) (sym its_transfer) (λ place wire c e. inl (newest.0 place wire c e));
            unbroken = λ place c. inl (newest.1 place c);
            earlier = packets;
            last = packet;
            in_turn = subst (λ (u : Transfer). ArePackets all u opening opening 1 with_it) (sym its_transfer) it.in_turn;
            all = sym now ∙ eqb-true j.next (packet_count j.size) last ∙ ap packet_count (c.size ∙ sym whole);
            bytes = bytes ∙ it.bytes ∙ ap (λ s. take s (bytes_of with_it)) (sym whole);
          }
