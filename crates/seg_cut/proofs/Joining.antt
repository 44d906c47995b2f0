-- Packets that are joined in their order are the message.
use Rattle.std.proofs.Common.{◌≡◌, ℕ, zero, suc, ◌+◌, ◌-◌, ◌*◌, ◌<◌, ◌≤◌, List, ◌++◌, length, take, drop, refl, sym, ap, subst, ◌∙◌, ⊎_elim, arith}
use Rattle.std.specs.Prelude.{replicate, IsTrue}
use Rattle.std.proofs.Math.Seq.{take-add}
use Rattle.std.proofs.lemmas.Bool.{cases_lt, eq-eqb}
use Rattle.std.proofs.lemmas.List.{take-append-le, take-append-drop, take-take, take_all, take_at, drop-append-le, length-drop, length-take-le}
use Rattle.seg_cut.specs.Packets.{filled, packet, packet_count}
use Rattle.seg_cut.specs.Join.{Join, IsFrontOf, is_complete, joined, after_packets}

-- a packet of which the message has all seven bytes
whole_packet : (message : List ℕ) (i n : ℕ) → n + i ≡ length message → 7 ≤ n →
    take i message ++ take n (take 7 (drop i (filled message))) ≡ take (i + 7) message
whole_packet message i n sum seven =
    let within : i ≤ length message = omega arith in
    let rest : 7 ≤ length (drop i message) = omega (arith, length-drop i message) in
    let packet_is : take 7 (drop i (filled message)) ≡ take 7 (drop i message) = ap (λ xs. take 7 xs) (drop-append-le i message (replicate 7 255) within) ∙ take-append-le 7 (drop i message) (replicate 7 255) rest in
    ap (λ xs. take i message ++ take n xs) packet_is
    ∙ ap (λ xs. take i message ++ xs) (take_all n (take 7 (drop i message)) (omega (arith, length-take-le 7 (drop i message) rest)))
    ∙ sym (take-add i 7 message)

-- a packet of which the message has less
last_packet : (message : List ℕ) (i n : ℕ) → n + i ≡ length message → n < 7 →
    take i message ++ take n (take 7 (drop i (filled message))) ≡ take (i + 7) message
last_packet message i n sum short =
    let within : i ≤ length message = omega arith in
    let some : n ≤ 7 = omega arith in
    ap (λ xs. take i message ++ xs) (take-take n 7 (drop i (filled message)) some
    ∙ ap (λ xs. take n xs) (drop-append-le i message (replicate 7 255) within)
    ∙ take_at (drop i message) (replicate 7 255) n (omega (arith, length-drop i message)))
    ∙ take-append-drop i message
    ∙ sym (take_all (i + 7) message (omega arith))

more : (message bytes : List ℕ) (size i : ℕ) → size ≡ length message → i ≤ size → bytes ≡ take i message →
    bytes ++ take (size - length bytes) (take 7 (drop i (filled message))) ≡ take (i + 7) message
more message bytes size i same within e =
    let so_far : length bytes ≡ i = ap length e ∙ length-take-le i message (omega arith) in
    let sum : (size - length bytes) + i ≡ length message = omega arith in
    ap (λ xs. xs ++ take (size - length bytes) (take 7 (drop i (filled message)))) e
    ∙ ⊎_elim (last_packet message i (size - length bytes) sum) (whole_packet message i (size - length bytes) sum) (cases_lt (size - length bytes) 7)

pub goes_on : (message : List ℕ) (j : Join) → IsFrontOf message j → j.next ≤ packet_count j.size → IsFrontOf message (joined j (packet message j.next))
goes_on message j f to_last =
    let from_packet : 1 ≤ j.next = f.from_packet in
    let place : 7 * (j.next - 1) + 7 ≡ 7 * (j.next + 1 - 1) = omega arith in
    record {
      same_size = f.same_size;
      from_packet = omega arith;
      front = more message j.bytes j.size (7 * (j.next - 1)) f.same_size (omega arith) f.front ∙ ap (λ n. take n message) place;
    }

-- after packets 1 to k
record IsAfter (message : List ℕ) (k : ℕ) : Type 0 where
  is_front : IsFrontOf message (after_packets message k)
  next_is : (after_packets message k).next ≡ k + 1

after : (message : List ℕ) (k : ℕ) → k ≤ packet_count (length message) → IsAfter message k
after message zero le = record { is_front = record { same_size = refl; from_packet = omega arith; front = refl }; next_is = refl }
after message (suc k) le =
    let before : IsAfter message k = after message k (omega arith) in
    let j : Join = after_packets message k in
    let next : j.next ≡ suc k = before.next_is ∙ omega arith in
    let to_last : j.next ≤ packet_count j.size = subst (λ n. j.next ≤ packet_count n) (sym before.is_front.same_size) (omega arith) in
    record {
      is_front = subst (λ n. IsFrontOf message (joined j (packet message n))) next (goes_on message j before.is_front to_last);
      next_is = omega arith;
    }

pub complete : (message : List ℕ) → IsTrue (is_complete (after_packets message (packet_count (length message))))
complete message =
    let all : ℕ = packet_count (length message) in
    let is : IsAfter message all = after message all (omega arith) in
    let j : Join = after_packets message all in
    let last : packet_count j.size ≡ all = ap packet_count is.is_front.same_size in
    eq-eqb j.next (packet_count j.size + 1) (is.next_is ∙ ap (λ n. n + 1) (sym last))

pub whole : (message : List ℕ) → (after_packets message (packet_count (length message))).bytes ≡ message
whole message =
    let all : ℕ = packet_count (length message) in
    let is : IsAfter message all = after message all (omega arith) in
    let next : (after_packets message all).next ≡ all + 1 = is.next_is in
    is.is_front.front ∙ take_all _ message (omega arith)
