-- The messages that wait in a lane: their numbers rise, and each is what was sent under its number.
use Rattle.std.proofs.Common.{◌≡◌, ℕ, zero, suc, ◌+◌, ◌-◌, ◌<◌, ◌≤◌, ◌^◌, ◌==◌, cond, List, [], ◌∷◌, ◌++◌, length, Some, refl, arith}
use Rattle.std.specs.Prelude.{slice_get}
use Rattle.std.proofs.lemmas.Option.{slice_get_within}
use Rattle.seg_cut.specs.Packets.{packet_count}
use Rattle.lane_core.specs.Cancel.{without_number}
use Rattle.lane_core.specs.declared.message.Pending.{Pending}
use Rattle.record_law.proofs.Tests.{on_test}
use Rattle.lane_law.specs.Message.{Message, IsSent}
use Rattle.broadcast_law.proofs.View.{message, ArePending}

sent_more : (sent more : List Message) (n : ℕ) (m : Message) → IsSent sent n m → IsSent (sent ++ more) n m
sent_more sent more n m h = (h.0, got sent (n - 1) h.1)
  where
    got : (xs : List Message) (k : ℕ) → slice_get xs k ≡ Some m → slice_get (xs ++ more) k ≡ Some m
    got [] k e = absurd (cc)
    got (x ∷ xs) zero e = e
    got (x ∷ xs) (suc k) e = got xs k e

more_pending : (above : ℕ) (ms : List Pending) (sent : List Message) (m : Message) → ArePending above ms sent → ArePending above ms (sent ++ m ∷ [])
more_pending above [] sent m h = tt
more_pending above (p ∷ ms) sent m h = (record { later = h.0.later; was_sent = sent_more sent (m ∷ []) p.number (message p) h.0.was_sent; long = h.0.long; pgn = h.0.pgn }, more_pending p.number ms sent m h.1)

lower : (a b : ℕ) (ms : List Pending) (sent : List Message) → a ≤ b → ArePending b ms sent → ArePending a ms sent
lower a b [] sent l h = tt
lower a b (p ∷ ms) sent l h = (record { later = omega (arith, h.0.later); was_sent = h.0.was_sent; long = h.0.long; pgn = h.0.pgn }, h.1)

pub fewer_pending : (number above : ℕ) (ms : List Pending) (sent : List Message) → ArePending above ms sent → ArePending above (without_number ms number) sent
fewer_pending number above [] sent h = tt
fewer_pending number above (p ∷ ms) sent h =
    on_test (λ t. ArePending above (cond t ms (p ∷ without_number ms number)) sent) (p.number == number)
    (λ e. lower above p.number ms sent (omega (arith, h.0.later)) h.1)
    (λ e. (h.0, fewer_pending number p.number ms sent h.1))

pub within : (sent : List Message) (n : ℕ) (m : Message) → IsSent sent n m → n ≤ length sent
within sent n m h = omega (arith, h.0, slice_get_within sent (n - 1) m h.1)

get_last : (sent : List Message) (m : Message) → slice_get (sent ++ m ∷ []) (length sent) ≡ Some m
get_last [] m = refl
get_last (x ∷ sent) m = get_last sent m

sent_last : (sent : List Message) (m : Message) (n : ℕ) → n ≡ length sent + 1 → IsSent (sent ++ m ∷ []) n m
sent_last sent m n e = (omega arith, let k : n - 1 ≡ length sent = omega arith in rw k (get_last sent m))

pub last_pending : (above : ℕ) (ms : List Pending) (sent : List Message) (p : Pending) → above ≤ length sent → p.number ≡ length sent + 1 → 0 < length p.bytes → p.pgn < 2 ^ 18 → ArePending above ms sent → ArePending above (ms ++ p ∷ []) (sent ++ message p ∷ [])
last_pending above [] sent p h n j g k = (record { later = omega arith; was_sent = sent_last sent (message p) p.number n; long = j; pgn = g }, tt)
last_pending above (m ∷ ms) sent p h n j g k =
    ((more_pending above (m ∷ []) sent (message p) (k.0, tt)).0, last_pending m.number ms sent p (within sent m.number (message m) k.0.was_sent) n j g k.1)

pub enough : (n : ℕ) → 0 < n → 1 ≤ packet_count n
enough n h = omega arith

pub below : (a b : ℕ) → a ≤ b → (a ≡ b → ⊥) → a + 1 ≤ b
below a b h n = omega arith
