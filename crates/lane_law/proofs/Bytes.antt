-- What a session collects is a front of the message's padded bytes, and the size cuts it to the message.
use Rattle.std.proofs.Common.{◌≡◌, ℕ, zero, suc, ◌+◌, ◌-◌, ◌*◌, ◌≤◌, List, [], ◌∷◌, ◌++◌, length, take, drop, refl, sym, ap, ◌∙◌, arith}
use Rattle.std.specs.Prelude.{slice_get, Some, replicate}
use Rattle.std.proofs.Math.Seq.{take-add}
use Rattle.std.proofs.lemmas.List.{take-take, take_at}
use Rattle.std.proofs.lemmas.Option.{none-some}
use Rattle.lane_law.specs.Message.{Message, padded, packet, packet_count, IsSent}

pub one_more : (bytes : List ℕ) (a k : ℕ) → k ≡ a + 1 → take (7 * a) (padded bytes) ++ packet bytes k ≡ take (7 * (a + 1)) (padded bytes)
one_more bytes a k e =
    let place : k - 1 ≡ a = omega arith in
    let sum : 7 * (a + 1) ≡ 7 * a + 7 = omega arith in
    ap (λ n. take (7 * a) (padded bytes) ++ take 7 (drop (7 * n) (padded bytes))) place ∙ sym (ap (λ n. take n (padded bytes)) sum ∙ take-add (7 * a) 7 (padded bytes))

pub whole : (bytes : List ℕ) (a : ℕ) → a + 1 ≡ packet_count (length bytes) → take (length bytes) (take (7 * (a + 1)) (padded bytes)) ≡ bytes
whole bytes a e =
    let le : length bytes ≤ 7 * (a + 1) = omega arith in
    take-take (length bytes) (7 * (a + 1)) (padded bytes) le ∙ take_at bytes (replicate 7 255) (length bytes) refl

get_more : {A : Type 0} (xs ys : List A) (i : ℕ) (x : A) → slice_get xs i ≡ Some x → slice_get (xs ++ ys) i ≡ Some x
get_more [] ys i x e = absurd (none-some x e)
get_more (y ∷ xs) ys zero x e = e
get_more (y ∷ xs) ys (suc i) x e = get_more xs ys i x e

pub sent_more : (sent more : List Message) (n : ℕ) (m : Message) → IsSent sent n m → IsSent (sent ++ more) n m
sent_more sent more n m h = (h.0, get_more sent more (n - 1) m h.1)
