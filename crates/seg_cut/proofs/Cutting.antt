-- Packets, place by place and at the end of a message.
use Rattle.std.proofs.Common.{◌≡◌, ℕ, ◌+◌, ◌-◌, ◌*◌, ◌<◌, ◌≤◌, List, ◌++◌, length, take, drop, get_or, refl, sym, ap, ◌∙◌, ⊎_elim, arith}
use Rattle.std.specs.Prelude.{replicate}
use Rattle.std.proofs.Math.Seq.{take-append-add}
use Rattle.std.proofs.lemmas.Bool.{cases_lt}
use Rattle.std.proofs.lemmas.List.{take-replicate, drop-append-le, get_or_append_left, get_or-append_right, get_or-replicate, get_or-take, get_or-drop, get_or_default, get_or_past}
use Rattle.seg_cut.specs.Packets.{filled, packet, packet_count}

-- less than seven bytes at the end of a message are filled up
pub fill_up-packet : (message : List ℕ) (i : ℕ) → i ≤ length message → length (drop i message) < 7 →
    drop i message ++ replicate (7 - length (drop i message)) 255 ≡ take 7 (drop i (filled message))
fill_up-packet message i within short =
    let rest : List ℕ = drop i message in
    let seven : 7 ≡ length rest + (7 - length rest) = omega arith in
    let more : 7 - length rest ≤ 7 = omega arith in
    ap (λ xs. rest ++ xs) (sym (take-replicate (7 - length rest) 7 255 more))
    ∙ sym (take-append-add rest (replicate 7 255) (7 - length rest))
    ∙ sym (ap (λ n. take n (rest ++ replicate 7 255)) seven)
    ∙ ap (λ xs. take 7 xs) (sym (drop-append-le i message (replicate 7 255) within))

get_or-filled : (message : List ℕ) (n : ℕ) → n < length message + 7 → get_or (filled message) n 0 ≡ get_or message n 255
get_or-filled message n within =
    ⊎_elim
    (λ inside. get_or_append_left message (replicate 7 255) 0 n inside ∙ get_or_default message n 0 255 inside)
    (λ past. get_or-append_right message (replicate 7 255) (length message) n 0 refl past ∙ get_or-replicate 7 (n - length message) 255 0 (omega arith) ∙ sym (get_or_past message n 255 past))
    (cases_lt n (length message))

pub get_or-packet : (message : List ℕ) (k i : ℕ) → k ≤ packet_count (length message) → i < 7 →
    get_or (packet message k) i 0 ≡ get_or message (7 * (k - 1) + i) 255
get_or-packet message k i to_last below =
    get_or-take 7 (drop (7 * (k - 1)) (filled message)) i 0 below
    ∙ get_or-drop (7 * (k - 1)) (filled message) i 0
    ∙ get_or-filled message (7 * (k - 1) + i) (omega arith)
