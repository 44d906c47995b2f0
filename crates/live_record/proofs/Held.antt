-- What pieces hold of a client.
use Rattle.std.proofs.Common.{◌≡◌, ℕ, ◌+◌, ◌-◌, ◌<◌, ◌≤◌, List, ◌∷◌, ◌++◌, length, take, drop, get_or, sym, ◌∙◌, ap, subst, arith, append_assoc, length-append, []}
use Rattle.std.proofs.lemmas.List.{take_all, take-append-drop, take_more, take_at, drop_at, length-take-le, length-drop}
use mathlib.Core.List.{IsPrefix}
use Rattle.stored_calls.specs.declared.stored.Stored.{Stored}
use Rattle.segment_rings.specs.declared.words.Submission.{Submission}
use Rattle.live_record.specs.declared.calls.Piece.{Piece}
use Rattle.live_record.specs.Record.{accepted}
use Rattle.live_record.specs.Past.{joined}
use Rattle.live_record.proofs.Pieces.{joined_append, joined_push}
use Rattle.live_record.proofs.Prefixes.{prefix_length}
use Rattle.live_record.proofs.Trails.{accepted-append}

-- one piece more
pub held_more : (c : ℕ) (ps : List Piece) (i : ℕ) (p : Piece) → i < length ps → p ≡ get_or ps i p → accepted c (joined (take (i + 1) ps)) ≡ accepted c (joined (take i ps)) ++ accepted c p.calls.items
held_more c ps i p l e =
    ap (λ (qs : List Piece). accepted c (joined qs)) (take_more ps i p l ∙ ap (λ (q : Piece). take i ps ++ q ∷ []) (sym e))
    ∙ ap (λ (xs : List Stored). accepted c xs) (joined_push (take i ps) p)
    ∙ accepted-append c (joined (take i ps)) p.calls.items

held_parts : (c : ℕ) (ps : List Piece) (i : ℕ) → accepted c (joined ps) ≡ accepted c (joined (take i ps)) ++ accepted c (joined (drop i ps))
held_parts c ps i =
    ap (λ (qs : List Piece). accepted c (joined qs)) (sym (take-append-drop i ps))
    ∙ ap (λ (xs : List Stored). accepted c xs) (joined_append (take i ps) (drop i ps))
    ∙ accepted-append c (joined (take i ps)) (joined (drop i ps))

-- what the next piece holds goes on where those before end
pub next_begins : (c : ℕ) (ps : List Piece) (i n : ℕ) (p : Piece) (ys : List Submission) → i < length ps → p ≡ get_or ps i p → n ≤ length ys → take n ys ≡ accepted c (joined (take i ps))
    → IsPrefix (accepted c (joined ps)) ys → IsPrefix (accepted c p.calls.items) (drop n ys)
next_begins c ps i n p ys l e fits same (rest, is) =
    let b = accepted c p.calls.items in
    let later = accepted c (joined (drop (i + 1) ps)) in
    let all : accepted c (joined ps) ≡ (take n ys ++ b) ++ later = held_parts c ps (i + 1) ∙ ap (λ (ms : List Submission). ms ++ later) (held_more c ps i p l e ∙ ap (λ (ms : List Submission). ms ++ b) (sym same)) in
    let whole : take n ys ++ (b ++ (later ++ rest)) ≡ ys =
    sym (ap (λ (ms : List Submission). ms ++ rest) all ∙ append_assoc (take n ys ++ b) later rest ∙ append_assoc (take n ys) b (later ++ rest)) ∙ is in
    let from : drop n (take n ys ++ (b ++ (later ++ rest))) ≡ b ++ (later ++ rest) = drop_at (take n ys) (b ++ (later ++ rest)) n (length-take-le n ys fits) in
    (later ++ rest, sym from ∙ ap (λ (ms : List Submission). drop n ms) whole)

take_more_of : (n : ℕ) (b ys : List Submission) → n ≤ length ys → IsPrefix b (drop n ys) → take (n + length b) ys ≡ take n ys ++ b
take_more_of n b ys fits (rest, is) =
    let whole : (take n ys ++ b) ++ rest ≡ ys = append_assoc (take n ys) b rest ∙ ap (λ (ms : List Submission). take n ys ++ ms) is ∙ take-append-drop n ys in
    let count : length (take n ys ++ b) ≡ n + length b = omega (arith, length-append (take n ys) b, length-take-le n ys fits) in
    ap (λ (ms : List Submission). take (n + length b) ms) (sym whole) ∙ take_at (take n ys ++ b) rest (n + length b) count

-- they are held as far as that
pub held_on : (c : ℕ) (ps : List Piece) (i n m : ℕ) (p : Piece) (ys : List Submission) → i < length ps → p ≡ get_or ps i p → n ≤ length ys → take n ys ≡ accepted c (joined (take i ps)) → m ≡ length (accepted c p.calls.items)
    → IsPrefix (accepted c p.calls.items) (drop n ys) → (n + m ≤ length ys) × (take (n + m) ys ≡ accepted c (joined (take (i + 1) ps)))
held_on c ps i n m p ys l e fits same count begins =
    let b = accepted c p.calls.items in (
      omega (arith, prefix_length b (drop n ys) begins, length-drop n ys, count),
      ap (λ (k : ℕ). take (n + k) ys) count ∙ take_more_of n b ys fits begins ∙ ap (λ (ms : List Submission). ms ++ b) same ∙ sym (held_more c ps i p l e),
    )

pub held_all : (c : ℕ) (ps : List Piece) (i n : ℕ) (ys : List Submission) → length ps ≤ i → take n ys ≡ accepted c (joined (take i ps)) → IsPrefix (accepted c (joined ps)) ys
held_all c ps i n ys l same =
    (drop n ys, ap (λ (ms : List Submission). ms ++ drop n ys) (ap (λ (qs : List Piece). accepted c (joined qs)) (sym (take_all i ps l)) ∙ sym same) ∙ take-append-drop n ys)

-- as the code has it: the piece at a place, and what is behind another one
pub as_read : (c : ℕ) (ps : List Piece) (i n : ℕ) (p : Piece) (ys : List Submission) → p ≡ get_or ps i p → IsPrefix (accepted c p.calls.items) (drop n ys) → IsPrefix (accepted c (get_or ps i p).calls.items) (take (length ys - n) (drop n ys))
as_read c ps i n p ys e h =
    let tail : take (length ys - n) (drop n ys) ≡ drop n ys = take_all (length ys - n) (drop n ys) (omega (arith, length-drop n ys)) in
    subst (λ (q : Piece). IsPrefix (accepted c q.calls.items) (take (length ys - n) (drop n ys))) e (subst (λ (zs : List Submission). IsPrefix (accepted c p.calls.items) zs) (sym tail) h)

pub from_read : (c : ℕ) (ps : List Piece) (i n : ℕ) (p : Piece) (ys : List Submission) → p ≡ get_or ps i p → IsPrefix (accepted c (get_or ps i p).calls.items) (take (length ys - n) (drop n ys)) → IsPrefix (accepted c p.calls.items) (drop n ys)
from_read c ps i n p ys e h =
    let tail : take (length ys - n) (drop n ys) ≡ drop n ys = take_all (length ys - n) (drop n ys) (omega (arith, length-drop n ys)) in
    subst (λ (q : Piece). IsPrefix (accepted c q.calls.items) (drop n ys)) (sym e) (subst (λ (zs : List Submission). IsPrefix (accepted c (get_or ps i p).calls.items) zs) tail h)
