-- Lists that begin others.
use Rattle.std.proofs.Common.{◌≡◌, ◌≢◌, ℕ, zero, suc, ◌+◌, ◌<◌, ◌≤◌, Bool, true, List, ◌∷◌, ◌++◌, length, take, drop, get_or, Option, None, Some, sym, ◌∙◌, ap, subst, arith, append-nil, append_assoc, length-append, []}
use Rattle.std.proofs.lemmas.List.{take_all, take-append-drop, take_more, drop_more, get_or_default}
use mathlib.Core.List.{IsPrefix}
use Rattle.segment_law.specs.declared.call.Call.{Call}
use Rattle.stored_calls.specs.declared.stored.Stored.{Stored}
use Rattle.segment_rings.specs.declared.words.Submission.{Submission}
use Rattle.live_record.specs.Record.{sent_in, is_by, accepted}
use Rattle.live_record.proofs.Equal.{apart, together}
use Rattle.live_record.proofs.Trails.{accepted-append, sent_in_false}

pub begins_from : {X : Type 0} (xs ys : List X) (i : ℕ) → length xs ≤ i → take i xs ≡ take i ys → IsPrefix xs ys
begins_from xs ys i l e = (drop i ys, ap (λ u. u ++ drop i ys) (sym (take_all i xs l) ∙ e) ∙ take-append-drop i ys)

pub prefix_part : {X : Type 0} (xs ys zs : List X) → IsPrefix (xs ++ ys) zs → IsPrefix xs zs
prefix_part xs ys zs p = (ys ++ p.0, sym (append_assoc xs ys p.0) ∙ p.1)

-- a list cannot begin a shorter one
pub prefix_length : {X : Type 0} (xs ys : List X) → IsPrefix xs ys → length xs ≤ length ys
prefix_length xs ys p = let e = length-append xs p.0 in let f = ap length p.1 in omega arith

pub sent_own : (c : ℕ) (by : Option ℕ) (d : ℕ) (call : Call) → by ≡ Some d → d ≡ c → sent_in (is_by c by) call ≡ sent_in true call
sent_own c by d call e f = ap (λ (o : Option ℕ). sent_in (is_by c o) call) e ∙ ap (λ (b : Bool). sent_in b call) (together d c f)

pub sent_not : (c : ℕ) (by : Option ℕ) (d : ℕ) (call : Call) → by ≡ Some d → d ≢ c → sent_in (is_by c by) call ≡ []
sent_not c by d call e f = ap (λ (o : Option ℕ). sent_in (is_by c o) call) e ∙ ap (λ (b : Bool). sent_in b call) (apart d c f) ∙ sent_in_false call

-- the next item is another one
pub other_next : {X : Type 0} (ys : List X) (n : ℕ) (x : X) → n < length ys → (get_or ys n x ≡ x → ⊥) → IsPrefix (take n ys ++ x ∷ []) ys → ⊥
other_next [] n x l h p = absurd (omega arith)
other_next (y ∷ ys) zero x l h p = let e : x ∷ p.0 ≡ y ∷ ys = p.1 in h cc
other_next (y ∷ ys) (suc n) x l h p = let e : y ∷ ((take n ys ++ x ∷ []) ++ p.0) ≡ y ∷ ys = p.1 in let f : (take n ys ++ x ∷ []) ++ p.0 ≡ ys = cc in other_next ys n x (omega arith) h (p.0, f)

pub accepted_more : (c : ℕ) (xs : List Stored) (i : ℕ) (x : Stored) → i < length xs → x ≡ get_or xs i x → accepted c (take (i + 1) xs) ≡ accepted c (take i xs) ++ sent_in (is_by c x.by) x.call
accepted_more c xs i x l e =
    ap (accepted c) (take_more xs i x l) ∙ accepted-append c (take i xs) (get_or xs i x ∷ []) ∙ ap (λ u. accepted c (take i xs) ++ u) (append-nil (sent_in (is_by c (get_or xs i x).by) (get_or xs i x).call) ∙ ap (λ (u : Stored). sent_in (is_by c u.by) u.call) (sym e))

pub accepted_prefix : (c : ℕ) (xs : List Stored) (i : ℕ) (ys : List Submission) → IsPrefix (accepted c xs) ys → IsPrefix (accepted c (take i xs)) ys
accepted_prefix c xs i ys p =
    let e : accepted c xs ≡ accepted c (take i xs) ++ accepted c (drop i xs) = ap (accepted c) (sym (take-append-drop i xs)) ∙ accepted-append c (take i xs) (drop i xs) in
    prefix_part (accepted c (take i xs)) (accepted c (drop i xs)) ys (subst (λ (u : List Submission). IsPrefix u ys) e p)

-- a call of nobody is no message of a client
sent_nobody : (c : ℕ) (x : Stored) → x.by ≡ None → sent_in (is_by c x.by) x.call ≡ []
sent_nobody c x none = ap (λ (o : Option ℕ). sent_in (is_by c o) x.call) none ∙ sent_in_false x.call

pub accepted_same : (c : ℕ) (xs : List Stored) (i : ℕ) (d : Stored) → i < length xs → (get_or xs i d).by ≡ None → accepted c (take (i + 1) xs) ≡ accepted c (take i xs)
accepted_same c xs i d l none =
    accepted_more c xs i (get_or xs i d) l (get_or_default xs i d (get_or xs i d) l)
    ∙ ap (λ (u : List Submission). accepted c (take i xs) ++ u) (sent_nobody c (get_or xs i d) none)
    ∙ append-nil (accepted c (take i xs))

-- how many messages of a client there are from a call on
pub counted : (c : ℕ) (xs : List Stored) (i : ℕ) (x : Stored) → i < length xs → x ≡ get_or xs i x → length (accepted c (drop i xs)) ≡ length (sent_in (is_by c x.by) x.call) + length (accepted c (drop (i + 1) xs))
counted c xs i x l e =
    ap (λ (ys : List Stored). length (accepted c ys)) (drop_more xs i x l)
    ∙ ap (λ (y : Stored). length (accepted c (y ∷ drop (i + 1) xs))) (sym e)
    ∙ length-append (sent_in (is_by c x.by) x.call) (accepted c (drop (i + 1) xs))

pub counted_same : (c : ℕ) (xs : List Stored) (i : ℕ) (d : Stored) → i < length xs → (get_or xs i d).by ≡ None → length (accepted c (drop i xs)) ≡ length (accepted c (drop (i + 1) xs))
counted_same c xs i d l none =
    let all = counted c xs i (get_or xs i d) l (get_or_default xs i d (get_or xs i d) l) in
    let one = ap (λ (u : List Submission). length u) (sent_nobody c (get_or xs i d) none) in
    omega (arith, all, one)
