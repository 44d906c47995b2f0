-- Calls that are made once more.
use Rattle.std.proofs.Common.{◌≡◌, ℕ, ◌+◌, ◌<◌, List, ◌∷◌, ◌++◌, length, take, get_or, true, refl, sym, ◌∙◌, ap, subst, append-nil, append_assoc, []}
use Rattle.std.proofs.lemmas.List.{take_more}
use Rattle.std.specs.List.{list_all}
use Rattle.pgn_ids.specs.declared.address.Address.{Address}
use Rattle.segment_law.specs.Segment.{Segment}
use Rattle.segment_law.specs.Calls.{is_call}
use Rattle.segment_law.specs.Record.{Record, StandsAt, after, calls_of, replies_of, replies_from}
use Rattle.segment_law.specs.declared.call.Call.{Call}
use Rattle.segment_law.specs.declared.reply.Reply.{Reply}
use Rattle.segment_law.proofs.Booleans.{both_pass}
use Rattle.segment_law.proofs.Records.{stands_on}
use Rattle.live_record.specs.Replies.{reply_of, left_by}
use Rattle.stored_calls.specs.declared.stored.Stored.{Stored}
use Rattle.live_record.specs.Record.{Trail, start, step, trail_from, trail}
use Rattle.live_segment.specs.Rejoining.{StandsAfter}
use Rattle.live_segment.proofs.Holding.{stands-more, state-more}

-- one call more was made
pub one_more : (addresses : List Address) (xs : List Stored) (x : Stored) (st next : Segment) (call : Call) (r : Reply) → StandsAfter addresses xs st → call ≡ x.call → r ≡ reply_of st call → next ≡ left_by st call
    → StandsAt addresses ((trail addresses xs).steps ++ (call, r) ∷ []) next → StandsAfter addresses (xs ++ x ∷ []) next
one_more addresses xs x st next call r at is reply left stands =
    let steps = (trail addresses xs).steps in (
      stands-more addresses st next xs x r at.1 (sym (reply ∙ ap (reply_of st) is)) (subst (λ (c : Call). StandsAt addresses (steps ++ (c, r) ∷ []) next) is stands),
      state-more addresses st next xs x at.1 (left ∙ ap (left_by st) is),
    )

-- the same of the next one of a list
pub next_more : (addresses : List Address) (made xs : List Stored) (i : ℕ) (x : Stored) (st next : Segment) (call : Call) (r : Reply) → i < length xs → x ≡ get_or xs i x → StandsAfter addresses (made ++ take i xs) st → call ≡ x.call
    → r ≡ reply_of st call → next ≡ left_by st call → StandsAt addresses ((trail addresses (made ++ take i xs)).steps ++ (call, r) ∷ []) next → StandsAfter addresses (made ++ take (i + 1) xs) next
next_more addresses made xs i x st next call r within item at is reply left stands =
    let more : take (i + 1) xs ≡ take i xs ++ x ∷ [] = take_more xs i x within ∙ ap (λ (y : Stored). take i xs ++ y ∷ []) (sym item) in
    let all : (made ++ take i xs) ++ x ∷ [] ≡ made ++ take (i + 1) xs = append_assoc made (take i xs) (x ∷ []) ∙ ap (λ (ys : List Stored). made ++ ys) (sym more) in
    subst (λ (ys : List Stored). StandsAfter addresses ys next) all (one_more addresses (made ++ take i xs) x st next call r at is reply left stands)

-- calls made on a segment, with their replies
abbrev steps_of : Segment → List Stored → Record
steps_of st [] = []
steps_of st (x ∷ xs) = (x.call, reply_of st x.call) ∷ steps_of (left_by st x.call) xs

steps_from : (t : Trail) (xs : List Stored) → (trail_from t xs).steps ≡ t.steps ++ steps_of t.state xs
unfolding trail_from
steps_from t [] = sym (append-nil t.steps)
steps_from t (x ∷ xs) = steps_from (step t x) xs ∙ append_assoc t.steps ((x.call, reply_of t.state x.call) ∷ []) (steps_of (left_by t.state x.call) xs)

state_from : (t : Trail) (xs : List Stored) → (trail_from t xs).state ≡ after t.state (calls_of (steps_of t.state xs))
unfolding trail_from
state_from t [] = refl
state_from t (x ∷ xs) = state_from (step t x) xs

replies_are : (st : Segment) (xs : List Stored) → replies_from st (calls_of (steps_of st xs)) ≡ replies_of (steps_of st xs)
replies_are st [] = refl
replies_are st (x ∷ xs) = ap (λ (rs : List Reply). reply_of st x.call ∷ rs) (replies_are (left_by st x.call) xs)

trail_from-append : (t : Trail) (xs ys : List Stored) → trail_from t (xs ++ ys) ≡ trail_from (trail_from t xs) ys
unfolding trail_from
trail_from-append t [] ys = refl
trail_from-append t (x ∷ xs) ys = trail_from-append (step t x) xs ys

steps_append : (addresses : List Address) (xs ys : List Stored) → (trail addresses (xs ++ ys)).steps ≡ (trail addresses xs).steps ++ steps_of (trail addresses xs).state ys
steps_append addresses xs ys = ap (λ (t : Trail). t.steps) (trail_from-append (start addresses) xs ys) ∙ steps_from (trail addresses xs) ys

state_append : (addresses : List Address) (xs ys : List Stored) → (trail addresses (xs ++ ys)).state ≡ after (trail addresses xs).state (calls_of (steps_of (trail addresses xs).state ys))
state_append addresses xs ys = ap (λ (t : Trail). t.state) (trail_from-append (start addresses) xs ys) ∙ state_from (trail addresses xs) ys

fits_after : (xs ys : Record) → list_all is_call (calls_of (xs ++ ys)) ≡ true → list_all is_call (calls_of ys) ≡ true
fits_after [] ys h = h
fits_after (x ∷ xs) ys h = fits_after xs ys (both_pass (is_call x.0) (list_all is_call (calls_of (xs ++ ys))) h).1

-- what follows other calls that left the same segment leaves the same segment
pub same_after : (addresses : List Address) (xs zs ys : List Stored) (st : Segment) → StandsAfter addresses xs st → (trail addresses xs).state ≡ (trail addresses zs).state
    → StandsAt addresses (trail addresses (zs ++ ys)).steps (trail addresses (zs ++ ys)).state → StandsAt addresses (trail addresses (xs ++ ys)).steps (trail addresses (zs ++ ys)).state
same_after addresses xs zs ys st at same whole =
    let s = (trail addresses xs).state in
    let more = steps_of s ys in
    let here : StandsAt addresses (trail addresses xs).steps s = subst (λ (u : Segment). StandsAt addresses (trail addresses xs).steps u) at.1 at.0 in
    let fit : list_all is_call (calls_of (steps_of (trail addresses zs).state ys)) ≡ true =
    fits_after (trail addresses zs).steps (steps_of (trail addresses zs).state ys) (subst (λ (u : Record). list_all is_call (calls_of u) ≡ true) (steps_append addresses zs ys) whole.calls_fit) in
    let fit' : list_all is_call (calls_of more) ≡ true = subst (λ (u : Segment). list_all is_call (calls_of (steps_of u ys)) ≡ true) (sym same) fit in
    let on : StandsAt addresses ((trail addresses xs).steps ++ more) (after s (calls_of more)) = stands_on addresses (trail addresses xs).steps more s here fit' (replies_are s ys) in
    let left : after s (calls_of more) ≡ (trail addresses (zs ++ ys)).state = ap (λ (u : Segment). after u (calls_of (steps_of u ys))) same ∙ sym (state_append addresses zs ys) in
    subst (λ (u : Record). StandsAt addresses u (trail addresses (zs ++ ys)).state) (sym (steps_append addresses xs ys)) (subst (λ (u : Segment). StandsAt addresses ((trail addresses xs).steps ++ more) u) left on)
