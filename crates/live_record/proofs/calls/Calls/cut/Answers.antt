use Rattle.std.proofs.Common.{◌≡◌, ◌+◌, ◌<◌, ◌≤◌, ◌^◌, List, ◌∷◌, ◌++◌, length, sym, ap, ◌∙◌, subst, arith, append-nil, length-append, []}
use Rattle.std.proofs.lemmas.List.{length_push}
use Rattle.stored_calls.specs.declared.stored.Stored.{Stored}
use Rattle.live_record.specs.declared.calls.Piece.{Piece}
use Rattle.live_record.specs.declared.calls.TheConstants.{MOST_CALLS}
use Rattle.live_record.specs.Past.{joined, CallsView, HasCounts}
use Rattle.live_record.specs.TurnedAway.{count_turned_away}
use Rattle.live_record.proofs.Pieces.{numbered_push, joined_push}
use Rattle.live_record.proofs.calls.Calls.cut.Goals as goal

pub invariant_of-self : goal.invariant_of-self
invariant_of-self c =
    let i = c.self.inside in
    let ps = i.outlet in
    let xs = i.stored.items in
    let p : Piece = record { number = i.cuts + 1; calls = c.replace-calls.result } in
    let new : c.hand_out.new.self ≡ ps ++ p ∷ [] = c.hand_out.ensures.handed in
    let calls : p.calls.items ≡ xs = ap (λ v. v.items) c.replace-calls.ensures.value in
    let all : joined (ps ++ p ∷ []) ≡ joined ps ++ xs = joined_push ps p ∙ ap (λ (ys : List Stored). joined ps ++ ys) calls in
    let many : length (joined (ps ++ p ∷ [])) ≡ length (joined ps) + length xs = ap (λ (ys : List Stored). length ys) all ∙ length-append (joined ps) xs in
    let sum = length-append (joined ps) xs in
    let was = c.self.invariant in
    let count : i.before + c.len.result ≡ length (joined ps) + length xs = omega (arith, was.1, c.len.ensures) in
    let counts : HasCounts ps (joined ps ++ xs) = subst (λ (v : CallsView). HasCounts v.pieces v.items) (sym c.self.view_is) c.requires in
    let fits : i.before + c.len.result + MOST_CALLS < 2 ^ 64 = omega (arith, counts.1, count, sum) in
    let none = ap (λ v. length v.items) c.replace-calls.ensures.after ∙ ap (λ (ys : List Stored). length ys) c.new.ensures in
    let none_left : c.replace-calls.new.dest.items ≡ [] = ap (λ v. v.items) c.replace-calls.ensures.after ∙ c.new.ensures in
    let few : length c.replace-calls.new.dest.items ≤ MOST_CALLS = omega (arith, none) in
    rw new (
      omega (arith, was.0, length_push ps p),
      omega (arith, count, many),
      fits,
      few,
      numbered_push 0 ps p was.4 (omega (arith, was.0)),
      was.5 ∙ ap count_turned_away (sym all ∙ sym (append-nil (joined (ps ++ p ∷ []))) ∙ ap (λ (ys : List Stored). joined (ps ++ p ∷ []) ++ ys) (sym none_left)),
    )

pub returns-clause-items : goal.returns-clause-items
returns-clause-items c =
    let i = c.self.inside in
    let ps = i.outlet in
    let xs = i.stored.items in
    let p : Piece = record { number = i.cuts + 1; calls = c.replace-calls.result } in
    let new : c.hand_out.new.self ≡ ps ++ p ∷ [] = c.hand_out.ensures.handed in
    let calls : p.calls.items ≡ xs = ap (λ v. v.items) c.replace-calls.ensures.value in
    let all : joined (ps ++ p ∷ []) ≡ joined ps ++ xs = joined_push ps p ∙ ap (λ (ys : List Stored). joined ps ++ ys) calls in
    let none : c.replace-calls.new.dest.items ≡ [] = ap (λ v. v.items) c.replace-calls.ensures.after ∙ c.new.ensures in
    rw (← c.self.view_is, none, new) (append-nil (joined (ps ++ p ∷ [])) ∙ all)
