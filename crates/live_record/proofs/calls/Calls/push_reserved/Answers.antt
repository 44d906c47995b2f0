use Rattle.std.proofs.Common.{◌≡◌, ◌+◌, ◌-◌, ◌<◌, ◌≤◌, ◌∷◌, ◌++◌, List, length, sym, ap, ◌∙◌, subst, arith, append_assoc, length-append, []}
use Rattle.std.proofs.lemmas.List.{length_push}
use Rattle.stored_calls.specs.declared.stored.Stored.{Stored}
use Rattle.live_record.specs.declared.calls.TheConstants.{MOST_CALLS}
use Rattle.live_record.specs.Past.{joined, CallsView, count_since}
use Rattle.live_record.specs.TurnedAway.{is_turned_away, count_turned_away}
use Rattle.live_record.proofs.TurnedAway.{turned_within, turned_push, bit_within}
use Rattle.live_record.proofs.calls.Calls.push_reserved.Goals as goal

pub overflow_add-self : goal.overflow_add-self
overflow_add-self c =
    let i = c.self.inside in
    let before = joined i.outlet in
    let xs = i.stored.items in
    let was = c.self.invariant in
    let sum = length-append before xs in
    let few : length (before ++ xs) - length before < MOST_CALLS = subst (λ (v : CallsView). count_since v.pieces v.items < MOST_CALLS) (sym c.self.view_is) c.requires.few in
    let most : i.turned_away ≤ length before + length xs = omega (arith, was.5, turned_within (before ++ xs), sum) in
    omega (arith, few, sum, most, bit_within (is_turned_away c.args.call.call), was.1, was.2, c.turned_away_by.ensures)

pub invariant_of-self : goal.invariant_of-self
invariant_of-self c =
    let i = c.self.inside in
    let before = joined i.outlet in
    let xs = i.stored.items in
    let was = c.self.invariant in
    let x : Stored = c.args.call in
    let ys = c.push_reserved.new.self.items in
    let new : ys ≡ xs ++ x ∷ [] = c.push_reserved.ensures in
    let sum = length-append before xs in
    let few : length (before ++ xs) - length before < MOST_CALLS = subst (λ (v : CallsView). count_since v.pieces v.items < MOST_CALLS) (sym c.self.view_is) c.requires.few in
    let long : length ys ≡ length xs + 1 = ap (λ (l : List Stored). length l) new ∙ length_push xs x in
    let all : count_turned_away (before ++ ys) ≡ count_turned_away ((before ++ xs) ++ x ∷ []) = ap (λ (l : List Stored). count_turned_away (before ++ l)) new ∙ ap count_turned_away (sym (append_assoc before xs (x ∷ []))) in (
      was.0,
      was.1,
      was.2,
      omega (arith, few, sum, long),
      was.4,
      omega (arith, was.5, all, turned_push (before ++ xs) x, c.turned_away_by.ensures),
    )
