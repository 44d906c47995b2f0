use Rattle.std.proofs.Common.{◌≡◌, ℕ, ◌+◌, List, length, sym, ap, ◌∙◌, arith, length-append}
use Rattle.stored_calls.specs.declared.stored.Stored.{Stored}
use Rattle.live_record.specs.Record.{accepted}
use Rattle.live_record.specs.Past.{joined}
use Rattle.live_segment.specs.LiveView.{LiveView, Laws, since_cut}
use Rattle.live_record.proofs.Trails.{accepted-append}
use Rattle.live_segment.proofs.ending.accepted_before.Goals as goal

-- what was accepted was accepted before the last cut or since
parts : (v : LiveView) (c : ℕ) → Laws v → length (accepted c v.calls) ≡ length (accepted c (joined v.pieces)) + length (accepted c (since_cut v))
parts v c laws =
    ap (λ (xs : List Stored). length (accepted c xs)) (sym laws.past.whole)
    ∙ ap (λ ms. length ms) (accepted-append c (joined v.pieces) (since_cut v))
    ∙ length-append (accepted c (joined v.pieces)) (accepted c (since_cut v))

pub overflow_sub-result : goal.overflow_sub-result
overflow_sub-result c =
    let e = parts c.args.live.now c.args.client c.laws.ensures.laws in
    let n = c.count_accepted.ensures ∙ ap (λ (xs : List Stored). length (accepted c.args.client xs)) c.calls.ensures in
    omega (arith, e, n, c.taken_of.ensures)

pub returns : goal.returns
returns c =
    let e = parts c.args.live.now c.args.client c.laws.ensures.laws in
    let n = c.count_accepted.ensures ∙ ap (λ (xs : List Stored). length (accepted c.args.client xs)) c.calls.ensures in
    omega (arith, e, n, c.taken_of.ensures)
