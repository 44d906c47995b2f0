use Rattle.std.proofs.Common.{◌≡◌, ℕ, ◌+◌, ◌<◌, length, sym, ap, ◌∙◌, arith, subst}
use Rattle.std.proofs.lemmas.List.{length-map}
use Rattle.segment_rings.specs.Views.{SeatView}
use Rattle.live_record.specs.Record.{accepted}
use Rattle.live_segment.specs.LiveView.{LiveView}
use Rattle.live_segment.proofs.Sending.{popped_at}
use Rattle.live_segment.proofs.live.Live.taken_of.Goals as goal

pub returns : goal.returns
returns c =
    let k = c.args.client in
    let ss = c.self.inside.seats.items in
    let xs = c.self.inside.calls.items in
    let l : k < length ss = rw length-map at (subst (λ (u : LiveView). k < length u.clients) (sym c.self.view_is) c.requires) in
    let s = c.get.result.now in
    let z : 0 + k ≡ k = omega arith in
    let e = c.taken.ensures ∙ ap (λ (x : SeatView). length x.popped) (c.get.ensures s) ∙ ap length (popped_at 0 k xs ss s l c.self.invariant.0.ids c.self.invariant.0.pops) ∙ ap (λ (n : ℕ). length (accepted n xs)) z in
    rw (← c.self.view_is) e
