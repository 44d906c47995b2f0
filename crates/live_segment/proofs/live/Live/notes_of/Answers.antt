use Rattle.std.proofs.Common.{◌≡◌, ℕ, ◌+◌, ◌<◌, length, drop, get_or, sym, ap, ◌∙◌, arith}
use Rattle.std.proofs.lemmas.List.{length-map}
use Rattle.segment_rings.specs.Views.{SeatView}
use Rattle.live_record.specs.Record.{notes_of, trail}
use Rattle.live_segment.specs.LiveView.{keep}
use Rattle.live_segment.proofs.Laws.{kept_at, notes_gone_at}
use Rattle.live_segment.proofs.live.Live.notes_of.Goals as goal

pub returns : goal.returns
returns c =
    let i = c.self.inside in
    let k = c.args.client in
    let ss = i.seats.items in
    let ns = (trail i.addresses.items i.calls.items).noted in
    let l : k < length ss = omega (arith, c.len.ensures) in
    let s = c.get.result.now in
    let z : 0 + k ≡ k = omega arith in
    let gone = notes_gone_at (keep i.stopped i.calls.pieces) i.addresses.items i.calls.items ss i.doors.items k s l in
    let own = kept_at 0 k ns ss s l c.self.invariant.0.ids c.self.invariant.0.notes ∙ ap (λ (n : ℕ). drop (get_or ss k s).gone (notes_of n ns)) z in
    let e = c.notes.ensures ∙ ap (λ (x : SeatView). x.kept) (c.get.ensures s) ∙ own ∙ ap (λ (n : ℕ). drop n (notes_of k ns)) (sym gone) in
    rw (← c.self.view_is) (rw length-map l, e)
