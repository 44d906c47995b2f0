use Rattle.std.proofs.Common.{◌≡◌, ◌∙◌, false, get_or, refl, ap, subst, deque_capacity}
use Rattle.std.proofs.lemmas.Bool.{false≢true}
use Rattle.pgn_ids.specs.declared.address.Address.{Address}
use Rattle.segment_rings.specs.Views.{SeatView, has_noted_news}
use Rattle.live_ends.proofs.Marks.{marks-same}
use Rattle.live_ends.proofs.Waiting.{waits_same}
use Rattle.live_ends.proofs.Quiet.{quiet-only}
use Rattle.live_ends.proofs.seating.Seats.keep_notes.Goals as goal

pub invariant_of-self : goal.invariant_of-self
invariant_of-self c =
    let ms = c.mark.new.homes.items in
    let ss = c.self.inside.seats.items in
    let s = c.index.result.now in
    let at = c.station-station.ensures ∙ ap (λ (x : SeatView). x.station) c.index.ensures in
    let off = subst (λ (a : Address). get_or ms a.0 false ≡ false) at (c.mark.ensures.off refl) in
    let ts = c.keep_notes.new.seats.items in
    let i = c.self.inside in (
      quiet-only ms c.args.k ss ts s c.keep_notes.ensures.same c.keep_notes.ensures.only off (c.mark.ensures.kept ss c.self.invariant.0 (λ on. absurd (false≢true on))),
      waits_same has_noted_news ss ts i.news.items (deque_capacity i.news) (marks-same ss ts c.keep_notes.ensures.same) c.self.invariant.1,
    )
