use Rattle.std.proofs.Common.{◌≡◌, ◌∙◌, false, List, get_or, refl, ap, sym, subst, deque_capacity}
use Rattle.std.specs.Prelude.{slice_index_or}
use Rattle.std.proofs.lemmas.Bool.{false≢true}
use Rattle.pgn_ids.specs.declared.address.Address.{Address}
use Rattle.segment_rings.specs.declared.words.Submission.{Submission}
use Rattle.segment_rings.specs.Views.{SeatView, popped_one, has_noted_news}
use Rattle.live_ends.specs.Homes.{SeatsView, AreQuiet}
use Rattle.live_ends.specs.Offers.{IsStored}
use Rattle.live_ends.proofs.Quiet.{quiet-set}
use Rattle.live_ends.specs.Waiting.{Waits}
use Rattle.live_ends.proofs.Waiting.{waits_set}
use Rattle.live_ends.proofs.seating.Seats.store.Goals as goal

pub invariant_of-self : goal.invariant_of-self
invariant_of-self c =
    let ms = c.mark.new.homes.items in
    let ss = c.self.inside.seats.items in
    let k = c.args.k in
    let s = c.index.result.now in
    let e = c.store.ensures.stored s in
    let at = c.station-station.ensures ∙ ap (λ (x : SeatView). x.station) c.index.ensures in
    let off = subst (λ (a : Address). get_or ms a.0 false ≡ false) at (c.mark.ensures.off refl) in
    let x = popped_one (get_or ss k s) e.0 e.1.rest in
    let news = c.self.inside.news in
    subst (λ (ts : List SeatView). AreQuiet ms ts × Waits has_noted_news ts news.items (deque_capacity news)) (sym e.1.seats)
    (quiet-set ms k ss x (λ on. absurd (false≢true (sym off ∙ on))) (c.mark.ensures.kept ss c.self.invariant.0 (λ on. absurd (false≢true on))), waits_set has_noted_news ss k s x news.items (deque_capacity news) refl c.self.invariant.1)

pub returns-clause-stored : goal.returns-clause-stored
returns-clause-stored c = λ s.
    subst (λ (u : SeatsView). (x : Submission) × IsStored (slice_index_or u.items c.args.k s) c.args.k c.args.number x c.args.calls.now.items c.store.new.calls.items c.args.owed.now.items c.store.new.owed.items u.items c.store.new.seats.items)
    c.self.view_is (c.store.ensures.stored s)
