use Rattle.std.proofs.Common.{◌≡◌, List, get_or, ap, ◌∙◌, subst, ℕ}
use Rattle.pgn_ids.specs.declared.address.Address.{Address}
use Rattle.std.proofs.lemmas.List.{get_or_read}
use Rattle.segment_law.specs.declared.call.Call.TheVariants.{Send}
use Rattle.segment_rings.specs.Views.{SeatView}
use Rattle.live_ends.specs.Offers.{IsSendOf, send_call}
use Rattle.live_ends.proofs.offer.send_of.Goals as goal

pub returns : goal.returns
returns c d =
    let s = c.index-seats-k.result in
    let x = c.front-front.result.now in
    let at : s ≡ get_or c.args.seats.now c.args.k d = get_or_read c.args.seats.now c.args.k s c.requires.within c.index-seats-k.is d in
    let e : Send c.station.result x.to x.pgn c.in_ok-bytes.bytes ≡ send_call s.station x = ap (λ (n : Address). Send n x.to x.pgn c.in_ok-bytes.bytes) c.station.ensures ∙ ap (λ (b : List ℕ). Send s.station x.to x.pgn b) c.in_ok-bytes.ensures in
    subst (λ (t : SeatView). IsSendOf t (Send c.station.result x.to x.pgn c.in_ok-bytes.bytes)) at (x, c.front-front.ensures, e)
