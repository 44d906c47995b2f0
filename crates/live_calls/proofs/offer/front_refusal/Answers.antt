use Rattle.std.proofs.Common.{◌≡◌, get_or, ap, ◌∙◌, sym, subst}
use Rattle.std.proofs.lemmas.List.{get_or_read}
use Rattle.pgn_ids.specs.declared.address.Address.{Address}
use Rattle.segment_law.specs.Calls.{called}
use Rattle.segment_law.specs.declared.call.Call.TheVariants.{Send}
use Rattle.segment_state.specs.Answers.{refusal_of}
use Rattle.segment_rings.specs.Views.{SeatView}
use Rattle.live_calls.specs.Offers.{IsCauseFor}
use Rattle.live_ends.specs.Offers.{send_call}
use Rattle.live_calls.proofs.offer.front_refusal.Goals as goal

pub returns : goal.returns
returns c d =
    let st = c.args.segment.now in
    let s = c.index-seats-k.result in
    let x = c.front-front.result.now in
    let at : s ≡ get_or c.args.seats.now c.args.k d = get_or_read c.args.seats.now c.args.k s c.requires.within c.index-seats-k.is d in
    let e : c.send_refusal.result ≡ refusal_of (called st (send_call s.station x)) = c.send_refusal.ensures x.pgn x.bytes (sym c.len.ensures) ∙ ap (λ (n : Address). refusal_of (called st (Send n x.to x.pgn x.bytes))) c.station.ensures in
    subst (λ (t : SeatView). IsCauseFor st t c.send_refusal.result) at (x, c.front-front.ensures, e)
