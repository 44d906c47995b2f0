use Rattle.std.proofs.Common.{◌∙◌, ◌<◌, length, sym, ap, arith}
use Rattle.std.proofs.lemmas.List.{length-map, get_or-map}
use Rattle.segment_rings.specs.Views.{SeatView}
use Rattle.live_segment.specs.LiveView.{ClientView, client_of}
use Rattle.live_segment.proofs.live.Live.station_of.Goals as goal

pub returns : goal.returns
returns c =
    let k = c.args.client in
    let ss = c.self.inside.seats.items in
    let l : k < length ss = omega (arith, c.len.ensures) in
    let s = c.get.result.now in
    rw (← c.self.view_is) (rw length-map l, λ v. c.station.ensures ∙ ap (λ (x : SeatView). x.station) (c.get.ensures s) ∙ ap (λ (u : ClientView). u.station) (sym (get_or-map client_of ss k s v l)))
