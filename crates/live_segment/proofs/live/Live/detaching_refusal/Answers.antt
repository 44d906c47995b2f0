use Rattle.std.proofs.Common.{◌≡◌, ◌∙◌, ◌<◌, ◌≤◌, Bool, true, false, cond, length, map, get_or, Option, Some, None, sym, ap, arith}
use Rattle.std.proofs.lemmas.List.{length-map}
use Rattle.std.proofs.lemmas.Option.{slice_get-map, slice_get-get_or, slice_get_past}
use Rattle.std.specs.Prelude.{option_map, slice_get}
use Rattle.segment_rings.specs.Views.{SeatView}
use Rattle.live_segment.specs.Detaching.{detached_cause}
use Rattle.live_segment.specs.LiveView.{client_of}
use Rattle.live_segment.specs.declared.detaching.NotDetached.{NotDetached}
use Rattle.live_segment.specs.declared.detaching.NotDetached.TheVariants.{Gone}
use Rattle.live_segment.proofs.live.Live.detaching_refusal.Goals as goal

pub returns-then-client-len : goal.returns-then-client-len
returns-then-client-len c =
    let ss = c.self.inside.seats.items in
    let past : length (map client_of ss) ≤ c.args.client = rw length-map (omega (arith, c.len.ensures, c.if-client-len.true)) in
    rw (← c.self.view_is) (sym (ap detached_cause (slice_get_past (map client_of ss) c.args.client past)))

pub returns-then-is_active : goal.returns-then-is_active
returns-then-is_active c =
    let k = c.args.client in
    let ss = c.self.inside.seats.items in
    let s = c.get.result.now in
    let l : k < length ss = omega (arith, c.len.ensures) in
    let here : slice_get (map client_of ss) k ≡ Some (client_of (get_or ss k s)) = slice_get-map client_of ss k ∙ ap (λ (o : Option SeatView). option_map client_of o) (slice_get-get_or ss k s l) in
    let active : (get_or ss k s).active ≡ true = sym (ap (λ (x : SeatView). x.active) (c.get.ensures s)) ∙ sym c.is_active.ensures ∙ c.if-is_active.true in
    rw (← c.self.view_is) (sym (ap detached_cause here ∙ ap (λ (b : Bool). cond {A = Option NotDetached} b None (Some Gone)) active))

pub returns : goal.returns
returns c =
    let k = c.args.client in
    let ss = c.self.inside.seats.items in
    let s = c.get.result.now in
    let l : k < length ss = omega (arith, c.len.ensures) in
    let here : slice_get (map client_of ss) k ≡ Some (client_of (get_or ss k s)) = slice_get-map client_of ss k ∙ ap (λ (o : Option SeatView). option_map client_of o) (slice_get-get_or ss k s l) in
    let gone : (get_or ss k s).active ≡ false = sym (ap (λ (x : SeatView). x.active) (c.get.ensures s)) ∙ sym c.is_active.ensures ∙ c.if-is_active.false in
    rw (← c.self.view_is) (sym (ap detached_cause here ∙ ap (λ (b : Bool). cond {A = Option NotDetached} b None (Some Gone)) gone))
