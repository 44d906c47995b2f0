use Rattle.std.proofs.Common.{◌≡◌, ◌<◌, List, length, set, get_or, refl, sym, ap, ◌∙◌, subst, arith, length-set, get_or-set_same}
use Rattle.segment_rings.specs.Views.{SeatView, DoorView, named_seat, named_door, new_seat, new_door}
use Rattle.live_ends.specs.Homes.{SeatsView}
use Rattle.live_ends.specs.Waiting.{DoorsView}
use Rattle.live_segment.specs.LiveView.{LiveView, live_view, keep}
use Rattle.live_segment.specs.News.{ClientNamed, PortNamed, NoNews}
use Rattle.live_segment.proofs.Keeping.{cut_with, notes_kept-set, given_kept-set}
use Rattle.live_segment.proofs.Naming.{holds-name_seat, holds-name_door, client_named_in, port_named_in, no_news_in}
use Rattle.live_segment.proofs.Viewed.{holds_at, viewed}
use Rattle.live_segment.proofs.live.Live.news.Goals as goal

abbrev nobody : SeatView
nobody = new_seat 0 (record { 0 = 0 }) 0 0

abbrev nowhere : DoorView
nowhere = new_door (record { station = record { 0 = 0 }; number = 0 }) 0 0 0

pub invariant_of-self : goal.invariant_of-self
invariant_of-self c =
    let i = c.self.inside in
    let k = c.in-Some.client in
    let ss = i.seats.items in
    holds_at _ _ _ _ _ _ _ _ _ _ _ _ _ _ _ refl refl refl refl refl (c.in-Some.ensures.1 nobody).1 refl (holds-name_seat i.addresses.items i.segment i.calls.items i.owed.items ss i.doors.items k nobody c.self.invariant.0)
    (cut_with _ _ _ _ _ _ _ (notes_kept-set k ss nobody (named_seat (get_or ss k nobody)) refl) (λ k0. k0) c.self.invariant.1)

pub returns-in-Some : goal.returns-in-Some
returns-in-Some c =
    let i = c.self.inside in
    let k = c.in-Some.client in
    let ss = i.seats.items in
    let more = set ss k (named_seat (get_or ss k nobody)) in
    let is = c.in-Some.ensures.1 nobody in
    viewed (λ (u v : LiveView). ClientNamed u v k) _ i.stopped i.addresses.items i.calls.pieces i.calls.pieces i.calls.items i.calls.items i.calls.items ss more c.name.new.self.items i.doors.items i.doors.items c.self.view_is refl refl is.1
    (client_named_in (keep i.stopped i.calls.pieces) i.addresses.items i.calls.items ss i.doors.items k nobody c.in-Some.ensures.0 is.0)

pub returns-in_default-name : goal.returns-in_default-name
returns-in_default-name c =
    let i = c.self.inside in
    let keeps = keep i.stopped i.calls.pieces in
    let none = no_news_in keeps i.addresses.items i.calls.items i.seats.items i.doors.items c.in_default.ensures.1 c.in_default-name.ensures.1 in (
      subst NoNews c.self.view_is none,
      ap (λ (u : SeatsView). live_view keeps i.addresses.items i.calls.items u.items c.name-2.new.self.items) c.in_default.ensures.0
          ∙ ap (λ (u : DoorsView). live_view keeps i.addresses.items i.calls.items i.seats.items u.items) c.in_default-name.ensures.0 ∙ c.self.view_is,
    )

pub get-requires : goal.get-requires
get-requires c =
    let ds = c.self.inside.doors.items in
    let k = c.in-Some-name.k in
    let d = named_door (get_or ds k nowhere) in
    let n : length c.name-2.new.self.items ≡ length ds = ap length (c.in-Some-name.ensures.1 nowhere).1 ∙ length-set ds k d in
    omega (arith, n, c.in-Some-name.ensures.0)

pub invariant_of-self-2 : goal.invariant_of-self-2
invariant_of-self-2 c =
    let i = c.self.inside in
    let k = c.in-Some-name.k in
    let ds = i.doors.items in
    let seats : c.name.new.self.items ≡ i.seats.items = ap (λ (u : SeatsView). u.items) c.in_default.ensures.0 in
    holds_at _ _ _ _ _ _ _ _ _ _ _ _ _ _ _ refl refl refl refl refl seats (c.in-Some-name.ensures.1 nowhere).1 (holds-name_door i.addresses.items i.segment i.calls.items i.owed.items i.seats.items ds k nowhere c.self.invariant.0)
    (cut_with _ _ _ _ _ _ _ (λ k0. k0) (given_kept-set k ds nowhere (named_door (get_or ds k nowhere)) refl) c.self.invariant.1)

pub returns : goal.returns
returns c =
    let i = c.self.inside in
    let k = c.in-Some-name.k in
    let ds = i.doors.items in
    let d = named_door (get_or ds k nowhere) in
    let is = c.in-Some-name.ensures.1 nowhere in
    let l : k < length ds = c.in-Some-name.ensures.0 in
    let seats : c.name.new.self.items ≡ i.seats.items = ap (λ (u : SeatsView). u.items) c.in_default.ensures.0 in
    let at : (get_or ds k nowhere).port ≡ c.port.result = sym (c.port.ensures ∙ ap (λ (x : DoorView). x.port) (c.get.ensures nowhere ∙ ap (λ (xs : List DoorView). get_or xs k nowhere) is.1 ∙ get_or-set_same ds k d nowhere l)) in
    subst (λ (es : List DoorView). PortNamed c.args.self.now (live_view (keep i.stopped i.calls.pieces) i.addresses.items i.calls.items c.name.new.self.items es) c.port.result) (sym is.1)
    (viewed (λ (u v : LiveView). PortNamed u v c.port.result) _ i.stopped i.addresses.items i.calls.pieces i.calls.pieces i.calls.items i.calls.items i.calls.items i.seats.items i.seats.items c.name.new.self.items ds (set ds k d) c.self.view_is refl refl seats
    (port_named_in (keep i.stopped i.calls.pieces) i.addresses.items i.calls.items i.seats.items ds k nowhere c.port.result l at is.0))
