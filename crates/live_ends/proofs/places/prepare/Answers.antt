use Rattle.std.proofs.Common.{◌≡◌, ◌≤◌, true, set, subst, List, Bool}
use Rattle.std.specs.Prelude.{IsTrue}
use Rattle.segment_rings.specs.Views.{DoorView, SameDoor}
use Rattle.live_ends.specs.Ends.{NoneAt}
use Rattle.live_ends.specs.Places.{IsPlaceIn, RoomAt}
use Rattle.live_ends.proofs.Giving.{same_doors-refl, same_doors-set}
use Rattle.live_ends.proofs.Preparing.{room_absent, room_at}
use Rattle.live_ends.proofs.Results.{on_ok}
use Rattle.live_ends.proofs.places.prepare.Goals as goal

pub returns-in_default-clause-same : goal.returns-in_default-clause-same
returns-in_default-clause-same c = same_doors-refl _

pub returns-in_default-clause-ready : goal.returns-in_default-clause-ready
returns-in_default-clause-ready c _ = room_absent c.args.port c.args.needed c.args.doors.now.items (subst (NoneAt c.args.port) c.as_slice.ensures.value c.in_default.ensures)

pub returns-clause-same : goal.returns-clause-same
returns-clause-same c =
    let ds = c.args.doors.now.items in
    let d = c.index_mut-door.result.now in
    let here : IsPlaceIn ds c.args.port c.in-Some.k = subst (λ (xs : List DoorView). IsPlaceIn xs c.args.port c.in-Some.k) c.as_slice.ensures.value c.in-Some.ensures in
    same_doors-set ds c.in-Some.k d c.prepare.new.self here.0 (subst (λ (x : DoorView). SameDoor x c.prepare.new.self) c.index_mut-door.ensures.value c.prepare.ensures.same)

pub returns-clause-ready : goal.returns-clause-ready
returns-clause-ready c =
    let ds = c.args.doors.now.items in
    let d = c.index_mut-door.result.now in
    let here : IsPlaceIn ds c.args.port c.in-Some.k = subst (λ (xs : List DoorView). IsPlaceIn xs c.args.port c.in-Some.k) c.as_slice.ensures.value c.in-Some.ensures in
    on_ok (λ (r : Bool). IsTrue r → (c.args.needed ≤ c.prepare.new.self.free) × (c.args.needed ≤ c.prepare.new.self.spare) × (c.prepare.new.self.active ≡ true)) (λ (r : Bool). IsTrue r → RoomAt c.args.port c.args.needed (set ds c.in-Some.k c.prepare.new.self)) c.prepare.result
    (λ r h t. let l = h t in room_at c.args.port c.args.needed c.in-Some.k ds d c.prepare.new.self here.0 (here.1 d) c.requires l.0 l.1 l.2) c.prepare.ensures.ready
