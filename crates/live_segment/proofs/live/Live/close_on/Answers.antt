use Rattle.std.proofs.Common.{◌<◌, ◌≤◌, List, refl, subst, inl, inr}
use Rattle.std.specs.Prelude.{IsTrue}
use Rattle.port_table.specs.declared.port.PortId.{PortId}
use Rattle.segment_rings.specs.Views.{DoorView}
use Rattle.live_record.specs.declared.calls.TheConstants.{MOST_CALLS}
use Rattle.live_ends.specs.Ends.{NoneAt}
use Rattle.live_segment.specs.LiveView.{LiveView, stored_calls}
use Rattle.live_ends.specs.Places.{IsPlaceIn}
use Rattle.live_segment.proofs.Laws.{no_port, port_seen}
use Rattle.live_segment.proofs.live.Live.close_on.Goals as goal

pub returns-in_default-clause-refused : goal.returns-in_default-clause-refused
returns-in_default-clause-refused c =
    let ds = c.self.inside.doors.items in
    let none : NoneAt c.args.inbox.now.port ds = subst (λ (q : PortId). NoneAt q ds) c.port.ensures (subst (NoneAt c.port.result) c.as_slice.ensures.value c.in_default.ensures) in
    rw (← c.self.view_is) (inl (refl, λ a. no_port ds c.args.inbox.now.port none a.within))

pub returns-then-not-inbox_agrees-clause-refused : goal.returns-then-not-inbox_agrees-clause-refused
returns-then-not-inbox_agrees-clause-refused c =
    inl (
      refl,
      λ a.
          let t : IsTrue c.inbox_agrees.result = c.inbox_agrees.ensures.1 a in
          let f = c.if-not-inbox_agrees.true in
          cc,
    )

pub returns-then-is_full-clause-refused : goal.returns-then-is_full-clause-refused
returns-then-is_full-clause-refused c =
    let full : MOST_CALLS ≤ stored_calls c.args.self.now = subst (λ (u : LiveView). MOST_CALLS ≤ stored_calls u) c.self.view_is (c.is_full.ensures.full c.if-is_full.true) in
    inr (refl, c.inbox_agrees.ensures.0 c.if-not-inbox_agrees.false, full)

pub returns-in-Err-clause-refused : goal.returns-in-Err-clause-refused
returns-in-Err-clause-refused c =
    let few : stored_calls c.args.self.now < MOST_CALLS = subst (λ (u : LiveView). stored_calls u < MOST_CALLS) c.self.view_is (c.is_full.ensures.few c.if-is_full.false) in
    (c.inbox_agrees.ensures.0 c.if-not-inbox_agrees.false, few)

pub shut-requires-clause-port : goal.shut-requires-clause-port
shut-requires-clause-port c =
    let ds = c.self.inside.doors.items in
    let k = c.in-Some.k in
    let here : IsPlaceIn ds c.port.result k = subst (λ (u : List DoorView). IsPlaceIn u c.port.result k) c.as_slice.ensures.value c.in-Some.ensures in
    let own : IsPlaceIn ds c.args.inbox.now.port k = subst (λ (q : PortId). IsPlaceIn ds q k) c.port.ensures here in
    rw (← c.self.view_is) (port_seen ds k c.args.inbox.now.port own.0 own.1)
