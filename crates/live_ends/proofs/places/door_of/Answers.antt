use Rattle.std.proofs.Common.{◌≡◌, ◌<◌, length, get_or, false, sym, ap, ◌∙◌, arith, add-one}
use Rattle.port_table.specs.declared.port.PortId.{PortId}
use Rattle.segment_law.specs.Told.{same_port}
use Rattle.segment_rings.specs.Views.{DoorView}
use Rattle.live_ends.proofs.Giving.{none_more, same_port-sym}
use Rattle.live_ends.proofs.places.door_of.Goals as goal

pub loop-k-preserved : goal.loop-k-preserved
loop-k-preserved c =
    let d = c.index-doors-k.result in
    let l : c.loop-k.k < length c.args.doors.now = omega arith in
    let p : c.port.result ≡ (get_or c.args.doors.now c.loop-k.k d).port = c.port.ensures ∙ ap (λ (x : DoorView). x.port) c.index-doors-k.is in
    let apart : same_port c.port.result c.args.port ≡ false = sym c.eq.ensures ∙ c.if-eq.false in
    let apart' : same_port (get_or c.args.doors.now c.loop-k.k d).port c.args.port ≡ false = ap (λ (x : PortId). same_port x c.args.port) (sym p) ∙ apart in
    rw add-one (none_more c.args.port c.args.doors.now c.loop-k.k d l (same_port-sym (get_or c.args.doors.now c.loop-k.k d).port c.args.port apart') c.loop-k.invariant)
