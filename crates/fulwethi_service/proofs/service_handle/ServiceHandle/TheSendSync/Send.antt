-- What a handle owns goes to another thread as a box does.
use denote.Param.Send.{IsSend, owning_send, struct_send, sendable}
use denote.RawPtr.{RawPtr}
use denote.Struct.Struct.{exits_of}
use denote.Struct.Owning.{shape, fields, to}
use Rattle.std.proofs.alloc.Global.TheSendSync as heap
use Rattle.std_alloc.proofs.SendSync.{quiet}
use Rattle.live_segment.specs.contracts.live.Live as Inner
use Rattle.live_segment.proofs.live.Live.TheSendSync as inner
use Rattle.c_parts.proofs.Boxes.{owned_goes}
use Rattle.fulwethi_service.specs.contracts.service_handle.ServiceHandle.{the_row, the_type}

pub send : IsSend the_row
send = let ps : IsSend RawPtr = search sendable in
    owning_send the_type (ps, (heap.the_field_send, tt)) (λ d. owned_goes Inner.the_row inner.the_send d.alloc d.ptr d.live)
    (λ k. quiet (to the_type) (exits_of k (fields the_type)) ((struct_send (shape the_type) (ps, (heap.the_field_send, tt))).leaving k))
