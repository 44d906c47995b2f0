-- The handle and the parts own what a box at the same types owns.
use denote.Signature.{Slot, plain}
use Rattle.std_alloc.proofs.BoxSteps.Form.{Bx}
use Rattle.live_segment.specs.contracts.live.Live as Inner
use Rattle.live_segment.proofs.live.Live.TheLaws as inner
use Rattle.c_parts.proofs.Boxes.{box_of, parts_of}
use Rattle.fulwethi_service.specs.contracts.service_handle.ServiceHandle as Handle

abbrev pub E : Bx
E = box_of Inner.the_row inner.the_row_laws

abbrev pub FromParts : Slot 0
FromParts = parts_of Inner.the_row

abbrev pub FromHandle : Slot 0
FromHandle = plain (λ _. Handle.the_row)
