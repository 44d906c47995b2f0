use Rattle.bus_decode.proofs.FrameSteps.{frame_done}
use Rattle.bus_decode.proofs.listening.take_frame.Goals as goal

pub returns : goal.returns
returns c =
    let told = rw c.new-told.ensures.items at c.in_ok-seen.ensures.told in
    frame_done c.put_other.result _ _ _ _ _ _ c.take.new.told.items _ _ _ _ _ _ c.tell_frame.new.out.items _ told
    (rw c.in_ok-seen.ensures.stray at c.in_ok-left.ensures)
    (rw (c.add_stray.ensures, c.add_frame.ensures, c.time_on.ensures, c.as_slice-2.ensures.value) at c.add_each-2.ensures)
    (rw c.as_slice.ensures.value at c.in_ok-add_each.ensures)
    (rw (c.time-now.ensures, c.as_slice-3.ensures.value) at c.in_ok-tell_frame.ensures.text)
    (rw (c.time-now.ensures, c.as_slice-3.ensures.value) at c.in_ok-tell_frame.ensures.followed)
    (rw c.time-now.ensures at c.put_other.ensures)
