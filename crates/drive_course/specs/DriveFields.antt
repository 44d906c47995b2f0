-- What a drive's lists are kept as.
use Rattle.std.specs.Prelude.{List}
use Rattle.bus_frame.specs.Frames.{CanFrame}
use Rattle.message_events.specs.declared.event.Event.{Event}
use Rattle.drive_course.specs.Joined.{joined}
use Rattle.drive_course.specs.declared.driven.FrameList.TheInside as frames
use Rattle.drive_course.specs.declared.driven.EventList.TheInside as events

abbrev pub frame_list_value : frames.Inside → List CanFrame
frame_list_value f = f.frames.items

abbrev pub event_list_value : events.Inside → List Event
event_list_value e = joined e.parts.items
