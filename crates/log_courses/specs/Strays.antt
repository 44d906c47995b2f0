-- What is left of a frame whose message isn't under way.
use Rattle.std.specs.Prelude.{Bool, if◌then◌else◌, Option, Some, None}
use Rattle.bus_frame.specs.Frames.{CanFrame}
use Rattle.log_fields.specs.declared.iface.Iface.{Iface}
use Rattle.log_reports.specs.declared.stray.Stray.{Stray}
use Rattle.log_reports.specs.declared.stray.Stray.TheVariants.{Packet, Window, Acknowledgement}
use Rattle.log_courses.specs.Awaited.{Awaited, met}

-- an end acknowledgement of the message that was given last belongs to that message
abbrev pub kept_unless : Awaited × Bool → Awaited × Option Stray
kept_unless m = (m.0, if m.1 then None else Some Acknowledgement)

abbrev pub stray_left : Option Stray → Iface → CanFrame → Awaited → Awaited × Option Stray
stray_left None iface frame awaited = (awaited, None)
stray_left (Some Packet) iface frame awaited = (awaited, Some Packet)
stray_left (Some Window) iface frame awaited = (awaited, Some Window)
stray_left (Some Acknowledgement) iface frame awaited = kept_unless (met iface frame awaited)
