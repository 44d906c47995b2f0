-- The lines that are written of frames, read in a log of their form.
use Rattle.std.specs.Prelude.{◌≡◌, ℕ, ◌<◌, ◌^◌, List, Some}
use Rattle.bus_frame.specs.Frames.{CanFrame}
use Rattle.log_fields.specs.Iface.{iface_of}
use Rattle.log_text.specs.Reading.{form_of, line_as}
use Rattle.log_text.specs.Written.{log_text, IsFrame}
use Rattle.log_fields.specs.declared.iface.Iface.{Iface}
use Rattle.log_text.specs.declared.line.LogLine.TheVariants.{Frame}
use Rattle.log_text.specs.declared.reading.Form.TheVariants.{Timed}

-- each has the form of a log with times
abbrev pub LinesHaveForm : Type 0
LinesHaveForm = (time : ℕ) (name : List ℕ) (iface : Iface) (f : CanFrame) → iface_of name ≡ Some iface → form_of (log_text time iface f) ≡ Some Timed

-- in such a log each line is read as its frame, at its time on its interface
abbrev pub LinesAreReadInForm : Type 0
LinesAreReadInForm = (time : ℕ) (name : List ℕ) (iface : Iface) (f : CanFrame) → time < 2 ^ 64 → iface_of name ≡ Some iface → IsFrame f
    → line_as (Some Timed) (log_text time iface f) ≡ Some (Frame (Some time) iface f)
