-- The frames of a log that belong to no message.
use Rattle.std.specs.Prelude.{ℕ, List, ◌++◌, codes, Option, Some, None}
use Rattle.std.specs.Fmt.{decimal}
use Rattle.log_courses.specs.Course.{more}
use Rattle.log_reports.specs.declared.stray.Stray.{Stray}
use Rattle.log_reports.specs.declared.stray.Stray.TheVariants.{Packet, Window, Acknowledgement}
use Rattle.bus_decode.specs.declared.strays.Strays.{Strays}

abbrev pub no_strays : Strays
no_strays = record { packets = 0; windows = 0; acknowledgements = 0 }

-- a frame that belongs to no message counts by its kind
abbrev pub with_stray : Option Stray → Strays → Strays
with_stray None s = s
with_stray (Some Packet) s = record s { packets = more s.packets }
with_stray (Some Window) s = record s { windows = more s.windows }
with_stray (Some Acknowledgement) s = record s { acknowledgements = more s.acknowledgements }

abbrev pub number_text : (name : List ℕ) → ℕ → List ℕ
number_text name n = name ++ decimal n

abbrev pub parts_text : Strays → List ℕ
parts_text s = codes "stray packets " ++ decimal s.packets ++ codes " windows " ++ decimal s.windows

abbrev pub ends_text : Strays → List ℕ
ends_text s = codes " acknowledgements " ++ decimal s.acknowledgements

-- each number behind its name
abbrev pub strays_text : Strays → List ℕ
strays_text s = parts_text s ++ ends_text s
