-- What each line of a log draws.
use Rattle.std.specs.Prelude.{ℕ, List, [], ◌∷◌, ◌++◌, codes, flat_map, Bool, false, ◌&&◌, not, ◌==◌, if◌then◌else◌, Option, Some, None}
use Rattle.std.specs.Str.{bytes_eq}
use Rattle.std.specs.Fmt.{decimal}
use Rattle.bus_frame.specs.Frames.{CanFrame}
use Rattle.frame_arrows.specs.Opening.{heading, participant_line}
use Rattle.log_fields.specs.Iface.{name_of}
use Rattle.log_text.specs.Reading.{form_of, line_as}
use Rattle.log_text.specs.declared.reading.Form.{Form}
use Rattle.log_fields.specs.declared.iface.Iface.{Iface}
use Rattle.log_text.specs.declared.line.LogLine.{LogLine}
use Rattle.log_text.specs.declared.line.LogLine.TheVariants.{Frame, Passed}
use Rattle.log_drawing.specs.Options.{is_wanted}
use Rattle.log_drawing.specs.Counts.{no_counts, more}
use Rattle.log_drawing.specs.Packets.{drawn_at, open_after}
use Rattle.log_drawing.specs.declared.options.Options.{Options}
use Rattle.log_drawing.specs.declared.options.Pair.{Pair}
use Rattle.log_drawing.specs.declared.picture.Picture.{Picture}

-- a number between texts
unfoldable pub between_texts : List ℕ → ℕ → List ℕ → List ℕ
between_texts before n behind = before ++ decimal n ++ behind

-- a wrong line, by its number
abbrev pub wrong_line : ℕ → List ℕ
wrong_line n = between_texts (codes "line ") n (codes ": not a log line\n")

-- the pair that is named
abbrev pub participants : Option Pair → List ℕ
participants None = []
participants (Some pair) = flat_map participant_line (pair.first ∷ pair.second ∷ [])

-- the text in front of the first frame that is drawn: the kind of the drawing, and the pair
abbrev pub beginning : Options → (drawn : ℕ) → List ℕ
beginning options drawn = if drawn == 0 then heading ++ participants options.pair else []

-- nothing was drawn
abbrev pub first_picture : Options → Picture
first_picture options = record { form = None; iface = options.iface; packets = None; counts = no_counts }

-- interfaces are equal if their names are
abbrev pub same_iface : Iface → Iface → Bool
same_iface a b = bytes_eq (name_of a) (name_of b)

-- whether an interface is another than the one whose frames are drawn, which is known
abbrev pub is_elsewhere : Picture → Iface → Bool
is_elsewhere s iface = elim s.iface [ None ↦ false | Some known ↦ not (same_iface iface known) ]

-- a wrong line ends the drawing if the options say so
abbrev pub is_ended : Options → Picture → Bool
is_ended options s = options.strict && not (s.counts.wrong == 0)

-- a frame that is asked for is drawn, unless another interface shows it
abbrev pub with_frame : Options → Picture → Option ℕ → Iface → CanFrame → Picture × List ℕ
with_frame options s time iface frame =
    if is_elsewhere s iface then (record s { counts = record s.counts { elsewhere = more s.counts.elsewhere } }, [])
    else (record s { iface = Some iface; packets = open_after s.packets time frame; counts = record s.counts { drawn = more s.counts.drawn } }, beginning options s.counts.drawn ++ drawn_at s.packets time frame)

abbrev pub frame_counted : Picture → Picture
frame_counted s = record s { counts = record s.counts { frames = more s.counts.frames } }

abbrev pub frame_seen : Options → Picture → Option ℕ → Iface → CanFrame → Picture × List ℕ
frame_seen options s time iface frame = if is_wanted options time frame then with_frame options s time iface frame else (s, [])

unfoldable pub shown_seen : Options → Picture → LogLine → Picture × List ℕ
shown_seen options s Passed = (record s { counts = record s.counts { passed = more s.counts.passed } }, [])
shown_seen options s (Frame time iface frame) = frame_seen options (frame_counted s) time iface frame

-- the form of a log is that of its first line that has one
abbrev pub form_with : Option Form → List ℕ → Option Form
form_with None line = form_of line
form_with (Some form) line = Some form

-- the state after a line, what it draws, and its line on standard error
pub record Step : Type 0 where
  pub left : Picture
  pub text : List ℕ
  pub errors : List ℕ

abbrev pub wrong_seen : Picture → ℕ → Step
wrong_seen s n = record { left = record s { counts = record s.counts { wrong = more s.counts.wrong } }; text = []; errors = wrong_line n }

abbrev pub shown_step : Picture × List ℕ → Step
shown_step t = record { left = t.0; text = t.1; errors = [] }

-- line n of a log whose form is known, or which has none yet
abbrev pub seen_as : Options → Picture → ℕ → List ℕ → Step
seen_as options s n line = elim (line_as s.form line) [ None ↦ wrong_seen s n | Some shown ↦ shown_step (shown_seen options s shown) ]

unfoldable pub line_seen : Options → Picture → ℕ → List ℕ → Step
line_seen options s n line = seen_as options (record s { form = form_with s.form line; counts = record s.counts { lines = more s.counts.lines } }) n line
