-- What of a log is drawn.
use Rattle.std.specs.Prelude.{ℕ, ◌-◌, ◌^◌, Bool, true, ◌&&◌, ◌||◌, ◌==◌, nat_le, if◌then◌else◌, Option, Some, None, is_none, unwrap_or}
use Rattle.bus_frame.specs.Frames.{CanFrame}
use Rattle.pgn_ids.specs.Identifier.{meaning_of}
use Rattle.pgn_ids.specs.declared.address.Address.{Address}
use Rattle.tp_wire.specs.Reading.{is_transport}
use Rattle.log_drawing.specs.declared.options.Options.{Options}
use Rattle.log_drawing.specs.declared.options.Pair.{Pair}

-- whether a frame goes from one of the pair to the other, or to all
abbrev pub is_between : Pair → (from to : Address) → Bool
is_between pair from to =
    if from.0 == pair.first.0 then to.0 == pair.second.0 || to.0 == 255
    else from.0 == pair.second.0 && (to.0 == pair.first.0 || to.0 == 255)

-- whether a frame belongs to the pair that is named; each does if none is named
abbrev pub is_of_pair : Options → CanFrame → Bool
is_of_pair options frame = elim options.pair [ None ↦ true | Some pair ↦ is_between pair (meaning_of frame.id).from (meaning_of frame.id).to ]

-- whether a time is neither before the first one named nor behind the second; a frame without a time passes if neither is named
abbrev pub is_within : Options → Option ℕ → Bool
is_within options None = is_none options.from && is_none options.to
is_within options (Some time) = nat_le (unwrap_or options.from 0) time && nat_le time (unwrap_or options.to (2 ^ 64 - 1))

-- a frame of a transport, a Request or an Acknowledgement, or any that is asked for
abbrev pub is_wanted : Options → Option ℕ → CanFrame → Bool
is_wanted options time frame = is_within options time && is_of_pair options frame && (options.others || is_transport frame)
