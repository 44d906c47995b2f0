-- The codes of answers.
use Rattle.std.specs.Prelude.{ℕ, Option, Some, None, Result, Ok, Err}
use Rattle.segment_law.specs.Refusals.{refusal_number}
use Rattle.segment_law.specs.declared.refusal.Refusal.{Refusal}
use Rattle.segment_core.specs.declared.segment.NewRefused.{NewRefused}
use Rattle.segment_core.specs.declared.segment.NewRefused.TheVariants as made
use Rattle.bus_frame.specs.Frames.{CanFrame}
use Rattle.c_parts.specs.Codes.{value_code}
use Rattle.one_station.specs.declared.error.NodeError.{NodeError}
use Rattle.one_station.specs.declared.error.NodeError.TheVariants.{Refused, ClockPassed, Starting, OutOfMemory}
use Rattle.one_station.specs.declared.error.Fed.{Fed}
use Rattle.one_station.specs.declared.error.Fed.TheVariants.{Taken, WithoutRoom, PassedBy}
use Rattle.one_station.specs.declared.error.Missed.{Missed}
use Rattle.one_station.specs.declared.error.Missed.TheVariants as missed
use Rattle.node_parts.specs.declared.told.TakeError.{TakeError}
use Rattle.node_parts.specs.declared.told.TakeError.TheVariants.{Nothing, TooLittleRoom}

abbrev pub error_code : NodeError → ℕ
error_code (Refused cause) = refusal_number cause
error_code ClockPassed = 67
error_code (Starting tick) = 77
error_code OutOfMemory = 64

-- the code of a call's refusal, if it would be refused
abbrev pub refusal_code : Option Refusal → ℕ
refusal_code None = 0
refusal_code (Some cause) = refusal_number cause

abbrev pub done_code : Result (Unit {0}) NodeError → ℕ
done_code = value_code error_code

abbrev pub fed_code : Result Fed NodeError → ℕ
fed_code (Ok Taken) = 0
fed_code (Ok WithoutRoom) = 70
fed_code (Ok PassedBy) = 71
fed_code (Err error) = error_code error

abbrev pub missed_code : Missed → ℕ
missed_code missed.Ended = 0
missed_code missed.Waits = 72

abbrev pub taken_code : Result ℕ TakeError → ℕ
taken_code (Ok len) = 0
taken_code (Err Nothing) = 65
taken_code (Err (TooLittleRoom len)) = 68

abbrev pub front_code : Result (Option CanFrame) NodeError → ℕ
front_code (Ok (Some frame)) = 0
front_code (Ok None) = 65
front_code (Err error) = error_code error

abbrev pub new_code : Result (Unit {0}) NewRefused → ℕ
new_code (Ok _) = 0
new_code (Err made.BadAddresses) = 13
new_code (Err made.OutOfMemory) = 64
