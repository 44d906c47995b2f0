-- How a lane settles: the PGNs that it asks for in turn (SAE J1939-21, Request and Acknowledgement), and how often.
use Rattle.std.specs.Prelude.{ℕ, Bool, ◌==◌}
use Rattle.bus_frame.specs.Frames.{CanFrame}
use Rattle.pgn_ids.specs.Pgn.{clean}
use Rattle.tick_timers.specs.declared.durations.TheConstants.{PROBE}
use Rattle.tp_wire.specs.declared.wire.Wire.TheVariants.{Request}
use Rattle.tp_wire.specs.declared.constants.TheConstants.{TP_CM, TP_DT}
use Rattle.tp_wire.specs.Rows.{written}
use Rattle.originator.specs.Readers.{started}
use Rattle.lane_core.specs.declared.probe.Token.TheVariants.{ConnectionManagement, DataTransfer}
use Rattle.lane_core.specs.Step.{LaneStep, says}
use Rattle.lane_core.specs.declared.probe.Standing.TheVariants.{Probing}
use Rattle.lane_core.specs.declared.probe.Token.{Token}
use Rattle.lane_core.specs.Lane.{Lane}

-- the PGN of each token
abbrev pub token_pgn : Token → ℕ
token_pgn ConnectionManagement = TP_CM
token_pgn DataTransfer = TP_DT

-- the token of the next round
abbrev pub other_token : Token → Token
other_token ConnectionManagement = DataTransfer
other_token DataTransfer = ConnectionManagement

-- a PGN field names the token
abbrev pub is_token : Token → ℕ → Bool
is_token token field = clean field == token_pgn token

-- how often a lane asks in one round
abbrev pub most_requests : ℕ
most_requests = 3

-- the Request for the lane's token
abbrev pub request_frame : Lane → CanFrame
request_frame lane = written (Request (token_pgn lane.token)) lane.from lane.to

-- the lane asks for its token, for the count-th time
abbrev pub probes : Lane → (count now : ℕ) → Lane × LaneStep
probes lane count now = (record lane { standing = Probing count (started now PROBE) }, says (request_frame lane))
