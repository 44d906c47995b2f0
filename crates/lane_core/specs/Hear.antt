-- What a lane does with a frame of its destination (SAE J1939-21; ISO 11783-3).
use Rattle.std.specs.Prelude.{ℕ, if◌then◌else◌}
use Rattle.tp_wire.specs.declared.wire.CmFrame.TheVariants.{Abort, EtpAbort}
use Rattle.tp_wire.specs.declared.wire.Wire.TheVariants.{Cm}
use Rattle.tp_wire.specs.declared.wire.Kind.TheVariants.{Etp, Tp}
use Rattle.tp_wire.specs.declared.wire.Kind.{Kind}
use Rattle.tp_wire.specs.declared.wire.Wire.{Wire}
use Rattle.originator.specs.declared.states.Stepped.TheVariants.{On, Over}
use Rattle.originator.specs.declared.states.OutState.{OutState}
use Rattle.originator.specs.declared.states.Stepped.{Stepped}
use Rattle.originator.specs.Endings.{aborted}
use Rattle.originator.specs.Readers.{is_of}
use Rattle.originator.specs.Step.{stepped}
use Rattle.lane_core.specs.declared.place.UnderWay.TheVariants.{Connection}
use Rattle.lane_core.specs.Step.{LaneStep}
use Rattle.lane_core.specs.declared.place.UnderWay.{UnderWay}
use Rattle.lane_core.specs.Lane.{Lane}
use Rattle.lane_core.specs.Endings.{after_step, still}

-- an abort of the connection's transport and PGN ends it
abbrev pub abort_heard : OutState → Kind → (reason pgn : ℕ) → Stepped
abort_heard s kind reason pgn = if is_of s kind pgn then Over (aborted reason) else On s

-- a frame of the destination: an abort, else what the sender's table says
abbrev pub connection_heard : OutState → Wire → (now : ℕ) → Stepped
connection_heard s (Cm (Abort reason pgn)) now = abort_heard s Tp reason pgn
connection_heard s (Cm (EtpAbort reason pgn)) now = abort_heard s Etp reason pgn
connection_heard s wire now = stepped s wire now

abbrev pub heard_by : UnderWay → Lane → Wire → (now : ℕ) → Lane × LaneStep
heard_by (Connection s) lane wire now = after_step lane (connection_heard s wire now)
heard_by _ lane wire now = still lane

abbrev pub heard : Lane → Wire → (now : ℕ) → Lane × LaneStep
heard lane wire now = heard_by lane.under_way lane wire now
