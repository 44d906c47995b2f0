-- The message that a frame or a report belongs to.
use Rattle.std.specs.Prelude.{List, [], ◌∷◌, Bool, false, filter, Some, None}
use Rattle.std.specs.List.{list_any}
use Rattle.bus_frame.specs.Frames.{CanFrame}
use Rattle.log_fields.specs.declared.iface.Iface.{Iface}
use Rattle.tp_wire.specs.Reading.{reading}
use Rattle.tp_wire.specs.declared.wire.Kind.TheVariants.{Tp, Etp}
use Rattle.tp_wire.specs.declared.wire.CmFrame.{CmFrame}
use Rattle.tp_wire.specs.declared.wire.CmFrame.TheVariants as frames
use Rattle.tp_wire.specs.declared.wire.Wire.{Wire}
use Rattle.tp_wire.specs.declared.wire.Wire.TheVariants.{Cm, Packet, Request, Ack}
use Rattle.log_reports.specs.Keys.{same_key}
use Rattle.log_decode.specs.Ways.{key_of, key_back}
use Rattle.log_reports.specs.declared.key.Key.{Key}
use Rattle.log_decode.specs.declared.way.Way.{Way}
use Rattle.log_reports.specs.declared.told.Told.{Told}
use Rattle.log_reports.specs.Told.{key_told}

-- RTS, BAM and DPO go from the sender of a message to its destination, CTS and the end acknowledgement go back, and an abort may
-- be from either end
abbrev pub keys_of_cm : Way → CmFrame → List Key
keys_of_cm way (frames.Rts size packets window pgn) = key_of way Tp ∷ []
keys_of_cm way (frames.Cts granted next pgn) = key_back way Tp ∷ []
keys_of_cm way (frames.EndOfMsgAck size packets pgn) = key_back way Tp ∷ []
keys_of_cm way (frames.Bam size packets pgn) = key_of way Tp ∷ []
keys_of_cm way (frames.Abort reason pgn) = key_of way Tp ∷ key_back way Tp ∷ []
keys_of_cm way (frames.EtpRts size pgn) = key_of way Etp ∷ []
keys_of_cm way (frames.EtpCts granted next pgn) = key_back way Etp ∷ []
keys_of_cm way (frames.EtpDpo packets offset pgn) = key_of way Etp ∷ []
keys_of_cm way (frames.EtpEoma size pgn) = key_back way Etp ∷ []
keys_of_cm way (frames.EtpAbort reason pgn) = key_of way Etp ∷ key_back way Etp ∷ []

-- packets go from its sender to its destination, and other frames belong to no message
abbrev pub keys_of : Way → Wire → List Key
keys_of way (Cm frame) = keys_of_cm way frame
keys_of way (Packet kind sequence bytes) = key_of way kind ∷ []
keys_of way (Request pgn) = []
keys_of way (Ack control address pgn) = []

-- whether a frame on an interface belongs to the message of this key
abbrev pub is_frame_of : Key → Iface → CanFrame → Bool
is_frame_of key iface frame = elim (reading frame) [ None ↦ false | Some r ↦ list_any (same_key key) (keys_of (record { iface = iface; from = r.1; to = r.2 }) r.0) ]

-- the reports on the messages of this key
abbrev pub told_of_key : Key → List Told → List Told
told_of_key key told = filter (λ t. same_key key (key_told t)) told
