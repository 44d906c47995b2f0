-- What the station does by itself: it learns of missed frames, is given frames, and puts its own.
use Rattle.std.specs.Prelude.{if◌then◌else◌, [], ◌∷◌, Option, Some, None}
use Rattle.bus_frame.specs.Frames.{CanFrame}
use Rattle.segment_law.specs.declared.call.Call.TheVariants.{Transmit, Inject}
use Rattle.one_station.specs.Node.{Node as Station, makes, makes_all}
use Rattle.one_station.specs.Answers.{caught_up, overruns, looks, feed_refusal, sent_refusal}
use Rattle.one_station.specs.declared.error.NodeError.{NodeError}

-- frames were missed: what is under way ends
abbrev pub missed : Station → Station
missed s = makes (caught_up s) (overruns s)

-- if missed frames are remembered, what is under way ends before a frame is heard or put
abbrev pub ready : Station → Station
ready s = if s.has_missed then missed s else s

-- the first frame of the queue is put, and the station passes it by; if there is none, nothing is done
abbrev pub sent_by : Station → Option NodeError → Station
sent_by s None = makes_all s (Transmit s.address ∷ looks s ∷ [])
sent_by s (Some error) = s

abbrev pub sent : Station → Station
sent s = sent_by s (sent_refusal s)

-- the station takes a frame of another node; one that it isn't fed, since its transmit queue has no place for an answer, is missed
abbrev pub fed_by : Station → CanFrame → Option NodeError → Station
fed_by s frame None = makes_all s (Inject frame ∷ looks s ∷ [])
fed_by s frame (Some error) = missed s

abbrev pub fed : Station → CanFrame → Station
fed s frame = fed_by s frame (feed_refusal s frame)
