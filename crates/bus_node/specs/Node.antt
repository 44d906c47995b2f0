-- A node: one station on a real bus, and the text of its calls.
use Rattle.std.specs.Prelude.{◌≡◌, ℕ, ◌<◌, Bool, true, false, List, [], ◌++◌, length, Option, None}
use Rattle.pgn_ids.specs.declared.address.Address.{Address}
use Rattle.log_fields.specs.declared.iface.Iface.{Iface}
use Rattle.segment_law.specs.Calls.{applied}
use Rattle.segment_law.specs.declared.call.Call.{Call}
use Rattle.script_text.specs.Replies.{reply_line, event_lines}
use Rattle.one_station.specs.Node.{Node as Station, new_node as new_station, again_node as again_station, makes}
use Rattle.node_parts.specs.Rests.{no_rests, rest_end, rested}
use Rattle.node_parts.specs.Echoes.{Echoes, no_echoes}
use Rattle.bus_node.specs.LineCounts.{no_lines}
use Rattle.bus_node.specs.declared.line_counts.LineCounts.{LineCounts}

-- the station; the interface that its frames are shown on, and whether that was named or a frame of it was shown; whether a frame of
-- another one was reported; for how many ticks a destination rests after a connection to it failed; for each destination the tick until
-- which it rests; the tick from which the time counts, and the time of that tick in microseconds; what it remembers of the
-- frames that it put; whether a wrong line ends the run; how many lines were read; and the text of the line so far
pub record Node : Type 0 where
  pub station : Station
  pub iface : Iface
  pub knows_iface : Bool
  pub knows_other : Bool
  pub quiet : ℕ
  pub rests : List ℕ
  pub since : ℕ
  pub start : Option ℕ
  pub echoes : Echoes
  pub strict : Bool
  pub counts : LineCounts
  pub text : List ℕ

-- nothing was done yet
abbrev pub node_with : Station → Iface → (quiet : ℕ) → Node
node_with station iface quiet = record { station = station; iface = iface; knows_iface = true; knows_other = false; quiet = quiet; rests = no_rests; since = 0; start = None; echoes = no_echoes; strict = false; counts = no_lines; text = [] }

abbrev pub new_node : Address → Iface → (quiet : ℕ) → Node
new_node address iface quiet = node_with (new_station address) iface quiet

-- the program started again
abbrev pub again_node : Address → Iface → (quiet : ℕ) → Node
again_node address iface quiet = node_with (again_station address 0) iface quiet

abbrev pub told : Node → List ℕ → Node
told n text = record n { text = n.text ++ text }

-- the tick until which a destination rests whose connection fails now
abbrev pub rests_until : Node → ℕ
rests_until n = rest_end n.station.segment.now n.quiet

-- the station's events are printed, a line each, and the destinations of connections that failed rest
abbrev pub events_told : Node → Node
events_told n = record n { station = record n.station { events = [] }; rests = rested (rests_until n) n.rests n.station.events; text = n.text ++ event_lines n.station.events }

-- the station did something, and its events are printed
abbrev pub with_station : Node → Station → Node
with_station n station = events_told (record n { station = station })

-- a call is made on the station
unfoldable pub called : Node → Call → Node
called n call = with_station n (makes n.station call)

-- a command did something with the station: the reply is printed, and then the events
abbrev pub answered : Node → Station → (reply : List ℕ) → Node
answered n station reply = events_told (told (record n { station = station }) reply)

-- a command makes a call
unfoldable pub asked : Node → Call → Node
asked n call = answered n (makes n.station call) (reply_line (applied n.station.segment call).1)

-- How the code prints the station's events

-- the first event was printed, and printing the rest leads to the same node; or there was none
abbrev pub HasToldFirst : Bool → (before after : Node) → Type 0
HasToldFirst true before after = (events_told after ≡ events_told before) × (length after.station.events < length before.station.events)
HasToldFirst false before after = after ≡ events_told before
