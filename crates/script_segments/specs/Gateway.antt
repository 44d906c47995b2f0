-- What the lines of a script set up for two segments and the relay between them, line by line.
use Rattle.std.specs.Prelude.{ℕ, ◌+◌, ◌==◌, List, [], ◌∷◌, Bool, ◌||◌, ◌&&◌, not, cond, Option, Some, None, Result, Ok, Err, if◌then◌else◌, option_map, is_some, codes}
use Rattle.std.specs.Str.{bytes_eq}
use Rattle.pgn_ids.specs.Address.{is_one}
use Rattle.pgn_ids.specs.declared.address.Address.{Address}
use Rattle.port_table.specs.declared.port.PortId.{PortId}
use Rattle.segment_law.specs.Told.{same_port}
use Rattle.segment_law.specs.declared.call.Call.{Call}
use Rattle.segment_law.specs.declared.call.Call.TheVariants as calls
use Rattle.segment_law.specs.declared.refusal.Refusal.{Refusal}
use Rattle.segment_law.specs.declared.refusal.Refusal.TheVariants.{NoSuchPort, NoSuchStation, SameStation}
use Rattle.stored_calls.specs.declared.stored.Stored.{Stored}
use Rattle.script_segments.specs.LiveView.{is_station_of}
use Rattle.live_record.specs.declared.calls.TheConstants.{MOST_CALLS}
use Rattle.script_commands.specs.Words.{words_of}
use Rattle.script_commands.specs.Values.{◌>>=◌}
use Rattle.script_commands.specs.Routes.{route_of}
use Rattle.script_commands.specs.declared.route.RouteWords.{RouteWords}
use Rattle.line_faults.specs.declared.fault.Fault.{Fault}
use Rattle.line_faults.specs.declared.fault.Fault.TheVariants.{NotAscii, UnknownCommand, NoStations}
use Rattle.line_faults.specs.declared.fault.LineError.{LineError}
use Rattle.script_commands.specs.Words.{is_ascii}
use Rattle.script_runs.specs.Reading as script
use Rattle.script_runs.specs.Reading.{Grammar, Planned, planned_by}
use Rattle.script_segments.specs.Plan as setup
use Rattle.script_segments.specs.Plan.{Plan, first_plan, refused_by, CallsBelow, plan_of}
use Rattle.script_segments.specs.declared.setup.Message.{Message}
use Rattle.script_segments.specs.declared.relay.gateway.Passage.{Passage}
use Rattle.script_segments.specs.declared.relay.gateway.Routing.{Routing}
use Rattle.script_segments.specs.declared.relay.gateway.Routing.TheVariants as routings
use Rattle.script_segments.specs.declared.relay.gateway.Gateway.{Gateway}

-- the first segment, once the second one is set up; the one that is set up now, which has the text of all refused lines; and the route
pub record Plans : Type 0 where
  pub before : Option Plan
  pub now : Plan
  pub routing : Routing

abbrev pub first_plans : Plans
first_plans = record { before = None; now = first_plan; routing = routings.NotYet }

abbrev pub plans_of : Gateway → Plans
plans_of g = record { before = option_map plan_of g.before; now = plan_of g.here; routing = g.routing }

abbrev pub Step : Type 0
Step = Result Plans Fault

abbrev pub text_of : Plans → List ℕ
text_of p = p.now.text

-- the plans after a step of the segment that is set up now
abbrev pub goes_on : Plans → setup.Step → Step
goes_on p (Ok q) = Ok (record p { now = q })
goes_on p (Err f) = Err f

abbrev pub obeyed_now : Plans → List (List ℕ) → Step
obeyed_now p words = goes_on p (setup.obeyed_words p.now words)

-- the second segment begins
abbrev pub with_second : Plans → Plans
with_second p = record { before = Some (record p.now { text = [] }); now = record first_plan { text = p.now.text }; routing = p.routing }

-- the PGN of the port of this id, by the call that opened it
abbrev pub pgn_asked : Call → Option ℕ
pgn_asked (calls.Open station pgn max_len) = Some pgn
pgn_asked _ = None

abbrev pub pgn_of_port : List PortId → List Stored → PortId → Option ℕ
pgn_of_port [] xs q = None
pgn_of_port (p ∷ ps) [] q = None
pgn_of_port (p ∷ ps) (x ∷ xs) q = cond (same_port p q) (pgn_asked x.call) (pgn_of_port ps xs q)

-- how many of the messages have this PGN, and are for this station or for all
abbrev pub count_to : (station : Address) → (pgn : ℕ) → List Message → ℕ
count_to a pgn [] = 0
count_to a pgn (m ∷ ms) = cond ((m.pgn == pgn) && ((m.to.0 == a.0) || (m.to.0 == 255))) 1 0 + count_to a pgn ms

-- a route that is refused leads nowhere
abbrev pub not_routed : Plans → Refusal → Step
not_routed p cause = goes_on (record p { routing = routings.Refused }) (refused_by p.now cause)

abbrev pub port_pgn : Plan → PortId → Option ℕ
port_pgn p q = elim p.made [ None ↦ None | Some m ↦ pgn_of_port p.ports m.1 q ]

-- no such port was opened; then no such station; then the station itself
abbrev pub led_by : (first : Plan) → List Address → RouteWords → Option ℕ → Result Passage Refusal
led_by first addresses w None = Err NoSuchPort
led_by first addresses w (Some pgn) =
    if not (is_station_of addresses w.from) || not (is_one w.to.0) then Err NoSuchStation
    else if w.from.0 == w.to.0 then Err SameStation
    else Ok (record { port = w.port; from = w.from; to = w.to; limit = count_to w.port.station pgn first.messages })

-- the passage of a route to stations of the second segment, or why there is none
abbrev pub passage_of : (first : Plan) → List Address → RouteWords → Result Passage Refusal
passage_of first addresses w = led_by first addresses w (port_pgn first w.port)

abbrev pub routed : Plans → Result Passage Refusal → Step
routed p (Ok passage) = Ok (record p { routing = routings.To passage })
routed p (Err cause) = not_routed p cause

abbrev pub route_by : Plans → (first : Plan) → RouteWords → Step
route_by p first w = elim p.now.made [
  | None ↦ Err NoStations
  | Some m ↦ routed p (passage_of first m.0 w)
]

abbrev pub routed_by : Plans → List (List ℕ) → Step
routed_by p words = elim p.before [
  | None ↦ Err UnknownCommand
  | Some first ↦ route_of words >>= (λ w. route_by p first w)
]

-- a line of stations behind a segment that is made begins the second segment
abbrev pub begins_second : Plans → List ℕ → Bool
begins_second p name = bytes_eq name (codes "stations") && (is_some p.now.made && not (is_some p.before))

-- the second segment sends what the relay submits, and nothing else
abbrev pub is_out_of_order : Plans → List ℕ → Bool
is_out_of_order p name = bytes_eq name (codes "send") && is_some p.before

-- a line of this name, in its order
abbrev pub placed_by : Plans → (name : List ℕ) → (words : List (List ℕ)) → Step
placed_by p name words =
    if is_out_of_order p name then Err UnknownCommand
    else if begins_second p name then obeyed_now (with_second p) words
    else obeyed_now p words

abbrev pub named_by : Plans → (name : List ℕ) → (rest : List (List ℕ)) → Step
named_by p name rest = if bytes_eq name (codes "route") then routed_by p rest else placed_by p name (name ∷ rest)

-- nothing may follow the route
abbrev pub ordered_by : Plans → Routing → List ℕ → List (List ℕ) → Step
ordered_by p routings.NotYet name words = named_by p name words
ordered_by p routings.Refused name words = Err UnknownCommand
ordered_by p (routings.To passage) name words = Err UnknownCommand

-- a line without a word is passed over
unfoldable pub obeyed_words : Plans → List (List ℕ) → Step
obeyed_words p [] = Ok p
obeyed_words p (name ∷ words) = ordered_by p p.routing name words

unfoldable pub obeyed_line : Plans → List ℕ → Step
obeyed_line p text = if is_ascii text then obeyed_words p (words_of text) else Err NotAscii

-- the passage of a route that leads somewhere
abbrev pub passage_in : Routing → Option Passage
passage_in routings.NotYet = None
passage_in routings.Refused = None
passage_in (routings.To passage) = Some passage

-- a script has two segments
abbrev pub ends : Plans → Option Fault
ends p = if is_some p.before && is_some p.now.made then None else Some NoStations

abbrev pub grammar : Grammar Plans
grammar = record { step = obeyed_line; ends = ends; text = text_of }

abbrev pub planned : List ℕ → Planned Plans
planned script = planned_by grammar first_plans script

-- How the code obeyed a line

abbrev pub Done : Result (Unit {0}) LineError → Plans → Plans → Step → Type 0
Done result p q step = script.Done text_of result p q step

-- fewer calls are stored than lines up to line n may store
abbrev pub HasRoom : Plans → ℕ → Type 0
HasRoom p n = CallsBelow p.now.made n

-- there are so few calls that one more can be made
abbrev pub FewCalls : Plans → Type 0
FewCalls p = HasRoom p MOST_CALLS
