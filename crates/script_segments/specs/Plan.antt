-- What the lines of a script set up, line by line.
use Rattle.std.specs.Prelude.{ℕ, ◌+◌, ◌<◌, List, [], ◌∷◌, ◌++◌, length, Bool, true, false, ◌||◌, Option, Some, None, Result, Ok, Err, nat_lt, if◌then◌else◌, option_map, map, codes}
use Rattle.std.specs.Str.{bytes_eq}
use Rattle.pgn_ids.specs.declared.address.Address.{Address}
use Rattle.port_table.specs.declared.port.PortId.{PortId}
use Rattle.segment_law.specs.Segment.{are_addresses}
use Rattle.segment_law.specs.declared.call.Call.{Call}
use Rattle.segment_law.specs.declared.call.Call.TheVariants as calls
use Rattle.segment_law.specs.declared.refusal.Refusal.{Refusal}
use Rattle.segment_law.specs.declared.refusal.Refusal.TheVariants.{BadAddresses, NoSuchStation}
use Rattle.segment_law.specs.declared.reply.Reply.{Reply}
use Rattle.segment_law.specs.declared.reply.Reply.TheVariants.{Opened, Sent, Refused, Done as Told}
use Rattle.live_record.specs.Replies.{reply_of}
use Rattle.segment_rings.specs.Ends.{InboxEnd}
use Rattle.segment_rings.specs.Submitting.{submit_refusal}
use Rattle.stored_calls.specs.declared.stored.Stored.{Stored}
use Rattle.live_record.specs.Record.{trail}
use Rattle.live_segment.specs.LiveView.{LiveView, is_station_of}
use Rattle.live_record.specs.Record.{stored}
use Rattle.live_record.specs.declared.calls.TheConstants.{MOST_CALLS}
use Rattle.script_commands.specs.Words.{words_of}
use Rattle.script_commands.specs.Values.{◌>>=◌}
use Rattle.script_commands.specs.Commands.{command_of}
use Rattle.line_faults.specs.declared.fault.Fault.{Fault}
use Rattle.line_faults.specs.declared.fault.Fault.TheVariants.{NotAscii, UnknownCommand, BadWord, NoStations, StationsTwice}
use Rattle.line_faults.specs.declared.fault.LineError.{LineError}
use Rattle.script_commands.specs.declared.command.Command.{Command}
use Rattle.script_commands.specs.declared.command.Command.TheVariants as commands
use Rattle.script_commands.specs.Words.{is_ascii}
use Rattle.script_text.specs.Parts.{line}
use Rattle.script_text.specs.Replies.{refusal_text}
use Rattle.script_runs.specs.Reading as script
use Rattle.script_segments.specs.declared.setup.Message.{Message}
use Rattle.script_segments.specs.declared.setup.Setup.{Setup}

-- the stations and the calls that opened ports, once there are stations; the ports opened; how many lines asked for a message; the
-- messages; and the text of refused lines
pub record Plan : Type 0 where
  pub made : Option (List Address × List Stored)
  pub ports : List PortId
  pub sends : ℕ
  pub messages : List Message
  pub text : List ℕ

abbrev pub text_of : Plan → List ℕ
text_of p = p.text

abbrev pub first_plan : Plan
first_plan = record { made = None; ports = []; sends = 0; messages = []; text = [] }

abbrev pub record_of : LiveView → List Address × List Stored
record_of v = (v.addresses, v.calls)

abbrev pub port_of : InboxEnd → PortId
port_of i = i.port

abbrev pub plan_of : Setup → Plan
plan_of s = record { made = option_map record_of s.live; ports = map port_of s.inboxes.items; sends = s.sends; messages = s.messages.items; text = s.refused.items }

abbrev pub Step : Type 0
Step = Result Plan Fault

abbrev pub refused_by : Plan → Refusal → Step
refused_by p cause = Ok (record p { text = p.text ++ line (refusal_text cause) })

-- the stations are made: at most eight, once
abbrev pub made_by : Plan → List Address → Step
made_by p addresses =
    if nat_lt 8 (length addresses) then Err BadWord
    else elim p.made [
      | None ↦ if are_addresses addresses then Ok (record p { made = Some (addresses, []) }) else refused_by p BadAddresses
      | Some m ↦ Err StationsTwice
    ]

-- the plan after the segment's reply
abbrev pub answered : Plan → List Address × List Stored → Call → Reply → Step
answered p m call (Opened port) = Ok (record p { made = Some (m.0, m.1 ++ stored None call ∷ []); ports = p.ports ++ port ∷ [] })
answered p m call (Refused cause) = refused_by p cause
answered p m call (Sent n) = Ok p
answered p m call (Told events) = Ok p

abbrev pub opened_by : Plan → Address → (pgn max_len : ℕ) → Step
opened_by p station pgn max_len = elim p.made [
  | None ↦ Err NoStations
  | Some m ↦ answered p m (calls.Open station pgn max_len) (reply_of (trail m.0 m.1).state (calls.Open station pgn max_len))
]

-- why a message whose PGN is one isn't submitted: its sender can have no client, or else the client refuses it
abbrev pub message_refusal : List Address → Message → Option Refusal
message_refusal addresses m = if is_station_of addresses m.from then submit_refusal m.from m.to (length m.bytes) else Some NoSuchStation

abbrev pub submitted : Plan → Message → Option Refusal → Step
submitted p m None = Ok (record p { messages = p.messages ++ m ∷ [] })
submitted p m (Some cause) = refused_by p cause

abbrev pub sent_by : Plan → Message → Step
sent_by p m = elim p.made [
  | None ↦ Err NoStations
  | Some made ↦ submitted p m (message_refusal made.0 m)
]

abbrev pub called_by : Plan → Call → Step
called_by p (calls.Open station pgn max_len) = opened_by p station pgn max_len
called_by p (calls.Send from to pgn bytes) = sent_by p (record { from = from; to = to; pgn = pgn; bytes = bytes })
called_by p _ = Err UnknownCommand

-- a value that is refused is so once there are stations
abbrev pub value_refused : Plan → Refusal → Step
value_refused p cause = elim p.made [
  | None ↦ Err NoStations
  | Some m ↦ refused_by p cause
]

unfoldable pub performed_by : Plan → Command → Step
performed_by p (commands.Stations addresses) = made_by p addresses
performed_by p (commands.Call call) = called_by p call
performed_by p (commands.Refused cause) = value_refused p cause
performed_by p (commands.Drive from to turns) = Err UnknownCommand
performed_by p (commands.Drain turns) = Err UnknownCommand
performed_by p commands.Counts = Err UnknownCommand

-- at most 64 lines ask for a message
abbrev pub counted_by : Plan → (sends : Bool) → Command → Step
counted_by p true command = if nat_lt p.sends 64 then performed_by (record p { sends = p.sends + 1 }) command else Err BadWord
counted_by p false command = performed_by p command

-- the lines that a script has
abbrev pub is_known : List ℕ → Bool
is_known name = bytes_eq name (codes "stations") || bytes_eq name (codes "open") || bytes_eq name (codes "send")

-- a line without a word is passed over
unfoldable pub obeyed_words : Plan → List (List ℕ) → Step
obeyed_words p [] = Ok p
obeyed_words p (name ∷ words) = if is_known name then (do
  command ← command_of name words
  counted_by p (bytes_eq name (codes "send")) command) else Err UnknownCommand

unfoldable pub obeyed_line : Plan → List ℕ → Step
obeyed_line p text = if is_ascii text then obeyed_words p (words_of text) else Err NotAscii

-- a script may end behind each of its lines
abbrev pub ends_well : Plan → Option Fault
ends_well p = None

abbrev pub grammar : script.Grammar Plan
grammar = record { step = obeyed_line; ends = ends_well; text = text_of }

-- How the code obeyed a line

-- how a step went, from plan p to plan q
abbrev pub Done : Result (Unit {0}) LineError → Plan → Plan → Step → Type 0
Done result p q step = script.Done text_of result p q step

-- fewer calls than n are stored
abbrev pub CallsBelow : Option (List Address × List Stored) → ℕ → Type 0
CallsBelow None n = Unit {0}
CallsBelow (Some m) n = length m.1 < n

-- fewer calls are stored than lines up to line n may store
abbrev pub HasRoom : Plan → ℕ → Type 0
HasRoom p n = CallsBelow p.made n

-- there are so few calls that one more can be made
abbrev pub FewCalls : Plan → Type 0
FewCalls p = HasRoom p MOST_CALLS
