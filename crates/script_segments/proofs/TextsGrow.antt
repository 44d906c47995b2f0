-- What is printed of refused lines only grows, with each line.
use Rattle.std.proofs.Common.{ℕ, ◌+◌, List, [], ◌∷◌, length, Option, Some, None, Ok, Err, Bool, true, false, cond, nat_lt, refl}
use Rattle.std.specs.Str.{bytes_eq}
use Rattle.std.specs.Prelude.{codes, Result}
use Rattle.pgn_ids.specs.declared.address.Address.{Address}
use Rattle.segment_law.specs.Segment.{are_addresses}
use Rattle.segment_law.specs.declared.call.Call.{Call}
use Rattle.segment_law.specs.declared.call.Call.TheVariants as calls
use Rattle.segment_law.specs.declared.refusal.Refusal.{Refusal}
use Rattle.segment_law.specs.declared.refusal.Refusal.TheVariants.{BadAddresses}
use Rattle.segment_law.specs.declared.reply.Reply.{Reply}
use Rattle.segment_law.specs.declared.reply.Reply.TheVariants.{Opened, Sent, Refused, Done as Told}
use Rattle.live_record.specs.Replies.{reply_of}
use Rattle.stored_calls.specs.declared.stored.Stored.{Stored}
use Rattle.live_record.specs.Record.{trail}
use Rattle.script_commands.specs.Words.{is_ascii}
use Rattle.script_commands.specs.Words.{words_of}
use Rattle.script_commands.specs.Values.{◌>>=◌}
use Rattle.script_commands.specs.Commands.{command_of}
use Rattle.line_faults.specs.declared.fault.Fault.{Fault}
use Rattle.line_faults.specs.declared.fault.Fault.TheVariants.{BadWord, NoStations, StationsTwice, UnknownCommand, NotAscii}
use Rattle.script_commands.specs.declared.command.Command.{Command}
use Rattle.script_commands.specs.declared.command.Command.TheVariants as commands
use Rattle.script_text.specs.Parts.{line}
use Rattle.script_text.specs.Replies.{refusal_text}
use Rattle.script_segments.specs.declared.setup.Message.{Message}
use Rattle.script_segments.specs.Plan.{Plan, text_of, Step, refused_by, made_by, answered, opened_by, message_refusal, submitted, sent_by, called_by, value_refused, performed_by, counted_by, is_known, obeyed_words, obeyed_line}
use Rattle.script_runs.specs.Reading as script
use Rattle.script_runs.proofs.ScriptsRead.{all_of}

abbrev Made : Type 0
Made = Option (List Address × List Stored)

abbrev pub Grows : Plan → Step → Type 0
Grows p s = script.Grows text_of p s

refused : (p : Plan) (cause : Refusal) → Grows p (refused_by p cause)
refused p cause = (line (refusal_text cause), refl)

made : (p : Plan) (addresses : List Address) → Grows p (made_by p addresses)
made p addresses = by (nat_lt 8 (length addresses))
  where
    new : (b : Bool) → Grows p (cond b (Ok (record p { made = Some (addresses, []) })) (refused_by p BadAddresses))
    new true = all_of p.text p.text refl
    new false = refused p BadAddresses

    there : (o : Made) → Grows p (elim o as (λ (_ : Made). Step) [ None ↦ cond (are_addresses addresses) (Ok (record p { made = Some (addresses, []) })) (refused_by p BadAddresses) | Some m ↦ Err StationsTwice ])
    there None = new (are_addresses addresses)
    there (Some m) = tt

    by : (b : Bool) → Grows p (cond b (Err BadWord) (elim p.made as (λ (_ : Made). Step) [ None ↦ cond (are_addresses addresses) (Ok (record p { made = Some (addresses, []) })) (refused_by p BadAddresses) | Some m ↦ Err StationsTwice ]))
    by true = tt
    by false = there p.made

answers : (p : Plan) (m : List Address × List Stored) (call : Call) (r : Reply) → Grows p (answered p m call r)
answers p m call (Opened port) = all_of p.text p.text refl
answers p m call (Refused cause) = refused p cause
answers p m call (Sent k) = all_of p.text p.text refl
answers p m call (Told events) = all_of p.text p.text refl

opens : (p : Plan) (station : Address) (pgn max_len : ℕ) → Grows p (opened_by p station pgn max_len)
opens p station pgn max_len = by p.made
  where
    by : (o : Made) → Grows p (elim o as (λ (_ : Made). Step) [ None ↦ Err NoStations | Some m ↦ answered p m (calls.Open station pgn max_len) (reply_of (trail m.0 m.1).state (calls.Open station pgn max_len)) ])
    by None = tt
    by (Some m) = answers p m (calls.Open station pgn max_len) (reply_of (trail m.0 m.1).state (calls.Open station pgn max_len))

submits : (p : Plan) (m : Message) (o : Option Refusal) → Grows p (submitted p m o)
submits p m None = all_of p.text p.text refl
submits p m (Some cause) = refused p cause

sends : (p : Plan) (m : Message) → Grows p (sent_by p m)
sends p m = by p.made
  where
    by : (o : Made) → Grows p (elim o as (λ (_ : Made). Step) [ None ↦ Err NoStations | Some made ↦ submitted p m (message_refusal made.0 m) ])
    by None = tt
    by (Some made) = submits p m (message_refusal made.0 m)

called : (p : Plan) (call : Call) → Grows p (called_by p call)
called p (calls.Open station pgn max_len) = opens p station pgn max_len
called p (calls.Send from to pgn bytes) = sends p (record { from = from; to = to; pgn = pgn; bytes = bytes })
called p (calls.Close port) = tt
called p (calls.Pump station to) = tt
called p (calls.Transmit station) = tt
called p (calls.Take station room) = tt
called p (calls.TakeAgain station room) = tt
called p (calls.Overrun station k) = tt
called p (calls.Tick k) = tt
called p (calls.Fire station) = tt
called p (calls.Cancel from to number) = tt
called p (calls.Inject frame) = tt
called p (calls.Pause port) = tt
called p (calls.Resume port) = tt

refuses : (p : Plan) (cause : Refusal) → Grows p (value_refused p cause)
refuses p cause = by p.made
  where
    by : (o : Made) → Grows p (elim o as (λ (_ : Made). Step) [ None ↦ Err NoStations | Some m ↦ refused_by p cause ])
    by None = tt
    by (Some m) = refused p cause

performs : (p : Plan) (command : Command) → Grows p (performed_by p command)
unfolding performed_by
performs p (commands.Stations addresses) = made p addresses
performs p (commands.Call call) = called p call
performs p (commands.Refused cause) = refuses p cause
performs p (commands.Drive from to turns) = tt
performs p (commands.Drain turns) = tt
performs p commands.Counts = tt

-- with one line more that asks for a message
counts_one : (p : Plan) (step : Step) → Grows (record p { sends = p.sends + 1 }) step → Grows p step
counts_one p (Ok q) h = h
counts_one p (Err f) h = tt

counts : (p : Plan) (b : Bool) (command : Command) → Grows p (counted_by p b command)
counts p false command = performs p command
counts p true command = by (nat_lt p.sends 64)
  where
    by : (b : Bool) → Grows p (cond b (performed_by (record p { sends = p.sends + 1 }) command) (Err BadWord))
    by true = counts_one p (performed_by (record p { sends = p.sends + 1 }) command) (performs (record p { sends = p.sends + 1 }) command)
    by false = tt

-- the words of a line
pub words : (p : Plan) (texts : List (List ℕ)) → Grows p (obeyed_words p texts)
unfolding obeyed_words
words p [] = all_of p.text p.text refl
words p (name ∷ rest) = by (is_known name)
  where
    reads : (r : Result Command Fault) → Grows p (r >>= (λ command. counted_by p (bytes_eq name (codes "send")) command))
    reads (Ok command) = counts p (bytes_eq name (codes "send")) command
    reads (Err f) = tt

    by : (b : Bool) → Grows p (cond b (command_of name rest >>= (λ command. counted_by p (bytes_eq name (codes "send")) command)) (Err UnknownCommand))
    by true = reads (command_of name rest)
    by false = tt

-- a line
pub obeys : (p : Plan) (text : List ℕ) → Grows p (obeyed_line p text)
unfolding obeyed_line
obeys p text = by (is_ascii text)
  where
    by : (b : Bool) → Grows p (cond b (obeyed_words p (words_of text)) (Err NotAscii))
    by true = words p (words_of text)
    by false = tt
