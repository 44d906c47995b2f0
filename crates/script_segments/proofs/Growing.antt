-- A line opens one port at most, so that fewer calls are stored than lines were read.
use Rattle.std.proofs.Common.{◌≡◌, ℕ, ◌+◌, ◌<◌, List, [], ◌∷◌, length, Option, Some, None, Ok, Err, Bool, true, false, cond, nat_lt, arith, subst, length-append}
use Rattle.std.specs.Str.{bytes_eq}
use Rattle.std.specs.Prelude.{codes, Result}
use Rattle.pgn_ids.specs.declared.address.Address.{Address}
use Rattle.segment_law.specs.Segment.{are_addresses}
use Rattle.segment_law.specs.declared.call.Call.{Call}
use Rattle.segment_law.specs.declared.call.Call.TheVariants as calls
use Rattle.segment_law.specs.declared.refusal.Refusal.{Refusal}
use Rattle.segment_law.specs.declared.refusal.Refusal.TheVariants.{BadAddresses}
use Rattle.segment_law.specs.declared.reply.Reply.{Reply}
use Rattle.segment_law.specs.declared.reply.Reply.TheVariants.{Opened, Sent, Refused, Done as Told}
use Rattle.live_record.specs.Replies.{reply_of}
use Rattle.stored_calls.specs.declared.stored.Stored.{Stored}
use Rattle.live_record.specs.Record.{trail}
use Rattle.script_commands.specs.Words.{is_ascii}
use Rattle.script_commands.specs.Words.{words_of}
use Rattle.script_commands.specs.Values.{◌>>=◌}
use Rattle.script_commands.specs.Commands.{command_of}
use Rattle.line_faults.specs.declared.fault.Fault.{Fault}
use Rattle.line_faults.specs.declared.fault.Fault.TheVariants.{BadWord, NoStations, StationsTwice, UnknownCommand, NotAscii}
use Rattle.script_commands.specs.declared.command.Command.{Command}
use Rattle.script_commands.specs.declared.command.Command.TheVariants as commands
use Rattle.script_segments.specs.declared.setup.Message.{Message}
use Rattle.script_segments.specs.Plan.{Plan, Step, refused_by, made_by, answered, opened_by, message_refusal, submitted, sent_by, called_by, value_refused, performed_by, counted_by, is_known, obeyed_words, obeyed_line, CallsBelow, HasRoom}

abbrev Made : Type 0
Made = Option (List Address × List Stored)

abbrev pub StepBelow : Step → ℕ → Type 0
StepBelow (Ok q) n = CallsBelow q.made n
StepBelow (Err f) n = Unit {0}

pub more : (o : Made) (n : ℕ) → CallsBelow o n → CallsBelow o (n + 1)
more None n h = tt
more (Some m) n h = omega (arith, h)

made : (p : Plan) (addresses : List Address) (n : ℕ) → CallsBelow p.made n → StepBelow (made_by p addresses) (n + 1)
made p addresses n h = by (nat_lt 8 (length addresses))
  where
    new : (b : Bool) → StepBelow (cond b (Ok (record p { made = Some (addresses, []) })) (refused_by p BadAddresses)) (n + 1)
    new true = omega arith
    new false = more p.made n h

    there : (o : Made) → StepBelow (elim o as (λ (_ : Made). Step) [ None ↦ cond (are_addresses addresses) (Ok (record p { made = Some (addresses, []) })) (refused_by p BadAddresses) | Some m ↦ Err StationsTwice ]) (n + 1)
    there None = new (are_addresses addresses)
    there (Some m) = tt

    by : (b : Bool) → StepBelow (cond b (Err BadWord) (elim p.made as (λ (_ : Made). Step) [ None ↦ cond (are_addresses addresses) (Ok (record p { made = Some (addresses, []) })) (refused_by p BadAddresses) | Some m ↦ Err StationsTwice ])) (n + 1)
    by true = tt
    by false = there p.made

answers : (p : Plan) (m : List Address × List Stored) (call : Call) (r : Reply) (n : ℕ) → CallsBelow p.made n → length m.1 < n → StepBelow (answered p m call r) (n + 1)
answers p m call (Opened port) n h l = omega (arith, l, length-append m.1 (record { by = None; call = call } ∷ []))
answers p m call (Refused cause) n h l = more p.made n h
answers p m call (Sent k) n h l = more p.made n h
answers p m call (Told events) n h l = more p.made n h

opens : (p : Plan) (station : Address) (pgn max_len n : ℕ) → CallsBelow p.made n → StepBelow (opened_by p station pgn max_len) (n + 1)
opens p station pgn max_len n h = by p.made h
  where
    by : (o : Made) → CallsBelow o n → StepBelow (elim o as (λ (_ : Made). Step) [ None ↦ Err NoStations | Some m ↦ answered p m (calls.Open station pgn max_len) (reply_of (trail m.0 m.1).state (calls.Open station pgn max_len)) ]) (n + 1)
    by None l = tt
    by (Some m) l = answers p m (calls.Open station pgn max_len) (reply_of (trail m.0 m.1).state (calls.Open station pgn max_len)) n h l

submits : (p : Plan) (m : Message) (o : Option Refusal) (n : ℕ) → CallsBelow p.made n → StepBelow (submitted p m o) (n + 1)
submits p m None n h = more p.made n h
submits p m (Some cause) n h = more p.made n h

sends : (p : Plan) (m : Message) (n : ℕ) → CallsBelow p.made n → StepBelow (sent_by p m) (n + 1)
sends p m n h = by p.made
  where
    by : (o : Made) → StepBelow (elim o as (λ (_ : Made). Step) [ None ↦ Err NoStations | Some made ↦ submitted p m (message_refusal made.0 m) ]) (n + 1)
    by None = tt
    by (Some made) = submits p m (message_refusal made.0 m) n h

called : (p : Plan) (call : Call) (n : ℕ) → CallsBelow p.made n → StepBelow (called_by p call) (n + 1)
called p (calls.Open station pgn max_len) n h = opens p station pgn max_len n h
called p (calls.Send from to pgn bytes) n h = sends p (record { from = from; to = to; pgn = pgn; bytes = bytes }) n h
called p (calls.Close port) n h = tt
called p (calls.Pump station to) n h = tt
called p (calls.Transmit station) n h = tt
called p (calls.Take station room) n h = tt
called p (calls.TakeAgain station room) n h = tt
called p (calls.Overrun station k) n h = tt
called p (calls.Tick k) n h = tt
called p (calls.Fire station) n h = tt
called p (calls.Cancel from to number) n h = tt
called p (calls.Inject frame) n h = tt
called p (calls.Pause port) n h = tt
called p (calls.Resume port) n h = tt

refuses : (p : Plan) (cause : Refusal) (n : ℕ) → CallsBelow p.made n → StepBelow (value_refused p cause) (n + 1)
refuses p cause n h = by p.made
  where
    by : (o : Made) → StepBelow (elim o as (λ (_ : Made). Step) [ None ↦ Err NoStations | Some m ↦ refused_by p cause ]) (n + 1)
    by None = tt
    by (Some m) = more p.made n h

performs : (p : Plan) (command : Command) (n : ℕ) → CallsBelow p.made n → StepBelow (performed_by p command) (n + 1)
unfolding performed_by
performs p (commands.Stations addresses) n h = made p addresses n h
performs p (commands.Call call) n h = called p call n h
performs p (commands.Refused cause) n h = refuses p cause n h
performs p (commands.Drive from to turns) n h = tt
performs p (commands.Drain turns) n h = tt
performs p commands.Counts n h = tt

counts : (p : Plan) (b : Bool) (command : Command) (n : ℕ) → CallsBelow p.made n → StepBelow (counted_by p b command) (n + 1)
counts p false command n h = performs p command n h
counts p true command n h = by (nat_lt p.sends 64)
  where
    by : (b : Bool) → StepBelow (cond b (performed_by (record p { sends = p.sends + 1 }) command) (Err BadWord)) (n + 1)
    by true = performs (record p { sends = p.sends + 1 }) command n h
    by false = tt

-- the words of a line
pub words : (p : Plan) (texts : List (List ℕ)) (n : ℕ) → CallsBelow p.made n → StepBelow (obeyed_words p texts) (n + 1)
unfolding obeyed_words
words p [] n h = more p.made n h
words p (name ∷ rest) n h = by (is_known name)
  where
    reads : (r : Result Command Fault) → StepBelow (r >>= (λ command. counted_by p (bytes_eq name (codes "send")) command)) (n + 1)
    reads (Ok command) = counts p (bytes_eq name (codes "send")) command n h
    reads (Err f) = tt

    by : (b : Bool) → StepBelow (cond b (command_of name rest >>= (λ command. counted_by p (bytes_eq name (codes "send")) command)) (Err UnknownCommand)) (n + 1)
    by true = reads (command_of name rest)
    by false = tt

line : (p : Plan) (text : List ℕ) (n : ℕ) → CallsBelow p.made n → StepBelow (obeyed_line p text) (n + 1)
unfolding obeyed_line
line p text n h = by (is_ascii text)
  where
    by : (b : Bool) → StepBelow (cond b (obeyed_words p (words_of text)) (Err NotAscii)) (n + 1)
    by true = words p (words_of text) n h
    by false = tt

-- after a line that was obeyed
pub room_after : (p q : Plan) (text : List ℕ) (n : ℕ) → HasRoom p n → obeyed_line p text ≡ Ok q → HasRoom q (n + 1)
room_after p q text n h e = subst (λ (s : Step). StepBelow s (n + 1)) e (line p text n h)
