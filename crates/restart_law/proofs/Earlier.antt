-- Of what two stations did earlier, as far as it shows the ports of the one, each opening and closing at its place, and what the other sent.
-- Nothing else is told.
use Rattle.std.proofs.Common.{◌≡◌, ℕ, suc, ◌+◌, List, [], ◌∷◌, ◌++◌, map, length, refl, ap, ◌∙◌, append-nil}
use Rattle.port_table.specs.declared.port.PortId.{PortId}
use Rattle.pgn_ids.specs.declared.address.Address.{Address}
use Rattle.message_events.specs.declared.event.Event.{Event}
use Rattle.segment_law.specs.Calls.{events_of}
use Rattle.segment_law.specs.Record.{Step, Record}
use Rattle.segment_law.specs.Told.{told_from, opened_by, closed_by, sent_by}
use Rattle.segment_law.specs.declared.call.Call.{Call}
use Rattle.segment_law.specs.declared.call.Call.TheVariants.{Open, Close, Send, Pump, Transmit, Take, TakeAgain, Overrun, Tick, Fire, Cancel, Inject, Pause, Resume}
use Rattle.segment_law.specs.declared.reply.Reply.{Reply}
use Rattle.segment_law.specs.declared.reply.Reply.TheVariants.{Opened, Sent, Refused, Done}
use Rattle.record_law.proofs.Told.{flat}

abbrev without_events : Reply → Reply
without_events (Done events) = Done []
without_events (Opened port) = Opened port
without_events (Sent number) = Sent number
without_events (Refused cause) = Refused cause

abbrev pub of_ports : Call → Reply → Step
of_ports (Open station pgn max_len) reply = (Open station pgn max_len, without_events reply)
of_ports (Close port) reply = (Close port, without_events reply)
of_ports _ reply = (Tick 0, Done [])

abbrev pub earlier : Record → Record
earlier [] = []
earlier (step ∷ steps) = of_ports step.0 step.1 ∷ earlier steps

pub as_long : (steps : Record) → length (earlier steps) ≡ length steps
as_long [] = refl
as_long (step ∷ steps) = ap suc (as_long steps)

opened_same : (p : PortId) (call : Call) (reply : Reply) → opened_by p (of_ports call reply).0 (of_ports call reply).1 ≡ opened_by p call reply
opened_same p (Open station pgn max_len) (Opened port) = refl
opened_same p (Open station pgn max_len) (Done events) = refl
opened_same p (Open station pgn max_len) (Sent number) = refl
opened_same p (Open station pgn max_len) (Refused cause) = refl
opened_same p (Close port) reply = refl
opened_same p (Send from to pgn bytes) reply = refl
opened_same p (Pump station to) reply = refl
opened_same p (Transmit station) reply = refl
opened_same p (Take station room) reply = refl
opened_same p (TakeAgain station room) reply = refl
opened_same p (Overrun station n) reply = refl
opened_same p (Tick n) reply = refl
opened_same p (Fire station) reply = refl
opened_same p (Cancel from to number) reply = refl
opened_same p (Inject frame) reply = refl
opened_same p (Pause port) reply = refl
opened_same p (Resume port) reply = refl

closed_same : (p : PortId) (call : Call) (reply : Reply) → closed_by p (of_ports call reply).0 (of_ports call reply).1 ≡ closed_by p call reply
closed_same p (Close port) (Done events) = refl
closed_same p (Close port) (Opened q) = refl
closed_same p (Close port) (Sent number) = refl
closed_same p (Close port) (Refused cause) = refl
closed_same p (Open station pgn max_len) reply = refl
closed_same p (Send from to pgn bytes) reply = refl
closed_same p (Pump station to) reply = refl
closed_same p (Transmit station) reply = refl
closed_same p (Take station room) reply = refl
closed_same p (TakeAgain station room) reply = refl
closed_same p (Overrun station n) reply = refl
closed_same p (Tick n) reply = refl
closed_same p (Fire station) reply = refl
closed_same p (Cancel from to number) reply = refl
closed_same p (Inject frame) reply = refl
closed_same p (Pause port) reply = refl
closed_same p (Resume port) reply = refl

none_sent : (s x : Address) (call : Call) (reply : Reply) → sent_by s x (of_ports call reply).0 (of_ports call reply).1 ≡ []
none_sent s x (Open station pgn max_len) reply = refl
none_sent s x (Close port) reply = refl
none_sent s x (Send from to pgn bytes) reply = refl
none_sent s x (Pump station to) reply = refl
none_sent s x (Transmit station) reply = refl
none_sent s x (Take station room) reply = refl
none_sent s x (TakeAgain station room) reply = refl
none_sent s x (Overrun station n) reply = refl
none_sent s x (Tick n) reply = refl
none_sent s x (Fire station) reply = refl
none_sent s x (Cancel from to number) reply = refl
none_sent s x (Inject frame) reply = refl
none_sent s x (Pause port) reply = refl
none_sent s x (Resume port) reply = refl

no_events : (reply : Reply) → events_of (without_events reply) ≡ []
no_events (Done events) = refl
no_events (Opened port) = refl
no_events (Sent number) = refl
no_events (Refused cause) = refl

none_told : (call : Call) (reply : Reply) → events_of (of_ports call reply).1 ≡ []
none_told (Open station pgn max_len) reply = no_events reply
none_told (Close port) reply = no_events reply
none_told (Send from to pgn bytes) reply = refl
none_told (Pump station to) reply = refl
none_told (Transmit station) reply = refl
none_told (Take station room) reply = refl
none_told (TakeAgain station room) reply = refl
none_told (Overrun station n) reply = refl
none_told (Tick n) reply = refl
none_told (Fire station) reply = refl
none_told (Cancel from to number) reply = refl
none_told (Inject frame) reply = refl
none_told (Pause port) reply = refl
none_told (Resume port) reply = refl

-- What the other sent

abbrev of_sends : Call → Reply → Step
of_sends (Send from to pgn bytes) reply = (Send from to pgn bytes, without_events reply)
of_sends _ reply = (Tick 0, Done [])

abbrev pub sendings : Record → Record
sendings [] = []
sendings (step ∷ steps) = of_sends step.0 step.1 ∷ sendings steps

sends_or_not : (P : Step → Type 0) → P (Tick 0, Done []) → ((from to : Address) (pgn : ℕ) (bytes : List ℕ) (reply : Reply) → P (Send from to pgn bytes, without_events reply)) → (call : Call) (reply : Reply) → P (of_sends call reply)
sends_or_not P none some (Open station pgn max_len) reply = none
sends_or_not P none some (Close port) reply = none
sends_or_not P none some (Send from to pgn bytes) reply = some from to pgn bytes reply
sends_or_not P none some (Pump station to) reply = none
sends_or_not P none some (Transmit station) reply = none
sends_or_not P none some (Take station room) reply = none
sends_or_not P none some (TakeAgain station room) reply = none
sends_or_not P none some (Overrun station n) reply = none
sends_or_not P none some (Tick n) reply = none
sends_or_not P none some (Fire station) reply = none
sends_or_not P none some (Cancel from to number) reply = none
sends_or_not P none some (Inject frame) reply = none
sends_or_not P none some (Pause port) reply = none
sends_or_not P none some (Resume port) reply = none

sent_same : (s x : Address) (call : Call) (reply : Reply) → sent_by s x (of_sends call reply).0 (of_sends call reply).1 ≡ sent_by s x call reply
sent_same s x (Send from to pgn bytes) (Sent number) = refl
sent_same s x (Send from to pgn bytes) (Opened port) = refl
sent_same s x (Send from to pgn bytes) (Refused cause) = refl
sent_same s x (Send from to pgn bytes) (Done events) = refl
sent_same s x (Open station pgn max_len) reply = refl
sent_same s x (Close port) reply = refl
sent_same s x (Pump station to) reply = refl
sent_same s x (Transmit station) reply = refl
sent_same s x (Take station room) reply = refl
sent_same s x (TakeAgain station room) reply = refl
sent_same s x (Overrun station n) reply = refl
sent_same s x (Tick n) reply = refl
sent_same s x (Fire station) reply = refl
sent_same s x (Cancel from to number) reply = refl
sent_same s x (Inject frame) reply = refl
sent_same s x (Pause port) reply = refl
sent_same s x (Resume port) reply = refl

-- Along a record

pub opened_earlier : (p : PortId) (place : ℕ) (steps : Record) → told_from (λ step. opened_by p step.0 step.1) place (earlier steps) ≡ told_from (λ step. opened_by p step.0 step.1) place steps
opened_earlier p place [] = refl
opened_earlier p place (step ∷ steps) = λ k. map (λ x. (place, x)) (opened_same p step.0 step.1 k) ++ opened_earlier p (place + 1) steps k

pub closed_earlier : (p : PortId) (place : ℕ) (steps : Record) → told_from (λ step. closed_by p step.0 step.1) place (earlier steps) ≡ told_from (λ step. closed_by p step.0 step.1) place steps
closed_earlier p place [] = refl
closed_earlier p place (step ∷ steps) = λ k. map (λ x. (place, x)) (closed_same p step.0 step.1 k) ++ closed_earlier p (place + 1) steps k

pub opened_flat : (p : PortId) (call : Call) (reply : Reply) → flat (λ step. opened_by p step.0 step.1) (of_ports call reply ∷ []) ≡ opened_by p call reply
opened_flat p call reply = append-nil (opened_by p (of_ports call reply).0 (of_ports call reply).1) ∙ opened_same p call reply

pub closed_flat : (p : PortId) (call : Call) (reply : Reply) → flat (λ step. closed_by p step.0 step.1) (of_ports call reply ∷ []) ≡ closed_by p call reply
closed_flat p call reply = append-nil (closed_by p (of_ports call reply).0 (of_ports call reply).1) ∙ closed_same p call reply

pub sends_nothing : (s x : Address) (steps : Record) → flat (λ step. sent_by s x step.0 step.1) (earlier steps) ≡ []
sends_nothing s x [] = refl
sends_nothing s x (step ∷ steps) = λ k. none_sent s x step.0 step.1 k ++ sends_nothing s x steps k

pub tells_nothing : {A : Type 0} (of : List Event → List A) → of [] ≡ [] → (steps : Record) → flat (λ step. of (events_of step.1)) (earlier steps) ≡ []
tells_nothing of e [] = refl
tells_nothing of e (step ∷ steps) = λ k. (ap of (none_told step.0 step.1) ∙ e) k ++ tells_nothing of e steps k

pub same_sends : (s x : Address) (steps : Record) → flat (λ step. sent_by s x step.0 step.1) (sendings steps) ≡ flat (λ step. sent_by s x step.0 step.1) steps
same_sends s x [] = refl
same_sends s x (step ∷ steps) = λ k. sent_same s x step.0 step.1 k ++ same_sends s x steps k

-- they open and close nothing, and tell no event
sends_alone : {A : Type 0} (tells : Step → List A) → tells (Tick 0, Done []) ≡ [] → ((from to : Address) (pgn : ℕ) (bytes : List ℕ) (reply : Reply) → tells (Send from to pgn bytes, without_events reply) ≡ []) → (steps : Record) → flat tells (sendings steps) ≡ []
sends_alone tells none some [] = refl
sends_alone tells none some (step ∷ steps) = λ k. sends_or_not (λ (z : Step). tells z ≡ []) none some step.0 step.1 k ++ sends_alone tells none some steps k

pub none_opened : (p : PortId) (steps : Record) → flat (λ step. opened_by p step.0 step.1) (sendings steps) ≡ []
none_opened p = sends_alone (λ step. opened_by p step.0 step.1) refl (λ from to pgn bytes reply. refl)

pub none_closed : (p : PortId) (steps : Record) → flat (λ step. closed_by p step.0 step.1) (sendings steps) ≡ []
none_closed p = sends_alone (λ step. closed_by p step.0 step.1) refl (λ from to pgn bytes reply. refl)

pub none_told_there : {A : Type 0} (of : List Event → List A) → of [] ≡ [] → (steps : Record) → flat (λ step. of (events_of step.1)) (sendings steps) ≡ []
none_told_there of e = sends_alone (λ step. of (events_of step.1)) e (λ from to pgn bytes reply. ap of (no_events reply) ∙ e)
