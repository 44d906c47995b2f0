-- What deeds show, call by call, is what the steps of a record show at places that go with theirs.
use Rattle.std.proofs.Common.{◌≡◌, ℕ, ◌+◌, Bool, List, [], ◌∷◌, ◌++◌, map, length, refl, ap, ◌∙◌, append-nil}
use Rattle.bus_frame.specs.Frames.{CanFrame}
use Rattle.pgn_ids.specs.declared.address.Address.{Address}
use Rattle.port_table.specs.declared.port.PortId.{PortId}
use Rattle.message_events.specs.declared.event.Event.{Event}
use Rattle.segment_law.specs.Calls.{events_of}
use Rattle.segment_law.specs.Record.{Step, Record}
use Rattle.segment_law.specs.Told.{Placed, told_from, sent_by, opened_by, closed_by}
use Rattle.segment_law.specs.declared.call.Call.TheVariants.{Open, Close, Send, Take, Inject, Transmit}
use Rattle.segment_law.specs.declared.reply.Reply.{Reply}
use Rattle.segment_law.specs.declared.reply.Reply.TheVariants.{Opened, Sent, Done}
use Rattle.record_law.specs.Numbers.{answered_by}
use Rattle.record_law.proofs.Told.{flat}
use Rattle.network_law.proofs.Places.{Move, Goes, Matches, OnlyLast, more_moves}
use Rattle.network_law.proofs.Places.Move.{Together}
use Rattle.one_station.specs.declared.error.Fed.{Fed}
use Rattle.node_law.specs.Life.{Deed, done_from, sends_to, answers_to, opens_port, closes_port}
use Rattle.node_law.specs.Life.Deed.{Opens, Closes, Sends, Feeds, Puts}

-- only the last of these steps tells something, and it tells this
abbrev pub Tells : {A : Type 0} → (Step → List A) → Record → List A → Type 0
Tells tells made xs = OnlyLast tells made × (flat tells made ≡ xs)

-- the steps that a deed makes show the deed, and tell these events
pub record Shows (deed : Deed) (made : Record) (told : List Event) : Type 0 where
  pub sends : (s x : Address) → Tells (λ step. sent_by s x step.0 step.1) made (sends_to s x deed)
  pub answers : (s x : Address) → Tells (λ step. answered_by s x step.0 step.1) made (answers_to s x deed)
  pub openings : (p : PortId) → Tells (λ step. opened_by p step.0 step.1) made (opens_port p deed)
  pub closings : (p : PortId) → Tells (λ step. closed_by p step.0 step.1) made (closes_port p deed)
  pub events : Tells (λ step. events_of step.1) made told

-- all the steps that deeds make do so, from these places on
pub record AreShown (w : List Move) (i j : ℕ) (deeds : List Deed) (told : List (Placed Event)) (steps : Record) : Type 0 where
  pub sends : (s x : Address) → Matches (Goes w i j) (told_from (λ step. sent_by s x step.0 step.1) i steps) (done_from (sends_to s x) j deeds)
  pub answers : (s x : Address) → Matches (Goes w i j) (told_from (λ step. answered_by s x step.0 step.1) i steps) (done_from (answers_to s x) j deeds)
  pub openings : (p : PortId) → Matches (Goes w i j) (told_from (λ step. opened_by p step.0 step.1) i steps) (done_from (opens_port p) j deeds)
  pub closings : (p : PortId) → Matches (Goes w i j) (told_from (λ step. closed_by p step.0 step.1) i steps) (done_from (closes_port p) j deeds)
  pub events : Matches (Goes w i j) (told_from (λ step. events_of step.1) i steps) told

pub none_shown : (i j : ℕ) → AreShown [] i j [] [] []
none_shown i j = record { sends = λ s x. tt; answers = λ s x. tt; openings = λ p. tt; closings = λ p. tt; events = tt }

-- one deed more
pub one_shown : (w : List Move) (i j : ℕ) (deed : Deed) (deeds : List Deed) (events : List Event) (told : List (Placed Event)) (made more : Record) → Shows deed made events → AreShown w (i + length made) (j + 1) deeds told more
    → AreShown (Together (length made) ∷ w) i j (deed ∷ deeds) (map (λ event. (j, event)) events ++ told) (made ++ more)
one_shown w i j deed deeds events told made more h k = record {
  sends = λ s x. more_moves (λ step. sent_by s x step.0 step.1) i j made more (sends_to s x deed) (done_from (sends_to s x) (j + 1) deeds) w (h.sends s x).0 (h.sends s x).1 (k.sends s x);
  answers = λ s x. more_moves (λ step. answered_by s x step.0 step.1) i j made more (answers_to s x deed) (done_from (answers_to s x) (j + 1) deeds) w (h.answers s x).0 (h.answers s x).1 (k.answers s x);
  openings = λ p. more_moves (λ step. opened_by p step.0 step.1) i j made more (opens_port p deed) (done_from (opens_port p) (j + 1) deeds) w (h.openings p).0 (h.openings p).1 (k.openings p);
  closings = λ p. more_moves (λ step. closed_by p step.0 step.1) i j made more (closes_port p deed) (done_from (closes_port p) (j + 1) deeds) w (h.closings p).0 (h.closings p).1 (k.closings p);
  events = more_moves (λ step. events_of step.1) i j made more events told w h.events.0 h.events.1 k.events;
}

-- The deeds

pub opens_shown : (a : Address) (pgn max_len : ℕ) (port : PortId) (reply : Reply) → reply ≡ Opened port → Shows (Opens pgn max_len port) ((Open a pgn max_len, reply) ∷ []) (events_of reply ++ [])
opens_shown a pgn max_len port reply is = record {
  sends = λ s x. (tt, refl);
  answers = λ s x. (tt, refl);
  openings = λ p. (tt, ap (λ (r : Reply). opened_by p (Open a pgn max_len) r ++ []) is ∙ append-nil (opened_by p (Open a pgn max_len) (Opened port)));
  closings = λ p. (tt, refl);
  events = (tt, refl);
}

pub closes_shown : (port : PortId) (reply : Reply) (events : List Event) → reply ≡ Done events → Shows (Closes port) ((Close port, reply) ∷ []) (events_of reply ++ [])
closes_shown port reply events is = record {
  sends = λ s x. (tt, refl);
  answers = λ s x. (tt, refl);
  openings = λ p. (tt, refl);
  closings = λ p. (tt, ap (λ (r : Reply). closed_by p (Close port) r ++ []) is ∙ append-nil (closed_by p (Close port) (Done events)));
  events = (tt, refl);
}

pub sends_shown : (from to : Address) (pgn : ℕ) (bytes : List ℕ) (number : ℕ) (reply : Reply) → reply ≡ Sent number → Shows (Sends from to pgn bytes number) ((Send from to pgn bytes, reply) ∷ []) (events_of reply ++ [])
sends_shown from to pgn bytes number reply is = record {
  sends = λ s x. (tt, ap (λ (r : Reply). sent_by s x (Send from to pgn bytes) r ++ []) is ∙ append-nil (sent_by s x (Send from to pgn bytes) (Sent number)));
  answers = λ s x. (tt, ap (λ (r : Reply). answered_by s x (Send from to pgn bytes) r ++ []) is ∙ append-nil (answered_by s x (Send from to pgn bytes) (Sent number)));
  openings = λ p. (tt, refl);
  closings = λ p. (tt, refl);
  events = (tt, refl);
}

-- a frame that came or was put, and then a Take
pub fed_shown : (f : CanFrame) (fed : Fed) (a : Address) (room : Bool) (first second : Reply) → events_of first ≡ [] → Shows (Feeds f fed) ((Inject f, first) ∷ (Take a room, second) ∷ []) (events_of first ++ (events_of second ++ []))
fed_shown f fed a room first second quiet = record {
  sends = λ s x. ((refl, tt), refl);
  answers = λ s x. ((refl, tt), refl);
  openings = λ p. ((refl, tt), refl);
  closings = λ p. ((refl, tt), refl);
  events = ((quiet, tt), refl);
}

pub put_shown : (f : CanFrame) (a : Address) (room : Bool) (first second : Reply) → events_of first ≡ [] → Shows (Puts f) ((Transmit a, first) ∷ (Take a room, second) ∷ []) (events_of first ++ (events_of second ++ []))
put_shown f a room first second quiet = record {
  sends = λ s x. ((refl, tt), refl);
  answers = λ s x. ((refl, tt), refl);
  openings = λ p. ((refl, tt), refl);
  closings = λ p. ((refl, tt), refl);
  events = ((quiet, tt), refl);
}
