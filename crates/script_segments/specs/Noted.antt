-- Which of the messages of a script have their outcomes.
use Rattle.std.specs.Prelude.{◌≡◌, ℕ, ◌+◌, ◌==◌, List, [], ◌∷◌, length, nat_lt, cond, Bool, true, false, if◌then◌else◌}
use Rattle.std.specs.Bool.{MatchBool}
use Rattle.pgn_ids.specs.declared.address.Address.{Address}
use Rattle.live_record.specs.Record.{Trail, trail, notes_of}
use Rattle.script_segments.specs.LiveView.{LiveView}
use Rattle.script_segments.specs.declared.setup.Message.{Message}
use Rattle.script_segments.specs.Known.{HaveClients}

-- how many of the messages one station sends
abbrev pub count_from : Address → List Message → ℕ
count_from a [] = 0
count_from a (m ∷ ms) = cond (m.from.0 == a.0) 1 0 + count_from a ms

-- each of the messages of these stations has its outcome, in what is noted of each station's client
abbrev pub all_noted : (client : ℕ) → List Address → List Message → Trail → Bool
all_noted client [] messages t = true
all_noted client (a ∷ more) messages t = if nat_lt (length (notes_of client t.noted)) (count_from a messages) then false else all_noted (client + 1) more messages t

-- the bus was drained, each station has a client, and each of the messages has its outcome
pub record IsDone (stations : List Address) (messages : List Message) (drained : Bool) (v : LiveView) : Type 0 where
  pub bus : drained ≡ true
  pub clients : HaveClients v.clients stations
  pub noted : all_noted 0 stations messages (trail v.addresses v.calls) ≡ true

-- whether the turns ran out: whether that isn't so
abbrev pub HasRunOut : Bool → List Address → List Message → (drained : Bool) → LiveView → Type 0
HasRunOut ran_out stations messages drained v = MatchBool ran_out (IsDone stations messages drained v → ⊥) (IsDone stations messages drained v)
