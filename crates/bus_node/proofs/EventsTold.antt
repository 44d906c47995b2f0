-- What the station told is told event by event.
use Rattle.std.proofs.Common.{◌≡◌, ℕ, ◌<◌, List, [], ◌∷◌, ◌++◌, length, drop, Some, None, sym, ap, ◌∙◌, arith, append_assoc}
use Rattle.std.specs.Prelude.{slice_get}
use Rattle.std.proofs.lemmas.List.{append-nil}
use Rattle.std.proofs.lemmas.Option.{same_Some}
use Rattle.message_events.specs.declared.event.Event.{Event}
use Rattle.script_text.specs.Replies.{event_line, event_lines}
use Rattle.node_parts.specs.Rests.{rest_by, rested}
use Rattle.bus_node.specs.Node.{Node, rests_until, events_told}

-- where these events are left
abbrev left : Node → (events : List Event) → (rests text : List ℕ) → Node
left n events rests text = record n { station = record n.station { events = events }; rests = rests; text = text }

put_behind : (a b c : List ℕ) → (a ++ (b ++ [])) ++ c ≡ a ++ (b ++ c)
put_behind a b c = ap (λ (x : List ℕ). (a ++ x) ++ c) (append-nil b) ∙ append_assoc a b c

first_of : (n : Node) (events : List Event) (event : Event) → slice_get events 0 ≡ Some event
    → events_told (left n (drop 1 events) (rest_by (rests_until n) n.rests event) (n.text ++ event_lines (event ∷ []))) ≡ events_told (left n events n.rests n.text)
first_of n [] event is = absurd cc
first_of n (e ∷ events) event is =
    let same : event ≡ e = sym (same_Some e event is) in
    (λ k. events_told (left n events (rest_by (rests_until n) n.rests (same k)) (n.text ++ event_lines (same k ∷ []))))
    ∙ (λ k. record n { station = record n.station { events = [] }; rests = rested (rests_until n) (rest_by (rests_until n) n.rests e) events; text = put_behind n.text (event_line e) (event_lines events) k })

pub told_first : (n : Node) (event : Event) → slice_get n.station.events 0 ≡ Some event
    → events_told (left n (drop 1 n.station.events) (rest_by (rests_until n) n.rests event) (n.text ++ event_lines (event ∷ []))) ≡ events_told n
told_first n event is = first_of n n.station.events event is

fewer_of : (events : List Event) (event : Event) → slice_get events 0 ≡ Some event → length (drop 1 events) < length events
fewer_of [] event is = absurd cc
fewer_of (e ∷ events) event is = omega arith

pub fewer : (n : Node) (event : Event) → slice_get n.station.events 0 ≡ Some event → length (drop 1 n.station.events) < length n.station.events
fewer n event is = fewer_of n.station.events event is

none_of : (n : Node) (events : List Event) → slice_get events 0 ≡ None → left n (drop 1 events) n.rests n.text ≡ events_told (left n events n.rests n.text)
none_of n [] is = λ k. left n [] n.rests (sym (append-nil n.text) k)
none_of n (e ∷ events) is = absurd cc

pub none_left : (n : Node) → slice_get n.station.events 0 ≡ None → left n (drop 1 n.station.events) n.rests n.text ≡ events_told n
none_left n is = none_of n n.station.events is
