-- The printed text of a segment once its threads have ended: a port with what it was given, and the outcomes.
use Rattle.std.specs.Prelude.{ℕ, zero, suc, ◌+◌, ◌==◌, ◌&&◌, max, cond, List, [], ◌∷◌, ◌++◌, flat_map, codes}
use Rattle.pgn_ids.specs.declared.address.Address.{Address}
use Rattle.port_table.specs.declared.port.PortId.{PortId}
use Rattle.segment_rings.specs.declared.words.Delivery.{Delivery}
use Rattle.segment_rings.specs.declared.words.Note.{Note}
use Rattle.live_record.specs.Record.{Trail, given, notes_of}
use Rattle.script_text.specs.Parts.{port_text, line}
use Rattle.script_text.specs.Replies.{given_text, ended_text}

-- the texts of 0, 1 and so on, below n, one after another
unfoldable pub below : ℕ → (ℕ → List ℕ) → List ℕ
below zero text = []
below (suc n) text = below n text ++ text n

-- the lines of the deliveries with this sender and destination, in the order in which they were given
abbrev pub given_lines : PortId → (from to : ℕ) → List Delivery → List ℕ
given_lines port from to deliveries = flat_map (λ d. cond ((d.from.0 == from) && (d.to.0 == to)) (line (codes "  given " ++ given_text port d.from d.to d.pgn d.bytes)) []) deliveries

-- a port, and what it was given, by rising sender and destination
unfoldable pub port_lines : PortId → List Delivery → List ℕ
port_lines port deliveries = line (codes "port " ++ port_text port) ++ below 256 (λ from. below 256 (λ to. given_lines port from to deliveries))

-- the ports of one station, in the order of opening, with what the record gives to each
abbrev pub ports_at : (station : ℕ) → List PortId → Trail → List ℕ
ports_at station ports t = flat_map (λ p. cond (p.station.0 == station) (port_lines p (given p t.events)) []) ports

-- the outcome of the message with this number to this destination
abbrev pub numbered_lines : (from : Address) → (to number : ℕ) → List Note → List ℕ
numbered_lines from to number notes = flat_map (λ n. cond ((n.to.0 == to) && (n.number == number)) (line (codes "outcome " ++ ended_text from n.to n.number n.outcome)) []) notes

abbrev pub highest : List Note → ℕ
highest [] = 0
highest (n ∷ ns) = max n.number (highest ns)

-- the outcomes of a client's messages, by rising destination and number
unfoldable pub outcome_lines : (from : Address) → List Note → List ℕ
outcome_lines from notes = below 256 (λ to. below (suc (highest notes)) (λ number. numbered_lines from to number notes))

-- the lines of the messages of one station, whose client has the number of its place among the addresses
abbrev pub clients_at : (station client : ℕ) → List Address → Trail → List ℕ
clients_at station client [] t = []
clients_at station client (a ∷ more) t = cond (a.0 == station) (outcome_lines a (notes_of client t.noted)) [] ++ clients_at station (client + 1) more t
