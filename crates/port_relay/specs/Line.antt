-- The rule of the line: the messages put are those taken, and then those that the line holds, at most one for each of its places.
-- At most one pass may put, and it has the list of the messages put; likewise one pass may take.
use Rattle.std.specs.Prelude.{◌≡◌, ℕ, ◌≤◌, Bool, true, List, [], ◌∷◌, ◌++◌, length, Option, Some, None}
use mathlib.Core.Option.{some}
use lib.ListN.{get_elem?}
use Rattle.segment_rings.specs.declared.words.Delivery.{Delivery}
use Rattle.port_relay.specs.declared.line.TheConstants.{LINE_PLACES}
use Rattle.port_relay.specs.declared.line.Log.{Log}

abbrev pub log : (puts takes : Bool) → (put taken : List Delivery) → Log
log puts takes put taken = record { puts = puts; takes = takes; put = put; taken = taken }

-- a message that a worker holds, if it does
abbrev pub in_hand : Option Delivery → List Delivery
in_hand None = []
in_hand (Some d) = d ∷ []

abbrev pub Fits : (writer reader : ℕ) → (put taken : List Delivery) → ℕ → Log → Type 0
Fits writer reader put taken pass v = (v.puts ≡ true → (pass ≡ writer) × (v.put ≡ put)) × (v.takes ≡ true → (pass ≡ reader) × (v.taken ≡ taken))

abbrev pub KeepsOrder : List Delivery → List Log → Type 0
KeepsOrder items views = (writer : ℕ) × (reader : ℕ) × (put : List Delivery) × (taken : List Delivery) × (length items ≤ LINE_PLACES) × (put ≡ taken ++ items)
    × ((pass : ℕ) (v : Log) → get_elem? views pass ≡ some v → Fits writer reader put taken pass v)
