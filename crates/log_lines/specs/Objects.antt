-- Objects, as serde_json writes them.
use Rattle.std.specs.Prelude.{ℕ, List, [], ◌∷◌, ◌++◌, Bool, true, codes}
use Rattle.json.specs.Print.{quoted}
use Rattle.serde_json.specs.Data.{Data, number, unsigned, array, object, Items, no_items, item, Members, no_members, member}
use Rattle.serde_json.specs.Written.{comma_if, compact_text}

-- a member, by its name
abbrev pub Named : Type 0
Named = List ℕ × Data

abbrev pub members_from : List Named → Members
members_from [] = no_members
members_from (m ∷ ms) = member m.0 m.1 (members_from ms)

-- an object of these members
abbrev pub object_of : List Named → Data
object_of ms = object (members_from ms)

abbrev pub items_from : List Data → Items
items_from [] = no_items
items_from (d ∷ ds) = item d (items_from ds)

-- an array of these values
abbrev pub array_of : List Data → Data
array_of ds = array (items_from ds)

abbrev pub count_of : ℕ → Data
count_of n = number (unsigned n)

-- the text of an object, alone on a line
abbrev pub object_line : List Named → List ℕ
object_line ms = compact_text (object_of ms) ++ codes "\n"

-- The text of a member, after another one or as the first

unfoldable pub key_text : (later : Bool) → (name : List ℕ) → List ℕ
key_text later name = comma_if later ++ quoted name ++ codes ":"

unfoldable pub member_text : (later : Bool) → (name : List ℕ) → Data → List ℕ
member_text later name d = key_text later name ++ compact_text d

-- members behind another one, to the end of the line
abbrev pub rest_text : List Named → List ℕ
rest_text [] = codes "}\n"
rest_text (m ∷ ms) = member_text true m.0 m.1 ++ rest_text ms
