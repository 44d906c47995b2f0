-- The names of fields, which count from 1: empty if one has no name.
use Rattle.std.specs.Prelude.{ℕ, List, [], ◌∷◌, ◌++◌, length, codes, ◌==◌, if◌then◌else◌}
use Rattle.std.specs.Fmt.{decimal}
use Rattle.log_reports.specs.declared.naming.Kind.{Kind}
use Rattle.log_reports.specs.declared.naming.Kind.TheVariants.{Vehicle, Component, Ecu, Software}

abbrev pub vehicle_name : ℕ → List ℕ
vehicle_name n = if n == 1 then codes "vehicle identification" else []

abbrev pub component_name : ℕ → List ℕ
component_name n =
    if n == 1 then codes "make"
    else if n == 2 then codes "model"
    else if n == 3 then codes "serial number"
    else if n == 4 then codes "unit number"
    else []

abbrev pub ecu_name : ℕ → List ℕ
ecu_name n =
    if n == 1 then codes "part number"
    else if n == 2 then codes "serial number"
    else if n == 3 then codes "location"
    else if n == 4 then codes "type"
    else if n == 5 then codes "manufacturer"
    else []

abbrev pub name_of : Kind → ℕ → List ℕ
name_of Vehicle n = vehicle_name n
name_of Component n = component_name n
name_of Ecu n = ecu_name n
name_of Software n = []

-- what fields are called that have no name
abbrev pub other_name : Kind → List ℕ
other_name Vehicle = codes "field "
other_name Component = codes "field "
other_name Ecu = codes "field "
other_name Software = codes "software "

-- the name of a field, or its number
abbrev pub field_name : Kind → ℕ → List ℕ
field_name kind n = if length (name_of kind n) == 0 then other_name kind ++ decimal n else name_of kind n
