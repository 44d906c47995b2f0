-- Which messages have a form, and what each means in words.
use Rattle.std.specs.Prelude.{ℕ, List, [], Bool, ◌||◌, ◌==◌, if◌then◌else◌}
use Rattle.log_reports.specs.List.{fault_list}
use Rattle.log_reports.specs.Texts.{identification, software_identification}
use Rattle.log_reports.specs.declared.naming.Kind.TheVariants.{Vehicle, Component, Ecu}

-- active faults (DM1), and faults that were active (DM2)
abbrev pub is_faults : ℕ → Bool
is_faults pgn = pgn == 0xFECA || pgn == 0xFECB

-- fault lists, and the identifications of software, a component, a vehicle and an ECU
abbrev pub has_form : ℕ → Bool
has_form pgn = is_faults pgn || pgn == 0xFEDA || pgn == 0xFEEB || pgn == 0xFEEC || pgn == 0xFDC5

-- the lines of a message with these bytes, none if its PGN has no form
unfoldable pub explained : (pgn : ℕ) → List ℕ → List (List ℕ)
explained pgn bytes =
    if is_faults pgn then fault_list bytes
    else if pgn == 0xFEDA then software_identification bytes
    else if pgn == 0xFEEB then identification Component bytes
    else if pgn == 0xFEEC then identification Vehicle bytes
    else if pgn == 0xFDC5 then identification Ecu bytes
    else []
