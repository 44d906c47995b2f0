-- What of a log is asked for.
use Rattle.std.specs.Prelude.{ℕ, List, [], ◌∷◌, length, Bool, false, not, ◌&&◌, ◌||◌, ◌==◌, if◌then◌else◌}
use Rattle.pgn_ids.specs.declared.address.Address.{Address}
use Rattle.log_reports.specs.Groups.{has_form}
use Rattle.log_reports.specs.Told.{key_told, pgn_told}
use Rattle.log_reports.specs.declared.marks.Detail.{Detail}
use Rattle.log_reports.specs.declared.marks.Detail.TheVariants.{Ends, Frames}
use Rattle.log_reports.specs.declared.told.Told.{Told}
use Rattle.bus_decode.specs.declared.options.Options.{Options}

abbrev pub is_among : List ℕ → ℕ → Bool
is_among [] n = false
is_among (x ∷ xs) n = x == n || is_among xs n

-- whether a number is asked for; each is if none is named
abbrev pub takes : List ℕ → ℕ → Bool
takes wanted n = length wanted == 0 || is_among wanted n

-- a message of this PGN between these addresses
abbrev pub is_asked_for : Options → (from to : Address) → (pgn : ℕ) → Bool
is_asked_for options from to pgn = takes options.pgns pgn && takes options.from from.0 && takes options.to to.0

-- whether a report is asked for
abbrev pub is_told_asked : Options → Told → Bool
is_told_asked options t = is_asked_for options (key_told t).from (key_told t).to (pgn_told t)

-- whether a report is printed: not if messages are left out
abbrev pub shows : Options → Told → Bool
shows options t = not options.quiet && is_told_asked options t

-- whether it is counted in a summary
abbrev pub sums_up : Options → Told → Bool
sums_up options t = options.summary && is_told_asked options t

-- whether frames that carry nothing of a message are looked at: if some are asked for
abbrev pub shows_singles : Options → Bool
shows_singles options = (options.singles || options.explain) && not options.quiet

-- a frame of this PGN that carries nothing of a message
abbrev pub is_single_asked : Options → (pgn : ℕ) → Bool
is_single_asked options pgn = options.singles || (options.explain && has_form pgn)

-- whether courses are followed: if they are printed or counted
abbrev pub follows : Options → Bool
follows options = options.json || options.frames || options.summary

abbrev pub detail_of : Options → Detail
detail_of options = if options.frames then Frames else Ends
