-- A timer of a segment is due exactly where one of the stations so far is: by one station after another.
use Rattle.std.proofs.Common.{ℕ, ◌+◌, ◌<◌, Bool, List, length, Option, None, take, refl, ◌∙◌, get_or}
use Rattle.std.proofs.lemmas.List.Folds.{list_any_more}
use Rattle.std.specs.List.{list_any}
use Rattle.station_core.specs.Station.{Station}
use Rattle.station_core.specs.Timers.{is_due}
use Rattle.tick_timers.specs.Due.{IsDueFrom, earlier_of}
use Rattle.tick_timers.proofs.Dues.{due_from_either}

-- at a tick, one of the first stations is due
abbrev pub any_of : List Station → (count : ℕ) → (now : ℕ) → Bool
any_of stations count now = list_any (λ station. is_due station now) (take count stations)

pub due_next : (stations : List Station) (i : ℕ) (station : Station) (tick more : Option ℕ) → i < length stations → IsDueFrom (any_of stations i) tick → IsDueFrom (is_due (get_or stations i station)) more → IsDueFrom (any_of stations (i + 1)) (earlier_of tick more)
due_next stations i station tick more here is is_more now within =
    list_any_more (λ s. is_due s now) stations i station here
    ∙ due_from_either (any_of stations i) (is_due (get_or stations i station)) tick more is is_more now within

pub due_at_first : (stations : List Station) → IsDueFrom (any_of stations 0) None
due_at_first stations now within = refl

pub ruleset due_laws = (due_next, due_at_first)
