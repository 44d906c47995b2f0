-- A station that did nothing before is at a start, and has nothing of another's messages.
use Rattle.std.proofs.Common.{◌≡◌, inl, inr, ℕ, not, [], ◌∷◌, Option, Some, None, refl, ap, ◌∙◌, eq-eqb}
use Rattle.std.specs.Prelude.{slice_get, unwrap_or}
use Rattle.std.specs.List.{list_all}
use Rattle.bus_order.specs.Bus.{frame_again}
use Rattle.pgn_ids.specs.declared.address.Address.{Address}
use Rattle.session_table.specs.Sessions.{state_at}
use Rattle.station_sessions.specs.Opening.{key_of}
use Rattle.station_core.specs.Station.{Station, new_station}
use Rattle.segment_law.specs.Segment.{new_segment, place_of, station_at}
use Rattle.record_law.proofs.Maps.{state_empty}
use Rattle.restart_law.specs.Start.{is_sent_to, is_answer, IsARestart, IsAFirstStart}

place : (a : Address) → place_of (new_segment (a ∷ [])) a ≡ Some 0
place a = rw (eq-eqb a.0 a.0 refl) refl

station_is : (a : Address) → station_at (new_segment (a ∷ [])) a ≡ new_station a
station_is a = ap (λ (p : Option ℕ). unwrap_or (elim p as (λ (_ : Option ℕ). Option Station) [ None ↦ None | Some j ↦ slice_get (new_segment (a ∷ [])).stations j ]) (new_station a)) (place a)

pub restart : IsARestart
restart s d start_s unsent unanswered = record {
  unsent = unsent;
  unanswered = ap (λ (z : Station). list_all (λ f. not (is_answer s f)) z.queue) (station_is d);
  sessions = λ kind. ap (λ (z : Station). state_at z.sessions (key_of s kind)) (station_is d) ∙ state_empty (key_of s kind);
  last = frame_again start_s.bus 0;
  is_last = record { of_s = inr refl; of_d = inl refl; unsent = refl; unanswered = unanswered };
}

pub first_start : IsAFirstStart
first_start s d = record {
  nothing_sent = λ to. refl;
  nothing_on_the_way = restart s d (new_segment (s ∷ [])) (ap (λ (z : Station). list_all (λ f. not (is_sent_to d f)) z.queue) (station_is s)) refl;
}
