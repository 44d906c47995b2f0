-- At each record, what holds of a station's sessions holds of every station: it does at first, and each call keeps it.
use Rattle.std.proofs.Common.{◌≡◌, ℕ, List, set, Some, subst}
use Rattle.std.specs.Prelude.{All, slice_get}
use Rattle.std.proofs.lemmas.List.Elements.{All-set, All-map}
use Rattle.std.proofs.lemmas.Option.{slice_get_within, get_or_from_slice_get}
use Rattle.pgn_ids.specs.declared.address.Address.{Address}
use Rattle.station_core.specs.Station.{Station, new_station}
use Rattle.segment_law.specs.Segment.{Segment, rising}
use Rattle.segment_law.specs.Calls.{applied}
use Rattle.segment_law.specs.Record.{Record, StandsAt}
use Rattle.segment_law.specs.declared.call.Call.{Call}
use Rattle.segment_law.specs.declared.reply.Reply.{Reply}
use Rattle.record_law.proofs.EachCall.{OfStation, each_applied}
use Rattle.record_law.proofs.AlongRecords.{at_record}
use Rattle.record_law.proofs.readers.Keeping.{AreKept, kept_none}
use Rattle.record_law.proofs.readers.Sessions.{kept_taken, kept_timer, kept_closed}

abbrev pub Kept : Station → Type 0
Kept st = AreKept st.sessions

abbrev pub AllKept : List Station → Type 0
AllKept stations = All Kept stations

pub kept_at : (stations : List Station) (i : ℕ) (st : Station) → AllKept stations → slice_get stations i ≡ Some st → Kept st
kept_at stations i st all at = subst Kept (get_or_from_slice_get stations i st st at) (all i st (slice_get_within stations i st at))

module _ (seg : Segment) (all : AllKept seg.stations) where
  abbrev Keeps : Call → Segment × Reply → Type 0
  Keeps call step = AllKept step.0.stations

  module _ (i : ℕ) (st : Station) (at : slice_get seg.stations i ≡ Some st) where
    mine : Kept st
    mine = kept_at seg.stations i st all at

    with : (new : Station) → Kept new → AllKept (set seg.stations i new)
    with new k = All-set Kept seg.stations i new k all

    of_station : OfStation seg Keeps i st
    of_station = record {
      opens = λ a pgn max_len q. with _ mine;
      closes = λ port q is. with _ (kept_closed st port.number mine);
      sends = λ from to pgn bytes q other long short. with _ mine;
      pumps = λ a to q. with _ mine;
      transmits = λ a f q e free. with _ mine;
      takes = λ a room f q e free. with _ (kept_taken st mine f room seg.now);
      repeats = λ a room f q e free. with _ (kept_taken st mine f room seg.now);
      overruns = λ a n q few. with _ kept_none;
      fires = λ a q. with _ (kept_timer st mine seg.now);
      cancels = λ from to number q pending. with _ mine;
      pauses = λ port q. with _ mine;
      resumes = λ port q. with _ mine;
    }

  kept_call : (call : Call) → AllKept (applied seg call).0.stations
  kept_call call = each_applied seg Keeps (record { station = of_station; ticks = λ n. all; injects = λ f foreign free. all }) (λ call cause. all) call

pub record_kept : (addresses : List Address) (steps : Record) (seg : Segment) → StandsAt addresses steps seg → AllKept seg.stations
record_kept addresses steps seg h =
    at_record (λ steps seg. AllKept seg.stations) (λ steps seg call r is all. kept_call seg all call) addresses steps seg h (All-map Kept new_station (rising addresses) (λ i a lt. kept_none))
