-- What a segment counts is what its record holds.
use Rattle.std.proofs.Common.{◌≡◌, ℕ, Bool, ◌++◌, List, ◌∷◌, refl, sym, ap, ◌∙◌}
use Rattle.std.proofs.lemmas.List.Sums.{fold-append}
use Rattle.pgn_ids.specs.declared.address.Address.{Address}
use Rattle.message_events.specs.declared.event.Event.{Event}
use Rattle.segment_law.specs.Segment.{Segment, new_segment, no_counts}
use Rattle.segment_law.specs.Calls.{applied, events_of}
use Rattle.segment_law.specs.Drive.{events_in}
use Rattle.segment_law.specs.Record.{Step, Record, StandsAt, after, calls_of}
use Rattle.segment_law.specs.declared.counts.Counts.{Counts}
use Rattle.segment_law.specs.declared.call.Call.{Call}
use Rattle.record_law.proofs.AlongRecords.{along_record}
use Rattle.record_law.specs.Counting.{counts_over, steps_from, puts_frame, takes_again, takes_malformed, is_given, is_acknowledged, is_broadcast, is_aborted, is_timed_out, is_overrun, is_cancelled, is_unreachable}
use Rattle.record_law.proofs.readers.Totals.{grown, more, number_is}
use Rattle.record_law.proofs.readers.Counted.{with_events, with_step, call_counts}

-- each count with what the steps from a segment add to it
abbrev with_steps : Segment → Record → Counts → Counts
with_steps seg steps c =
    with_events (events_in steps) (record c { frames = more puts_frame steps c.frames; malformed = more takes_malformed (steps_from seg steps) c.malformed; repeated = more takes_again steps c.repeated })

-- events, and then others
more_events : (is : Event → Bool) (events later : List Event) (n : ℕ) → more is later (more is events n) ≡ more is (events ++ later) n
more_events is events later n = sym (fold-append (λ k e. grown (is e) k) n events later)

events_then : (events later : List Event) (c : Counts) → with_events later (with_events events c) ≡ with_events (events ++ later) c
events_then events later c = λ i.
    record c {
      given = more_events is_given events later c.given i;
      acknowledged = more_events is_acknowledged events later c.acknowledged i;
      broadcast = more_events is_broadcast events later c.broadcast i;
      aborted = more_events is_aborted events later c.aborted i;
      timed_out = more_events is_timed_out events later c.timed_out i;
      overrun = more_events is_overrun events later c.overrun i;
      cancelled = more_events is_cancelled events later c.cancelled i;
      unreachable = more_events is_unreachable events later c.unreachable i;
    }

abbrev step_counts : Segment → Step → Counts → Counts
step_counts seg step c = with_step (puts_frame step) (takes_again step) (takes_malformed (seg, step)) (events_of step.1) c

-- what comes after a segment adds to its counts
abbrev Adds : Segment → Record → Type 0
Adds seg steps = (after seg (calls_of steps)).counts ≡ with_steps seg steps seg.counts

call_adds : (seg : Segment) (call : Call) (rest : Record) → Adds (applied seg call).0 rest → Adds seg ((call, (applied seg call).1) ∷ rest)
call_adds seg call rest go =
    let step : Step = (call, (applied seg call).1) in
    let next : Segment = (applied seg call).0 in
    let c : Counts = record seg.counts { frames = more puts_frame (step ∷ rest) seg.counts.frames; malformed = more takes_malformed (steps_from seg (step ∷ rest)) seg.counts.malformed; repeated = more takes_again (step ∷ rest) seg.counts.repeated } in
    go ∙ ap (with_steps next rest) (call_counts seg call) ∙ events_then (events_of step.1) (events_in rest) c

-- from nothing counted
from_none : (addresses : List Address) (steps : Record) → with_steps (new_segment addresses) steps no_counts ≡ counts_over addresses steps
from_none addresses steps = λ i.
    record {
      frames = number_is puts_frame steps i;
      malformed = number_is takes_malformed (steps_from (new_segment addresses) steps) i;
      repeated = number_is takes_again steps i;
      given = number_is is_given (events_in steps) i;
      acknowledged = number_is is_acknowledged (events_in steps) i;
      broadcast = number_is is_broadcast (events_in steps) i;
      aborted = number_is is_aborted (events_in steps) i;
      timed_out = number_is is_timed_out (events_in steps) i;
      overrun = number_is is_overrun (events_in steps) i;
      cancelled = number_is is_cancelled (events_in steps) i;
      unreachable = number_is is_unreachable (events_in steps) i;
    }

pub counts_are_recorded : (addresses : List Address) (steps : Record) (seg : Segment) → StandsAt addresses steps seg → seg.counts ≡ counts_over addresses steps
counts_are_recorded addresses steps seg stands =
    ap (λ (s : Segment). s.counts) (sym stands.state)
    ∙ along_record Adds (λ seg r. refl) (λ seg call rest r is go. call_adds seg call rest go) addresses steps seg stands
    ∙ from_none addresses steps
