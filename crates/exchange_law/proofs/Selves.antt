-- A station sends nothing to itself, since a Send to itself is refused: no message of its lane to itself is ever pending.
use Rattle.std.proofs.Common.{◌≡◌, inl, inr, ℕ, List, [], ◌∷◌, length, Some, ap, arith}
use Rattle.std.specs.Prelude.{slice_get}
use Rattle.pgn_ids.specs.declared.address.Address.{Address}
use Rattle.lane_core.specs.Lane.{Lane}
use Rattle.lane_core.specs.declared.message.Pending.{Pending}
use Rattle.segment_law.specs.Told.{Message, sent_by}
use Rattle.segment_law.specs.Segment.{Segment, new_segment, lane_at}
use Rattle.segment_law.specs.Calls as calls
use Rattle.segment_law.specs.Calls.{applied}
use Rattle.segment_law.specs.Record.{Record, StandsAt}
use Rattle.segment_law.specs.Reached.{IsReached}
use Rattle.segment_law.specs.declared.call.Call.{Call}
use Rattle.record_law.proofs.AlongRecords.{at_record}
use Rattle.record_law.proofs.Told.{none_to_itself}
use Rattle.record_law.proofs.outcomes.Counting.{times, times-here}
use Rattle.record_law.proofs.outcomes.LaneSteps.{numbers_of}
use Rattle.record_law.proofs.outcomes.Beginning.{new_at}
use Rattle.record_law.proofs.outcomes.Calls.{Good, good_call}

module _ (s : Address) where
  -- nothing is pending in the lane to itself
  abbrev IsIdle : Segment → Type 0
  IsIdle seg = (n : ℕ) → times n (numbers_of (lane_at seg s s).pending) ≡ 0

  stays_idle : (seg : Segment) (call : Call) → IsReached seg → IsIdle seg → IsIdle (applied seg call).0
  stays_idle seg call r h n = by (good_call s s seg r call)
    where
      by : Good s s seg (applied seg call).0 (sent_by s s call (applied seg call).1) (calls.events_of (applied seg call).1) → times n (numbers_of (lane_at (applied seg call).0 s s).pending) ≡ 0
      by (inl g) = absurd (let none : length (sent_by s s call (applied seg call).1) ≡ 0 = ap (λ (ms : List Message). length ms) (none_to_itself s seg call) in let one : length (sent_by s s call (applied seg call).1) ≡ 1 = g.one in omega (arith, none, one))
      by (inr g) = omega (arith, h n, g.ended.each n)

  pub none_pending : (addresses : List Address) (steps : Record) (seg : Segment) → StandsAt addresses steps seg → (m : Pending) → slice_get (lane_at seg s s).pending 0 ≡ Some m → ⊥
  none_pending addresses steps seg h m front =
      let new : Segment = new_segment addresses in
      let begins : IsIdle new = (λ n. ap (λ (l : Lane). times n (numbers_of l.pending)) (new_at s s addresses).1) in
      let idle : IsIdle seg = at_record (λ steps seg. IsIdle seg) (λ steps seg call r is idle. stays_idle seg call r idle) addresses steps seg h begins in
      by (lane_at seg s s).pending idle front
    where
      by : (ms : List Pending) → ((n : ℕ) → times n (numbers_of ms) ≡ 0) → slice_get ms 0 ≡ Some m → ⊥
      by [] none e = absurd cc
      by (p ∷ ms) none e = absurd (omega (arith, none p.number, times-here p.number (numbers_of ms)))
