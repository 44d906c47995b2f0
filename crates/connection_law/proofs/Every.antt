-- Every call leads from a segment for which a lane stands to another one: each row of the calls does, and a refusal changes nothing.
use Rattle.std.proofs.Common.{◌≡◌, inl, ℕ, ◌+◌, ◌==◌, true, false, ◌&&◌, [], Some, refl, sym, ap, ◌∙◌}
use Rattle.std.specs.Prelude.{slice_get, position, is_some}
use Rattle.bus_frame.specs.Frames.{CanFrame}
use Rattle.pgn_ids.specs.Pgn.{is_pgn}
use Rattle.pgn_ids.specs.Identifier.{meaning_of}
use Rattle.pgn_ids.specs.declared.address.Address.{Address}
use Rattle.station_core.specs.Station.{Station}
use Rattle.segment_law.specs.Told.{sent_by}
use Rattle.segment_law.specs.Segment.{Segment, place_of, has_station}
use Rattle.segment_law.specs.Calls.{applied, events_of, is_address, are_bytes, is_call}
use Rattle.segment_law.specs.Reached.{IsReached}
use Rattle.segment_law.specs.declared.call.Call.{Call}
use Rattle.segment_law.proofs.Booleans.{both_pass}
use Rattle.segment_law.specs.declared.reply.Reply.{Reply}
use Rattle.record_law.proofs.EachCall.{OfStation, each_applied}
use Rattle.record_law.proofs.Segments.{has_address}
use Rattle.lane_law.specs.Choice.{IsChoice}
use Rattle.lane_law.specs.Lane as machine
use Rattle.broadcast_law.proofs.Places.{IsAt, AllOwn}
use Rattle.broadcast_law.proofs.Ports.{one_of_none}
use Rattle.connection_law.proofs.View.{Laws, IsPair, still_same}
use Rattle.connection_law.proofs.Segments.{Good, GoodBy, station_in, goes_quietly, refused_good}
use Rattle.connection_law.proofs.Turns.{opened_at, closed_at, none_opened, turns_same}
use Rattle.connection_law.proofs.Calls.{opens_good, closes_good, pauses_good, resumes_good, fires_good, pumps_good, cancels_good, sends_good}
use Rattle.connection_law.proofs.BusCalls.{injects_good, transmits_good, overruns_good}
use Rattle.connection_law.proofs.TakeCalls.{takes_good, repeats_good}

module _ (laws : Laws) (choose : machine.OnEachLane (λ lane. IsChoice lane.stream.given lane.stream.sent)) (s d : Address) (pair : IsPair s d)
    (x y : ℕ) (seg : Segment) (r : IsReached seg) (each : AllOwn seg) (s_at : IsAt seg x s) (d_at : IsAt seg y d) where
  ticks_good : (n : ℕ) → Good laws s d pair seg (record seg { now = seg.now + n }) [] none_opened [] []
  ticks_good n = record { stands = λ x y g l at_x at_y h. goes_quietly laws s d pair (station_in laws s d pair seg.stations x) (station_in laws s d pair seg.stations y) seg.bus x y g l (still_same s d l _ h); turns = λ y at_y. turns_same (station_in laws s d pair seg.stations y).ports (station_in laws s d pair seg.stations y).ports refl; one = one_of_none [] refl; apart = inl refl }

  -- a frame of neither is injected
  foreign : (f : CanFrame) (j : ℕ) (c : Address) → IsAt seg j c → has_station seg (meaning_of f.id).from ≡ false → (meaning_of f.id).from.0 ≡ c.0 → ⊥
  foreign f j c at unknown e =
      let place : place_of seg (meaning_of f.id).from ≡ Some j = ap (λ (n : ℕ). position (λ (z : Station). z.address.0 == n) seg.stations) (e ∙ sym at.2) ∙ r.places j at.0 at.1 in
      let has : has_station seg (meaning_of f.id).from ≡ true = ap is_some place in
      let z : true ≡ false = sym has ∙ unknown in cc

  -- of a call whose values are of its types
  abbrev Shown : Call → Segment × Reply → Type 0
  Shown call step = is_call call ≡ true → GoodBy laws s d pair seg call step

  of_station : (i : ℕ) (st : Station) → slice_get seg.stations i ≡ Some st → OfStation seg Shown i st
  of_station i st at = record {
    opens = λ a pgn max_len q is. opens_good laws choose s d pair seg r each i st at a pgn max_len;
    closes = λ port q _ is. closes_good laws choose s d pair seg r each i st at port (has_address seg port.station i st q at);
    sends = λ from to pgn bytes q other long short is.
        let h : (is_address to ≡ true) × (is_pgn pgn ≡ true) = both_pass (is_address to) (is_pgn pgn) (both_pass (is_address to && is_pgn pgn) (are_bytes bytes) is).0 in
        sends_good laws choose s d pair seg r each i st at from to pgn bytes (sym (has_address seg from i st q at)) h.1 long short;
    pumps = λ a to q is. pumps_good laws choose s d pair seg r each i st at a to;
    transmits = λ a f q e free is. transmits_good laws choose s d pair seg r each i st at a f e;
    takes = λ a room f q e free is. takes_good laws choose s d pair seg r each i st at a room f e;
    repeats = λ a room f q e free is. repeats_good laws choose s d pair seg r each i st at a room f e;
    overruns = λ a n q few is. overruns_good laws choose s d pair seg r each i st at a n few;
    fires = λ a q is. fires_good laws choose s d pair seg r each i st at a;
    cancels = λ from to number q pending is. cancels_good laws choose s d pair seg r each i st at from to number pending;
    pauses = λ port q is. pauses_good laws choose s d pair seg r each i st at port;
    resumes = λ port q is. resumes_good laws choose s d pair seg r each i st at port;
  }

  pub good_call : (call : Call) → is_call call ≡ true → Good laws s d pair seg (applied seg call).0 (sent_by s d call (applied seg call).1) (opened_at d call (applied seg call).1) (closed_at d call (applied seg call).1) (events_of (applied seg call).1)
  good_call call is = each_applied seg Shown (record {
    station = of_station;
    ticks = λ n is. ticks_good n;
    injects = λ f no free is. injects_good laws choose s d pair seg r f (foreign f x s s_at no) (foreign f y d d_at no);
  }) (λ call cause is. refused_good laws s d pair seg call cause) call is
