-- Every call leads from a segment for which a stream stands to another one: each row of the calls does, and a refusal changes nothing.
use Rattle.std.proofs.Common.{◌≡◌, ℕ, ◌+◌, ◌<◌, ◌==◌, true, false, ◌&&◌, [], length, Some, refl, sym, ap, ◌∙◌, subst, ltb-true}
use Rattle.std.specs.Prelude.{slice_get, position, is_some}
use Rattle.bus_frame.specs.Frames.{CanFrame}
use Rattle.pgn_ids.specs.Address.{is_one}
use Rattle.pgn_ids.specs.Pgn.{is_pgn}
use Rattle.pgn_ids.specs.Identifier.{meaning_of}
use Rattle.pgn_ids.specs.declared.address.Address.{Address}
use Rattle.station_core.specs.Station.{Station}
use Rattle.segment_law.specs.Told.{sent_by}
use Rattle.segment_law.specs.Segment.{Segment, place_of, has_station}
use Rattle.segment_law.specs.Calls.{applied, events_of, with_frame, is_address, are_bytes, is_call}
use Rattle.segment_law.specs.Reached.{IsReached}
use Rattle.segment_law.specs.declared.call.Call.{Call}
use Rattle.segment_law.proofs.Booleans.{both_pass}
use Rattle.segment_law.specs.declared.reply.Reply.{Reply}
use Rattle.record_law.proofs.EachCall.{OfStation, each_applied}
use Rattle.record_law.proofs.Readings.{GivesBack, ReadsBack}
use Rattle.record_law.proofs.Segments.{has_address}
use Rattle.broadcast_law.proofs.Buses.{put_ahead, put_again}
use Rattle.broadcast_law.proofs.Carried.{all, carried_foreign}
use Rattle.broadcast_law.proofs.Frames.{transmits_good, takes_good, repeats_good, overruns_good}
use Rattle.broadcast_law.proofs.Good.{Good, GoodBy, nothing_more, refused_good}
use Rattle.broadcast_law.proofs.Places.{AllOwn, cursor_of, view}
use Rattle.broadcast_law.proofs.Ports.{one_of_none}
use Rattle.broadcast_law.proofs.Send.{AreSeven, puts_other}
use Rattle.broadcast_law.proofs.Sends.{opens_good, closes_good, pauses_good, resumes_good, fires_good, pumps_good, cancels_good, sends_good}
use Rattle.broadcast_law.proofs.View.{View, Stands, GoesOn}

module _ (s listener : Address) (one : is_one s.0 ≡ true) (goes : GoesOn) (gives : GivesBack) (reads : ReadsBack) (seven : AreSeven) where
  module _ (seg : Segment) (r : IsReached seg) (each : AllOwn seg) where
    -- only the clock or the bus changes
    ticks_good : (n : ℕ) → Good s listener seg (record seg { now = seg.now + n }) [] []
    ticks_good n = record {
      each = each;
      there = λ x a h. h;
      before = λ x a h. h;
      stands = λ x y sent given at_x at_y d v. nothing_more s listener (view s x y seg sent given) v;
      silent = λ q. refl;
      one = one_of_none [] refl;
    }

    injects_good : (f : CanFrame) → has_station seg (meaning_of f.id).from ≡ false → Good s listener seg (with_frame seg f) [] []
    injects_good f foreign = record {
      each = each;
      there = λ x a h. h;
      before = λ x a h. h;
      stands = λ x y sent given at_x at_y d v.
          let l : y < length seg.bus.cursors = cursor_of seg r y listener at_y in
          let other : (meaning_of f.id).from.0 ≡ s.0 → ⊥ = λ e.
          (let place : place_of seg (meaning_of f.id).from ≡ Some x = ap (λ (n : ℕ). position (λ (z : Station). z.address.0 == n) seg.stations) (e ∙ sym at_x.2) ∙ r.places x at_x.0 at_x.1 in
          let has : has_station seg (meaning_of f.id).from ≡ true = ap is_some place in
          let no : true ≡ false = sym has ∙ foreign in cc) in
          nothing_more s listener (view s x y (with_frame seg f) sent given)
          (subst (Stands s) (sym (λ k. (let u : View = record (view s x y seg sent given) { ahead = put_ahead seg.bus y f r.bus.sound l k; again = put_again seg.bus y f r.bus.sound l k } in u)))
          (puts_other s goes (view s x y seg sent given) f v (carried_foreign s f other)));
      silent = λ q. refl;
      one = one_of_none [] refl;
    }

    -- of a call whose values are of its types
    abbrev Shown : Call → Segment × Reply → Type 0
    Shown call step = is_call call ≡ true → GoodBy s listener seg call step

    of_station : (i : ℕ) (st : Station) → slice_get seg.stations i ≡ Some st → OfStation seg Shown i st
    of_station i st at = record {
      opens = λ a pgn max_len q is. opens_good s listener one goes gives reads seven seg r each i st at a pgn max_len;
      closes = λ port q _ is. closes_good s listener one goes gives reads seven seg r each i st at port;
      sends = λ from to pgn bytes q other long short is.
          let h : (is_address to ≡ true) × (is_pgn pgn ≡ true) = both_pass (is_address to) (is_pgn pgn) (both_pass (is_address to && is_pgn pgn) (are_bytes bytes) is).0 in
          sends_good s listener one goes gives reads seven seg r each i st at from to pgn bytes (sym (has_address seg from i st q at)) (ltb-true to.0 256 h.0) h.1 long;
      pumps = λ a to q is. pumps_good s listener one goes gives reads seven seg r each i st at a to;
      transmits = λ a f q e free is. transmits_good s listener goes gives seg r each i st at a f e;
      takes = λ a room f q e free is. takes_good s listener goes gives seg r each i st at a room f e;
      repeats = λ a room f q e free is. repeats_good s listener goes gives seg r each i st at a room f e;
      overruns = λ a n q few is. overruns_good s listener goes gives seg r each i st at a n few;
      fires = λ a q is. fires_good s listener one goes gives reads seven seg r each i st at a;
      cancels = λ from to number q pending is. cancels_good s listener one goes gives reads seven seg r each i st at from to number pending;
      pauses = λ port q is. pauses_good s listener one goes gives reads seven seg r each i st at port;
      resumes = λ port q is. resumes_good s listener one goes gives reads seven seg r each i st at port;
    }

    pub good_call : (call : Call) → is_call call ≡ true → Good s listener seg (applied seg call).0 (sent_by s all call (applied seg call).1) (events_of (applied seg call).1)
    good_call call is = each_applied seg Shown (record { station = of_station; ticks = λ n is. ticks_good n; injects = λ f foreign free is. injects_good f foreign }) (λ call cause is. refused_good s listener seg each call cause) call is
