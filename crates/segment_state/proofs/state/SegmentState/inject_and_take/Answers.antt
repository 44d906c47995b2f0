use Rattle.std.proofs.Common.{◌≡◌, ℕ, length, true, false, sym, ap, ◌∙◌, arith}
use Rattle.std.specs.Prelude.{is_some}
use Rattle.pgn_ids.specs.Identifier.{meaning_of}
use Rattle.bus_order.specs.Bus.{Bus, put}
use Rattle.bus_order.proofs.Abreast.{passed_cursors}
use Rattle.segment_law.specs.Segment.{has_station}
use Rattle.segment_state.proofs.Addresses.{taken_keeps}
use Rattle.segment_state.proofs.AtOnce.{inject_taken}
use Rattle.segment_state.proofs.Kept.{inside_moved}
use Rattle.segment_state.proofs.state.SegmentState.inject_and_take.Goals as goal

pub invariant_of-self-2 : goal.invariant_of-self-2
invariant_of-self-2 c =
    let s = c.self.inside in
    let m = inside_moved s 0 c.take.new.self c.index_mut.result.now c.put_passed.new.self c.self.invariant c.index_mut.ensures.value
    (ap (λ x. x.station.address) (sym c.in-Ok.ensures.ok) ∙ taken_keeps c.index_mut.result.now c.args.frame.now true c.now-now.result)
    (ap (λ (b : Bus). length b.cursors) c.put_passed.ensures.passed ∙ passed_cursors 1 (put s.bus c.args.frame.now)) in
    record { few = m.few; cursors = m.cursors; places = m.places; in_place = m.in_place }

pub returns-clause-made : goal.returns-clause-made
returns-clause-made c =
    let zero : c.in-Some.place ≡ 0 = omega arith in
    let from_is : c.read_id.result ≡ meaning_of c.args.frame.now.id = c.read_id.ensures ∙ ap meaning_of c.id.ensures.value in
    let foreign : has_station c.args.self.now (meaning_of c.args.frame.now.id).from ≡ false =
    ap (λ m. has_station c.args.self.now m.from) (sym from_is) ∙ ap is_some (sym c.place_of-2.ensures.value) ∙ sym c.is_some.ensures ∙ c.if-is_some.false in
    inject_taken c.self.inside c.args.self.now c.args.station c.in-Some.place c.now-now.result c.index_mut.result.now c.take.new.self c.args.frame.now c.take.new.told c.in-Ok.is_malformed c.put_passed.new.self c.count_frame.new.counts c.looked.new.self
    c.fits_frame.ensures c.self.invariant c.self.view_is c.are_level.ensures.sound (sym c.are_level.ensures.value ∙ c.if-not-are_level.false) c.in-Some.ensures.value zero c.in-Some.ensures.within
    foreign c.index_mut.ensures.value c.in-Ok.ensures.refused c.now-now.ensures.value c.in-Ok.ensures.ok c.in-Ok.ensures.malformed c.count_frame.ensures c.put_passed.ensures.passed c.looked.ensures
