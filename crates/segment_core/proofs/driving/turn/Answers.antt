use Rattle.std.proofs.Common.{◌≡◌, None, Err, sym, subst, ◌∙◌, rules}
use Rattle.drive_course.specs.Joined.{joined}
use Rattle.segment_law.specs.Drive.{Driven, turn}
use Rattle.segment_core.specs.Drives.{HasGone, IsShown}
use Rattle.segment_core.proofs.Steps.{gone_by}
use Rattle.segment_core.proofs.Together.{pass_length, swept}
use Rattle.segment_core.proofs.Turns.{turn_stops, sweeping_begins, sweeping_goes, sweeping_stops, sweeping_ends}
use Rattle.segment_core.proofs.driving.turn.Goals as goal

pub returns-in_err-station : goal.returns-in_err-station
returns-in_err-station c = λ start d h.
    let e : c.from_residual.result ≡ Err c.in_err-station.field-0.0 = search rules in
    let put = c.transmitter.new.course.frames.items in
    let told = joined c.transmitter.new.course.parts.items in
    gone_by start (turn c.args.from c.args.to d) c.transmitter.new.seg put told c.from_residual.result c.in_err-station.field-0.0 e
    (turn_stops c.args.from c.args.to start d c.transmitter.new.seg put told c.in_err-station.field-0.0 (c.in_err-station.ensures.stopped start d h))

pub returns-in_err-first : goal.returns-in_err-first
returns-in_err-first c = λ start d h.
    let e : c.from_residual-in_err-first.result ≡ Err c.in_err-first.field-0.0 = search rules in
    let put = c.put_one.new.course.frames.items in
    let told = joined c.put_one.new.course.parts.items in
    let next = c.in_ok-station.ensures.found start d h in
    let gone = subst (λ (x : Driven). HasGone start x c.put_one.new.seg put told (Err c.in_err-first.field-0.0)) next.on (c.in_err-first.ensures.stopped start next.at next.shown) in
    gone_by start (turn c.args.from c.args.to d) c.put_one.new.seg put told c.from_residual-in_err-first.result c.in_err-first.field-0.0 e
    (turn_stops c.args.from c.args.to start d c.put_one.new.seg put told c.in_err-first.field-0.0 gone)

pub loop-place-init : goal.loop-place-init
loop-place-init c =
    let done = c.in_ok-first.ensures.put in
    let put = done.shown.frames.items in
    let parts = done.shown.parts.items in
    swept c.in_ok-first.first done.between c.put_one.new.seg done.shown c.put_one.new.course done.passed
    c.args.from c.args.to c.args.seg.now c.args.course.now.frames.items c.args.course.now.parts.items c.station_count-count.result
    (sweeping_begins c.args.from c.args.to c.args.seg.now c.args.course.now.frames.items c.args.course.now.parts.items c.station_count-count.result
    done.between put parts (sym (pass_length c.in_ok-first.first done.between c.put_one.new.seg done.shown c.put_one.new.course done.passed) ∙ sym c.station_count-count.ensures)
    (λ start d h.
    let next = c.in_ok-station.ensures.found start d h in
    subst (λ (x : Driven). IsShown None start x done.between put (joined parts)) next.on (done.put start next.at next.shown)))

pub loop-place-preserved : goal.loop-place-preserved
loop-place-preserved c =
    sweeping_goes c.args.from c.args.to c.args.seg.now c.args.course.now.frames.items c.args.course.now.parts.items c.station_count-count.result c.loop-place.place
    c.loop-place.seg c.take_all.new.seg c.loop-place.course.frames.items c.take_all.new.course.frames.items c.loop-place.course.parts.items c.take_all.new.course.parts.items c.address_at-station.result
    c.loop-place.invariant c.loop-place-test.true c.address_at-station.ensures c.in_ok-take_all.ensures.addresses (λ start d h. c.in_ok-take_all.ensures.took start d h)

pub returns-in_err-take_all : goal.returns-in_err-take_all
returns-in_err-take_all c = λ start d h.
    let e : c.from_residual-in_err-take_all.result ≡ Err c.in_err-take_all.field-0.0 = search rules in
    gone_by start (turn c.args.from c.args.to d) c.take_all.new.seg c.take_all.new.course.frames.items (joined c.take_all.new.course.parts.items) c.from_residual-in_err-take_all.result c.in_err-take_all.field-0.0 e
    (sweeping_stops c.args.from c.args.to c.args.seg.now c.args.course.now.frames.items c.args.course.now.parts.items c.station_count-count.result c.loop-place.place
    c.loop-place.seg c.take_all.new.seg c.loop-place.course.frames.items c.take_all.new.course.frames.items c.loop-place.course.parts.items c.take_all.new.course.parts.items c.address_at-station.result c.in_err-take_all.field-0.0
    c.loop-place.invariant c.loop-place-test.true c.address_at-station.ensures (λ from x k. c.in_err-take_all.ensures.took from x k) start d h)

pub returns : goal.returns
returns c = λ start d h.
    sweeping_ends c.args.from c.args.to c.args.seg.now c.args.course.now.frames.items c.args.course.now.parts.items c.station_count-count.result c.loop-place.place
    c.loop-place.seg c.loop-place.course.frames.items c.loop-place.course.parts.items c.loop-place.invariant c.loop-place-test.false start d h
