use Rattle.std.proofs.Common.{◌≡◌, ◌<◌, ◌^◌, ap, ◌∙◌, subst, arith}
use Rattle.segment_drain.specs.Drains.{end_at, turns_from, undrained}
use Rattle.segment_drain.proofs.Drains.{Says, Draining, rest_is_fair, counted, draining_begins, draining_goes, turn_says, last_says}
use Rattle.segment_drain.proofs.Wholes.{drain_calls, drain_few, drain_to_all, drain_stands, drain_rests}
use Rattle.segment_drain.proofs.Calm.{never_calm}
use Rattle.segment_drain.proofs.Healing.{healed_end}
use Rattle.segment_drain.proofs.Enough.{asked_most, enough_end, refused_end, held_end, rest_end}
use Rattle.segment_drain.proofs.draining.drain.Goals as goal

pub loop-init : goal.loop-init
loop-init c = draining_begins c.args.segment.now c.new-course.result c.new-course.ensures.turns c.new-course.ensures.frames c.new-course.ensures.times c.new-course.ensures.parts

pub turn-requires : goal.turn-requires
turn-requires c =
    let count : c.loop.course.turns ≡ c.loop.counter = counted c.args.segment.now c.loop.counter c.loop.segment c.loop.course c.loop.invariant in
    let below : c.loop.counter < c.args.turns = c.loop-test.true in
    let within : c.args.turns < 2 ^ 64 = c.ranges.turns.fits in
    omega (arith, count, below, within)

pub loop-preserved : goal.loop-preserved
loop-preserved c = draining_goes c.args.segment.now c.loop.counter c.turn.new.segment c.turn.new.course (c.in_default.ensures (turns_from c.loop.counter (undrained c.args.segment.now)) c.loop.invariant.shown c.loop.invariant.on)

pub returns-in-Err : goal.returns-in-Err
returns-in-Err c =
    let says : Says c.args.segment.now c.turn.new.segment c.args.turns c.ended.result = turn_says c.args.segment.now c.args.turns c.loop.counter c.turn.new.segment c.turn.new.course c.ended.result c.loop-test.true c.loop.invariant.on c.in-Err.end
    (c.in-Err.ensures (turns_from c.loop.counter (undrained c.args.segment.now)) c.loop.invariant.shown c.loop.invariant.on)
    (record { turns = c.ended.ensures.turns; frames = c.ended.ensures.frames; times = c.ended.ensures.times; parts = c.ended.ensures.parts; end = c.ended.ensures.end }) in
    record {
      done = says.done_is;
      begun = says.begun_is;
      calls = drain_calls c.args.segment.now;
      few = drain_few c.args.segment.now;
      stands = λ addresses steps h. drain_stands addresses steps c.args.segment.now h;
      rest = λ addresses steps h e. drain_rests c.what_has_stopped_rests.ensures.rests c.what_has_stopped_rests.ensures.ends addresses steps c.args.segment.now c.turn.new.segment c.args.turns c.ended.result h (says.done_is (rest_is_fair e)) e;
      enough = λ addresses steps h. enough_end c.work_falls.ensures c.overruns_fall.ensures addresses steps c.args.segment.now h c.args.turns c.ended.result c.turn.new.segment says.done_is;
      asked = λ addresses steps h. asked_most c.there_is_no_storm.ensures.work addresses steps c.args.segment.now h;
      refused = λ addresses steps h. refused_end c.work_falls.ensures c.overruns_fall.ensures addresses steps c.args.segment.now h c.args.turns c.ended.result c.turn.new.segment says.done_is;
      held = λ addresses steps h. held_end c.work_falls.ensures c.overruns_fall.ensures addresses steps c.args.segment.now h c.args.turns c.ended.result c.turn.new.segment says.done_is;
      calm = λ addresses steps h. never_calm addresses steps c.args.segment.now h;
      heals = λ addresses steps h. rest_end c.work_falls.ensures c.overruns_fall.ensures addresses steps c.args.segment.now h c.args.turns c.ended.result c.turn.new.segment says.done_is;
      healed = λ addresses steps h. healed_end c.work_falls.ensures c.overruns_fall.ensures c.what_has_stopped_rests.ensures.rests c.what_has_stopped_rests.ensures.ends addresses steps c.args.segment.now h c.args.turns c.ended.result c.turn.new.segment says.done_is;
      to_all = λ addresses steps h n. drain_to_all c.broadcasts_end_as_such.ensures addresses steps c.args.segment.now h n;
      headline = λ addresses steps. c.the_headline_holds.ensures addresses steps c.turn.new.segment;
    }

pub returns : goal.returns
returns c =
    let same : c.loop.counter ≡ c.args.turns = (let below = c.loop.auto.counter-end in let above = c.loop-test.false in omega (arith, below, above)) in
    let says : Says c.args.segment.now c.loop.segment c.args.turns c.ended-2.result = last_says c.args.segment.now c.args.turns c.loop.segment c.loop.course c.ended-2.result
    (subst (λ n. Draining c.args.segment.now n c.loop.segment c.loop.course) same c.loop.invariant)
    (record { turns = c.ended-2.ensures.turns; frames = c.ended-2.ensures.frames; times = c.ended-2.ensures.times; parts = c.ended-2.ensures.parts; end = c.ended-2.ensures.end ∙ c.end_at.ensures ∙ ap end_at c.next_of.ensures }) in
    record {
      done = says.done_is;
      begun = says.begun_is;
      calls = drain_calls c.args.segment.now;
      few = drain_few c.args.segment.now;
      stands = λ addresses steps h. drain_stands addresses steps c.args.segment.now h;
      rest = λ addresses steps h e. drain_rests c.what_has_stopped_rests.ensures.rests c.what_has_stopped_rests.ensures.ends addresses steps c.args.segment.now c.loop.segment c.args.turns c.ended-2.result h (says.done_is (rest_is_fair e)) e;
      enough = λ addresses steps h. enough_end c.work_falls.ensures c.overruns_fall.ensures addresses steps c.args.segment.now h c.args.turns c.ended-2.result c.loop.segment says.done_is;
      asked = λ addresses steps h. asked_most c.there_is_no_storm.ensures.work addresses steps c.args.segment.now h;
      refused = λ addresses steps h. refused_end c.work_falls.ensures c.overruns_fall.ensures addresses steps c.args.segment.now h c.args.turns c.ended-2.result c.loop.segment says.done_is;
      held = λ addresses steps h. held_end c.work_falls.ensures c.overruns_fall.ensures addresses steps c.args.segment.now h c.args.turns c.ended-2.result c.loop.segment says.done_is;
      calm = λ addresses steps h. never_calm addresses steps c.args.segment.now h;
      heals = λ addresses steps h. rest_end c.work_falls.ensures c.overruns_fall.ensures addresses steps c.args.segment.now h c.args.turns c.ended-2.result c.loop.segment says.done_is;
      healed = λ addresses steps h. healed_end c.work_falls.ensures c.overruns_fall.ensures c.what_has_stopped_rests.ensures.rests c.what_has_stopped_rests.ensures.ends addresses steps c.args.segment.now h c.args.turns c.ended-2.result c.loop.segment says.done_is;
      to_all = λ addresses steps h n. drain_to_all c.broadcasts_end_as_such.ensures addresses steps c.args.segment.now h n;
      headline = λ addresses steps. c.the_headline_holds.ensures addresses steps c.loop.segment;
    }
