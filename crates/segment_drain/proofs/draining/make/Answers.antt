use Rattle.std.proofs.Common.{◌∙◌, ◌++◌, ℕ, map, ap}
use Rattle.std.specs.Prelude.{option_to_list}
use Rattle.bus_frame.specs.Frames.{CanFrame}
use Rattle.segment_drain.specs.Drains.{goes_on_by}
use Rattle.segment_drain.proofs.Drains.{done_makes, refused_makes, opened_makes, sent_makes}
use Rattle.segment_drain.proofs.draining.make.Goals as goal

pub returns-in-Ok-Done : goal.returns-in-Ok-Done
returns-in-Ok-Done c = λ d h. done_makes d c.args.call c.args.segment.now c.apply.new.self c.args.course.now c.make_room.new.self c.note.new.self h c.make_room.ensures.same
    c.in-Ok-Done.events c.frame_put-put.result c.goes_on.result (c.in-Ok-Done.ensures.ok ∙ ap (λ r. (c.apply.new.self, r)) c.in-Ok-Done.field-0-is) c.frame_put-put.ensures (c.goes_on.ensures ∙ ap (goes_on_by c.apply.new.self) c.timed_by-timed.ensures) c.note.ensures.turns c.note.ensures.frames (c.note.ensures.times ∙ ap (λ (n : ℕ). c.make_room.new.self.times.items ++ map (λ (frame : CanFrame). n) (option_to_list c.frame_put-put.result)) c.now-now.ensures) c.note.ensures.told

pub returns-in-Ok-Refused : goal.returns-in-Ok-Refused
returns-in-Ok-Refused c = λ d h. refused_makes d c.args.call c.args.segment.now c.apply.new.self c.args.course.now c.make_room.new.self c.count.new.self h c.make_room.ensures.same
    c.in-Ok-Refused.cause (c.in-Ok-Refused.ensures.ok ∙ ap (λ r. (c.apply.new.self, r)) c.in-Ok-Refused.field-0-is) c.count.ensures

pub returns-in-Ok-Opened : goal.returns-in-Ok-Opened
returns-in-Ok-Opened c = λ d h. opened_makes d c.args.call c.args.segment.now c.apply.new.self c.args.course.now c.make_room.new.self c.count-in-Ok-Opened.new.self h c.make_room.ensures.same
    c.in-Ok-Opened.field-0-0 (c.in-Ok-Opened.ensures.ok ∙ ap (λ r. (c.apply.new.self, r)) c.in-Ok-Opened.field-0-is) c.count-in-Ok-Opened.ensures

pub returns-in-Ok-Sent : goal.returns-in-Ok-Sent
returns-in-Ok-Sent c = λ d h. sent_makes d c.args.call c.args.segment.now c.apply.new.self c.args.course.now c.make_room.new.self c.count-in-Ok-Sent.new.self h c.make_room.ensures.same
    c.in-Ok-Sent.field-0-0 (c.in-Ok-Sent.ensures.ok ∙ ap (λ r. (c.apply.new.self, r)) c.in-Ok-Sent.field-0-is) c.count-in-Ok-Sent.ensures
