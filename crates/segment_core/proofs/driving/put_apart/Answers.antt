use Rattle.segment_law.specs.declared.reply.Reply.TheVariants.{Done}
use Rattle.std.proofs.Common.{◌≡◌, [], ◌++◌, None, Err, refl, ap, ◌∙◌, rules}
use Rattle.std.specs.Prelude.{option_to_list}
use Rattle.drive_course.specs.Joined.{joined}
use Rattle.segment_core.proofs.Drives.{relisted}
use Rattle.segment_core.proofs.Steps.{puts_made, puts_stopped}
use Rattle.segment_core.proofs.driving.put_apart.Goals as goal

pub returns-in_err-transmit-clause-stopped : goal.returns-in_err-transmit-clause-stopped
returns-in_err-transmit-clause-stopped c =
    let e : c.from_residual.result ≡ Err c.in_err-transmit.field-0.0 = search rules in
    let put = c.args.course.now.frames.items in
    let told = joined c.args.course.now.parts.items in
    rw e (λ start d h. puts_stopped start d c.args.seg.now c.transmit.new.self put told c.args.station c.in_err-transmit.field-0.0 h c.in_err-transmit.ensures.answer)

pub returns-clause-put : goal.returns-clause-put
returns-clause-put c =
    let put = c.args.course.now.frames.items in
    let told = joined c.put.new.self.parts.items in
    record {
      between = c.transmit.new.self;
      shown = c.put.new.self;
      put = λ start d h.
          puts_made start d c.args.seg.now c.transmit.new.self put c.put.new.self.frames.items told c.args.station (Done [])
          (relisted None start d c.args.seg.now put put (joined c.args.course.now.parts.items) told refl (ap joined c.put.ensures.parts) h)
          c.in_ok-transmit.ensures.answer (c.put.ensures.frames ∙ ap (λ o. put ++ option_to_list o) c.front-front.ensures);
      passed = c.take_abreast.ensures;
    }
