use Rattle.std.proofs.Common.{rules, ◌≡◌, ℕ, true, false, [], List, Option, Ok, Err, refl, sym, ap, ◌∙◌, subst}
use Rattle.std.specs.Prelude.{IsOk}
use Rattle.segment_law.specs.Segment.{Segment}
use Rattle.segment_law.specs.Calls.{Answer, at_address, takes, called, applied, replied, events_of}
use Rattle.segment_law.specs.declared.reply.Reply.TheVariants as reply
use Rattle.segment_state.specs.Memory.{MayAskMemory}
use Rattle.segment_law.specs.Record.{StandsAt}
use Rattle.segment_law.specs.Readers.{wanted, ports_given}
use Rattle.segment_law.specs.declared.call.Call.TheVariants.{Take}
use Rattle.segment_law.specs.declared.reply.Reply.TheVariants.{Done}
use Rattle.segment_state.specs.declared.stop.Stop.{Stop}
use Rattle.segment_state.specs.declared.stop.Stop.TheVariants.{Refused}
use Rattle.segment_state.specs.Answers.{IsAnswer, IsPart}
use Rattle.segment_state.proofs.Kept.{when_some}
use Rattle.record_law.proofs.readers.Takes.{wanted_is_given}
use Rattle.segment_state.proofs.Records.{done_stands, refused_stands, takes_called}
use Rattle.segment_core.proofs.segment.Segment.take_unless_whole.Goals as goal

pub returns-clause-stands : goal.returns-clause-stands
returns-clause-stands c = λ addresses steps stands.
    let seg = c.self.inside.state in
    done_stands seg c.take_part.new.self (Take c.args.station true) (Done c.take_part.new.told) refl
    (takes_called seg c.args.station true
    ∙ subst (λ (o : Option (Unit {0})). IsPart c.take_part.new.told (at_address seg c.args.station (takes seg true)) seg c.take_part.new.self (Ok o)) c.in-Ok-Some.field-0-is c.in-Ok-Some.ensures.answer)
    addresses steps (subst (λ s. StandsAt addresses steps s) (sym c.self.view_is) stands)

pub returns-in-Err-Refused-clause-stands : goal.returns-in-Err-Refused-clause-stands
returns-in-Err-Refused-clause-stands c = λ addresses steps stands.
    let seg = c.self.inside.state in
    let is : c.in-Err-Refused.field-0 ≡ Refused c.in-Err-Refused.cause = search rules in
    refused_stands seg c.take_part.new.self (Take c.args.station true) c.in-Err-Refused.cause c.in-Err-Refused.field-0 refl is
    (subst (λ (a : Answer). IsAnswer a seg c.take_part.new.self (Err c.in-Err-Refused.field-0)) (sym (takes_called seg c.args.station true)) c.in-Err-Refused.ensures.answer)
    addresses steps (subst (λ s. StandsAt addresses steps s) (sym c.self.view_is) stands)

pub returns-clause-headline : goal.returns-clause-headline
returns-clause-headline c = λ addresses steps. c.the_headline_holds.ensures addresses steps _

pub returns-in-Ok-None-clause-headline : goal.returns-in-Ok-None-clause-headline
returns-in-Ok-None-clause-headline c = λ addresses steps. c.the_headline_holds.ensures addresses steps _

pub returns-in-Err-Refused-clause-headline : goal.returns-in-Err-Refused-clause-headline
returns-in-Err-Refused-clause-headline c = λ addresses steps. c.the_headline_holds.ensures addresses steps _

pub returns-in-Err-OutOfMemory-clause-headline : goal.returns-in-Err-OutOfMemory-clause-headline
returns-in-Err-OutOfMemory-clause-headline c = λ addresses steps. c.the_headline_holds.ensures addresses steps _

pub returns-clause-none : goal.returns-clause-none
returns-clause-none c =
    subst (λ s. (wanted s c.args.station false).0 ≡ []) c.self.view_is
    (ap (λ (w : List ℕ × ℕ). w.0) (when_some (wanted c.self.inside.state c.args.station false ≡ ([], 0)) c.in-Ok-Some.field-0 c.in-Ok-Some.field-0-0 c.in-Ok-Some.field-0-is c.in-Ok-Some.ensures.none))

pub returns-in-Err-Refused-clause-none : goal.returns-in-Err-Refused-clause-none
returns-in-Err-Refused-clause-none c =
    let seg = c.self.inside.state in
    let is : c.in-Err-Refused.field-0 ≡ Refused c.in-Err-Refused.cause = search rules in
    let asked : Answer = at_address seg c.args.station (takes seg true) in
    let refused : (asked ≡ Err c.in-Err-Refused.cause) × (c.take_part.new.self ≡ seg) = subst (λ (s : Stop). IsAnswer asked seg c.take_part.new.self (Err s)) is c.in-Err-Refused.ensures.answer in
    subst (λ s. (wanted s c.args.station false).0 ≡ []) c.self.view_is
    (wanted_is_given seg c.args.station false
    ∙ ap (λ (a : Answer). ports_given (events_of (replied seg a).1)) (takes_called seg c.args.station true ∙ refused.0))

pub returns-in-Err-Refused-clause-ok : goal.returns-in-Err-Refused-clause-ok
returns-in-Err-Refused-clause-ok c =
    let seg = c.self.inside.state in
    let asked : Answer = at_address seg c.args.station (takes seg true) in
    let refused : (asked ≡ Err c.in-Err-Refused.cause) × (c.take_part.new.self ≡ seg) = subst (λ (s : Stop). IsAnswer asked seg c.take_part.new.self (Err s)) c.in-Err-Refused.field-0-is c.in-Err-Refused.ensures.answer in
    subst (λ (s : Segment). applied s (Take c.args.station true) ≡ (c.take_part.new.self, reply.Refused c.in-Err-Refused.cause)) c.self.view_is
    (ap (λ (a : Answer). replied seg a) (takes_called seg c.args.station true ∙ refused.0) ∙ ap (λ (s : Segment). (s, reply.Refused c.in-Err-Refused.cause)) (sym refused.1))

pub returns-in-Err-OutOfMemory-clause-not_refused : goal.returns-in-Err-OutOfMemory-clause-not_refused
returns-in-Err-OutOfMemory-clause-not_refused c =
    let seg = c.self.inside.state in
    let asked : Answer = at_address seg c.args.station (takes seg true) in
    let left : IsOk asked × (c.take_part.new.self ≡ seg) = subst (λ (s : Stop). IsAnswer asked seg c.take_part.new.self (Err s)) c.in-Err-OutOfMemory.field-0-is c.in-Err-OutOfMemory.ensures.answer in
    subst (λ (s : Segment). IsOk (called s (Take c.args.station true))) c.self.view_is
    (subst (λ (a : Answer). IsOk a) (sym (takes_called seg c.args.station true)) left.0)

pub returns-in-Err-OutOfMemory-clause-memory : goal.returns-in-Err-OutOfMemory-clause-memory
returns-in-Err-OutOfMemory-clause-memory c =
    subst (λ (s : Segment). MayAskMemory s (Take c.args.station true)) c.self.view_is (c.in-Err-OutOfMemory.ensures.memory (ap Err c.in-Err-OutOfMemory.field-0-is))
