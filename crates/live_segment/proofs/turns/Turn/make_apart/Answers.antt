use Rattle.std.proofs.Common.{◌≡◌, inl, ap, rules}
use Rattle.segment_law.specs.declared.refusal.Refusal.TheVariants.{TraceFull}
use Rattle.segment_state.specs.declared.made.Made.{Made}
use Rattle.segment_state.specs.declared.made.Made.TheVariants as made
use Rattle.segment_state.specs.Answers.{reply_with}
use Rattle.live_segment.proofs.Working.{answered_when}
use Rattle.live_segment.proofs.turns.Turn.make_apart.Goals as goal

pub returns-in-Ok : goal.returns-in-Ok
returns-in-Ok c =
    let told = c.apply_telling.new.told in
    let r = reply_with c.in-Ok.made told in
    inl (r, answered_when c.args.live.now c.apply_telling.new.self c.args.call r (λ full. let h = c.in-Ok.ensures.full full in let is : c.in-Ok.made ≡ made.Refused TraceFull = search rules in (ap (λ (m : Made). reply_with m told) is, h.1)) c.in-Ok.ensures.applied, c.answered.ensures told)
