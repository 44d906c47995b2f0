use Rattle.std.proofs.Common.{ℕ, ◌-◌, ◌^◌, List, Some, None, sym, ap, ◌∙◌, subst, arith}
use Rattle.segment_law.specs.Segment.{Segment}
use Rattle.tick_timers.specs.Due.{IsDueFrom}
use Rattle.segment_state.specs.Next.{at_tick, is_active}
use Rattle.watched_segment.specs.Calm.{AreCalm}
use Rattle.watched_segment.proofs.Known.{more_known, calm_before, calm_always, active_now}
use Rattle.watched_segment.proofs.watched.Watched.look.Goals as goal

pub invariant_of-self : goal.invariant_of-self
invariant_of-self c =
    let seg = c.self.inside.segment in
    let a = c.args.station in
    let due : IsDueFrom (λ tick. is_active (at_tick seg tick) a) None = c.in_default.ensures in
    subst (λ (ticks : List ℕ). AreCalm ticks seg) (sym c.note.ensures) (more_known c.self.inside.calm.items seg a (2 ^ 64 - 1) (calm_always seg a due) c.self.invariant)

pub returns-in_default-clause-value : goal.returns-in_default-clause-value
returns-in_default-clause-value c =
    let a = c.args.station in
    sym (active_now c.self.inside.segment a c.now-now.result None c.now-now.ensures (omega arith) c.in_default.ensures) ∙ ap (λ (s : Segment). is_active s a) c.self.view_is

pub invariant_of-self-2 : goal.invariant_of-self-2
invariant_of-self-2 c =
    let seg = c.self.inside.segment in
    let a = c.args.station in
    let x = c.in-Some.tick in
    let due : IsDueFrom (λ tick. is_active (at_tick seg tick) a) (Some x) = c.in-Some.ensures in
    subst (λ (ticks : List ℕ). AreCalm ticks seg) (sym c.note-2.ensures) (more_known c.self.inside.calm.items seg a x (calm_before seg a x (omega arith) due) c.self.invariant)

pub returns-clause-value : goal.returns-clause-value
returns-clause-value c =
    let a = c.args.station in
    sym (active_now c.self.inside.segment a c.now-now.result (Some c.in-Some.tick) c.now-now.ensures (omega arith) c.in-Some.ensures) ∙ ap (λ (s : Segment). is_active s a) c.self.view_is
