use Rattle.std.proofs.Common.{ℕ, ◌+◌, ◌*◌, ◌≤◌, sym, subst, arith}
use Rattle.tick_timers.specs.declared.durations.TheConstants.{T1}
use Rattle.log_decode.specs.Due.{NoneDueBefore}
use Rattle.log_decode.proofs.Due.{from_zero, sooner}
use Rattle.log_decode.proofs.Keeping.{at_frame}
use Rattle.log_decode.proofs.bus.Bus.take.Goals as goal

pub invariant_of-self : goal.invariant_of-self
invariant_of-self c = from_zero c.pass.new.sessions.entries

pub invariant_of-self-in_err-stray : goal.invariant_of-self-in_err-stray
invariant_of-self-in_err-stray c = from_zero c.take_frame.new.sessions.entries

pub invariant_of-self-2 : goal.invariant_of-self-2
invariant_of-self-2 c =
    let due : ℕ = c.min-self-inside.result in
    let soon : due ≤ c.now_at-now.result + T1 * 1000 = omega (arith, c.soonest.ensures) in
    let before = sooner c.in_ok-due.due due c.pass.new.sessions.entries (omega arith) c.in_ok-due.ensures.next in
    let after = at_frame c.args.iface c.args.frame.now c.args.most c.now_at-now.result due (c.pass.new.sessions.entries, c.pass.new.told.items) soon before in
    subst (λ h. NoneDueBefore due h.0) (sym c.in_ok-stray.ensures.told) after
