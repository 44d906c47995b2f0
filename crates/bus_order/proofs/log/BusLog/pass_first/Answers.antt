use Rattle.std.proofs.Common.{◌≡◌, ap, ◌∙◌, length, arith}
use Rattle.bus_order.specs.Bus.{Bus, waiting}
use Rattle.bus_order.specs.Abreast.{passed_first}
use Rattle.bus_order.proofs.Steps.{sound_holds}
use Rattle.bus_order.proofs.Abreast.{passed_cursors, passed_waits, passed_sound}
use Rattle.bus_order.proofs.log.BusLog.pass_first.Goals as goal

pub pass-requires-clause-cursor : goal.pass-requires-clause-cursor
pass-requires-clause-cursor c =
    let bus = c.args.self.now in
    let i = c.loop-cursor.cursor in
    let many : length c.loop-cursor.self.cursors ≡ length bus.cursors = ap (λ (b : Bus). length b.cursors) c.loop-cursor.invariant ∙ passed_cursors i bus in
    omega (arith, c.loop-cursor-test.true, c.requires.n)

pub pass-requires-clause-waits : goal.pass-requires-clause-waits
pass-requires-clause-waits c =
    let bus = c.args.self.now in
    let i = c.loop-cursor.cursor in
    let one : waiting c.loop-cursor.self i ≡ 1 = ap (λ (b : Bus). waiting b i) c.loop-cursor.invariant ∙ passed_waits i bus c.len-sound.ensures.sound c.requires.abreast (omega (arith, c.loop-cursor-test.true, c.requires.n)) in
    omega arith

pub returns-clause-holds : goal.returns-clause-holds
returns-clause-holds c =
    let bus = c.args.self.now in
    let i = c.loop-cursor.cursor in
    rw c.loop-cursor.invariant (sound_holds (passed_first i bus) (passed_sound i bus c.len-sound.ensures.sound c.requires.abreast (omega (arith, c.loop-cursor.auto.cursor-end, c.requires.n))))
