use Rattle.std.proofs.Common.{ℕ, ◌≤◌, refl, subst}
use Rattle.tx_queue.specs.Queue.{queue_limit}
use Rattle.segment_law.specs.Readers.{queue_len}
use Rattle.segment_law.specs.declared.call.Call.TheVariants.{Transmit}
use Rattle.segment_law.proofs.Drifting.{stands_drifts}
use Rattle.one_station.proofs.AtOnce.{passed_apart}
use Rattle.one_station.proofs.Own.{own_passed}
use Rattle.one_station.proofs.Resting.{room_on_bus, looked_own}
use Rattle.one_station.proofs.node.Node.pass_apart.Goals as goal

pub put-requires-clause-room : goal.put-requires-clause-room
put-requires-clause-room c = room_on_bus c.self.inside.address c.self.inside.segment (Transmit c.self.inside.address) refl c.self.invariant.stood c.self.invariant.looked

pub pass-requires : goal.pass-requires
pass-requires c =
    let few : queue_len c.self.inside.segment c.self.inside.address ≤ queue_limit = subst (λ (n : ℕ). n ≤ queue_limit) c.queue_len-at_most_full.ensures.value c.queue_len-at_most_full.ensures.within in
    own_passed (λ addresses steps seg h. c.stations_queue_their_own.ensures addresses steps seg (stands_drifts addresses steps seg h)) c.self.inside.segment c.put.new.segment c.self.inside.address c.self.invariant.stood c.self.invariant.looked few
    c.in_default.ensures.0 c.in_default.ensures.1

pub returns : goal.returns
returns c =
    passed_apart c.args.self.now c.self.inside.segment c.put.new.segment c.pass.new.segment c.self.inside.address c.self.inside.told.events c.self.inside.has_missed c.self.inside.quiet_until tt c.self.view_is c.in_default.ensures.0 c.in_default.ensures.1 c.pass.ensures

pub invariant_of-self-2 : goal.invariant_of-self-2
invariant_of-self-2 c =
    let few : queue_len c.self.inside.segment c.self.inside.address ≤ queue_limit = subst (λ (n : ℕ). n ≤ queue_limit) c.queue_len-at_most_full.ensures.value c.queue_len-at_most_full.ensures.within in
    let passes = own_passed (λ addresses steps seg h. c.stations_queue_their_own.ensures addresses steps seg (stands_drifts addresses steps seg h)) c.self.inside.segment c.put.new.segment c.self.inside.address c.self.invariant.stood c.self.invariant.looked few c.in_default.ensures.0 c.in_default.ensures.1 in
    let l = looked_own c.self.inside.address c.self.inside.segment c.put.new.segment c.pass.new.segment c.self.invariant.stood c.self.invariant.looked c.in_default.ensures.0 c.in_default.ensures.1 passes c.pass.ensures in
    record { stood = l.0; looked = l.1 }
