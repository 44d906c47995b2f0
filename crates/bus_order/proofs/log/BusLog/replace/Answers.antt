use Rattle.std.proofs.Common.{◌≡◌, ◌∙◌, ◌+◌, true, sym, ap, length, replicate, set, [], ◌∷◌, arith}
use Rattle.std.proofs.lemmas.List.{with_items_is, length-replicate}
use Rattle.std.specs.Vec.{with_items}
use Rattle.bus_order.specs.Bus.{Bus, put}
use Rattle.bus_order.specs.Abreast.{are_level, passed_first}
use Rattle.bus_order.specs.LogFields.{log_value}
use Rattle.bus_order.proofs.Steps.{sound_holds}
use Rattle.bus_order.proofs.Level.{stand_level, replaced_is, sound_replaced, rear_replaced, alone_set}
use Rattle.bus_order.proofs.log.BusLog.replace.Goals as goal

pub invariant_of-self : goal.invariant_of-self
invariant_of-self c =
    let log : Bus = log_value c.self.inside in
    let level : are_level log ≡ true = ap are_level c.self.view_is ∙ c.requires.level in
    let n = length c.self.inside.cursors.items in
    let brought : c.bring_all.new.cursors ≡ replicate n c.taken-to.result = rw (← c.deref_mut.ensures.value) c.bring_all.ensures in
    let len : length c.bring_all.new.cursors ≡ c.self.inside.cursors.len = rw brought (length-replicate n c.taken-to.result ∙ (sym (ap length c.deref_mut.ensures.value) ∙ c.deref_mut.ensures.len)) in
    let items : (with_items c.self.inside.cursors c.bring_all.new.cursors).items ≡ replicate n (record { place = log.first + 1; repeatable = true }) = with_items_is c.self.inside.cursors c.bring_all.new.cursors len ∙ brought ∙ ap (replicate n) c.taken-to.ensures in
    let place : c.to.inside.place ≡ log.first + 1 = ap (λ x. x.place) c.to.view_is ∙ ap (λ x. x.place) c.taken-to.ensures in
    let there : c.to-2.inside.place ≡ log.first + 1 = ap (λ x. x.place) c.to-2.view_is ∙ ap (λ x. x.place) c.taken-to.ensures in
    let count : c.stations-count.result ≡ n = c.stations-count.ensures ∙ sym (ap (λ (b : Bus). length b.cursors) c.self.view_is) in
    let kept : set c.self.inside.kept.items 0 c.args.frame ≡ c.args.frame ∷ [] = alone_set c.self.inside.kept.items c.args.frame (stand_level log level).alone in
    record {
      sound = rw (place, kept, items) (sound_replaced log c.args.frame c.self.invariant.sound level);
      rear = rw items (rear_replaced log c.args.frame c.to-2.inside.place c.stations-count.result c.self.invariant.sound level there count);
      room = c.self.invariant.room;
    }

pub returns-clause-passed : goal.returns-clause-passed
returns-clause-passed c =
    let log : Bus = log_value c.self.inside in
    let level : are_level log ≡ true = ap are_level c.self.view_is ∙ c.requires.level in
    let n = length c.self.inside.cursors.items in
    let brought : c.bring_all.new.cursors ≡ replicate n c.taken-to.result = rw (← c.deref_mut.ensures.value) c.bring_all.ensures in
    let len : length c.bring_all.new.cursors ≡ c.self.inside.cursors.len = rw brought (length-replicate n c.taken-to.result ∙ (sym (ap length c.deref_mut.ensures.value) ∙ c.deref_mut.ensures.len)) in
    let items : (with_items c.self.inside.cursors c.bring_all.new.cursors).items ≡ replicate n (record { place = log.first + 1; repeatable = true }) = with_items_is c.self.inside.cursors c.bring_all.new.cursors len ∙ brought ∙ ap (replicate n) c.taken-to.ensures in
    let place : c.to.inside.place ≡ log.first + 1 = ap (λ x. x.place) c.to.view_is ∙ ap (λ x. x.place) c.taken-to.ensures in
    let kept : set c.self.inside.kept.items 0 c.args.frame ≡ c.args.frame ∷ [] = alone_set c.self.inside.kept.items c.args.frame (stand_level log level).alone in
    (λ i. record { first = place i; kept = kept i; cursors = items i })
    ∙ sym (replaced_is log c.args.frame c.self.invariant.sound level)
    ∙ ap (λ (b : Bus). passed_first (length b.cursors) (put b c.args.frame)) c.self.view_is

pub returns-clause-holds : goal.returns-clause-holds
returns-clause-holds c = sound_holds _ (invariant_of-self c).sound
