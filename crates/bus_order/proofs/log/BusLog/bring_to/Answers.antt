use Rattle.std.proofs.Common.{◌≡◌, ◌∙◌, sym, ap, length, replicate}
use Rattle.std.proofs.lemmas.List.{with_items_is, length-replicate}
use Rattle.std.specs.Vec.{with_items}
use Rattle.bus_order.specs.LogFields.{log_value}
use Rattle.bus_order.specs.Kept.{IsSound}
use Rattle.bus_order.proofs.Steps.{sound_holds}
use Rattle.bus_order.proofs.Abreast.{log_brought, log_rear}
use Rattle.bus_order.proofs.log.BusLog.bring_to.Goals as goal

pub invariant_of-self : goal.invariant_of-self
invariant_of-self c =
    let n = length c.self.inside.cursors.items in
    let brought : c.bring_all.new.cursors ≡ replicate n c.args.to = rw (← c.deref_mut.ensures.value) c.bring_all.ensures in
    let len : length c.bring_all.new.cursors ≡ c.self.inside.cursors.len = rw brought (length-replicate n c.args.to ∙ (sym (ap length c.deref_mut.ensures.value) ∙ c.deref_mut.ensures.len)) in
    let items : (with_items c.self.inside.cursors c.bring_all.new.cursors).items ≡ c.bring_all.new.cursors = with_items_is c.self.inside.cursors c.bring_all.new.cursors len in
    let place : c.to.inside.place ≡ c.args.to.place = ap (λ x. x.place) c.to.view_is in
    let sound : IsSound (record (log_value c.self.inside) { cursors = replicate n c.args.to }) = log_brought (log_value c.self.inside) c.args.self.now c.args.to c.self.view_is c.self.invariant.sound c.requires.some c.requires.on c.requires.within c.requires.repeats in
    record {
      sound = rw (items, brought) sound;
      rear = rw (items, brought) (log_rear (log_value c.self.inside) c.args.self.now c.args.to c.to.inside.place c.stations-count.result c.self.view_is c.requires.some place c.stations-count.ensures);
      room = c.self.invariant.room;
    }

pub returns-clause-holds : goal.returns-clause-holds
returns-clause-holds c = sound_holds _ (invariant_of-self c).sound
