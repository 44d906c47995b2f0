use Rattle.std.proofs.Common.{◌≡◌, ◌∙◌, sym, ap, length, set, length-set}
use Rattle.std.proofs.lemmas.List.{with_items_is}
use Rattle.std.specs.Vec.{with_items}
use Rattle.bus_order.specs.LogFields.{log_value}
use Rattle.bus_order.specs.Kept.{IsSound}
use Rattle.bus_order.proofs.Steps.{log_moved, sound_holds}
use Rattle.bus_order.proofs.log.BusLog.move_to.Goals as goal

pub invariant_of-self : goal.invariant_of-self
invariant_of-self c =
    let moved : c.move_cursor-self-inside.new.cursors ≡ set c.self.inside.cursors.items c.args.cursor c.args.to = rw (← c.deref_mut.ensures.value) c.move_cursor-self-inside.ensures.moved in
    let len : length c.move_cursor-self-inside.new.cursors ≡ c.self.inside.cursors.len = rw moved (length-set c.self.inside.cursors.items c.args.cursor c.args.to ∙ (sym (ap length c.deref_mut.ensures.value) ∙ c.deref_mut.ensures.len)) in
    let items : (with_items c.self.inside.cursors c.move_cursor-self-inside.new.cursors).items ≡ c.move_cursor-self-inside.new.cursors = with_items_is c.self.inside.cursors c.move_cursor-self-inside.new.cursors len in
    let sound : IsSound (record (log_value c.self.inside) { cursors = set c.self.inside.cursors.items c.args.cursor c.args.to }) = log_moved (log_value c.self.inside) c.args.self.now c.args.cursor c.args.to c.self.view_is c.self.invariant.sound c.requires.cursor c.requires.on c.requires.within c.requires.repeats in
    record {
      sound = rw (items, moved) sound;
      rear = rw items c.move_cursor-self-inside.ensures.rear;
      room = c.self.invariant.room;
    }

pub returns-clause-holds : goal.returns-clause-holds
returns-clause-holds c = sound_holds _ (invariant_of-self c).sound
