use Rattle.std.proofs.Common.{◌≡◌, drop, length}
use Rattle.live_record.specs.Record.{settle_notes, settle_owed}
use Rattle.live_ends.specs.Ends.{IdsFrom, HaveRoom, note_all, OwedWithin}
use Rattle.live_ends.proofs.seating.Seats.settle.Given as goal

abbrev pub invariant-loop-event : goal.invariant-loop-event
invariant-loop-event l = record {
  ids : IdsFrom 0 l.self.items;
  count : length l.self.items ≡ length l.initial.self.items;
  room : HaveRoom l.owed.items l.self.items;
  within : OwedWithin (length l.self.items) l.owed.items;
  owed : settle_owed l.owed.items (drop l.event-index l.events) ≡ settle_owed l.initial.owed.items l.events;
  seats : note_all (settle_notes l.owed.items (drop l.event-index l.events)) l.self.items ≡ note_all (settle_notes l.initial.owed.items l.events) l.initial.self.items;
}
