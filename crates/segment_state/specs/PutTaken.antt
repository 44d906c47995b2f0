-- A frame that is put on the bus and taken at once.
use Rattle.std.specs.Prelude.{◌≡◌, true, List, [], ◌∷◌, ◌++◌}
use Rattle.pgn_ids.specs.declared.address.Address.{Address}
use Rattle.message_events.specs.declared.event.Event.{Event}
use Rattle.segment_law.specs.Segment.{Segment}
use Rattle.segment_law.specs.Calls.{applied}
use Rattle.segment_law.specs.Record.{Record, StandsAt}
use Rattle.segment_law.specs.declared.call.Call.{Call}
use Rattle.segment_law.specs.declared.call.Call.TheVariants.{Take}
use Rattle.segment_law.specs.declared.reply.Reply.TheVariants.{Done}

-- two calls are made, one after the other: one that puts a frame on the bus, and a station's Take with room, which has these events
pub record PutTaken (before : Segment) (call : Call) (a : Address) (after : Segment) (told : List Event) : Type 0 where
  pub between : Segment
  pub put : applied before call ≡ (between, Done [])
  pub taken : applied between (Take a true) ≡ (after, Done told)
  pub put_stands : (addresses : List Address) (steps : Record) → StandsAt addresses steps before → StandsAt addresses (steps ++ (call, Done []) ∷ []) between
  pub taken_stands : (addresses : List Address) (steps : Record) → StandsAt addresses steps between → StandsAt addresses (steps ++ (Take a true, Done told) ∷ []) after
