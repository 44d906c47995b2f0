-- Sessions after a call of their table, with a frame or as a timer fires.
use Rattle.std.proofs.Common.{List, ℕ, Option, Some, None, sym, subst}
use Rattle.bus_frame.specs.Frames.{CanFrame}
use Rattle.responder.specs.declared.receiver.Left.{Left}
use Rattle.responder.specs.declared.receiver.Left.TheVariants.{Nothing, Message, Abort, NoMemory}
use Rattle.session_table.specs.declared.key.Key.{Key}
use Rattle.session_table.specs.declared.incoming.Incoming.{Incoming}
use Rattle.session_table.specs.Leading.{Step, LeadsAt}
use Rattle.station_sessions.specs.Receiving.{Inbound, NoneHeld}
use Rattle.station_sessions.proofs.SessionMaps.{none_held_inserted}

-- no key is held
pub none_held_after : (step : Step) (key : Key) (m left : Inbound) (queued after : List CanFrame) → NoneHeld m → (o : Option (List ℕ × Incoming)) (a : Left) → LeadsAt step o a m key left queued after → NoneHeld left
none_held_after step key m left queued after none None a g = subst NoneHeld (sym g.1) none
none_held_after step key m left queued after none (Some v) Nothing g = subst NoneHeld (sym g.1) (none_held_inserted m key none (v.0, g.0))
none_held_after step key m left queued after none (Some v) Message g = subst NoneHeld (sym g.0) none
none_held_after step key m left queued after none (Some v) (Abort reason) g = subst NoneHeld (sym g.0) none
none_held_after step key m left queued after none (Some v) NoMemory g = subst NoneHeld (sym g.0) none
