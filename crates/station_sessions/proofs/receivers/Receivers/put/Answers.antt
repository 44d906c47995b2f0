use Rattle.std.proofs.Common.{rules}
use Rattle.station_sessions.proofs.SessionMaps.{session_maps, room_for}
use Rattle.station_sessions.proofs.receivers.Receivers.put.Goals as goal

pub unreachable-requires : goal.unreachable-requires
unreachable-requires c = room_for c.args.self.now c.args.key c.args.set c.in-Err-TableFull._set c.args.state c.in-Err-TableFull.state (search (rules, session_maps)) c.requires (search rules)
