use Rattle.station_core.specs.Next.{has_work}
use Rattle.station_core.proofs.Nexts.{work_from}
use Rattle.station_core.proofs.station.Station.next_at.Goals as goal

pub returns : goal.returns
returns c =
    c.not_before.ensures.next (has_work c.args.self.now)
    (work_from c.args.self.now c.queue_len.result c.always-queued.result c.next_pump_at.result c.next_fire_at.result c.earlier.result c.earlier-tick.result
    c.queue_len.ensures.value c.always-queued.ensures c.next_pump_at.ensures.value c.next_fire_at.ensures c.earlier.ensures c.earlier-tick.ensures)
