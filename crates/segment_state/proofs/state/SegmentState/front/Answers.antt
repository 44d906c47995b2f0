use Rattle.std.proofs.Common.{sym, ap, ◌∙◌}
use Rattle.tx_queue.specs.Queue.{front}
use Rattle.segment_state.proofs.Calling.{within_here, station_here, station_none}
use Rattle.segment_state.proofs.state.SegmentState.front.Goals as goal

pub index-requires : goal.index-requires
index-requires c = within_here c.self.inside c.args.self.now c.in-Some.place c.self.view_is c.in-Some.ensures.within

pub returns-in-None : goal.returns-in-None
returns-in-None c = sym (ap (λ st. front st.queue) (station_none c.args.self.now c.args.station (sym c.place_of.ensures.value ∙ c.in-None.is)))

pub returns-in-Some : goal.returns-in-Some
returns-in-Some c = c.front.ensures ∙ sym (ap (λ st. front st.queue) (station_here c.self.inside c.args.self.now c.args.station c.in-Some.place c.index.result.now c.self.view_is c.in-Some.ensures.value c.in-Some.ensures.within c.index.ensures))
