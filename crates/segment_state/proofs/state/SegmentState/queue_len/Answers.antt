use Rattle.std.proofs.Common.{length, sym, ap, ◌∙◌}
use Rattle.segment_state.proofs.Calling.{within_here, station_here, station_none}
use Rattle.segment_state.proofs.state.SegmentState.queue_len.Goals as goal

pub index-requires : goal.index-requires
index-requires c = within_here c.self.inside c.args.self.now c.in-Some.place c.self.view_is c.in-Some.ensures.within

pub returns-in-None-clause-value : goal.returns-in-None-clause-value
returns-in-None-clause-value c = sym (ap (λ st. length st.queue) (station_none c.args.self.now c.args.station (sym c.place_of.ensures.value ∙ c.in-None.is)))

pub returns-in-Some-clause-value : goal.returns-in-Some-clause-value
returns-in-Some-clause-value c =
    c.queue_len.ensures.value ∙ sym (ap (λ st. length st.queue) (station_here c.self.inside c.args.self.now c.args.station c.in-Some.place c.index.result.now c.self.view_is c.in-Some.ensures.value c.in-Some.ensures.within c.index.ensures))

pub returns-in-Some-clause-within : goal.returns-in-Some-clause-within
returns-in-Some-clause-within c = c.queue_len.ensures.within
