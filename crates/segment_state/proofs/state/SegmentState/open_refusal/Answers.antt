use Rattle.std.proofs.Common.{refl, sym, ap, ◌∙◌}
use Rattle.segment_law.specs.Calls.{opens}
use Rattle.segment_state.specs.Answers.{refusal_of, first_refusal}
use Rattle.segment_state.proofs.Records.{opens_called}
use Rattle.segment_state.proofs.Refusals.{opens_by, refused_for}
use Rattle.segment_state.proofs.Kept.{at_here}
use Rattle.segment_state.proofs.Calling.{within_here, no_station}
use Rattle.segment_state.proofs.state.SegmentState.open_refusal.Goals as goal

pub returns-in_default : goal.returns-in_default
returns-in_default c pgn max_len =
    no_station c.args.self.now c.args.station (opens c.args.self.now pgn max_len) (sym c.place_of.ensures.value ∙ c.in_default.is)
    ∙ sym (ap refusal_of (opens_called c.args.self.now c.args.station pgn max_len))

pub index-requires : goal.index-requires
index-requires c = within_here c.self.inside c.args.self.now c.in-Some.place c.self.view_is c.in-Some.ensures.within

pub returns : goal.returns
returns c pgn max_len =
    c.refusal_by.ensures ∙ ap first_refusal c.open_refusal.ensures
    ∙ refused_for _ _ _ (opens_called c.args.self.now c.args.station pgn max_len
    ∙ at_here c.self.inside _ _ c.in-Some.place c.index.result.now _ c.self.view_is c.in-Some.ensures.value c.in-Some.ensures.within c.index.ensures
    ∙ opens_by c.args.self.now c.in-Some.place c.index.result.now pgn max_len) refl
