use Rattle.std.proofs.Common.{◌≡◌, ℕ, List, refl, sym, ap, ◌∙◌}
use Rattle.pgn_ids.specs.declared.address.Address.{Address}
use Rattle.station_core.specs.Refusals.{sending_refusal}
use Rattle.segment_law.specs.Segment.{Segment}
use Rattle.segment_law.specs.Calls.{called, at_address, sends}
use Rattle.segment_law.specs.declared.call.Call.TheVariants.{Send}
use Rattle.segment_state.specs.Answers.{first_refusal}
use Rattle.segment_state.proofs.Refusals.{sends_by, refused_for}
use Rattle.segment_state.proofs.Kept.{at_here}
use Rattle.segment_state.proofs.state.SegmentState.send_refusal.Goals as goal

-- what a Send is
called_send : (seg : Segment) (from to : Address) (pgn : ℕ) (bytes : List ℕ) → called seg (Send from to pgn bytes) ≡ at_address seg from (sends seg to pgn bytes)
unfolding called
called_send seg from to pgn bytes = refl

pub returns : goal.returns
returns c pgn bytes len =
    c.refusal_by.ensures ∙ ap first_refusal (c.send_refusal.ensures ∙ ap (sending_refusal c.index.result.now c.args.to) (sym len))
    ∙ refused_for _ _ _ (called_send c.args.self.now c.args.from c.args.to pgn bytes ∙ at_here c.self.inside _ _ c.in-Some.place c.index.result.now _ c.self.view_is c.in-Some.ensures.value c.in-Some.ensures.within c.index.ensures
    ∙ sends_by c.args.self.now c.in-Some.place c.index.result.now c.args.to pgn bytes) refl
