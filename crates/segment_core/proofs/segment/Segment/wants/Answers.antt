use Rattle.std.proofs.Common.{◌≡◌, ℕ, List, sym, ap, ◌∙◌, subst}
use Rattle.segment_law.specs.Readers.{given_by_take}
use Rattle.segment_law.specs.Record.{StandsAt}
use Rattle.record_law.proofs.readers.Takes.{wanted_is_given}
use Rattle.record_law.proofs.readers.Lengths.{wanted_is_given_whole}
use Rattle.segment_core.proofs.segment.Segment.wants.Goals as goal

pub returns-clause-given : goal.returns-clause-given
returns-clause-given c =
    subst (λ seg. c.wants.result.0 ≡ (given_by_take seg c.args.station c.args.again).0) c.self.view_is
    (ap (λ (w : List ℕ × ℕ). w.0) c.wants.ensures ∙ wanted_is_given c.self.inside.state c.args.station c.args.again)

pub returns-clause-whole : goal.returns-clause-whole
returns-clause-whole c = λ addresses steps stands.
    subst (λ seg. c.wants.result ≡ given_by_take seg c.args.station c.args.again) c.self.view_is
    (c.wants.ensures ∙ wanted_is_given_whole addresses steps c.self.inside.state (subst (λ seg. StandsAt addresses steps seg) (sym c.self.view_is) stands) c.args.station c.args.again)
