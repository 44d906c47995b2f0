use Rattle.std.proofs.Common.{◌≡◌, ◌∙◌, refl, sym, subst}
use Rattle.segment_rings.specs.Ends.{InboxEnd}
use Rattle.live_segment.specs.Reports.{ClosedFor}
use Rattle.fulwethi_service.proofs.Same.{same}
use Rattle.fulwethi_service.proofs.ends.close.Goals as goal

pub returns-in-Ok : goal.returns-in-Ok
returns-in-Ok c = λ i e.
    let s : c.in-Some.inbox ≡ i = same c.in-Some.inbox i (sym c.in-Some.is ∙ e) in (
      c.close_on.new.inbox,
      c.in-Ok.closed,
      subst (λ (k : InboxEnd). ClosedFor c.args.live.now c.close_on.new.self k c.close_on.new.inbox c.in-Ok.closed) s c.in-Ok.ensures.closed,
      refl,
      refl,
      c.from.ensures.0,
    )
