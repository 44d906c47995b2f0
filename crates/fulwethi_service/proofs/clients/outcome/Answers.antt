use Rattle.std.proofs.Common.{◌≡◌, ◌∙◌, refl, sym, subst}
use Rattle.segment_rings.specs.Ends.{ClientEnd}
use Rattle.fulwethi_service.specs.Clients.{IsNoteRead}
use Rattle.fulwethi_service.proofs.Same.{same}
use Rattle.fulwethi_service.proofs.clients.outcome.Goals as goal

pub returns : goal.returns
returns c = λ x e.
    let s : c.in-Some.client ≡ x = same c.in-Some.client x (sym c.in-Some.is ∙ e) in (
      c.try_outcome.new.self,
      refl,
      subst (λ (k : ClientEnd). IsNoteRead k c.try_outcome.new.self c.try_outcome.result) s (c.try_outcome.ensures.note, c.try_outcome.ensures.gone.0, c.try_outcome.ensures.err),
    )
