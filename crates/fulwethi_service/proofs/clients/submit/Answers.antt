use Rattle.std.proofs.Common.{◌≡◌, ◌∙◌, refl, sym, subst}
use Rattle.segment_rings.specs.Ends.{ClientEnd}
use Rattle.fulwethi_service.specs.Clients.{IsSubmitted}
use Rattle.fulwethi_service.proofs.Same.{same}
use Rattle.fulwethi_service.proofs.clients.submit.Goals as goal

pub returns : goal.returns
returns c = λ x e.
    let s : c.in-Some.client ≡ x = same c.in-Some.client x (sym c.in-Some.is ∙ e) in (
      c.submit_by.new.client,
      refl,
      subst (λ (k : ClientEnd). IsSubmitted c.args.to c.args.pgn c.args.bytes.now k c.submit_by.new.client c.submit_by.result) s c.submit_by.ensures,
    )
