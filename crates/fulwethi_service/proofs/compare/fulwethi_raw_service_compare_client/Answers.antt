use Rattle.std.proofs.Common.{◌≡◌, ◌∙◌, refl, sym, subst}
use Rattle.live_segment.specs.LiveView.{LiveView}
use Rattle.fulwethi_service.specs.Compared.{IsClientCompared}
use Rattle.fulwethi_service.specs.declared.desk.Desk.{Desk}
use Rattle.fulwethi_service.proofs.Same.{same}
use Rattle.fulwethi_service.proofs.compare.fulwethi_raw_service_compare_client.Goals as goal

pub returns : goal.returns
returns c =
    let v = c.into_box-held.result.value in
    let p = c.into_box-desk.result.value in
    record {
      before = v;
      after = v;
      answer = c.compare_desk.result;
      had = c.into_box-held.ensures;
      has = c.of_box.ensures.owns;
      done = (
        (
          refl,
          c.of_box-2.ensures ∙ sym c.into_box-desk.ensures,
          λ a e.
              let s : p ≡ a = same p a (sym c.into_box-desk.ensures ∙ e) in
              subst (λ (q : Desk). IsClientCompared v q c.compare_desk.result) (c.deref-2.ensures ∙ s) (subst (λ (u : LiveView). IsClientCompared u c.deref-2.result.now c.compare_desk.result) c.deref.ensures c.compare_desk.ensures),
        ),
        c.of_box.ensures.holds,
      );
      is_code = c.agrees_code-code.ensures;
    }
