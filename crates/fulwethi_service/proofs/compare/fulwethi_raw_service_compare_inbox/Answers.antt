use Rattle.std.proofs.Common.{◌≡◌, ◌∙◌, refl, sym, subst}
use Rattle.live_segment.specs.LiveView.{LiveView}
use Rattle.fulwethi_service.specs.Compared.{IsInboxCompared}
use Rattle.fulwethi_service.specs.declared.post.Post.{Post}
use Rattle.fulwethi_service.proofs.Same.{same}
use Rattle.fulwethi_service.proofs.compare.fulwethi_raw_service_compare_inbox.Goals as goal

pub returns : goal.returns
returns c =
    let v = c.into_box-held.result.value in
    let p = c.into_box-post.result.value in
    record {
      before = v;
      after = v;
      answer = c.compare_post.result;
      had = c.into_box-held.ensures;
      has = c.of_box.ensures.owns;
      done = (
        (
          refl,
          c.of_box-2.ensures ∙ sym c.into_box-post.ensures,
          λ a e.
              let s : p ≡ a = same p a (sym c.into_box-post.ensures ∙ e) in
              subst (λ (q : Post). IsInboxCompared v q c.compare_post.result) (c.deref-2.ensures ∙ s) (subst (λ (u : LiveView). IsInboxCompared u c.deref-2.result.now c.compare_post.result) c.deref.ensures c.compare_post.ensures),
        ),
        c.of_box.ensures.holds,
      );
      is_code = c.agrees_code-code.ensures;
    }
