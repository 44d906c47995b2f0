use Rattle.std.proofs.Common.{◌∙◌, ap, sym, Some}
use Rattle.live_segment.specs.LiveView.{LiveView}
use Rattle.fulwethi_service.specs.declared.post.Post.{Post}
use Rattle.fulwethi_service.proofs.ends.fulwethi_raw_service_close.Goals as goal

pub returns : goal.returns
returns c = record {
  before = c.deref_mut.result.now;
  after = c.close.new.live;
  answer = c.close.result;
  had = c.into_box-held.ensures ∙ ap (λ (v : LiveView). Some v) (sym c.deref_mut.ensures.value);
  has = c.of_box.ensures.owns;
  done = (
    (
      c.deref_mut-2.result.now,
      c.close.new.post,
      c.into_box-post.ensures ∙ ap (λ (p : Post). Some p) (sym c.deref_mut-2.ensures.value),
      c.of_box-2.ensures,
      c.close.ensures,
    ),
    c.of_box.ensures.holds,
  );
  is_code = c.made_code-code.ensures;
}
