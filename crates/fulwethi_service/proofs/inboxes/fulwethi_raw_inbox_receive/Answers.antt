use Rattle.std.proofs.Common.{◌∙◌, ap, sym, Some}
use Rattle.fulwethi_service.specs.declared.post.Post.{Post}
use Rattle.fulwethi_service.proofs.inboxes.fulwethi_raw_inbox_receive.Goals as goal

pub returns : goal.returns
returns c = record {
  before = c.deref_mut.result.now;
  after = c.receive.new.post;
  answer = c.receive.result;
  had = c.into_box-held.ensures ∙ ap (λ (p : Post). Some p) (sym c.deref_mut.ensures.value);
  has = c.of_box.ensures;
  done = c.receive.ensures;
  is_code = c.received_code-code.ensures;
}
