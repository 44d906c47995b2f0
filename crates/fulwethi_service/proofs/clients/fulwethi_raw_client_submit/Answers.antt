use Rattle.std.proofs.Common.{◌∙◌, ap, sym, Some}
use Rattle.fulwethi_service.specs.declared.desk.Desk.{Desk}
use Rattle.fulwethi_service.proofs.clients.fulwethi_raw_client_submit.Goals as goal

pub returns : goal.returns
returns c = record {
  before = c.deref_mut.result.now;
  after = c.submit.new.desk;
  answer = c.submit.result;
  had = c.into_box-held.ensures ∙ ap (λ (d : Desk). Some d) (sym c.deref_mut.ensures.value);
  has = c.of_box.ensures;
  done = (c.submit.ensures, c.write_ticket-code.ensures.written);
  is_code = c.write_ticket-code.ensures.code;
}
