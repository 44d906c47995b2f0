use Rattle.std.proofs.Common.{refl}
use Rattle.fulwethi_service.proofs.ends.attach.Goals as goal

pub returns : goal.returns
returns c = (
  c.in_ok-made.made,
  c.in_ok-made.ensures.attached,
  (
    _,
    c.of_box.ensures,
    refl,
  ),
)
