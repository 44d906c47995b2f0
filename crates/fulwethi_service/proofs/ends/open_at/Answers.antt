use Rattle.std.proofs.Common.{◌≡◌, ◌∙◌, ap, refl}
use Rattle.port_table.specs.declared.port.PortId.{PortId}
use Rattle.fulwethi_service.specs.declared.post.Post.{Post}
use Rattle.fulwethi_service.proofs.ends.open_at.Goals as goal

pub returns : goal.returns
returns c =
    let held : c.deref_mut.result.now ≡ c.in-Ok.held.value = c.deref_mut.ensures.value in (
      c.in_ok-opened.opened,
      c.in_ok-opened.ensures.opened,
      ap (λ (p : PortId). p.number) c.port.ensures,
      (
        _,
        c.of_box.ensures,
        refl,
        ap (λ (p : Post). p.held) held ∙ ap (λ (p : Post). p.held) c.in-Ok.ensures.ok,
        ap (λ (p : Post). p.rest.items) held ∙ ap (λ (p : Post). p.rest.items) c.in-Ok.ensures.ok ∙ c.new.ensures.items,
      ),
    )
