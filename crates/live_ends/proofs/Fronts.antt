-- Room for notes.
use Rattle.std.proofs.Common.{◌≡◌, ◌≤◌, ◌∙◌, ap, arith}
use Rattle.segment_rings.specs.Views.{SeatView, SameSeat, with_spare}

-- room was made for notes that are kept
pub same_seat-spare : (a b c : SeatView) → SameSeat a b → c ≡ with_spare b c.spare → b.spare ≤ c.spare → SameSeat a c
same_seat-spare a b c h e m =
    let f : c.free ≡ b.free = ap (λ (x : SeatView). x.free) e in
    record {
      id = ap (λ (x : SeatView). x.id) e ∙ h.id;
      station = ap (λ (x : SeatView). x.station) e ∙ h.station;
      active = ap (λ (x : SeatView). x.active) e ∙ h.active;
      popped = ap (λ (x : SeatView). x.popped) e ∙ h.popped;
      gone = ap (λ (x : SeatView). x.gone) e ∙ h.gone;
      kept = ap (λ (x : SeatView). x.kept) e ∙ h.kept;
      noted = ap (λ (x : SeatView). x.noted) e ∙ h.noted;
      named = ap (λ (x : SeatView). x.named) e ∙ h.named;
      free = omega (arith, f, h.free);
      spare = omega (arith, h.spare, m);
    }
