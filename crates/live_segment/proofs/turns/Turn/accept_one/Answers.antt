use Rattle.std.proofs.Common.{◌≡◌, ap, ◌∙◌, inr, refl, arith}
use Rattle.pgn_ids.specs.declared.address.Address.{Address}
use Rattle.live_segment.specs.LiveView.{new_client}
use Rattle.live_segment.proofs.turns.Turn.accept_one.Goals as goal

pub returns-then-other-station : goal.returns-then-other-station
returns-then-other-station c = inr (
  λ h.
      let d = new_client c.args.station in
      let e : c.in-Some.other.0 ≡ c.args.station.0 = ap (λ (a : Address). a.0) (c.in-Some.ensures.1 d ∙ h.1 d) in
      absurd (omega (arith, e, c.if-other-station.true)),
  refl,
)
