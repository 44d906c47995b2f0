use Rattle.std.proofs.Common.{ℕ, ◌==◌, List, length, ◌∙◌, ap, sym}
use Rattle.station_sessions.specs.Receiving.{unbound_at}
use Rattle.station_sessions.proofs.Unbinding.{unbound_is}
use Rattle.station_sessions.proofs.receivers.Receivers.unbind.Goals as goal

pub returns-then-is_empty : goal.returns-then-is_empty
returns-then-is_empty c =
    ap (λ m. unbound_at c.args.key c.args.number m) (sym c.self.view_is)
    ∙ unbound_is c.args.key c.in_ok-held.held c.args.number c.in_ok-held.set c.in_ok-held.state _ _ _ _ c.in_ok-held.ensures.value c.in_ok-held.ensures.held c.end.ensures
    (ap (λ (r : List ℕ). length r == 0) (sym c.without-rest.ensures) ∙ sym c.is_empty.ensures ∙ c.if-is_empty.true) c.end-then-is_empty.ensures
