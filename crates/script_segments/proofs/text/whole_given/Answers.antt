use Rattle.std.proofs.Common.{◌≡◌, ℕ, drop, subst}
use Rattle.std.specs.Prelude.{MatchOption}
use Rattle.live_record.specs.Record.{given, trail}
use Rattle.script_segments.specs.Reports.{HasPort}
use Rattle.script_segments.proofs.Reports.{given_uncut}
use Rattle.script_segments.proofs.text.whole_given.Goals as goal

pub returns : goal.returns
returns c =
    let v = c.args.live.now in
    let q = c.args.port in
    subst (λ (n : ℕ). MatchOption c.given_to.result (HasPort v.ports q → ⊥) (λ ds. HasPort v.ports q × (ds.now ≡ drop n (given q (trail v.addresses v.calls).events)))) (given_uncut v q c.laws.ensures.laws c.requires) c.given_to.ensures
