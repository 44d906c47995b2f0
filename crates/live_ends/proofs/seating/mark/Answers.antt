use Rattle.std.proofs.Common.{◌∙◌, sym}
use Rattle.live_ends.proofs.Quiet.{quiet_marked}
use Rattle.live_ends.proofs.seating.mark.Goals as goal

pub returns-in-Some-clause-kept : goal.returns-in-Some-clause-kept
returns-in-Some-clause-kept c = λ ss q h. quiet_marked c.args.homes.now.items c.args.station.0 c.mark.new.self ss q (λ on. h (sym c.mark.ensures ∙ on))
