use Rattle.std.proofs.Common.{◌≡◌, ℕ, true, List, Option, sym, subst, []}
use Rattle.std.specs.Prelude.{OnSome}
use Rattle.segment_state.specs.declared.made.Made.{Made}
use Rattle.live_ends.proofs.Giving.{same_doors-refl}
use Rattle.live_calls.proofs.Nothing.{found_nothing}
use Rattle.live_calls.specs.Words.{wanted_by}
use Rattle.live_calls.specs.Places.{IsFound}
use Rattle.live_calls.proofs.places.make_found.Goals as goal

pub returns-in_err-reserve-clause-same : goal.returns-in_err-reserve-clause-same
returns-in_err-reserve-clause-same c = same_doors-refl c.args.doors.now.items

pub returns-in_err-made-clause-same : goal.returns-in_err-made-clause-same
returns-in_err-made-clause-same c = same_doors-refl c.args.doors.now.items

pub returns-in-Some-clause-same : goal.returns-in-Some-clause-same
returns-in-Some-clause-same c = same_doors-refl c.args.doors.now.items

pub returns-in-Some-clause-found : goal.returns-in-Some-clause-found
returns-in-Some-clause-found c =
    let wanted = wanted_by c.args.segment.now c.args.call.now in
    let none : wanted.ports ≡ [] = subst (λ (o : Option Made). OnSome o (wanted.ports ≡ [])) c.in-Some.is c.in_ok-made.ensures.none in
    subst (λ (bs : List ℕ). IsFound wanted c.args.doors.now.items true bs) (sym c.new.ensures.items) (found_nothing wanted c.args.doors.now.items none)
