-- A call that gives nothing needs no place.
use Rattle.std.proofs.Common.{◌≡◌, ℕ, true, List, ◌∷◌, length, sym, ap, subst, arith, []}
use Rattle.pgn_ids.specs.declared.address.Address.{Address}
use Rattle.segment_rings.specs.Views.{DoorView}
use Rattle.live_calls.specs.declared.wanted.Wanted.{Wanted}
use Rattle.live_ends.specs.Places.{HavePlaces, AtLeast}
use Rattle.live_calls.specs.Places.{IsFound}

pub have_none : (a : Address) (ds : List DoorView) → HavePlaces a [] ds
have_none a [] = tt
have_none a (d ∷ ds) = (λ _. (omega arith, omega arith, λ some. absurd (omega (arith, some))), have_none a ds)

pub at_least_0 : (bs : List ℕ) → AtLeast 0 bs
at_least_0 [] = tt
at_least_0 (b ∷ bs) = (omega arith, at_least_0 bs)

-- a call that gives nothing needs no place
pub found_nothing : (w : Wanted) (ds : List DoorView) → w.ports ≡ [] → IsFound w ds true []
found_nothing w ds none = (subst (λ (ns : List ℕ). HavePlaces w.station ns ds) (sym none) (have_none w.station ds), ((let l : length w.ports ≡ 0 = ap length none in omega (arith, l)), tt))
