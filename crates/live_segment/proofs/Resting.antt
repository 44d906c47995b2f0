-- Nothing is done for the clients of a station at rest.
use Rattle.std.proofs.Common.{◌≡◌, ℕ, zero, suc, ◌<◌, ◌≤◌, ◌==◌, Bool, true, false, List, length, get_or, refl, sym, ◌∙◌, ap, inl, inr, arith, eqb-true}
use Rattle.std.proofs.lemmas.Bool.{false≢true}
use Rattle.std.proofs.lemmas.List.{length-map, get_or-map, get_or_default}
use Rattle.pgn_ids.specs.declared.address.Address.{Address}
use Rattle.segment_rings.specs.Views.{SeatView, DoorView, new_seat}
use Rattle.stored_calls.specs.declared.stored.Stored.{Stored}
use Rattle.live_ends.specs.Homes.{AreSilent}
use Rattle.live_segment.specs.LiveView.{LiveView, ClientView, Kept, live_view, client_of, new_client}
use Rattle.live_segment.specs.Offers.{IsClientOf, IsAtRest}
use Rattle.live_segment.specs.Turns.{AcceptsOne, AcceptsBelow, point}
use Rattle.live_segment.specs.declared.turns.Turn.{Turn}
use Rattle.live_segment.specs.declared.refused.Accepted.TheVariants as accepted
use Rattle.live_segment.proofs.Fronts.{empty_at}
use Rattle.live_record.proofs.Equal.{together}
use Rattle.live_ends.proofs.Quiet.{silent_seat}

pub rests_at : (keeps : Kept) (addresses : List Address) (xs : List Stored) (ss : List SeatView) (ds : List DoorView) (station : Address) → AreSilent station.0 ss → IsAtRest station (live_view keeps addresses xs ss ds)
rests_at keeps addresses xs ss ds station h = λ c is.
    let l : c < length ss = rw length-map at is.0 in
    let d = new_seat c station 0 0 in
    let v = new_client station in
    let e : (get_or ss c d).station ≡ station = sym (ap (λ (u : ClientView). u.station) (get_or-map client_of ss c d v l)) ∙ is.1 v in
    empty_at keeps addresses xs ss ds c d l (silent_seat station.0 c ss d l h (ap (λ (a : Address). a.0) e))

same_address : (a b : Address) → a.0 ≡ b.0 → a ≡ b
same_address a b e = λ i. record { 0 = e i }

-- nothing is done for a station at rest
one_at_rest : (v : LiveView) (t : Turn) (station : Address) (c : ℕ) → c < length v.clients → IsAtRest station v → AcceptsOne station c (point v t) (point v t)
one_at_rest v t station c l rests = by ((get_or v.clients c (new_client station)).station.0 == station.0) refl
  where
    d : ClientView
    d = new_client station

    by : (b : Bool) → ((get_or v.clients c d).station.0 == station.0) ≡ b → AcceptsOne station c (point v t) (point v t)
    by true e =
        let own : (get_or v.clients c d).station ≡ station = same_address (get_or v.clients c d).station station (eqb-true (get_or v.clients c d).station.0 station.0 e) in
        let is : IsClientOf station c v = (l, λ x. ap (λ (u : ClientView). u.station) (get_or_default v.clients c x d l) ∙ own) in
        inl (is, inl (accepted.Empty, (record { addresses = refl; stopped = refl; pieces = refl; calls = refl; clients = refl; ports = refl }, rests c is), refl))
    by false e = inr (λ is. absurd (false≢true (sym e ∙ together (get_or v.clients c d).station.0 station.0 (ap (λ (a : Address). a.0) (is.1 d)))), refl)

pub below_at_rest : (n : ℕ) (v : LiveView) (t : Turn) (station : Address) → n ≤ length v.clients → IsAtRest station v → AcceptsBelow n station (point v t) (point v t)
below_at_rest zero v t station l rests = refl
below_at_rest (suc n) v t station l rests = (point v t, below_at_rest n v t station (omega (arith, l)) rests, one_at_rest v t station n (omega (arith, l)) rests)
