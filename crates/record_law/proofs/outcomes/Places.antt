-- The lane from s to d in a segment whose station at a place changes.
use Rattle.std.proofs.Common.{◌≡◌, ℕ, ◌==◌, List, set, get_or, Option, Some, None, refl, sym, ap, ◌∙◌, eqb-true, get_or-set_other}
use Rattle.std.specs.Prelude.{slice_get, position, unwrap_or}
use Rattle.std.proofs.lemmas.Option.{unwrap_or-slice_get}
use Rattle.pgn_ids.specs.declared.address.Address.{Address}
use Rattle.lane_core.specs.Lane.{Lane}
use Rattle.station_lanes.specs.LaneCalls.{lane_to}
use Rattle.station_core.specs.Station.{Station, new_station}
use Rattle.segment_law.specs.Segment.{Segment, lane_at}
use Rattle.segment_law.specs.Reached.{IsReached}
use Rattle.segment_law.proofs.Reaching.{position_kept, slice_get_same}
use Rattle.record_law.proofs.Segments.{found_passes}

module _ (seg next : Segment) (r : IsReached seg) (i : ℕ) (st new : Station) (at : slice_get seg.stations i ≡ Some st) (address : new.address ≡ st.address) (stations : next.stations ≡ set seg.stations i new) (s d : Address) where
  -- the station that an address leads to
  abbrev led : Option ℕ → List Station → Station
  led o stations = unwrap_or (elim o as (λ (_ : Option ℕ). Option Station) [ None ↦ None | Some j ↦ slice_get stations j ]) (new_station s)

  abbrev with_address : ℕ → List Station → Option ℕ
  with_address a stations = position (λ (z : Station). z.address.0 == a) stations

  kept : with_address s.0 next.stations ≡ with_address s.0 seg.stations
  kept = ap (with_address s.0) stations ∙ position_kept seg.stations i st new at address s

  it_leads : st.address.0 ≡ s.0 → with_address s.0 seg.stations ≡ Some i
  it_leads e = ap (λ a. with_address a seg.stations) (sym e) ∙ r.places i st at

  abbrev lane_in : Station → Lane
  lane_in z = lane_to z.address z.lanes d.0

  -- the station of the lane changes
  pub lane_before : st.address.0 ≡ s.0 → lane_at seg s d ≡ lane_to st.address st.lanes d.0
  lane_before e = ap lane_in (ap (λ o. led o seg.stations) (it_leads e) ∙ ap (λ (o : Option Station). unwrap_or o (new_station s)) at)

  pub lane_after : st.address.0 ≡ s.0 → lane_at next s d ≡ lane_to st.address new.lanes d.0
  lane_after e =
      let there : slice_get next.stations i ≡ Some new = ap (λ ss. slice_get ss i) stations ∙ slice_get_same seg.stations i st new at address in
      ap lane_in (ap (λ o. led o next.stations) (kept ∙ it_leads e) ∙ ap (λ (o : Option Station). unwrap_or o (new_station s)) there) ∙ ap (λ (a : Address). lane_to a new.lanes d.0) address

  -- another one does
  pub lane_stays : (st.address.0 ≡ s.0 → ⊥) → lane_at next s d ≡ lane_at seg s d
  lane_stays n = ap lane_in (ap (λ o. led o next.stations) kept ∙ by (with_address s.0 seg.stations) refl)
    where
      by : (o : Option ℕ) → with_address s.0 seg.stations ≡ o → led o next.stations ≡ led o seg.stations
      by None e = refl
      by (Some j) e =
          let other : j ≡ i → ⊥ = λ q. n (eqb-true st.address.0 s.0 (found_passes (λ (z : Station). z.address.0 == s.0) seg.stations j st e (ap (slice_get seg.stations) q ∙ at))) in
          unwrap_or-slice_get next.stations j (new_station s)
          ∙ ap (λ ss. get_or ss j (new_station s)) stations
          ∙ get_or-set_other seg.stations i j new (new_station s) other
          ∙ sym (unwrap_or-slice_get seg.stations j (new_station s))
