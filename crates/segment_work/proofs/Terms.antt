-- The stations of a segment, each of which takes every frame.
use Rattle.std.proofs.Common.{◌≡◌, ℕ, ◌<◌, length, get_or, ap, ◌∙◌, sym}
use Rattle.std.proofs.lemmas.List.{length-map, get_or-map}
use Rattle.pgn_ids.specs.Address.{null_address}
use Rattle.pgn_ids.specs.declared.address.Address.{Address}
use Rattle.station_core.specs.Station.{Station}
use Rattle.segment_law.specs.Segment.{Segment}
use Rattle.work_law.specs.Work.{own_at}
use Rattle.segment_work.specs.Terms.{turn_terms}

pub on_length : (seg : Segment) → length (turn_terms seg).on ≡ length seg.stations
unfolding turn_terms
on_length seg = length-map seg.stations (λ (st : Station). st.address)

pub own_is : (seg : Segment) (i : ℕ) (st : Station) → i < length seg.stations → st ≡ get_or seg.stations i st → own_at (turn_terms seg) i ≡ st.address.0
unfolding turn_terms
own_is seg i st within e =
    ap (λ (a : Address). a.0) (get_or-map (λ (s : Station). s.address) seg.stations i st (record { 0 = null_address }) within ∙ ap (λ (s : Station). s.address) (sym e))
