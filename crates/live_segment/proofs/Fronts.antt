-- What is found at a client's seat is what the segment shows of this client: its lists are those of the seats, place by place.
use Rattle.std.proofs.Common.{◌≡◌, ℕ, ◌<◌, ◌≤◌, List, length, map, get_or, false, ◌∙◌, ap, inl, inr, []}
use Rattle.std.proofs.lemmas.List.{length-map, get_or-map}
use Rattle.std.specs.Prelude.{slice_index, ◌⊎◌}
use Rattle.pgn_ids.specs.declared.address.Address.{Address}
use Rattle.segment_rings.specs.Views.{SeatView, DoorView}
use Rattle.stored_calls.specs.declared.stored.Stored.{Stored}
use Rattle.live_segment.specs.LiveView.{ClientView, live_view, client_of, seat_seen, seat_free, Kept}
use Rattle.live_ends.specs.Offers.{IsWaiting}
use Rattle.live_segment.specs.Offers.{IsEmptyAt, WaitsAt}

module _ (keeps : Kept) (addresses : List Address) (xs : List Stored) (ts : List SeatView) (ds : List DoorView) (k : ℕ) (s : SeatView) (l : k < length ts) where
  own : (v : ClientView) → get_or (map client_of ts) k v ≡ client_of (get_or ts k s)
  own v = get_or-map client_of ts k s v l

  seen : get_or (map seat_seen ts) k [] ≡ (get_or ts k s).ahead
  seen = get_or-map seat_seen ts k s [] l

  pub empty_at : ((get_or ts k s).active ≡ false) ⊎ (length (get_or ts k s).ahead ≡ 0) → IsEmptyAt (live_view keeps addresses xs ts ds) k
  empty_at (inl e) = inr (inl (λ v. ap (λ (u : ClientView). u.active) (own v) ∙ e))
  empty_at (inr e) = inr (inr (ap length seen ∙ e))

  pub waits_at : IsWaiting (get_or ts k s) → WaitsAt (live_view keeps addresses xs ts ds) k
  waits_at h = record {
    within = rw length-map l;
    active = λ v. ap (λ (u : ClientView). u.active) (own v) ∙ h.0;
    seen = rw seen h.1;
  }

  pub free_is : slice_index (map seat_free ts) k ≡ (get_or ts k s).free
  free_is = get_or-map seat_free ts k s 0 l

-- past the last seat there is no client
pub none_at : (keeps : Kept) (addresses : List Address) (xs : List Stored) (ts : List SeatView) (ds : List DoorView) (k : ℕ) → length ts ≤ k → IsEmptyAt (live_view keeps addresses xs ts ds) k
none_at keeps addresses xs ts ds k l = inl (rw length-map l)
