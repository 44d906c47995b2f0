use Rattle.std.proofs.Common.{◌≡◌, ◌++◌, ◌∷◌, length, map, refl, sym, ap, ◌∙◌, ℕ, List, []}
use Rattle.std.proofs.lemmas.List.{length-map}
use Rattle.pgn_ids.specs.declared.address.Address.{Address}
use Rattle.segment_rings.specs.Ends.{ClientEnd, new_client_end}
use Rattle.segment_rings.specs.Views.{SeatView, DoorView, new_seat}
use Rattle.live_ends.specs.Homes.{SeatsView}
use Rattle.stored_calls.specs.declared.stored.Stored.{Stored}
use Rattle.live_segment.specs.LiveView.{LiveView, ClientView, Attached, Kept, live_view, keep, client_of}
use Rattle.live_segment.proofs.Holding.{holds-attach}
use Rattle.live_ends.proofs.Results.{no_ok, on_err}
use Rattle.live_segment.proofs.Keeping.{cut_with, notes_kept-push}
use Rattle.live_segment.proofs.Viewed.{holds_at, viewed}
use Rattle.live_segment.proofs.live.Live.attach.Goals as goal

clients_push : (ss : List SeatView) (s : SeatView) → map client_of (ss ++ s ∷ []) ≡ map client_of ss ++ client_of s ∷ []
clients_push [] s = refl
clients_push (x ∷ ss) s = ap (λ (cs : List ClientView). client_of x ∷ cs) (clients_push ss s)

attached_for : (keeps : Kept) (addresses : List Address) (xs : List Stored) (ss : List SeatView) (ds : List DoorView) (station : Address) (free spare n : ℕ) (c : ClientEnd) → n ≡ length ss → c ≡ new_client_end n station
    → Attached (live_view keeps addresses xs ss ds) (live_view keeps addresses xs (ss ++ new_seat (length ss) station free spare ∷ []) ds) station c
attached_for keeps addresses xs ss ds station free spare n c is e = record {
  client = e ∙ ap (λ (m : ℕ). new_client_end m station) is ∙ ap (λ (m : ℕ). new_client_end m station) (sym (length-map ss client_of));
  addresses = refl;
  stopped = refl;
  pieces = refl;
  calls = refl;
  clients = clients_push ss (new_seat (length ss) station free spare);
  ports = refl;
}

pub invariant_of-self : goal.invariant_of-self
invariant_of-self c =
    let i = c.self.inside in
    holds_at i.addresses.items i.segment i.segment i.calls.items i.calls.items i.calls.pieces i.calls.pieces i.image i.image i.owed.items i.owed.items i.seats.items c.reserve.new.self.items i.doors.items i.doors.items refl refl refl refl refl c.reserve.ensures.items refl c.self.invariant.0 c.self.invariant.1

pub invariant_of-self-in_err-seat : goal.invariant_of-self-in_err-seat
invariant_of-self-in_err-seat c =
    let i = c.self.inside in
    holds_at i.addresses.items i.segment i.segment i.calls.items i.calls.items i.calls.pieces i.calls.pieces i.image i.image i.owed.items i.owed.items i.seats.items c.bell.new.self.items i.doors.items i.doors.items refl refl refl refl refl (ap (λ (u : SeatsView). u.items) c.bell.ensures ∙ c.reserve.ensures.items) refl c.self.invariant.0 c.self.invariant.1

pub invariant_of-self-in_err-bell : goal.invariant_of-self-in_err-bell
invariant_of-self-in_err-bell c =
    let i = c.self.inside in
    holds_at i.addresses.items i.segment i.segment i.calls.items i.calls.items i.calls.pieces i.calls.pieces i.image i.image i.owed.items i.owed.items i.seats.items c.bell.new.self.items i.doors.items i.doors.items refl refl refl refl refl (ap (λ (u : SeatsView). u.items) c.bell.ensures ∙ c.reserve.ensures.items) refl c.self.invariant.0 c.self.invariant.1

pub invariant_of-self-2 : goal.invariant_of-self-2
invariant_of-self-2 c =
    let i = c.self.inside in
    let ss = i.seats.items in
    let n : c.len-id.result ≡ length ss = c.len-id.ensures in
    let s = c.in_ok-seat.seat in
    let e : s ≡ new_seat (length ss) c.args.station s.free s.spare = c.in_ok-seat.ensures.seat ∙ ap (λ (k : ℕ). new_seat k c.args.station s.free s.spare) n in
    let seats : c.push_reserved.new.self.items ≡ ss ++ new_seat (length ss) c.args.station s.free s.spare ∷ [] = c.push_reserved.ensures.items ∙ ap (λ (u : List SeatView). u ++ s ∷ []) (ap (λ (u : SeatsView). u.items) c.bell.ensures ∙ c.reserve.ensures.items) ∙ ap (λ (u : SeatView). ss ++ u ∷ []) e in
    holds_at i.addresses.items i.segment i.segment i.calls.items i.calls.items i.calls.pieces i.calls.pieces i.image i.image i.owed.items i.owed.items (ss ++ new_seat (length ss) c.args.station s.free s.spare ∷ []) c.push_reserved.new.self.items i.doors.items i.doors.items refl refl refl refl refl seats refl
    (holds-attach i.addresses.items i.segment i.calls.items i.owed.items ss i.doors.items c.args.station s.free s.spare c.self.invariant.0) (cut_with _ _ _ _ _ _ _ (notes_kept-push ss (new_seat (length ss) c.args.station s.free s.spare) refl) (λ k0. k0) c.self.invariant.1)

pub returns-clause-attached : goal.returns-clause-attached
returns-clause-attached c =
    let i = c.self.inside in
    let ss = i.seats.items in
    let n : c.len-id.result ≡ length ss = c.len-id.ensures in
    let s = c.in_ok-seat.seat in
    let e : s ≡ new_seat (length ss) c.args.station s.free s.spare = c.in_ok-seat.ensures.seat ∙ ap (λ (k : ℕ). new_seat k c.args.station s.free s.spare) n in
    let more = ss ++ new_seat (length ss) c.args.station s.free s.spare ∷ [] in
    let seats : c.push_reserved.new.self.items ≡ more = c.push_reserved.ensures.items ∙ ap (λ (u : List SeatView). u ++ s ∷ []) (ap (λ (u : SeatsView). u.items) c.bell.ensures ∙ c.reserve.ensures.items) ∙ ap (λ (u : SeatView). ss ++ u ∷ []) e in
    viewed (λ (u v : LiveView). Attached u v c.args.station c.in_ok-seat.client) _ i.stopped i.addresses.items i.calls.pieces i.calls.pieces i.calls.items i.calls.items i.calls.items ss more c.push_reserved.new.self.items i.doors.items i.doors.items c.self.view_is refl refl seats
    (attached_for (keep i.stopped i.calls.pieces) i.addresses.items i.calls.items ss i.doors.items c.args.station s.free s.spare c.len-id.result c.in_ok-seat.client n c.in_ok-seat.ensures.client)

pub returns-in_err-reserve-clause-attached : goal.returns-in_err-reserve-clause-attached
returns-in_err-reserve-clause-attached c = no_ok _ _ c.from_residual.ensures.0

pub returns-in_err-reserve-clause-err : goal.returns-in_err-reserve-clause-err
returns-in_err-reserve-clause-err c =
    let i = c.self.inside in
    on_err _ (ap (λ (u : List SeatView). live_view (keep i.stopped i.calls.pieces) i.addresses.items i.calls.items u i.doors.items) c.reserve.ensures.items ∙ c.self.view_is)

pub returns-in_err-seat-clause-attached : goal.returns-in_err-seat-clause-attached
returns-in_err-seat-clause-attached c = no_ok _ _ c.from_residual-in_err-seat.ensures.0

pub returns-in_err-seat-clause-err : goal.returns-in_err-seat-clause-err
returns-in_err-seat-clause-err c =
    let i = c.self.inside in
    on_err _ (ap (λ (u : List SeatView). live_view (keep i.stopped i.calls.pieces) i.addresses.items i.calls.items u i.doors.items) (ap (λ (u : SeatsView). u.items) c.bell.ensures ∙ c.reserve.ensures.items) ∙ c.self.view_is)

pub returns-in_err-bell-clause-attached : goal.returns-in_err-bell-clause-attached
returns-in_err-bell-clause-attached c = no_ok _ _ c.from_residual-in_err-bell.ensures.0

pub returns-in_err-bell-clause-err : goal.returns-in_err-bell-clause-err
returns-in_err-bell-clause-err c =
    let i = c.self.inside in
    on_err _ (ap (λ (u : List SeatView). live_view (keep i.stopped i.calls.pieces) i.addresses.items i.calls.items u i.doors.items) (ap (λ (u : SeatsView). u.items) c.bell.ensures ∙ c.reserve.ensures.items) ∙ c.self.view_is)
