-- What holds of values holds of values equal to them: carried over once, and not at each goal that names a whole segment.
use Rattle.std.proofs.Common.{◌≡◌, ℕ, ◌<◌, Bool, List, Option, length, map, refl, sym, ◌∙◌, ap, subst}
use Rattle.std.proofs.lemmas.List.{length-map}
use Rattle.pgn_ids.specs.declared.address.Address.{Address}
use Rattle.segment_law.specs.Segment.{Segment}
use Rattle.segment_rings.specs.Views.{SeatView, DoorView}
use Rattle.stored_calls.specs.declared.stored.Stored.{Stored}
use Rattle.live_record.specs.declared.owed.Owed.{Owed}
use Rattle.live_record.specs.declared.calls.Piece.{Piece}
use Rattle.live_record.specs.declared.calls.TheConstants.{MOST_CALLS}
use Rattle.live_ends.specs.Ends.{SameDoors, SameSeats}
use Rattle.live_segment.specs.Facts.{Holds, IsCut}
use Rattle.live_record.specs.Past.{count_since}
use Rattle.live_segment.specs.LiveView.{LiveView, live_view, keep, SameLive, port_of}
use Rattle.live_segment.proofs.Holding.{holds-same}
use Rattle.live_segment.proofs.SeatsSame.{clients-same, ports-same}
use Rattle.live_segment.proofs.Keeping.{cut_with, notes_kept-same, given_kept-same}

-- the invariant, of equal parts
pub holds_at : (addresses : List Address) (st next : Segment) (xs ys : List Stored) (ps qs : List Piece) (i j : Option Segment) (ws vs : List Owed) (ss ts : List SeatView) (ds es : List DoorView)
    → next ≡ st → ys ≡ xs → qs ≡ ps → j ≡ i → vs ≡ ws → ts ≡ ss → es ≡ ds → Holds addresses st xs ws ss ds → IsCut addresses ps i ss ds → Holds addresses next ys vs ts es × IsCut addresses qs j ts es
holds_at addresses st next xs ys ps qs i j ws vs ss ts ds es a b p m o s d h cut = rw (a, b, p, m, o, s, d) (h, cut)

-- the same where more is known of the rings
pub stays : (addresses : List Address) (st next : Segment) (xs ys : List Stored) (ps qs : List Piece) (i j : Option Segment) (ws vs : List Owed) (ss ts : List SeatView) (ds es : List DoorView)
    → next ≡ st → ys ≡ xs → qs ≡ ps → j ≡ i → vs ≡ ws → SameSeats ss ts → SameDoors ds es → Holds addresses st xs ws ss ds × IsCut addresses ps i ss ds → Holds addresses next ys vs ts es × IsCut addresses qs j ts es
stays addresses st next xs ys ps qs i j ws vs ss ts ds es a b p m o s d h = holds_at addresses st next xs ys ps qs i j ws vs ts ts es es a b p m o refl refl (holds-same addresses st xs ws ss ts ds es s d h.0)
    (cut_with addresses ps i ss ts ds es (notes_kept-same ss ts s) (given_kept-same ds es d) h.1)

-- what is seen of a segment, of equal parts
pub viewed : (P : LiveView → LiveView → Type 0) (a : LiveView) (stopped : Bool) (addresses : List Address) (ps qs : List Piece) (xs ys zs : List Stored) (ss ts us : List SeatView) (ds es : List DoorView)
    → live_view (keep stopped ps) addresses xs ss ds ≡ a → zs ≡ ys → qs ≡ ps → us ≡ ts → P (live_view (keep stopped ps) addresses xs ss ds) (live_view (keep stopped ps) addresses ys ts es) → P a (live_view (keep stopped qs) addresses zs us es)
viewed P a stopped addresses ps qs xs ys zs ss ts us ds es is calls pieces seats h =
    subst (λ (u : LiveView). P u (live_view (keep stopped qs) addresses zs us es)) is (
    subst (λ (u : List Piece). P (live_view (keep stopped ps) addresses xs ss ds) (live_view (keep stopped u) addresses zs us es)) (sym pieces) (
    subst (λ (u : List Stored). P (live_view (keep stopped ps) addresses xs ss ds) (live_view (keep stopped ps) addresses u us es)) (sym calls) (
    subst (λ (u : List SeatView). P (live_view (keep stopped ps) addresses xs ss ds) (live_view (keep stopped ps) addresses ys u es)) (sym seats) h)))

-- nothing but what is known of the rings has changed
pub still : (a : LiveView) (stopped : Bool) (addresses : List Address) (ps qs : List Piece) (xs ys : List Stored) (ss ts : List SeatView) (ds es : List DoorView)
    → live_view (keep stopped ps) addresses xs ss ds ≡ a → ys ≡ xs → qs ≡ ps → SameSeats ss ts → SameDoors ds es → SameLive a (live_view (keep stopped qs) addresses ys ts es)
still a stopped addresses ps qs xs ys ss ts ds es is calls pieces s d =
    subst (λ (u : LiveView). SameLive u (live_view (keep stopped qs) addresses ys ts es)) is
    (record { addresses = refl; calls = calls; clients = clients-same ss ts s; ports = ports-same ds es d; stopped = refl; pieces = pieces })

-- nothing at all has
pub unchanged : (a : LiveView) (stopped : Bool) (addresses : List Address) (ps qs : List Piece) (xs ys : List Stored) (ss : List SeatView) (ds es : List DoorView)
    → live_view (keep stopped ps) addresses xs ss ds ≡ a → ys ≡ xs → qs ≡ ps → es ≡ ds → live_view (keep stopped qs) addresses ys ss es ≡ a
unchanged a stopped addresses ps qs xs ys ss ds es is calls pieces doors =
    ap (λ (u : List Piece). live_view (keep stopped u) addresses ys ss es) pieces ∙ ap (λ (u : List Stored). live_view (keep stopped ps) addresses u ss es) calls ∙ ap (λ (u : List DoorView). live_view (keep stopped ps) addresses xs ss u) doors ∙ is

-- a port that is seen is at a door
pub door_within : (k : ℕ) (ds : List DoorView) → k < length (map port_of ds) → k < length ds
door_within k ds l = rw length-map at l

-- as many calls are stored
pub few_kept : (ps qs : List Piece) (xs ys : List Stored) → qs ≡ ps → ys ≡ xs → count_since ps xs < MOST_CALLS → count_since qs ys < MOST_CALLS
few_kept ps qs xs ys p e few = subst (λ (u : List Piece). count_since u ys < MOST_CALLS) (sym p) (subst (λ (u : List Stored). count_since ps u < MOST_CALLS) (sym e) few)
