-- The notes of clients that are there.
use Rattle.std.proofs.Common.{◌≡◌, ℕ, ◌+◌, ◌<◌, ◌≤◌, ◌==◌, Bool, true, false, List, ◌∷◌, ◌++◌, map, Option, Some, None, refl, sym, ◌∙◌, ap, arith, append-nil, append_assoc, []}
use Rattle.tp_wire.specs.declared.outcome.Outcome.{Outcome}
use Rattle.pgn_ids.specs.declared.address.Address.{Address}
use Rattle.segment_rings.specs.declared.words.Note.{Note}
use Rattle.live_record.specs.declared.owed.Owed.{Owed}
use Rattle.segment_rings.specs.Views.{SeatView, noted_after}
use Rattle.message_events.specs.declared.event.Event.{Event}
use Rattle.message_events.specs.declared.event.Event.TheVariants as event
use Rattle.live_record.specs.Record.{find_owed, note_found, notes_of, notes_at, owed_after, settle_notes}
use Rattle.live_ends.specs.Ends.{note_all, OwedWithin}
use Rattle.live_segment.specs.Facts.{NotedWithin, HasNotes, seat_station}
use Rattle.live_record.proofs.Equal.{apart}
use Rattle.live_ends.proofs.Noting.{find_within, within_after_event}

pub has_more : (b : Bool) (xs ys ns : List Note) → HasNotes b xs ys → HasNotes b (noted_after b xs ns) (ys ++ ns)
has_more true xs ys ns h = ap (λ (l : List Note). l ++ ns) h
has_more false xs ys ns h = (h.0 ++ ns, sym (append_assoc xs h.0 ns) ∙ ap (λ (l : List Note). l ++ ns) h.1)

pub has_first : (b : Bool) (xs ys : List Note) → HasNotes b xs ys → HasNotes false xs ys
has_first true xs ys h = ([], append-nil xs ∙ h)
has_first false xs ys h = h

pub stations-note_all : (ns : List (ℕ × Note)) (ss : List SeatView) → map seat_station (note_all ns ss) ≡ map seat_station ss
stations-note_all ns [] = refl
stations-note_all ns (s ∷ ss) = ap (λ (qs : List Address). s.station ∷ qs) (stations-note_all ns ss)

pub noted-append : (n : ℕ) (xs ys : List (ℕ × Note)) → NotedWithin n xs → NotedWithin n ys → NotedWithin n (xs ++ ys)
noted-append n [] ys h i = i
noted-append n (x ∷ xs) ys h i = (h.0, noted-append n xs ys h.1 i)

found_within : (n : ℕ) (r : Option Owed) (o : Outcome) → ((v : Owed) → r ≡ Some v → v.client < n) → NotedWithin n (note_found r o)
found_within n None o h = tt
found_within n (Some w) o h = (h w refl, tt)

notes_at-within : (n : ℕ) (ws : List Owed) (e : Event) → OwedWithin n ws → NotedWithin n (notes_at ws e)
notes_at-within n ws (event.Given p f t g b) h = tt
notes_at-within n ws (event.Outcome f t k o) h = found_within n (find_owed ws f t k) o (λ v. find_within n ws f t k v h)

pub settle_notes-within : (n : ℕ) (ws : List Owed) (es : List Event) → OwedWithin n ws → NotedWithin n (settle_notes ws es)
settle_notes-within n ws [] h = tt
settle_notes-within n ws (e ∷ es) h = noted-append n (notes_at ws e) (settle_notes (owed_after ws e) es) (notes_at-within n ws e h) (settle_notes-within n (owed_after ws e) es (within_after_event n ws e h))

pub notes_of-none : (n c : ℕ) (xs : List (ℕ × Note)) → n ≤ c → NotedWithin n xs → notes_of c xs ≡ []
notes_of-none n c [] l h = refl
notes_of-none n c (x ∷ xs) l h = let e : (x.0 == c) ≡ false = apart x.0 c (omega (arith, h.0)) in rw e (notes_of-none n c xs l h.1)

pub noted-more : (n : ℕ) (xs : List (ℕ × Note)) → NotedWithin n xs → NotedWithin (n + 1) xs
noted-more n [] h = tt
noted-more n (x ∷ xs) h = (omega (arith, h.0), noted-more n xs h.1)
