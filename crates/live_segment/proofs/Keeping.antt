-- Before the first cut each note and each delivery is kept: only a cut changes how many aren't.
use Rattle.std.proofs.Common.{◌≡◌, ℕ, zero, suc, ◌<◌, List, ◌∷◌, ◌++◌, length, map, set, get_or, Option, ◌∙◌, arith, []}
use Rattle.std.proofs.lemmas.List.{length-map}
use Rattle.pgn_ids.specs.declared.address.Address.{Address}
use Rattle.message_events.specs.declared.event.Event.{Event}
use Rattle.segment_law.specs.Segment.{Segment}
use Rattle.segment_rings.specs.declared.words.Note.{Note}
use Rattle.segment_rings.specs.Views.{SeatView, DoorView}
use Rattle.live_record.specs.declared.calls.Piece.{Piece}
use Rattle.live_ends.specs.Ends.{note_all, give_all, SameSeats, SameDoors}
use Rattle.live_segment.specs.Facts.{KeepNotes, KeepGiven, IsCut}
use Rattle.live_segment.specs.LiveView.{ClientView, PortView, client_of, port_of, KeepsUncut}

pub cut_with : (addresses : List Address) (ps : List Piece) (i : Option Segment) (ss ts : List SeatView) (ds es : List DoorView) → (KeepNotes ss → KeepNotes ts) → (KeepGiven ds → KeepGiven es) → IsCut addresses ps i ss ds → IsCut addresses ps i ts es
cut_with addresses ps i ss ts ds es f g h = record { is_of = h.is_of; keeps = λ e. (f (h.keeps e).0, g (h.keeps e).1) }

pub notes_kept-same : (ss ts : List SeatView) → SameSeats ss ts → KeepNotes ss → KeepNotes ts
notes_kept-same [] [] s h = tt
notes_kept-same [] (t ∷ ts) s h = absurd s
notes_kept-same (x ∷ ss) [] s h = absurd s
notes_kept-same (x ∷ ss) (t ∷ ts) s h = (s.0.gone ∙ h.0, notes_kept-same ss ts s.1 h.1)

pub notes_kept-all : (ns : List (ℕ × Note)) (ss : List SeatView) → KeepNotes ss → KeepNotes (note_all ns ss)
notes_kept-all ns [] h = tt
notes_kept-all ns (s ∷ ss) h = (h.0, notes_kept-all ns ss h.1)

-- one seat is another one, which keeps as much
pub notes_kept-set : (k : ℕ) (ss : List SeatView) (d t : SeatView) → t.gone ≡ (get_or ss k d).gone → KeepNotes ss → KeepNotes (set ss k t)
notes_kept-set k [] d t e h = tt
notes_kept-set zero (s ∷ ss) d t e h = (e ∙ h.0, h.1)
notes_kept-set (suc k) (s ∷ ss) d t e h = (h.0, notes_kept-set k ss d t e h.1)

pub notes_kept-push : (ss : List SeatView) (s : SeatView) → s.gone ≡ 0 → KeepNotes ss → KeepNotes (ss ++ s ∷ [])
notes_kept-push [] s e h = (e, tt)
notes_kept-push (x ∷ ss) s e h = (h.0, notes_kept-push ss s e h.1)

pub given_kept-same : (ds es : List DoorView) → SameDoors ds es → KeepGiven ds → KeepGiven es
given_kept-same [] [] s h = tt
given_kept-same [] (e ∷ es) s h = absurd s
given_kept-same (d ∷ ds) [] s h = absurd s
given_kept-same (d ∷ ds) (e ∷ es) s h = (s.0.gone ∙ h.0, given_kept-same ds es s.1 h.1)

pub given_kept-all : (es : List Event) (ds : List DoorView) → KeepGiven ds → KeepGiven (give_all es ds)
given_kept-all es [] h = tt
given_kept-all es (d ∷ ds) h = (h.0, given_kept-all es ds h.1)

pub given_kept-set : (k : ℕ) (ds : List DoorView) (d e : DoorView) → e.gone ≡ (get_or ds k d).gone → KeepGiven ds → KeepGiven (set ds k e)
given_kept-set k [] d e i h = tt
given_kept-set zero (x ∷ ds) d e i h = (i ∙ h.0, h.1)
given_kept-set (suc k) (x ∷ ds) d e i h = (h.0, given_kept-set k ds d e i h.1)

pub given_kept-push : (ds : List DoorView) (d : DoorView) → d.gone ≡ 0 → KeepGiven ds → KeepGiven (ds ++ d ∷ [])
given_kept-push [] d e h = (e, tt)
given_kept-push (x ∷ ds) d e h = (h.0, given_kept-push ds d e h.1)

-- what is seen of it

notes_seen : (c : ℕ) (ss : List SeatView) (x : ClientView) → c < length ss → KeepNotes ss → (get_or (map client_of ss) c x).notes_gone ≡ 0
notes_seen c [] x l h = absurd (omega arith)
notes_seen zero (s ∷ ss) x l h = h.0
notes_seen (suc c) (s ∷ ss) x l h = notes_seen c ss x (omega arith) h.1

given_seen : (k : ℕ) (ds : List DoorView) (p : PortView) → k < length ds → KeepGiven ds → (get_or (map port_of ds) k p).given_gone ≡ 0
given_seen k [] p l h = absurd (omega arith)
given_seen zero (d ∷ ds) p l h = h.0
given_seen (suc k) (d ∷ ds) p l h = given_seen k ds p (omega arith) h.1

pub keeps_uncut : (addresses : List Address) (ps : List Piece) (i : Option Segment) (ss : List SeatView) (ds : List DoorView) → IsCut addresses ps i ss ds → KeepsUncut ps (map client_of ss) (map port_of ds)
keeps_uncut addresses ps i ss ds h = λ none. (
  λ c x l. notes_seen c ss x (rw length-map at l) (h.keeps none).0,
  λ k p l. given_seen k ds p (rw length-map at l) (h.keeps none).1,
)
