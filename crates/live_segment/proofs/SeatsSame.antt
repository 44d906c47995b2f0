-- Seats and doors of whose rings more is known stay what they were.
use Rattle.std.proofs.Common.{◌≡◌, ℕ, List, ◌∷◌, map, refl, sym, ◌∙◌, ap, subst, []}
use Rattle.segment_rings.specs.declared.words.Note.{Note}
use Rattle.segment_rings.specs.Views.{SeatView, DoorView, SameSeat}
use Rattle.stored_calls.specs.declared.stored.Stored.{Stored}
use Rattle.live_record.specs.Record.{accepted, notes_of}
use Rattle.live_ends.specs.Ends.{SameDoors, SameSeats}
use Rattle.live_segment.specs.Facts.{PopsAccepted, HasNotes, IsEndOf, PushesNotes, seat_station}
use Rattle.live_segment.specs.LiveView.{client_of, port_of}

pub stations-same : (ss ts : List SeatView) → SameSeats ss ts → map seat_station ts ≡ map seat_station ss
stations-same [] [] s = refl
stations-same [] (t ∷ ts) s = absurd s
stations-same (x ∷ ss) [] s = absurd s
stations-same (x ∷ ss) (t ∷ ts) s = λ i. s.0.station i ∷ stations-same ss ts s.1 i

pub pops-same : (xs : List Stored) (ss ts : List SeatView) → SameSeats ss ts → PopsAccepted xs ss → PopsAccepted xs ts
pops-same xs [] [] s h = tt
pops-same xs [] (t ∷ ts) s h = absurd s
pops-same xs (x ∷ ss) [] s h = absurd s
pops-same xs (x ∷ ss) (t ∷ ts) s h = (s.0.popped ∙ h.0 ∙ sym (ap (λ n. accepted n xs) s.0.id), pops-same xs ss ts s.1 h.1)

end-same : (g h : ℕ) (ks ls xs ys : List Note) → h ≡ g → ls ≡ ks → ys ≡ xs → IsEndOf g ks xs → IsEndOf h ls ys
end-same g h ks ls xs ys a b c e = rw (a, b, c) e

pub notes-same : (ns : List (ℕ × Note)) (ss ts : List SeatView) → SameSeats ss ts → PushesNotes ns ss → PushesNotes ns ts
notes-same ns [] [] s h = tt
notes-same ns [] (t ∷ ts) s h = absurd s
notes-same ns (x ∷ ss) [] s h = absurd s
notes-same ns (x ∷ ss) (t ∷ ts) s h =
    let i : notes_of x.id ns ≡ notes_of t.id ns = sym (ap (λ n. notes_of n ns) s.0.id) in
    let own : HasNotes x.active x.noted (notes_of t.id ns) = subst (HasNotes x.active x.noted) i h.1 in
    (end-same x.gone t.gone x.kept t.kept (notes_of x.id ns) (notes_of t.id ns) s.0.gone s.0.kept (sym i) h.0, rw (s.0.active, s.0.noted) own, notes-same ns ss ts s.1 h.2)

client-same : (s t : SeatView) → SameSeat s t → client_of t ≡ client_of s
client-same s t h = let a = h.station in let b = h.active in let c = h.popped in let d = h.noted in let e = h.gone in let f = h.named in cc

pub clients-same : (ss ts : List SeatView) → SameSeats ss ts → map client_of ts ≡ map client_of ss
clients-same [] [] s = refl
clients-same [] (t ∷ ts) s = absurd s
clients-same (x ∷ ss) [] s = absurd s
clients-same (x ∷ ss) (t ∷ ts) s = let a = client-same x t s.0 in let b = clients-same ss ts s.1 in cc

pub ports-same : (ds es : List DoorView) → SameDoors ds es → map port_of es ≡ map port_of ds
ports-same [] [] s = refl
ports-same [] (t ∷ ts) s = absurd s
ports-same (x ∷ ss) [] s = absurd s
ports-same (x ∷ ss) (t ∷ ts) s = let a = s.0.port in let b = s.0.active in let c = s.0.pushed in let g = s.0.gone in let p = s.0.places in let n = s.0.named in let d = ports-same ss ts s.1 in cc
