-- Seats and doors that are cut, one by one.
use Rattle.std.proofs.Common.{suc, List, ◌∷◌, arith, []}
use Rattle.segment_rings.specs.Views.{SeatView, DoorView, CutSeat, CutDoor}
use Rattle.live_ends.specs.Ends.{CutSeats, CutDoors}

-- seat by seat, and door by door

abbrev pub AllCut : List SeatView → List SeatView → Type 0
AllCut [] [] = Unit {0}
AllCut [] (t ∷ ts) = ⊥
AllCut (s ∷ ss) [] = ⊥
AllCut (s ∷ ss) (t ∷ ts) = CutSeat s t × AllCut ss ts

pub all_cut : (ss ts : List SeatView) → CutSeats ss ts → AllCut ss ts
all_cut [] [] h = tt
all_cut [] (t ∷ ts) h = absurd (omega (arith, h.0))
all_cut (s ∷ ss) [] h = absurd (omega (arith, h.0))
all_cut (s ∷ ss) (t ∷ ts) h = (h.1 0 s (omega arith), all_cut ss ts (omega (arith, h.0), λ k d l. h.1 (suc k) d (omega arith)))

abbrev pub AllDoorsCut : List DoorView → List DoorView → Type 0
AllDoorsCut [] [] = Unit {0}
AllDoorsCut [] (e ∷ es) = ⊥
AllDoorsCut (d ∷ ds) [] = ⊥
AllDoorsCut (d ∷ ds) (e ∷ es) = CutDoor d e × AllDoorsCut ds es

pub all_doors_cut : (ds es : List DoorView) → CutDoors ds es → AllDoorsCut ds es
all_doors_cut [] [] h = tt
all_doors_cut [] (e ∷ es) h = absurd (omega (arith, h.0))
all_doors_cut (d ∷ ds) [] h = absurd (omega (arith, h.0))
all_doors_cut (d ∷ ds) (e ∷ es) h = (h.1 0 d (omega arith), all_doors_cut ds es (omega (arith, h.0), λ k x l. h.1 (suc k) x (omega arith)))
