-- What leaves the marks of those that have news.
use Rattle.std.proofs.Common.{◌≡◌, List, ◌∷◌, map, refl, []}
use Rattle.segment_rings.specs.Views.{SeatView, DoorView, has_noted_news, has_pushed_news}
use Rattle.live_ends.specs.Ends.{SameSeats, SameDoors, CutSeats, CutDoors}
use Rattle.live_ends.proofs.Cuts.{AllCut, all_cut, AllDoorsCut, all_doors_cut}

-- the marks of those that have news

pub marks-same : (ss ts : List SeatView) → SameSeats ss ts → map has_noted_news ts ≡ map has_noted_news ss
marks-same [] [] s = refl
marks-same [] (t ∷ ts) s = absurd s
marks-same (x ∷ ss) [] s = absurd s
marks-same (x ∷ ss) (t ∷ ts) s = let a = s.0.named in let b = s.0.noted in let r = marks-same ss ts s.1 in cc

marks-all_cut : (ss ts : List SeatView) → AllCut ss ts → map has_noted_news ts ≡ map has_noted_news ss
marks-all_cut [] [] s = refl
marks-all_cut [] (t ∷ ts) s = absurd s
marks-all_cut (x ∷ ss) [] s = absurd s
marks-all_cut (x ∷ ss) (t ∷ ts) s = let a = s.0.named in let b = s.0.noted in let r = marks-all_cut ss ts s.1 in cc

pub marks-cut : (ss ts : List SeatView) → CutSeats ss ts → map has_noted_news ts ≡ map has_noted_news ss
marks-cut ss ts c = marks-all_cut ss ts (all_cut ss ts c)

pub door_marks-same : (ds es : List DoorView) → SameDoors ds es → map has_pushed_news es ≡ map has_pushed_news ds
door_marks-same [] [] s = refl
door_marks-same [] (e ∷ es) s = absurd s
door_marks-same (d ∷ ds) [] s = absurd s
door_marks-same (d ∷ ds) (e ∷ es) s = let a = s.0.named in let b = s.0.pushed in let r = door_marks-same ds es s.1 in cc

door_marks-all_cut : (ds es : List DoorView) → AllDoorsCut ds es → map has_pushed_news es ≡ map has_pushed_news ds
door_marks-all_cut [] [] s = refl
door_marks-all_cut [] (e ∷ es) s = absurd s
door_marks-all_cut (d ∷ ds) [] s = absurd s
door_marks-all_cut (d ∷ ds) (e ∷ es) s = let a = s.0.named in let b = s.0.pushed in let r = door_marks-all_cut ds es s.1 in cc

pub door_marks-cut : (ds es : List DoorView) → CutDoors ds es → map has_pushed_news es ≡ map has_pushed_news ds
door_marks-cut ds es c = door_marks-all_cut ds es (all_doors_cut ds es c)
