-- A frame as it is kept: eight bytes. The first `len` are its data, and the others are 0.
use Rattle.std.specs.Prelude.{◌≡◌, ◌-◌, ◌≤◌, ◌++◌, length, take, drop, replicate}
use Rattle.std.proofs.Common.{refl, arith, length-take-le}
use Rattle.std.proofs.lemmas.List.{take-append-drop}
use Rattle.bus_frame.specs.Frames.{CanFrame}
use Rattle.bus_frame.specs.declared.frame.Frame.TheInside.{Inside}

-- the frame that the kept bytes represent
abbrev pub frame_value : Inside → CanFrame
frame_value f = record { id = f.id; bytes = take f.len f.kept }

-- at most eight bytes are data, and what follows them is 0
pub record IsPadded (f : Inside) : Type 0 where
  pub within : f.len ≤ 8
  pub whole : length f.kept ≡ 8
  pub padded : drop f.len f.kept ≡ replicate (8 - f.len) 0

-- the fields that a frame is kept in
abbrev pub frame_fields : CanFrame → Inside
frame_fields f = record { id = f.id; len = length f.bytes; kept = f.bytes ++ replicate (8 - length f.bytes) 0 }

-- nothing of the fields is lost
pub frame_fields_back : (f : Inside) → IsPadded f → frame_fields (frame_value f) ≡ f
frame_fields_back f h =
    let l : length (take f.len f.kept) ≡ f.len = length-take-le f.len f.kept (omega (arith, h.within, h.whole)) in
    let d : take f.len f.kept ++ replicate (8 - f.len) 0 ≡ f.kept = rw (← h.padded) (take-append-drop f.len f.kept) in
    rw (l, d) refl
