-- How a line of a log is written: (SECONDS.MICROS) IFACE ID#HEX.
use Rattle.std.specs.Prelude.{ℕ, ◌^◌, ◌<◌, ◌≤◌, List, [], ◌∷◌, ◌++◌, length, ⊤}
use Rattle.bus_frame.specs.Frames.{CanFrame}
use Rattle.text_digits.specs.Digits.{digits, unspaced}
use Rattle.log_fields.specs.Iface.{name_of}
use Rattle.log_fields.specs.Time.{time_text}
use Rattle.log_fields.specs.declared.iface.Iface.{Iface}

unfoldable pub frame_text : CanFrame → List ℕ
frame_text frame = digits 16 8 frame.id ++ 35 ∷ unspaced frame.bytes

unfoldable pub log_text : ℕ → Iface → CanFrame → List ℕ
log_text time iface frame = time_text time ++ 32 ∷ name_of iface ++ 32 ∷ frame_text frame

-- each is a byte
abbrev pub AreBytes : List ℕ → Type 0
AreBytes [] = ⊤
AreBytes (b ∷ bs) = (b < 2 ^ 8) × AreBytes bs

-- an identifier of 29 bits and at most eight bytes
pub record IsFrame (f : CanFrame) : Type 0 where
  pub id : f.id < 2 ^ 29
  pub short : length f.bytes ≤ 8
  pub bytes : AreBytes f.bytes
