-- The bytes of a frame as a table shows them.
use Rattle.std.specs.Prelude.{◌≡◌, ℕ, ◌/◌, ◌%◌, ◌^◌, List, [], ◌∷◌, ⊤}

-- this byte, one that is written FF and not looked at, or whatever follows, which isn't written
pub data Octet : Type 0 where
  Is : (byte : ℕ) → Octet
  Reserved : Octet
  Rest : Octet

-- numbers of two, three and four bytes, the least first
abbrev pub two : ℕ → List Octet
two n = Is (n % 2 ^ 8) ∷ Is (n / 2 ^ 8) ∷ []

abbrev pub three : ℕ → List Octet
three n = Is (n % 2 ^ 8) ∷ Is (n / 2 ^ 8 % 2 ^ 8) ∷ Is (n / 2 ^ 16) ∷ []

abbrev pub four : ℕ → List Octet
four n = Is (n % 2 ^ 8) ∷ Is (n / 2 ^ 8 % 2 ^ 8) ∷ Is (n / 2 ^ 16 % 2 ^ 8) ∷ Is (n / 2 ^ 24) ∷ []

-- the bytes that are written
abbrev pub written_bytes : List Octet → List ℕ
written_bytes [] = []
written_bytes (Is byte ∷ octets) = byte ∷ written_bytes octets
written_bytes (Reserved ∷ octets) = 0xFF ∷ written_bytes octets
written_bytes (Rest ∷ octets) = []

-- the bytes are read as these octets
abbrev pub Shows : List Octet → List ℕ → Type 0
Shows [] [] = ⊤
Shows [] (b ∷ bytes) = ⊥
Shows (Is byte ∷ octets) [] = ⊥
Shows (Is byte ∷ octets) (b ∷ bytes) = (b ≡ byte) × Shows octets bytes
Shows (Reserved ∷ octets) [] = ⊥
Shows (Reserved ∷ octets) (b ∷ bytes) = Shows octets bytes
Shows (Rest ∷ octets) bytes = ⊤
