-- What the words of a command mean, or the first fault.
use Rattle.std.specs.Prelude.{◌≡◌, ℕ, zero, suc, ◌+◌, ◌-◌, ◌%◌, ◌^◌, List, [], ◌∷◌, ◌++◌, take, drop, Bool, true, false, Option, Some, None, Result, Ok, Err, nat_le, if◌then◌else◌, codes}
use Rattle.std.specs.Str.{bytes_eq}
use Rattle.pgn_ids.specs.declared.address.Address.{Address}
use Rattle.port_table.specs.declared.port.PortId.{PortId}
use Rattle.tp_wire.specs.declared.constants.TheConstants.{ETP_MAX_SIZE}
use Rattle.text_digits.specs.Numerals.{pairs_of}
use Rattle.script_commands.specs.Words.{decimal_word, hex_word, dot_in}
use Rattle.line_faults.specs.declared.fault.Fault.{Fault}
use Rattle.line_faults.specs.declared.fault.Fault.TheVariants.{WrongNumberOfWords, BadWord}
use Rattle.line_faults.specs.declared.fault.LineError.{LineError}
use Rattle.line_faults.specs.declared.fault.LineError.TheVariants as errors

infixl 10 ◌>>=◌
abbrev pub ◌>>=◌ : {A B : Type 0} → Result A Fault → (A → Result B Fault) → Result B Fault
(Ok x) >>= f = f x
(Err e) >>= f = Err e

-- the result of a function, seen by view, equals that of reading, unless memory ran out
abbrev pub Fails : {Y : Type 0} → LineError → Result Y Fault → Type 0
Fails errors.OutOfMemory read = Unit {0}
Fails (errors.Fault f) read = read ≡ Err f

abbrev pub Gives : {X Y : Type 0} → (X → Y) → Result X LineError → Result Y Fault → Type 0
Gives view (Ok x) read = read ≡ Ok (view x)
Gives view (Err e) read = Fails e read

-- a word that can't be read is a bad one
abbrev pub or_bad : {A : Type 0} → Option A → Result A Fault
or_bad None = Err BadWord
or_bad (Some x) = Ok x

abbrev pub at_most : ℕ → Option ℕ → Option ℕ
at_most most None = None
at_most most (Some n) = if nat_le n most then Some n else None

unfoldable pub bounded_word : ℕ → List ℕ → Option ℕ
bounded_word most word = at_most most (decimal_word word)

-- a decimal number up to a bound
abbrev pub number_of : ℕ → List ℕ → Result ℕ Fault
number_of most word = or_bad (bounded_word most word)

-- an address of at most two hexadecimal digits
abbrev pub address_of : List ℕ → Result Address Fault
address_of word = do
  n ← or_bad (at_most 255 (hex_word 2 word))
  Ok (record { 0 = n })

-- a PGN of at most five hexadecimal digits
abbrev pub pgn_of : List ℕ → Result ℕ Fault
pgn_of word = or_bad (at_most 1048575 (hex_word 5 word))

-- an identifier of at most eight hexadecimal digits
abbrev pub id_of : List ℕ → Result ℕ Fault
id_of word = or_bad (at_most 4294967295 (hex_word 8 word))

-- pairs of digits
abbrev pub data_of : List ℕ → Result (List ℕ) Fault
data_of word = or_bad (pairs_of word)

-- a port, as 35.1: the address of its station, and its number there
unfoldable pub port_of : List ℕ → Result PortId Fault
port_of word = do
  dot ← or_bad (dot_in word)
  station ← address_of (take dot word)
  number ← number_of (2 ^ 64 - 1) (drop (dot + 1) word)
  Ok (record { station = station; number = number })

-- whether there is room
abbrev pub room_of : List (List ℕ) → Result Bool Fault
room_of [] = Ok true
room_of (word ∷ []) = if bytes_eq word (codes "noroom") then Ok false else Err BadWord
room_of (a ∷ b ∷ words) = Err WrongNumberOfWords

unfoldable pub addresses_of : List (List ℕ) → Result (List Address) Fault
addresses_of [] = Ok []
addresses_of (word ∷ words) = do
  a ← address_of word
  others ← addresses_of words
  Ok (a ∷ others)

-- n bytes, byte i being i modulo 256, from 1
abbrev pub filling : ℕ → List ℕ
filling zero = []
filling (suc n) = filling n ++ (suc n % 256) ∷ []

-- the bytes of a message: data, or fill and how many
unfoldable pub payload_of : List (List ℕ) → Result (List ℕ) Fault
payload_of [] = Err WrongNumberOfWords
payload_of (word ∷ []) = data_of word
payload_of (word ∷ len ∷ []) = if bytes_eq word (codes "fill") then (do
  n ← number_of (ETP_MAX_SIZE + 1) len
  Ok (filling n)) else Err BadWord
payload_of (a ∷ b ∷ c ∷ words) = Err WrongNumberOfWords
