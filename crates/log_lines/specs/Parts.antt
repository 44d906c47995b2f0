-- Parts of a line, and the line that they are.
use Rattle.std.specs.Prelude.{ℕ, ◌-◌, List, ◌++◌, length, replicate, codes}
use Rattle.json.specs.Print.{quoted}
use Rattle.std.specs.Fmt.{decimal}
use Rattle.pgn_ids.specs.declared.address.Address.{Address}
use Rattle.text_digits.specs.Digits.{digits, unspaced}
use Rattle.log_fields.specs.Time.{time_text}
use Rattle.log_lines.specs.declared.parts.Part.{Part}
use Rattle.log_lines.specs.declared.parts.Part.TheVariants as parts

unfoldable pub address_text : Address → List ℕ
address_text a = digits 16 2 a.0

unfoldable pub pgn_text : ℕ → List ℕ
pgn_text pgn = digits 16 5 pgn

-- a text behind a blank, in a column of so many characters, at its right side
unfoldable pub column : (width : ℕ) → List ℕ → List ℕ
column width text = codes " " ++ replicate (width - length text) 32 ++ text

abbrev pub part_text : Part → List ℕ
part_text (parts.Text text) = text.now
part_text (parts.Bytes bytes) = bytes.now
part_text (parts.Number n) = decimal n
part_text (parts.Time now) = time_text now
part_text (parts.Address a) = address_text a
part_text (parts.Pgn pgn) = pgn_text pgn
part_text (parts.Hex bytes) = unspaced bytes.now
part_text (parts.Column width n) = column width (decimal n)
part_text (parts.Quoted text) = quoted text.now
