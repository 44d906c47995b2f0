-- What is known of a reader's bytes before and after a call, if they are known.
use Rattle.std.specs.Prelude.{◌≡◌, ℕ, ◌<◌, List, [], ◌∷◌, ◌++◌, length, ⊤, None, Some, Option}
use Rattle.std.specs.Io.KnownBytes.{Consumes, Keeps, IsAtEnd, Appends, append_known}
use Rattle.text_lines.specs.Lines.{NoFeed}
use Rattle.text_lines.specs.declared.lines.Part.{Part}
use Rattle.text_lines.specs.declared.lines.Part.TheVariants.{More, Feed, End, TooLong}

-- a front of the bytes was taken, up to a line feed and no further; it is in the line, unless the line would have more than most bytes
abbrev pub TakesPart : ℕ → Part → (old new : Option (List ℕ)) → (before line : List ℕ) → Type 0
TakesPart most More old new before line = (part : List ℕ) × (line ≡ before ++ part) × NoFeed part × Consumes old new part
TakesPart most Feed old new before line = (part : List ℕ) × (line ≡ before ++ part) × NoFeed part × Consumes old new (part ++ 10 ∷ [])
TakesPart most End old new before line = (line ≡ before) × IsAtEnd old × Keeps old new
TakesPart most TooLong old new before line = (part : List ℕ) × (most < length (before ++ part)) × NoFeed part × Consumes old new part

-- if the bytes were known they still are, and P relates them
abbrev pub Known : Option (List ℕ) → Option (List ℕ) → (List ℕ → List ℕ → Type 0) → Type 0
Known None new P = ⊤
Known (Some all) None P = ⊥
Known (Some all) (Some rest) P = P all rest

-- a front of the text was written
abbrev pub IsFront : Option (List ℕ) → Option (List ℕ) → List ℕ → Type 0
IsFront a b text = (more : List ℕ) × Appends a (append_known b more) text
