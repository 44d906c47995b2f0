-- The lines of a text: each ends by a line feed, the last one also by the end of the text.
use Rattle.std.specs.Prelude.{◌≡◌, ◌≢◌, ℕ, ◌+◌, ◌<◌, List, [], ◌∷◌, length, ◌==◌, ◌&&◌, nat_lt, nat_le, if◌then◌else◌, Option, Some, None, ⊤}
use Rattle.text_lines.specs.declared.lines.LineRead.{LineRead}
use Rattle.text_lines.specs.declared.lines.LineRead.TheVariants.{End, Line, TooLong}

-- b put before the first line
abbrev pub before_lines : ℕ → List (List ℕ) → List (List ℕ)
before_lines b [] = (b ∷ []) ∷ []
before_lines b (line ∷ lines) = (b ∷ line) ∷ lines

abbrev pub lines_of : List ℕ → List (List ℕ)
lines_of [] = []
lines_of (b ∷ bs) = if b == 10 then [] ∷ lines_of bs else before_lines b (lines_of bs)

-- how many bytes precede the first line feed
abbrev pub before_feed : List ℕ → ℕ
before_feed [] = 0
before_feed (b ∷ bs) = if b == 10 then 0 else before_feed bs + 1

-- the length of the first line of these bytes, if its line feed is among them and it has no more bytes than most
abbrev pub held_line : ℕ → List ℕ → Option ℕ
held_line most held = if nat_lt (before_feed held) (length held) && nat_le (before_feed held) most then Some (before_feed held) else None

-- none of them is a line feed
abbrev pub NoFeed : List ℕ → Type 0
NoFeed [] = ⊤
NoFeed (b ∷ bs) = (b ≢ 10) × NoFeed bs

-- what was read is the first line of all, rest being left; or that line has more bytes than most
abbrev pub ReadsLineUpTo : ℕ → LineRead → List ℕ → List ℕ → List ℕ → Type 0
ReadsLineUpTo most End line all rest = lines_of all ≡ []
ReadsLineUpTo most Line line all rest = lines_of all ≡ line ∷ lines_of rest
ReadsLineUpTo most TooLong line all rest = (long : List ℕ) × (others : List (List ℕ)) × (lines_of all ≡ long ∷ others) × (most < length long)
