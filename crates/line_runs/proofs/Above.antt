-- Lines within the limits, and above them.
use Rattle.std.proofs.Common.{◌≡◌, ℕ, ◌+◌, ◌<◌, ◌≤◌, List, [], length, take, Bool, true, false, Option, Some, None, Ok, refl, arith, nat_lt, IfSome, cond, subst}
use Rattle.std.proofs.lemmas.Bool.Decides.{nat_tests}
use Rattle.std.proofs.lemmas.List.{length-take}
use Rattle.text_lines.specs.Known.{Known}
use Rattle.std.specs.Io.{StartsWith}
use Rattle.std.specs.Io.BufRead.{DropsConsumable}
use Rattle.std.specs.Io.KnownBytes.{Keeps}
use Rattle.text_lines.proofs.Known.{reads_held}
use Rattle.text_lines.specs.Lines.{lines_of, before_feed, held_line, ReadsLineUpTo}
use Rattle.text_lines.specs.declared.lines.LineRead.{LineRead}
use Rattle.text_lines.specs.declared.lines.LineRead.TheVariants.{Line, TooLong}
use Rattle.line_faults.specs.declared.fault.Fault.{Fault}
use Rattle.line_faults.specs.declared.fault.Fault.TheVariants.{TooManyLines, LineTooLong}
use Rattle.line_runs.specs.Limits.{limit_fault, above, IsAbove, Read}
use Rattle.line_runs.specs.declared.limits.Limits.{Limits}

not_above : (most n : ℕ) → n ≤ most → nat_lt most n ≡ false
not_above most n h = grind (arith, nat_tests)

is_above : (most n : ℕ) → most < n → nat_lt most n ≡ true
is_above most n h = grind (arith, nat_tests)

pub within : (m : Limits) (n : ℕ) (line : List ℕ) → n ≤ m.lines → length line ≤ m.bytes → above m n line ≡ None
unfolding above
within m n line h l = rw (not_above m.lines n h, not_above m.bytes (length line) l) refl

above_many : (m : Limits) (n : ℕ) (line : List ℕ) → m.lines < n → above m n line ≡ Some TooManyLines
unfolding above
above_many m n line h = rw (is_above m.lines n h) refl

above_long : (m : Limits) (n : ℕ) (line : List ℕ) → m.bytes < length line → above m n line ≡ Some (limit_fault m n)
unfolding above
above_long m n line l = rw (is_above m.bytes (length line) l) (by (nat_lt m.lines n))
  where
    by : (b : Bool) → ◌≡◌ {A = Option Fault} (cond b (Some TooManyLines) (Some LineTooLong)) (Some (cond b TooManyLines LineTooLong))
    by true = refl
    by false = refl

-- a line behind the last one
pub too_many : (m : Limits) (n : ℕ) (old new : Option (List ℕ)) (line : List ℕ) → Known old new (ReadsLineUpTo m.bytes Line line) → m.lines < n → IfSome old (IsAbove m n TooManyLines)
too_many m n None new line reads h = tt
too_many m n (Some rest) None line reads h = absurd reads
too_many m n (Some rest) (Some left) line reads h = (line, lines_of left, reads, above_many m n line h)

-- a line of too many bytes
pub too_long : (m : Limits) (n : ℕ) (old new : Option (List ℕ)) (line : List ℕ) → Known old new (ReadsLineUpTo m.bytes TooLong line) → IfSome old (IsAbove m n (limit_fault m n))
too_long m n None new line reads = tt
too_long m n (Some rest) None line reads = absurd reads
too_long m n (Some rest) (Some left) line reads = (reads.0, reads.1, reads.2, above_long m n reads.0 reads.3)

-- a line that was shown whole, and consumed with its line feed
most_held : (most n : ℕ) (held : List ℕ) → held_line most held ≡ Some n → n ≤ most
most_held most n held e = elim (nat_lt (before_feed held) (length held)) as (λ b. nat_lt (before_feed held) (length held) ≡ b → n ≤ most) [
  | true ↦ λ t. grind (arith, nat_tests)
  | false ↦ λ f. absurd (grind (arith, nat_tests))
] refl

short_held : (most n : ℕ) (held : List ℕ) → n ≤ most → length (take n held) ≤ most
short_held most n held h = grind (arith, length-take)

pub read_held : (m : Limits) (n : ℕ) (a b c : Option (List ℕ)) (limit : Option ℕ) (held : List ℕ) (k : ℕ) → n ≤ m.lines → held_line m.bytes held ≡ Some k
    → IfSome a (λ xs. StartsWith xs held) → IfSome a (λ xs. length held ≡ 0 → xs ≡ []) → Keeps a b × IfSome a (λ _. IfSome limit (λ j. length held ≤ j))
    → DropsConsumable b c limit (k + 1) → Read m n (Ok true) (take k held) a c
read_held m n a b c limit held k few e front end kept drops = (within m n (take k held) few (short_held m.bytes k held (most_held m.bytes k held e)), reads_held m.bytes a b c limit held k e front end kept drops)

-- what was read, by its name
pub reads_as : (most : ℕ) (read as_known : LineRead) (old new : Option (List ℕ)) (line : List ℕ) → read ≡ as_known → Known old new (ReadsLineUpTo most read line) → Known old new (ReadsLineUpTo most as_known line)
reads_as most read as_known old new line e k = subst (λ r. Known old new (ReadsLineUpTo most r line)) e k

pub read_as : (m : Limits) (n : ℕ) (is_line as_known : Bool) (line : List ℕ) (old new : Option (List ℕ)) → is_line ≡ as_known → Read m n (Ok is_line) line old new → Read m n (Ok as_known) line old new
read_as m n is_line as_known line old new e h = subst (λ (b : Bool). Read m n (Ok b) line old new) e h
