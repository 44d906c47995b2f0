-- Whether two numbers are equal.
use Rattle.std.proofs.Common.{◌≡◌, ◌≢◌, ℕ, ◌==◌, true, false, arith}
use Rattle.std.proofs.lemmas.Bool.Decides.{nat_tests}

pub apart : (a b : ℕ) → a ≢ b → (a == b) ≡ false
apart a b h = grind (arith, nat_tests)

pub together : (a b : ℕ) → a ≡ b → (a == b) ≡ true
together a b h = grind (arith, nat_tests)
