-- What is there is one alone.
use Rattle.std.proofs.Common.{◌≡◌, ap, Option, Some, None}

abbrev or : {A : Type 0} → A → Option A → A
or d None = d
or d (Some x) = x

pub same : {A : Type 0} (x y : A) → Some x ≡ Some y → x ≡ y
same x y e = ap (or x) e
