-- What is said of a result.
use Rattle.std.proofs.Common.{◌≡◌, false, true, Ok, Err}
use Rattle.std.specs.Prelude.{Result, Ok, Err, IsErr, IfOk, OnErr}

pub on_ok : {T E : Type 0} (P Q : T → Type 0) (r : Result T E) → ((x : T) → P x → Q x) → IfOk r P → IfOk r Q
on_ok P Q (Ok x) f h = f x h
on_ok P Q (Err e) f h = tt

pub on_err : {T E P : Type 0} (r : Result T E) → P → OnErr r P
on_err (Ok x) p = tt
on_err (Err e) p = p

pub no_ok : {T E : Type 0} (P : T → Type 0) (r : Result T E) → IsErr r → IfOk r P
no_ok P (Ok x) e = absurd (let no : false ≡ true = e in cc)
no_ok P (Err x) e = tt
