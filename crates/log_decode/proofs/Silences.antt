-- What is told of messages that are lost, one after another.
use Rattle.std.proofs.Common.{◌≡◌, ℕ, zero, suc, ◌+◌, List, [], ◌∷◌, ◌++◌, Bool, true, false, Option, Some, None, refl, sym, ◌∙◌, ap, append_assoc, arith, filter, slice_get, drop, drop_of_length-le, length, ◌≤◌, is_some, unwrap_or, true≢false, cond, if◌then◌else◌}
use Rattle.std.specs.Prelude.{option_to_list}
use Rattle.std.proofs.lemmas.List.{append-nil}
use Rattle.log_decode.specs.Session.{told_of}
use Rattle.log_decode.specs.Sessions.{Sessions, silent_entry, losses}
use Rattle.log_reports.specs.declared.key.Key.{Key}
use Rattle.log_decode.specs.declared.session.Session.{Session}
use Rattle.log_decode.specs.declared.session.Fate.{Fate}
use Rattle.log_decode.specs.declared.session.Fate.TheVariants.{Lost}
use Rattle.log_reports.specs.declared.told.Cause.TheVariants.{TimedOut}
use Rattle.log_reports.specs.declared.told.Told.{Told}

pub none_is_some : {A : Type 0} {x : A} → None ≡ Some x → ⊥
none_is_some e = true≢false (sym (ap is_some e))

pub same_some : {A : Type 0} {x y : A} → Some x ≡ Some y → x ≡ y
same_some {A} {x} e = ap (λ r. unwrap_or r x) e

-- a walk over the places
pub at_place : (es : Sessions) (at : ℕ) (e : Key × Session) → slice_get es at ≡ Some e → drop at es ≡ e ∷ drop (suc at) es
at_place [] at e g = absurd (none_is_some g)
at_place (x ∷ es) zero e g = ap (λ y. y ∷ es) (same_some g)
at_place (x ∷ es) (suc at) e g = at_place es at e g

-- one that is lost is told behind the others
pub losses_on : (fate : Fate) (at : ℕ) (es : Sessions) (e : Key × Session) (told : List Told) (t : Told) (all : List Told) → slice_get es at ≡ Some e → Some t ≡ told_of e.0 e.1 fate
    → told ++ losses fate (drop at es) ≡ all → (told ++ t ∷ []) ++ losses fate (drop (at + 1) es) ≡ all
losses_on fate at es e told t all g one so_far =
    let n : at + 1 ≡ suc at = omega arith in
    let d : losses fate (drop at es) ≡ t ∷ losses fate (drop (suc at) es) = ap (losses fate) (at_place es at e g) ∙ ap (λ o. option_to_list o ++ losses fate (drop (suc at) es)) (sym one) in
    ap (λ m. (told ++ t ∷ []) ++ losses fate (drop m es)) n ∙ append_assoc told (t ∷ []) (losses fate (drop (suc at) es)) ∙ sym (ap (λ ys. told ++ ys) d) ∙ so_far

pub losses_all : (fate : Fate) (at : ℕ) (es : Sessions) (told all : List Told) → length es ≤ at → told ++ losses fate (drop at es) ≡ all → told ≡ all
losses_all fate at es told all l so_far =
    sym (append-nil told) ∙ sym (ap (λ ys. told ++ losses fate ys) (drop_of_length-le es l)) ∙ so_far

-- of those from a place on, those that are silent
abbrev pub silent_from : (now at : ℕ) → Sessions → List Told
silent_from now at es = losses (Lost TimedOut) (filter (silent_entry now) (drop at es))

abbrev rest_from : (now at : ℕ) → Sessions → Sessions
rest_from now at es = filter (silent_entry now) (drop at es)

-- what a test of the first one makes of them
abbrev by_silence : Key × Session → Sessions → Bool → List Told
by_silence e rest b = losses (Lost TimedOut) (cond b (e ∷ rest) rest)

from_place : (now at : ℕ) (es : Sessions) (e : Key × Session) (b : Bool) → slice_get es at ≡ Some e → silent_entry now e ≡ b → silent_from now at es ≡ by_silence e (rest_from now (suc at) es) b
from_place now at es e b g s = ap (λ ys. losses (Lost TimedOut) (filter (silent_entry now) ys)) (at_place es at e g) ∙ ap (by_silence e (rest_from now (suc at) es)) s

abbrev told_if : Key × Session → Bool → Option Told
told_if e b = if b then told_of e.0 e.1 (Lost TimedOut) else None

-- the next one of a walk is told where it is silent
pub next_told : (now at : ℕ) (es : Sessions) (e : Key × Session) (told all : List Told) (one : Option Told) → slice_get es at ≡ Some e → one ≡ (if silent_entry now e then told_of e.0 e.1 (Lost TimedOut) else None)
    → told ++ silent_from now at es ≡ all → (told ++ option_to_list one) ++ silent_from now (at + 1) es ≡ all
next_told now at es e told all one g is so_far =
    let n : at + 1 ≡ suc at = omega arith in
    ap (λ m. (told ++ option_to_list one) ++ silent_from now m es) n ∙ append_assoc told (option_to_list one) (silent_from now (suc at) es) ∙ sym (ap (λ ys. told ++ ys) (by (silent_entry now e) refl)) ∙ so_far
  where
    by : (b : Bool) → silent_entry now e ≡ b → silent_from now at es ≡ option_to_list one ++ silent_from now (suc at) es
    by true t = from_place now at es e true g t ∙ sym (ap (λ o. option_to_list o ++ silent_from now (suc at) es) (is ∙ ap (told_if e) t))
    by false t = from_place now at es e false g t ∙ sym (ap (λ o. option_to_list o ++ silent_from now (suc at) es) (is ∙ ap (told_if e) t))

pub silent_all : (now at : ℕ) (es : Sessions) (told all : List Told) → length es ≤ at → told ++ silent_from now at es ≡ all → told ≡ all
silent_all now at es told all l so_far = sym (append-nil told) ∙ sym (ap (λ ys. told ++ losses (Lost TimedOut) (filter (silent_entry now) ys)) (drop_of_length-le es l)) ∙ so_far
