-- A time before which no message under way becomes silent.
use Rattle.std.proofs.Common.{◌≡◌, ℕ, zero, suc, ◌+◌, ◌-◌, ◌*◌, ◌<◌, ◌≤◌, List, [], ◌∷◌, length, true, false, Some, refl, sym, ◌∙◌, ap, subst, arith, nat_le, take, slice_get, ◌++◌, filter, not, cond, ◌==◌, if◌then◌else◌}
use Rattle.std.proofs.lemmas.Bool.Decides.{nat_tests}
use Rattle.std.proofs.lemmas.List.{take_all, append-nil}
use Rattle.pgn_ids.specs.Address.{global_address}
use Rattle.pgn_ids.specs.declared.address.Address.{Address}
use Rattle.tick_timers.specs.declared.durations.TheConstants.{T1}
use Rattle.log_decode.specs.Session.{patience}
use Rattle.log_decode.specs.Sessions.{Sessions, silent_entry, losses, silenced}
use Rattle.log_decode.specs.Due.{NoneDueBefore}
use Rattle.log_reports.specs.declared.key.Key.{Key}
use Rattle.log_decode.specs.declared.session.Session.{Session}
use Rattle.log_decode.specs.declared.session.TheConstants.{CONNECTION_PATIENCE}
use Rattle.log_decode.specs.declared.session.Fate.TheVariants.{Lost}
use Rattle.log_reports.specs.declared.told.Cause.TheVariants.{TimedOut}
use Rattle.log_reports.specs.declared.told.Told.{Told}
use Rattle.log_decode.proofs.Silences.{same_some}

-- the ends of a broadcast wait least
pub patience_least : (to : Address) → T1 * 1000 ≤ patience to
patience_least to = elim (to.0 == global_address) as (λ b. T1 * 1000 ≤ (if b then T1 * 1000 else CONNECTION_PATIENCE)) [ true ↦ omega arith | false ↦ omega arith ]

pub from_zero : (es : Sessions) → NoneDueBefore 0 es
from_zero [] = tt
from_zero (e ∷ es) = (omega arith, from_zero es)

pub sooner : (n m : ℕ) (es : Sessions) → m ≤ n → NoneDueBefore n es → NoneDueBefore m es
sooner n m [] h d = tt
sooner n m (e ∷ es) h d = let first = d.0 in (omega (arith, h, first), sooner n m es h d.1)

-- before it none is silent
not_yet : (now n heard p : ℕ) → now < n → n ≤ heard + p → 0 < p → nat_le p (now - heard) ≡ false
not_yet now n heard p h d some = grind (arith, nat_tests, h, d, some)

loud_ones : (now n : ℕ) (es : Sessions) → now < n → NoneDueBefore n es → (filter (λ e. not (silent_entry now e)) es ≡ es) × (filter (silent_entry now) es ≡ [])
loud_ones now n [] h d = (refl, refl)
loud_ones now n (e ∷ es) h d =
    let least = patience_least e.0.to in
    let some : 0 < patience e.0.to = omega (arith, least) in
    let loud : silent_entry now e ≡ false = not_yet now n e.1.heard (patience e.0.to) h d.0 some in
    let others = loud_ones now n es h d.1 in
    (ap (λ b. cond (not b) (e ∷ filter (λ x. not (silent_entry now x)) es) (filter (λ x. not (silent_entry now x)) es)) loud ∙ ap (λ xs. e ∷ xs) others.0, ap (λ b. cond b (e ∷ filter (silent_entry now) es) (filter (silent_entry now) es)) loud ∙ others.1)

pub none_yet : (now n : ℕ) (es : Sessions) (told : List Told) → now < n → NoneDueBefore n es → (es, told) ≡ silenced now (es, told)
none_yet now n es told h d =
    let loud = loud_ones now n es h d in
    let t : told ≡ told ++ losses (Lost TimedOut) (filter (silent_entry now) es) = sym (ap (λ ys. told ++ losses (Lost TimedOut) ys) loud.1 ∙ append-nil told) in
    λ i. (sym loud.0 i, t i)

-- the next one of a walk
next_one : (n at : ℕ) (es : Sessions) (e : Key × Session) → slice_get es at ≡ Some e → n ≤ e.1.heard + patience e.0.to → NoneDueBefore n (take at es) → NoneDueBefore n (take (suc at) es)
next_one n at [] e g h d = tt
next_one n zero (x ∷ es) e g h d =
    let same : e ≡ x = sym (same_some g) in
    (subst (λ y. n ≤ y.1.heard + patience y.0.to) same h, tt)
next_one n (suc at) (x ∷ es) e g h d = (d.0, next_one n at es e g h d.1)

pub walked : (n m at : ℕ) (es : Sessions) (e : Key × Session) → slice_get es at ≡ Some e → m ≤ n → m ≤ e.1.heard + patience e.0.to → NoneDueBefore n (take at es) → NoneDueBefore m (take (at + 1) es)
walked n m at es e g less h d =
    let k : suc at ≡ at + 1 = omega arith in
    subst (λ i. NoneDueBefore m (take i es)) k (next_one m at es e g h (sooner n m (take at es) less d))

pub walked_all : (n at : ℕ) (es : Sessions) → length es ≤ at → NoneDueBefore n (take at es) → NoneDueBefore n es
walked_all n at es l d = subst (NoneDueBefore n) (take_all at es l) d
