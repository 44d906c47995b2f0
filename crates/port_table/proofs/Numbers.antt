-- Numbers that are given over a list of calls rise.
use Rattle.std.proofs.Common.{◌≡◌, ℕ, zero, suc, ◌+◌, ◌<◌, true, false, List, [], ◌∷◌, length, get_or, Option, Some, None, refl, subst, arith}
use Rattle.std.specs.List.{All}
use Rattle.std.specs.List.Sorted.{IsStrictlyIncreasing}
use Rattle.std.proofs.lemmas.List.Elements.{All-nil, All-cons, All-weaker}
use Rattle.port_table.specs.declared.refused.Refused.{Refused}
use Rattle.port_table.specs.Ports.{Ports, with_port, without_port, with_paused}
use Rattle.port_table.specs.Refusals.{opening_refusal, closing_refusal, pausing_refusal, resuming_refusal}
use Rattle.port_table.specs.Calls.{PortCall, Open, Close, Pause, Resume, unless_refused, after_call, given_before, numbers_given}

-- the first number is above this one, and each further one above the one before it
Above : ℕ → List ℕ → Type 0
Above n [] = Unit {0}
Above n (x ∷ xs) = (n < x) × Above x xs

increasing : (n : ℕ) (xs : List ℕ) → Above n xs → (k : ℕ) → k + 1 < length xs → get_or xs k 0 < get_or xs (k + 1) 0
unfolding Above
increasing n [] above k within = absurd (omega arith)
increasing n (x ∷ []) above k within = absurd (omega arith)
increasing n (x ∷ y ∷ ys) above zero within = above.1.0
increasing n (x ∷ y ∷ ys) above (suc k) within =
    let next : suc k + 1 ≡ suc (k + 1) = omega arith in
    rw next (increasing x (y ∷ ys) above.1 k (omega arith))

all_above : (n : ℕ) (xs : List ℕ) → Above n xs → All (λ x. n < x) xs
unfolding Above
all_above n [] above = All-nil (λ x. n < x)
all_above n (x ∷ xs) above =
    All-cons (λ y. n < y) x xs above.0 (All-weaker (λ y. x < y) (λ y. n < y) (λ y h. omega arith) xs (all_above x xs above.1))

-- a call that opens no port keeps the last number, refused or not
keeps : (o : Option Refused) (ports after : Ports) → after.opened ≡ ports.opened → (unless_refused o ports after).opened ≡ ports.opened
keeps None ports after e = e
keeps (Some cause) ports after e = refl

given_above : (ports : Ports) (calls : List PortCall) → Above ports.opened (numbers_given ports calls)
unfolding Above
given_above ports [] = tt
given_above ports (Open pgn max_len ∷ calls) =
    let next : Ports = with_port ports pgn max_len in
    elim (opening_refusal ports) as (λ o. Above ports.opened (given_before o next.opened (numbers_given (unless_refused o ports next) calls))) [
      | None ↦ (omega arith, given_above next calls)
      | Some cause ↦ given_above ports calls
    ]
given_above ports (Close number ∷ calls) =
    let next : Ports = after_call ports (Close number) in
    subst (λ n. Above n (numbers_given next calls)) (keeps (closing_refusal ports number) ports (without_port ports number) refl) (given_above next calls)
given_above ports (Pause number ∷ calls) =
    let next : Ports = after_call ports (Pause number) in
    subst (λ n. Above n (numbers_given next calls)) (keeps (pausing_refusal ports number) ports (with_paused ports number true) refl) (given_above next calls)
given_above ports (Resume number ∷ calls) =
    let next : Ports = after_call ports (Resume number) in
    subst (λ n. Above n (numbers_given next calls)) (keeps (resuming_refusal ports number) ports (with_paused ports number false) refl) (given_above next calls)

pub numbers_rise : (ports : Ports) (calls : List PortCall) → IsStrictlyIncreasing (numbers_given ports calls)
numbers_rise ports calls = increasing ports.opened (numbers_given ports calls) (given_above ports calls)

pub numbers_above : (ports : Ports) (calls : List PortCall) → All (λ n. ports.opened < n) (numbers_given ports calls)
numbers_above ports calls = all_above ports.opened (numbers_given ports calls) (given_above ports calls)
