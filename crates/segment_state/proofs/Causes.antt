-- A cause that the code looks for beforehand is that by which the law refuses the call.
use Rattle.std.proofs.Common.{◌≡◌, ◌+◌, ◌-◌, ◌<◌, ◌≤◌, ◌^◌, Bool, true, false, cond, [], not, nat_le, nat_lt, length, Option, Some, None, Ok, Err, IsOk, refl, sym, ap, ◌∙◌, arith, ⊎_elim}
use Rattle.std.specs.Prelude.{slice_get, is_some}
use Rattle.std.proofs.lemmas.Bool.{cases_lt, lt-ltb, le-ltb, le-leb, lt-leb, or_left, or_right, or_from, not_from_true, not_from_false}
use Rattle.std.proofs.lemmas.Option.{slice_get-get_or, same_Some}
use Rattle.bus_frame.specs.Frames.{CanFrame}
use Rattle.bus_order.specs.Bus.{Bus, kept_limit, bus_len, frame_at, is_full}
use Rattle.bus_order.specs.Kept.{IsSound}
use Rattle.segment_law.specs.Calls.{Answer}
use Rattle.segment_law.specs.declared.refusal.Refusal.{Refusal}
use Rattle.segment_state.specs.Answers.{refusal_of}

-- What a cause says of the answer

pub cause_refused : (answer : Answer) (cause : Refusal) → Some cause ≡ refusal_of answer → answer ≡ Err cause
cause_refused (Ok step) cause e = absurd cc
cause_refused (Err other) cause e = ap Err (sym (same_Some cause other e))

pub no_cause_passes : (answer : Answer) → None ≡ refusal_of answer → IsOk answer
no_cause_passes (Ok step) e = refl
no_cause_passes (Err cause) e = absurd cc

-- Whether the bus is full

-- no place is left
pub full_at_end : (b : Bus) → bus_len b ≡ 2 ^ 64 - 1 → true ≡ is_full b
full_at_end b end =
    sym (or_right (nat_le kept_limit (length b.kept)) (not (nat_lt (bus_len b + 1) (2 ^ 64))) (not_from_false (nat_lt (bus_len b + 1) (2 ^ 64)) (le-ltb (bus_len b + 1) (2 ^ 64) (omega (arith, end)))))

-- there are places, so the frames that are kept decide
full_by_kept : (b : Bus) (full : Bool) → IsSound b → (bus_len b ≡ 2 ^ 64 - 1 → ⊥) → nat_le kept_limit (length b.kept) ≡ full → full ≡ is_full b
full_by_kept b full sound end kept =
    let some : nat_lt (bus_len b + 1) (2 ^ 64) ≡ true = lt-ltb (bus_len b + 1) (2 ^ 64) (omega (arith, sound.fits, end)) in
    by full kept (not_from_true (nat_lt (bus_len b + 1) (2 ^ 64)) some)
  where
    by : (f : Bool) → nat_le kept_limit (length b.kept) ≡ f → not (nat_lt (bus_len b + 1) (2 ^ 64)) ≡ false → f ≡ is_full b
    by true k left = sym (or_left (nat_le kept_limit (length b.kept)) (not (nat_lt (bus_len b + 1) (2 ^ 64))) k)
    by false k left = sym (or_from (nat_le kept_limit (length b.kept)) (not (nat_lt (bus_len b + 1) (2 ^ 64))) k left)

-- fewer frames were put than it keeps
pub few_put : (b : Bus) → IsSound b → (bus_len b ≡ 2 ^ 64 - 1 → ⊥) → bus_len b < 4096 → false ≡ is_full b
few_put b sound end few = full_by_kept b false sound end (lt-leb kept_limit (length b.kept) (omega (arith, few, sound.from_one)))

-- the frame that is furthest behind where all that it keeps are kept
pub kept_by_frame : (b : Bus) → IsSound b → (bus_len b ≡ 2 ^ 64 - 1 → ⊥) → 4096 ≤ bus_len b → is_some (frame_at b (bus_len b - 4095)) ≡ is_full b
kept_by_frame b sound end many =
    ⊎_elim
    (λ (lt : length b.kept < kept_limit).
    let before : nat_le b.first (bus_len b - 4095) ≡ false = lt-leb b.first (bus_len b - 4095) (omega (arith, lt, many, sound.from_one)) in
    ap (λ (t : Bool). is_some (cond {A = Option CanFrame} t (slice_get b.kept (bus_len b - 4095 - b.first)) None)) before ∙ full_by_kept b false sound end (lt-leb kept_limit (length b.kept) lt))
    (λ (le : kept_limit ≤ length b.kept).
    let from : nat_le b.first (bus_len b - 4095) ≡ true = le-leb b.first (bus_len b - 4095) (omega (arith, le, many, sound.from_one)) in
    let there : slice_get b.kept (bus_len b - 4095 - b.first) ≡ Some _ = slice_get-get_or b.kept (bus_len b - 4095 - b.first) (record { id = 0; bytes = [] }) (omega (arith, le, many, sound.from_one)) in
    ap (λ (t : Bool). is_some (cond {A = Option CanFrame} t (slice_get b.kept (bus_len b - 4095 - b.first)) None)) from
    ∙ ap (λ (o : Option CanFrame). is_some o) there ∙ full_by_kept b true sound end (le-leb kept_limit (length b.kept) le))
    (cases_lt (length b.kept) kept_limit)

pub ruleset bus_laws = (full_at_end, few_put, kept_by_frame)
