use Rattle.std.proofs.Common.{◌≡◌, ◌-◌, ◌++◌, vec_len, vec_capacity}
use Rattle.std.specs.Prelude.{replicate}
use Rattle.seg_cut.proofs.join.written.Given as goal

-- so many zeros stand behind the bytes, in place
abbrev pub invariant-loop : goal.invariant-loop
invariant-loop l =
    (l.bytes.items ≡ l.initial.bytes.items ++ replicate (l.counter - vec_len l.initial.bytes) 0)
    × (vec_len l.bytes ≡ l.counter)
    × (vec_capacity l.bytes ≡ vec_capacity l.initial.bytes)
