use Rattle.std.proofs.Common.{◌≡◌, take, vec_len, vec_capacity}
use Rattle.seg_cut.proofs.join.Join.image.Given as goal

-- the front of the bytes is copied, in place
abbrev pub invariant-loop-byte : goal.invariant-loop-byte
invariant-loop-byte l =
    (l.bytes.items ≡ take l.byte-index l.self-inside.bytes.items)
    × (vec_len l.bytes ≡ l.byte-index)
    × (vec_capacity l.bytes ≡ vec_capacity l.initial.bytes)
