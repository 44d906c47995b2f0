use Rattle.std.proofs.Common.{◌≡◌, ◌≤◌, ◌+◌, ◌*◌, ◌-◌, ◌++◌, take, length, vec_len, vec_capacity}
use Rattle.text_digits.specs.Digits.{unspaced}
use Rattle.text_digits.proofs.writing.put_bytes.Given as goal

abbrev pub invariant-loop-byte : goal.invariant-loop-byte
invariant-loop-byte l = record {
  put : l.out.items ≡ l.fn.out.items ++ unspaced (take l.byte-index l.bytes);
  room : vec_len l.out + 2 * (length l.bytes - l.byte-index) ≤ vec_capacity l.out;
}
