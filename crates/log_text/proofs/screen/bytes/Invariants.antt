use Rattle.std.proofs.Common.{◌≡◌, ◌-◌, length, take}
use Rattle.log_text.specs.Screen.{bytes_in}
use Rattle.log_text.proofs.Pairs.{with_front}
use Rattle.log_text.proofs.screen.bytes.Given as goal

abbrev pub invariant-loop-at : goal.invariant-loop-at
invariant-loop-at l = record {
  whole : length l.kept ≡ 8;
  read : with_front (take l.at l.kept) (bytes_in (l.count - l.at) l.rest) ≡ bytes_in l.count l.text;
}
