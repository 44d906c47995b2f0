use Rattle.std.proofs.Common.{◌≡◌, ◌++◌, drop}
use Rattle.bus_decode.specs.Followed.{after_each}
use Rattle.bus_decode.specs.Telling.{followed_text}
use Rattle.bus_decode.proofs.telling.put_followed.Given as goal

abbrev pub invariant-loop-one : goal.invariant-loop-one
invariant-loop-one l =
    (l.out.items ++ followed_text l.place l.options (drop l.one-index l.told) l.followed ≡ l.fn.out.items ++ followed_text l.place l.options l.told l.fn.followed)
    × (after_each l.options l.place (drop l.one-index l.told) l.followed ≡ after_each l.options l.place l.told l.fn.followed)
