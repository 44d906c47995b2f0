-- How a join is kept.
use Rattle.std.specs.Prelude.{◌≡◌, ◌-◌, ◌*◌, take, vec_len, vec_capacity}
use Rattle.seg_cut.specs.Join.{Join, IsJoin, held}
use Rattle.seg_cut.specs.declared.join.Join.TheInside.{Inside}

abbrev pub view_join : Inside → Join
view_join s = record { size = s.size; next = s.next; bytes = take (7 * (s.next - 1)) s.bytes.items; room = s.room }

-- the join's block of memory is just what there is room for, and is written whole
pub record IsExact (s : Inside) : Type 0 where
  pub valid : IsJoin (view_join s)
  pub written : vec_len s.bytes ≡ held (view_join s)
  pub block : vec_capacity s.bytes ≡ held (view_join s)
