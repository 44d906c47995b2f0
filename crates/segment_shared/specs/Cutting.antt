-- When workers cut a record.
use Rattle.std.specs.Prelude.{ℕ, Bool, nat_lt, nat_le, ◌&&◌, ◌||◌}
use Rattle.live_record.specs.declared.calls.TheConstants.{MOST_CALLS}

-- whether a record of so many calls is cut, if it is to be cut at a number of calls: it has some, and as many as that or as it can have
abbrev pub is_cut_due : (calls at : ℕ) → Bool
is_cut_due calls at = nat_lt 0 calls && (nat_le at calls || nat_le MOST_CALLS calls)
