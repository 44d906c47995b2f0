-- How long a worker rests that made no call in its turn.
use Rattle.std.specs.Prelude.{ℕ, ◌-◌, ◌%◌, Bool, if◌then◌else◌, Option, Some, None, nat_le, max, min}

-- until the next tick that the number of ticks between two looks divides; 0 is taken as 1
abbrev pub to_look : (now look : ℕ) → ℕ
to_look now look = max look 1 - now % max look 1

-- the rest of a worker that has nothing to do: until the next look, and at most until the tick at which some worker has something to do, for one tick at
-- least. If the segment is at that tick already, 5 ticks at most
abbrev pub until : (next : Option ℕ) → (stands now look : ℕ) → ℕ
until None stands now look = to_look now look
until (Some next) stands now look = min (to_look now look) (if nat_le next stands then 5 else max (next - now) 1)

-- a worker that couldn't do its work tries again after a tick
abbrev pub rest_ticks : (is_kept : Bool) → (next : Option ℕ) → (stands now look : ℕ) → ℕ
rest_ticks is_kept next stands now look = if is_kept then 1 else until next stands now look
