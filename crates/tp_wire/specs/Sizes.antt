-- The sizes of the messages that each transport carries, in bytes (SAE J1939-21; ISO 11783-3).
use Rattle.std.specs.Prelude.{ℕ, ◌+◌, ◌<◌, ◌≤◌, Bool, ◌&&◌, nat_le}
use Rattle.tp_wire.specs.declared.constants.TheConstants.{MIN_SIZE, TP_MAX_SIZE, ETP_MAX_SIZE}
use Rattle.tp_wire.specs.declared.wire.Kind.{Kind}
use Rattle.tp_wire.specs.declared.wire.Kind.TheVariants.{Tp, Etp}

-- the transport carries messages of this size
abbrev pub is_size_of : Kind → ℕ → Bool
is_size_of Tp size = nat_le MIN_SIZE size && nat_le size TP_MAX_SIZE
is_size_of Etp size = nat_le (TP_MAX_SIZE + 1) size && nat_le size ETP_MAX_SIZE

-- the sizes of a kind, as a proposition
abbrev pub IsSizeOf : Kind → ℕ → Type 0
IsSizeOf Tp size = (MIN_SIZE ≤ size) × (size ≤ TP_MAX_SIZE)
IsSizeOf Etp size = (TP_MAX_SIZE < size) × (size ≤ ETP_MAX_SIZE)
