-- Keys of incoming sessions.
use Rattle.std.specs.Prelude.{ℕ, ◌+◌, ◌*◌, Bool, true, if◌then◌else◌, Option, Some, None}
use Rattle.std.specs.Ordering.{nat_cmp, then_cmp, eq_by_cmp, is_lt}
use Rattle.std.specs.declared.cmp.Ordering.{Ordering}
use Rattle.tp_wire.specs.declared.wire.Kind.{Kind}
use Rattle.tp_wire.specs.declared.wire.Kind.TheVariants as kind
use Rattle.session_table.specs.declared.key.Key.{Key}
use Rattle.session_table.specs.declared.key.SessionKind.{SessionKind}
use Rattle.session_table.specs.declared.key.SessionKind.TheVariants.{Broadcast, Tp, Etp}

-- the kind of session for a connection of a transport
abbrev pub session_for : Kind → SessionKind
session_for kind.Tp = Tp
session_for kind.Etp = Etp

-- broadcasts first, then connections, then extended connections
abbrev pub kind_number : SessionKind → ℕ
kind_number Broadcast = 0
kind_number Tp = 1
kind_number Etp = 2

-- the number of a key: three to a source
abbrev pub key_number : Key → ℕ
key_number k = 3 * k.source.0 + kind_number k.kind

-- keys are ordered by source
abbrev pub by_source : Key → Key → Ordering
by_source a b = nat_cmp a.source.0 b.source.0

-- keys are ordered by kind
abbrev pub by_kind : Key → Key → Ordering
by_kind a b = nat_cmp (kind_number a.kind) (kind_number b.kind)

-- keys are ordered by source, then by kind
abbrev pub key_cmp : Key → Key → Ordering
key_cmp = then_cmp by_source by_kind

-- whether two keys are equal
abbrev pub key_eq : Key → Key → Bool
key_eq = eq_by_cmp key_cmp

-- the lesser of what was found and a key
abbrev pub lesser_of : Option Key → Key → Option Key
lesser_of None k = Some k
lesser_of (Some l) k = if is_lt (key_cmp k l) then Some k else Some l

-- whether the key is above that one, if there is one
abbrev pub is_above_key : Option Key → Key → Bool
is_above_key None k = true
is_above_key (Some low) k = is_lt (key_cmp low k)
