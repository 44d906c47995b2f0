-- The two transports apart.
use Rattle.std.specs.Prelude.{Bool, true, false}
use Rattle.tp_wire.specs.declared.wire.Kind.{Kind}
use Rattle.tp_wire.specs.declared.wire.Kind.TheVariants.{Tp, Etp}

-- whether two kinds are one transport
abbrev pub is_same_kind : Kind → Kind → Bool
is_same_kind Tp Tp = true
is_same_kind Etp Etp = true
is_same_kind _ _ = false
