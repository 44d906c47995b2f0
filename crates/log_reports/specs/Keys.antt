-- The key of a message under way: interface, sender, destination and transport.
use Rattle.std.specs.Prelude.{Bool}
use Rattle.log_fields.specs.declared.iface.Iface.{Iface}
use Rattle.log_fields.specs.contracts.iface.IfacePartialEq.TheImpl as names
use Rattle.tp_wire.specs.declared.wire.Kind.{Kind}
use Rattle.tp_wire.specs.declared.wire.Kind.TheVariants as kinds
use Rattle.log_reports.specs.declared.key.Transport.{Transport}
use Rattle.log_reports.specs.declared.key.Transport.TheVariants.{Tp, Etp}
use Rattle.log_reports.specs.declared.key.Key.{Key}
use Rattle.log_reports.specs.contracts.key.KeyPartialEq.TheImpl as derived

abbrev pub transport_of : Kind → Transport
transport_of kinds.Tp = Tp
transport_of kinds.Etp = Etp

-- keys are equal if each of their parts is
abbrev pub same_key : Key → Key → Bool
same_key = (derived.eq-value).it

-- interfaces are equal if their names are
abbrev pub same_iface : Iface → Iface → Bool
same_iface = (names.eq-value).it
