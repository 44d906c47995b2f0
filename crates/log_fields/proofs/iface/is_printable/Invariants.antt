use Rattle.std.proofs.Common.{◌≡◌, drop}
use Rattle.log_fields.specs.Iface.{is_printable}
use Rattle.log_fields.proofs.iface.is_printable.Given as goal

abbrev pub invariant-loop-byte : goal.invariant-loop-byte
invariant-loop-byte l = is_printable (drop l.byte-index l.name) ≡ is_printable l.name
