-- PGNs of the transport frames, of Request and of Acknowledgement (SAE J1939-21; ISO 11783-3).
use Rattle.std.specs.Prelude.{ℕ}
use Rattle.tp_wire.specs.declared.wire.Kind.{Kind}
use Rattle.tp_wire.specs.declared.wire.Kind.TheVariants.{Tp, Etp}

abbrev pub tp_cm : ℕ
tp_cm = 0xEC00

abbrev pub tp_dt : ℕ
tp_dt = 0xEB00

abbrev pub etp_cm : ℕ
etp_cm = 0xC800

abbrev pub etp_dt : ℕ
etp_dt = 0xC700

abbrev pub request : ℕ
request = 0xEA00

abbrev pub acknowledgement : ℕ
acknowledgement = 0xE800

-- the PGN of the connection management frames
abbrev pub cm_group : Kind → ℕ
cm_group Tp = tp_cm
cm_group Etp = etp_cm

-- the PGN of the data frames
abbrev pub dt_group : Kind → ℕ
dt_group Tp = tp_dt
dt_group Etp = etp_dt
