-- What a handle owns: if it holds a service, what a box of it owns.
use base.Fml.{Fml}
use base.Stored.{Coded}
use denote.RawPtr.{Ptr}
use Rattle.std.specs.Global.{Global}
use Rattle.live_segment.specs.contracts.live.Live.{the_row}
use Rattle.c_parts.specs.Held.{HeldOf, coded_of, owns_of}

abbrev pub Held : Type 0
Held = HeldOf the_row

abbrev pub held_coded : Coded Held
held_coded = coded_of the_row

abbrev pub held_owns : Global → Ptr → Held → Fml
held_owns = owns_of the_row
