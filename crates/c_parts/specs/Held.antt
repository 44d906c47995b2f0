-- What a handle owns: if it holds a value, what a box of it owns.
use base.Fml.{Fml, ftrue}
use base.Stored.{Coded}
use denote.RattleType.{RattleType}
use denote.RawPtr.{Ptr}
use Rattle.std.specs.Prelude.{Option, Some, None}
use Rattle.std.specs.Coded.{coded_option}
use Rattle.std.specs.Box.Ownership.{box_owns}
use Rattle.std.specs.Global.{Global}
use Rattle.std_heap.specs.contracts.GlobalAllocator.TheImpl.{ghosts}

abbrev pub HeldOf : RattleType → Type 0
HeldOf row = Option row.Denot

abbrev pub coded_of : (row : RattleType) → Coded (HeldOf row)
coded_of row = coded_option row.coded

abbrev pub owns_of : (row : RattleType) → Global → Ptr → HeldOf row → Fml
owns_of row alloc at None = ftrue
owns_of row alloc at (Some x) = box_owns (ghosts.dealloc_token alloc) row at x
