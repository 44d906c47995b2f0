-- A box of a value on the heap, for the proofs of a handle that owns one.
use mir.Syntax.{impl, tnil, dnil}
use mir.Raw.{raw}
use mathlib.Core.List.{[]}
use mathlib.Core.Path.{◌≡◌, refl, sym, subst}
use mathlib.Core.Bool.{Bool}
use lib.Dec.{T}
use base.Shift.{Keyless}
use denote.Memory.{lone}
use denote.RattleType.{RattleType}
use denote.RawPtr.{Ptr}
use denote.Param.Laws.{Laws}
use denote.Param.Send.{IsSend}
use denote.Signature.{Slot, plain}
use Rattle.std.specs.Prelude.{Option, Some, None, IsSome}
use Rattle.std.specs.declared.alloc.Global.{Global}
use Rattle.std.proofs.Crossing.{frees}
use Rattle.std_alloc.proofs.BoxSteps.Form.{Bx}
use Rattle.std_alloc.proofs.SendSync.{lies}
use Rattle.std_heap.specs.contracts.Global as Heap
use Rattle.std_heap.specs.contracts.GlobalAllocator.TheImpl.{ghosts, dict}
use Rattle.std_heap.proofs.Global.TheLaws as heap
use Rattle.c_parts.specs.Held.{HeldOf, owns_of}
use Rattle.c_parts.specs.contracts.parts.Parts as Parts

abbrev pub box_of : (row : RattleType) → Laws row → Bx
box_of row laws = record { row = row; laws = laws; al = record { row = Heap.the_row; laws = heap.the_row_laws; g = ghosts; d = dict; drops = impl [] tnil dnil } }

abbrev pub parts_of : RattleType → Slot 0
parts_of row = plain (λ _. Parts.the_row row Heap.the_row ghosts)

-- the value of a handle that owns one
pub got : {A : Type 0} (o : Option A) → IsSome o → A
got None i = absurd (subst (λ (b : Bool). T b) (sym i) tt)
got (Some x) i = x

pub got_is : {A : Type 0} (o : Option A) (i : IsSome o) → o ≡ Some (got o i)
unfolding got
got_is None i = absurd (subst (λ (b : Bool). T b) (sym i) tt)
got_is (Some x) i = refl

-- what a handle owns goes to another thread, if the value does
pub owned_goes : (row : RattleType) → IsSend row → (a : Global) (p : Ptr) (o : HeldOf row) → Keyless (owns_of row a p o)
owned_goes row send a p None = tt
owned_goes row send a p (Some x) = (lies row send p x, frees.frees a (raw (lone row.mir)) p)
