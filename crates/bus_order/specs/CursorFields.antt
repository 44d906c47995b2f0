-- A cursor as it is kept.
use Rattle.std.specs.Prelude.{◌≡◌, ℕ, zero, suc, ◌≤◌, ◌==◌, if◌then◌else◌}
use Rattle.std.proofs.Common.{refl, arith}
use Rattle.bus_order.specs.Bus.{Cursor}
use Rattle.bus_order.specs.declared.cursor.Cursor.TheInside.{Inside}

-- how far it is, and whether its frame can be repeated
abbrev pub cursor_value : Inside → Cursor
cursor_value c = record { place = c.place; repeatable = c.again == 1 }

-- at most one frame can be repeated
pub record RepeatsOne (c : Inside) : Type 0 where
  pub one : c.again ≤ 1

-- the fields that a cursor is kept in
abbrev pub cursor_fields : Cursor → Inside
cursor_fields c = record { place = c.place; again = if c.repeatable then 1 else 0 }

-- nothing of the fields is lost
pub cursor_fields_back : (c : Inside) → RepeatsOne c → cursor_fields (cursor_value c) ≡ c
cursor_fields_back c r = by c.again r.one
  where
    by : (n : ℕ) → n ≤ 1 → cursor_fields (cursor_value (record { place = c.place; again = n })) ≡ record { place = c.place; again = n }
    by zero few = refl
    by (suc zero) few = refl
    by (suc (suc n)) few = absurd (omega arith)
