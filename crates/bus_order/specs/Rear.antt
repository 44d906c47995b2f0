-- The cursors furthest behind.
use Rattle.std.specs.Prelude.{◌≡◌, ◌==◌, List, count_by}
use Rattle.bus_order.specs.Bus.{Cursor, lowest}
use Rattle.bus_order.specs.declared.cursor.Rear.{Rear}

-- the place of the lowest cursor, and how many cursors are there
pub record IsRear (rear : Rear) (cursors : List Cursor) : Type 0 where
  pub place : rear.place ≡ lowest cursors
  pub count : rear.count ≡ count_by (λ c. c.place == rear.place) cursors
