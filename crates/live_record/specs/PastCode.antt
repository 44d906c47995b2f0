-- When two lists of calls with their pieces are equal.
use Rattle.std.specs.Prelude.{ℕ, List, refl}
use Rattle.std.specs.Coded.{Coded, code_by, coded×, coded_ℕ, coded_list}
use Rattle.stored_calls.specs.declared.stored.Stored.{Stored}
use Rattle.stored_calls.specs.contracts.stored.Stored as stored
use Rattle.live_record.specs.declared.calls.Piece.{Piece}
use Rattle.live_record.specs.contracts.calls.Piece as piece
use Rattle.live_record.specs.Past.{CallsView}

abbrev Parts : Type 0
Parts = List Piece × (List Stored × ℕ)

-- the lists are equal if their parts are
abbrev pub calls_code : Coded CallsView
calls_code =
    code_by Parts
    (coded× (coded_list ((piece.the_row).coded)) (coded× (coded_list ((stored.the_row).coded)) coded_ℕ))
    (λ c. (c.pieces, (c.items, c.spare)))
    (λ p. record { pieces = p.0; items = p.1.0; spare = p.1.1 })
    (λ _. refl)
