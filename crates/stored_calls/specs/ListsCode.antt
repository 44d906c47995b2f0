-- When two lists of calls are equal.
use Rattle.std.specs.Prelude.{ℕ, List, refl}
use Rattle.std.specs.Coded.{Coded, code_by, coded×, coded_ℕ, coded_list}
use Rattle.stored_calls.specs.declared.stored.Stored.{Stored}
use Rattle.stored_calls.specs.contracts.stored.Stored as stored
use Rattle.stored_calls.specs.Lists.{CallsView}

-- lists are equal if their parts are
abbrev pub calls_code : Coded CallsView
calls_code =
    code_by (List Stored × ℕ)
    (coded× (coded_list ((stored.the_row).coded)) coded_ℕ)
    (λ c. (c.items, c.spare))
    (λ p. record { items = p.0; spare = p.1 })
    (λ _. refl)
