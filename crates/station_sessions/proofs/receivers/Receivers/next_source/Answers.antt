use Rattle.std.proofs.Common.{◌≡◌, ℕ, Option, Some, None, subst}
use Rattle.session_table.specs.declared.key.Key.{Key}
use Rattle.session_table.specs.DueOrder.{IsLeastPicked, is_above_low}
use Rattle.station_sessions.specs.Receiving.{Inbound}
use Rattle.station_sessions.specs.Sources.{HasNoneBetween, HasSomeOf, last_below}
use Rattle.station_sessions.proofs.Sources.{next_is, next_from, next_has, none_is, if_none}
use Rattle.station_sessions.proofs.receivers.Receivers.next_source.Goals as goal

-- the least key above the last one of the lower sources
found : (m : Inbound) (low : Option Key) (n : ℕ) (key : Option Key) → low ≡ last_below n → IsLeastPicked m (is_above_low low) key → IsLeastPicked m (is_above_low (last_below n)) key
found m low n key e h = subst (λ o. IsLeastPicked m (is_above_low o) key) e h

pub returns-in_err-key-clause-none : goal.returns-in_err-key-clause-none
returns-in_err-key-clause-none c =
    let m = c.self.inside.table in
    let none : HasNoneBetween m c.args.from 256 = none_is m c.args.from 256 (found m c.below.result c.args.from None c.below.ensures c.in_err-key.ensures.least) in
    if_none c.from_residual.result (subst (λ (x : Inbound). HasNoneBetween x c.args.from 256) c.self.view_is none)

pub returns-clause-on : goal.returns-clause-on
returns-clause-on c =
    let m = c.self.inside.table in
    next_from m c.args.from c.in_ok-key.key (found m c.below.result c.args.from (Some c.in_ok-key.key) c.below.ensures c.in_ok-key.ensures.least)

pub returns-clause-has : goal.returns-clause-has
returns-clause-has c =
    let m = c.self.inside.table in
    let has : HasSomeOf m c.in_ok-key.key.source.0 = next_has m c.args.from c.in_ok-key.key (found m c.below.result c.args.from (Some c.in_ok-key.key) c.below.ensures c.in_ok-key.ensures.least) in
    subst (λ (x : Inbound). HasSomeOf x c.in_ok-key.key.source.0) c.self.view_is has

pub returns-clause-next : goal.returns-clause-next
returns-clause-next c =
    let m = c.self.inside.table in
    let next : HasNoneBetween m c.args.from c.in_ok-key.key.source.0 = next_is m c.args.from c.in_ok-key.key (found m c.below.result c.args.from (Some c.in_ok-key.key) c.below.ensures c.in_ok-key.ensures.least) in
    subst (λ (x : Inbound). HasNoneBetween x c.args.from c.in_ok-key.key.source.0) c.self.view_is next
