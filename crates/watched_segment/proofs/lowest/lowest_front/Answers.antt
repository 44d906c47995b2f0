use Rattle.std.proofs.Common.{◌≡◌, ℕ, ◌+◌, ◌<◌, length, get_or, sym, ◌∙◌, arith, subst}
use Rattle.std.proofs.lemmas.List.{get_or_default}
use Rattle.pgn_ids.specs.declared.address.Address.{Address}
use Rattle.watched_segment.specs.Lowest.{IsLowest}
use Rattle.watched_segment.proofs.Fronts.{stands_none, stands_kept, stands_new}
use Rattle.watched_segment.proofs.lowest.lowest_front.Goals as goal

abbrev none : Address
none = record { 0 = 0 }

pub loop-address-preserved-in_default : goal.loop-address-preserved-in_default
loop-address-preserved-in_default c =
    let xs = c.args.addresses.now in
    let i = c.loop-address.address-index in
    let l : i < length xs = omega arith in
    stands_none c.args.segment.now xs i (get_or xs i none) (λ d. get_or_default xs i d none l) c.loop-address.lowest c.loop-address.least (sym c.front.ensures ∙ c.in_default.is) c.loop-address.invariant

pub loop-address-preserved-then-raw-least : goal.loop-address-preserved-then-raw-least
loop-address-preserved-then-raw-least c =
    let xs = c.args.addresses.now in
    let i = c.loop-address.address-index in
    let l : i < length xs = omega arith in
    let f = c.in-Some.frame in
    let id : c.raw-raw.result ≡ f.id = c.raw-raw.ensures.value ∙ c.id.ensures.value in
    stands_kept c.args.segment.now xs i (get_or xs i none) (λ d. get_or_default xs i d none l) c.loop-address.lowest c.loop-address.least f (sym c.front.ensures ∙ c.in-Some.is) (omega (arith, id, c.if-raw-least.true)) (omega (arith, id, c.raw-raw.ensures.in_range)) c.loop-address.invariant

pub loop-address-preserved : goal.loop-address-preserved
loop-address-preserved c =
    let xs = c.args.addresses.now in
    let i = c.loop-address.address-index in
    let l : i < length xs = omega arith in
    let f = c.in-Some.frame in
    let id : c.raw-raw.result ≡ f.id = c.raw-raw.ensures.value ∙ c.id.ensures.value in
    let new = stands_new c.args.segment.now xs i (get_or xs i none) (λ d. get_or_default xs i d none l) c.loop-address.lowest c.loop-address.least f (sym c.front.ensures ∙ c.in-Some.is) (omega (arith, id, c.if-raw-least.false)) c.loop-address.invariant in
    subst (λ (n : ℕ). IsLowest c.args.segment.now xs (i + 1) n (get_or xs i none)) (sym id) new
