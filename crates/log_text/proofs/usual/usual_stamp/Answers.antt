use Rattle.std.proofs.Common.{rules, ◌≡◌, ◌∷◌, ◌++◌, ◌∙◌, ap, Some}
use Rattle.log_text.specs.Reading.{stamp_of}
use Rattle.log_text.proofs.AsWritten.{parted, stamped_there}
use Rattle.log_text.proofs.usual.usual_stamp.Goals as goal

pub returns : goal.returns
returns c =
    let text = c.args.text.now in
    let xs = c.in_ok-seconds.seconds.now in
    let ys = c.in_ok-micros.micros.now in
    let rest = c.in_ok-rest.rest.now in
    let a : text ≡ xs ++ c.in_ok-seconds.rest.now = parted 10 _ _ _ c.in_ok-seconds.ensures.cases.1 c.in_ok-seconds.ensures.cases.2 in
    let b : c.in_ok-seconds.rest.now ≡ 46 ∷ c.in_ok-behind.field-0.now = c.in_ok-behind.ensures in
    let d : c.in_ok-behind.field-0.now ≡ ys ++ c.in_ok-micros.rest.now = parted 6 _ _ _ c.in_ok-micros.ensures.cases.1 c.in_ok-micros.ensures.cases.2 in
    let e : c.in_ok-micros.rest.now ≡ 41 ∷ rest = c.in_ok-rest.ensures in
    let s : stamp_of xs ys ≡ Some c.in_ok-stamp.field-0 = search rules in
    stamped_there text xs ys rest _ (a ∙ ap (λ t. xs ++ t) (b ∙ ap (λ t. 46 ∷ t) (d ∙ ap (λ t. ys ++ t) e))) s
