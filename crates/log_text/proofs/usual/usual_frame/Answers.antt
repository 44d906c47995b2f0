use Rattle.std.proofs.lemmas.Bool.Decides.{nat_tests}
use Rattle.std.proofs.Common.{rules, ◌≡◌, nat_le, false, ◌<◌, ◌^◌, ◌∷◌, ◌++◌, ◌∙◌, ap, Some, sym, arith}
use Rattle.text_digits.specs.Numerals.{numeral_from}
use Rattle.log_text.specs.Digits.{data_of}
use Rattle.log_text.proofs.AsWritten.{parted, frame_there}
use Rattle.log_text.proofs.usual.usual_frame.Goals as goal

pub returns : goal.returns
returns c =
    let xs = c.in_ok-digits.digits.now in
    let ys = c.in_ok-shown.shown.now in
    let number = c.in_ok-number.number in
    let split = c.in_ok-digits.ensures.cases in
    let whole : c.args.text.now ≡ 32 ∷ xs ++ 35 ∷ ys = c.in_ok-behind.ensures ∙ ap (λ t. 32 ∷ t) (parted 8 _ _ _ split.1 split.2 ∙ ap (λ t. xs ++ t) c.in_ok-shown.ensures) in
    let n : numeral_from 16 0 xs ≡ Some number = search rules in
    let below : nat_le (2 ^ 29) number ≡ false = c.in_ok-id.ensures.found.1 in
    let low : number < 2 ^ 29 = grind (arith, nat_tests, below) in
    let same : c.in_ok-id.id ≡ number = search rules in
    let d : data_of c.in_ok-id.id ys ≡ Some c.in_ok-frame.frame = search rules in
    frame_there c.args.time c.args.iface c.args.text.now xs ys number c.in_ok-frame.frame whole split.3 n low (ap (λ k. data_of k ys) (sym same) ∙ d)
