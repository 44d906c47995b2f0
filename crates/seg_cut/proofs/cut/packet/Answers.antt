use Rattle.std.proofs.Common.{◌≡◌, ℕ, ◌-◌, ◌*◌, ◌<◌, ◌≤◌, ◌∙◌, List, length, take, drop, arith}
use Rattle.std.proofs.lemmas.List.{take_all, length-drop}
use Rattle.seg_cut.proofs.Cutting.{fill_up-packet}
use Rattle.seg_cut.proofs.cut.packet.Goals as goal

pub returns-in-None : goal.returns-in-None
returns-in-None c =
    let message : List ℕ = c.args.bytes.now in
    let place : ℕ = 7 * (c.args.k - 1) in
    let within : place ≤ length message = omega arith in
    let rest : take (length message - place) (drop place message) ≡ drop place message = take_all _ _ (omega (arith, length-drop place message)) in
    let short : length (drop place message) < 7 = rw rest at c.in-None.ensures.cases in
    (rw rest at c.fill_up.ensures) ∙ fill_up-packet message place within short
