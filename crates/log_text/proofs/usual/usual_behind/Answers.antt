use Rattle.std.proofs.Common.{rules, ◌≡◌, Some}
use Rattle.std.proofs.lemmas.Option.{IfSome_then}
use Rattle.log_fields.specs.Iface.{iface_of}
use Rattle.log_text.proofs.AsWritten.{behind_there}
use Rattle.log_text.proofs.usual.usual_behind.Goals as goal

pub returns : goal.returns
returns c =
    let i : iface_of c.next_word.result.0.now ≡ Some c.in_ok-iface.iface = search rules in
    IfSome_then c.usual_frame.result c.usual_frame.ensures
    (λ shown t. behind_there c.args.time c.in_ok-iface.iface c.args.text.now (c.next_word.result.0.now, c.next_word.result.1.now) (Some shown) c.next_word.ensures i t.0 t.1 t.2)
