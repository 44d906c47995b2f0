use Rattle.std.proofs.Common.{sym, ap, ◌∙◌}
use Rattle.log_decode.proofs.Buses.{there, nowhere}
use Rattle.log_decode.proofs.decoder.Decoder.time_on.Goals as goal

pub returns-in-None : goal.returns-in-None
returns-in-None c =
    rw (sym c.self.view_is) (sym (ap (λ b. b.time) (nowhere c.args.iface c.self.inside.buses.entries (sym c.place_of.ensures.place ∙ c.in-None.is))))

pub returns-in-Some : goal.returns-in-Some
returns-in-Some c =
    let p = sym c.place_of.ensures.place ∙ c.in-Some.is in
    rw (c.time.ensures, sym c.self.view_is) (sym (ap (λ b. b.time) (there c.args.iface c.self.inside.buses.entries c.in-Some.at c.index.result.now p c.index.ensures)))
