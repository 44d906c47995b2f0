use Rattle.std.proofs.Common.{rules, ◌≡◌, ◌∙◌, ◌<◌, false, length, get_or, sym}
use Rattle.std.proofs.lemmas.List.{get_or_default}
use Rattle.live_ends.proofs.Quiet.{quiet_marked, silent_marked}
use Rattle.live_ends.proofs.seating.listen.Goals as goal

pub returns-clause-kept : goal.returns-clause-kept
returns-clause-kept c = λ ss q.
    let ms = c.args.homes.now.items in
    let a = c.args.station.0 in
    let l : a < length ms = search rules in
    let at : c.in-Some.home.now ≡ get_or ms a false = c.in-Some.ensures.value ∙ get_or_default ms a c.in-Some.home.now false l in
    quiet_marked ms a c.listen.new.self ss q (λ on. silent_marked ms a ss (sym at ∙ c.listen.ensures.kept on) q)

pub returns-clause-silent : goal.returns-clause-silent
returns-clause-silent c = λ rests ss q.
    let ms = c.args.homes.now.items in
    let a = c.args.station.0 in
    let l : a < length ms = search rules in
    let at : c.in-Some.home.now ≡ get_or ms a false = c.in-Some.ensures.value ∙ get_or_default ms a c.in-Some.home.now false l in
    silent_marked ms a ss (sym at ∙ c.listen.ensures.kept (c.listen.ensures.quiet rests)) q
