use Rattle.std.proofs.Common.{◌≡◌, ℕ, ◌<◌, ◌≤◌, length, drop, subst}
use Rattle.std.specs.Prelude.{MatchOption}
use Rattle.live_record.specs.Record.{notes_of, trail}
use Rattle.script_segments.proofs.Reports.{notes_uncut}
use Rattle.script_segments.proofs.text.whole_notes.Goals as goal

pub returns : goal.returns
returns c =
    let v = c.args.live.now in
    let k = c.args.client in
    subst (λ (n : ℕ). MatchOption c.notes_of.result (length v.clients ≤ k) (λ ns. (k < length v.clients) × (ns.now ≡ drop n (notes_of k (trail v.addresses v.calls).noted)))) (notes_uncut v k c.laws.ensures.laws c.requires) c.notes_of.ensures
