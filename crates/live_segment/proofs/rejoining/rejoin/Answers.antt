use Rattle.std.proofs.Common.{◌≡◌, List, ◌++◌, length, map, sym, ap, ◌∙◌, subst, arith}
use Rattle.pgn_ids.specs.declared.address.Address.{Address}
use Rattle.segment_law.specs.Record.{StandsAt}
use Rattle.stored_calls.specs.declared.stored.Stored.{Stored}
use Rattle.live_record.specs.declared.calls.Piece.{Piece}
use Rattle.live_record.specs.Record.{trail}
use Rattle.live_record.specs.Past.{joined, NumberedAfter}
use Rattle.live_segment.specs.LiveView.{since_cut}
use Rattle.live_segment.specs.Rejoining.{StandsAfter, call_in, all_calls}
use Rattle.live_segment.proofs.Replays.{same_after}
use Rattle.live_segment.proofs.rejoining.rejoin.Goals as goal

pub returns-clause-joined : goal.returns-clause-joined
returns-clause-joined c =
    let v = c.args.live.now in
    let ps = c.args.pieces.items in
    let ys = since_cut v in
    let law = c.laws.ensures.laws in
    let count : length ps ≡ length v.pieces = omega (arith, c.len.ensures, c.cuts.ensures, c.if-len-cuts.false, c.args.pieces.ok.0) in
    let numbered : NumberedAfter 0 ps = subst (NumberedAfter 0) c.as_slice.ensures.value (c.are_numbered.ensures.0 c.if-not-are_numbered.false) in
    let same : (trail v.addresses (joined ps)).state ≡ (trail v.addresses (joined v.pieces)).state =
    subst (λ (qs : List Piece). (trail v.addresses (joined qs)).state ≡ (trail v.addresses (joined v.pieces)).state) c.as_slice-3.ensures.value (c.is_at_cut.ensures.0 c.if-not-is_at_cut.false) in
    let at : StandsAfter v.addresses (joined ps) c.in-Ok.segment =
    subst (λ (qs : List Piece). StandsAfter v.addresses (joined qs) c.in-Ok.segment) c.as_slice-2.ensures.value (subst (λ (all : List Address). StandsAfter all (joined c.as_slice-2.result.now) c.in-Ok.segment) c.addresses.ensures c.in-Ok.ensures) in
    let whole : StandsAt v.addresses (trail v.addresses (joined v.pieces ++ ys)).steps (trail v.addresses (joined v.pieces ++ ys)).state =
    subst (λ (xs : List Stored). StandsAt v.addresses (trail v.addresses xs).steps (trail v.addresses xs).state) (sym law.past.whole) law.stands in
    let stands : StandsAt v.addresses (trail v.addresses (all_calls v ps)).steps (trail v.addresses v.calls).state =
    subst (λ (xs : List Stored). StandsAt v.addresses (trail v.addresses (joined ps ++ ys)).steps (trail v.addresses xs).state) law.past.whole (same_after v.addresses (joined ps) (joined v.pieces) ys c.in-Ok.segment at same whole) in
    let copies : c.in-Ok-copy_all.calls.items ≡ map call_in (joined ps ++ ys) =
    c.in-Ok-copy_all.ensures ∙ ap (λ (qs : List Piece). map call_in (joined qs ++ c.calls.result.now.items)) c.as_slice-4.ensures.value ∙ ap (λ (xs : List Stored). map call_in (joined ps ++ xs)) c.calls.ensures in
    record {
      join = ((count, numbered), same);
      calls = copies;
      stands = stands;
      headline = c.the_headline_holds.ensures _ _ _ stands;
    }
