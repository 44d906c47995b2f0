use Rattle.std.proofs.Common.{◌≡◌, ◌+◌, ◌++◌, ◌∷◌, ◌<◌, length, take, sym, ap, ◌∙◌, arith, subst, []}
use Rattle.std.proofs.lemmas.List.{take_more}
use Rattle.segment_rings.specs.Ends.{InboxEnd}
use Rattle.live_segment.specs.Reports.{InboxAgrees}
use Rattle.live_segment.proofs.Laws.{inbox_reports-push}
use Rattle.live_segment.proofs.ending.report_inboxes.Goals as goal

pub report_inbox-requires : goal.report_inbox-requires
report_inbox-requires c =
    let v = c.args.live.now in
    let x = c.inbox-item.result in
    let l : c.loop-inbox.inbox-index < length c.args.inboxes.now = omega arith in
    subst (InboxAgrees v) (sym c.inbox-item.is) (c.requires c.loop-inbox.inbox-index x l)

pub loop-inbox-preserved : goal.loop-inbox-preserved
loop-inbox-preserved c =
    let v = c.args.live.now in
    let is = c.args.inboxes.now in
    let i = c.loop-inbox.inbox-index in
    let x = c.inbox-item.result in
    let l : i < length is = omega arith in
    let more : take (i + 1) is ≡ take i is ++ x ∷ [] = take_more is i x l ∙ ap (λ (u : InboxEnd). take i is ++ u ∷ []) (sym c.inbox-item.is) in
    rw (more, c.in_ok-push.ensures.items) (inbox_reports-push v (take i is) c.loop-inbox.reports.items x c.in_ok-report_inbox.field-0 c.loop-inbox.invariant c.in_ok-report_inbox.ensures)
