use Rattle.std.proofs.Common.{◌≡◌, ◌+◌, ◌++◌, ◌∷◌, ◌<◌, length, take, sym, ap, ◌∙◌, arith, subst, []}
use Rattle.std.proofs.lemmas.List.{take_more}
use Rattle.segment_rings.specs.Ends.{ClientEnd}
use Rattle.live_segment.specs.Reports.{ClientAgrees}
use Rattle.live_segment.proofs.Laws.{client_reports-push}
use Rattle.live_segment.proofs.ending.report_clients.Goals as goal

pub report_client-requires : goal.report_client-requires
report_client-requires c =
    let v = c.args.live.now in
    let x = c.client-item.result in
    let l : c.loop-client.client-index < length c.args.clients.now = omega arith in
    subst (ClientAgrees v) (sym c.client-item.is) (c.requires c.loop-client.client-index x l)

pub loop-client-preserved : goal.loop-client-preserved
loop-client-preserved c =
    let v = c.args.live.now in
    let cs = c.args.clients.now in
    let i = c.loop-client.client-index in
    let x = c.client-item.result in
    let l : i < length cs = omega arith in
    let more : take (i + 1) cs ≡ take i cs ++ x ∷ [] = take_more cs i x l ∙ ap (λ (u : ClientEnd). take i cs ++ u ∷ []) (sym c.client-item.is) in
    rw (more, c.in_ok-push.ensures.items) (client_reports-push v (take i cs) c.loop-client.reports.items x c.in_ok-report_client.field-0 c.loop-client.invariant c.in_ok-report_client.ensures)
