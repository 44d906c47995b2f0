use Rattle.std.proofs.Common.{sym, ◌∙◌, subst}
use Rattle.std.specs.Prelude.{IsTrue}
use Rattle.live_segment.specs.Reports.{EachClientAgrees, EachInboxAgrees}
use Rattle.live_segment.proofs.ending.finish.Goals as goal

pub returns-then-not-agrees-clause-refused : goal.returns-then-not-agrees-clause-refused
returns-then-not-agrees-clause-refused c e all =
    let v = c.args.live.now in
    let t : IsTrue c.agrees.result = c.agrees.ensures.1 (subst (EachClientAgrees v) (sym c.as_slice.ensures.value) all.0, subst (EachInboxAgrees v) (sym c.as_slice-2.ensures.value) all.1) in
    let f = c.if-not-agrees.true in
    cc

pub report_both-requires-clause-clients : goal.report_both-requires-clause-clients
report_both-requires-clause-clients c = subst (EachClientAgrees c.args.live.now) (c.as_slice.ensures.value ∙ sym c.as_slice-3.ensures.value) (c.agrees.ensures.0 c.if-not-agrees.false).0

pub report_both-requires-clause-inboxes : goal.report_both-requires-clause-inboxes
report_both-requires-clause-inboxes c = subst (EachInboxAgrees c.args.live.now) (c.as_slice-2.ensures.value ∙ sym c.as_slice-4.ensures.value) (c.agrees.ensures.0 c.if-not-agrees.false).1

pub returns-in-Err-clause-memory : goal.returns-in-Err-clause-memory
returns-in-Err-clause-memory c e = (
  subst (EachClientAgrees c.args.live.now) c.as_slice.ensures.value (c.agrees.ensures.0 c.if-not-agrees.false).0,
  subst (EachInboxAgrees c.args.live.now) c.as_slice-2.ensures.value (c.agrees.ensures.0 c.if-not-agrees.false).1,
)
