use Rattle.std.proofs.Common.{true≢false, refl, sym, ◌∙◌, arith}
use Rattle.station_sessions.proofs.Images.{as_many, each_stands, one_more, same_where}
use Rattle.station_sessions.proofs.receivers.image.ReceiversImage.is_of.Goals as goal

pub returns-then-entries-len : goal.returns-then-entries-len
returns-then-entries-len c = (
  λ t. absurd (true≢false (sym t)),
  λ e.
      let many = as_many c.entries-entries.result.now c.self.inside.table c.receivers.inside.table c.entries-entries.ensures.distinct c.entries-entries.ensures.value (c.self.view_is ∙ e ∙ sym c.receivers.view_is) in
      absurd (omega (arith, many, c.len.ensures.value, c.if-entries-len.true)),
)

pub returns-then-not-stands_in : goal.returns-then-not-stands_in
returns-then-not-stands_in c = (
  λ t. absurd (true≢false (sym t)),
  λ e.
      let stands = each_stands c.entries-entries.result.now c.self.inside.table c.receivers.inside.table c.entries-entries.ensures.distinct c.entries-entries.ensures.value c.loop-entry.entry-index c.entry-item.result c.loop-entry-test.true c.entry-item.is (c.self.view_is ∙ e ∙ sym c.receivers.view_is) in
      sym c.if-not-stands_in.true ∙ c.stands_in.ensures.1 stands,
)

pub loop-entry-preserved : goal.loop-entry-preserved
loop-entry-preserved c =
    one_more c.receivers.inside.table c.entries-entries.result.now c.loop-entry.entry-index c.entry-item.result c.loop-entry-test.true c.entry-item.is (c.stands_in.ensures.0 c.if-not-stands_in.false) c.loop-entry.invariant

pub returns : goal.returns
returns c = (
  λ t.
      let same = c.if-entries-len.false in
      let len = c.len.ensures.value in
      sym c.self.view_is
      ∙ same_where c.entries-entries.result.now c.self.inside.table c.receivers.inside.table c.entries-entries.ensures.distinct c.entries-entries.ensures.value (omega (arith, same, len)) c.loop-entry.entry-index c.loop-entry-test.false c.loop-entry.invariant
      ∙ c.receivers.view_is,
  λ e. refl,
)
