use Rattle.std.proofs.Common.{◌+◌, ◌<◌, length, length-append, length-take-le, take, subst, arith}
use Rattle.std.specs.Io.BufRead.{FillKeeps}
use Rattle.std.specs.Io.KnownBytes.{Consumes}
use Rattle.text_lines.proofs.LineFronts.{no_feed_before, feed_behind}
use Rattle.text_lines.proofs.Known.{takes_shown}
use Rattle.text_lines.proofs.lines.take_part.Goals as goal

pub returns-then-len-most-clause-takes : goal.returns-then-len-most-clause-takes
returns-then-len-most-clause-takes g c =
    let rested = c.fill_buf.follows.lender-at-none in
    let filled = subst (FillKeeps _ (g.R.Read.remaining rested) (g.R.BufRead.consumable_len rested)) c.in-Ok.is c.fill_buf.follows.holds-at-none in
    let held = c.in-Ok.held.now in
    let len = c.before_feed-len in
    let fits = length-take-le len.result held len.ensures.within in (
      take len.result held,
      simp length-append (omega (arith, fits, c.if-len-most.true)),
      rw len.ensures.value (no_feed_before held),
      takes_shown _ _ _ _ held len.result len.ensures.within c.in-Ok.ensures.front c.in-Ok.ensures.end filled c.consume.ensures.bytes,
    )

pub returns-then-len-count-clause-takes : goal.returns-then-len-count-clause-takes
returns-then-len-count-clause-takes g c =
    let rested = c.fill_buf.follows.lender-at-none in
    let filled = subst (FillKeeps _ (g.R.Read.remaining rested) (g.R.BufRead.consumable_len rested)) c.in-Ok.is c.fill_buf.follows.holds-at-none in
    let held = c.in-Ok.held.now in
    let len = c.before_feed-len in (
      take len.result held,
      c.in_ok-extend_from_slice.ensures.items,
      rw len.ensures.value (no_feed_before held),
      takes_shown _ _ _ _ held len.result len.ensures.within c.in-Ok.ensures.front c.in-Ok.ensures.end filled c.consume-then-len-count.ensures.bytes,
    )

pub returns-clause-takes : goal.returns-clause-takes
returns-clause-takes g c =
    let rested = c.fill_buf.follows.lender-at-none in
    let filled = subst (FillKeeps _ (g.R.Read.remaining rested) (g.R.BufRead.consumable_len rested)) c.in-Ok.is c.fill_buf.follows.holds-at-none in
    let held = c.in-Ok.held.now in
    let len = c.before_feed-len in
    let more : len.result < length held = omega (arith, len.ensures.within, c.if-len-count.false) in (
      take len.result held,
      c.in_ok-extend_from_slice.ensures.items,
      rw len.ensures.value (no_feed_before held),
      subst (Consumes _ _) (rw len.ensures.value (feed_behind held (rw len.ensures.value at more)))
          (takes_shown _ _ _ _ held (len.result + 1) (omega (arith, more)) c.in-Ok.ensures.front c.in-Ok.ensures.end filled c.consume-2.ensures.bytes),
    )
