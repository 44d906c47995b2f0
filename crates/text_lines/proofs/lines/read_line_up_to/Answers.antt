use Rattle.std.proofs.Common.{◌<◌, length, rules}
use Rattle.text_lines.proofs.LineFronts.{no_feed_more}
use Rattle.text_lines.proofs.Known.{consumes_more, reads_last, reads_line, reads_long}
use Rattle.text_lines.proofs.lines.read_line_up_to.Goals as goal

pub returns-in-Feed-clause-reads : goal.returns-in-Feed-clause-reads
returns-in-Feed-clause-reads g c =
    let took = rw c.in-Feed.is at c.in_ok-take_part.ensures.takes in
    rw took.1 (reads_line c.args.most _ _ _ _ took.0 c.loop.invariant.one_line took.2 c.loop.invariant.read took.3)

pub returns-in-TooLong-clause-reads : goal.returns-in-TooLong-clause-reads
returns-in-TooLong-clause-reads g c =
    let took = rw c.in-TooLong.is at c.in_ok-take_part.ensures.takes in
    reads_long c.args.most _ _ _ c.loop.line.items took.0 c.loop.invariant.one_line took.2 took.1 c.loop.invariant.read took.3

pub returns-in-End-clause-reads : goal.returns-in-End-clause-reads
returns-in-End-clause-reads g c =
    let took = rw c.in-End.is at c.in_ok-take_part.ensures.takes in
    let some : 0 < length c.take_part.new.line.items = search rules in
    rw took.0 (reads_last c.args.most _ _ _ _ c.loop.invariant.one_line (rw took.0 at some) c.loop.invariant.read took.1 took.2)

pub loop-preserved : goal.loop-preserved
loop-preserved g c =
    let took = rw c.in-More.is at c.in_ok-take_part.ensures.takes in
    record {
      short = c.take_part.ensures.short;
      one_line = rw took.1 (no_feed_more _ _ c.loop.invariant.one_line took.2);
      read = rw took.1 (consumes_more _ _ _ _ _ c.loop.invariant.read took.3);
    }
