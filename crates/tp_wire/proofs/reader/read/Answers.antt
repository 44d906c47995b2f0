use Rattle.std.proofs.Common.{◌∙◌, sym}
use Rattle.tp_wire.proofs.Numbers.{AllBytes, all_bytes}
use Rattle.tp_wire.proofs.WholeFrames.{reading_reads, reads_reading, reading_in_table}
use Rattle.tp_wire.proofs.reader.read.Goals as goal

pub returns-clause-exact : goal.returns-clause-exact
returns-clause-exact c = λ wire from to.
    let bytes : AllBytes c.args.frame.now.bytes = all_bytes _ (rw c.bytes-in_range.ensures.value at c.bytes-in_range.ensures.in_range) in
    (λ r. reading_reads c.args.frame.now bytes wire from to (sym c.read_in_place.ensures.meaning ∙ r), λ h. c.read_in_place.ensures.meaning ∙ reads_reading c.args.frame.now wire from to h)

pub returns-clause-in_table : goal.returns-clause-in_table
returns-clause-in_table c =
    let bytes : AllBytes c.args.frame.now.bytes = all_bytes _ (rw c.bytes-in_range.ensures.value at c.bytes-in_range.ensures.in_range) in
    rw c.read_in_place.ensures.meaning (reading_in_table c.args.frame.now bytes)
