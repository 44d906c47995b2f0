use Rattle.std.proofs.Common.{◌≡◌}
use Rattle.segment_threads.proofs.jobs.read_all.Given as goal

abbrev pub invariant-loop : goal.invariant-loop
invariant-loop l = record {
  id : l.client.id ≡ l.fn.client.id;
  submitted : l.client.submitted ≡ l.fn.client.submitted;
}
