use Rattle.restart_law.proofs.Started.{started}
use Rattle.restart_law.proofs.laws.messages_hold_from_a_start.Goals as goal

pub returns : goal.returns
returns c s d before_s since_s before_d since_d bus distinct are room first second start = started c.the_headline_holds_at_any_clock.ensures c.messages_hold_from_a_moment.ensures s d before_s since_s before_d since_d bus distinct are room first second start
