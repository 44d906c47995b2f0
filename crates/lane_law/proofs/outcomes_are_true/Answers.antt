use Rattle.std.proofs.Common.{length}
use Rattle.lane_law.proofs.Events.{is_lane}
use Rattle.lane_law.proofs.Hearing.{given_earlier, own_end}
use Rattle.lane_law.proofs.Words.{is_choice, is_given, are_true, are_one_each, are_within, outcomes_stay}
use Rattle.lane_law.proofs.outcomes_are_true.Goals as goal

pub returns-clause-given : goal.returns-clause-given
returns-clause-given c token lane h = let i = is_lane token lane h in is_choice lane.stream.sent lane.stream.given i.stream.rise i.stream.are_sent

pub returns-clause-agree : goal.returns-clause-agree
returns-clause-agree c token lane h = are_true lane.stream.given lane.outcomes (is_lane token lane h).agree

pub returns-clause-earlier : goal.returns-clause-earlier
returns-clause-earlier c token lane h number heard m = is_given number lane.stream.given (given_earlier lane number heard m (is_lane token lane h))

pub returns-clause-own : goal.returns-clause-own
returns-clause-own c token lane h number heard m = own_end lane number heard m (is_lane token lane h)

pub returns-clause-sent : goal.returns-clause-sent
returns-clause-sent c token lane h = are_within (length lane.stream.sent) lane.outcomes (is_lane token lane h).numbers.outcomes_within

pub returns-clause-single : goal.returns-clause-single
returns-clause-single c token lane h = are_one_each lane.outcomes (is_lane token lane h).numbers.single

pub returns-clause-stays : goal.returns-clause-stays
returns-clause-stays c lane event = outcomes_stay lane event
