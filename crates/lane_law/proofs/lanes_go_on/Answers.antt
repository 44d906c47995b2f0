use Rattle.lane_law.specs.Lane
use Rattle.lane_law.proofs.Reached.{leads_nowhere, leads_on}
use Rattle.lane_law.proofs.Words.{of_reached}
use Rattle.lane_law.proofs.Events.{is_lane, last_begun}
use Rattle.lane_law.proofs.lanes_go_on.Goals as goal

pub returns-clause-begins : goal.returns-clause-begins
returns-clause-begins c token = leads_nowhere Lane.MayHappen Lane.after (Lane.start token)

pub returns-clause-goes_on : goal.returns-clause-goes_on
returns-clause-goes_on c token lane event h m = leads_on Lane.MayHappen Lane.after (Lane.start token) lane event h m

pub returns-clause-session : goal.returns-clause-session
returns-clause-session c token lane h session e = of_reached lane.stream session e (is_lane token lane h).stream

pub returns-clause-last : goal.returns-clause-last
returns-clause-last c token lane h = last_begun lane (is_lane token lane h)
