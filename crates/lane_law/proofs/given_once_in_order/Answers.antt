use Rattle.lane_law.proofs.Streams.{is_stream}
use Rattle.lane_law.proofs.Words.{is_choice}
use Rattle.lane_law.proofs.given_once_in_order.Goals as goal

pub returns : goal.returns
returns c stream h = let i = is_stream stream h in is_choice stream.sent stream.given i.rise i.are_sent
