use Rattle.lane_law.specs.Stream
use Rattle.lane_law.specs.Sender
use Rattle.lane_law.proofs.Reached.{leads_nowhere, leads_on}
use Rattle.lane_law.proofs.Streams.{is_stream}
use Rattle.lane_law.proofs.Words.{of_reached}
use Rattle.lane_law.proofs.broadcasts_go_on.Goals as goal

pub returns-clause-stream_begins : goal.returns-clause-stream_begins
returns-clause-stream_begins c = leads_nowhere Stream.MayHappen Stream.after Stream.empty_stream

pub returns-clause-stream_goes_on : goal.returns-clause-stream_goes_on
returns-clause-stream_goes_on c stream event h m = leads_on Stream.MayHappen Stream.after Stream.empty_stream stream event h m

pub returns-clause-session : goal.returns-clause-session
returns-clause-session c stream h session e = of_reached stream session e (is_stream stream h)

pub returns-clause-sender_begins : goal.returns-clause-sender_begins
returns-clause-sender_begins c = leads_nowhere Sender.MayHappen Sender.after Sender.new_sender

pub returns-clause-sender_goes_on : goal.returns-clause-sender_goes_on
returns-clause-sender_goes_on c sender event h m = leads_on Sender.MayHappen Sender.after Sender.new_sender sender event h m
