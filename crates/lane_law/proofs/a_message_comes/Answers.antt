-- Runs that the laws speak of, event by event.
use Rattle.std.proofs.Common.{ℕ, true, false, List, [], ◌∷◌, ◌++◌, refl, inl, inr, arith}
use Rattle.lane_law.specs.Message.{Message}
use Rattle.lane_law.specs.Frame.{Rts, Dpo, Packet, Request}
use Rattle.lane_law.specs.Session.{Session}
use Rattle.lane_law.specs.Stream
use Rattle.lane_law.specs.Lane
use Rattle.lane_law.specs.Lane.{LaneEvent, EndAcknowledgement, Acknowledgement, Sends, Begins, Grants, QueuesDpo, QueuesPacket, Ends, Probes, Cancels, GivesUp, Takes, PassesOver, Reopens, Accepts, Gives, Replies, Hears, Misses, Acknowledges, Settles}
use Rattle.lane_law.specs.Runs.{run}
use Rattle.lane_law.specs.Example.{GivesBroadcast, GivesAcknowledged, GivesTwoOfSix}
use Rattle.lane_law.proofs.a_message_comes.Goals as goal

-- a message of nine bytes, its two packets, and a session of it
abbrev nine : Message
nine = record { pgn = 65226; bytes = 1 ∷ 2 ∷ 3 ∷ 4 ∷ 5 ∷ 6 ∷ 7 ∷ 8 ∷ 9 ∷ [] }

abbrev first : List ℕ
first = 1 ∷ 2 ∷ 3 ∷ 4 ∷ 5 ∷ 6 ∷ 7 ∷ []

abbrev second : List ℕ
second = 8 ∷ 9 ∷ 255 ∷ 255 ∷ 255 ∷ 255 ∷ 255 ∷ []

abbrev session : ℕ → ℕ → ℕ → List ℕ → Session
session number offset accepted bytes = record { number = number; pgn = 65226; size = 9; accepted = accepted; offset = offset; collected = bytes }

abbrev broadcast : List Stream.StreamEvent
broadcast =
    Stream.Send nine ∷ Stream.Begin 1 nine ∷ Stream.QueuePacket 1 ∷ Stream.QueuePacket 2
    ∷ Stream.Take (Rts 1 nine) (Packet 1 first ∷ Packet 2 second ∷ []) ∷ Stream.Take (Packet 1 first) (Packet 2 second ∷ []) ∷ Stream.Accept (session 1 0 0 []) 1 first
    ∷ Stream.Take (Packet 2 second) [] ∷ Stream.Give (session 1 0 1 first) 2 second ∷ []

gives_broadcast : GivesBroadcast nine (run Stream.after broadcast Stream.empty_stream)
gives_broadcast = record {
  reached = (broadcast, (tt, ((omega arith, (omega arith, refl)), (tt, (tt, (refl, (refl, ((refl, refl, refl), (refl, (((refl, refl, refl), refl), tt))))))))), refl);
  sent = refl;
  given = refl;
}

abbrev quiet : List LaneEvent
quiet =
    Sends nine ∷ Begins 1 nine [] ∷ Takes (Rts 1 nine) [] ∷ Grants 1 ∷ QueuesPacket 1 1 ∷ QueuesPacket 1 2
    ∷ Takes (Packet 1 first) (Packet 2 second ∷ []) ∷ Accepts (session 1 0 0 []) 1 first
    ∷ Takes (Packet 2 second) [] ∷ Gives (session 1 0 1 first) 2 second ∷ Hears (EndAcknowledgement 1) []
    ∷ Acknowledges 1 1 ∷ []

gives_acknowledged : GivesAcknowledged nine (run Lane.after quiet (Lane.start true))
gives_acknowledged = record {
  reached = (quiet, (tt, ((refl, refl, (omega arith, refl)), (refl, (inl refl, (refl, (refl, (refl, ((refl, refl, refl), (refl, (((refl, refl, refl), refl), (refl, ((refl, refl), tt)))))))))))), refl);
  sent = refl;
  given = refl;
  outcomes = refl;
}

-- six equal messages are sent
abbrev sent : List LaneEvent
sent =
    Sends nine ∷ Sends nine ∷ Sends nine ∷ Sends nine ∷ Sends nine ∷ Sends nine ∷ []

-- the first one: its RTS is taken twice, and so is the CTS; it times out before its packets are taken
abbrev first_times_out : List LaneEvent
first_times_out =
    Begins 1 nine (2 ∷ 3 ∷ 4 ∷ 5 ∷ 6 ∷ []) ∷ Takes (Rts 1 nine) [] ∷ Reopens 1 nine ∷ Grants 1 ∷ Grants 1
    ∷ QueuesPacket 1 1 ∷ QueuesPacket 1 2 ∷ Ends 1 ∷ []

-- a Request is queued; the packets are taken and the message is given
abbrev first_is_given : List LaneEvent
first_is_given =
    Probes ∷ Takes (Packet 1 first) (Packet 2 second ∷ Request true ∷ []) ∷ Accepts (session 1 0 0 []) 1 first
    ∷ Takes (Packet 2 second) (Request true ∷ []) ∷ Gives (session 1 0 1 first) 2 second ∷ []

-- the Request is repeated, and answered three times; the late end acknowledgement is no outcome
abbrev first_round : List LaneEvent
first_round =
    Probes ∷ Takes (Request true) (Request true ∷ []) ∷ Replies true ∷ Replies true ∷ Takes (Request true) []
    ∷ Replies true
    ∷ Hears (EndAcknowledgement 1) (Acknowledgement true ∷ Acknowledgement true ∷ Acknowledgement true ∷ [])
    ∷ Hears (Acknowledgement true) (Acknowledgement true ∷ Acknowledgement true ∷ []) ∷ Settles ∷ []

-- the second one: the destination passes over its first packet, and an abort ends it
abbrev second_is_lost : List LaneEvent
second_is_lost =
    Begins 2 nine (3 ∷ 4 ∷ 5 ∷ 6 ∷ []) ∷ Takes (Rts 2 nine) [] ∷ Grants 2 ∷ QueuesPacket 2 1 ∷ QueuesPacket 2 2
    ∷ PassesOver (Packet 1 first) (Packet 2 second ∷ []) ∷ Takes (Packet 2 second) [] ∷ Ends 2 ∷ []

-- an answer to the first round settles nothing; the sender misses the next one
abbrev second_round : List LaneEvent
second_round =
    Probes ∷ Hears (Acknowledgement true) (Acknowledgement true ∷ []) ∷ Misses (Acknowledgement true) []
    ∷ Takes (Request false) [] ∷ Replies false ∷ Hears (Acknowledgement false) [] ∷ Settles ∷ []

-- the third one is cancelled
abbrev third_is_cancelled : List LaneEvent
third_is_cancelled =
    Cancels [] 3 (4 ∷ 5 ∷ 6 ∷ []) ∷ []

-- the fourth one: its first packet is queued twice, and the second one behind a DPO with an offset
abbrev fourth_is_acknowledged : List LaneEvent
fourth_is_acknowledged =
    Begins 4 nine (5 ∷ 6 ∷ []) ∷ Takes (Rts 4 nine) [] ∷ Grants 4 ∷ QueuesDpo 4 0 ∷ QueuesPacket 4 1
    ∷ Takes (Dpo 0) (Packet 1 first ∷ []) ∷ Takes (Packet 1 first) [] ∷ Accepts (session 4 0 0 []) 1 first
    ∷ Grants 4 ∷ QueuesPacket 4 1 ∷ QueuesDpo 4 1 ∷ QueuesPacket 4 1
    ∷ Takes (Packet 1 first) (Dpo 1 ∷ Packet 1 second ∷ []) ∷ Takes (Dpo 1) (Packet 1 second ∷ [])
    ∷ Takes (Packet 1 second) [] ∷ Gives (session 4 1 1 first) 1 second ∷ Hears (EndAcknowledgement 4) []
    ∷ Acknowledges 4 4 ∷ []

-- the fifth one gets no CTS, the Requests no answer: the sixth one is given up
abbrev sixth_is_given_up : List LaneEvent
sixth_is_given_up =
    Begins 5 nine (6 ∷ []) ∷ Ends 5 ∷ Probes ∷ Probes ∷ Probes ∷ GivesUp 6 [] ∷ []

abbrev troubled : List LaneEvent
troubled = sent ++ first_times_out ++ first_is_given ++ first_round ++ second_is_lost ++ second_round ++ third_is_cancelled ++ fourth_is_acknowledged ++ sixth_is_given_up

gives_two_of_six : GivesTwoOfSix nine (run Lane.after troubled (Lane.start true))
gives_two_of_six = record {
  reached = (troubled, (tt, (tt, (tt, (tt, (tt, (tt, ((refl, refl, (omega arith, refl)), (refl, (refl, (inl refl, (inr refl, (refl, (refl, (inr refl, (refl, (refl, ((refl, refl, refl), (refl, (((refl, refl, refl), refl), (refl, (refl, (refl, (refl, (refl, (refl, (refl, (refl, ((refl, refl), ((refl, refl, (omega arith, refl)), (refl, (inl refl, (refl, (refl, (refl, (refl, (inr refl, (refl, (refl, (refl, (refl, (refl, (refl, ((refl, refl), (refl, ((refl, refl, (omega arith, refl)), (refl, (inl refl, (refl, (refl, (refl, (refl, ((refl, refl, refl), (inr refl, (refl, (refl, (refl, (refl, (refl, (refl, (((refl, refl, refl), refl), (refl, ((refl, refl), ((refl, refl, (omega arith, refl)), (inl refl, (refl, (refl, (refl, (refl, tt)))))))))))))))))))))))))))))))))))))))))))))))))))))))))))))))))))), refl);
  sent = refl;
  given = refl;
  outcomes = refl;
}

pub returns-clause-broadcast : goal.returns-clause-broadcast
returns-clause-broadcast c = (nine, run Stream.after broadcast Stream.empty_stream, gives_broadcast)

pub returns-clause-acknowledged : goal.returns-clause-acknowledged
returns-clause-acknowledged c = (nine, run Lane.after quiet (Lane.start true), gives_acknowledged)

pub returns-clause-each_fate : goal.returns-clause-each_fate
returns-clause-each_fate c = (nine, run Lane.after troubled (Lane.start true), gives_two_of_six)
