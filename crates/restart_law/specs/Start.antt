-- Two stations on one bus from a moment on at which nothing of the one's messages to the other is on the way. An earlier station may have had
-- the address of either, as when a program starts again.
use Rattle.std.specs.Prelude.{◌≡◌, ◌≢◌, ◌⊎◌, ◌+◌, ◌<◌, ◌^◌, Bool, true, false, ◌||◌, not, ◌==◌, List, [], ◌∷◌, ◌++◌, filter_map, length, option_to_list, Option, Some, None, IsTrue}
use Rattle.std.specs.List.{list_all}
use Rattle.bus_frame.specs.Frames.{CanFrame}
use Rattle.bus_order.specs.Bus.{frame_again}
use Rattle.pgn_ids.specs.Address.{global_address}
use Rattle.pgn_ids.specs.declared.address.Address.{Address}
use Rattle.tp_wire.specs.Reading.{reading}
use Rattle.tp_wire.specs.declared.wire.CmFrame.TheVariants.{Rts, EndOfMsgAck, Bam, EtpRts, EtpDpo, EtpEoma}
use Rattle.tp_wire.specs.declared.wire.Wire.{Wire}
use Rattle.tp_wire.specs.declared.wire.Wire.TheVariants.{Cm, Packet, Request, Ack}
use Rattle.session_table.specs.Sessions.{state_at}
use Rattle.session_table.specs.declared.key.SessionKind.{SessionKind}
use Rattle.station_sessions.specs.Opening.{key_of}
use Rattle.segment_law.specs.Segment.{Segment, new_segment, station_at, waiting_at}
use Rattle.segment_law.specs.Calls.{events_of, is_call, is_frame}
use Rattle.segment_law.specs.Record.{Record, StandsAt, calls_of, replies_of, replies_from}
use Rattle.segment_law.specs.Told.{told_from, given_to_station, outcome_in, sends, openings, closings, all_givens}
use Rattle.segment_law.specs.Headline.{port_of}
use Rattle.record_law.specs.Numbers.{answered}
use Rattle.network_law.specs.Traffic.{is_from, traffic, Fits, IsOrderly}
use Rattle.network_law.specs.Between.{Sender, Receiver, Sentence, sender_at}

-- A station from a moment on

-- a station alone on a segment of its own: what it did before a moment, when it was fed whatever frames and looked at all of them; and what
-- it did since, when the bus carried these frames
pub record IsOnBusSince (a : Address) (before since : Record) (bus : List CanFrame) : Type 0 where
  pub start : Segment
  pub stands : StandsAt (a ∷ []) before start
  pub calls_fit : IsTrue (list_all is_call (calls_of since))
  pub replies : replies_from start (calls_of since) ≡ replies_of since
  pub looked : waiting_at start a ≡ 0
  pub fits : Fits a (traffic start (calls_of since)) bus
  pub orderly : IsOrderly a start (calls_of since)

-- The moment

-- what a station says of its messages to station d: a frame of one to it or to all, or a Request to it
abbrev pub sends_to : (d : Address) → Wire → (to : Address) → Bool
sends_to d (Cm (Rts size packets most pgn)) to = to.0 == d.0
sends_to d (Cm (EtpRts size pgn)) to = to.0 == d.0
sends_to d (Cm (EtpDpo packets offset pgn)) to = to.0 == d.0
sends_to d (Cm (Bam size packets pgn)) to = true
sends_to d (Packet kind sequence bytes) to = to.0 == d.0 || to.0 == global_address
sends_to d (Request pgn) to = to.0 == d.0
sends_to d wire to = false

abbrev pub is_sent_to : (d : Address) → CanFrame → Bool
is_sent_to d frame = elim (reading frame) [ None ↦ false | Some meaning ↦ sends_to d meaning.0 meaning.2 ]

-- what a station says back to station s: an end of message acknowledgement to it, or an Acknowledgement that is to it or names it
abbrev pub answers : (s : Address) → Wire → (to : Address) → Bool
answers s (Cm (EndOfMsgAck size packets pgn)) to = to.0 == s.0
answers s (Cm (EtpEoma size pgn)) to = to.0 == s.0
answers s (Ack control address pgn) to = address.0 == s.0 || to.0 == s.0
answers s wire to = false

abbrev pub is_answer : (s : Address) → CanFrame → Bool
is_answer s frame = elim (reading frame) [ None ↦ false | Some meaning ↦ answers s meaning.0 meaning.2 ]

-- none of these frames passes the test
abbrev pub AreNone : (CanFrame → Bool) → List CanFrame → Type 0
AreNone test frames = IsTrue (list_all (λ frame. not (test frame)) frames)

-- a station may take this frame again, or none
abbrev pub MayRepeat : Option CanFrame → Segment → Type 0
MayRepeat last seg = (frame_again seg.bus 0 ≡ None) ⊎ (frame_again seg.bus 0 ≡ last)

-- the last frame that the bus carried, if it carried one: if station d may take it again it is no frame of station s, and if station s may,
-- it is no answer to it
pub record IsLast (s : Address) (last : Option CanFrame) (start_s start_d : Segment) : Type 0 where
  pub of_s : MayRepeat last start_s
  pub of_d : MayRepeat last start_d
  pub unsent : AreNone (is_from s) (option_to_list (frame_again start_d.bus 0))
  pub unanswered : AreNone (is_answer s) (option_to_list (frame_again start_s.bus 0))

-- nothing of the messages of station s to station d is on the way: neither has a frame of them in its queue, station d has no incoming session
-- of station s's address, and none of the two takes a frame of them again
pub record IsNothingOnTheWay (s d : Address) (start_s start_d : Segment) : Type 0 where
  pub unsent : AreNone (is_sent_to d) (station_at start_s s).queue
  pub unanswered : AreNone (is_answer s) (station_at start_d d).queue
  pub sessions : (kind : SessionKind) → state_at (station_at start_d d).sessions (key_of s kind) ≡ None
  pub last : Option CanFrame
  pub is_last : IsLast s last start_s start_d

-- and station s has sent no message before
pub record IsStart (s d : Address) (before_s : Record) (start_s start_d : Segment) : Type 0 where
  pub nothing_sent : (to : Address) → sends before_s s to ≡ []
  pub nothing_on_the_way : IsNothingOnTheWay s d start_s start_d

-- The sentence from there on

-- what station s sent over all that it did, and of the outcomes those that it was told since
abbrev pub sender_since : (s : Address) → (before since : Record) → Sender
sender_since s before since = record {
  sends = λ x. sends (before ++ since) s x;
  answers = λ x. answered (before ++ since) s x;
  outcomes = λ x. told_from (λ step. filter_map (outcome_in s x) (events_of step.1)) (1 + length before) since;
}

-- station d's ports over all that it did, and of station s's messages those that it was given since
abbrev pub receiver_since : (d s : Address) → (before since : Record) → Receiver
receiver_since d s before since = record {
  openings = λ port. openings (before ++ since) (port_of d port);
  closings = λ port. closings (before ++ since) (port_of d port);
  givens = λ x. told_from (λ step. filter_map (given_to_station d s x) (events_of step.1)) (1 + length before) since;
  all_givens = λ port. all_givens (before ++ since) (port_of d port);
}

-- for all programs on one bus, whatever their clocks are and in whatever order they run
abbrev pub FromAMoment : ((s d : Address) (before_s since_s before_d since_d : Record) (start_s start_d : Segment) → Type 0) → Type 0
FromAMoment Holds = (s d : Address) (before_s since_s before_d since_d : Record) (bus : List CanFrame) → s.0 ≢ d.0 → IsTrue (list_all is_frame bus) → length bus + 1 < 2 ^ 64
    → (first : IsOnBusSince s before_s since_s bus) (second : IsOnBusSince d before_d since_d bus) → Holds s d before_s since_s before_d since_d first.start second.start

-- from each moment at which nothing is on the way
abbrev pub HoldsFromAMoment : Type 0
HoldsFromAMoment = FromAMoment (λ s d before_s since_s before_d since_d start_s start_d.
    IsNothingOnTheWay s d start_s start_d → Sentence d (sender_since s before_s since_s) (receiver_since d s before_d since_d))

-- and of all outcomes, if the sender starts
abbrev pub HoldsFromAStart : Type 0
HoldsFromAStart = FromAMoment (λ s d before_s since_s before_d since_d start_s start_d.
    IsStart s d before_s start_s start_d → Sentence d (sender_at s (before_s ++ since_s)) (receiver_since d s before_d since_d))

-- Who is at such a moment

-- a station that starts again at its address has nothing of another's messages: so it is enough that the other has no frame of them in its queue,
-- and may not take an answer once more
abbrev pub IsARestart : Type 0
IsARestart = (s d : Address) (start_s : Segment) → AreNone (is_sent_to d) (station_at start_s s).queue → AreNone (is_answer s) (option_to_list (frame_again start_s.bus 0)) → IsNothingOnTheWay s d start_s (new_segment (d ∷ []))

-- two stations that both start are so: the law between programs speaks of these
abbrev pub IsAFirstStart : Type 0
IsAFirstStart = (s d : Address) → IsStart s d [] (new_segment (s ∷ [])) (new_segment (d ∷ []))
