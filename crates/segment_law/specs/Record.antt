-- A record: the calls made on a segment, each with its reply.
use Rattle.std.specs.Prelude.{◌≡◌, List, [], ◌∷◌, map, IsTrue}
use Rattle.std.specs.List.{list_all}
use Rattle.pgn_ids.specs.declared.address.Address.{Address}
use Rattle.segment_law.specs.Segment.{Segment, are_addresses, new_segment}
use Rattle.segment_law.specs.Calls.{applied, is_call}
use Rattle.segment_law.specs.declared.call.Call.{Call}
use Rattle.segment_law.specs.declared.reply.Reply.{Reply}

-- a call with its reply
abbrev pub Step : Type 0
Step = Call × Reply

abbrev pub Record : Type 0
Record = List Step

-- the replies to calls, one after another
abbrev pub replies_from : Segment → List Call → List Reply
replies_from seg [] = []
replies_from seg (call ∷ calls) = (applied seg call).1 ∷ replies_from (applied seg call).0 calls

-- the segment after them
abbrev pub after : Segment → List Call → Segment
after seg [] = seg
after seg (call ∷ calls) = after (applied seg call).0 calls

abbrev pub calls_of : Record → List Call
calls_of steps = map (λ s. s.0) steps

abbrev pub replies_of : Record → List Reply
replies_of steps = map (λ s. s.1) steps

-- the replay of the record's calls on a new segment gives its replies and this segment
pub record StandsAt (addresses : List Address) (steps : Record) (seg : Segment) : Type 0 where
  pub addresses_fit : IsTrue (are_addresses addresses)
  pub calls_fit : IsTrue (list_all is_call (calls_of steps))
  pub replies : replies_from (new_segment addresses) (calls_of steps) ≡ replies_of steps
  pub state : after (new_segment addresses) (calls_of steps) ≡ seg
