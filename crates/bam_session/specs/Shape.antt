-- The states as they are kept.
use Rattle.std.specs.Prelude.{◌≡◌, ◌+◌, ◌≤◌, true}
use Rattle.pgn_ids.specs.Address.{is_one}
use Rattle.seg_cut.specs.Packets.{packet_count}
use Rattle.seg_cut.specs.Join.{IsJoin}
use Rattle.bam_session.specs.States.{Outgoing, Incoming, is_size}
use Rattle.bam_session.specs.declared.outgoing.BamOut.TheInside.{Inside as InsideOut}
use Rattle.bam_session.specs.declared.incoming.BamIn.TheInside.{Inside as InsideIn}

abbrev pub outgoing_value : InsideOut → Outgoing
outgoing_value s = record { from = s.from.0; len = s.len; next = s.next; gap = s.gap }

-- a node sends, and a packet is still to be queued
pub record IsSending (s : InsideOut) : Type 0 where
  pub source : is_one s.from.0 ≡ true
  pub size : is_size s.len ≡ true
  pub from_first : 1 ≤ s.next
  pub to_last : s.next ≤ packet_count s.len

abbrev pub incoming_value : InsideIn → Incoming
incoming_value s = record { from = s.from.0; pgn = s.pgn; join = s.join; timer = s.timer }

-- a packet is missing, and there is room for all that are
pub record IsUnfinished (s : InsideIn) : Type 0 where
  pub valid : IsJoin s.join
  pub size : is_size s.join.size ≡ true
  pub unfinished : s.join.next ≤ packet_count s.join.size
  pub room : packet_count s.join.size + 1 ≤ s.join.next + s.join.room
