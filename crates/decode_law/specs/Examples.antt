-- Logs that meet the premises of the law of logs that lack frames.
use Rattle.std.specs.Prelude.{◌≡◌, ℕ, ◌+◌, List, [], ◌∷◌, length}
use Rattle.log_fields.specs.declared.iface.Iface.{Iface}
use Rattle.pgn_ids.specs.Pgn.{clean}
use Rattle.pgn_ids.specs.declared.address.Address.{Address}
use Rattle.lane_core.specs.declared.message.Pending.{Pending}
use Rattle.segment_law.specs.Quiet.{quiet}
use Rattle.log_decode.specs.Belonging.{told_of_key}
use Rattle.log_decode.specs.View.{State}
use Rattle.log_reports.specs.declared.told.Cause.{Cause}
use Rattle.log_reports.specs.declared.told.Told.TheVariants.{Lost}
use Rattle.decode_law.specs.Hearing.{IsSendable, key_for}
use Rattle.decode_law.specs.Lacking.{Entry, told_to_end, frames_of, LacksFrames}

-- there are a listener, a message of so many bytes, and a log for which all premises hold. The log lacks one of the message's frames, and has one
-- of no such message. The listener reports the message as lost for this cause, with so many of its bytes received
pub record Met (len have : ℕ) (cause : Cause) : Type 0 where
  pub m : Pending
  pub s : Address
  pub d : Address
  pub l : State
  pub iface : Iface
  pub log : List Entry
  pub sendable : IsSendable m s d
  pub lacks : LacksFrames l iface m s d log
  pub long : length m.bytes ≡ len
  pub all_but_one : length (frames_of (key_for iface m s d) log) + 1 ≡ length (quiet m s d)
  pub others : length (frames_of (key_for iface m s d) log) + 1 ≡ length log
  pub told : told_of_key (key_for iface m s d) (told_to_end l log) ≡ Lost (key_for iface m s d) (clean m.pgn) have len cause ∷ []
