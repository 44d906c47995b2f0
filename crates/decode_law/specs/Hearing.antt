-- What a listener to a recorded bus hears of a message that nothing disturbs.
use Rattle.std.specs.Prelude.{◌≡◌, ℕ, ◌+◌, ◌<◌, ◌≤◌, ◌^◌, true, false, List, [], ◌∷◌, ◌++◌, All, map, length, None, ⊤, if◌then◌else◌}
use Rattle.bus_frame.specs.Frames.{CanFrame}
use Rattle.log_fields.specs.declared.iface.Iface.{Iface}
use Rattle.pgn_ids.specs.Address.{is_one}
use Rattle.pgn_ids.specs.Pgn.{clean}
use Rattle.pgn_ids.specs.declared.address.Address.{Address}
use Rattle.tp_wire.specs.Rows.{one_or_all}
use Rattle.tp_wire.specs.declared.constants.TheConstants.{MIN_SIZE}
use Rattle.tp_wire.specs.declared.wire.Kind.{Kind}
use Rattle.tp_wire.specs.declared.wire.Kind.TheVariants.{Tp}
use Rattle.lane_core.specs.Lane.{kind_for, longest_to}
use Rattle.lane_core.specs.declared.message.Pending.{Pending}
use Rattle.segment_law.specs.Segment.{Segment}
use Rattle.segment_law.specs.Record.{Record, StandsAt}
use Rattle.segment_law.specs.Drive.{driven}
use Rattle.segment_law.specs.Quiet.{is_to_all, quiet, IsQuiet}
use Rattle.log_reports.specs.Keys.{transport_of}
use Rattle.log_decode.specs.Session.{patience, is_silent}
use Rattle.log_decode.specs.Sessions.{Sessions, session_at}
use Rattle.log_decode.specs.Decoder.{taken}
use Rattle.log_decode.specs.View.{State, bus_at, put_bus}
use Rattle.log_reports.specs.declared.key.Key.{Key}
use Rattle.log_reports.specs.declared.told.Told.{Told}
use Rattle.log_reports.specs.declared.told.Told.TheVariants.{Given}

-- frames in their order, each with its time in microseconds
abbrev pub Log : Type 0
Log = List (ℕ × CanFrame)

-- a listener takes them one after another, all of them of one interface
abbrev pub heard_all : State → Iface → Log → List Told → State × List Told
heard_all l iface [] told = (l, told)
heard_all l iface (f ∷ fs) told = heard_all (taken l f.0 iface f.1 told).0 iface fs (taken l f.0 iface f.1 told).1

abbrev pub frames_in : Log → List CanFrame
frames_in log = map (λ f. f.1) log

-- the time of the last of them, or the time before them if there is none
abbrev pub end_of : (time : ℕ) → Log → ℕ
end_of time [] = time
end_of time (f ∷ fs) = end_of f.0 fs

-- each frame follows the one before it at no earlier time, and less than so long after it
abbrev pub ComeWithin : (wait time : ℕ) → Log → Type 0
ComeWithin wait time [] = ⊤
ComeWithin wait time (f ∷ fs) = (time ≤ f.0) × (f.0 < time + wait) × ComeWithin wait f.0 fs

-- the first may follow at any time from this one on
abbrev pub ComeInTime : (wait time : ℕ) → Log → Type 0
ComeInTime wait time [] = ⊤
ComeInTime wait time (f ∷ fs) = (time ≤ f.0) × ComeWithin wait f.0 fs

-- none of these messages under way is silent at this time
abbrev pub NoneSilent : (now : ℕ) → Sessions → Type 0
NoneSilent now sessions = All (λ e. is_silent e.0.to e.1 now ≡ false) sessions

-- a message that a station may send: a field of 18 bits for its PGN, a size that a transport carries to the destination, from one
-- node to another or to all
pub record IsSendable (m : Pending) (s d : Address) : Type 0 where
  pub pgn : m.pgn < 2 ^ 18
  pub least : MIN_SIZE ≤ length m.bytes
  pub most : length m.bytes ≤ longest_to d.0
  pub source : is_one s.0 ≡ true
  pub destination : one_or_all d.0 ≡ true

-- the transport that carries it
abbrev pub kind_to : Pending → (d : Address) → Kind
kind_to m d = if is_to_all d then Tp else kind_for (length m.bytes)

-- the key of the message: it distinguishes it from others under way
abbrev pub key_for : Iface → Pending → (s d : Address) → Key
key_for iface m s d = record { iface = iface; from = s; to = d; transport = transport_of (kind_to m d) }

-- a listener, and a log of these frames of a message, in time for it and for all else under way on its interface
pub record IsLogOf (frames : List CanFrame) (l : State) (iface : Iface) (m : Pending) (s d : Address) (log : Log) : Type 0 where
  pub frames_are : frames_in log ≡ frames
  pub room : length m.bytes ≤ l.most
  pub free : session_at (key_for iface m s d) (bus_at iface l.buses).sessions ≡ None
  pub times : ComeInTime (patience d) (bus_at iface l.buses).time log
  pub others : All (λ f. NoneSilent f.0 (bus_at iface l.buses).sessions) log

-- a listener whose interface is at this time
abbrev pub at_time : State → Iface → (time : ℕ) → State
at_time l iface time = record { most = l.most; time = time; buses = put_bus iface (record { time = time; sessions = (bus_at iface l.buses).sessions }) l.buses }

-- for these frames every listener reports that the message was given and nothing else, and has under way what it had before
abbrev pub AreHeardAs : List CanFrame → Pending → (s d : Address) → Type 0
AreHeardAs frames m s d = (l : State) (iface : Iface) (log : Log) (told : List Told) → IsLogOf frames l iface m s d log
    → heard_all l iface log told ≡ (at_time l iface (end_of (bus_at iface l.buses).time log), told ++ Given (key_for iface m s d) (clean m.pgn) m.bytes ∷ [])

-- the frames of one undisturbed message are heard so
abbrev pub IsHeard : Pending → (s d : Address) → Type 0
IsHeard m s d = AreHeardAs (quiet m s d) m s d

-- the frames that a drive puts from a segment at a record that is quiet for this message are heard so
abbrev pub DrivesAreHeard : Type 0
DrivesAreHeard = (addresses : List Address) (steps : Record) (seg : Segment) (s d : Address) (m : Pending)
    → StandsAt addresses steps seg → IsQuiet seg s d m → AreHeardAs (driven seg s d (length (quiet m s d))).frames m s d
