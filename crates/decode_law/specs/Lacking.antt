-- What a listener reports of a message if a log lacks some of its frames.
use Rattle.std.specs.Prelude.{◌≡◌, ℕ, List, [], ◌∷◌, ◌++◌, All, filter, map, length, None, ⊤, ◌⊎◌}
use Rattle.bus_frame.specs.Frames.{CanFrame}
use Rattle.log_fields.specs.declared.iface.Iface.{Iface}
use Rattle.pgn_ids.specs.Pgn.{clean}
use Rattle.pgn_ids.specs.declared.address.Address.{Address}
use Rattle.lane_core.specs.declared.message.Pending.{Pending}
use Rattle.segment_law.specs.Quiet.{quiet}
use Rattle.log_decode.specs.Belonging.{is_frame_of, told_of_key}
use Rattle.log_decode.specs.Sessions.{session_at}
use Rattle.log_decode.specs.Decoder.{taken, ended}
use Rattle.log_decode.specs.View.{Buses, State}
use Rattle.log_reports.specs.declared.key.Key.{Key}
use Rattle.log_reports.specs.declared.told.Cause.{Cause}
use Rattle.log_reports.specs.declared.told.Told.{Told}
use Rattle.log_reports.specs.declared.told.Told.TheVariants.{Given, Lost}
use Rattle.decode_law.specs.Hearing.{key_for}

-- a part of a list: its elements are in the list in that order, and others of the list may be left out
abbrev pub IsPartOf : {A : Type 0} → (part whole : List A) → Type 0
IsPartOf [] whole = ⊤
IsPartOf (p ∷ ps) [] = ⊥
IsPartOf (p ∷ ps) (w ∷ ws) = ((p ≡ w) × IsPartOf ps ws) ⊎ IsPartOf (p ∷ ps) ws

-- a frame of a log: its time in microseconds, its interface, and itself
abbrev pub Entry : Type 0
Entry = ℕ × Iface × CanFrame

-- a listener takes the frames of a log one after another, each on its interface
abbrev pub heard_through : State → List Entry → List Told → State × List Told
heard_through l [] told = (l, told)
heard_through l (e ∷ es) told = heard_through (taken l e.0 e.1 e.2 told).0 es (taken l e.0 e.1 e.2 told).1

-- all that it reports up to the end of the log
abbrev pub told_to_end : State → List Entry → List Told
told_to_end l log = (heard_through l log []).1 ++ ended (heard_through l log []).0.buses

-- the frames of a log that belong to the message of a key
abbrev pub frames_of : Key → List Entry → List CanFrame
frames_of key log = map (λ e. e.2) (filter (λ e. is_frame_of key e.1 e.2) log)

-- no message of a key is under way
abbrev pub IsFree : Key → Buses → Type 0
IsFree key buses = All (λ b. session_at key b.1.sessions ≡ None) buses

-- the reports on a message are none, or that it was given with these bytes, or that it is lost
abbrev pub IsToldOf : Key → (pgn : ℕ) → (bytes : List ℕ) → List Told → Type 0
IsToldOf key pgn bytes told =
    (told ≡ [])
    ⊎ (told ≡ Given key (clean pgn) bytes ∷ [])
    ⊎ ((have : ℕ) × (cause : Cause) × (told ≡ Lost key (clean pgn) have (length bytes) cause ∷ []))

-- a log has some of the frames that the message puts on a bus if nothing disturbs it, and before the log no message of its key is
-- under way
pub record LacksFrames (l : State) (iface : Iface) (m : Pending) (s d : Address) (log : List Entry) : Type 0 where
  pub free : IsFree (key_for iface m s d) l.buses
  pub part : IsPartOf (frames_of (key_for iface m s d) log) (quiet m s d)

-- whatever else such a log has, and whatever its times, nothing else is reported of the message
abbrev pub IsToldRightly : Pending → (s d : Address) → Type 0
IsToldRightly m s d = (l : State) (iface : Iface) (log : List Entry) → LacksFrames l iface m s d log
    → IsToldOf (key_for iface m s d) m.pgn m.bytes (told_of_key (key_for iface m s d) (told_to_end l log))
