-- Frames that a node put on the bus, and those with its own address that the bus shows.
use Rattle.std.specs.Prelude.{ℕ, Bool, true, false, ◌&&◌, ◌||◌, ◌==◌, nat_lt, if◌then◌else◌, List, [], ◌∷◌, ◌++◌, length, drop, position, Option, Some, None, slice_get}
use Rattle.std.specs.Str.{bytes_eq}
use Rattle.bus_frame.specs.Frames.{CanFrame}
use Rattle.node_parts.specs.Sums.{plus}

-- the frames put that the bus hasn't shown since, the oldest first, and the one of them that it showed last; the tick before which no
-- conflict is reported
pub record Echoes : Type 0 where
  pub unseen : List CanFrame
  pub last : Option CanFrame
  pub silent_until : ℕ

-- no frame was put
abbrev pub no_echoes : Echoes
no_echoes = record { unseen = []; last = None; silent_until = 0 }

-- how many frames can be put that the bus hasn't shown: for each of 256 destinations a window of 255 packets and the frame in front of it,
-- since what follows waits for an answer to the last of them; and a full queue
abbrev pub most_unseen : ℕ
most_unseen = 65600

-- a frame was put; the oldest is forgotten if there are more than can be
abbrev pub remembered : List CanFrame → CanFrame → List CanFrame
remembered frames frame = (if length frames == most_unseen then drop 1 frames else frames) ++ frame ∷ []

abbrev pub with_put : Echoes → CanFrame → Echoes
with_put e frame = record e { unseen = remembered e.unseen frame }

abbrev pub same_frame : CanFrame → CanFrame → Bool
same_frame a b = a.id == b.id && bytes_eq a.bytes b.bytes

-- a frame is the one that was put, if one was
abbrev pub is_of : Option CanFrame → CanFrame → Bool
is_of None frame = false
is_of (Some put) frame = same_frame put frame

-- the bus showed one of the frames that were put. It shows them in their order, so none is waited for any more that was put before
abbrev pub shown : Echoes → (place : ℕ) → CanFrame → Echoes
shown e place frame = record e { unseen = drop 1 (drop place e.unseen); last = Some frame }

-- another node has this node's address: that is reported once in a thousand ticks at most
abbrev pub silenced : Echoes → (now : ℕ) → Echoes
silenced e now = record e { silent_until = plus now 1000 }

abbrev pub is_silent : Echoes → (now : ℕ) → Bool
is_silent e now = nat_lt now e.silent_until

-- a frame is one that was put later than the one which the bus was to show next, or another node's. What is left, and whether a conflict is
-- reported
abbrev pub sought : Echoes → (now : ℕ) → CanFrame → Echoes × Bool
sought e now frame = elim (position (λ put. same_frame put frame) e.unseen) [ None ↦ (silenced e now, true) | Some place ↦ (shown e place frame, false) ]

-- a frame with the node's own address is the one that the bus was to show next. If not, it may be a repetition of the last one, and no
-- conflict is reported so soon after another
abbrev pub seen : Echoes → (now : ℕ) → CanFrame → Echoes × Bool
seen e now frame =
    if is_of (slice_get e.unseen 0) frame then (shown e 0 frame, false)
    else if is_of e.last frame || is_silent e now then (e, false)
    else sought e now frame
