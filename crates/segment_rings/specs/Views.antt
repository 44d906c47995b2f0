-- What a segment keeps of one client and of one port, as contracts see it.
use Rattle.std.specs.Prelude.{◌≡◌, ℕ, ◌-◌, ◌≤◌, ◌<◌, Bool, true, false, nat_lt, List, [], ◌∷◌, ◌++◌, length, drop, ◌+◌, ◌⊎◌}
use Rattle.pgn_ids.specs.declared.address.Address.{Address}
use Rattle.port_table.specs.declared.port.PortId.{PortId}
use Rattle.segment_rings.specs.declared.words.Submission.{Submission}
use Rattle.segment_rings.specs.declared.words.Note.{Note}
use Rattle.segment_rings.specs.declared.words.Delivery.{Delivery}
use Rattle.segment_rings.specs.declared.seat.Offer.{Offer}
use Rattle.segment_rings.specs.declared.seat.Offer.TheVariants as offer
use Rattle.segment_rings.specs.Tails.{GoesOn, known_out}
use Rattle.segment_rings.specs.Ends.{ring_places}

-- popped and noted: what went out of and into the client's rings; ahead and free: what is known of them; gone: how many of its first
-- notes are no longer kept; kept: all others; spare: room for more of them; named: how many notes were in its ring when its client was
-- last named among those that have news
pub record SeatView : Type 0 where
  pub id : ℕ
  pub station : Address
  pub active : Bool
  pub popped : List Submission
  pub ahead : List Submission
  pub gone : ℕ
  pub kept : List Note
  pub noted : List Note
  pub named : ℕ
  pub free : ℕ
  pub spare : ℕ

-- places: how many the port's ring has; pushed: what went into it; named: how much of that had gone there when the port was last named
-- among those that have news; free: how many places are known to be free; gone: how many of the first deliveries are kept no more;
-- spare: room for deliveries that are kept
pub record DoorView : Type 0 where
  pub port : PortId
  pub active : Bool
  pub places : ℕ
  pub pushed : List Delivery
  pub named : ℕ
  pub free : ℕ
  pub gone : ℕ
  pub spare : ℕ

abbrev pub new_seat : ℕ → Address → ℕ → ℕ → SeatView
new_seat id station free spare = record { id = id; station = station; active = true; popped = []; ahead = []; gone = 0; kept = []; noted = []; named = 0; free = free; spare = spare }

abbrev pub looked : SeatView → List Submission → SeatView
looked s ahead = record s { ahead = ahead }

abbrev pub looked_for_room : SeatView → ℕ → SeatView
looked_for_room s free = record s { free = free }

abbrev pub with_spare : SeatView → ℕ → SeatView
with_spare s spare = record s { spare = spare }

abbrev pub popped_one : SeatView → Submission → List Submission → SeatView
popped_one s x ahead = record s { popped = s.popped ++ x ∷ []; ahead = ahead }

-- the content of a client's ring after these notes, and how many places of it are free: no note goes into the ring of a client that
-- is gone
abbrev pub noted_after : (active : Bool) → List Note → List Note → List Note
noted_after true xs ns = xs ++ ns
noted_after false xs ns = xs

abbrev pub free_after : (active : Bool) → ℕ → ℕ → ℕ
free_after true free count = free - count
free_after false free count = free

abbrev pub with_note : SeatView → Note → SeatView
with_note s n = record s { kept = s.kept ++ n ∷ []; noted = noted_after s.active s.noted (n ∷ []); free = free_after s.active s.free 1; spare = s.spare - 1 }

abbrev pub closed_seat : SeatView → SeatView
closed_seat s = record s { active = false }

-- its client has news: more notes went into its ring than when it was last named
abbrev pub has_noted_news : SeatView → Bool
has_noted_news s = nat_lt s.named (length s.noted)

-- its client is named
abbrev pub named_seat : SeatView → SeatView
named_seat s = record s { named = length s.noted }

-- the seat is unchanged, but more may be known of it
pub record SameSeat (a b : SeatView) : Type 0 where
  pub id : b.id ≡ a.id
  pub station : b.station ≡ a.station
  pub active : b.active ≡ a.active
  pub popped : b.popped ≡ a.popped
  pub gone : b.gone ≡ a.gone
  pub kept : b.kept ≡ a.kept
  pub noted : b.noted ≡ a.noted
  pub named : b.named ≡ a.named
  pub free : a.free ≤ b.free
  pub spare : a.spare ≤ b.spare

-- the seat is unchanged, but more may be known of it. It no longer keeps the notes that are known to be out of the ring, and keeps
-- those that may be in it. If its client is gone, it keeps all that it kept
pub record CutSeat (a b : SeatView) : Type 0 where
  pub id : b.id ≡ a.id
  pub station : b.station ≡ a.station
  pub active : b.active ≡ a.active
  pub popped : b.popped ≡ a.popped
  pub ahead : b.ahead ≡ a.ahead
  pub noted : b.noted ≡ a.noted
  pub named : b.named ≡ a.named
  pub gone : a.active ≡ true → b.gone ≡ known_out ring_places b.free (length b.noted)
  pub left : a.active ≡ false → b.gone ≡ a.gone
  pub more : GoesOn a.gone b.gone b.noted
  pub kept : b.kept ≡ drop (b.gone - a.gone) a.kept
  pub unread : b.gone + ring_places ≤ length b.noted + b.free
  pub free : a.free ≤ b.free
  pub spare : a.spare ≤ b.spare

-- what is known of a seat that is owed so many notes: no submission is seen, or none is taken any more; or one is seen, and its note
-- has no free place beside those that are owed, or has one
abbrev pub IsOffer : SeatView → ℕ → Offer → Type 0
IsOffer s owed offer.Empty = (s.active ≡ false) ⊎ (length s.ahead ≡ 0)
IsOffer s owed offer.Owed = (s.active ≡ true) × (0 < length s.ahead) × (s.free ≤ owed)
IsOffer s owed offer.Ready = (s.active ≡ true) × (0 < length s.ahead) × (owed < s.free)

abbrev pub new_door : PortId → (places free spare : ℕ) → DoorView
new_door port places free spare = record { port = port; active = true; places = places; pushed = []; named = 0; free = free; gone = 0; spare = spare }

abbrev pub door_looked : DoorView → ℕ → DoorView
door_looked d free = record d { free = free }

abbrev pub door_with_spare : DoorView → ℕ → DoorView
door_with_spare d spare = record d { spare = spare }

abbrev pub with_delivery : DoorView → Delivery → DoorView
with_delivery d x = record d { pushed = d.pushed ++ x ∷ []; free = d.free - 1; spare = d.spare - 1 }

abbrev pub closed_door : DoorView → DoorView
closed_door d = record d { active = false }

-- its port has news: more deliveries went into its ring than when it was last named
abbrev pub has_pushed_news : DoorView → Bool
has_pushed_news d = nat_lt d.named (length d.pushed)

-- its port is named
abbrev pub named_door : DoorView → DoorView
named_door d = record d { named = length d.pushed }

-- the door is unchanged, but more may be known of it
pub record SameDoor (a b : DoorView) : Type 0 where
  pub port : b.port ≡ a.port
  pub active : b.active ≡ a.active
  pub places : b.places ≡ a.places
  pub pushed : b.pushed ≡ a.pushed
  pub named : b.named ≡ a.named
  pub free : a.free ≤ b.free
  pub gone : b.gone ≡ a.gone
  pub spare : a.spare ≤ b.spare

-- the door is unchanged, but more may be known of it. It no longer keeps the deliveries that are known to be out of the ring, and
-- keeps those that may be in it
pub record CutDoor (a b : DoorView) : Type 0 where
  pub port : b.port ≡ a.port
  pub active : b.active ≡ a.active
  pub places : b.places ≡ a.places
  pub pushed : b.pushed ≡ a.pushed
  pub named : b.named ≡ a.named
  pub gone : b.gone ≡ known_out b.places b.free (length b.pushed)
  pub more : GoesOn a.gone b.gone b.pushed
  pub unread : b.gone + b.places ≤ length b.pushed + b.free
  pub free : a.free ≤ b.free
  pub spare : a.spare ≤ b.spare
