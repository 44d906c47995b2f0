-- Calls on an inbox.
use Rattle.std.specs.Prelude.{◌≡◌, ℕ, ◌<◌, ◌≤◌, ◌⊎◌, List, [], ◌∷◌, ◌++◌, length, drop, Option, Some, None}
use Rattle.segment_rings.specs.Ends.{InboxEnd, receives, lets_received_go}
use Rattle.segment_rings.specs.declared.words.Delivery.{Delivery}
use Rattle.fulwethi_service.specs.declared.post.Post.{Post}
use Rattle.fulwethi_service.specs.declared.inboxes.Received.{Received}
use Rattle.fulwethi_service.specs.declared.inboxes.Received.TheVariants as received
use Rattle.fulwethi_service.specs.declared.shown.CMessage.{CMessage}
use Rattle.fulwethi_service.specs.Shown.{shown_delivery}

-- the next delivery, and what is left: the delivery that was held, or the first of what a closing handed out, or one from the ring
abbrev pub Brings : (before after : Post) → Delivery → Type 0
Brings before after d = ((before.held ≡ Some d) × (after.inbox ≡ before.inbox) × (after.rest ≡ before.rest))
    ⊎ (((before.held ≡ None) × (before.rest.items ≡ d ∷ after.rest.items) × (after.inbox ≡ before.inbox))
    ⊎ ((before.held ≡ None) × (before.rest.items ≡ []) × (after.rest ≡ before.rest)
    × ((i : InboxEnd) × (gone spare : ℕ) × (before.inbox ≡ Some i) × (i.gone ≤ gone) × (after.inbox ≡ Some (receives i d gone spare)))))

-- the inbox, if there is one, is unchanged, and keeps no more of its deliveries than before
abbrev pub KeepsNoMore : (before after : Option InboxEnd) → Type 0
KeepsNoMore None after = after ≡ None
KeepsNoMore (Some i) after = (gone spare : ℕ) × (i.gone ≤ gone) × (after ≡ Some (lets_received_go i gone spare))

-- a message was copied to the front of the room, and is gone; one that is too long is shown, and held; else nothing was there, or there
-- was no memory to take it out of the ring. Of what was received before, an inbox keeps no more than it did
abbrev pub IsReceived : (room room' : List ℕ) → (message message' : CMessage) → (before after : Post) → Received → Type 0
IsReceived room room' message message' before after received.Taken =
    (d : Delivery) × Brings before after d × (after.held ≡ None) × (message' ≡ shown_delivery d)
    × (length d.bytes ≤ length room) × (room' ≡ d.bytes ++ drop (length d.bytes) room)
IsReceived room room' message message' before after received.TooLittleRoom =
    (d : Delivery) × Brings before after d × (after.held ≡ Some d) × (message' ≡ shown_delivery d)
    × (length room < length d.bytes) × (room' ≡ room)
IsReceived room room' message message' before after received.Nothing =
    (before.held ≡ None) × (after.held ≡ None) × (before.rest.items ≡ []) × (after.rest ≡ before.rest) × (room' ≡ room) × (message' ≡ message)
    × KeepsNoMore before.inbox after.inbox
IsReceived room room' message message' before after received.Closed =
    (before.held ≡ None) × (after.held ≡ None) × (before.rest.items ≡ []) × (after.rest ≡ before.rest) × (room' ≡ room) × (message' ≡ message)
    × KeepsNoMore before.inbox after.inbox
IsReceived room room' message message' before after received.OutOfMemory =
    (before.held ≡ None) × (after.held ≡ None) × (before.rest.items ≡ []) × (after.rest ≡ before.rest) × (room' ≡ room) × (message' ≡ message)
    × ((i : InboxEnd) × (gone spare : ℕ) × (before.inbox ≡ Some i) × (i.gone ≤ gone) × (after.inbox ≡ Some (lets_received_go i gone spare)))
