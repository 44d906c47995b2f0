-- A segment of which nothing was cut.
use Rattle.std.proofs.Common.{◌≡◌, ℕ, zero, suc, ◌<◌, Bool, true, false, cond, List, ◌∷◌, ◌++◌, length, drop, get_or, refl, subst, arith, []}
use Rattle.port_table.specs.declared.port.PortId.{PortId}
use Rattle.segment_law.specs.Told.{same_port}
use Rattle.segment_rings.specs.declared.words.Delivery.{Delivery}
use Rattle.segment_rings.specs.Ends.{ClientEnd, InboxEnd}
use Rattle.std.specs.Prelude.{slice_get}
use Rattle.live_record.specs.declared.calls.Piece.{Piece}
use Rattle.live_segment.specs.declared.report.ClientReport.{ClientReport}
use Rattle.live_record.specs.Record.{accepted, given, notes_of, trail}
use Rattle.live_record.specs.Past.{joined, since}
use Rattle.live_segment.specs.LiveView.{LiveView, ClientView, PortView, Laws}
use Rattle.live_segment.specs.Reports.{client_gone, gone_of, notes_gone, given_gone, IsRest, IsClientReport}

-- what a client submitted is all that was accepted of it, and then what is left
pub left_uncut : (v : LiveView) (c : ClientEnd) (r : ClientReport) → v.pieces ≡ [] → IsClientReport v c r → c.submitted ≡ accepted c.id v.calls ++ r.left.items
left_uncut v c r none h = subst (λ (ps : List Piece). drop (length (accepted c.id (joined ps))) c.submitted ≡ accepted c.id (since ps v.calls) ++ r.left.items) none h.left

-- everything is kept
gone_at : (b : Bool) (n m : ℕ) → n ≡ 0 → m ≡ 0 → cond b n m ≡ 0
gone_at true n m e f = e
gone_at false n m e f = f

none_gone : (ps : List PortView) (q : PortId) → ((k : ℕ) (p : PortView) → k < length ps → (get_or ps k p).given_gone ≡ 0) → gone_of ps q ≡ 0
none_gone [] q h = refl
none_gone (p ∷ ps) q h = gone_at (same_port q p.port) p.given_gone (gone_of ps q) (h 0 p (omega arith)) (none_gone ps q (λ k x l. h (suc k) x (omega arith)))

pub given_uncut : (v : LiveView) (q : PortId) → Laws v → v.pieces ≡ [] → given_gone v q ≡ 0
given_uncut v q laws none = none_gone v.ports q (laws.uncut none).1

no_note_gone : (cs : List ClientView) (c : ℕ) → ((k : ℕ) (x : ClientView) → k < length cs → (get_or cs k x).notes_gone ≡ 0) → client_gone (slice_get cs c) ≡ 0
no_note_gone [] c h = refl
no_note_gone (x ∷ cs) zero h = h 0 x (omega arith)
no_note_gone (x ∷ cs) (suc c) h = no_note_gone cs c (λ k y l. h (suc k) y (omega arith))

pub notes_uncut : (v : LiveView) (c : ℕ) → Laws v → v.pieces ≡ [] → notes_gone v c ≡ 0
notes_uncut v c laws none = no_note_gone v.clients c (laws.uncut none).0

-- what an inbox received and then the rest is all that was given
pub rest_uncut : (v : LiveView) (i : InboxEnd) (rest : List Delivery) → Laws v → v.pieces ≡ [] → IsRest v i rest → i.received ++ rest ≡ given i.port (trail v.addresses v.calls).events
rest_uncut v i rest laws none h = subst (λ (n : ℕ). drop n i.received ++ rest ≡ drop n (given i.port (trail v.addresses v.calls).events)) (given_uncut v i.port laws none) h.1

-- the notes that a client read and then the unread ones are all
pub unread_uncut : (v : LiveView) (c : ClientEnd) (r : ClientReport) → Laws v → v.pieces ≡ [] → IsClientReport v c r → c.read ++ r.unread.items ≡ notes_of c.id (trail v.addresses v.calls).noted
unread_uncut v c r laws none h = subst (λ (n : ℕ). drop n c.read ++ r.unread.items ≡ drop n (notes_of c.id (trail v.addresses v.calls).noted)) (notes_uncut v c.id laws none) h.unread
