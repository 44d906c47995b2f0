use Rattle.std.proofs.Common.{◌≡◌, ℕ, zero, suc, ◌+◌, ◌<◌, ◌≤◌, true, false, Option, List, ◌∷◌, ◌++◌, length, drop, map, get_or, refl, sym, ◌∙◌, ap, subst, arith, []}
use Rattle.std.proofs.lemmas.List.{get_or-map, length-map}
use Rattle.std.specs.Option.{option_map}
use Rattle.std.proofs.lemmas.Option.{slice_get-map, slice_get-get_or}
use Rattle.segment_law.specs.Told.{same_port}
use Rattle.message_events.specs.declared.event.Event.{Event}
use Rattle.segment_law.specs.Segment.{Segment}
use Rattle.segment_law.specs.Record.{StandsAt}
use Rattle.pgn_ids.specs.declared.address.Address.{Address}
use Rattle.port_table.specs.declared.port.PortId.{PortId}
use Rattle.live_segment.specs.declared.report.ClientReport.{ClientReport}
use Rattle.live_segment.specs.declared.report.InboxReport.{InboxReport}
use Rattle.segment_rings.specs.Ends.{ClientEnd, InboxEnd}
use Rattle.live_segment.specs.Reports.{client_gone, gone_of, notes_gone, HasPort, IsClientReport, IsInboxReport, AreClientReports, AreInboxReports}
use Rattle.live_ends.proofs.Giving.{none_at, same_port-refl, same_port-sym}
use Rattle.stored_calls.specs.declared.stored.Stored.{Stored}
use Rattle.segment_rings.specs.declared.words.Note.{Note}
use Rattle.live_record.specs.declared.owed.Owed.{Owed}
use Rattle.segment_rings.specs.Views.{SeatView, DoorView, new_door}
use Rattle.live_record.specs.Record.{accepted, given, notes_of, trail}
use Rattle.live_ends.specs.Ends.{IdsFrom, NoneAt, PortsApart}
use Rattle.live_segment.specs.Facts.{PopsAccepted, HasNotes, PushesNotes, PushesGiven, Holds, HaveSenders, seat_station}
use Rattle.live_record.specs.Past.{HasPast}
use Rattle.live_segment.specs.LiveView.{LiveView, ClientView, PortView, live_view, client_of, port_of, stations_of, KeepsUncut, Laws, Kept}

popped : (n c : ℕ) (xs : List Stored) (ss : List SeatView) (v : ClientView) → c < length ss → IdsFrom n ss → PopsAccepted xs ss → (get_or (map client_of ss) c v).popped ≡ accepted (n + c) xs
popped n c xs [] v l i h = absurd (omega arith)
popped n zero xs (s ∷ ss) v l i h = let e : s.id ≡ n + 0 = omega (arith, i.0) in h.0 ∙ ap (λ k. accepted k xs) e
popped n (suc c) xs (s ∷ ss) v l i h = let e : n + 1 + c ≡ n + suc c = omega arith in popped (n + 1) c xs ss v (omega arith) i.1 h.1 ∙ ap (λ k. accepted k xs) e

noted : (n c : ℕ) (ns : List (ℕ × Note)) (ss : List SeatView) (v : ClientView) → c < length ss → IdsFrom n ss → PushesNotes ns ss → HasNotes (get_or (map client_of ss) c v).active (get_or (map client_of ss) c v).noted (notes_of (n + c) ns)
noted n c ns [] v l i h = absurd (omega arith)
noted n zero ns (s ∷ ss) v l i h = let e : s.id ≡ n + 0 = omega (arith, i.0) in subst (λ k. HasNotes s.active s.noted (notes_of k ns)) e h.1
noted n (suc c) ns (s ∷ ss) v l i h =
    let e : n + 1 + c ≡ n + suc c = omega arith in
    subst (λ k. HasNotes (get_or (map client_of ss) c v).active (get_or (map client_of ss) c v).noted (notes_of k ns)) e (noted (n + 1) c ns ss v (omega arith) i.1 h.2)

pushed : (k : ℕ) (es : List Event) (ds : List DoorView) (p : PortView) → k < length ds → PushesGiven es ds → (get_or (map port_of ds) k p).pushed ≡ given (get_or (map port_of ds) k p).port es
pushed k es [] p l h = absurd (omega arith)
pushed zero es (d ∷ ds) p l h = h.0
pushed (suc k) es (d ∷ ds) p l h = pushed k es ds p (omega arith) h.1

seen_stations : (ss : List SeatView) → stations_of (map client_of ss) ≡ map seat_station ss
seen_stations [] = refl
seen_stations (s ∷ ss) = ap (λ (qs : List Address). s.station ∷ qs) (seen_stations ss)

pub laws : (keeps : Kept) (addresses : List Address) (st : Segment) (xs : List Stored) (ws : List Owed) (ss : List SeatView) (ds : List DoorView) → Holds addresses st xs ws ss ds → HasPast keeps.pieces xs → KeepsUncut keeps.pieces (map client_of ss) (map port_of ds) → Laws (live_view keeps addresses xs ss ds)
laws keeps addresses st xs ws ss ds h past uncut =
    let t = trail addresses xs in
    record {
      past = past;
      stands = subst (λ (s : Segment). StandsAt addresses t.steps s) h.at h.stands;
      popped = λ c v l. let l' : c < length ss = rw length-map at l in let z : 0 + c ≡ c = omega arith in popped 0 c xs ss v l' h.ids h.pops ∙ ap (λ k. accepted k xs) z;
      noted = λ c v l. let l' : c < length ss = rw length-map at l in let z : 0 + c ≡ c = omega arith in subst (λ k. HasNotes (get_or (map client_of ss) c v).active (get_or (map client_of ss) c v).noted (notes_of k t.noted)) z (noted 0 c t.noted ss v l' h.ids h.notes);
      pushed = λ k p l. let l' : k < length ds = rw length-map at l in pushed k t.events ds p l' h.gives;
      senders = subst (λ (qs : List Address). HaveSenders qs xs) (sym (seen_stations ss)) h.senders;
      uncut = uncut;
    }

pub kept_at : (n c : ℕ) (ns : List (ℕ × Note)) (ss : List SeatView) (d : SeatView) → c < length ss → IdsFrom n ss → PushesNotes ns ss → (get_or ss c d).kept ≡ drop (get_or ss c d).gone (notes_of (n + c) ns)
kept_at n c ns [] d l i h = absurd (omega arith)
kept_at n zero ns (s ∷ ss) d l i h = let e : s.id ≡ n + 0 = omega (arith, i.0) in h.0.1 ∙ ap (λ k. drop s.gone (notes_of k ns)) e
kept_at n (suc c) ns (s ∷ ss) d l i h = let e : n + 1 + c ≡ n + suc c = omega arith in kept_at (n + 1) c ns ss d (omega arith) i.1 h.2 ∙ ap (λ k. drop (get_or ss c d).gone (notes_of k ns)) e

-- no more of its notes aren't kept than there are
pub gone_at : (n c : ℕ) (ns : List (ℕ × Note)) (ss : List SeatView) (d : SeatView) → c < length ss → IdsFrom n ss → PushesNotes ns ss → (get_or ss c d).gone ≤ length (notes_of (n + c) ns)
gone_at n c ns [] d l i h = absurd (omega arith)
gone_at n zero ns (s ∷ ss) d l i h = let e : s.id ≡ n + 0 = omega (arith, i.0) in subst (λ k. s.gone ≤ length (notes_of k ns)) e h.0.0
gone_at n (suc c) ns (s ∷ ss) d l i h = let e : n + 1 + c ≡ n + suc c = omega arith in subst (λ k. (get_or ss c d).gone ≤ length (notes_of k ns)) e (gone_at (n + 1) c ns ss d (omega arith) i.1 h.2)

-- how many of its notes aren't kept is what the segment shows
pub notes_gone_at : (keeps : Kept) (addresses : List Address) (xs : List Stored) (ss : List SeatView) (ds : List DoorView) (c : ℕ) (d : SeatView) → c < length ss → notes_gone (live_view keeps addresses xs ss ds) c ≡ (get_or ss c d).gone
notes_gone_at keeps addresses xs ss ds c d l = ap client_gone (slice_get-map client_of ss c ∙ ap (λ (o : Option SeatView). option_map client_of o) (slice_get-get_or ss c d l))

-- and the same of a port
pub given_gone_at : (k : ℕ) (q : PortId) (ds : List DoorView) (d : DoorView) → k < length ds → (get_or ds k d).port ≡ q → PortsApart ds → gone_of (map port_of ds) q ≡ (get_or ds k d).gone
given_gone_at k q [] d l at a = absurd (omega arith)
given_gone_at zero q (x ∷ ds) d l at a = let e : same_port q x.port ≡ true = ap (same_port q) at ∙ same_port-refl q in rw e refl
given_gone_at (suc k) q (x ∷ ds) d l at a =
    let e : same_port q x.port ≡ false = same_port-sym x.port q (none_at x.port q k ds d (omega arith) at a.0) in
    rw e (given_gone_at k q ds d (omega arith) at a.1)

pub pushed_at : (k : ℕ) (es : List Event) (ds : List DoorView) (d : DoorView) → k < length ds → PushesGiven es ds → (get_or ds k d).pushed ≡ given (get_or ds k d).port es
pushed_at k es [] d l h = absurd (omega arith)
pushed_at zero es (x ∷ ds) d l h = h.0
pushed_at (suc k) es (x ∷ ds) d l h = pushed_at k es ds d (omega arith) h.1

pub port_seen : (ds : List DoorView) (k : ℕ) (q : PortId) → k < length ds → ((d : DoorView) → (get_or ds k d).port ≡ q) → (p : PortView) → (get_or (map port_of ds) k p).port ≡ q
port_seen ds k q l h p = let d = new_door p.port 0 0 0 in ap (λ (x : PortView). x.port) (get_or-map port_of ds k d p l) ∙ h d

pub has_port : (ds : List DoorView) (k : ℕ) (q : PortId) → k < length ds → ((d : DoorView) → (get_or ds k d).port ≡ q) → HasPort (map port_of ds) q
has_port ds k q l h = (k, rw length-map l, port_seen ds k q l h)

pub no_port : (ds : List DoorView) (q : PortId) → NoneAt q ds → HasPort (map port_of ds) q → ⊥
no_port ds q n h =
    let l : h.0 < length ds = rw length-map at h.1 in
    let d = new_door q 0 0 0 in
    let e : (get_or ds h.0 d).port ≡ q = sym (ap (λ (x : PortView). x.port) (get_or-map port_of ds h.0 d (port_of d) l)) ∙ h.2 (port_of d) in
    let f = none_at q q h.0 ds d l e n in
    let t = same_port-refl q in
    absurd cc

pub client_reports-push : (v : LiveView) (cs : List ClientEnd) (rs : List ClientReport) (c : ClientEnd) (r : ClientReport) → AreClientReports v cs rs → IsClientReport v c r → AreClientReports v (cs ++ c ∷ []) (rs ++ r ∷ [])
client_reports-push v [] [] c r h i = (i, tt)
client_reports-push v [] (s ∷ rs) c r h i = absurd h
client_reports-push v (d ∷ cs) [] c r h i = absurd h
client_reports-push v (d ∷ cs) (s ∷ rs) c r h i = (h.0, client_reports-push v cs rs c r h.1 i)

pub inbox_reports-push : (v : LiveView) (cs : List InboxEnd) (rs : List InboxReport) (c : InboxEnd) (r : InboxReport) → AreInboxReports v cs rs → IsInboxReport v c r → AreInboxReports v (cs ++ c ∷ []) (rs ++ r ∷ [])
inbox_reports-push v [] [] c r h i = (i, tt)
inbox_reports-push v [] (s ∷ rs) c r h i = absurd h
inbox_reports-push v (d ∷ cs) [] c r h i = absurd h
inbox_reports-push v (d ∷ cs) (s ∷ rs) c r h i = (h.0, inbox_reports-push v cs rs c r h.1 i)
