-- A cut leaves what holds, and changes no more than what is kept and what is known of the rings' free places.
use Rattle.std.proofs.Common.{◌≡◌, ℕ, ◌+◌, ◌-◌, ◌<◌, ◌≤◌, Bool, true, false, List, ◌∷◌, ◌++◌, length, drop, map, get_or, refl, sym, ◌∙◌, ap, subst, arith, []}
use Rattle.std.proofs.lemmas.List.{get_or-map, length-map, drop-drop, drop_at}
use Rattle.std.specs.Prelude.{slice_index}
use Rattle.pgn_ids.specs.declared.address.Address.{Address}
use Rattle.port_table.specs.declared.port.PortId.{PortId}
use Rattle.message_events.specs.declared.event.Event.{Event}
use Rattle.segment_law.specs.Segment.{Segment}
use Rattle.segment_law.specs.Told.{same_port}
use Rattle.live_record.specs.Replies.{IsKnown}
use Rattle.segment_rings.specs.declared.words.Note.{Note}
use Rattle.segment_rings.specs.Tails.{known_out}
use Rattle.segment_rings.specs.Ends.{ring_places}
use Rattle.segment_rings.specs.Views.{SeatView, DoorView, CutSeat, CutDoor, new_seat, new_door}
use Rattle.stored_calls.specs.declared.stored.Stored.{Stored}
use Rattle.live_record.specs.declared.owed.Owed.{Owed}
use Rattle.live_record.specs.declared.calls.Piece.{Piece}
use Rattle.live_record.specs.Record.{accepted, given, notes_of, owed_by, trail}
use Rattle.live_record.specs.Past.{joined}
use Rattle.live_ends.specs.Ends.{IdsFrom, HaveRoom, NoneAt, PortsApart, OwedWithin, CutSeats, CutDoors}
use Rattle.live_segment.specs.Facts.{PopsAccepted, HasNotes, IsEndOf, PushesNotes, PushesGiven, DoorsKnown, HaveSenders, NotedWithin, Holds, seat_station}
use Rattle.live_segment.specs.LiveView.{LiveView, ClientView, PortView, live_view, keep, client_of, port_of, seat_seen, seat_free, door_free}
use Rattle.live_segment.specs.Rejoining.{CutClient, CutPort, CutClients, CutPorts, CutAs}
use Rattle.live_record.proofs.Prefixes.{prefix_length}
use Rattle.live_ends.proofs.Cuts.{AllCut, all_cut, AllDoorsCut, all_doors_cut}

-- the seats

ids-cut : (n : ℕ) (ss ts : List SeatView) → AllCut ss ts → IdsFrom n ss → IdsFrom n ts
ids-cut n [] [] c h = tt
ids-cut n [] (t ∷ ts) c h = absurd c
ids-cut n (s ∷ ss) [] c h = absurd c
ids-cut n (s ∷ ss) (t ∷ ts) c h = (c.0.id ∙ h.0, ids-cut (n + 1) ss ts c.1 h.1)

room-cut : (ws : List Owed) (ss ts : List SeatView) → AllCut ss ts → HaveRoom ws ss → HaveRoom ws ts
room-cut ws [] [] c h = tt
room-cut ws [] (t ∷ ts) c h = absurd c
room-cut ws (s ∷ ss) [] c h = absurd c
room-cut ws (s ∷ ss) (t ∷ ts) c h =
    let i : owed_by t.id ws ≡ owed_by s.id ws = ap (λ n. owed_by n ws) c.0.id in
    (omega (arith, i, h.0, c.0.free), omega (arith, i, h.1, c.0.spare), room-cut ws ss ts c.1 h.2)

stations-cut : (ss ts : List SeatView) → AllCut ss ts → map seat_station ts ≡ map seat_station ss
stations-cut [] [] c = refl
stations-cut [] (t ∷ ts) c = absurd c
stations-cut (s ∷ ss) [] c = absurd c
stations-cut (s ∷ ss) (t ∷ ts) c = λ i. c.0.station i ∷ stations-cut ss ts c.1 i

seen-cut : (ss ts : List SeatView) → AllCut ss ts → map seat_seen ts ≡ map seat_seen ss
seen-cut [] [] c = refl
seen-cut [] (t ∷ ts) c = absurd c
seen-cut (s ∷ ss) [] c = absurd c
seen-cut (s ∷ ss) (t ∷ ts) c = λ i. c.0.ahead i ∷ seen-cut ss ts c.1 i

pops-cut : (xs : List Stored) (ss ts : List SeatView) → AllCut ss ts → PopsAccepted xs ss → PopsAccepted xs ts
pops-cut xs [] [] c h = tt
pops-cut xs [] (t ∷ ts) c h = absurd c
pops-cut xs (s ∷ ss) [] c h = absurd c
pops-cut xs (s ∷ ss) (t ∷ ts) c h = (c.0.popped ∙ h.0 ∙ sym (ap (λ n. accepted n xs) c.0.id), pops-cut xs ss ts c.1 h.1)

-- no more notes went into a ring than there are
noted_within : (b : Bool) (xs ys : List Note) → HasNotes b xs ys → length xs ≤ length ys
noted_within true xs ys h = let e = ap (λ (l : List Note). length l) h in omega arith
noted_within false xs ys h = prefix_length xs ys h

-- the end of an end
end-cut : (g h : ℕ) (ks ls xs : List Note) → g ≤ h → h ≤ length xs → ls ≡ drop (h - g) ks → IsEndOf g ks xs → IsEndOf h ls xs
end-cut g h ks ls xs more within is e =
    let n : g + (h - g) ≡ h = omega arith in
    (within, is ∙ ap (λ (l : List Note). drop (h - g) l) e.1 ∙ drop-drop (h - g) g xs ∙ ap (λ (m : ℕ). drop m xs) n)

notes-cut : (ns : List (ℕ × Note)) (ss ts : List SeatView) → AllCut ss ts → PushesNotes ns ss → PushesNotes ns ts
notes-cut ns [] [] c h = tt
notes-cut ns [] (t ∷ ts) c h = absurd c
notes-cut ns (s ∷ ss) [] c h = absurd c
notes-cut ns (s ∷ ss) (t ∷ ts) c h =
    let i : notes_of s.id ns ≡ notes_of t.id ns = sym (ap (λ n. notes_of n ns) c.0.id) in
    let own : HasNotes s.active s.noted (notes_of t.id ns) = subst (HasNotes s.active s.noted) i h.1 in
    let same = ap (λ (l : List Note). length l) c.0.noted in
    let few : t.gone ≤ length (notes_of t.id ns) = omega (arith, c.0.more.1, same, noted_within s.active s.noted (notes_of t.id ns) own) in
    (end-cut s.gone t.gone s.kept t.kept (notes_of t.id ns) c.0.more.0 few c.0.kept (subst (IsEndOf s.gone s.kept) i h.0), rw (c.0.active, c.0.noted) own, notes-cut ns ss ts c.1 h.2)

-- the doors

gives-cut : (xs : List Event) (ds es : List DoorView) → AllDoorsCut ds es → PushesGiven xs ds → PushesGiven xs es
gives-cut xs [] [] c h = tt
gives-cut xs [] (e ∷ es) c h = absurd c
gives-cut xs (d ∷ ds) [] c h = tt
gives-cut xs (d ∷ ds) (e ∷ es) c h = (c.0.pushed ∙ h.0 ∙ sym (ap (λ (p : PortId). given p xs) c.0.port), gives-cut xs ds es c.1 h.1)

none-cut : (p : PortId) (ds es : List DoorView) → AllDoorsCut ds es → NoneAt p ds → NoneAt p es
none-cut p [] [] c h = tt
none-cut p [] (e ∷ es) c h = absurd c
none-cut p (d ∷ ds) [] c h = tt
none-cut p (d ∷ ds) (e ∷ es) c h = (ap (same_port p) c.0.port ∙ h.0, none-cut p ds es c.1 h.1)

apart-cut : (ds es : List DoorView) → AllDoorsCut ds es → PortsApart ds → PortsApart es
apart-cut [] [] c h = tt
apart-cut [] (e ∷ es) c h = absurd c
apart-cut (d ∷ ds) [] c h = tt
apart-cut (d ∷ ds) (e ∷ es) c h = (subst (λ (p : PortId). NoneAt p es) (sym c.0.port) (none-cut d.port ds es c.1 h.0), apart-cut ds es c.1 h.1)

known-cut : (seg : Segment) (ds es : List DoorView) → AllDoorsCut ds es → DoorsKnown seg ds → DoorsKnown seg es
known-cut seg [] [] c h = tt
known-cut seg [] (e ∷ es) c h = absurd c
known-cut seg (d ∷ ds) [] c h = tt
known-cut seg (d ∷ ds) (e ∷ es) c h = (subst (λ (p : PortId). IsKnown p seg) (sym c.0.port) h.0, known-cut seg ds es c.1 h.1)

pub holds-cut : (addresses : List Address) (st : Segment) (xs : List Stored) (ws : List Owed) (ss ts : List SeatView) (ds es : List DoorView) → CutSeats ss ts → CutDoors ds es → Holds addresses st xs ws ss ds → Holds addresses st xs ws ts es
holds-cut addresses st xs ws ss ts ds es cs cd h =
    let s = all_cut ss ts cs in
    let d = all_doors_cut ds es cd in
    record {
      stands = h.stands;
      at = h.at;
      few = h.few;
      owes = h.owes;
      ids = ids-cut 0 ss ts s h.ids;
      room = room-cut ws ss ts s h.room;
      within = subst (λ (n : ℕ). OwedWithin n ws) (sym cs.0) h.within;
      pops = pops-cut xs ss ts s h.pops;
      notes = notes-cut (trail addresses xs).noted ss ts s h.notes;
      gives = gives-cut (trail addresses xs).events ds es d h.gives;
      apart = apart-cut ds es d h.apart;
      known = known-cut st ds es d h.known;
      past = h.past;
      senders = subst (λ (qs : List Address). HaveSenders qs xs) (sym (stations-cut ss ts s)) h.senders;
      noted = subst (λ (n : ℕ). NotedWithin n (trail addresses xs).noted) (sym cs.0) h.noted;
    }

-- what is seen of it

client_cut : (s t : SeatView) (a b : ClientView) (free : ℕ) → a ≡ client_of s → b ≡ client_of t → free ≡ t.free → CutSeat s t → CutClient a b free
client_cut s t a b free is at f c =
    let n = ap (λ (l : List Note). length l) c.noted in
    let same : client_of t ≡ record (client_of s) { notes_gone = t.gone } = let x = c.station in let y = c.active in let z = c.popped in let w = c.noted in let v = c.named in cc in
    let own : CutClient (client_of s) (client_of t) t.free = record {
      same = same;
      more = c.more.0;
      gone = λ e. c.gone e ∙ ap (λ (m : ℕ). known_out ring_places t.free m) n;
      left = c.left;
      unread = omega (arith, c.unread, n);
    } in
    rw (is, at, f) own

port_cut : (d e : DoorView) (a b : PortView) (free : ℕ) → a ≡ port_of d → b ≡ port_of e → free ≡ e.free → CutDoor d e → CutPort a b free
port_cut d e a b free is at f c =
    let n = ap (λ l. length l) c.pushed in
    let same : port_of e ≡ record (port_of d) { given_gone = e.gone } = let x = c.port in let y = c.active in let z = c.pushed in let p = c.places in let v = c.named in cc in
    let own : CutPort (port_of d) (port_of e) e.free = record {
      same = same;
      more = c.more.0;
      gone = c.gone ∙ ap (λ (q : ℕ). known_out q e.free (length e.pushed)) c.places ∙ ap (λ (m : ℕ). known_out d.places e.free m) n;
      unread = omega (arith, c.unread, c.places, n);
    } in
    rw (is, at, f) own

clients_cut : (ss ts : List SeatView) → CutSeats ss ts → CutClients (map client_of ss) (map client_of ts) (map seat_free ts)
clients_cut ss ts h =
    let d = new_seat 0 (record { 0 = 0 }) 0 0 in (
      length-map ts client_of ∙ h.0 ∙ sym (length-map ss client_of),
      λ c x l.
          let k : c < length ss = rw length-map at l in
          let k' : c < length ts = omega (arith, h.0) in
          client_cut (get_or ss c d) (get_or ts c d) (get_or (map client_of ss) c x) (get_or (map client_of ts) c x) (slice_index (map seat_free ts) c) (get_or-map client_of ss c d x k) (get_or-map client_of ts c d x k') (get_or-map seat_free ts c d 0 k') (h.1 c d k),
    )

ports_cut : (ds es : List DoorView) → CutDoors ds es → CutPorts (map port_of ds) (map port_of es) (map door_free es)
ports_cut ds es h =
    let d = new_door (record { station = record { 0 = 0 }; number = 0 }) 0 0 0 in (
      length-map es port_of ∙ h.0 ∙ sym (length-map ds port_of),
      λ k x l.
          let n : k < length ds = rw length-map at l in
          let n' : k < length es = omega (arith, h.0) in
          port_cut (get_or ds k d) (get_or es k d) (get_or (map port_of ds) k x) (get_or (map port_of es) k x) (slice_index (map door_free es) k) (get_or-map port_of ds k d x n) (get_or-map port_of es k d x n') (get_or-map door_free es k d 0 n') (h.1 k d n),
    )

pub cut_as : (a : LiveView) (stopped : Bool) (addresses : List Address) (ps qs : List Piece) (xs ys : List Stored) (ss ts : List SeatView) (ds es : List DoorView) (p : Piece)
    → live_view (keep stopped ps) addresses xs ss ds ≡ a → p.number ≡ length ps + 1 → joined ps ++ p.calls.items ≡ xs → qs ≡ ps ++ p ∷ [] → ys ≡ xs → CutSeats ss ts → CutDoors ds es
    → CutAs a (live_view (keep stopped qs) addresses ys ts es) p
cut_as a stopped addresses ps qs xs ys ss ts ds es p is number calls pieces made s d =
    subst (λ (u : LiveView). CutAs u (live_view (keep stopped qs) addresses ys ts es) p) is (
    record {
      number = number;
      calls = sym (drop_at (joined ps) p.calls.items (length (joined ps)) refl) ∙ ap (λ (u : List Stored). drop (length (joined ps)) u) calls;
      addresses = refl;
      stopped = refl;
      pieces = pieces;
      made = made;
      seen = seen-cut ss ts (all_cut ss ts s);
      clients = clients_cut ss ts s;
      ports = ports_cut ds es d;
    })
