-- What holds stays so.
use Rattle.std.proofs.Common.{◌≡◌, ℕ, zero, suc, ◌+◌, ◌<◌, false, List, ◌∷◌, ◌++◌, length, map, set, get_or, None, refl, sym, ◌∙◌, ap, subst, arith, append-nil, length-append, ◌^◌, []}
use Rattle.std.proofs.lemmas.List.{length_push, length-map, length-set, map-append, drop-append-le}
use Rattle.pgn_ids.specs.declared.address.Address.{Address}
use Rattle.port_table.specs.declared.port.PortId.{PortId}
use Rattle.message_events.specs.declared.event.Event.{Event}
use Rattle.segment_law.specs.Segment.{Segment, new_segment}
use Rattle.segment_law.specs.Calls.{events_of}
use Rattle.segment_law.specs.Record.{Record, StandsAt}
use Rattle.segment_law.specs.Told.{same_port}
use Rattle.segment_law.specs.declared.call.Call.{Call}
use Rattle.segment_law.specs.declared.call.Call.TheVariants.{Open, Close, Send, Pump, Transmit, Take, TakeAgain, Overrun, Tick, Fire, Cancel, Inject, Pause, Resume}
use Rattle.segment_law.specs.declared.reply.Reply.{Reply}
use Rattle.segment_law.specs.declared.reply.Reply.TheVariants.{Opened, Done}
use Rattle.live_record.specs.Replies.{reply_of, left_by, Follows, EachKnown, IsKnown}
use Rattle.segment_rings.specs.declared.words.Submission.{Submission}
use Rattle.segment_rings.specs.declared.words.Note.{Note}
use Rattle.segment_rings.specs.Views.{SeatView, DoorView, new_seat, new_door, closed_seat, closed_door, noted_after}
use Rattle.stored_calls.specs.declared.stored.Stored.{Stored}
use Rattle.live_record.specs.declared.owed.Owed.{Owed}
use Rattle.live_record.specs.Record.{accepted, notes_of, owed_by, settle_notes, settle_owed, owe, Trail, trail, step, stored}
use Rattle.live_ends.specs.Ends.{IdsFrom, HaveRoom, note_all, OwedWithin, NoneAt, PortsApart, give_all, SameDoors, SameSeats}
use Rattle.live_segment.specs.Facts.{PopsAccepted, HasNotes, IsEndOf, PushesNotes, PushesGiven, DoorsKnown, Holds, NotedWithin, HaveSenders, seat_station}
use Rattle.live_segment.specs.LiveView.{live_view, SameLive, Kept}
use Rattle.live_ends.proofs.Noting.{notes_of-append, length-note_all, within-more, owed_by-none}
use Rattle.live_segment.proofs.Noted.{stations-note_all, noted-append, settle_notes-within, noted-more, notes_of-none, has_more, has_first}
use Rattle.live_ends.proofs.Giving.{apart-same, apart-give_all}
use Rattle.live_segment.proofs.Doors.{pushes-same, pushes-give_all, known-same, known-give_all, known-more, known-push, each-append, each-more, given_unknown, apart-push, pushes-push}
use Rattle.live_record.proofs.Trails.{trail-nil, trail-snoc, accepted-append, sent_in_false}
use Rattle.live_segment.proofs.Senders.{senders-append, senders-more, nobody_sends, accepted-none}
use Rattle.live_ends.proofs.SeatsSame.{ids-same, room-same, length-same}
use Rattle.live_segment.proofs.SeatsSame.{stations-same, pops-same, notes-same, clients-same, ports-same}

pub holds-new : (addresses : List Address) (st : Segment) → st ≡ new_segment addresses → StandsAt addresses [] st → Holds addresses st [] [] [] []
holds-new addresses st is stands = record {
  stands = subst (λ (t : Trail). StandsAt addresses t.steps st) (sym (trail-nil addresses)) stands;
  at = is ∙ sym (ap (λ (t : Trail). t.state) (trail-nil addresses));
  few = omega arith;
  owes = sym (ap (λ (t : Trail). t.owed) (trail-nil addresses));
  ids = tt;
  room = tt;
  within = tt;
  pops = tt;
  notes = tt;
  gives = tt;
  apart = tt;
  known = tt;
  past = subst (λ (t : Trail). EachKnown st t.events) (sym (trail-nil addresses)) tt;
  senders = tt;
  noted = subst (λ (t : Trail). NotedWithin 0 t.noted) (sym (trail-nil addresses)) tt;
}

-- more is known of the rings
pub holds-same : (addresses : List Address) (st : Segment) (xs : List Stored) (ws : List Owed) (ss ts : List SeatView) (ds es : List DoorView) → SameSeats ss ts → SameDoors ds es → Holds addresses st xs ws ss ds → Holds addresses st xs ws ts es
holds-same addresses st xs ws ss ts ds es s d h = record {
  stands = h.stands;
  at = h.at;
  few = h.few;
  owes = h.owes;
  ids = ids-same 0 ss ts s h.ids;
  room = room-same ws ss ts s h.room;
  within = rw (length-same ss ts s) h.within;
  pops = pops-same xs ss ts s h.pops;
  notes = notes-same (trail addresses xs).noted ss ts s h.notes;
  gives = pushes-same (trail addresses xs).events ds es d h.gives;
  apart = apart-same ds es d h.apart;
  known = known-same st ds es d h.known;
  past = h.past;
  senders = subst (λ (qs : List Address). HaveSenders qs xs) (sym (stations-same ss ts s)) h.senders;
  noted = rw (length-same ss ts s) h.noted;
}

end-more : (g : ℕ) (ks xs ys : List Note) → IsEndOf g ks xs → IsEndOf g (ks ++ ys) (xs ++ ys)
end-more g ks xs ys h = (omega (arith, length-append xs ys, h.0), ap (λ (l : List Note). l ++ ys) h.1 ∙ sym (drop-append-le g xs ys h.0))

pub notes-note_all : (ms ns : List (ℕ × Note)) (ss : List SeatView) → PushesNotes ms ss → PushesNotes (ms ++ ns) (note_all ns ss)
notes-note_all ms ns [] h = tt
notes-note_all ms ns (s ∷ ss) h =
    let e = sym (notes_of-append s.id ms ns) in
    let own = has_more s.active s.noted (notes_of s.id ms) (notes_of s.id ns) h.1 in
    (subst (IsEndOf s.gone (s.kept ++ notes_of s.id ns)) e (end-more s.gone s.kept (notes_of s.id ms) (notes_of s.id ns) h.0), subst (HasNotes s.active (noted_after s.active s.noted (notes_of s.id ns))) e own, notes-note_all ms ns ss h.2)

pops-note_all : (xs ys : List Stored) (ns : List (ℕ × Note)) (ss : List SeatView) → ((c : ℕ) → accepted c ys ≡ accepted c xs) → PopsAccepted xs ss → PopsAccepted ys (note_all ns ss)
pops-note_all xs ys ns [] e h = tt
pops-note_all xs ys ns (s ∷ ss) e h = (h.0 ∙ sym (e s.id), pops-note_all xs ys ns ss e h.1)

-- a call of nobody owes nobody an outcome
owe_none : (made : List Stored) (ws : List Owed) (call : Call) (r : Reply) → owe made ws None call r ≡ ws
owe_none made ws (Open station pgn max_len) r = refl
owe_none made ws (Close p) r = refl
owe_none made ws (Send from to pgn bytes) r = append-nil ws
owe_none made ws (Pump station to) r = refl
owe_none made ws (Transmit station) r = refl
owe_none made ws (Take station room) r = refl
owe_none made ws (TakeAgain station room) r = refl
owe_none made ws (Overrun station n) r = refl
owe_none made ws (Tick n) r = refl
owe_none made ws (Fire station) r = refl
owe_none made ws (Cancel from to number) r = refl
owe_none made ws (Inject frame) r = refl
owe_none made ws (Pause p) r = refl
owe_none made ws (Resume p) r = refl

-- nor is it a client's
accepted_still : (xs : List Stored) (call : Call) (c : ℕ) → accepted c (xs ++ stored None call ∷ []) ≡ accepted c xs
accepted_still xs call c = accepted-append c xs (stored None call ∷ []) ∙ ap (λ (l : List Submission). accepted c xs ++ l) (ap (λ (l : List Submission). l ++ []) (sent_in_false call)) ∙ append-nil (accepted c xs)

-- the record with one call more
pub stands-more : (addresses : List Address) (st next : Segment) (xs : List Stored) (x : Stored) (r : Reply) → st ≡ (trail addresses xs).state → reply_of st x.call ≡ r → StandsAt addresses ((trail addresses xs).steps ++ (x.call, r) ∷ []) next
    → StandsAt addresses (trail addresses (xs ++ x ∷ [])).steps next
stands-more addresses st next xs x r at is h =
    let t = trail addresses xs in
    let e : reply_of t.state x.call ≡ r = ap (λ (s : Segment). reply_of s x.call) (sym at) ∙ is in
    let steps : (trail addresses (xs ++ x ∷ [])).steps ≡ t.steps ++ (x.call, r) ∷ [] = ap (λ (u : Trail). u.steps) (trail-snoc addresses xs x) ∙ ap (λ (q : Reply). t.steps ++ (x.call, q) ∷ []) e in
    subst (λ (u : Record). StandsAt addresses u next) (sym steps) h

pub state-more : (addresses : List Address) (st next : Segment) (xs : List Stored) (x : Stored) → st ≡ (trail addresses xs).state → next ≡ left_by st x.call → next ≡ (trail addresses (xs ++ x ∷ [])).state
state-more addresses st next xs x at is = is ∙ ap (λ (s : Segment). left_by s x.call) at ∙ sym (ap (λ (u : Trail). u.state) (trail-snoc addresses xs x))

-- a call of nobody was made, and told these events
pub holds-tell : (addresses : List Address) (st next : Segment) (xs : List Stored) (ws : List Owed) (ss : List SeatView) (ds : List DoorView) (call : Call) (es : List Event)
    → Holds addresses st xs ws ss ds → length xs + 1 < 2 ^ 64 → reply_of st call ≡ Done es → next ≡ left_by st call
    → StandsAt addresses ((trail addresses xs).steps ++ (call, Done es) ∷ []) next → Follows st call next (Done es)
    → IdsFrom 0 (note_all (settle_notes ws es) ss) → HaveRoom (settle_owed ws es) (note_all (settle_notes ws es) ss) → OwedWithin (length (note_all (settle_notes ws es) ss)) (settle_owed ws es)
    → Holds addresses next (xs ++ stored None call ∷ []) (settle_owed ws es) (note_all (settle_notes ws es) ss) (give_all es ds)
holds-tell addresses st next xs ws ss ds call es h few r left stands f ids rm within =
    let x = stored None call in
    let t = trail addresses xs in
    let snoc : trail addresses (xs ++ x ∷ []) ≡ step t x = trail-snoc addresses xs x in
    let r' : reply_of t.state call ≡ Done es = ap (λ (s : Segment). reply_of s call) (sym h.at) ∙ r in
    let ev : events_of (reply_of t.state call) ≡ es = ap events_of r' in
    let ow : owe t.made t.owed None call (reply_of t.state call) ≡ ws = owe_none t.made t.owed call (reply_of t.state call) ∙ sym h.owes in
    let evs : t.events ++ es ≡ (trail addresses (xs ++ x ∷ [])).events = ap (λ (u : List Event). t.events ++ u) (sym ev) ∙ sym (ap (λ (u : Trail). u.events) snoc) in
    let nts : t.noted ++ settle_notes ws es ≡ (trail addresses (xs ++ x ∷ [])).noted =
    ap (λ (u : List Owed). t.noted ++ settle_notes u es) (sym ow) ∙ ap (λ (u : List Event). t.noted ++ settle_notes (owe t.made t.owed None call (reply_of t.state call)) u) (sym ev) ∙ sym (ap (λ (u : Trail). u.noted) snoc) in
    record {
      stands = stands-more addresses st next xs x (Done es) h.at r stands;
      at = state-more addresses st next xs x h.at left;
      few = omega (arith, length_push xs x);
      owes = ap (λ (u : List Owed). settle_owed u es) (sym ow) ∙ ap (λ (u : List Event). settle_owed (owe t.made t.owed None call (reply_of t.state call)) u) (sym ev) ∙ sym (ap (λ (u : Trail). u.owed) snoc);
      ids = ids;
      room = rm;
      within = within;
      pops = pops-note_all xs (xs ++ x ∷ []) (settle_notes ws es) ss (accepted_still xs call) h.pops;
      notes = subst (λ (u : List (ℕ × Note)). PushesNotes u (note_all (settle_notes ws es) ss)) nts (notes-note_all t.noted (settle_notes ws es) ss h.notes);
      gives = subst (λ (u : List Event). PushesGiven u (give_all es ds)) evs (pushes-give_all t.events es ds h.gives);
      apart = apart-give_all es ds h.apart;
      known = known-give_all next es ds (known-more st next f.stays ds h.known);
      past = subst (λ (u : List Event). EachKnown next u) evs (each-append next t.events es (each-more st next f.stays t.events h.past) f.known);
      senders = subst (λ (qs : List Address). HaveSenders qs (xs ++ x ∷ [])) (sym (stations-note_all (settle_notes ws es) ss)) (senders-append (map seat_station ss) xs x h.senders (nobody_sends call (map seat_station ss) f.kind.1));
      noted =
          rw (length-note_all (settle_notes ws es) ss)
          (subst (λ (u : List (ℕ × Note)). NotedWithin (length ss) u) nts (noted-append (length ss) t.noted (settle_notes ws es) h.noted (settle_notes-within (length ss) ws es h.within)));
    }

pub same_live : (keeps : Kept) (addresses : List Address) (xs : List Stored) (ss ts : List SeatView) (ds es : List DoorView) → SameSeats ss ts → SameDoors ds es → SameLive (live_view keeps addresses xs ss ds) (live_view keeps addresses xs ts es)
same_live keeps addresses xs ss ts ds es s d = record { addresses = refl; calls = refl; clients = clients-same ss ts s; ports = ports-same ds es d; stopped = refl; pieces = refl }

ids-append : (n i : ℕ) (ss : List SeatView) (s : SeatView) → IdsFrom n ss → s.id ≡ n + length ss → IdsFrom n (ss ++ s ∷ [])
ids-append n i [] s h e = (omega arith, tt)
ids-append n i (x ∷ ss) s h e = (h.0, ids-append (n + 1) i ss s h.1 (omega arith))

room-append : (ws : List Owed) (ss : List SeatView) (s : SeatView) → HaveRoom ws ss → owed_by s.id ws ≡ 0 → HaveRoom ws (ss ++ s ∷ [])
room-append ws [] s h e = (omega arith, omega arith, tt)
room-append ws (x ∷ ss) s h e = (h.0, h.1, room-append ws ss s h.2 e)

pops-append : (xs : List Stored) (ss : List SeatView) (s : SeatView) → PopsAccepted xs ss → s.popped ≡ accepted s.id xs → PopsAccepted xs (ss ++ s ∷ [])
pops-append xs [] s h e = (e, tt)
pops-append xs (x ∷ ss) s h e = (h.0, pops-append xs ss s h.1 e)

notes-append : (ns : List (ℕ × Note)) (ss : List SeatView) (s : SeatView) → PushesNotes ns ss → IsEndOf s.gone s.kept (notes_of s.id ns) → HasNotes s.active s.noted (notes_of s.id ns) → PushesNotes ns (ss ++ s ∷ [])
notes-append ns [] s h e f = (e, f, tt)
notes-append ns (x ∷ ss) s h e f = (h.0, h.1, notes-append ns ss s h.2 e f)

-- a new client
pub holds-attach : (addresses : List Address) (st : Segment) (xs : List Stored) (ws : List Owed) (ss : List SeatView) (ds : List DoorView) (station : Address) (free spare : ℕ) → Holds addresses st xs ws ss ds
    → Holds addresses st xs ws (ss ++ new_seat (length ss) station free spare ∷ []) ds
holds-attach addresses st xs ws ss ds station free spare h =
    let n = length ss in
    let s = new_seat n station free spare in
    let more : length (ss ++ s ∷ []) ≡ n + 1 = length_push ss s in
    let none : [] ≡ notes_of n (trail addresses xs).noted = sym (notes_of-none n n (trail addresses xs).noted (omega arith) h.noted) in
    record {
      stands = h.stands;
      at = h.at;
      few = h.few;
      owes = h.owes;
      ids = ids-append 0 0 ss s h.ids (omega arith);
      room = room-append ws ss s h.room (owed_by-none n n ws (omega arith) h.within);
      within = rw more (within-more n ws h.within);
      pops = pops-append xs ss s h.pops (sym (accepted-none (map seat_station ss) n xs (omega (arith, length-map ss seat_station)) h.senders));
      notes = notes-append (trail addresses xs).noted ss s h.notes (omega arith, none) none;
      gives = h.gives;
      apart = h.apart;
      known = h.known;
      past = h.past;
      senders = subst (λ (qs : List Address). HaveSenders qs xs) (sym (map-append seat_station ss (s ∷ []))) (senders-more (map seat_station ss) (station ∷ []) xs h.senders);
      noted = rw more (noted-more n (trail addresses xs).noted h.noted);
    }

pops-still : (xs ys : List Stored) (ss : List SeatView) → ((c : ℕ) → accepted c ys ≡ accepted c xs) → PopsAccepted xs ss → PopsAccepted ys ss
pops-still xs ys [] e h = tt
pops-still xs ys (s ∷ ss) e h = (h.0 ∙ sym (e s.id), pops-still xs ys ss e h.1)

-- a port was opened
pub holds-open : (addresses : List Address) (st next : Segment) (xs : List Stored) (ws : List Owed) (ss : List SeatView) (ds : List DoorView) (station : Address) (pgn max_len places free spare : ℕ) (p : PortId)
    → Holds addresses st xs ws ss ds → length xs + 1 < 2 ^ 64 → reply_of st (Open station pgn max_len) ≡ Opened p → next ≡ left_by st (Open station pgn max_len)
    → StandsAt addresses ((trail addresses xs).steps ++ (Open station pgn max_len, Opened p) ∷ []) next → Follows st (Open station pgn max_len) next (Opened p)
    → Holds addresses next (xs ++ stored None (Open station pgn max_len) ∷ []) ws ss (ds ++ new_door p places free spare ∷ [])
holds-open addresses st next xs ws ss ds station pgn max_len places free spare p h few r left stands f =
    let call = Open station pgn max_len in
    let x = stored None call in
    let t = trail addresses xs in
    let d = new_door p places free spare in
    let snoc : trail addresses (xs ++ x ∷ []) ≡ step t x = trail-snoc addresses xs x in
    let r' : reply_of t.state call ≡ Opened p = ap (λ (s : Segment). reply_of s call) (sym h.at) ∙ r in
    let ev : t.events ++ events_of (reply_of t.state call) ≡ t.events = ap (λ (q : Reply). t.events ++ events_of q) r' ∙ append-nil t.events in
    let ow : settle_owed (owe t.made t.owed None call (reply_of t.state call)) (events_of (reply_of t.state call)) ≡ t.owed = ap (λ (q : Reply). settle_owed t.owed (events_of q)) r' in
    let nt : t.noted ++ settle_notes (owe t.made t.owed None call (reply_of t.state call)) (events_of (reply_of t.state call)) ≡ t.noted = ap (λ (q : Reply). t.noted ++ settle_notes t.owed (events_of q)) r' ∙ append-nil t.noted in
    let evs : t.events ≡ (trail addresses (xs ++ x ∷ [])).events = sym ev ∙ sym (ap (λ (u : Trail). u.events) snoc) in
    let nts : t.noted ≡ (trail addresses (xs ++ x ∷ [])).noted = sym nt ∙ sym (ap (λ (u : Trail). u.noted) snoc) in
    let new : IsKnown p next × ((q : PortId) → IsKnown q st → same_port q p ≡ false) = f.opened p refl in
    record {
      stands = stands-more addresses st next xs x (Opened p) h.at r stands;
      at = state-more addresses st next xs x h.at left;
      few = omega (arith, length_push xs x);
      owes = h.owes ∙ sym ow ∙ sym (ap (λ (u : Trail). u.owed) snoc);
      ids = h.ids;
      room = h.room;
      within = h.within;
      pops = pops-still xs (xs ++ x ∷ []) ss (accepted_still xs call) h.pops;
      notes = subst (λ (u : List (ℕ × Note)). PushesNotes u ss) nts h.notes;
      gives = subst (λ (u : List Event). PushesGiven u (ds ++ d ∷ [])) evs (pushes-push t.events ds d h.gives (sym (given_unknown st p new.1 t.events h.past)));
      apart = apart-push st p new.1 ds d refl h.known h.apart;
      known = known-push next ds d (known-more st next f.stays ds h.known) new.0;
      past = subst (λ (u : List Event). EachKnown next u) evs (each-more st next f.stays t.events h.past);
      senders = senders-append (map seat_station ss) xs x h.senders refl;
      noted = subst (λ (u : List (ℕ × Note)). NotedWithin (length ss) u) nts h.noted;
    }

-- clients and inboxes that are gone

closed-gives : (es : List Event) (k : ℕ) (d : DoorView) (ds : List DoorView) → PushesGiven es ds → PushesGiven es (set ds k (closed_door (get_or ds k d)))
closed-gives es k d [] h = tt
closed-gives es zero d (x ∷ ds) h = (h.0, h.1)
closed-gives es (suc k) d (x ∷ ds) h = (h.0, closed-gives es k d ds h.1)

closed-none : (p : PortId) (k : ℕ) (d : DoorView) (ds : List DoorView) → NoneAt p ds → NoneAt p (set ds k (closed_door (get_or ds k d)))
closed-none p k d [] h = tt
closed-none p zero d (x ∷ ds) h = (h.0, h.1)
closed-none p (suc k) d (x ∷ ds) h = (h.0, closed-none p k d ds h.1)

closed-apart : (k : ℕ) (d : DoorView) (ds : List DoorView) → PortsApart ds → PortsApart (set ds k (closed_door (get_or ds k d)))
closed-apart k d [] h = tt
closed-apart zero d (x ∷ ds) h = (h.0, h.1)
closed-apart (suc k) d (x ∷ ds) h = (closed-none x.port k d ds h.0, closed-apart k d ds h.1)

closed-known : (st : Segment) (k : ℕ) (d : DoorView) (ds : List DoorView) → DoorsKnown st ds → DoorsKnown st (set ds k (closed_door (get_or ds k d)))
closed-known st k d [] h = tt
closed-known st zero d (x ∷ ds) h = (h.0, h.1)
closed-known st (suc k) d (x ∷ ds) h = (h.0, closed-known st k d ds h.1)

pub holds-close_door : (addresses : List Address) (st : Segment) (xs : List Stored) (ws : List Owed) (ss : List SeatView) (ds : List DoorView) (k : ℕ) (d : DoorView) → Holds addresses st xs ws ss ds
    → Holds addresses st xs ws ss (set ds k (closed_door (get_or ds k d)))
holds-close_door addresses st xs ws ss ds k d h =
    record {
      stands = h.stands;
      at = h.at;
      few = h.few;
      owes = h.owes;
      ids = h.ids;
      room = h.room;
      within = h.within;
      pops = h.pops;
      notes = h.notes;
      gives = closed-gives (trail addresses xs).events k d ds h.gives;
      apart = closed-apart k d ds h.apart;
      known = closed-known st k d ds h.known;
      past = h.past;
      senders = h.senders;
      noted = h.noted;
    }

left-ids : (n k : ℕ) (d : SeatView) (ss : List SeatView) → IdsFrom n ss → IdsFrom n (set ss k (closed_seat (get_or ss k d)))
left-ids n k d [] h = tt
left-ids n zero d (s ∷ ss) h = (h.0, h.1)
left-ids n (suc k) d (s ∷ ss) h = (h.0, left-ids (n + 1) k d ss h.1)

left-room : (ws : List Owed) (k : ℕ) (d : SeatView) (ss : List SeatView) → HaveRoom ws ss → HaveRoom ws (set ss k (closed_seat (get_or ss k d)))
left-room ws k d [] h = tt
left-room ws zero d (s ∷ ss) h = (h.0, h.1, h.2)
left-room ws (suc k) d (s ∷ ss) h = (h.0, h.1, left-room ws k d ss h.2)

left-pops : (xs : List Stored) (k : ℕ) (d : SeatView) (ss : List SeatView) → PopsAccepted xs ss → PopsAccepted xs (set ss k (closed_seat (get_or ss k d)))
left-pops xs k d [] h = tt
left-pops xs zero d (s ∷ ss) h = (h.0, h.1)
left-pops xs (suc k) d (s ∷ ss) h = (h.0, left-pops xs k d ss h.1)

left-notes : (ns : List (ℕ × Note)) (k : ℕ) (d : SeatView) (ss : List SeatView) → PushesNotes ns ss → PushesNotes ns (set ss k (closed_seat (get_or ss k d)))
left-notes ns k d [] h = tt
left-notes ns zero d (s ∷ ss) h = (h.0, has_first s.active s.noted (notes_of s.id ns) h.1, h.2)
left-notes ns (suc k) d (s ∷ ss) h = (h.0, h.1, left-notes ns k d ss h.2)

left-stations : (k : ℕ) (d : SeatView) (ss : List SeatView) → map seat_station (set ss k (closed_seat (get_or ss k d))) ≡ map seat_station ss
left-stations k d [] = refl
left-stations zero d (s ∷ ss) = refl
left-stations (suc k) d (s ∷ ss) = ap (λ (qs : List Address). s.station ∷ qs) (left-stations k d ss)

pub holds-close_seat : (addresses : List Address) (st : Segment) (xs : List Stored) (ws : List Owed) (ss : List SeatView) (ds : List DoorView) (k : ℕ) (d : SeatView) → Holds addresses st xs ws ss ds
    → Holds addresses st xs ws (set ss k (closed_seat (get_or ss k d))) ds
holds-close_seat addresses st xs ws ss ds k d h =
    let n : length (set ss k (closed_seat (get_or ss k d))) ≡ length ss = length-set ss k (closed_seat (get_or ss k d)) in
    record {
      stands = h.stands;
      at = h.at;
      few = h.few;
      owes = h.owes;
      ids = left-ids 0 k d ss h.ids;
      room = left-room ws k d ss h.room;
      within = subst (λ (m : ℕ). OwedWithin m ws) (sym n) h.within;
      pops = left-pops xs k d ss h.pops;
      notes = left-notes (trail addresses xs).noted k d ss h.notes;
      gives = h.gives;
      apart = h.apart;
      known = h.known;
      past = h.past;
      senders = subst (λ (qs : List Address). HaveSenders qs xs) (sym (left-stations k d ss)) h.senders;
      noted = subst (λ (m : ℕ). NotedWithin m (trail addresses xs).noted) (sym n) h.noted;
    }
