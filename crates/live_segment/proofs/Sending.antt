-- A client's message was stored.
use Rattle.std.proofs.Common.{◌≡◌, ◌≢◌, ℕ, zero, suc, ◌+◌, ◌<◌, ◌==◌, true, false, cond, List, ◌∷◌, ◌++◌, length, map, set, get_or, Some, None, refl, sym, ◌∙◌, ap, subst, arith, append-nil, length-set, zero-add, ◌^◌, []}
use Rattle.std.proofs.lemmas.List.{length_push, length-map, get_or-map, map-set}
use Rattle.std.proofs.lemmas.Option.{slice_get-map, slice_get-get_or}
use Rattle.std.specs.Option.{option_map}
use Rattle.std.specs.Prelude.{slice_index, slice_get, Option}
use mathlib.Core.List.{IsPrefix}
use Rattle.pgn_ids.specs.declared.address.Address.{Address}
use Rattle.message_events.specs.declared.event.Event.{Event}
use Rattle.segment_law.specs.Segment.{Segment}
use Rattle.segment_law.specs.Calls.{called, events_of}
use Rattle.segment_state.specs.Answers.{refusal_of}
use Rattle.segment_law.specs.Record.{StandsAt}
use Rattle.segment_law.specs.declared.call.Call.{Call}
use Rattle.segment_law.specs.declared.reply.Reply.{Reply}
use Rattle.segment_law.specs.declared.reply.Reply.TheVariants.{Sent}
use Rattle.live_record.specs.Replies.{reply_of, left_by, Follows, EachKnown, IsAnsweredBy}
use Rattle.segment_rings.specs.declared.words.Submission.{Submission}
use Rattle.segment_rings.specs.declared.words.Note.{Note}
use Rattle.segment_rings.specs.Views.{SeatView, DoorView, popped_one}
use Rattle.stored_calls.specs.declared.stored.Stored.{Stored}
use Rattle.live_record.specs.declared.owed.Owed.{Owed}
use Rattle.live_record.specs.declared.calls.TheConstants.{MOST_CALLS}
use Rattle.live_record.specs.Record.{accepted, owed_by, settle_notes, settle_owed, owe, Trail, trail, step, stored}
use Rattle.live_ends.specs.Ends.{IdsFrom, HaveRoom, OwedWithin}
use Rattle.live_segment.specs.Facts.{PopsAccepted, PushesNotes, PushesGiven, Holds, NotedWithin, HaveSenders, seat_station}
use Rattle.live_record.specs.Past.{count_since}
use Rattle.live_segment.specs.LiveView.{ClientView, live_view, client_of, port_of, seat_seen, seat_free, Kept}
use Rattle.live_ends.specs.Offers.{send_call, owed_for}
use Rattle.live_segment.specs.Offers.{popped_client, SentFor, RefusedSend, LacksMemoryFor}
use Rattle.live_calls.specs.Offers.{IsCauseFor, LacksRoomToSend}
use Rattle.live_segment.proofs.Doors.{known-more, each-more}
use Rattle.live_segment.proofs.Fronts.{waits_at, free_is}
use Rattle.live_segment.proofs.Holding.{stands-more, state-more}
use Rattle.live_record.proofs.Equal.{apart, together}
use Rattle.live_record.proofs.Trails.{trail-snoc, made-trail, accepted-append}
use Rattle.live_segment.proofs.Senders.{senders-append}

pub owed_by-append : (c : ℕ) (ws : List Owed) (w : Owed) → owed_by c (ws ++ w ∷ []) ≡ owed_by c ws + cond (w.client == c) 1 0
owed_by-append c [] w = omega arith
owed_by-append c (v ∷ ws) w = omega (arith, owed_by-append c ws w)

-- what one more Send by k is to client c
accepted-own : (k : ℕ) (xs : List Stored) (from : Address) (x : Submission) → accepted k (xs ++ stored (Some k) (send_call from x) ∷ []) ≡ accepted k xs ++ x ∷ []
accepted-own k xs from x = let e : (k == k) ≡ true = together k k refl in accepted-append k xs (stored (Some k) (send_call from x) ∷ []) ∙ ap (λ l. accepted k xs ++ l) (rw e refl)

accepted-other : (c k : ℕ) (xs : List Stored) (from : Address) (x : Submission) → k ≢ c → accepted c (xs ++ stored (Some k) (send_call from x) ∷ []) ≡ accepted c xs
accepted-other c k xs from x n =
    let e : (k == c) ≡ false = apart k c n in
    accepted-append c xs (stored (Some k) (send_call from x) ∷ []) ∙ ap (λ l. accepted c xs ++ l) (rw e refl) ∙ append-nil (accepted c xs)

pops-later : (n k : ℕ) (xs : List Stored) (from : Address) (x : Submission) (ss : List SeatView) → k < n → IdsFrom n ss → PopsAccepted xs ss → PopsAccepted (xs ++ stored (Some k) (send_call from x) ∷ []) ss
pops-later n k xs from x [] l i h = tt
pops-later n k xs from x (s ∷ ss) l i h =
    let other : k ≢ s.id = omega (arith, i.0) in
    (h.0 ∙ sym (accepted-other s.id k xs from x other), pops-later (n + 1) k xs from x ss (omega arith) i.1 h.1)

pops-send : (n i k : ℕ) (xs : List Stored) (from : Address) (x : Submission) (a : List Submission) (ss : List SeatView) (d : SeatView) → k ≡ n + i → i < length ss → IdsFrom n ss → PopsAccepted xs ss
    → PopsAccepted (xs ++ stored (Some k) (send_call from x) ∷ []) (set ss i (popped_one (get_or ss i d) x a))
pops-send n i k xs from x a [] d e l j h = absurd (omega arith)
pops-send n zero k xs from x a (s ∷ ss) d e l j h =
    let own : k ≡ s.id = omega (arith, j.0) in
    let y : accepted s.id (xs ++ stored (Some k) (send_call from x) ∷ []) ≡ accepted s.id xs ++ x ∷ [] = subst (λ c. accepted c (xs ++ stored (Some k) (send_call from x) ∷ []) ≡ accepted c xs ++ x ∷ []) own (accepted-own k xs from x) in
    (ap (λ l. l ++ x ∷ []) h.0 ∙ sym y, pops-later (n + 1) k xs from x ss (omega arith) j.1 h.1)
pops-send n (suc i) k xs from x a (s ∷ ss) d e l j h =
    let other : k ≢ s.id = omega (arith, j.0) in
    (h.0 ∙ sym (accepted-other s.id k xs from x other), pops-send (n + 1) i k xs from x a ss d (omega arith) (omega arith) j.1 h.1)

room-later : (n : ℕ) (ws : List Owed) (w : Owed) (ss : List SeatView) → w.client < n → IdsFrom n ss → HaveRoom ws ss → HaveRoom (ws ++ w ∷ []) ss
room-later n ws w [] l i h = tt
room-later n ws w (s ∷ ss) l i h =
    let e : (w.client == s.id) ≡ false = apart w.client s.id (omega (arith, i.0)) in
    let o : owed_by s.id (ws ++ w ∷ []) ≡ owed_by s.id ws + 0 = owed_by-append s.id ws w ∙ rw e refl in
    (omega (arith, h.0), omega (arith, h.1), room-later (n + 1) ws w ss (omega arith) i.1 h.2)

room-send : (n i : ℕ) (ws : List Owed) (w : Owed) (x : Submission) (a : List Submission) (ss : List SeatView) (d : SeatView) → w.client ≡ n + i → i < length ss → IdsFrom n ss → HaveRoom ws ss
    → owed_by w.client ws < (get_or ss i d).free → owed_by w.client ws < (get_or ss i d).spare → HaveRoom (ws ++ w ∷ []) (set ss i (popped_one (get_or ss i d) x a))
room-send n i ws w x a [] d e l j h f p = absurd (omega arith)
room-send n zero ws w x a (s ∷ ss) d e l j h f p =
    let own : w.client ≡ s.id = omega (arith, j.0) in
    let t : (w.client == s.id) ≡ true = together w.client s.id own in
    let o : owed_by s.id (ws ++ w ∷ []) ≡ owed_by s.id ws + 1 = owed_by-append s.id ws w ∙ rw t refl in
    let q : owed_by w.client ws ≡ owed_by s.id ws = ap (λ c. owed_by c ws) own in
    (omega arith, omega arith, room-later (n + 1) ws w ss (omega arith) j.1 h.2)
room-send n (suc i) ws w x a (s ∷ ss) d e l j h f p =
    let t : (w.client == s.id) ≡ false = apart w.client s.id (omega (arith, j.0)) in
    let o : owed_by s.id (ws ++ w ∷ []) ≡ owed_by s.id ws + 0 = owed_by-append s.id ws w ∙ rw t refl in
    (omega (arith, h.0), omega (arith, h.1), room-send (n + 1) i ws w x a ss d (omega arith) (omega arith) j.1 h.2 f p)

notes-send : (ns : List (ℕ × Note)) (i : ℕ) (x : Submission) (a : List Submission) (ss : List SeatView) (d : SeatView) → PushesNotes ns ss → PushesNotes ns (set ss i (popped_one (get_or ss i d) x a))
notes-send ns i x a [] d h = tt
notes-send ns zero x a (s ∷ ss) d h = (h.0, h.1, h.2)
notes-send ns (suc i) x a (s ∷ ss) d h = (h.0, h.1, notes-send ns i x a ss d h.2)

ids-send : (n i : ℕ) (x : Submission) (a : List Submission) (ss : List SeatView) (d : SeatView) → IdsFrom n ss → IdsFrom n (set ss i (popped_one (get_or ss i d) x a))
ids-send n i x a [] d h = tt
ids-send n zero x a (s ∷ ss) d h = (h.0, h.1)
ids-send n (suc i) x a (s ∷ ss) d h = (h.0, ids-send (n + 1) i x a ss d h.1)

within-append : (k : ℕ) (ws : List Owed) (w : Owed) → w.client < k → OwedWithin k ws → OwedWithin k (ws ++ w ∷ [])
within-append k [] w l h = (l, tt)
within-append k (v ∷ ws) w l h = (h.0, within-append k ws w l h.1)

stations-send : (i : ℕ) (x : Submission) (a : List Submission) (ss : List SeatView) (d : SeatView) → map seat_station (set ss i (popped_one (get_or ss i d) x a)) ≡ map seat_station ss
stations-send i x a [] d = refl
stations-send zero x a (s ∷ ss) d = refl
stations-send (suc i) x a (s ∷ ss) d = ap (λ (qs : List Address). s.station ∷ qs) (stations-send i x a ss d)

-- the client's station is that of its Send
station_at : (k : ℕ) (ss : List SeatView) (s : SeatView) → k < length ss → s ≡ get_or ss k s → slice_get (map seat_station ss) k ≡ Some s.station
station_at k ss s l at = slice_get-map seat_station ss k ∙ ap (λ (o : Option SeatView). option_map seat_station o) (slice_get-get_or ss k s l) ∙ ap (λ (u : SeatView). Some u.station) (sym at)

pub popped_at : (n i : ℕ) (xs : List Stored) (ss : List SeatView) (d : SeatView) → i < length ss → IdsFrom n ss → PopsAccepted xs ss → (get_or ss i d).popped ≡ accepted (n + i) xs
popped_at n i xs [] d l j h = absurd (omega arith)
popped_at n zero xs (s ∷ ss) d l j h = let e : s.id ≡ n + 0 = omega (arith, j.0) in h.0 ∙ ap (λ c. accepted c xs) e
popped_at n (suc i) xs (s ∷ ss) d l j h = let e : n + 1 + i ≡ n + suc i = omega arith in popped_at (n + 1) i xs ss d (omega arith) j.1 h.1 ∙ ap (λ c. accepted c xs) e

pub holds-send : (addresses : List Address) (st next : Segment) (xs : List Stored) (ws : List Owed) (ss : List SeatView) (ds : List DoorView) (k number : ℕ) (x : Submission) (a : List Submission) (s : SeatView)
    → Holds addresses st xs ws ss ds → k < length ss → length xs + 1 < 2 ^ 64 → s ≡ get_or ss k s → owed_by k ws < s.free → owed_by k ws < s.spare
    → reply_of st (send_call s.station x) ≡ Sent number → next ≡ left_by st (send_call s.station x)
    → StandsAt addresses ((trail addresses xs).steps ++ (send_call s.station x, Sent number) ∷ []) next → Follows st (send_call s.station x) next (Sent number)
    → Holds addresses next (xs ++ stored (Some k) (send_call s.station x) ∷ []) (ws ++ owed_for k s x number ∷ []) (set ss k (popped_one s x a)) ds
holds-send addresses st next xs ws ss ds k number x a s h l few at free spare r left stands f =
    let call = send_call s.station x in
    let y = stored (Some k) call in
    let w = owed_for k s x number in
    let t = trail addresses xs in
    let snoc : trail addresses (xs ++ y ∷ []) ≡ step t y = trail-snoc addresses xs y in
    let r' : reply_of t.state call ≡ Sent number = ap (λ (u : Segment). reply_of u call) (sym h.at) ∙ r in
    let new : set ss k (popped_one (get_or ss k s) x a) ≡ set ss k (popped_one s x a) = ap (λ (u : SeatView). set ss k (popped_one u x a)) (sym at) in
    let tick : length s.popped ≡ length (accepted k t.made) = ap (λ (u : SeatView). length u.popped) at ∙ ap length (popped_at 0 k xs ss s l h.ids h.pops) ∙ ap (λ c. length (accepted c xs)) (zero-add k) ∙ ap (λ u. length (accepted k u)) (sym (made-trail addresses xs)) in
    let w' : Owed = record { client = k; ticket = length (accepted k t.made) + 1; from = s.station; to = x.to; number = number } in
    let ww : w ≡ w' = ap (λ (n : ℕ). record { client = k; ticket = n + 1; from = s.station; to = x.to; number = number }) tick in
    let ow : settle_owed (owe t.made t.owed (Some k) call (reply_of t.state call)) (events_of (reply_of t.state call)) ≡ t.owed ++ w' ∷ [] = ap (λ (q : Reply). settle_owed (owe t.made t.owed (Some k) call q) (events_of q)) r' in
    let nt : t.noted ++ settle_notes (owe t.made t.owed (Some k) call (reply_of t.state call)) (events_of (reply_of t.state call)) ≡ t.noted = ap (λ (q : Reply). t.noted ++ settle_notes (owe t.made t.owed (Some k) call q) (events_of q)) r' ∙ append-nil t.noted in
    let ev : t.events ++ events_of (reply_of t.state call) ≡ t.events = ap (λ (q : Reply). t.events ++ events_of q) r' ∙ append-nil t.events in
    let f' : owed_by k ws < (get_or ss k s).free = subst (λ (u : SeatView). owed_by k ws < u.free) at free in
    let p' : owed_by k ws < (get_or ss k s).spare = subst (λ (u : SeatView). owed_by k ws < u.spare) at spare in
    let evs : t.events ≡ (trail addresses (xs ++ y ∷ [])).events = sym ev ∙ sym (ap (λ (u : Trail). u.events) snoc) in
    let nts : t.noted ≡ (trail addresses (xs ++ y ∷ [])).noted = sym nt ∙ sym (ap (λ (u : Trail). u.noted) snoc) in
    let stations : map seat_station (set ss k (popped_one s x a)) ≡ map seat_station ss = ap (λ (u : List SeatView). map seat_station u) (sym new) ∙ stations-send k x a ss s in
    record {
      stands = stands-more addresses st next xs y (Sent number) h.at r stands;
      at = state-more addresses st next xs y h.at left;
      few = omega (arith, length_push xs y);
      owes = ap (λ (u : List Owed). u ++ w ∷ []) h.owes ∙ ap (λ (u : Owed). t.owed ++ u ∷ []) ww ∙ sym ow ∙ sym (ap (λ (u : Trail). u.owed) snoc);
      ids = subst (IdsFrom 0) new (ids-send 0 k x a ss s h.ids);
      room = subst (HaveRoom (ws ++ w ∷ [])) new (room-send 0 k ws w x a ss s (sym (zero-add k)) l h.ids h.room f' p');
      within = subst (λ (n : ℕ). OwedWithin n (ws ++ w ∷ [])) (sym (length-set ss k (popped_one s x a))) (within-append (length ss) ws w l h.within);
      pops = subst (PopsAccepted (xs ++ y ∷ [])) new (pops-send 0 k k xs s.station x a ss s (sym (zero-add k)) l h.ids h.pops);
      notes = subst (λ (u : List (ℕ × Note)). PushesNotes u (set ss k (popped_one s x a))) nts (subst (PushesNotes t.noted) new (notes-send t.noted k x a ss s h.notes));
      gives = subst (λ (u : List Event). PushesGiven u ds) evs h.gives;
      apart = h.apart;
      known = known-more st next f.stays ds h.known;
      past = subst (λ (u : List Event). EachKnown next u) evs (each-more st next f.stays t.events h.past);
      senders = subst (λ (qs : List Address). HaveSenders qs (xs ++ y ∷ [])) (sym stations) (senders-append (map seat_station ss) xs y h.senders (station_at k ss s l at));
      noted = rw (length-set ss k (popped_one s x a)) (subst (λ (u : List (ℕ × Note)). NotedWithin (length ss) u) nts h.noted);
    }

pub sent_for : (keeps : Kept) (addresses : List Address) (st : Segment) (xs : List Stored) (ss : List SeatView) (ts : List SeatView) (ds es : List DoorView) (k number : ℕ) (x : Submission) (a : List Submission) (s : SeatView)
    → st ≡ (trail addresses xs).state → k < length ts → s ≡ get_or ts k s → map client_of ts ≡ map client_of ss → map port_of es ≡ map port_of ds → s.active ≡ true → reply_of st (send_call s.station x) ≡ Sent number
    → SentFor (live_view keeps addresses xs ss ds) (live_view keeps addresses (xs ++ stored (Some k) (send_call s.station x) ∷ []) (set ts k (popped_one s x a)) es) k number x
sent_for keeps addresses st xs ss ts ds es k number x a s is l at cs ps act r =
    let own : (v : ClientView) → get_or (map client_of ss) k v ≡ client_of s = λ v. ap (λ (u : List ClientView). get_or u k v) (sym cs) ∙ get_or-map client_of ts k s v l ∙ ap client_of (sym at) in
    record {
      within = rw (← cs, length-map) l;
      active = λ v. ap (λ (u : ClientView). u.active) (own v) ∙ act;
      addresses = refl;
      stopped = refl;
      pieces = refl;
      clients = λ v. map-set client_of ts k (popped_one s x a) ∙ ap (λ (u : List ClientView). set u k (client_of (popped_one s x a))) cs ∙ ap (λ (u : ClientView). set (map client_of ss) k (popped_client u x)) (sym (own v));
      calls = λ v. ap (λ (u : ClientView). xs ++ stored (Some k) (send_call u.station x) ∷ []) (sym (own v));
      reply = λ v. sym (ap (λ (u : Segment). reply_of u (send_call s.station x)) (sym is) ∙ r) ∙ ap (λ (u : ClientView). reply_of (trail addresses xs).state (send_call u.station x)) (sym (own v));
      ports = ps;
    }

pub same_front : (x y : Submission) (ahead rest : List Submission) → IsPrefix (x ∷ []) ahead → ahead ≡ y ∷ rest → x ≡ y
same_front x y ahead rest p e = let q : x ∷ p.0 ≡ ahead = p.1 in cc

pub refused_send : (keeps : Kept) (addresses : List Address) (st : Segment) (xs : List Stored) (ss ts : List SeatView) (ds es : List DoorView) (k : ℕ) (x : Submission) (s : SeatView) (r : Reply)
    → st ≡ (trail addresses xs).state → k < length ts → s ≡ get_or ts k s → map client_of ts ≡ map client_of ss → count_since keeps.pieces xs < MOST_CALLS → IsPrefix (x ∷ []) s.ahead → r ≡ reply_of st (send_call s.station x)
    → RefusedSend (live_view keeps addresses xs ss ds) (live_view keeps addresses xs ts es) k r
refused_send keeps addresses st xs ss ts ds es k x s r is l at cs few front e =
    let own : (v : ClientView) → get_or (map client_of ss) k v ≡ client_of s = λ v. ap (λ (u : List ClientView). get_or u k v) (sym cs) ∙ get_or-map client_of ts k s v l ∙ ap client_of (sym at) in
    let seen : get_or (map seat_seen ts) k [] ≡ s.ahead = get_or-map seat_seen ts k s [] l ∙ ap seat_seen (sym at) in
    record {
      few = few;
      x = x;
      front = subst (λ (u : List Submission). IsPrefix (x ∷ []) u) (sym seen) front;
      reply = λ v. e ∙ ap (λ (u : Segment). reply_of u (send_call s.station x)) is ∙ ap (λ (u : ClientView). reply_of (trail addresses xs).state (send_call u.station x)) (sym (own v));
    }

-- a Send is answered by a number
pub send_answer : (from : Address) (x : Submission) (call : Call) (r : Reply) → call ≡ send_call from x → IsAnsweredBy call r → IsAnsweredBy (send_call from x) r
send_answer from x call r e k = subst (λ (c : Call). IsAnsweredBy c r) e k

-- nothing but memory is lacking to send the submission in front
pub lacks_memory_for : (keeps : Kept) (addresses : List Address) (st : Segment) (xs : List Stored) (ws : List Owed) (ss ts : List SeatView) (ds es : List DoorView) (k : ℕ) (s : SeatView) → st ≡ (trail addresses xs).state → ws ≡ (trail addresses xs).owed
    → k < length ts → map client_of ts ≡ map client_of ss → LacksRoomToSend st (count_since keeps.pieces xs) ws ts k → LacksMemoryFor (live_view keeps addresses xs ss ds) (live_view keeps addresses xs ts es) k
lacks_memory_for keeps addresses st xs ws ss ts ds es k s is owes l cs r =
    let t = get_or ts k s in
    let cause : IsCauseFor st t None = r.1 s in
    let own : (v : ClientView) → get_or (map client_of ss) k v ≡ client_of t = λ v. ap (λ (u : List ClientView). get_or u k v) (sym cs) ∙ get_or-map client_of ts k s v l in
    let seen : get_or (map seat_seen ts) k [] ≡ t.ahead = get_or-map seat_seen ts k s [] l in
    let f : slice_index (map seat_free ts) k ≡ t.free = free_is keeps addresses xs ts es k s l in
    let o : owed_by k ws ≡ owed_by k (trail addresses xs).owed = ap (owed_by k) owes in
    record {
      few = r.0.0;
      waits = waits_at keeps addresses xs ts es k s l (r.0.1 s).0;
      place = omega (arith, f, o, (r.0.1 s).1);
      x = cause.0;
      front = subst (λ (u : List Submission). IsPrefix (cause.0 ∷ []) u) (sym seen) cause.1;
      passes = λ v. sym (cause.2 ∙ ap (λ (u : Segment). refusal_of (called u (send_call t.station cause.0))) is ∙ ap (λ (u : ClientView). refusal_of (called (trail addresses xs).state (send_call u.station cause.0))) (sym (own v)));
    }
