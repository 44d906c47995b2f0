-- A client or a port is named among those that have news: nothing else of it changes.
use Rattle.std.proofs.Common.{◌≡◌, ℕ, zero, suc, ◌+◌, ◌<◌, false, true, List, ◌∷◌, length, map, set, get_or, refl, sym, ap, ◌∙◌, subst, arith, []}
use Rattle.std.proofs.lemmas.List.{length-map, length-set, get_or-map, map-set}
use Rattle.pgn_ids.specs.declared.address.Address.{Address}
use Rattle.port_table.specs.declared.port.PortId.{PortId}
use Rattle.message_events.specs.declared.event.Event.{Event}
use Rattle.segment_law.specs.Segment.{Segment}
use Rattle.segment_rings.specs.declared.words.Note.{Note}
use Rattle.segment_rings.specs.Views.{SeatView, DoorView, named_seat, named_door, has_noted_news, has_pushed_news, new_seat, new_door}
use Rattle.stored_calls.specs.declared.stored.Stored.{Stored}
use Rattle.live_record.specs.declared.owed.Owed.{Owed}
use Rattle.live_record.specs.Record.{trail}
use Rattle.live_ends.specs.Ends.{IdsFrom, HaveRoom, OwedWithin, NoneAt, PortsApart}
use Rattle.live_segment.specs.Facts.{PopsAccepted, PushesNotes, PushesGiven, DoorsKnown, Holds, NotedWithin, HaveSenders, seat_station}
use Rattle.live_segment.specs.LiveView.{ClientView, PortView, live_view, Kept, client_of, port_of}
use Rattle.live_segment.specs.News.{client_has_news, port_has_news, client_named, port_named, ClientNamed, PortNamed, NoNews}

named-gives : (es : List Event) (k : ℕ) (d : DoorView) (ds : List DoorView) → PushesGiven es ds → PushesGiven es (set ds k (named_door (get_or ds k d)))
named-gives es k d [] h = tt
named-gives es zero d (x ∷ ds) h = (h.0, h.1)
named-gives es (suc k) d (x ∷ ds) h = (h.0, named-gives es k d ds h.1)

named-none : (p : PortId) (k : ℕ) (d : DoorView) (ds : List DoorView) → NoneAt p ds → NoneAt p (set ds k (named_door (get_or ds k d)))
named-none p k d [] h = tt
named-none p zero d (x ∷ ds) h = (h.0, h.1)
named-none p (suc k) d (x ∷ ds) h = (h.0, named-none p k d ds h.1)

named-apart : (k : ℕ) (d : DoorView) (ds : List DoorView) → PortsApart ds → PortsApart (set ds k (named_door (get_or ds k d)))
named-apart k d [] h = tt
named-apart zero d (x ∷ ds) h = (h.0, h.1)
named-apart (suc k) d (x ∷ ds) h = (named-none x.port k d ds h.0, named-apart k d ds h.1)

named-known : (st : Segment) (k : ℕ) (d : DoorView) (ds : List DoorView) → DoorsKnown st ds → DoorsKnown st (set ds k (named_door (get_or ds k d)))
named-known st k d [] h = tt
named-known st zero d (x ∷ ds) h = (h.0, h.1)
named-known st (suc k) d (x ∷ ds) h = (h.0, named-known st k d ds h.1)

pub holds-name_door : (addresses : List Address) (st : Segment) (xs : List Stored) (ws : List Owed) (ss : List SeatView) (ds : List DoorView) (k : ℕ) (d : DoorView) → Holds addresses st xs ws ss ds
    → Holds addresses st xs ws ss (set ds k (named_door (get_or ds k d)))
holds-name_door addresses st xs ws ss ds k d h =
    record {
      stands = h.stands;
      at = h.at;
      few = h.few;
      owes = h.owes;
      ids = h.ids;
      room = h.room;
      within = h.within;
      pops = h.pops;
      notes = h.notes;
      gives = named-gives (trail addresses xs).events k d ds h.gives;
      apart = named-apart k d ds h.apart;
      known = named-known st k d ds h.known;
      past = h.past;
      senders = h.senders;
      noted = h.noted;
    }

noted-ids : (n k : ℕ) (d : SeatView) (ss : List SeatView) → IdsFrom n ss → IdsFrom n (set ss k (named_seat (get_or ss k d)))
noted-ids n k d [] h = tt
noted-ids n zero d (s ∷ ss) h = (h.0, h.1)
noted-ids n (suc k) d (s ∷ ss) h = (h.0, noted-ids (n + 1) k d ss h.1)

noted-room : (ws : List Owed) (k : ℕ) (d : SeatView) (ss : List SeatView) → HaveRoom ws ss → HaveRoom ws (set ss k (named_seat (get_or ss k d)))
noted-room ws k d [] h = tt
noted-room ws zero d (s ∷ ss) h = (h.0, h.1, h.2)
noted-room ws (suc k) d (s ∷ ss) h = (h.0, h.1, noted-room ws k d ss h.2)

noted-pops : (xs : List Stored) (k : ℕ) (d : SeatView) (ss : List SeatView) → PopsAccepted xs ss → PopsAccepted xs (set ss k (named_seat (get_or ss k d)))
noted-pops xs k d [] h = tt
noted-pops xs zero d (s ∷ ss) h = (h.0, h.1)
noted-pops xs (suc k) d (s ∷ ss) h = (h.0, noted-pops xs k d ss h.1)

noted-notes : (ns : List (ℕ × Note)) (k : ℕ) (d : SeatView) (ss : List SeatView) → PushesNotes ns ss → PushesNotes ns (set ss k (named_seat (get_or ss k d)))
noted-notes ns k d [] h = tt
noted-notes ns zero d (s ∷ ss) h = (h.0, h.1, h.2)
noted-notes ns (suc k) d (s ∷ ss) h = (h.0, h.1, noted-notes ns k d ss h.2)

noted-stations : (k : ℕ) (d : SeatView) (ss : List SeatView) → map seat_station (set ss k (named_seat (get_or ss k d))) ≡ map seat_station ss
noted-stations k d [] = refl
noted-stations zero d (s ∷ ss) = refl
noted-stations (suc k) d (s ∷ ss) = ap (λ (qs : List Address). s.station ∷ qs) (noted-stations k d ss)

pub holds-name_seat : (addresses : List Address) (st : Segment) (xs : List Stored) (ws : List Owed) (ss : List SeatView) (ds : List DoorView) (k : ℕ) (d : SeatView) → Holds addresses st xs ws ss ds
    → Holds addresses st xs ws (set ss k (named_seat (get_or ss k d))) ds
holds-name_seat addresses st xs ws ss ds k d h =
    let n : length (set ss k (named_seat (get_or ss k d))) ≡ length ss = length-set ss k (named_seat (get_or ss k d)) in
    record {
      stands = h.stands;
      at = h.at;
      few = h.few;
      owes = h.owes;
      ids = noted-ids 0 k d ss h.ids;
      room = noted-room ws k d ss h.room;
      within = subst (λ (m : ℕ). OwedWithin m ws) (sym n) h.within;
      pops = noted-pops xs k d ss h.pops;
      notes = noted-notes (trail addresses xs).noted k d ss h.notes;
      gives = h.gives;
      apart = h.apart;
      known = h.known;
      past = h.past;
      senders = subst (λ (qs : List Address). HaveSenders qs xs) (sym (noted-stations k d ss)) h.senders;
      noted = subst (λ (m : ℕ). NotedWithin m (trail addresses xs).noted) (sym n) h.noted;
    }

-- what is seen of it

pub client_named_in : (keeps : Kept) (addresses : List Address) (xs : List Stored) (ss : List SeatView) (ds : List DoorView) (k : ℕ) (d : SeatView) → k < length ss → has_noted_news (get_or ss k d) ≡ true
    → ClientNamed (live_view keeps addresses xs ss ds) (live_view keeps addresses xs (set ss k (named_seat (get_or ss k d))) ds) k
client_named_in keeps addresses xs ss ds k d l news =
    let at : (x : ClientView) → get_or (map client_of ss) k x ≡ client_of (get_or ss k d) = λ x. get_or-map client_of ss k d x l in
    record {
      within = omega (arith, l, length-map ss client_of);
      had = λ x. ap client_has_news (at x) ∙ news;
      addresses = refl;
      stopped = refl;
      pieces = refl;
      calls = refl;
      clients = λ x. map-set client_of ss k (named_seat (get_or ss k d)) ∙ ap (λ (c : ClientView). set (map client_of ss) k (client_named c)) (sym (at x));
      ports = refl;
    }

pub port_named_in : (keeps : Kept) (addresses : List Address) (xs : List Stored) (ss : List SeatView) (ds : List DoorView) (k : ℕ) (d : DoorView) (p : PortId) → k < length ds → (get_or ds k d).port ≡ p → has_pushed_news (get_or ds k d) ≡ true
    → PortNamed (live_view keeps addresses xs ss ds) (live_view keeps addresses xs ss (set ds k (named_door (get_or ds k d)))) p
port_named_in keeps addresses xs ss ds k d p l is news =
    let at : (x : PortView) → get_or (map port_of ds) k x ≡ port_of (get_or ds k d) = λ x. get_or-map port_of ds k d x l in
    record {
      place = k;
      within = omega (arith, l, length-map ds port_of);
      is = λ x. ap (λ (q : PortView). q.port) (at x) ∙ is;
      had = λ x. ap port_has_news (at x) ∙ news;
      addresses = refl;
      stopped = refl;
      pieces = refl;
      calls = refl;
      clients = refl;
      ports = λ x. map-set port_of ds k (named_door (get_or ds k d)) ∙ ap (λ (q : PortView). set (map port_of ds) k (port_named q)) (sym (at x));
    }

pub no_news_in : (keeps : Kept) (addresses : List Address) (xs : List Stored) (ss : List SeatView) (ds : List DoorView) → ((k : ℕ) (s : SeatView) → k < length ss → has_noted_news (get_or ss k s) ≡ false)
    → ((k : ℕ) (d : DoorView) → k < length ds → has_pushed_news (get_or ds k d) ≡ false) → NoNews (live_view keeps addresses xs ss ds)
no_news_in keeps addresses xs ss ds clients ports = (
  λ c x l.
      let s = new_seat 0 (record { 0 = 0 }) 0 0 in
      let k : c < length ss = rw length-map at l in
      ap client_has_news (get_or-map client_of ss c s x k) ∙ clients c s k,
  λ k x l.
      let d = new_door (record { station = record { 0 = 0 }; number = 0 }) 0 0 0 in
      let n : k < length ds = rw length-map at l in
      ap port_has_news (get_or-map port_of ds k d x n) ∙ ports k d n,
)
