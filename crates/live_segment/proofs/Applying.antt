-- A call of a thread was made.
use Rattle.std.proofs.Common.{◌≡◌, ℕ, ◌<◌, ◌⊎◌, Bool, true, false, List, ◌∷◌, map, get_or, None, refl, sym, ◌∙◌, ap, subst, inl, inr, []}
use Rattle.std.proofs.lemmas.List.{length-map, get_or-map}
use Rattle.pgn_ids.specs.declared.address.Address.{Address}
use Rattle.port_table.specs.declared.port.PortId.{PortId}
use Rattle.segment_law.specs.Segment.{Segment}
use Rattle.message_events.specs.declared.event.Event.{Event}
use Rattle.segment_law.specs.Calls.{events_of}
use Rattle.segment_law.specs.declared.refusal.Refusal.{Refusal}
use Rattle.segment_law.specs.declared.reply.Reply.{Reply}
use Rattle.segment_law.specs.declared.reply.Reply.TheVariants.{Refused, Done}
use Rattle.live_record.specs.Replies.{reply_of}
use Rattle.segment_rings.specs.Views.{SeatView, DoorView, new_door}
use Rattle.stored_calls.specs.declared.stored.Stored.{Stored}
use Rattle.live_record.specs.declared.owed.Owed.{Owed}
use Rattle.live_calls.specs.declared.call.WorkerCall.{WorkerCall}
use Rattle.live_calls.specs.Words.{call_of, wanted_by}
use Rattle.live_record.specs.Record.{settle_notes, trail, stored}
use Rattle.live_ends.specs.Ends.{IdsFrom, note_all, give_all}
use Rattle.live_ends.specs.Places.{times, LacksPlace}
use Rattle.live_calls.specs.Places.{IsFound}
use Rattle.live_segment.specs.LiveView.{client_of, port_of, door_free, PortView, live_view, NoPlace, Applied, SparesClosed, calls_after, port_after, clients_after, told_clients, Kept}
use Rattle.live_segment.proofs.Telling.{ports_told, clients_told, ports_untold, clients_untold}

-- no place was found for what is wanted
no_place : (keeps : Kept) (addresses : List Address) (st : Segment) (xs ys : List Stored) (ss ts : List SeatView) (ds es : List DoorView) (call : WorkerCall) → st ≡ (trail addresses xs).state
    → LacksPlace (wanted_by st call).station (wanted_by st call).ports es → NoPlace (live_view keeps addresses xs ss ds) (live_view keeps addresses ys ts es) call
no_place keeps addresses st xs ys ss ts ds es call at h =
    let k = h.place in
    let here : (p : PortView) → get_or (map port_of es) k p ≡ port_of (get_or es k (new_door p.port 0 0 0)) = λ p. get_or-map port_of es k (new_door p.port 0 0 0) p h.within in
    let port : (p : PortView) → (get_or (map port_of es) k p).port ≡ (get_or es k (new_door p.port 0 0 0)).port = λ p. ap (λ (x : PortView). x.port) (here p) in
    record {
      place = k;
      within = rw length-map h.within;
      wanted = λ p.
          let d = new_door p.port 0 0 0 in
          let l = h.lacks d in
          subst (λ (s : Segment). ((get_or (map port_of es) k p).port.station ≡ (wanted_by s call).station) × (0 < times (get_or (map port_of es) k p).port.number (wanted_by s call).ports)) at
          (subst (λ (q : PortId). (q.station ≡ (wanted_by st call).station) × (0 < times q.number (wanted_by st call).ports)) (sym (port p)) (l.0, l.1));
      lacks = λ p.
          let d = new_door p.port 0 0 0 in
          let l = h.lacks d in
          let f : get_or (map door_free es) k 0 ≡ (get_or es k d).free = get_or-map door_free es k d 0 h.within in
          subst (λ (s : Segment). (get_or (map door_free es) k 0 < times (get_or (map port_of es) k p).port.number (wanted_by s call).ports) ⊎ ((get_or (map port_of es) k p).active ≡ false)) at
          (subst (λ (q : PortId). (get_or (map door_free es) k 0 < times q.number (wanted_by st call).ports) ⊎ ((get_or (map port_of es) k p).active ≡ false)) (sym (port p))
          (elim l.2 [
            | inl z ↦ inl (subst (λ (n : ℕ). n < times (get_or es k d).port.number (wanted_by st call).ports) (sym f) z)
            | inr z ↦ inr (ap (λ (x : PortView). x.active) (here p) ∙ z)
          ]));
    }

pub found_false : (keeps : Kept) (addresses : List Address) (st : Segment) (xs ys : List Stored) (ss ts : List SeatView) (ds es : List DoorView) (call : WorkerCall) (room : Bool) (bs : List ℕ) → st ≡ (trail addresses xs).state
    → IsFound (wanted_by st call) es room bs → room ≡ false → NoPlace (live_view keeps addresses xs ss ds) (live_view keeps addresses ys ts es) call
found_false keeps addresses st xs ys ss ts ds es call true bs at f e = absurd (cc)
found_false keeps addresses st xs ys ss ts ds es call false bs at f e = no_place keeps addresses st xs ys ss ts ds es call at f

pub applied_as : (keeps : Kept) (addresses : List Address) (st : Segment) (xs ys : List Stored) (ss ts : List SeatView) (ds es gs : List DoorView) (call : WorkerCall) (r : Reply) (room : Bool) (bs : List ℕ) → st ≡ (trail addresses xs).state
    → r ≡ reply_of st (call_of call room) → ys ≡ calls_after r xs (stored None (call_of call room)) → IsFound (wanted_by st call) es room bs → (room ≡ false → gs ≡ es)
    → map client_of ts ≡ told_clients (live_view keeps addresses xs ss ds) r → map port_of gs ≡ map (port_after (events_of r)) (map port_of ds) → SparesClosed (events_of r) (map port_of ds)
    → Applied (live_view keeps addresses xs ss ds) (live_view keeps addresses ys ts gs) call r room
applied_as keeps addresses st xs ys ss ts ds es gs call r room bs at re ca fo same clients ports closed = record {
  reply = re ∙ ap (λ (s : Segment). reply_of s (call_of call room)) at;
  addresses = refl;
  stopped = refl;
  pieces = refl;
  calls = ca;
  clients = clients;
  ports = ports;
  closed = closed;
  room = λ none. subst (λ (u : List DoorView). NoPlace (live_view keeps addresses xs ss ds) (live_view keeps addresses ys ts u) call) (sym (same none)) (found_false keeps addresses st xs ys ss ts ds es call room bs at fo none);
}

-- nothing is given to anyone
pub spares_none : (ps : List PortView) → SparesClosed [] ps
spares_none [] = tt
spares_none (p ∷ ps) = (λ closed. refl, spares_none ps)

-- a call that is refused changes nothing
pub refused_as : (keeps : Kept) (addresses : List Address) (st : Segment) (xs : List Stored) (ss ts : List SeatView) (ds es : List DoorView) (call : WorkerCall) (c : Refusal) (room : Bool) → st ≡ (trail addresses xs).state
    → Refused c ≡ reply_of st (call_of call room) → map client_of ts ≡ map client_of ss → map port_of es ≡ map port_of ds
    → (room ≡ false → NoPlace (live_view keeps addresses xs ss ds) (live_view keeps addresses xs ts es) call)
    → Applied (live_view keeps addresses xs ss ds) (live_view keeps addresses xs ts es) call (Refused c) room
refused_as keeps addresses st xs ss ts ds es call c room at re clients ports none = record {
  reply = re ∙ ap (λ (s : Segment). reply_of s (call_of call room)) at;
  addresses = refl;
  stopped = refl;
  pieces = refl;
  calls = refl;
  clients = clients ∙ sym (clients_untold 0 (map client_of ss));
  ports = ports ∙ sym (ports_untold (map port_of ds));
  closed = spares_none (map port_of ds);
  room = none;
}

pub told_as : (keeps : Kept) (addresses : List Address) (xs : List Stored) (ws : List Owed) (ss ts : List SeatView) (ds : List DoorView) (es : List Event) → IdsFrom 0 ss → ws ≡ (trail addresses xs).owed → ts ≡ note_all (settle_notes ws es) ss
    → map client_of ts ≡ told_clients (live_view keeps addresses xs ss ds) (Done es)
told_as keeps addresses xs ws ss ts ds es ids owes is =
    ap (map client_of) is ∙ clients_told 0 (settle_notes ws es) ss ids ∙ ap (λ (u : List Owed). clients_after 0 (settle_notes u es) (map client_of ss)) owes

pub given_as : (es : List Event) (ds gs hs : List DoorView) → map port_of gs ≡ map port_of ds → hs ≡ give_all es gs → map port_of hs ≡ map (port_after es) (map port_of ds)
given_as es ds gs hs same is = ap (map port_of) is ∙ ports_told es gs ∙ ap (map (port_after es)) same
