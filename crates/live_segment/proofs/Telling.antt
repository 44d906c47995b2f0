-- What a call tells goes to the clients and ports as they are shown: their lists grow, and nothing else of them changes.
use Rattle.std.proofs.Common.{◌≡◌, ℕ, zero, suc, ◌+◌, ◌<◌, true, false, List, ◌∷◌, ◌++◌, length, map, set, get_or, refl, ap, ◌∙◌, subst, arith, append-nil, []}
use Rattle.port_table.specs.declared.port.PortId.{PortId}
use Rattle.message_events.specs.declared.event.Event.{Event}
use Rattle.segment_law.specs.Told.{same_port}
use Rattle.segment_rings.specs.declared.words.Note.{Note}
use Rattle.segment_rings.specs.declared.words.Delivery.{Delivery}
use Rattle.segment_rings.specs.Views.{SeatView, DoorView, closed_seat, closed_door, noted_after}
use Rattle.segment_rings.specs.Ends.{ClientEnd, InboxEnd}
use Rattle.live_record.specs.Record.{notes_of}
use Rattle.live_ends.specs.Ends.{IdsFrom, NoneAt, PortsApart, note_all, give_all}
use Rattle.live_segment.specs.LiveView.{ClientView, PortView, client_of, port_of, port_after, clients_after}
use Rattle.live_segment.specs.Reports.{closing, gone, gone_clients, gone_ports}
use Rattle.live_ends.proofs.Giving.{none_at, same_port-sym, same_port-refl}
use Rattle.live_ends.proofs.Noting.{noted_none}

pub ports_told : (es : List Event) (ds : List DoorView) → map port_of (give_all es ds) ≡ map (port_after es) (map port_of ds)
ports_told es [] = refl
ports_told es (d ∷ ds) = ap (λ (ps : List PortView). port_after es (port_of d) ∷ ps) (ports_told es ds)

pub clients_told : (n : ℕ) (ns : List (ℕ × Note)) (ss : List SeatView) → IdsFrom n ss → map client_of (note_all ns ss) ≡ clients_after n ns (map client_of ss)
clients_told n ns [] h = refl
clients_told n ns (s ∷ ss) h =
    let e : noted_after s.active s.noted (notes_of s.id ns) ≡ noted_after s.active s.noted (notes_of n ns) = ap (λ (k : ℕ). noted_after s.active s.noted (notes_of k ns)) h.0 in
    let r = clients_told (n + 1) ns ss h.1 in
    cc

-- nothing is told
pub ports_untold : (ps : List PortView) → map (port_after []) ps ≡ ps
ports_untold [] = refl
ports_untold (p ∷ ps) = ap (λ (l : List Delivery). record p { pushed = l } ∷ map (port_after []) ps) (append-nil p.pushed) ∙ ap (λ (qs : List PortView). p ∷ qs) (ports_untold ps)

pub clients_untold : (n : ℕ) (cs : List ClientView) → clients_after n [] cs ≡ cs
clients_untold n [] = refl
clients_untold n (c ∷ cs) = ap (λ (l : List Note). record c { noted = l } ∷ clients_after (n + 1) [] cs) (noted_none c.active c.noted) ∙ ap (λ (vs : List ClientView). c ∷ vs) (clients_untold (n + 1) cs)

-- a client is gone
pub client_gone : (k : ℕ) (ss : List SeatView) (d : SeatView) → k < length ss → map client_of (set ss k (closed_seat (get_or ss k d))) ≡ gone (map client_of ss) k
client_gone k [] d l = absurd (omega arith)
client_gone zero (s ∷ ss) d l = refl
client_gone (suc k) (s ∷ ss) d l = ap (λ (vs : List ClientView). client_of s ∷ vs) (client_gone k ss d (omega arith))

pub none_gone : (k : ℕ) (ss : List SeatView) → (k < length ss → ⊥) → gone (map client_of ss) k ≡ map client_of ss
none_gone k [] l = refl
none_gone zero (s ∷ ss) l = absurd (l (omega arith))
none_gone (suc k) (s ∷ ss) l = ap (λ (vs : List ClientView). client_of s ∷ vs) (none_gone k ss (λ m. l (omega (arith, m))))

-- a port closes
closing_other : (q : PortId) (d : DoorView) → same_port q d.port ≡ false → closing q (port_of d) ≡ port_of d
closing_other q d e = rw e refl

pub ports_unclosed : (q : PortId) (ds : List DoorView) → NoneAt q ds → map (closing q) (map port_of ds) ≡ map port_of ds
ports_unclosed q [] h = refl
ports_unclosed q (d ∷ ds) h = let e = closing_other q d h.0 in let r = ports_unclosed q ds h.1 in cc

closing_own : (q : PortId) (d : DoorView) → d.port ≡ q → port_of (closed_door d) ≡ closing q (port_of d)
closing_own q d e = let t : same_port q d.port ≡ true = ap (same_port q) e ∙ same_port-refl q in rw t refl

pub ports_closed : (q : PortId) (k : ℕ) (ds : List DoorView) (d : DoorView) → k < length ds → (get_or ds k d).port ≡ q → PortsApart ds → map port_of (set ds k (closed_door (get_or ds k d))) ≡ map (closing q) (map port_of ds)
ports_closed q k [] d l at h = absurd (omega arith)
ports_closed q zero (x ∷ ds) d l at h =
    let own = closing_own q x at in
    let rest = ports_unclosed q ds (subst (λ (p : PortId). NoneAt p ds) at h.0) in
    cc
ports_closed q (suc k) (x ∷ ds) d l at h =
    let none : same_port x.port q ≡ false = none_at x.port q k ds d (omega arith) at h.0 in
    let other = closing_other q x (same_port-sym x.port q none) in
    let rest = ports_closed q k ds d (omega arith) at h.1 in
    cc

-- one after another

pub gone_clients-more : (cs : List ClientEnd) (c : ClientEnd) (vs : List ClientView) → gone_clients (cs ++ c ∷ []) vs ≡ gone (gone_clients cs vs) c.id
gone_clients-more [] c vs = refl
gone_clients-more (d ∷ cs) c vs = gone_clients-more cs c (gone vs d.id)

pub gone_ports-more : (is : List InboxEnd) (i : InboxEnd) (ps : List PortView) → gone_ports (is ++ i ∷ []) ps ≡ map (closing i.port) (gone_ports is ps)
gone_ports-more [] i ps = refl
gone_ports-more (j ∷ is) i ps = gone_ports-more is i (map (closing j.port) ps)
