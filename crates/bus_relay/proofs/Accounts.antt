-- What a relay did is what the records of the two segments say of its inbox and its client.
use Rattle.std.proofs.Common.{◌≡◌, ℕ, ◌+◌, ◌≤◌, cond, nat_lt, ltb-false, Bool, true, false, List, [], ◌∷◌, ◌++◌, length, map, take, refl, sym, ◌∙◌, ap, ap₂, subst, arith, length-append}
use Rattle.std.proofs.lemmas.Bool.{false≢true}
use Rattle.std.proofs.lemmas.List.{append-nil, take_all, take-append-le, nil_from_length}
use mathlib.Core.List.{IsPrefix}
use Rattle.pgn_ids.specs.declared.address.Address.{Address}
use Rattle.port_table.specs.declared.port.PortId.{PortId}
use Rattle.segment_rings.specs.declared.words.Submission.{Submission}
use Rattle.segment_rings.specs.declared.words.Delivery.{Delivery}
use Rattle.segment_rings.specs.Ends.{ClientEnd, InboxEnd}
use Rattle.stored_calls.specs.declared.stored.Stored.{Stored}
use Rattle.script_segments.specs.Reports.{ClientReport, InboxReport, AreClientReports, AreInboxReports}
use Rattle.script_segments.specs.LiveView.{LiveView, Laws}
use Rattle.script_segments.proofs.Reports.{left_uncut, rest_uncut}
use Rattle.live_record.specs.Record.{accepted, given, notes_of, trail}
use Rattle.live_record.proofs.Prefixes.{prefix_length}
use Rattle.port_relay.specs.Relaying.{IsRelayed}
use Rattle.port_relay.specs.Working.{relayed_to}
use Rattle.port_relay.specs.declared.relaying.Relayed.{Relayed}
use Rattle.script_segments.specs.declared.relay.gateway.Passage.{Passage}
use Rattle.bus_relay.specs.declared.carrying.Carried.{Carried}
use Rattle.bus_relay.specs.declared.text.Carriage.{Carriage}
use Rattle.bus_relay.specs.Carriages.{HasCarried, IsBy, place_of, none_left, port_given, IsCarried, IsCarriedWhole}

-- Ends that were new, behind one relay

front_of : {X : Type 0} (xs ys : List X) (n : ℕ) → n ≡ length xs → xs ≡ take n (xs ++ ys)
front_of xs ys n e = sym (take-append-le n xs ys (omega (arith, e)) ∙ take_all n xs (omega (arith, e)))

pub at_carried : (to : Address) (limit : ℕ) (i j : InboxEnd) (c d e : ClientEnd) (r : Relayed) (left : ℕ) → length i.received ≡ 0 → length c.submitted ≡ 0 → IsRelayed to limit i j c d r → e.submitted ≡ d.submitted → left ≡ length r.left.items
    → HasCarried (record { inbox = j; client = e; to = to; limit = limit; pulled = r.pulled; pushed = r.pushed; left = left })
at_carried to limit i j c d e r left new_inbox new_client did same is_left =
    let received : j.received ≡ did.pushed ++ r.left.items = ap (λ (x : InboxEnd). x.received) did.inbox ∙ ap (λ (ds : List Delivery). ds ++ (did.pushed ++ r.left.items)) (nil_from_length i.received new_inbox) in
    let submitted : e.submitted ≡ map (relayed_to to) did.pushed = same ∙ ap (λ (x : ClientEnd). x.submitted) did.client ∙ ap (λ (ss : List Submission). ss ++ map (relayed_to to) did.pushed) (nil_from_length c.submitted new_client) in
    let front : did.pushed ≡ take r.pushed j.received = front_of did.pushed r.left.items r.pushed did.count_pushed ∙ ap (λ (ds : List Delivery). take r.pushed ds) (sym received) in
    let long : length (did.pushed ++ r.left.items) ≡ length did.pushed + length r.left.items = length-append did.pushed r.left.items in
    record {
      counted = omega (arith, long, did.count_pulled, did.count_pushed, is_left);
      pulled = ap (λ (ds : List Delivery). length ds) received ∙ sym did.count_pulled;
      submitted = submitted ∙ ap (λ (ds : List Delivery). map (relayed_to to) ds) front;
      within = did.within;
    }

-- What is reported of the last inbox and the last client

last_inbox : (v : LiveView) (is : List InboxEnd) (i : InboxEnd) (rs : List InboxReport) → Laws v → v.pieces ≡ [] → AreInboxReports v (is ++ i ∷ []) rs → IsPrefix i.received (given i.port (trail v.addresses v.calls).events)
last_inbox v [] i [] laws uncut h = absurd h
last_inbox v [] i (r ∷ rs) laws uncut h = (r.rest.items, rest_uncut v i r.rest.items laws uncut h.0.rest)
last_inbox v (j ∷ is) i [] laws uncut h = absurd h
last_inbox v (j ∷ is) i (r ∷ rs) laws uncut h = last_inbox v is i rs laws uncut h.1

pub at_inbox : (a : LiveView) (addresses : List Address) (calls : List Stored) (is js : List InboxEnd) (i : InboxEnd) (rs : List InboxReport) → Laws a → a.pieces ≡ [] → addresses ≡ a.addresses → calls ≡ a.calls → AreInboxReports a js rs → js ≡ is ++ i ∷ [] → IsPrefix i.received (given i.port (trail addresses calls).events)
at_inbox a addresses calls is js i rs laws uncut at_addresses at_calls reports ends =
    let first : IsPrefix i.received (given i.port (trail a.addresses a.calls).events) = last_inbox a is i rs laws uncut (subst (λ (xs : List InboxEnd). AreInboxReports a xs rs) ends reports) in
    subst (λ (xs : List Address). IsPrefix i.received (given i.port (trail xs calls).events)) (sym at_addresses) (subst (λ (xs : List Stored). IsPrefix i.received (given i.port (trail a.addresses xs).events)) (sym at_calls) first)

none_first : (r : ClientReport) (rs : List ClientReport) → none_left (r ∷ rs) ≡ true → r.left.items ≡ []
none_first r rs h = by (nat_lt 0 (length r.left.items)) refl h
  where
    by : (b : Bool) → nat_lt 0 (length r.left.items) ≡ b → cond b false (none_left rs) ≡ true → r.left.items ≡ []
    by true e k = absurd (false≢true k)
    by false e k = nil_from_length r.left.items (let n = ltb-false 0 (length r.left.items) e in omega arith)

none_next : (r : ClientReport) (rs : List ClientReport) → none_left (r ∷ rs) ≡ true → none_left rs ≡ true
none_next r rs h = by (nat_lt 0 (length r.left.items)) h
  where
    by : (b : Bool) → cond b false (none_left rs) ≡ true → none_left rs ≡ true
    by true k = absurd (false≢true k)
    by false k = k

-- what was accepted of the last client, and then what is left; nothing is, where nothing is left of any
Accounted : LiveView → ClientEnd → List ClientReport → Type 0
Accounted v c rs = (left : List Submission) × (c.submitted ≡ accepted c.id v.calls ++ left) × (none_left rs ≡ true → left ≡ [])

last_client : (v : LiveView) (cs : List ClientEnd) (c : ClientEnd) (rs : List ClientReport) → v.pieces ≡ [] → AreClientReports v (cs ++ c ∷ []) rs → Accounted v c rs
unfolding Accounted
last_client v [] c [] uncut h = absurd h
last_client v [] c (r ∷ rs) uncut h = (r.left.items, left_uncut v c r uncut h.0, none_first r rs)
last_client v (d ∷ cs) c [] uncut h = absurd h
last_client v (d ∷ cs) c (r ∷ rs) uncut h = let rest = last_client v cs c rs uncut h.1 in (rest.0, rest.1, λ e. rest.2 (none_next r rs e))

accounts : (a : LiveView) (cs ds : List ClientEnd) (c : ClientEnd) (rs : List ClientReport) → a.pieces ≡ [] → AreClientReports a ds rs → ds ≡ cs ++ c ∷ [] → Accounted a c rs
accounts a cs ds c rs uncut reports ends = last_client a cs c rs uncut (subst (λ (xs : List ClientEnd). AreClientReports a xs rs) ends reports)

pub at_client : (a : LiveView) (calls : List Stored) (cs ds : List ClientEnd) (c : ClientEnd) (rs : List ClientReport) → a.pieces ≡ [] → calls ≡ a.calls → AreClientReports a ds rs → ds ≡ cs ++ c ∷ [] → IsPrefix (accepted c.id calls) c.submitted
unfolding Accounted
at_client a calls cs ds c rs uncut same_calls reports ends =
    let told = accounts a cs ds c rs uncut reports ends in
    (told.0, ap (λ (xs : List Stored). accepted c.id xs ++ told.0) same_calls ∙ sym told.1)

pub at_all_accepted : (a : LiveView) (calls : List Stored) (cs ds : List ClientEnd) (c : ClientEnd) (rs us : List ClientReport) (all : Bool) → a.pieces ≡ [] → calls ≡ a.calls → AreClientReports a ds rs → ds ≡ cs ++ c ∷ [] → all ≡ none_left us → us ≡ rs → all ≡ true → accepted c.id calls ≡ c.submitted
unfolding Accounted
at_all_accepted a calls cs ds c rs us all uncut same_calls reports ends is same is_all =
    let told = accounts a cs ds c rs uncut reports ends in
    let none : told.0 ≡ [] = told.2 (ap none_left (sym same) ∙ sym is ∙ is_all) in
    ap (λ (xs : List Stored). accepted c.id xs) same_calls ∙ sym (told.1 ∙ ap (λ (ss : List Submission). accepted c.id a.calls ++ ss) none ∙ append-nil (accepted c.id a.calls))

-- The relay, in the records

same_ports : (p q : PortId) → p.station.0 ≡ q.station.0 → p.number ≡ q.number → p ≡ q
same_ports p q e f = ap₂ (λ (s n : ℕ). record { station = record { 0 = s }; number = n }) e f

same_addresses : (a b : Address) → a.0 ≡ b.0 → a ≡ b
same_addresses a b e = ap (λ (n : ℕ). record { 0 = n }) e

abbrev carriage_of : Carried → Carriage
carriage_of c = record { pulled = c.pulled; pushed = c.pushed; left = c.left }

-- what the port was given begins with what the inbox received
given_to_port : (c : Carried) (p : Passage) (n : ℕ) (near : LiveView) → IsBy c p n → IsPrefix c.inbox.received (given c.inbox.port (trail near.addresses near.calls).events) → IsPrefix c.inbox.received (port_given p near)
given_to_port c p n near by h = subst (λ (q : PortId). IsPrefix c.inbox.received (given q (trail near.addresses near.calls).events)) (same_ports c.inbox.port p.port by.station by.number) h

-- what the client submitted are the first messages that the port was given
submitted_front : (c : Carried) (p : Passage) (n : ℕ) (near : LiveView) → HasCarried c → IsBy c p n → IsPrefix c.inbox.received (port_given p near) → c.client.submitted ≡ map (relayed_to p.to) (take c.pushed (port_given p near))
submitted_front c p n near did by h =
    let less : c.pushed ≤ length c.inbox.received = omega (arith, did.counted, did.pulled) in
    let front : take c.pushed c.inbox.received ≡ take c.pushed (port_given p near) = sym (take-append-le c.pushed c.inbox.received h.0 less) ∙ ap (λ (ds : List Delivery). take c.pushed ds) h.1 in
    did.submitted ∙ ap₂ (λ (to : Address) (ds : List Delivery). map (relayed_to to) ds) (same_addresses c.to p.to by.to) front

pub at_relay : (c : Carried) (p : Passage) (stations : List Address) (n : ℕ) (near far : LiveView) → HasCarried c → n ≡ place_of p.from stations → IsBy c p n → IsPrefix c.inbox.received (given c.inbox.port (trail near.addresses near.calls).events) → IsPrefix (accepted c.client.id far.calls) c.client.submitted
    → IsCarried p stations (carriage_of c) near far
at_relay c p stations n near far did number by received begun =
    let gave : IsPrefix c.inbox.received (port_given p near) = given_to_port c p n near by received in
    let long : length c.inbox.received ≤ length (port_given p near) = prefix_length _ _ gave in
    let front : c.client.submitted ≡ map (relayed_to p.to) (take c.pushed (port_given p near)) = submitted_front c p n near did by gave in
    record {
      counted = did.counted;
      within = omega (arith, did.within, by.limit);
      received = omega (arith, long, did.pulled);
      sent = subst (λ (id : ℕ). IsPrefix (accepted id far.calls) (map (relayed_to p.to) (take c.pushed (port_given p near)))) (by.id ∙ number) (subst (λ (ss : List Submission). IsPrefix (accepted c.client.id far.calls) ss) front begun);
    }

pub at_whole : (c : Carried) (p : Passage) (stations : List Address) (n : ℕ) (near far : LiveView) → HasCarried c → n ≡ place_of p.from stations → IsBy c p n → IsPrefix c.inbox.received (given c.inbox.port (trail near.addresses near.calls).events) → accepted c.client.id far.calls ≡ c.client.submitted
    → c.left ≡ 0 → p.limit ≤ c.pulled → c.pushed ≤ length (notes_of n (trail far.addresses far.calls).noted) → IsCarriedWhole p stations (carriage_of c) near far
at_whole c p stations n near far did number by received all none_stays enough noted =
    let gave : IsPrefix c.inbox.received (port_given p near) = given_to_port c p n near by received in
    let front : c.client.submitted ≡ map (relayed_to p.to) (take c.pushed (port_given p near)) = submitted_front c p n near did by gave in
    let pushed : c.pushed ≡ p.limit = omega (arith, did.counted, did.within, by.limit, none_stays, enough) in
    let sent : accepted n far.calls ≡ map (relayed_to p.to) (take p.limit (port_given p near)) = ap (λ (id : ℕ). accepted id far.calls) (sym by.id) ∙ all ∙ front ∙ ap (λ (k : ℕ). map (relayed_to p.to) (take k (port_given p near))) pushed in
    record {
      left = none_stays;
      pulled = omega (arith, did.counted, none_stays, pushed);
      sent = ap (λ (k : ℕ). accepted k far.calls) (sym number) ∙ sent;
      noted = subst (λ (k : ℕ). p.limit ≤ length (notes_of k (trail far.addresses far.calls).noted)) number (omega (arith, noted, pushed));
    }
