-- What a call gives has room, where its places were found.
use Rattle.std.proofs.Common.{◌≡◌, ℕ, zero, suc, ◌+◌, ◌*◌, ◌<◌, ◌≤◌, ◌==◌, ◌&&◌, Bool, true, false, cond, List, ◌∷◌, ◌++◌, length, map, refl, sym, ap, ◌∙◌, subst, arith, eqb-true, []}
use Rattle.pgn_ids.specs.declared.address.Address.{Address}
use Rattle.port_table.specs.declared.port.PortId.{PortId}
use Rattle.message_events.specs.declared.event.Event.{Event}
use Rattle.message_events.specs.declared.event.Event.TheVariants as event
use Rattle.segment_law.specs.Segment.{Segment}
use Rattle.segment_law.specs.Readers.{ports_given}
use Rattle.live_record.specs.Replies.{EachAt, EachShort, expected}
use Rattle.live_record.proofs.Replies.{none_short}
use Rattle.segment_rings.specs.declared.words.Delivery.{Delivery}
use Rattle.segment_rings.specs.Views.{DoorView}
use Rattle.live_calls.specs.declared.call.WorkerCall.{WorkerCall}
use Rattle.live_calls.specs.declared.call.WorkerCall.TheVariants.{Pump, Transmit, Take, TakeAgain, Overrun, Tick, Fire, Cancel, Inject, Pause, Resume}
use Rattle.live_calls.specs.Words.{call_of, wanted_by}
use Rattle.live_record.specs.Record.{given}
use Rattle.live_segment.specs.LiveView.{port_of, SparesClosed}
use Rattle.live_ends.specs.Places.{times, HasPlaces, HavePlaces, TakesAll, AtLeast, EnoughFor}
use Rattle.live_calls.specs.Places.{IsFound}
use Rattle.live_ends.proofs.Lists.{no_items}
use Rattle.live_calls.proofs.Nothing.{have_none, at_least_0}

same_address : (a b : Address) → a.0 ≡ b.0 → a ≡ b
same_address a b e = λ i. record { 0 = e i }

-- each delivery to a port is one of those to its number
one_of : (x y : Bool) (d : Delivery) (rest : List Delivery) (n : ℕ) → length rest ≤ n → length (cond (x && y) (d ∷ []) [] ++ rest) ≤ cond {A = ℕ} y 1 0 + n
one_of true true d rest n l = omega (arith, l)
one_of true false d rest n l = omega (arith, l)
one_of false true d rest n l = omega (arith, l)
one_of false false d rest n l = omega (arith, l)

pub given_times : (q : PortId) (es : List Event) → length (given q es) ≤ times q.number (ports_given es)
given_times q [] = omega arith
given_times q (event.Given p f t g b ∷ es) = one_of (p.station.0 == q.station.0) (p.number == q.number) (record { from = f; to = t; pgn = g; bytes = b }) (given q es) (times q.number (ports_given es)) (given_times q es)
given_times q (event.Outcome f t n o ∷ es) = given_times q es

-- at another station nothing is given
pub given_elsewhere : (a : Address) (n : ℕ) (q : PortId) (es : List Event) → (a.0 == q.station.0) ≡ false → EachAt a n es → given q es ≡ []
given_elsewhere a n q [] other h = refl
given_elsewhere a n q (event.Given p f t g b ∷ es) other h =
    let e : (p.station.0 == q.station.0) ≡ false = ap (λ (s : Address). s.0 == q.station.0) h.0.0 ∙ other in
    rw e (given_elsewhere a n q es other h.1)
given_elsewhere a n q (event.Outcome f t k o ∷ es) other h = given_elsewhere a n q es other h.1

door_takes : (a : Address) (n : ℕ) (es : List Event) (d : DoorView) → EachAt a n es → HasPlaces a (ports_given es) d → (length (given d.port es) ≤ d.free) × (length (given d.port es) ≤ d.spare)
door_takes a n es d at h = by (a.0 == d.port.station.0) refl
  where
    by : (b : Bool) → (a.0 == d.port.station.0) ≡ b → (length (given d.port es) ≤ d.free) × (length (given d.port es) ≤ d.spare)
    by true e =
        let own = h (sym (same_address a d.port.station (eqb-true a.0 d.port.station.0 e))) in
        let l = given_times d.port es in
        (omega (arith, l, own.0), omega (arith, l, own.1))
    by false e = let z : length (given d.port es) ≡ 0 = ap length (given_elsewhere a n d.port es e at) in (omega (arith, z), omega (arith, z))

pub takes_all : (a : Address) (n : ℕ) (es : List Event) (ds : List DoorView) → EachAt a n es → HavePlaces a (ports_given es) ds → TakesAll es ds
takes_all a n es [] at h = tt
takes_all a n es (d ∷ ds) at h = let t = door_takes a n es d at h.0 in (t.0, t.1, takes_all a n es ds at h.1)

each_short : (a : Address) (n : ℕ) (es : List Event) → EachAt a n es → EachShort n es
each_short a n [] h = tt
each_short a n (event.Given p f t g b ∷ es) h = (h.0.1, each_short a n es h.1)
each_short a n (event.Outcome f t k o ∷ es) h = (tt, each_short a n es h.1)

-- a closed port is given nothing
door_spares : (a : Address) (n : ℕ) (es : List Event) (d : DoorView) → EachAt a n es → HasPlaces a (ports_given es) d → d.active ≡ false → given d.port es ≡ []
door_spares a n es d at h closed = by (a.0 == d.port.station.0) refl
  where
    none : (k : ℕ) → length (given d.port es) ≤ k → (0 < k → d.active ≡ true) → given d.port es ≡ []
    none zero l open' = no_items (given d.port es) l
    none (suc k) l open' = absurd (let e : true ≡ false = sym (open' (omega arith)) ∙ closed in cc)

    by : (b : Bool) → (a.0 == d.port.station.0) ≡ b → given d.port es ≡ []
    by true e =
        let own = h (sym (same_address a d.port.station (eqb-true a.0 d.port.station.0 e))) in
        none (times d.port.number (ports_given es)) (given_times d.port es) own.2
    by false e = given_elsewhere a n d.port es e at

pub spares_closed : (a : Address) (n : ℕ) (es : List Event) (ds : List DoorView) → EachAt a n es → HavePlaces a (ports_given es) ds → SparesClosed es (map port_of ds)
spares_closed a n es [] at h = tt
spares_closed a n es (d ∷ ds) at h = (λ closed. door_spares a n es d at h.0 closed, spares_closed a n es ds at h.1)

-- what was made ready for what a call gives
abbrev pub AreReady : List Event → List DoorView → (buffers : List ℕ) → Type 0
AreReady es ds bs = TakesAll es ds × ((m : ℕ) × EnoughFor m es bs) × SparesClosed es (map port_of ds)

pub none_ready : (a : Address) (n : ℕ) (es : List Event) (ds : List DoorView) (bs : List ℕ) → ports_given es ≡ [] → EachAt a n es → AreReady es ds bs
none_ready a n es ds bs none at =
    let places : HavePlaces a (ports_given es) ds = subst (λ (ns : List ℕ). HavePlaces a ns ds) (sym none) (have_none a ds) in (
      takes_all a n es ds at places,
      (0, record { enough = (let l : length (ports_given es) ≡ 0 = ap length none in omega (arith, l)); long = at_least_0 bs; short = none_short 0 es none }),
      spares_closed a n es ds at places,
    )

some_ready : (a : Address) (ns : List ℕ) (n : ℕ) (es : List Event) (ds : List DoorView) (bs : List ℕ) → ports_given es ≡ ns → EachAt a n es → HavePlaces a ns ds → 2 * length ns ≤ length bs → AtLeast n bs → AreReady es ds bs
some_ready a ns n es ds bs is at found enough long =
    let places : HavePlaces a (ports_given es) ds = subst (λ (ms : List ℕ). HavePlaces a ms ds) (sym is) found in (
      takes_all a n es ds at places,
      (n, record { enough = (let l : length (ports_given es) ≡ length ns = ap length is in omega (arith, l, enough)); long = long; short = each_short a n es at }),
      spares_closed a n es ds at places,
    )

pub found_ready : (st : Segment) (call : WorkerCall) (room : Bool) (es : List Event) (ds : List DoorView) (bs : List ℕ) → IsFound (wanted_by st call) ds room bs
    → ports_given es ≡ (expected st (call_of call room)).1.0 → EachAt (expected st (call_of call room)).0 (expected st (call_of call room)).1.1 es → AreReady es ds bs
found_ready st (Take a) true es ds bs f p h = some_ready a _ _ es ds bs p h f.0 f.1.0 f.1.1
found_ready st (TakeAgain a) true es ds bs f p h = some_ready a _ _ es ds bs p h f.0 f.1.0 f.1.1
found_ready st (Take a) false es ds bs f p h = none_ready _ _ es ds bs p h
found_ready st (TakeAgain a) false es ds bs f p h = none_ready _ _ es ds bs p h
found_ready st (Pump a to) room es ds bs f p h = none_ready _ _ es ds bs p h
found_ready st (Transmit a) room es ds bs f p h = none_ready _ _ es ds bs p h
found_ready st (Overrun a n) room es ds bs f p h = none_ready _ _ es ds bs p h
found_ready st (Tick n) room es ds bs f p h = none_ready _ _ es ds bs p h
found_ready st (Fire a) room es ds bs f p h = none_ready _ _ es ds bs p h
found_ready st (Cancel a to n) room es ds bs f p h = none_ready _ _ es ds bs p h
found_ready st (Inject frame) room es ds bs f p h = none_ready _ _ es ds bs p h
found_ready st (Pause q) room es ds bs f p h = none_ready _ _ es ds bs p h
found_ready st (Resume q) room es ds bs f p h = none_ready _ _ es ds bs p h

-- without room nothing is given
pub none_given : (st : Segment) (call : WorkerCall) (room : Bool) (es : List Event) → room ≡ false → ports_given es ≡ (expected st (call_of call room)).1.0 → ports_given es ≡ []
none_given st call true es e p = absurd (cc)
none_given st (Take a) false es e p = p
none_given st (TakeAgain a) false es e p = p
none_given st (Pump a to) false es e p = p
none_given st (Transmit a) false es e p = p
none_given st (Overrun a n) false es e p = p
none_given st (Tick n) false es e p = p
none_given st (Fire a) false es e p = p
none_given st (Cancel a to n) false es e p = p
none_given st (Inject frame) false es e p = p
none_given st (Pause q) false es e p = p
none_given st (Resume q) false es e p = p
