-- What deliveries do to the doors.
use Rattle.std.proofs.Common.{◌≡◌, ℕ, zero, suc, ◌+◌, ◌-◌, ◌<◌, ◌==◌, ◌&&◌, true, false, List, ◌∷◌, ◌++◌, length, set, get_or, take, refl, sym, ◌∙◌, ap, subst, arith, append-nil, append_assoc, length-append, []}
use Rattle.std.proofs.lemmas.Bool.Decides.{nat_tests}
use Rattle.pgn_ids.specs.declared.address.Address.{Address}
use Rattle.port_table.specs.declared.port.PortId.{PortId}
use Rattle.message_events.specs.declared.event.Event.{Event}
use Rattle.message_events.specs.declared.event.Event.TheVariants as event
use Rattle.segment_law.specs.Told.{same_port}
use Rattle.segment_law.specs.Readers.{ports_given}
use Rattle.segment_rings.specs.declared.words.Delivery.{Delivery}
use Rattle.segment_rings.specs.Views.{DoorView, with_delivery, SameDoor}
use Rattle.live_record.specs.Record.{given}
use Rattle.live_ends.specs.Ends.{NoneAt, PortsApart, give_door, give_all, SameDoors}
use Rattle.live_ends.specs.Places.{TakesAll}
use Rattle.live_record.proofs.Trails.{given-append}

same_door-refl : (d : DoorView) → SameDoor d d
same_door-refl d = record { port = refl; active = refl; places = refl; pushed = refl; named = refl; free = omega arith; gone = refl; spare = omega arith }

pub same_doors-refl : (ds : List DoorView) → SameDoors ds ds
same_doors-refl [] = tt
same_doors-refl (d ∷ ds) = (same_door-refl d, same_doors-refl ds)

pub same_doors-trans : (ds es gs : List DoorView) → SameDoors ds es → SameDoors es gs → SameDoors ds gs
same_doors-trans [] [] [] s t = tt
same_doors-trans [] [] (g ∷ gs) s t = absurd t
same_doors-trans [] (e ∷ es) gs s t = absurd s
same_doors-trans (d ∷ ds) [] gs s t = absurd s
same_doors-trans (d ∷ ds) (e ∷ es) [] s t = absurd t
same_doors-trans (d ∷ ds) (e ∷ es) (g ∷ gs) s t = (
  record {
    port = t.0.port ∙ s.0.port;
    active = t.0.active ∙ s.0.active;
    places = t.0.places ∙ s.0.places;
    pushed = t.0.pushed ∙ s.0.pushed;
    named = t.0.named ∙ s.0.named;
    free = omega (arith, s.0.free, t.0.free);
    gone = t.0.gone ∙ s.0.gone;
    spare = omega (arith, s.0.spare, t.0.spare);
  },
  same_doors-trans ds es gs s.1 t.1,
)

pub same_doors-length : (ds es : List DoorView) → SameDoors ds es → length es ≡ length ds
same_doors-length [] [] s = refl
same_doors-length [] (e ∷ es) s = absurd s
same_doors-length (d ∷ ds) [] s = absurd s
same_doors-length (d ∷ ds) (e ∷ es) s = ap suc (same_doors-length ds es s.1)

pub same_doors-set : (ds : List DoorView) (i : ℕ) (d e : DoorView) → i < length ds → SameDoor (get_or ds i d) e → SameDoors ds (set ds i e)
same_doors-set [] i d e l s = absurd (omega arith)
same_doors-set (x ∷ ds) zero d e l s = (s, same_doors-refl ds)
same_doors-set (x ∷ ds) (suc i) d e l s = (same_door-refl x, same_doors-set ds i d e (omega arith) s)

pub none-same : (p : PortId) (ds es : List DoorView) → SameDoors ds es → NoneAt p ds → NoneAt p es
none-same p [] [] s n = tt
none-same p [] (e ∷ es) s n = absurd s
none-same p (d ∷ ds) [] s n = tt
none-same p (d ∷ ds) (e ∷ es) s n = (ap (same_port p) s.0.port ∙ n.0, none-same p ds es s.1 n.1)

pub apart-same : (ds es : List DoorView) → SameDoors ds es → PortsApart ds → PortsApart es
apart-same [] [] s n = tt
apart-same [] (e ∷ es) s n = absurd s
apart-same (d ∷ ds) [] s n = tt
apart-same (d ∷ ds) (e ∷ es) s n = (subst (λ (p : PortId). NoneAt p es) (sym s.0.port) (none-same d.port ds es s.1 n.0), apart-same ds es s.1 n.1)

pub none_more : (p : PortId) (ds : List DoorView) (i : ℕ) (d : DoorView) → i < length ds → same_port p (get_or ds i d).port ≡ false → NoneAt p (take i ds) → NoneAt p (take (suc i) ds)
none_more p [] i d l e n = tt
none_more p (x ∷ ds) zero d l e n = (e, tt)
none_more p (x ∷ ds) (suc i) d l e n = (n.0, none_more p ds i d (omega arith) e n.1)

-- one message is given
port_sym : (a b c d : ℕ) → ((a == b) && (c == d)) ≡ ((b == a) && (d == c))
port_sym a b c d = grind (arith, nat_tests)

port_refl : (a c : ℕ) → ((a == a) && (c == c)) ≡ true
port_refl a c = grind (arith, nat_tests)

pub same_port-sym : (p q : PortId) → same_port p q ≡ false → same_port q p ≡ false
same_port-sym p q h = port_sym q.station.0 p.station.0 q.number p.number ∙ h

pub same_port-refl : (p : PortId) → same_port p p ≡ true
same_port-refl p = port_refl p.station.0 p.number

pub none_at : (p q : PortId) (i : ℕ) (ds : List DoorView) (d : DoorView) → i < length ds → (get_or ds i d).port ≡ q → NoneAt p ds → same_port p q ≡ false
none_at p q i [] d l at n = absurd (omega arith)
none_at p q zero (x ∷ ds) d l at n = ap (same_port p) (sym at) ∙ n.0
none_at p q (suc i) (x ∷ ds) d l at n = none_at p q i ds d (omega arith) at n.1

give_door-same : (es : List Event) (d : DoorView) → given d.port es ≡ [] → give_door es d ≡ d
give_door-same es d e =
    let a : d.pushed ++ given d.port es ≡ d.pushed = rw e (append-nil d.pushed) in
    let l : length (given d.port es) ≡ 0 = ap length e in
    let f : d.free - length (given d.port es) ≡ d.free = omega arith in
    let p : d.spare - length (given d.port es) ≡ d.spare = omega arith in
    ap (λ (n : List Delivery). record d { pushed = n; free = d.free - length (given d.port es); spare = d.spare - length (given d.port es) }) a
    ∙ ap (λ (n : ℕ). record d { free = n; spare = d.spare - length (given d.port es) }) f
    ∙ ap (λ (n : ℕ). record d { spare = n }) p

pub give_all_none : (es : List Event) (ds : List DoorView) → ((q : PortId) → given q es ≡ []) → give_all es ds ≡ ds
give_all_none es [] z = refl
give_all_none es (d ∷ ds) z = let a = give_door-same es d (z d.port) in let b = give_all_none es ds z in cc

module _ (p : PortId) (f t : Address) (g : ℕ) (b : List ℕ) where
  abbrev one : List Event
  one = event.Given p f t g b ∷ []

  abbrev it : Delivery
  it = record { from = f; to = t; pgn = g; bytes = b }

  own_given : given p one ≡ it ∷ []
  own_given = rw (same_port-refl p) refl

  other_given : (q : PortId) → same_port p q ≡ false → given q one ≡ []
  other_given q h = rw h refl

  pub give_absent : (ds : List DoorView) → NoneAt p ds → give_all one ds ≡ ds
  give_absent [] a = refl
  give_absent (d ∷ ds) a = let x = give_door-same one d (other_given d.port a.0) in let y = give_absent ds a.1 in cc

  -- to the port of the i-th door
  pub give_at : (i : ℕ) (ds : List DoorView) (d : DoorView) → i < length ds → (get_or ds i d).port ≡ p → PortsApart ds → set ds i (with_delivery (get_or ds i d) it) ≡ give_all one ds
  give_at i [] d l at a = absurd (omega arith)
  give_at zero (y ∷ ds) d l at a =
      let r = give_absent ds (subst (λ (q : PortId). NoneAt q ds) at a.0) in
      let own : given y.port one ≡ it ∷ [] = ap (λ (q : PortId). given q one) at ∙ own_given in
      let c : give_door one y ≡ with_delivery y it = rw own refl in
      cc
  give_at (suc i) (y ∷ ds) d l at a =
      let none : same_port y.port p ≡ false = none_at y.port p i ds d (omega arith) at a.0 in
      let r : give_door one y ≡ y = give_door-same one y (other_given y.port (same_port-sym y.port p none)) in
      let c = give_at i ds d (omega arith) at a.1 in
      cc

  -- it has room
  pub takes_at : (i : ℕ) (ds : List DoorView) (d : DoorView) → i < length ds → (get_or ds i d).port ≡ p → TakesAll one ds → (0 < (get_or ds i d).free) × (0 < (get_or ds i d).spare)
  takes_at i [] d l at h = absurd (omega arith)
  takes_at zero (y ∷ ds) d l at h =
      let own : given y.port one ≡ it ∷ [] = ap (λ (q : PortId). given q one) at ∙ own_given in
      let n : length (given y.port one) ≡ 1 = ap length own in
      (omega (arith, n, h.0), omega (arith, n, h.1))
  takes_at (suc i) (y ∷ ds) d l at h = takes_at i ds d (omega arith) at h.2

give_door-append : (xs ys : List Event) (d : DoorView) → give_door (xs ++ ys) d ≡ give_door ys (give_door xs d)
give_door-append xs ys d =
    let e = given-append d.port xs ys in
    let a : d.pushed ++ given d.port (xs ++ ys) ≡ (d.pushed ++ given d.port xs) ++ given d.port ys = rw e (sym (append_assoc d.pushed (given d.port xs) (given d.port ys))) in
    let l : length (given d.port (xs ++ ys)) ≡ length (given d.port xs) + length (given d.port ys) = rw e (length-append (given d.port xs) (given d.port ys)) in
    let f : d.free - length (given d.port (xs ++ ys)) ≡ d.free - length (given d.port xs) - length (given d.port ys) = omega arith in
    let p : d.spare - length (given d.port (xs ++ ys)) ≡ d.spare - length (given d.port xs) - length (given d.port ys) = omega arith in
    cc

pub give_all-append : (xs ys : List Event) (ds : List DoorView) → give_all (xs ++ ys) ds ≡ give_all ys (give_all xs ds)
give_all-append xs ys [] = refl
give_all-append xs ys (d ∷ ds) = let a = give_door-append xs ys d in let b = give_all-append xs ys ds in cc

-- the first events, and the rest
pub takes-front : (xs ys : List Event) (ds : List DoorView) → TakesAll (xs ++ ys) ds → TakesAll xs ds
takes-front xs ys [] h = tt
takes-front xs ys (d ∷ ds) h =
    let l : length (given d.port (xs ++ ys)) ≡ length (given d.port xs) + length (given d.port ys) = ap length (given-append d.port xs ys) ∙ length-append (given d.port xs) (given d.port ys) in
    (omega (arith, l, h.0), omega (arith, l, h.1), takes-front xs ys ds h.2)

pub takes-rest : (xs ys : List Event) (ds : List DoorView) → TakesAll (xs ++ ys) ds → TakesAll ys (give_all xs ds)
takes-rest xs ys [] h = tt
takes-rest xs ys (d ∷ ds) h =
    let l : length (given d.port (xs ++ ys)) ≡ length (given d.port xs) + length (given d.port ys) = ap length (given-append d.port xs ys) ∙ length-append (given d.port xs) (given d.port ys) in
    (omega (arith, l, h.0), omega (arith, l, h.1), takes-rest xs ys ds h.2)

none-give_all : (p : PortId) (ys : List Event) (ds : List DoorView) → NoneAt p ds → NoneAt p (give_all ys ds)
none-give_all p ys [] h = tt
none-give_all p ys (d ∷ ds) h = (h.0, none-give_all p ys ds h.1)

pub apart-give_all : (ys : List Event) (ds : List DoorView) → PortsApart ds → PortsApart (give_all ys ds)
apart-give_all ys [] h = tt
apart-give_all ys (d ∷ ds) h = (none-give_all d.port ys ds h.0, apart-give_all ys ds h.1)

-- nothing is given at any port
given_unplaced : (q : PortId) (es : List Event) → ports_given es ≡ [] → given q es ≡ []
given_unplaced q [] e = refl
given_unplaced q (event.Given p f t g b ∷ es) e = absurd (let z : p.number ∷ ports_given es ≡ [] = e in cc)
given_unplaced q (event.Outcome f t n o ∷ es) e = given_unplaced q es e

pub give_all_unplaced : (es : List Event) (ds : List DoorView) → ports_given es ≡ [] → give_all es ds ≡ ds
give_all_unplaced es ds e = give_all_none es ds (λ q. given_unplaced q es e)

pub length-give_all : (es : List Event) (ds : List DoorView) → length (give_all es ds) ≡ length ds
length-give_all es [] = refl
length-give_all es (d ∷ ds) = ap suc (length-give_all es ds)
