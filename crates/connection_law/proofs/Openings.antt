-- The call at which a session was asked for, in the words of records: it comes after the Sends that the mark counts, and the
-- ports that are due are those that were open then and weren't closed since.
use Rattle.std.proofs.Common.{◌≡◌, ◌⊎◌, inl, inr, ℕ, ◌+◌, ◌<◌, ◌≤◌, List, [], ◌∷◌, ◌++◌, length, refl, sym, ap, ◌∙◌, subst, arith}
use Rattle.std.proofs.lemmas.List.{map-append}
use Rattle.pgn_ids.specs.Pgn.{clean}
use Rattle.pgn_ids.specs.declared.address.Address.{Address}
use Rattle.port_table.specs.Ports.{Ports, ports_for}
use Rattle.port_table.specs.declared.port.Port.{Port}
use Rattle.port_table.specs.declared.port.PortId.{PortId}
use Rattle.segment_law.specs.Headline.{port_of, IsOpenedFor}
use Rattle.segment_law.specs.Told.{Message, Placed, places_of, opened_by, closed_by, sends, sent, openings, closings}
use Rattle.segment_law.specs.Numbering.{item, IsAfter}
use Rattle.segment_law.specs.Record.{Record}
use Rattle.segment_law.specs.declared.call.Call.{Call}
use Rattle.segment_law.specs.declared.reply.Reply.{Reply}
use Rattle.record_law.proofs.Lists.{Each, each_append, each_map, each_of_all, In, in_front, in_one, in_both, in_weaker, each_weaker}
use Rattle.record_law.proofs.Told.{after_all, after_more, told_last}
use Rattle.broadcast_law.proofs.Counted.{at_step}
use Rattle.broadcast_law.proofs.Numbered.{Giving}
use Rattle.record_law.proofs.ports.Ports.{Opens, Receives, found_receive}
use Rattle.record_law.proofs.ports.Lives.{Opened, IsKnown, Lives}
use Rattle.connection_law.proofs.View.{Mark, Has}
use Rattle.connection_law.proofs.Marks.{less_mark, has_without}
use Rattle.connection_law.proofs.Receiver.{mark_of}
use Rattle.connection_law.proofs.Tables.{Stands, stands_found}
use Rattle.connection_law.proofs.Tally.{as_long}

-- Lists

nil_front : {A : Type 0} (xs ys : List A) → xs ++ ys ≡ [] → xs ≡ []
nil_front [] ys e = refl
nil_front (x ∷ xs) ys e = absurd (cc)

nil_behind : {A : Type 0} (xs ys : List A) → xs ++ ys ≡ [] → ys ≡ []
nil_behind [] ys e = e
nil_behind (x ∷ xs) ys e = absurd (cc)

nil_step : {A : Type 0} (n : ℕ) (xs : List A) → at_step n xs ≡ [] → xs ≡ []
nil_step n [] e = refl
nil_step n (x ∷ xs) e = absurd (cc)

-- at a step everything is later than what came before
later_step : {A : Type 0} (n place : ℕ) (xs : List A) → place ≤ n → Each (λ (x : Placed A). place < x.0) (at_step n xs)
later_step {A} n place xs l = each_map (λ (x : Placed A). place < x.0) (λ x. (1 + n, x)) xs (each_of_all (λ x. place < 1 + n) (λ x. omega (arith, l)) xs)

-- an opening before this place, on this PGN and for so many bytes
abbrev pub Fits : (place pgn size : ℕ) → Placed (ℕ × ℕ) → Type 0
Fits place pgn size o = (o.0 < place) × (o.1.0 ≡ pgn) × (size ≤ o.1.1)

abbrev pub Is : (pgn len : ℕ) → Placed (ℕ × ℕ) → Type 0
Is pgn len o = (o.1.0 ≡ pgn) × (o.1.1 ≡ len)

module _ (place pgn size : ℕ) where
  in_earlier : (n : ℕ) (os : List (Placed (ℕ × ℕ))) (more : List (ℕ × ℕ)) → place ≤ 1 + n → In (Fits place pgn size) (os ++ at_step n more) → In (Fits place pgn size) os
  in_earlier n [] more l h = absurd (none more h)
    where
      none : (more : List (ℕ × ℕ)) → In (Fits place pgn size) (at_step n more) → ⊥
      none [] h = h
      none (x ∷ more) (inl k) = omega (arith, l, k.0)
      none (x ∷ more) (inr h) = none more h
  in_earlier n (o ∷ os) more l (inl h) = inl h
  in_earlier n (o ∷ os) more l (inr h) = inr (in_earlier n os more l h)

  in_as : (os : List (Placed (ℕ × ℕ))) → In (Fits place pgn size) os → (len : ℕ) × (size ≤ len) × In (Is pgn len) os
  in_as [] h = absurd h
  in_as (o ∷ os) (inl h) = (o.1.1, h.2, inl (h.1, refl))
  in_as (o ∷ os) (inr h) = (let (len, l, r) = in_as os h in (len, l, inr r))

-- an opening that is told now, or one before
pub in_either : (n pgn len : ℕ) (os : List (Placed (ℕ × ℕ))) (more : List (ℕ × ℕ)) → In (Is pgn len) (os ++ at_step n more) → In (Is pgn len) os ⊎ Has more (pgn, len)
in_either n pgn len [] more h = inr (now more h)
  where
    now : (more : List (ℕ × ℕ)) → In (Is pgn len) (at_step n more) → Has more (pgn, len)
    now [] h = absurd h
    now (x ∷ more) (inl k) = inl (λ i. (k.0 i, k.1 i))
    now (x ∷ more) (inr h) = inr (now more h)
in_either n pgn len (o ∷ os) more (inl h) = inl (inl h)
in_either n pgn len (o ∷ os) more (inr h) = by (in_either n pgn len os more h)
  where
    by : In (Is pgn len) os ⊎ Has more (pgn, len) → In (Is pgn len) (o ∷ os) ⊎ Has more (pgn, len)
    by (inl k) = inl (inr k)
    by (inr k) = inr k

less_has : (closed : List ℕ) (m : Mark) (p : ℕ) → (Has closed p → ⊥) → Has m.due p → Has (less_mark closed m).due p
less_has [] m p n h = h
less_has (c ∷ closed) m p n h = has_without c m.due p (λ e. n (inl (sym e))) h

-- before a session was asked for
abbrev pub no_mark : Mark
no_mark = record { count = 0; pgn = 0; size = 0; found = []; due = [] }

module _ (s d : Address) where
  abbrev pub opened_so : Record → ℕ → List (Placed (ℕ × ℕ))
  opened_so steps p = openings steps (port_of d p)

  abbrev pub closed_so : Record → ℕ → List (Placed PortId)
  closed_so steps p = closings steps (port_of d p)

  -- this many messages had been sent at earlier places
  abbrev pub AreSent : Record → (count place : ℕ) → Type 0
  AreSent steps count place = (n : ℕ) → 0 < n → n ≤ count → IsAfter (item (places_of (sends steps s d)) n) place

  -- at this place some port of d is open for it, and isn't closed then
  abbrev pub IsSomeOpen : Record → (place pgn size : ℕ) → Type 0
  IsSomeOpen steps place pgn size = (p : ℕ) × In (Fits place pgn size) (opened_so steps p) × Each (λ (c : Placed PortId). place < c.0) (closed_so steps p)

  -- the place of a mark
  pub record IsMarkedAt (steps : Record) (m : Mark) (place : ℕ) : Type 0 where
    pub past : place ≤ length steps
    pub after : AreSent steps m.count place
    pub covers : (p : ℕ) → In (Fits place (clean m.pgn) m.size) (opened_so steps p) → closed_so steps p ≡ [] → Has m.due p
    pub some : 0 < length m.found → IsSomeOpen steps place (clean m.pgn) m.size

  -- the place at which the ports of a giving were found
  pub record IsOpened (steps : Record) (g : Giving) : Type 0 where
    pub opening : ℕ
    pub turn : opening < g.place
    pub after : AreSent steps g.count opening
    pub some : IsSomeOpen steps opening g.message.0 (length g.message.1)
    pub all : (p : ℕ) → In (IsOpenedFor (opening, g.message)) (opened_so steps p) → Each (λ (c : Placed PortId). g.place < c.0) (closed_so steps p) → Has g.ports p

  pub marked_none : IsMarkedAt [] no_mark 0
  marked_none = record { past = omega arith; after = λ n some l. absurd (omega (arith, some, l)); covers = λ p h e. absurd h; some = λ l. absurd (omega (arith, l)) }

  module _ (steps : Record) (call : Call) (reply : Reply) where
    abbrev longer : Record
    longer = steps ++ (call, reply) ∷ []

    pub opened_more : (p : ℕ) → opened_so longer p ≡ opened_so steps p ++ at_step (length steps) (opened_by (port_of d p) call reply)
    opened_more p = told_last (λ step. opened_by (port_of d p) step.0 step.1) 1 steps (call, reply)

    pub closed_more : (p : ℕ) → closed_so longer p ≡ closed_so steps p ++ at_step (length steps) (closed_by (port_of d p) call reply)
    closed_more p = told_last (λ step. closed_by (port_of d p) step.0 step.1) 1 steps (call, reply)

    sends_more : sends longer s d ≡ sends steps s d ++ at_step (length steps) (Rattle.segment_law.specs.Told.sent_by s d call reply)
    sends_more = told_last (λ step. Rattle.segment_law.specs.Told.sent_by s d step.0 step.1) 1 steps (call, reply)

    pub still_open : (p : ℕ) → closed_so longer p ≡ [] → closed_so steps p ≡ []
    still_open p e = nil_front (closed_so steps p) (at_step (length steps) (closed_by (port_of d p) call reply)) (sym (closed_more p) ∙ e)

    -- nothing closes it now
    pub not_closed : (p : ℕ) → closed_so longer p ≡ [] → closed_by (port_of d p) call reply ≡ []
    not_closed p e = nil_step (length steps) (closed_by (port_of d p) call reply) (nil_behind (closed_so steps p) (at_step (length steps) (closed_by (port_of d p) call reply)) (sym (closed_more p) ∙ e))

    earlier : (place pgn size p : ℕ) → place ≤ 1 + length steps → In (Fits place pgn size) (opened_so longer p) → In (Fits place pgn size) (opened_so steps p)
    earlier place pgn size p l h = in_earlier place pgn size (length steps) (opened_so steps p) (opened_by (port_of d p) call reply) l (subst (In (Fits place pgn size)) (opened_more p) h)

    pub sent_more : (count place : ℕ) → AreSent steps count place → AreSent longer count place
    sent_more count place h n some l = subst (λ xs. IsAfter (item xs n) place) (sym (ap (λ (xs : List (Placed Message)). places_of xs) sends_more ∙ map-append (λ (x : Placed Message). x.0) (sends steps s d) (at_step (length steps) (Rattle.segment_law.specs.Told.sent_by s d call reply))))
        (after_more (places_of (sends steps s d)) (places_of (at_step (length steps) (Rattle.segment_law.specs.Told.sent_by s d call reply))) n place (h n some l))

    some_more : (place pgn size : ℕ) → place ≤ length steps → IsSomeOpen steps place pgn size → IsSomeOpen longer place pgn size
    some_more place pgn size l (p, o, c) = (
      p,
      subst (In (Fits place pgn size)) (sym (opened_more p)) (in_front (Fits place pgn size) (opened_so steps p) (at_step (length steps) (opened_by (port_of d p) call reply)) o),
      subst (Each (λ (c : Placed PortId). place < c.0)) (sym (closed_more p)) (each_append (λ (c : Placed PortId). place < c.0) (closed_so steps p) (at_step (length steps) (closed_by (port_of d p) call reply)) c (later_step (length steps) place (closed_by (port_of d p) call reply) l)),
    )

    longer_is : length longer ≡ 1 + length steps
    longer_is = let e : length longer ≡ length steps + 1 = Rattle.std.proofs.lemmas.List.length_push steps (call, reply) in omega (arith, e)

    -- A further call

    module _ (closed : List ℕ) (shut : (p : ℕ) → closed_by (port_of d p) call reply ≡ [] → Has closed p → ⊥) where
      pub marked_more : (m : Mark) (place : ℕ) → IsMarkedAt steps m place → IsMarkedAt longer (less_mark closed m) place
      marked_more m place h = by closed covers
        where
          covers : (p : ℕ) → In (Fits place (clean m.pgn) m.size) (opened_so longer p) → closed_so longer p ≡ [] → Has (less_mark closed m).due p
          covers p i e = less_has closed m p (shut p (not_closed p e)) (h.covers p (earlier place (clean m.pgn) m.size p (let l : place ≤ length steps = h.past in omega (arith, l)) i) (still_open p e))

          past : place ≤ length longer
          past = let l : place ≤ length steps = h.past in let e : length longer ≡ 1 + length steps = longer_is in omega (arith, l, e)

          by : (cs : List ℕ) → ((p : ℕ) → In (Fits place (clean m.pgn) m.size) (opened_so longer p) → closed_so longer p ≡ [] → Has (less_mark cs m).due p) → IsMarkedAt longer (less_mark cs m) place
          by [] w = record { past = past; after = sent_more m.count place h.after; covers = w; some = λ l. some_more place (clean m.pgn) m.size h.past (h.some l) }
          by (c ∷ cs) w = record { past = past; after = sent_more m.count place h.after; covers = w; some = λ l. some_more place (clean m.pgn) m.size h.past (h.some l) }

    pub opened_on : (g : Giving) → g.place ≤ length steps → IsOpened steps g → IsOpened longer g
    opened_on g l h = record {
      opening = h.opening;
      turn = h.turn;
      after = sent_more g.count h.opening h.after;
      some = some_more h.opening g.message.0 (length g.message.1) (let t : h.opening < g.place = h.turn in omega (arith, t, l)) h.some;
      all = λ p i c. h.all p (earlier h.opening g.message.0 (length g.message.1) p (let t : h.opening < g.place = h.turn in omega (arith, t, l)) i)
          (front (closed_so steps p) (at_step (length steps) (closed_by (port_of d p) call reply)) (subst (Each (λ (c : Placed PortId). g.place < c.0)) (closed_more p) c));
    }
      where
        front : (xs ys : List (Placed PortId)) → Each (λ (c : Placed PortId). g.place < c.0) (xs ++ ys) → Each (λ (c : Placed PortId). g.place < c.0) xs
        front [] ys k = tt
        front (x ∷ xs) ys k = (k.0, front xs ys k.1)

    -- A session is asked for at this call

    module _ (table : Ports) (stands : (p pgn len : ℕ) → In (Is pgn len) (opened_so steps p) → closed_so steps p ≡ [] → Stands p pgn len table.open_ports)
        (lives : (p : ℕ) → Lives p (length steps) (opened_so steps p) (closed_so steps p) table) (none : (p : ℕ) → closed_by (port_of d p) call reply ≡ []) where
      -- a port that is found was opened, and wasn't closed
      found_open : (pgn size p : ℕ) → Receives table.open_ports pgn size p → (closed_so steps p ≡ []) × In (Fits (1 + length steps) pgn size) (opened_so steps p)
      found_open pgn size p r = in_one Both ((closed_so steps p ≡ []) × In (Fits (1 + length steps) pgn size) (opened_so steps p)) (λ q b. known q b.0 (b.1 b.0.0)) table.open_ports
          (in_both (Opens pgn size p) (λ (q : Port). q.number ≡ p → IsKnown (length steps) (opened_so steps p) (closed_so steps p) q) Both (λ q o k. (o, k)) table.open_ports r (lives p).here)
        where
          Both : Port → Type 0
          Both q = Opens pgn size p q × (q.number ≡ p → IsKnown (length steps) (opened_so steps p) (closed_so steps p) q)

          known : (q : Port) → Opens pgn size p q → IsKnown (length steps) (opened_so steps p) (closed_so steps p) q → (closed_so steps p ≡ []) × In (Fits (1 + length steps) pgn size) (opened_so steps p)
          known q o k = (k.0, in_weaker (Opened (length steps) q) (Fits (1 + length steps) pgn size) (λ x t. ((let l : x.0 ≤ length steps = t.0 in omega (arith, l)), t.1 ∙ o.1, (let l : size ≤ q.max_len = o.2 in let e : x.1.1 ≡ q.max_len = t.2 in omega (arith, l, e)))) (opened_so steps p) k.1)

      first_open : (pgn size : ℕ) (set : List ℕ) → Each (Receives table.open_ports pgn size) set → 0 < length set → IsSomeOpen longer (1 + length steps) pgn size
      first_open pgn size [] r l = absurd (omega (arith, l))
      first_open pgn size (p ∷ set) r l =
          let k : (closed_so steps p ≡ []) × In (Fits (1 + length steps) pgn size) (opened_so steps p) = found_open pgn size p r.0 in (
            p,
            subst (In (Fits (1 + length steps) pgn size)) (sym (opened_more p)) (in_front (Fits (1 + length steps) pgn size) (opened_so steps p) (at_step (length steps) (opened_by (port_of d p) call reply)) k.1),
            subst (Each (λ (c : Placed PortId). 1 + length steps < c.0)) (sym (closed_more p ∙ (λ i. k.0 i ++ at_step (length steps) (none p i)))) tt,
          )

      pub marked_now : (pgn size : ℕ) → Each (λ (x : Placed Message). x.0 ≤ length steps) (sends steps s d) → IsMarkedAt longer (mark_of (length (sent steps s d)) pgn size (ports_for table (clean pgn) size)) (1 + length steps)
      marked_now pgn size past = record {
        past = let e : length longer ≡ 1 + length steps = longer_is in omega (arith, e);
        after = sent_more (length (sent steps s d)) (1 + length steps) (λ n some l. after_all (sends steps s d) n (1 + length steps) before some (let e : length (sent steps s d) ≡ length (sends steps s d) = as_long (sends steps s d) in omega (arith, l, e)));
        covers = λ p i e. in_found p (in_as (1 + length steps) (clean pgn) size (opened_so steps p) (earlier (1 + length steps) (clean pgn) size p (omega arith) i)) (still_open p e);
        some = λ l. first_open (clean pgn) size (ports_for table (clean pgn) size) (found_receive table (clean pgn) size) l;
      }
        where
          before : Each (λ (x : Placed Message). x.0 < 1 + length steps) (sends steps s d)
          before = each_weaker (λ (x : Placed Message). x.0 ≤ length steps) (λ (x : Placed Message). x.0 < 1 + length steps) (λ x l. omega (arith, l)) (sends steps s d) past

          in_found : (p : ℕ) → ((len : ℕ) × (size ≤ len) × In (Is (clean pgn) len) (opened_so steps p)) → closed_so steps p ≡ [] → Has (ports_for table (clean pgn) size) p
          in_found p (len, l, i) e = stands_found p (clean pgn) len size table.open_ports l (stands p (clean pgn) len i e)
