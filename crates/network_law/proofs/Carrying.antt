-- What is said of what two stations did and were told, said of other places that go with theirs.
use Rattle.std.proofs.Common.{◌≡◌, ◌≢◌, inl, inr, ℕ, zero, suc, ◌+◌, ◌<◌, ◌≤◌, ◌==◌, Bool, true, false, cond, List, [], ◌∷◌, map, filter, length, Some, refl, sym, ap, ◌∙◌, subst, arith}
use Rattle.std.specs.Prelude.{nat_lt, slice_get, slice_index_or, zip, All, AllPairs, Contains}
use Rattle.std.proofs.lemmas.Bool.{ltb-true, ltb-false}
use Rattle.std.proofs.lemmas.List.Elements.{All-contains, Contains-append_right}
use Rattle.pgn_ids.specs.declared.address.Address.{Address}
use Rattle.port_table.specs.declared.port.PortId.{PortId}
use Rattle.segment_law.specs.Told.{Message, Placed, AtPort, NumberedOutcome, items_of, places_of}
use Rattle.segment_law.specs.Numbering.{item, IsAfter, IsNumbering, Numbered, part_of}
use Rattle.segment_law.specs.Headline.{IsOpenedFor}
use Rattle.record_law.proofs.Lists.{Each, each_all, all_each, each_weaker, in_any, any_in}
use Rattle.record_law.proofs.Tests.{on_test}
use Rattle.connection_law.proofs.View.{Has}
use Rattle.network_law.specs.Between.{Receiver, IsOpenAt, IsOpenAfter, at_port, AreNumbersOf, IsGivenOnce, HaveOneOutcome}
use Rattle.network_law.proofs.Places.{AreOrdered, Moment, Matches, same_place, in_second, in_first, each_second, each_first, has_second, same_length, there_match}

-- What is contained

has_self : {A : Type 0} (xs : List A) → Each (Has xs) xs
has_self [] = tt
has_self {A} (x ∷ xs) = (inl refl, each_weaker (Has xs) (Has (x ∷ xs)) (λ y h. inr h) xs (has_self xs))

pub has_of : {A : Type 0} (xs : List A) (x : A) → Contains xs x → Has xs x
has_of xs x c = All-contains (Has xs) xs x (each_all (Has xs) xs (has_self xs)) c

pub of_has : {A : Type 0} (xs : List A) (x : A) → Has xs x → Contains xs x
of_has [] x h = absurd h
of_has (y ∷ xs) x (inl e) = (0, omega arith, e)
of_has (y ∷ xs) x (inr h) = Contains-append_right (y ∷ []) xs x (of_has xs x h)

-- Lists of what was told

pub messages_of : (xs : List (Placed AtPort)) → map (λ (g : Placed AtPort). g.1.1) xs ≡ map (λ (g : AtPort). g.1) (items_of xs)
messages_of [] = refl
messages_of (x ∷ xs) = ap (λ (ms : List Message). x.1.1 ∷ ms) (messages_of xs)

at_more : (b : Bool) (x y : Placed AtPort) (us vs : List (Placed AtPort)) → x.1 ≡ y.1 → map (λ (g : Placed AtPort). g.1.1) us ≡ map (λ (g : Placed AtPort). g.1.1) vs
    → map (λ (g : Placed AtPort). g.1.1) (cond b (x ∷ us) us) ≡ map (λ (g : Placed AtPort). g.1.1) (cond b (y ∷ vs) vs)
at_more true x y us vs e h = λ k. (e k).1 ∷ h k
at_more false x y us vs e h = h

part_more : (b : Bool) (n : ℕ) (x y : Placed AtPort) (us vs : List Numbered) → map (λ (g : Numbered). g.0) us ≡ map (λ (g : Numbered). g.0) vs
    → map (λ (g : Numbered). g.0) (cond b ((n, x) ∷ us) us) ≡ map (λ (g : Numbered). g.0) (cond b ((n, y) ∷ vs) vs)
part_more true n x y us vs h = ap (λ (ns : List ℕ). n ∷ ns) h
part_more false n x y us vs h = h

module _ (R : ℕ → ℕ → Type 0) where
  pub items_go : {A : Type 0} (xs ys : List (Placed A)) → Matches R xs ys → items_of xs ≡ items_of ys
  items_go [] [] m = refl
  items_go [] (y ∷ ys) m = absurd m
  items_go (x ∷ xs) [] m = absurd m
  items_go (x ∷ xs) (y ∷ ys) (r, e, m) = λ k. e k ∷ items_go xs ys m k

  pub at_port_goes : (port : ℕ) (xs ys : List (Placed AtPort)) → Matches R xs ys → at_port port xs ≡ at_port port ys
  at_port_goes port [] [] m = refl
  at_port_goes port [] (y ∷ ys) m = absurd m
  at_port_goes port (x ∷ xs) [] m = absurd m
  at_port_goes port (x ∷ xs) (y ∷ ys) (r, e, m) =
      let kept : List (Placed AtPort) = filter (λ (g : Placed AtPort). g.1.0 == port) ys in
      at_more (x.1.0 == port) x y (filter (λ (g : Placed AtPort). g.1.0 == port) xs) kept e (at_port_goes port xs ys m)
      ∙ ap (λ (g : AtPort). map (λ (h : Placed AtPort). h.1.1) (cond (g.0 == port) (y ∷ kept) kept)) e

  part_goes : (port : ℕ) (numbers : List ℕ) (xs ys : List (Placed AtPort)) → Matches R xs ys → part_of port (zip numbers xs) ≡ part_of port (zip numbers ys)
  part_goes port [] xs ys m = refl
  part_goes port (n ∷ ns) [] [] m = refl
  part_goes port (n ∷ ns) [] (y ∷ ys) m = absurd m
  part_goes port (n ∷ ns) (x ∷ xs) [] m = absurd m
  part_goes port (n ∷ ns) (x ∷ xs) (y ∷ ys) (r, e, m) =
      let kept : List Numbered = filter (λ (g : Numbered). g.1.1.0 == port) (zip ns ys) in
      part_more (x.1.0 == port) n x y (filter (λ (g : Numbered). g.1.1.0 == port) (zip ns xs)) kept (part_goes port ns xs ys m)
      ∙ ap (λ (g : AtPort). map (λ (h : Numbered). h.0) (cond (g.0 == port) ((n, y) ∷ kept) kept)) e

  -- the lives of two stations' ports go together
  pub record PortsGo (to to' : Receiver) : Type 0 where
    pub openings : (port : ℕ) → Matches R (to.openings port) (to'.openings port)
    pub closings : (port : ℕ) → Matches R (to.closings port) (to'.closings port)

  module _ (o : AreOrdered R) where
    together_goes : (numbers : List ℕ) (xs ys : List (Placed AtPort)) → Matches R xs ys → AllPairs (λ g h. g.0 ≡ h.0 → g.1.0 ≡ h.1.0) (zip numbers xs) → AllPairs (λ g h. g.0 ≡ h.0 → g.1.0 ≡ h.1.0) (zip numbers ys)
    together_goes numbers xs ys m all i j z before within =
        let len : length (zip numbers xs) ≡ length (zip numbers ys) = same_length R numbers xs ys m in
        let a = there_match R numbers xs ys i z m (omega (arith, before, within)) in
        let b = there_match R numbers xs ys j z m within in
        λ e. (let place = all i j z before (omega (arith, within, len)) (a.0 ∙ e ∙ sym b.0) in
        same_place R o (slice_index_or (zip numbers xs) j z).1.0 (slice_index_or (zip numbers ys) i z).1.0 (slice_index_or (zip numbers ys) j z).1.0
        (subst (λ (k : ℕ). R k (slice_index_or (zip numbers ys) i z).1.0) place a.1) b.1)

    pub numbers_go : (sent sent' : List Message) (xs ys : List (Placed AtPort)) (numbers : List ℕ) → sent ≡ sent' → Matches R xs ys → AreNumbersOf sent xs numbers → AreNumbersOf sent' ys numbers
    numbers_go sent sent' xs ys numbers e m n = record {
      never_falls = n.never_falls;
      items = ap (λ ms. map (item ms) numbers) (sym e) ∙ n.items
          ∙ ap (λ (ms : List Message). map (λ (x : Message). Some x) ms) (messages_of xs ∙ ap (λ (gs : List AtPort). map (λ (g : AtPort). g.1) gs) (items_go xs ys m) ∙ sym (messages_of ys));
      together = together_goes numbers xs ys m n.together;
      each_port = λ port. subst (λ (z : List ℕ × List Message × List Message). IsNumbering z.0 z.1 z.2) (λ k. (part_goes port numbers xs ys m k, at_port_goes port xs ys m k, e k)) (n.each_port port);
    }

    -- Ports

    module _ (to to' : Receiver) (go : PortsGo to to') (port : ℕ) (message : Message) where
      fits : (x y : Placed (ℕ × ℕ)) → x.1 ≡ y.1 → (x.1.0 ≡ message.0) × (length message.1 ≤ x.1.1) → (y.1.0 ≡ message.0) × (length message.1 ≤ y.1.1)
      fits x y e h = subst (λ (z : ℕ × ℕ). (z.0 ≡ message.0) × (length message.1 ≤ z.1)) e h

      abbrev Fits : ℕ → Placed (ℕ × ℕ) → Type 0
      Fits n x = (x.0 ≤ n) × (x.1.0 ≡ message.0) × (length message.1 ≤ x.1.1)

      module _ (n : ℕ) where
        abbrev pub now : Moment R (n + 1)
        now = o.moment (n + 1)

        -- what comes early there came early here
        early_back : (a b : ℕ) → R a b → b ≤ now.n → a ≤ n
        early_back a b r l = on_test (λ t. nat_lt n a ≡ t → a ≤ n) (nat_lt n a) (λ _ e. absurd (let k : now.n < b = now.late a b r (let x : n < a = ltb-true n a e in omega (arith, x)) in omega (arith, k, l))) (λ _ e. ltb-false n a e) refl

        late_back : (a b : ℕ) → R a b → now.n < b → n < a
        late_back a b r l = on_test (λ t. nat_lt n a ≡ t → n < a) (nat_lt n a) (λ _ e. ltb-true n a e) (λ _ e. absurd (let k : b ≤ now.n = now.early a b r (let x : a ≤ n = ltb-false n a e in omega (arith, x)) in omega (arith, k, l))) refl

        pub after_goes : IsOpenAfter to port n message → IsOpenAfter to' port now.n message
        after_goes h = record {
          opened = in_any (Fits now.n) (to'.openings port) (in_second R (Fits n) (Fits now.n)
              (λ x y r e k. (now.early x.0 y.0 r (omega (arith, k.0)), (fits x y e (k.1, k.2)).0, (fits x y e (k.1, k.2)).1)) (to.openings port) (to'.openings port) (go.openings port) (any_in (Fits n) (to.openings port) h.opened));
          not_closed = each_all (λ (x : Placed PortId). now.n < x.0) (to'.closings port) (each_second R (λ (x : Placed PortId). n < x.0) (λ (y : Placed PortId). now.n < y.0)
              (λ x y r e k. now.late x.0 y.0 r (omega (arith, k))) (to.closings port) (to'.closings port) (go.closings port) (all_each (λ (x : Placed PortId). n < x.0) (to.closings port) h.not_closed));
        }

        pub after_back : IsOpenAfter to' port now.n message → IsOpenAfter to port n message
        after_back h = record {
          opened = in_any (Fits n) (to.openings port) (in_first R (Fits n) (Fits now.n)
              (λ x y r e k. (early_back x.0 y.0 r k.0, (fits y x (sym e) (k.1, k.2)).0, (fits y x (sym e) (k.1, k.2)).1)) (to.openings port) (to'.openings port) (go.openings port) (any_in (Fits now.n) (to'.openings port) h.opened));
          not_closed = each_all (λ (x : Placed PortId). n < x.0) (to.closings port) (each_first R (λ (x : Placed PortId). n < x.0) (λ (y : Placed PortId). now.n < y.0)
              (λ x y r e k. late_back x.0 y.0 r k) (to.closings port) (to'.closings port) (go.closings port) (all_each (λ (y : Placed PortId). now.n < y.0) (to'.closings port) h.not_closed));
        }

      module _ (a b : ℕ) (here : R a b) where
        pub at_goes : IsOpenAt to port a message → IsOpenAt to' port b message
        at_goes h = record {
          opened = in_any (IsOpenedFor (b, message)) (to'.openings port) (in_second R (IsOpenedFor (a, message)) (IsOpenedFor (b, message))
              (λ x y r e k. ((o.order x.0 y.0 a b r here).0 k.0, (fits x y e (k.1, k.2)).0, (fits x y e (k.1, k.2)).1)) (to.openings port) (to'.openings port) (go.openings port) (any_in (IsOpenedFor (a, message)) (to.openings port) h.opened));
          not_closed = each_all (λ (x : Placed PortId). b < x.0) (to'.closings port) (each_second R (λ (x : Placed PortId). a < x.0) (λ (y : Placed PortId). b < y.0)
              (λ x y r e k. (o.order a b x.0 y.0 here r).0 k) (to.closings port) (to'.closings port) (go.closings port) (all_each (λ (x : Placed PortId). a < x.0) (to.closings port) h.not_closed));
        }

        pub at_back : IsOpenAt to' port b message → IsOpenAt to port a message
        at_back h = record {
          opened = in_any (IsOpenedFor (a, message)) (to.openings port) (in_first R (IsOpenedFor (a, message)) (IsOpenedFor (b, message))
              (λ x y r e k. ((o.order x.0 y.0 a b r here).1 k.0, (fits y x (sym e) (k.1, k.2)).0, (fits y x (sym e) (k.1, k.2)).1)) (to.openings port) (to'.openings port) (go.openings port) (any_in (IsOpenedFor (b, message)) (to'.openings port) h.opened));
          not_closed = each_all (λ (x : Placed PortId). a < x.0) (to.closings port) (each_first R (λ (x : Placed PortId). a < x.0) (λ (y : Placed PortId). b < y.0)
              (λ x y r e k. (o.order a b x.0 y.0 here r).1 k) (to.closings port) (to'.closings port) (go.closings port) (all_each (λ (y : Placed PortId). b < y.0) (to'.closings port) h.not_closed));
        }

    -- what is given within the life of a port
    pub life_goes : (to to' : Receiver) → PortsGo to to' → (port : ℕ) → Matches R (to.all_givens port) (to'.all_givens port) → All (λ g. IsOpenAt to port g.0 g.1) (to.all_givens port) → All (λ g. IsOpenAt to' port g.0 g.1) (to'.all_givens port)
    life_goes to to' go port m h = each_all (λ (g : Placed Message). IsOpenAt to' port g.0 g.1) (to'.all_givens port)
        (each_second R (λ (g : Placed Message). IsOpenAt to port g.0 g.1) (λ (g : Placed Message). IsOpenAt to' port g.0 g.1)
        (λ x y r e k. at_goes to to' go port y.1 x.0 y.0 r (subst (λ (message : Message). IsOpenAt to port x.0 message) e k)) (to.all_givens port) (to'.all_givens port) m
        (all_each (λ (g : Placed Message). IsOpenAt to port g.0 g.1) (to.all_givens port) h))

    -- a message that was given once
    module _ (sent sent' : List Message) (d : Address) (to to' : Receiver) (numbers : List ℕ) (number : ℕ) (e : sent ≡ sent') (go : PortsGo to to') (m : Matches R (to.givens d) (to'.givens d)) (g : IsGivenOnce sent d to numbers number) where
      -- at a port
      at_it : (port : ℕ) → Contains (zip numbers (to.givens d)) (number, (g.giving, (port, g.message))) → (b : ℕ) × R g.giving b × Has (zip numbers (to'.givens d)) (number, (b, (port, g.message)))
      at_it port c = has_second R numbers (to.givens d) (to'.givens d) number g.giving (port, g.message) m (has_of (zip numbers (to.givens d)) (number, (g.giving, (port, g.message))) c)

      abbrev one_there : (b : ℕ) × R g.giving b × Has (zip numbers (to'.givens d)) (number, (b, (g.to_one.0, g.message)))
      one_there = at_it g.to_one.0 g.to_one.1

      abbrev giving : ℕ
      giving = one_there.0

      each : (port : ℕ) → Contains (zip numbers (to.givens d)) (number, (g.giving, (port, g.message))) → Contains (zip numbers (to'.givens d)) (number, (giving, (port, g.message)))
      each port c =
          let r = at_it port c in
          of_has (zip numbers (to'.givens d)) (number, (giving, (port, g.message)))
          (subst (λ (k : ℕ). Has (zip numbers (to'.givens d)) (number, (k, (port, g.message)))) (same_place R o g.giving r.0 giving r.1 one_there.1) r.2)

      pub given_goes : IsGivenOnce sent' d to' numbers number
      given_goes = record {
        message = g.message;
        opening = (o.moment (g.opening + 1)).n;
        giving = giving;
        is_sent = ap (λ ms. item ms number) (sym e) ∙ g.is_sent;
        in_turn = (o.moment (g.opening + 1)).late g.giving giving one_there.1 (omega (arith, g.in_turn));
        some_open = (g.some_open.0, after_goes to to' go g.some_open.0 g.message g.opening g.some_open.1);
        to_each = λ port h k. each port (g.to_each port (after_back to to' go port g.message g.opening h) (at_back to to' go port g.message g.giving giving one_there.1 k));
        to_one = (g.to_one.0, of_has (zip numbers (to'.givens d)) (number, (giving, (g.to_one.0, g.message))) one_there.2);
      }

    -- Outcomes

    sent_before_goes : (xs ys : List (Placed Message)) (n a b : ℕ) → Matches R xs ys → R a b → IsAfter (item (places_of xs) n) a → IsAfter (item (places_of ys) n) b
    sent_before_goes xs ys zero a b m r h = h
    sent_before_goes xs ys (suc n) a b m r h = at xs ys n m h
      where
        at : (xs ys : List (Placed Message)) (n : ℕ) → Matches R xs ys → IsAfter (slice_get (places_of xs) n) a → IsAfter (slice_get (places_of ys) n) b
        at [] ys n m h = absurd h
        at (x ∷ xs) [] n m h = absurd m
        at (x ∷ xs) (y ∷ ys) zero (q, e, m) h = (o.order x.0 y.0 a b q r).0 h
        at (x ∷ xs) (y ∷ ys) (suc n) (q, e, m) h = at xs ys n m h

    numbered_by : (xs : List (Placed NumberedOutcome)) → map (λ (x : Placed NumberedOutcome). x.1.0) xs ≡ map (λ (x : NumberedOutcome). x.0) (items_of xs)
    numbered_by [] = refl
    numbered_by (x ∷ xs) = ap (λ (ns : List ℕ). x.1.0 ∷ ns) (numbered_by xs)

    pub outcomes_go : (sends sends' : List (Placed Message)) (outcomes outcomes' : List (Placed NumberedOutcome)) → Matches R sends sends' → Matches R outcomes outcomes' → HaveOneOutcome sends outcomes → HaveOneOutcome sends' outcomes'
    outcomes_go sends sends' outcomes outcomes' m n h = record {
      one = subst (AllPairs (λ a b. a ≢ b)) (numbered_by outcomes ∙ ap (λ (xs : List NumberedOutcome). map (λ (x : NumberedOutcome). x.0) xs) (items_go outcomes outcomes' n) ∙ sym (numbered_by outcomes')) h.one;
      sent_before = each_all (λ (x : Placed NumberedOutcome). IsAfter (item (places_of sends') x.1.0) x.0) outcomes'
          (each_second R (λ (x : Placed NumberedOutcome). IsAfter (item (places_of sends) x.1.0) x.0) (λ (x : Placed NumberedOutcome). IsAfter (item (places_of sends') x.1.0) x.0)
          (λ x y r e k. sent_before_goes sends sends' y.1.0 x.0 y.0 m r (subst (λ (z : NumberedOutcome). IsAfter (item (places_of sends) z.0) x.0) e k)) outcomes outcomes' n
          (all_each (λ (x : Placed NumberedOutcome). IsAfter (item (places_of sends) x.1.0) x.0) outcomes h.sent_before));
    }
