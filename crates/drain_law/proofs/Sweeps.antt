-- Every station takes the frame that was put last, by rising address.
use Rattle.std.proofs.Common.{◌≡◌, ◌≢◌, ◌⊎◌, inl, inr, ℕ, zero, suc, ◌+◌, ◌-◌, ◌<◌, ◌≤◌, max, ◌==◌, nat_lt, Bool, true, false, cond, List, [], ◌∷◌, ◌++◌, length, set, get_or, Option, Some, None, Ok, Err, refl, sym, ap, ◌∙◌, subst, arith, length-set, get_or-set_same, get_or-set_other}
use Rattle.std.specs.Prelude.{nat_le, slice_get, is_none, is_ok}
use Rattle.std.proofs.lemmas.Bool.{le-leb, lt-ltb, le-ltb, cases_lt, true≢false}
use Rattle.std.proofs.lemmas.List.{append-nil}
use Rattle.std.proofs.lemmas.Option.{same_Some, none-some, slice_get_within, get_or_from_slice_get}
use Rattle.bus_frame.specs.Frames.{CanFrame}
use Rattle.pgn_ids.specs.declared.address.Address.{Address}
use Rattle.bus_order.specs.Bus as bus
use Rattle.bus_order.specs.Bus.{Bus, Cursor, start, bus_len, cursor_at, frame_at, next_frame, released, lowest}
use Rattle.bus_order.specs.Kept.{IsSound}
use Rattle.bus_order.proofs.Steps.{sound_moved, released_len}
use Rattle.bus_order.proofs.Cursors.{lowest_each}
use Rattle.bus_order.proofs.Lists.{slice_get-drop}
use Rattle.bus_order.proofs.Order.{frame_past}
use Rattle.message_events.specs.declared.event.Event.{Event}
use Rattle.station_core.specs.Station.{Station, StationStep, quietly}
use Rattle.station_core.specs.Taking.{taken}
use Rattle.segment_law.specs.Segment.{Segment, place_of}
use Rattle.segment_law.specs.Calls.{Answer, no_place, called, applied}
use Rattle.segment_law.specs.Reached.{IsReached}
use Rattle.segment_law.specs.declared.call.Call.TheVariants.{Take}
use Rattle.segment_law.specs.declared.reply.Reply.{Reply}
use Rattle.segment_law.specs.declared.reply.Reply.TheVariants.{Done}
use Rattle.segment_law.proofs.FitStations.{taken_stays}
use Rattle.segment_law.proofs.Reaching.{reached_call, as_it_is, slice_get_same, slice_get_other}
use Rattle.record_law.proofs.Segments.{found_there, has_address}
use Rattle.record_law.proofs.Tests.{equal_or_not}
use Rattle.segment_state.specs.Answers.{refusal_of}
use Rattle.exchange_law.proofs.broadcasts.Sweeps.{took, take_is}
use Rattle.segment_drain.specs.Chosen.{node, can, next_of}
use Rattle.segment_drain.specs.declared.choosing.Next.TheVariants.{Make}
use Rattle.segment_drain.specs.declared.kind.Kind.TheVariants as kind
use Rattle.segment_drain.proofs.Rests.{done_ok}
use Rattle.drain_law.proofs.Choices.{first_can, takes_next, no_take}
use Rattle.drain_law.proofs.Stages.{Stage, goes}

-- a call that isn't refused
pub passes : (x : Answer) → is_ok x ≡ true → is_none (refusal_of x) ≡ true
passes (Ok step) e = refl
passes (Err cause) e = absurd (true≢false (sym e))

-- what is set to what it is changes nothing
set_here : {X : Type 0} (xs : List X) (i : ℕ) (x : X) → slice_get xs i ≡ Some x → set xs i x ≡ xs
set_here [] i x at = refl
set_here (y ∷ xs) zero x at = (λ j. sym (same_Some y x at) j ∷ xs)
set_here (y ∷ xs) (suc i) x at = ap (λ zs. y ∷ zs) (set_here xs i x at)

-- a frame that isn't dropped stays at its place
frame_released : (b : Bus) (place : ℕ) → b.first ≤ max 1 (lowest b.cursors) → max 1 (lowest b.cursors) ≤ place → frame_at (released b) place ≡ frame_at b place
frame_released b place held upto =
    let from : ℕ = max 1 (lowest b.cursors) in
    let t : nat_le from place ≡ true = le-leb from place upto in
    let u : nat_le b.first place ≡ true = le-leb b.first place (omega (arith, held, upto)) in
    rw (t, u) (slice_get-drop (from - b.first) b.kept (place - from) (place - b.first) (omega (arith, held, upto)))

module _ (L now : ℕ) (f : CanFrame) where
  -- the stations with an address below m have taken the frame behind place L, and the others have still to
  pub record Offered (m : ℕ) (seg : Segment) : Type 0 where
    pub reached : IsReached seg
    pub clock : seg.now ≡ now
    pub len : bus_len seg.bus ≡ L + 1
    pub frame : frame_at seg.bus (L + 1) ≡ Some f
    pub took : (i : ℕ) (st : Station) → slice_get seg.stations i ≡ Some st → st.address.0 < m → (cursor_at seg.bus i).place ≡ L + 1
    pub waits : (i : ℕ) (st : Station) → slice_get seg.stations i ≡ Some st → m ≤ st.address.0 → (cursor_at seg.bus i).place ≡ L

  -- ---- one of them takes it

  module _ (m : ℕ) (small : m < 254) (seg : Segment) (o : Offered m seg) (i : ℕ) (st : Station) (at : slice_get seg.stations i ≡ Some st) (is : st.address.0 ≡ m) (room : no_place st ≡ false) where
    place : place_of seg st.address ≡ Some i
    place = o.reached.places i st at

    inside : i < length seg.bus.cursors
    inside = let l : i < length seg.stations = slice_get_within seg.stations i st at in omega (arith, l, o.reached.bus.cursors)

    here : (cursor_at seg.bus i).place ≡ L
    here = o.waits i st at (omega (arith, is))

    next : next_frame seg.bus i ≡ Some f
    next = ap (λ (p : ℕ). frame_at seg.bus (p + 1)) here ∙ o.frame

    abbrev after : Segment
    after = took seg st.address i st place at f next room

    does : applied seg (Take st.address true) ≡ (after, Done (taken st f true seg.now).events)
    does = take_is seg st.address i st place at f next room

    chosen : next_of seg ≡ Make (Take st.address true)
    chosen = takes_next seg st.address (first_can seg kind.Take st.address.0 (omega (arith, is, small)) others
        (passes (called seg (Take st.address true)) (done_ok seg (Take st.address true) (taken st f true seg.now).events (ap (λ (x : Segment × Reply). x.1) does))))
      where
        past : (k : ℕ) → k < m → (j : ℕ) → place_of seg (node k) ≡ Some j → next_frame seg.bus j ≡ None
        past k lt j e =
            let there : slice_get seg.stations j ≡ Some (get_or seg.stations j st) = found_there (λ (z : Station). z.address.0 == k) seg.stations j st e in
            let it : (get_or seg.stations j st).address.0 ≡ k = has_address seg (node k) j (get_or seg.stations j st) e there in
            let p : (cursor_at seg.bus j).place ≡ L + 1 = o.took j (get_or seg.stations j st) there (omega (arith, it, lt)) in
            frame_past seg.bus ((cursor_at seg.bus j).place + 1) (omega (arith, p, o.len))

        others : (k : ℕ) → k < st.address.0 → can seg kind.Take (node k) ≡ false
        others k lt = no_take seg (node k) (λ j e. past k (omega (arith, lt, is)) j e)

    abbrev y : Station
    y = (taken st f true seg.now).station

    address : y.address ≡ st.address
    address = (taken_stays st.address st f true seg.now (as_it_is seg o.reached i st at)).address

    reached_after : IsReached after
    reached_after = subst IsReached (ap (λ (x : Segment × Reply). x.0) does) (reached_call seg o.reached (Take st.address true) refl)

    moved : IsSound (bus.taken seg.bus i)
    moved = sound_moved seg.bus i (record { place = (cursor_at seg.bus i).place + 1; repeatable = true }) o.reached.bus.sound inside (omega arith) (omega (arith, here, o.len)) (λ _. omega arith)

    cursor_same : (cursor_at (bus.taken seg.bus i) i).place ≡ L + 1
    cursor_same = ap (λ (c : Cursor). c.place) (get_or-set_same seg.bus.cursors i (record { place = (cursor_at seg.bus i).place + 1; repeatable = true }) start inside) ∙ ap (λ (p : ℕ). p + 1) here

    cursor_other : (j : ℕ) → j ≢ i → cursor_at (bus.taken seg.bus i) j ≡ cursor_at seg.bus j
    cursor_other j ne = get_or-set_other seg.bus.cursors i j _ start ne

    low : lowest (bus.taken seg.bus i).cursors ≤ L + 1
    low =
        let l : lowest (bus.taken seg.bus i).cursors ≤ (cursor_at (bus.taken seg.bus i) i).place = lowest_each (bus.taken seg.bus i).cursors i start (omega (arith, inside, length-set seg.bus.cursors i (record { place = (cursor_at seg.bus i).place + 1; repeatable = true }))) in
        omega (arith, l, cursor_same)

    -- a station of the segment after it was there before, or is this one
    record Before (j : ℕ) (u : Station) : Type 0 where
      apart : j ≢ i
      there : slice_get seg.stations j ≡ Some u

    before : (j : ℕ) (u : Station) → slice_get after.stations j ≡ Some u → (j ≡ i) ⊎ Before j u
    before j u e = by (equal_or_not j i)
      where
        by : (j ≡ i) ⊎ (j ≡ i → ⊥) → (j ≡ i) ⊎ Before j u
        by (inl q) = inl q
        by (inr n) = inr (record { apart = n; there = slice_get_other seg.stations i st y at address j u n e })

    same_address : (j : ℕ) (u : Station) → slice_get after.stations j ≡ Some u → j ≡ i → u.address.0 ≡ m
    same_address j u e q =
        let it : y ≡ u = same_Some y u (sym (slice_get_same seg.stations i st y at address) ∙ ap (slice_get after.stations) (sym q) ∙ e) in
        ap (λ (z : Station). z.address.0) (sym it) ∙ ap (λ (a : Address). a.0) address ∙ is

    other_address : (j : ℕ) (u : Station) → Before j u → u.address.0 ≢ m
    other_address j u b e =
        let same : u.address ≡ st.address = (λ k. record { 0 = (e ∙ sym is) k }) in
        b.apart (same_Some j i (sym (o.reached.places j u b.there) ∙ ap (place_of seg) same ∙ place))

    offered_on : Offered (suc m) after
    offered_on = record {
      reached = reached_after;
      clock = o.clock;
      len = released_len (bus.taken seg.bus i) moved ∙ o.len;
      frame = frame_released (bus.taken seg.bus i) (L + 1) moved.held (omega (arith, low)) ∙ o.frame;
      took = λ j u e lt. by_took j u e lt (before j u e);
      waits = λ j u e le. by_waits j u e le (before j u e);
    }
      where
        by_took : (j : ℕ) (u : Station) → slice_get after.stations j ≡ Some u → u.address.0 < suc m → (j ≡ i) ⊎ Before j u → (cursor_at after.bus j).place ≡ L + 1
        by_took j u e lt (inl q) = ap (λ (k : ℕ). (cursor_at (bus.taken seg.bus i) k).place) q ∙ cursor_same
        by_took j u e lt (inr b) =
            let n : u.address.0 ≢ m = other_address j u b in
            ap (λ (c : Cursor). c.place) (cursor_other j b.apart) ∙ o.took j u b.there (omega (arith, lt, n))

        by_waits : (j : ℕ) (u : Station) → slice_get after.stations j ≡ Some u → suc m ≤ u.address.0 → (j ≡ i) ⊎ Before j u → (cursor_at after.bus j).place ≡ L
        by_waits j u e le (inl q) = absurd (let s : u.address.0 ≡ m = same_address j u e q in omega (arith, s, le))
        by_waits j u e le (inr b) = ap (λ (c : Cursor). c.place) (cursor_other j b.apart) ∙ o.waits j u b.there (omega (arith, le))

  -- where no station has the address, none takes it
  skipped : (m : ℕ) (seg : Segment) → Offered m seg → place_of seg (node m) ≡ None → Offered (suc m) seg
  skipped m seg o none = record {
    reached = o.reached;
    clock = o.clock;
    len = o.len;
    frame = o.frame;
    took = λ i st at lt. (let n = apart i st at in o.took i st at (omega (arith, lt, n)));
    waits = λ i st at le. o.waits i st at (omega (arith, le));
  }
    where
      apart : (i : ℕ) (st : Station) → slice_get seg.stations i ≡ Some st → st.address.0 ≢ m
      apart i st at e =
          let same : st.address ≡ node m = (λ k. record { 0 = e k }) in
          none-some i (sym none ∙ ap (place_of seg) (sym same) ∙ o.reached.places i st at)

  -- ---- all of them, of which one alone looks at it

  module _ (begin : Segment) (zs : List Station) (k : ℕ) (z z' : Station) (more : List Event) (at : slice_get zs k ≡ Some z) (takes : taken z f true now ≡ record { station = z'; events = more })
      (quiet : (j : ℕ) (u : Station) → slice_get zs j ≡ Some u → u.address.0 ≢ z.address.0 → taken u f true now ≡ quietly u)
      (rooms : (j : ℕ) (u : Station) → slice_get zs j ≡ Some u → no_place u ≡ false) (same : z'.address ≡ z.address) (fs : List CanFrame) (es : List Event) where
    abbrev a : ℕ
    a = z.address.0

    abbrev stations_by : Bool → List Station
    stations_by t = cond t (set zs k z') zs

    abbrev told_by : Bool → List Event
    told_by t = cond t (es ++ more) es

    pub record Swept (m : ℕ) : Type 0 where
      pub segment : Segment
      pub stage : Stage begin segment fs (told_by (nat_lt a m))
      pub offered : Offered m segment
      pub stations_are : segment.stations ≡ stations_by (nat_lt a m)

    later : (m : ℕ) → a ≢ m → nat_lt a (suc m) ≡ nat_lt a m
    later m ne = by (cases_lt a m)
      where
        by : (a < m) ⊎ (m ≤ a) → nat_lt a (suc m) ≡ nat_lt a m
        by (inl lt) = lt-ltb a (suc m) (omega (arith, lt)) ∙ sym (lt-ltb a m lt)
        by (inr le) = le-ltb a (suc m) (omega (arith, le, ne)) ∙ sym (le-ltb a m le)

    one_more : (m : ℕ) → a ≢ m → (seg : Segment) → Stage begin seg fs (told_by (nat_lt a m)) → Offered (suc m) seg → seg.stations ≡ stations_by (nat_lt a m) → Swept (suc m)
    one_more m ne seg stage o is = record {
      segment = seg;
      stage = subst (λ (t : Bool). Stage begin seg fs (told_by t)) (sym (later m ne)) stage;
      offered = o;
      stations_are = is ∙ ap stations_by (sym (later m ne));
    }

    -- the station that looks at it stands at its place all the while
    target_at : (t : Bool) → (u : Station) × (slice_get (stations_by t) k ≡ Some u) × (u.address ≡ z.address)
    target_at true = (z', slice_get_same zs k z z' at same, same)
    target_at false = (z, at, refl)

    -- every other one was there at first
    at_first : (t : Bool) (j : ℕ) (u : Station) → slice_get (stations_by t) j ≡ Some u → j ≢ k → slice_get zs j ≡ Some u
    at_first true j u e ne = slice_get_other zs k z z' at same j u ne e
    at_first false j u e ne = e

    module _ (m : ℕ) (small : m < 254) (h : Swept m) where
      abbrev seg : Segment
      seg = h.segment

      k_place : (place_of seg z.address ≡ Some k)
      k_place =
          let w = target_at (nat_lt a m) in
          ap (place_of seg) (sym w.2) ∙ h.offered.reached.places k w.0 (ap (λ (xs : List Station). slice_get xs k) h.stations_are ∙ w.1)

      nobody : place_of seg (node m) ≡ None → Swept (suc m)
      nobody none = one_more m apart seg h.stage (skipped m seg h.offered none) h.stations_are
        where
          apart : a ≢ m
          apart e = none-some k (sym none ∙ ap (place_of seg) (let s : node m ≡ z.address = (λ j. record { 0 = sym e j }) in s) ∙ k_place)

      module _ (i : ℕ) (st : Station) (there : slice_get seg.stations i ≡ Some st) (is : st.address.0 ≡ m) where
        i_place : place_of seg st.address ≡ Some i
        i_place = h.offered.reached.places i st there

        -- it looks at the frame
        looks : a ≡ m → Swept (suc m)
        looks e = record {
          segment = after m small seg h.offered i st there is free;
          stage = subst (λ (es' : List Event). Stage begin (after m small seg h.offered i st there is free) fs es') told_is
              (subst (λ (gs : List CanFrame). Stage begin (after m small seg h.offered i st there is free) gs (told_by (nat_lt a m) ++ (taken st f true seg.now).events)) (append-nil fs)
              (goes begin seg (after m small seg h.offered i st there is free) fs (told_by (nat_lt a m)) (taken st f true seg.now).events (Take st.address true) h.stage (chosen m small seg h.offered i st there is free) (does m small seg h.offered i st there is free) refl));
          offered = offered_on m small seg h.offered i st there is free;
          stations_are = (λ j. set (stations_now j) (i_is j) (y_is j)) ∙ ap stations_by (sym done);
        }
          where
            not_yet : nat_lt a m ≡ false
            not_yet = le-ltb a m (omega (arith, e))

            done : nat_lt a (suc m) ≡ true
            done = lt-ltb a (suc m) (omega (arith, e))

            i_is : i ≡ k
            i_is =
                let s : st.address ≡ z.address = (λ j. record { 0 = (is ∙ sym e) j }) in
                same_Some i k (sym i_place ∙ ap (place_of seg) s ∙ k_place)

            stations_now : seg.stations ≡ zs
            stations_now = h.stations_are ∙ ap stations_by not_yet

            st_is : st ≡ z
            st_is = same_Some st z (sym there ∙ (λ j. slice_get (stations_now j) (i_is j)) ∙ at)

            free : no_place st ≡ false
            free = rooms k st (ap (slice_get zs) (sym i_is) ∙ ap (λ (xs : List Station). slice_get xs i) (sym stations_now) ∙ there)

            step_is : taken st f true seg.now ≡ record { station = z'; events = more }
            step_is = (λ j. taken (st_is j) f true (h.offered.clock j)) ∙ takes

            y_is : (taken st f true seg.now).station ≡ z'
            y_is = ap (λ (s : StationStep). s.station) step_is

            told_is : told_by (nat_lt a m) ++ (taken st f true seg.now).events ≡ told_by (nat_lt a (suc m))
            told_is = (λ j. told_by (not_yet j) ++ (step_is j).events) ∙ ap told_by (sym done)

        -- it lets the frame pass
        passes_by : a ≢ m → Swept (suc m)
        passes_by ne = one_more m ne (after m small seg h.offered i st there is free)
            (subst (λ (es' : List Event). Stage begin (after m small seg h.offered i st there is free) fs es') told_is
            (subst (λ (gs : List CanFrame). Stage begin (after m small seg h.offered i st there is free) gs (told_by (nat_lt a m) ++ (taken st f true seg.now).events)) (append-nil fs)
            (goes begin seg (after m small seg h.offered i st there is free) fs (told_by (nat_lt a m)) (taken st f true seg.now).events (Take st.address true) h.stage (chosen m small seg h.offered i st there is free) (does m small seg h.offered i st there is free) refl)))
            (offered_on m small seg h.offered i st there is free)
            (ap (set seg.stations i) y_is ∙ set_here seg.stations i st there ∙ h.stations_are)
          where
            apart : i ≢ k
            apart q =
                let w = target_at (nat_lt a m) in
                let it : st ≡ w.0 = same_Some st w.0 (sym there ∙ (λ j. slice_get (h.stations_are j) (q j)) ∙ w.1) in
                ne (ap (λ (x : Address). x.0) (sym w.2) ∙ ap (λ (u : Station). u.address.0) (sym it) ∙ is)

            first : slice_get zs i ≡ Some st
            first = at_first (nat_lt a m) i st (ap (λ (xs : List Station). slice_get xs i) (sym h.stations_are) ∙ there) apart

            free : no_place st ≡ false
            free = rooms i st first

            step_is : taken st f true seg.now ≡ quietly st
            step_is = ap (taken st f true) h.offered.clock ∙ quiet i st first (λ e. ne (sym e ∙ is))

            y_is : (taken st f true seg.now).station ≡ st
            y_is = ap (λ (s : StationStep). s.station) step_is

            told_is : told_by (nat_lt a m) ++ (taken st f true seg.now).events ≡ told_by (nat_lt a m)
            told_is = ap (λ (s : StationStep). told_by (nat_lt a m) ++ s.events) step_is ∙ append-nil (told_by (nat_lt a m))

      one : Swept (suc m)
      one = by (place_of seg (node m)) refl
        where
          by : (o : Option ℕ) → place_of seg (node m) ≡ o → Swept (suc m)
          by None e = nobody e
          by (Some i) e =
              let there : slice_get seg.stations i ≡ Some (get_or seg.stations i z) = found_there (λ (u : Station). u.address.0 == m) seg.stations i z e in
              let is : (get_or seg.stations i z).address.0 ≡ m = has_address seg (node m) i (get_or seg.stations i z) e there in
              which i (get_or seg.stations i z) there is (equal_or_not a m)
            where
              which : (i : ℕ) (st : Station) → slice_get seg.stations i ≡ Some st → st.address.0 ≡ m → (a ≡ m) ⊎ (a ≡ m → ⊥) → Swept (suc m)
              which i st there is (inl q) = looks i st there is q
              which i st there is (inr n) = passes_by i st there is n

    swept_to : (m : ℕ) → m ≤ 254 → Swept 0 → Swept m
    swept_to zero le h = h
    swept_to (suc m) le h = one m (omega (arith, le)) (swept_to m (omega (arith, le)) h)

    -- from where no station took it to where all did
    pub sweep : (seg : Segment) → Stage begin seg fs es → Offered 0 seg → seg.stations ≡ zs → Swept 254
    sweep seg stage o is = swept_to 254 (omega arith) (record {
      segment = seg;
      stage = subst (λ (t : Bool). Stage begin seg fs (told_by t)) (sym none) stage;
      offered = o;
      stations_are = is ∙ ap stations_by (sym none);
    })
      where
        none : nat_lt a 0 ≡ false
        none = le-ltb a 0 (omega arith)
