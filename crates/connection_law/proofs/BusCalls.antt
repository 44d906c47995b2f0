-- Frames are put on the bus, and passed over: what is ahead of each end of the lane grows, or is missed.
use Rattle.std.proofs.Common.{◌≡◌, inl, ℕ, zero, suc, ◌<◌, ◌≤◌, nat_lt, List, [], ◌∷◌, ◌++◌, length, drop, take, set, filter_map, Option, Some, None, refl, sym, ap, ◌∙◌, subst, append-nil, append_assoc, ltb-false, false}
use Rattle.std.specs.Prelude.{slice_get, option_to_list}
use Rattle.std.specs.List.{cons_option}
use Rattle.std.proofs.lemmas.List.Elements.{filter_map-append}
use Rattle.bus_frame.specs.Frames.{CanFrame}
use Rattle.pgn_ids.specs.Identifier.{meaning_of}
use Rattle.pgn_ids.specs.declared.address.Address.{Address}
use Rattle.tp_wire.specs.declared.wire.Kind.TheVariants.{Tp, Etp}
use Rattle.tp_wire.specs.declared.wire.Wire.{Wire}
use Rattle.tx_queue.specs.Queue.{front, behind}
use Rattle.bus_order.specs.Bus as bus
use Rattle.bus_order.specs.Bus.{Bus, released, frame_again}
use Rattle.bus_order.specs.Kept.{IsSound}
use Rattle.station_core.specs.Station.{Station, quietly}
use Rattle.station_core.specs.Overruns.{overrun}
use Rattle.segment_law.specs.Segment.{Segment, counted, counted_frame, with_station}
use Rattle.segment_law.specs.Calls.{with_frame}
use Rattle.segment_law.specs.Reached.{IsReached}
use Rattle.segment_law.specs.declared.call.Call.TheVariants.{Transmit, Overrun}
use Rattle.segment_law.specs.declared.reply.Reply.TheVariants.{Done}
use Rattle.record_law.proofs.EachCall.{stepped}
use Rattle.record_law.proofs.Lists.{Each}
use Rattle.record_law.proofs.Maps.{state_empty}
use Rattle.record_law.proofs.Segments.{same_address}
use Rattle.lane_law.specs.Choice.{IsChoice}
use Rattle.lane_law.specs.Lane as machine
use Rattle.broadcast_law.proofs.Buses.{ahead_of, passed_ahead, passed_again, passed_ahead_else, passed_again_else, put_ahead, put_again}
use Rattle.broadcast_law.proofs.Frames.{queue_front}
use Rattle.broadcast_law.proofs.Places.{IsAt, AllOwn, cursor_of, apart_places}
use Rattle.broadcast_law.proofs.Stations.{IsOwn}
use Rattle.session_table.specs.Key.{session_for}
use Rattle.connection_law.proofs.Frames.{goes, returns, goes_foreign, returns_foreign}
use Rattle.connection_law.proofs.Roles.{real_at, told_to}
use Rattle.connection_law.proofs.View.{Laws, IsPair, View, Still, next_still, still_same, still_then}
use Rattle.connection_law.proofs.Moves.{skips, misses}
use Rattle.connection_law.proofs.Events.{tells_none, tells_overrun}
use Rattle.connection_law.proofs.Turns.{none_opened, turns_same}
use Rattle.connection_law.proofs.Segments.{Ghost, parts, station_in, view, goes_quietly, turns_none, Good, GoodBy, is_of, is_here, at_it, good_step}
use Rattle.connection_law.proofs.Calls.{sends_so}
use Rattle.connection_law.proofs.StepsOut.{sender_overruns}

take_drop : {A : Type 0} (n : ℕ) (xs : List A) → xs ≡ take n xs ++ drop n xs
take_drop zero xs = refl
take_drop (suc n) [] = refl
take_drop (suc n) (x ∷ xs) = ap (λ ys. x ∷ ys) (take_drop n xs)

-- a frame that carries nothing stands between
none_between : {A : Type 0} (p : CanFrame → Option A) (xs ys : List CanFrame) (f : CanFrame) → p f ≡ None → filter_map p ((xs ++ f ∷ []) ++ ys) ≡ filter_map p (xs ++ ys)
none_between p xs ys f e = ap (filter_map p) (append_assoc xs (f ∷ []) ys) ∙ filter_map-append p xs (f ∷ ys) ∙ (λ i. filter_map p xs ++ cons_option (e i) (filter_map p ys)) ∙ sym (filter_map-append p xs ys)

module _ (laws : Laws) (choose : machine.OnEachLane (λ lane. IsChoice lane.stream.given lane.stream.sent)) (s d : Address) (pair : IsPair s d) where
  -- a frame of somebody else is put
  module _ (seg : Segment) (r : IsReached seg) (f : CanFrame) where
    put_is : (xs ys : Station) (x y : ℕ) (g : Ghost) → IsAt seg x s → IsAt seg y d → goes s d f ≡ None → returns s d f ≡ None → parts laws s d pair xs ys (bus.put seg.bus f) x y g ≡ parts laws s d pair xs ys seg.bus x y g
    put_is xs ys x y g at_x at_y n m = λ i. (let w : View = record (parts laws s d pair xs ys seg.bus x y g) { forward = forward i; again = again i; answers = answers i; heard = heard i } in w)
      where
        lx : x < length seg.bus.cursors
        lx = cursor_of seg r x s at_x

        ly : y < length seg.bus.cursors
        ly = cursor_of seg r y d at_y

        forward : filter_map (goes s d) (ahead_of (bus.put seg.bus f) y ++ xs.queue) ≡ filter_map (goes s d) (ahead_of seg.bus y ++ xs.queue)
        forward = ap (λ fs. filter_map (goes s d) (fs ++ xs.queue)) (put_ahead seg.bus y f r.bus.sound ly) ∙ none_between (goes s d) (ahead_of seg.bus y) xs.queue f n

        answers : filter_map (returns s d) (ahead_of (bus.put seg.bus f) x ++ ys.queue) ≡ filter_map (returns s d) (ahead_of seg.bus x ++ ys.queue)
        answers = ap (λ fs. filter_map (returns s d) (fs ++ ys.queue)) (put_ahead seg.bus x f r.bus.sound lx) ∙ none_between (returns s d) (ahead_of seg.bus x) ys.queue f m

        again : filter_map (goes s d) (option_to_list (frame_again (bus.put seg.bus f) y)) ≡ filter_map (goes s d) (option_to_list (frame_again seg.bus y))
        again = ap (λ o. filter_map (goes s d) (option_to_list o)) (put_again seg.bus y f r.bus.sound ly)

        heard : filter_map (returns s d) (option_to_list (frame_again (bus.put seg.bus f) x)) ≡ filter_map (returns s d) (option_to_list (frame_again seg.bus x))
        heard = ap (λ o. filter_map (returns s d) (option_to_list o)) (put_again seg.bus x f r.bus.sound lx)

    pub injects_good : ((meaning_of f.id).from.0 ≡ s.0 → ⊥) → ((meaning_of f.id).from.0 ≡ d.0 → ⊥) → Good laws s d pair seg (with_frame seg f) [] none_opened [] []
    injects_good n m = record {
      stands = λ x y g l at_x at_y h.
          let xs : Station = station_in laws s d pair seg.stations x in
          let ys : Station = station_in laws s d pair seg.stations y in
          goes_quietly laws s d pair xs ys (bus.put seg.bus f) x y g l (subst (Still s d l) (sym (put_is xs ys x y g at_x at_y (goes_foreign s d f n) (returns_foreign s d f m))) (still_same s d l _ h));
      turns = λ y at_y. turns_same (station_in laws s d pair seg.stations y).ports (station_in laws s d pair seg.stations y).ports refl;
      one = Rattle.broadcast_law.proofs.Ports.one_of_none [] refl;
      apart = inl refl;
    }

  module _ (seg : Segment) (r : IsReached seg) (each : AllOwn seg) (i : ℕ) (st : Station) (at : slice_get seg.stations i ≡ Some st) where
    own : IsOwn st.address st
    own = each i st at

    own_as : (c : Address) → st.address.0 ≡ c.0 → IsOwn c st
    own_as c e = subst (λ x. IsOwn x st) (same_address st.address c e) own

    sound : IsSound seg.bus
    sound = r.bus.sound

    here : i < length seg.bus.cursors
    here = cursor_of seg r i st.address (st, at, refl)

    abbrev in_place : ℕ → Station
    in_place x = station_in laws s d pair seg.stations x

    -- The front frame of the queue is put

    pub transmits_good : (station : Address) (f : CanFrame) → front st.queue ≡ Some f → GoodBy laws s d pair seg (Transmit station) (with_frame (with_station seg i (record st { queue = behind st.queue })) f, Done [])
    transmits_good station f e = good_step laws s d pair seg r i st at seg.now (bus.put seg.bus f) (counted_frame seg.counts) (quietly new) [] none_opened [] (tells_none s d st.address) (turns_none laws s d pair seg r i st at new refl) (λ x y g l at_x at_y h. record {
      sends = λ q.
          let mine : st.address.0 ≡ s.0 = is_of laws s d pair seg r i st at x s at_x q in
          let lx : x < length seg.bus.cursors = cursor_of seg r x s at_x in
          let ly : y < length seg.bus.cursors = cursor_of seg r y d at_y in
          let st_is : in_place x ≡ st = at_it laws s d pair seg r i st at x q in
          let none : returns s d f ≡ None = returns_foreign s d f (λ z. pair.apart (sym mine ∙ sym from ∙ z)) in
          let forward : filter_map (goes s d) (ahead_of (bus.put seg.bus f) y ++ drop 1 st.queue) ≡ filter_map (goes s d) (ahead_of seg.bus y ++ (in_place x).queue) =
          ap (λ fs. filter_map (goes s d) (fs ++ drop 1 st.queue)) (put_ahead seg.bus y f sound ly) ∙ ap (filter_map (goes s d)) (append_assoc (ahead_of seg.bus y) (f ∷ []) (drop 1 st.queue)) ∙ ap (λ fs. filter_map (goes s d) (ahead_of seg.bus y ++ fs)) (sym (queue_front st.queue f e) ∙ sym (ap (λ (z : Station). z.queue) st_is)) in
          let answers : filter_map (returns s d) (ahead_of (bus.put seg.bus f) x ++ (in_place y).queue) ≡ filter_map (returns s d) (ahead_of seg.bus x ++ (in_place y).queue) =
          ap (λ fs. filter_map (returns s d) (fs ++ (in_place y).queue)) (put_ahead seg.bus x f sound lx) ∙ none_between (returns s d) (ahead_of seg.bus x) (in_place y).queue f none in
          goes_quietly laws s d pair new (in_place y) (bus.put seg.bus f) x y g l
          (subst (Still s d l) (sym (λ k. (let w : View = record (view laws s d pair x y seg g) {
            lane = Rattle.station_lanes.specs.LaneCalls.lane_to s (sym st_is k).lanes d.0;
            forward = forward k;
            again = filter_map (goes s d) (option_to_list (put_again seg.bus y f sound ly k));
            answers = answers k;
            heard = filter_map (returns s d) (option_to_list (put_again seg.bus x f sound lx k));
          } in w))) (still_same s d l _ h));
      receives = λ q.
          let mine : st.address.0 ≡ d.0 = is_of laws s d pair seg r i st at y d at_y q in
          let lx : x < length seg.bus.cursors = cursor_of seg r x s at_x in
          let ly : y < length seg.bus.cursors = cursor_of seg r y d at_y in
          let st_is : in_place y ≡ st = at_it laws s d pair seg r i st at y q in
          let none : goes s d f ≡ None = goes_foreign s d f (λ z. pair.apart (sym z ∙ from ∙ mine)) in
          let forward : filter_map (goes s d) (ahead_of (bus.put seg.bus f) y ++ (in_place x).queue) ≡ filter_map (goes s d) (ahead_of seg.bus y ++ (in_place x).queue) =
          ap (λ fs. filter_map (goes s d) (fs ++ (in_place x).queue)) (put_ahead seg.bus y f sound ly) ∙ none_between (goes s d) (ahead_of seg.bus y) (in_place x).queue f none in
          let answers : filter_map (returns s d) (ahead_of (bus.put seg.bus f) x ++ drop 1 st.queue) ≡ filter_map (returns s d) (ahead_of seg.bus x ++ (in_place y).queue) =
          ap (λ fs. filter_map (returns s d) (fs ++ drop 1 st.queue)) (put_ahead seg.bus x f sound lx) ∙ ap (filter_map (returns s d)) (append_assoc (ahead_of seg.bus x) (f ∷ []) (drop 1 st.queue)) ∙ ap (λ fs. filter_map (returns s d) (ahead_of seg.bus x ++ fs)) (sym (queue_front st.queue f e) ∙ sym (ap (λ (z : Station). z.queue) st_is)) in
          goes_quietly laws s d pair (in_place x) new (bus.put seg.bus f) x y g l
          (subst (Still s d l) (sym (λ k. (let w : View = record (view laws s d pair x y seg g) {
            forward = forward k;
            again = filter_map (goes s d) (option_to_list (put_again seg.bus y f sound ly k));
            answers = answers k;
            heard = filter_map (returns s d) (option_to_list (put_again seg.bus x f sound lx k));
            tp = real_at laws s d pair (sym st_is k).sessions Tp;
            etp = real_at laws s d pair (sym st_is k).sessions Etp;
          } in w))) (still_same s d l _ h));
      other = λ n m. goes_quietly laws s d pair (in_place x) (in_place y) (bus.put seg.bus f) x y g l
          (subst (Still s d l) (sym (put_is seg r f (in_place x) (in_place y) x y g at_x at_y (goes_foreign s d f (λ z. n (is_here laws s d pair seg r i st at x s at_x (sym from ∙ z)))) (returns_foreign s d f (λ z. m (is_here laws s d pair seg r i st at y d at_y (sym from ∙ z)))))) (still_same s d l _ h));
    })
      where
        new : Station
        new = record st { queue = behind st.queue }

        parted : Each (λ (g : CanFrame). (meaning_of g.id).from.0 ≡ st.address.0) (f ∷ drop 1 st.queue)
        parted = subst (Each (λ (g : CanFrame). (meaning_of g.id).from.0 ≡ st.address.0)) (queue_front st.queue f e) own.queue

        from : (meaning_of f.id).from.0 ≡ st.address.0
        from = parted.0

    -- Frames are passed over

    passed_parts : {A : Type 0} (p : CanFrame → Option A) (k : ℕ) (fs queue : List CanFrame) → filter_map p (fs ++ queue) ≡ filter_map p (take k fs) ++ filter_map p (drop k fs ++ queue)
    passed_parts p k fs queue = ap (λ xs. filter_map p (xs ++ queue)) (take_drop k fs) ∙ ap (filter_map p) (append_assoc (take k fs) (drop k fs) queue) ∙ filter_map-append p (take k fs) (drop k fs ++ queue)

    pub overruns_good : (station : Address) (k : ℕ) → nat_lt (bus.waiting seg.bus i) k ≡ false → GoodBy laws s d pair seg (Overrun station k) (stepped (record seg { bus = released (bus.passed seg.bus i k) }) i (overrun st))
    overruns_good station k few = passes (ltb-false (bus.waiting seg.bus i) k few)
      where
        b : Bus
        b = released (bus.passed seg.bus i k)

        told_none : told_to d s d (overrun st).events ≡ []
        told_none = ap Rattle.broadcast_law.proofs.Ports.first_message (Rattle.connection_law.proofs.Events.none_told s d st.address st own st.lanes 256)

        passes : k ≤ bus.waiting seg.bus i → Good laws s d pair seg (record { now = seg.now; stations = set seg.stations i (overrun st).station; bus = b; counts = counted seg.counts (overrun st).events }) [] none_opened [] (overrun st).events
        passes few = good_step laws s d pair seg r i st at seg.now b (counted seg.counts (overrun st).events) (overrun st) [] none_opened [] (tells_overrun s d st.address st own) (turns_none laws s d pair seg r i st at (overrun st).station refl) (λ x y g l at_x at_y h.
            let lx : x < length seg.bus.cursors = cursor_of seg r x s at_x in
            let ly : y < length seg.bus.cursors = cursor_of seg r y d at_y in
            let n : x ≡ y → ⊥ = apart_places seg x y s d at_x at_y pair.apart in
            let v0 : View = view laws s d pair x y seg g in
            let ahead_else : (j : ℕ) → j < length seg.bus.cursors → (i ≡ j → ⊥) → ahead_of b j ≡ ahead_of seg.bus j = λ j l m. passed_ahead_else seg.bus i k sound here few j l (λ q. m (sym q)) in
            let again_else : (j : ℕ) → j < length seg.bus.cursors → (i ≡ j → ⊥) → frame_again b j ≡ frame_again seg.bus j = λ j l m. passed_again_else seg.bus i k sound here few j l (λ q. m (sym q)) in
            let ahead_here : (j : ℕ) → i ≡ j → ahead_of b j ≡ drop k (ahead_of seg.bus j) = λ j e. ap (ahead_of b) (sym e) ∙ passed_ahead seg.bus i k sound here few ∙ ap (λ z. drop k (ahead_of seg.bus z)) e in
            let again_here : (j : ℕ) → i ≡ j → frame_again b j ≡ None = λ j e. ap (frame_again b) (sym e) ∙ passed_again seg.bus i k sound here few in
            record {
              sends = λ e.
                  let m : i ≡ y → ⊥ = λ q. n (sym e ∙ q) in
                  let v : View = parts laws s d pair st (in_place y) b x y g in
                  let q : Still s d l (record v0 { answers = filter_map (returns s d) (drop k (ahead_of seg.bus x) ++ (in_place y).queue); heard = [] }) =
                  misses laws s d (filter_map (returns s d) (take k (ahead_of seg.bus x))) (filter_map (returns s d) (drop k (ahead_of seg.bus x) ++ (in_place y).queue)) v0 l h (passed_parts (returns s d) k (ahead_of seg.bus x) (in_place y).queue) in
                  let shown : parts laws s d pair (in_place x) (in_place y) b x y g ≡ record v0 { answers = filter_map (returns s d) (drop k (ahead_of seg.bus x) ++ (in_place y).queue); heard = [] } = λ j. (let w : View = record v0 {
                    forward = filter_map (goes s d) (ahead_else y ly m j ++ (in_place x).queue);
                    again = filter_map (goes s d) (option_to_list (again_else y ly m j));
                    answers = filter_map (returns s d) (ahead_here x e j ++ (in_place y).queue);
                    heard = filter_map (returns s d) (option_to_list (again_here x e j));
                  } in w) in
                  let p : Still s d l v = subst (Still s d l) (λ j. parts laws s d pair (at_it laws s d pair seg r i st at x e j) (in_place y) b x y g) (subst (Still s d l) (sym shown) q) in
                  sends_so laws choose s d pair seg r each i st at b (overrun st) x y g l e (still_then s d l v _ p
                  (sender_overruns laws s d pair v (ahead_of b y) p.lane st (own_as s (is_of laws s d pair seg r i st at x s at_x e)) (record { lane = refl; forward = refl }) p.sim));
              receives = λ e.
                  let m : i ≡ x → ⊥ = λ q. n (sym q ∙ e) in
                  let st_is : in_place y ≡ st = at_it laws s d pair seg r i st at y e in
                  let rest : List Wire = filter_map (goes s d) (drop k (ahead_of seg.bus y) ++ (in_place x).queue) in
                  let q : Still s d l (record v0 { forward = rest; again = []; tp = None; etp = None }) =
                  skips laws s d (filter_map (goes s d) (take k (ahead_of seg.bus y))) rest v0 l h (passed_parts (goes s d) k (ahead_of seg.bus y) (in_place x).queue) in
                  record {
                    opened = g.opened;
                    marks = λ z. inl refl;
                    next = next_still s d l _ (subst (Still s d l) (sym (λ j. (let w : View = record v0 {
                      forward = filter_map (goes s d) (ahead_here y e j ++ (in_place x).queue);
                      again = filter_map (goes s d) (option_to_list (again_here y e j));
                      answers = filter_map (returns s d) (ahead_else x lx m j ++ (sym st_is j).queue);
                      heard = filter_map (returns s d) (option_to_list (again_else x lx m j));
                      tp = state_empty (Rattle.station_sessions.specs.Opening.key_of s (session_for Tp)) j;
                      etp = state_empty (Rattle.station_sessions.specs.Opening.key_of s (session_for Etp)) j;
                      sent = append-nil g.sent j;
                      given = (ap (λ ts. g.given ++ ts) told_none ∙ append-nil g.given) j;
                      ended = append-nil g.ended j;
                    } in w))) q);
                  };
              other = λ p q. goes_quietly laws s d pair (in_place x) (in_place y) b x y g l (subst (Still s d l) (sym (λ j. (let w : View = record v0 {
                forward = filter_map (goes s d) (ahead_else y ly q j ++ (in_place x).queue);
                again = filter_map (goes s d) (option_to_list (again_else y ly q j));
                answers = filter_map (returns s d) (ahead_else x lx p j ++ (in_place y).queue);
                heard = filter_map (returns s d) (option_to_list (again_else x lx p j));
              } in w))) (still_same s d l v0 h));
            })
