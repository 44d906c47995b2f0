-- A station takes the next frame of the bus, or the last one again.
use Rattle.std.proofs.Common.{◌≡◌, ◌⊎◌, inl, inr, ℕ, ◌+◌, ◌<◌, ◌≤◌, Bool, List, [], ◌∷◌, ◌++◌, length, set, filter_map, Option, Some, None, refl, sym, ap, ◌∙◌, subst, append-nil}
use Rattle.std.specs.Prelude.{slice_get, option_to_list}
use Rattle.std.specs.List.{cons_option}
use Rattle.bus_frame.specs.Frames.{CanFrame}
use Rattle.pgn_ids.specs.Pgn.{clean}
use Rattle.pgn_ids.specs.declared.address.Address.{Address}
use Rattle.tp_wire.specs.declared.wire.Kind.{Kind}
use Rattle.tp_wire.specs.declared.wire.Kind.TheVariants.{Tp, Etp}
use Rattle.tp_wire.specs.declared.wire.Wire.{Wire}
use Rattle.tp_wire.specs.declared.wire.Wire.TheVariants as wires
use Rattle.tp_wire.specs.declared.wire.CmFrame.TheVariants as frames
use Rattle.port_table.specs.Ports.{ports_for}
use Rattle.bus_order.specs.Bus as bus
use Rattle.bus_order.specs.Bus.{Bus, cursor_at, bus_len, released, frame_again}
use Rattle.bus_order.specs.Kept.{IsSound}
use Rattle.station_core.specs.Station.{Station, StationStep}
use Rattle.station_core.specs.Taking.{is_malformed_for, taken}
use Rattle.segment_law.specs.Told.{AtPort}
use Rattle.segment_law.specs.Segment.{Segment, counted, counted_look, counted_repeat}
use Rattle.segment_law.specs.Reached.{IsReached}
use Rattle.segment_law.specs.declared.call.Call.TheVariants.{Take, TakeAgain}
use Rattle.segment_law.specs.declared.counts.Counts.{Counts}
use Rattle.segment_law.proofs.Buses.{frame_within}
use Rattle.record_law.proofs.EachCall.{looked}
use Rattle.record_law.proofs.Segments.{same_address}
use Rattle.lane_law.specs.Choice.{IsChoice}
use Rattle.lane_law.specs.Lane as machine
use Rattle.broadcast_law.proofs.Buses.{ahead_of, IsTaken, taken_here, taken_ahead_else, taken_again_else}
use Rattle.broadcast_law.proofs.Places.{IsAt, AllOwn, cursor_of, apart_places}
use Rattle.broadcast_law.proofs.Stations.{IsOwn}
use Rattle.connection_law.proofs.Frames.{Back, goes, returns}
use Rattle.connection_law.proofs.Roles.{station_told, numbers_at, told_to, receiver_aside}
use Rattle.connection_law.proofs.View.{Laws, IsPair, Mark, View, Sim, Still, Next, still_same, still_then}
use Rattle.connection_law.proofs.Moves.{Taken, takes, repeats, forgets, hears, forgets_answer}
use Rattle.connection_law.proofs.Receiver.{mark_of}
use Rattle.connection_law.proofs.Turns.{none_opened, taken_ports}
use Rattle.connection_law.proofs.Events.{tells_taken}
use Rattle.connection_law.proofs.Segments.{Ghost, parts, station_in, view, Goes, goes_quietly, turns_none, Good, GoodBy, a, is_of, at_it, good_step}
use Rattle.connection_law.proofs.Calls.{sends_so, receives_so}
use Rattle.connection_law.proofs.TakesOut.{sender_takes}
use Rattle.connection_law.proofs.TakesIn.{takes_aside}
use Rattle.connection_law.proofs.HearsIn.{opens_by}
use Rattle.connection_law.proofs.HearsFrames.{IsQuiet, hears_in}

module _ (laws : Laws) (choose : machine.OnEachLane (λ lane. IsChoice lane.stream.given lane.stream.sent)) (s d : Address) (pair : IsPair s d) where
  module _ (seg : Segment) (r : IsReached seg) (each : AllOwn seg) (i : ℕ) (st : Station) (at : slice_get seg.stations i ≡ Some st) where
    own : IsOwn st.address st
    own = each i st at

    own_as : (c : Address) → st.address.0 ≡ c.0 → IsOwn c st
    own_as c e = subst (λ x. IsOwn x st) (same_address st.address c e) own

    sound : IsSound seg.bus
    sound = r.bus.sound

    here : i < length seg.bus.cursors
    here = cursor_of seg r i st.address (st, at, refl)

    abbrev in_place : ℕ → Station
    in_place x = station_in laws s d pair seg.stations x

    -- A frame is taken, or taken again

    module _ (f : CanFrame) (room : Bool) where
      abbrev step : StationStep
      step = taken st f room seg.now

      abbrev no_ports : List ℕ
      no_ports = []

      -- what stands once the frame is the one to be looked at
      pub record Looks (b : Bus) (x y : ℕ) (g : Ghost) (l : machine.Lane) : Type 0 where
        pub out : i ≡ x → Still s d l (parts laws s d pair st (in_place y) b x y g)
        pub heard : i ≡ x → filter_map (returns s d) (option_to_list (frame_again b x)) ≡ filter_map (returns s d) (f ∷ [])
        pub quiet : i ≡ y → goes s d f ≡ None → Still s d l (parts laws s d pair (in_place x) st b x y g)
        pub carries : i ≡ y → (w : Wire) → goes s d f ≡ Some w → Taken laws s d l (parts laws s d pair (in_place x) st b x y g) w
        pub other : (i ≡ x → ⊥) → (i ≡ y → ⊥) → Still s d l (parts laws s d pair (in_place x) (in_place y) b x y g)

      opens_marks : (w : Wire) (given : List AtPort) → IsQuiet w given → (n : ℕ) (old : Kind → Mark) (k : Kind) → (opens_by st.ports w n old k ≡ old k) ⊎ ((pgn : ℕ) × (size : ℕ) × (no_ports ≡ []) × (given ≡ []) × (opens_by st.ports w n old k ≡ mark_of n pgn size (ports_for st.ports (clean pgn) size)))
      opens_marks (wires.Cm (frames.Rts size packets most pgn)) given q n old Tp = inr (pgn, size, refl, q, refl)
      opens_marks (wires.Cm (frames.Rts size packets most pgn)) given q n old Etp = inl refl
      opens_marks (wires.Cm (frames.EtpRts size pgn)) given q n old Tp = inl refl
      opens_marks (wires.Cm (frames.EtpRts size pgn)) given q n old Etp = inr (pgn, size, refl, q, refl)
      opens_marks (wires.Cm (frames.Cts a b c)) given q n old k = inl refl
      opens_marks (wires.Cm (frames.EndOfMsgAck a b c)) given q n old k = inl refl
      opens_marks (wires.Cm (frames.Bam a b c)) given q n old k = inl refl
      opens_marks (wires.Cm (frames.Abort a b)) given q n old k = inl refl
      opens_marks (wires.Cm (frames.EtpCts a b c)) given q n old k = inl refl
      opens_marks (wires.Cm (frames.EtpDpo a b c)) given q n old k = inl refl
      opens_marks (wires.Cm (frames.EtpEoma a b)) given q n old k = inl refl
      opens_marks (wires.Cm (frames.EtpAbort a b)) given q n old k = inl refl
      opens_marks (wires.Packet a b c) given q n old k = inl refl
      opens_marks (wires.Request a) given q n old k = inl refl
      opens_marks (wires.Ack a b c) given q n old k = inl refl

      look_good : (b : Bus) (counts : Counts) → ((x y : ℕ) (g : Ghost) (l : machine.Lane) → IsAt seg x s → IsAt seg y d → Sim s d (view laws s d pair x y seg g) l → Looks b x y g l)
          → Good laws s d pair seg (record { now = seg.now; stations = set seg.stations i step.station; bus = b; counts = counts }) [] none_opened [] step.events
      look_good b counts looks = good_step laws s d pair seg r i st at seg.now b counts step [] none_opened [] (tells_taken s d st.address st own f room seg.now) (turns_none laws s d pair seg r i st at step.station (taken_ports st f room seg.now)) (λ x y g l at_x at_y h.
          let k : Looks b x y g l = looks x y g l at_x at_y h in
          record {
            sends = λ e.
                let v : View = parts laws s d pair st (in_place y) b x y g in
                let q : Still s d l v = k.out e in
                sends_so laws choose s d pair seg r each i st at b step x y g l e (still_then s d l v _ q
                (sender_takes laws s d pair v (ahead_of b y) q.lane st f room seg.now (own_as s (is_of laws s d pair seg r i st at x s at_x e)) (record { lane = refl; forward = refl }) q.sim (k.heard e)));
            receives = λ e. received x y g l (own_as d (is_of laws s d pair seg r i st at y d at_y e)) (k.quiet e) (k.carries e) (goes s d f) refl;
            other = λ n m. goes_quietly laws s d pair (in_place x) (in_place y) b x y g l (k.other n m);
          })
        where
          received : (x y : ℕ) (g : Ghost) (l : machine.Lane) → IsOwn d st → (goes s d f ≡ None → Still s d l (parts laws s d pair (in_place x) st b x y g)) → ((w : Wire) → goes s d f ≡ Some w → Taken laws s d l (parts laws s d pair (in_place x) st b x y g) w) → (o : Option Wire) → goes s d f ≡ o
              → Goes laws s d pair st.ports [] (in_place x) step.station b x y g [] (station_told d s d step.events) [] l
          received x y g l k quiet carries None e =
              let v : View = parts laws s d pair (in_place x) st b x y g in
              let q : Still s d l v = quiet e in
              receives_so laws choose s d pair seg r each i st at b step x y g l (still_then s d l v _ q (receiver_aside laws s d pair v (ahead_of b x) st step q.lane (record { tp = refl; etp = refl; answers = refl }) (takes_aside laws s d pair st f room seg.now k e) q.sim))
          received x y g l k quiet carries (Some w) e =
              let v : View = parts laws s d pair (in_place x) st b x y g in
              let heard = hears_in laws choose s d pair v (ahead_of b x) l st k (record { tp = refl; etp = refl; answers = refl }) f w room seg.now e (carries w e) in
              record {
                opened = opens_by st.ports w (length g.sent) g.opened;
                marks = opens_marks w (station_told d s d step.events) heard.1 (length g.sent) g.opened;
                next = subst (Next s d (numbers_at (station_told d s d step.events)) l) (sym (λ j. parts laws s d pair (in_place x) step.station b x y (let z : Ghost = record { sent = append-nil g.sent j; given = g.given ++ told_to d s d step.events; ended = append-nil g.ended j; opened = opens_by st.ports w (length g.sent) g.opened } in z)))
                    heard.0;
              }

      -- the next frame
      taken_looks : bus.next_frame seg.bus i ≡ Some f → (x y : ℕ) (g : Ghost) (l : machine.Lane) → IsAt seg x s → IsAt seg y d → Sim s d (view laws s d pair x y seg g) l → Looks (released (bus.taken seg.bus i)) x y g l
      taken_looks next x y g l at_x at_y h = record { out = out; heard = heard; quiet = quiet; carries = carries; other = other }
        where
          b : Bus
          b = released (bus.taken seg.bus i)

          v0 : View
          v0 = view laws s d pair x y seg g

          within : (cursor_at seg.bus i).place + 1 ≤ bus_len seg.bus
          within = frame_within seg.bus ((cursor_at seg.bus i).place + 1) f next

          t : IsTaken seg.bus i f
          t = taken_here seg.bus i f sound here next within

          lx : x < length seg.bus.cursors
          lx = cursor_of seg r x s at_x

          ly : y < length seg.bus.cursors
          ly = cursor_of seg r y d at_y

          n : x ≡ y → ⊥
          n = apart_places seg x y s d at_x at_y pair.apart

          ahead_else : (j : ℕ) → j < length seg.bus.cursors → (i ≡ j → ⊥) → ahead_of b j ≡ ahead_of seg.bus j
          ahead_else j l m = taken_ahead_else seg.bus i f sound here next within j l (λ q. m (sym q))

          again_else : (j : ℕ) → j < length seg.bus.cursors → (i ≡ j → ⊥) → frame_again b j ≡ frame_again seg.bus j
          again_else j l m = taken_again_else seg.bus i f sound here next within j l (λ q. m (sym q))

          again_here : (j : ℕ) → i ≡ j → frame_again b j ≡ Some f
          again_here j e = ap (frame_again b) (sym e) ∙ t.again

          heard : i ≡ x → filter_map (returns s d) (option_to_list (frame_again b x)) ≡ filter_map (returns s d) (f ∷ [])
          heard e = ap (λ o. filter_map (returns s d) (option_to_list o)) (again_here x e)

          -- at the sender
          out : i ≡ x → Still s d l (parts laws s d pair st (in_place y) b x y g)
          out e = subst (Still s d l) (λ k. parts laws s d pair (at_it laws s d pair seg r i st at x e k) (in_place y) b x y g) (subst (Still s d l) (sym shown) (by (returns s d f) refl))
            where
              m : i ≡ y → ⊥
              m q = n (sym e ∙ q)

              rest : List Back
              rest = filter_map (returns s d) (t.rest ++ (in_place y).queue)

              before : v0.answers ≡ cons_option (returns s d f) rest
              before = ap (λ fs. filter_map (returns s d) (fs ++ (in_place y).queue)) (ap (ahead_of seg.bus) (sym e) ∙ t.before)

              shown : parts laws s d pair (in_place x) (in_place y) b x y g ≡ record v0 { answers = rest; heard = cons_option (returns s d f) [] }
              shown = λ k. (let w : View = record v0 {
                forward = filter_map (goes s d) (ahead_else y ly m k ++ (in_place x).queue);
                again = filter_map (goes s d) (option_to_list (again_else y ly m k));
                answers = filter_map (returns s d) ((ap (ahead_of b) (sym e) ∙ t.ahead) k ++ (in_place y).queue);
                heard = heard e k;
              } in w)

              by : (o : Option Back) → returns s d f ≡ o → Still s d l (record v0 { answers = rest; heard = cons_option (returns s d f) [] })
              by None q =
                  let same : v0.answers ≡ rest = before ∙ ap (λ o. cons_option o rest) q in
                  subst (Still s d l) (λ k. (let w : View = record v0 { answers = same k; heard = cons_option (sym q k) [] } in w)) (forgets_answer laws s d v0 l h)
              by (Some z) q = subst (Still s d l) (λ k. (let w : View = record v0 { answers = rest; heard = cons_option (sym q k) [] } in w)) (hears laws s d v0 l h z rest (before ∙ ap (λ o. cons_option o rest) q))

          -- at the destination
          rest_in : List Wire
          rest_in = filter_map (goes s d) (t.rest ++ (in_place x).queue)

          before_in : i ≡ y → v0.forward ≡ cons_option (goes s d f) rest_in
          before_in e = ap (λ fs. filter_map (goes s d) (fs ++ (in_place x).queue)) (ap (ahead_of seg.bus) (sym e) ∙ t.before)

          shown_in : i ≡ y → parts laws s d pair (in_place x) (in_place y) b x y g ≡ record v0 { forward = rest_in; again = cons_option (goes s d f) [] }
          shown_in e = λ k. (let w : View = record v0 {
            forward = filter_map (goes s d) ((ap (ahead_of b) (sym e) ∙ t.ahead) k ++ (in_place x).queue);
            again = filter_map (goes s d) (option_to_list (again_here y e k));
            answers = filter_map (returns s d) (ahead_else x lx (λ q. n (sym q ∙ e)) k ++ (in_place y).queue);
            heard = filter_map (returns s d) (option_to_list (again_else x lx (λ q. n (sym q ∙ e)) k));
          } in w)

          at_y_it : (e : i ≡ y) → parts laws s d pair (in_place x) (in_place y) b x y g ≡ parts laws s d pair (in_place x) st b x y g
          at_y_it e = λ k. parts laws s d pair (in_place x) (at_it laws s d pair seg r i st at y e k) b x y g

          quiet : i ≡ y → goes s d f ≡ None → Still s d l (parts laws s d pair (in_place x) st b x y g)
          quiet e q = subst (Still s d l) (at_y_it e) (subst (Still s d l) (sym (shown_in e))
              (subst (Still s d l) (λ k. (let w : View = record v0 { forward = (before_in e ∙ ap (λ o. cons_option o rest_in) q) k; again = cons_option (sym q k) [] } in w)) (forgets laws s d v0 l h)))

          carries : i ≡ y → (w : Wire) → goes s d f ≡ Some w → Taken laws s d l (parts laws s d pair (in_place x) st b x y g) w
          carries e w q = subst (λ z. Taken laws s d l z w) (at_y_it e) (subst (λ z. Taken laws s d l z w) (sym (shown_in e))
              (subst (λ z. Taken laws s d l z w) (λ k. (let u : View = record v0 { forward = rest_in; again = cons_option (sym q k) [] } in u)) (takes laws s d v0 l h w rest_in (before_in e ∙ ap (λ o. cons_option o rest_in) q))))

          other : (i ≡ x → ⊥) → (i ≡ y → ⊥) → Still s d l (parts laws s d pair (in_place x) (in_place y) b x y g)
          other p q = subst (Still s d l) (sym (λ k. (let w : View = record v0 {
            forward = filter_map (goes s d) (ahead_else y ly q k ++ (in_place x).queue);
            again = filter_map (goes s d) (option_to_list (again_else y ly q k));
            answers = filter_map (returns s d) (ahead_else x lx p k ++ (in_place y).queue);
            heard = filter_map (returns s d) (option_to_list (again_else x lx p k));
          } in w))) (still_same s d l v0 h)

      -- the frame that was taken last
      repeated_looks : bus.frame_again seg.bus i ≡ Some f → (x y : ℕ) (g : Ghost) (l : machine.Lane) → IsAt seg x s → IsAt seg y d → Sim s d (view laws s d pair x y seg g) l → Looks seg.bus x y g l
      repeated_looks again x y g l at_x at_y h = record {
        out = λ e. subst (Still s d l) (λ k. parts laws s d pair (at_it laws s d pair seg r i st at x e k) (in_place y) seg.bus x y g) same;
        heard = λ e. ap (λ o. filter_map (returns s d) (option_to_list o)) (ap (frame_again seg.bus) (sym e) ∙ again);
        quiet = λ e q. subst (Still s d l) (λ k. parts laws s d pair (in_place x) (at_it laws s d pair seg r i st at y e k) seg.bus x y g) same;
        carries = λ e w q. subst (λ z. Taken laws s d l z w) (λ k. parts laws s d pair (in_place x) (at_it laws s d pair seg r i st at y e k) seg.bus x y g)
            (repeats laws s d (view laws s d pair x y seg g) l h w (ap (λ o. filter_map (goes s d) (option_to_list o)) (ap (frame_again seg.bus) (sym e) ∙ again) ∙ ap (λ o. cons_option o []) q));
        other = λ _ _. same;
      }
        where
          same : Still s d l (view laws s d pair x y seg g)
          same = still_same s d l _ h

    pub takes_good : (station : Address) (room : Bool) (f : CanFrame) → bus.next_frame seg.bus i ≡ Some f → GoodBy laws s d pair seg (Take station room) (looked (record seg { bus = released (bus.taken seg.bus i) }) room i st f)
    takes_good station room f e = look_good f room (released (bus.taken seg.bus i)) (counted (counted_look seg.counts (is_malformed_for st f)) (step f room).events) (taken_looks f room e)

    pub repeats_good : (station : Address) (room : Bool) (f : CanFrame) → bus.frame_again seg.bus i ≡ Some f → GoodBy laws s d pair seg (TakeAgain station room) (looked (record seg { counts = counted_repeat seg.counts }) room i st f)
    repeats_good station room f e = look_good f room seg.bus (counted (counted_look (counted_repeat seg.counts) (is_malformed_for st f)) (step f room).events) (repeated_looks f room e)
