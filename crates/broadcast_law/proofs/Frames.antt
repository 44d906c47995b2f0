-- A frame that is put on the bus, taken from it or passed over moves in the stream as it does in the segment.
use Rattle.std.proofs.Common.{◌≡◌, ◌⊎◌, inl, inr, ℕ, ◌+◌, ◌<◌, ◌≤◌, nat_lt, Bool, List, [], ◌∷◌, ◌++◌, length, drop, set, Option, Some, None, refl, sym, ap, ◌∙◌, subst, append-nil, ltb-false, false}
use Rattle.std.specs.Prelude.{slice_get}
use Rattle.std.specs.Option.{option_map}
use Rattle.std.proofs.lemmas.Option.{none-some, same_Some}
use Rattle.std.specs.FinMap as finmap
use Rattle.bus_frame.specs.Frames.{CanFrame}
use Rattle.pgn_ids.specs.Identifier.{meaning_of}
use Rattle.pgn_ids.specs.declared.address.Address.{Address}
use Rattle.tp_wire.specs.declared.wire.Wire.{Wire}
use Rattle.tx_queue.specs.Queue.{front, behind}
use Rattle.bus_order.specs.Bus as bus
use Rattle.bus_order.specs.Bus.{Bus, cursor_at, bus_len, released}
use Rattle.bus_order.specs.Kept.{IsSound}
use Rattle.session_table.specs.declared.incoming.Incoming.{Incoming}
use Rattle.message_events.specs.declared.event.Event.{Event}
use Rattle.station_core.specs.Station.{Station, StationStep}
use Rattle.station_core.specs.Taking.{is_malformed_for, taken}
use Rattle.station_core.specs.Overruns.{overrun}
use Rattle.segment_law.specs.Told as told
use Rattle.segment_law.specs.Segment.{Segment, counted, counted_frame, counted_look, counted_repeat, with_station}
use Rattle.segment_law.specs.Calls.{with_frame}
use Rattle.segment_law.specs.Reached.{IsReached}
use Rattle.segment_law.specs.declared.call.Call.TheVariants.{Transmit, Take, TakeAgain, Overrun}
use Rattle.segment_law.specs.declared.counts.Counts.{Counts}
use Rattle.segment_law.proofs.Buses.{frame_within}
use Rattle.segment_law.specs.declared.reply.Reply.TheVariants.{Done}
use Rattle.record_law.proofs.EachCall.{stepped, looked}
use Rattle.record_law.proofs.Lists.{Each}
use Rattle.record_law.proofs.Maps.{session_at, state_empty}
use Rattle.record_law.proofs.Readings.{GivesBack}
use Rattle.record_law.proofs.Segments.{same_address}
use Rattle.record_law.proofs.Tests.{equal_or_not}
use Rattle.broadcast_law.proofs.Buses.{ahead_of, IsTaken, taken_here, taken_ahead_else, taken_again_else, passed_ahead, passed_again, passed_long, passed_ahead_else, passed_again_else, put_ahead, put_again}
use Rattle.broadcast_law.proofs.Calm.{Calm, calm_taken, own_untold}
use Rattle.broadcast_law.proofs.Carried.{carried, carried_foreign}
use Rattle.broadcast_law.proofs.Endings.{does_overrun, overrun_untold}
use Rattle.broadcast_law.proofs.Good.{Silent, Good, GoodBy, bus_same, small, is_of, is_here, good_step}
use Rattle.broadcast_law.proofs.Hears.{hears}
use Rattle.broadcast_law.proofs.Places.{IsAt, AllOwn, cursor_of, apart_places, parts, station_in, view, at_it, sends_calmly, receives_calmly}
use Rattle.broadcast_law.proofs.Ports.{station_told, first_message, told_to, one_of_none, none_told, none_elsewhere}
use Rattle.broadcast_law.proofs.Receive.{Taken, takes_other, takes_own, repeats, skips}
use Rattle.broadcast_law.proofs.Receptions.{key_all}
use Rattle.broadcast_law.proofs.Send.{transmits, puts_other}
use Rattle.broadcast_law.proofs.Stations.{IsOwn, Does}
use Rattle.broadcast_law.proofs.Takes.{does_taken, taken_ports, taken_one}
use Rattle.broadcast_law.proofs.View.{View, Stands, GoesOn}

pub queue_front : (queue : List CanFrame) (f : CanFrame) → front queue ≡ Some f → queue ≡ f ∷ drop 1 queue
queue_front [] f e = absurd (none-some f e)
queue_front (g ∷ queue) f e = ap (λ x. x ∷ queue) (same_Some g f e)

module _ (s listener : Address) (goes : GoesOn) (gives : GivesBack)
    (seg : Segment) (r : IsReached seg) (each : AllOwn seg) (i : ℕ) (st : Station) (at : slice_get seg.stations i ≡ Some st) where
  abbrev a : Address
  a = st.address

  own : IsOwn a st
  own = each i st at

  low : a.0 < 254
  low = small s listener goes seg r each i st at

  sound : IsSound seg.bus
  sound = r.bus.sound

  here : i < length seg.bus.cursors
  here = cursor_of seg r i a (st, at, refl)

  -- the front frame of the queue is put
  pub transmits_good : (station : Address) (f : CanFrame) → front st.queue ≡ Some f → GoodBy s listener seg (Transmit station) (with_frame (with_station seg i (record st { queue = behind st.queue })) f, Done [])
  transmits_good station f e = good_step s listener goes seg r each i st at seg.now (bus.put seg.bus f) (counted_frame seg.counts) new [] [] new_own (λ x y sent given at_x at_y n v.
      let n' : x ≡ y → ⊥ = apart_places seg x y s listener at_x at_y n in
      let w : Stands s (view s x y seg (sent ++ []) given) = subst (λ ms. Stands s (view s x y seg ms given)) (sym (append-nil sent)) v in
      let l : y < length seg.bus.cursors = cursor_of seg r y listener at_y in
      let xs : Station = station_in s seg.stations x in
      let ys : Station = station_in s seg.stations y in
      let other : (a.0 ≡ s.0 → ⊥) → Stands s (parts s xs ys (bus.put seg.bus f) y (sent ++ []) given) = λ d.
      (subst (Stands s) (sym (λ k. (let u : View = record (parts s xs ys seg.bus y (sent ++ []) given) { ahead = put_ahead seg.bus y f sound l k; again = put_again seg.bus y f sound l k } in u)))
      (puts_other s goes (parts s xs ys seg.bus y (sent ++ []) given) f w (carried_foreign s f (λ q. d (sym from ∙ q))))) in
      record {
        sends = λ h.
            let st_is : xs ≡ st = at_it s x y n' seg.stations i st new at seg.bus sent given [] x h in
            let q : xs.queue ≡ f ∷ drop 1 st.queue = ap (λ (z : Station). z.queue) st_is ∙ queue_front st.queue f e in
            subst (Stands s) (sym (λ k. (let u : View = record (parts s (sym st_is k) ys seg.bus y (sent ++ []) given) { queue = drop 1 st.queue; ahead = put_ahead seg.bus y f sound l k; again = put_again seg.bus y f sound l k } in u)))
            (transmits s goes (parts s xs ys seg.bus y (sent ++ []) given) f (drop 1 st.queue) w q);
        receives = λ h.
            let d : a.0 ≡ s.0 → ⊥ = λ q. n (sym q ∙ is_of s listener goes seg r each i st at y listener at_y h) in
            receives_calmly s x y n' seg.stations i st new at (bus.put seg.bus f) (sent ++ []) given [] goes (inr refl) refl h (other d);
        other = λ h _. other (λ q. h (is_here s listener goes seg r each i st at x s at_x q));
      }) (λ _ _ _. refl) (λ _. refl) (one_of_none [] refl)
    where
      new : Station
      new = record st { queue = behind st.queue }

      parted : Each (λ (g : CanFrame). (meaning_of g.id).from.0 ≡ a.0) (f ∷ drop 1 st.queue)
      parted = subst (Each (λ (g : CanFrame). (meaning_of g.id).from.0 ≡ a.0)) (queue_front st.queue f e) own.queue

      from : (meaning_of f.id).from.0 ≡ a.0
      from = parted.0

      new_own : IsOwn a new
      new_own = record { address = own.address; ports = own.ports; sessions = own.sessions; lanes = own.lanes; queue = parted.1 }

  -- A frame is taken, or taken again

  module _ (f : CanFrame) (room : Bool) where
    abbrev step : StationStep
    step = taken st f room seg.now

    none_at : (y : ℕ) → IsAt seg y listener → (i ≡ y → ⊥) → told_to listener s step.events ≡ []
    none_at y at_y n = ap first_message (none_elsewhere listener s a step.events (λ e. n (is_here s listener goes seg r each i st at y listener at_y e)) (taken_ports gives a low st f room seg.now own))

    none_silent : Silent s listener seg → station_told listener s step.events ≡ []
    none_silent (inr q) = none_elsewhere listener s a step.events (λ e. q i (st, at, e)) (taken_ports gives a low st f room seg.now own)
    none_silent (inl q) = by (equal_or_not a.0 listener.0)
      where
        by : (a.0 ≡ listener.0) ⊎ (a.0 ≡ listener.0 → ⊥) → station_told listener s step.events ≡ []
        by (inl e) = none_told listener s step.events (own_untold a low s st f room seg.now own (e ∙ sym q))
        by (inr n) = none_elsewhere listener s a step.events n (taken_ports gives a low st f room seg.now own)

    -- what stands once the frame is the one to be looked at
    record Looks (b : Bus) (x y : ℕ) (sent given : List told.Message) : Type 0 where
      quiet : (i ≡ y → carried s f ≡ None) → Stands s (parts s (station_in s seg.stations x) (station_in s seg.stations y) b y sent given)
      carries : i ≡ y → (w : Wire) → carried s f ≡ Some w → Taken s goes (parts s (station_in s seg.stations x) (station_in s seg.stations y) b y sent given) w

    look_good : (b : Bus) (counts : Counts)
        → ((x y : ℕ) (sent given : List told.Message) → IsAt seg x s → IsAt seg y listener → (s.0 ≡ listener.0 → ⊥) → Stands s (view s x y seg sent given) → Looks b x y sent given)
        → Good s listener seg (record { now = seg.now; stations = set seg.stations i step.station; bus = b; counts = counts }) [] step.events
    look_good b counts looks = good_step s listener goes seg r each i st at seg.now b counts step.station [] step.events d.own (λ x y sent given at_x at_y n v.
        let n' : x ≡ y → ⊥ = apart_places seg x y s listener at_x at_y n in
        let w : Stands s (view s x y seg (sent ++ []) given) = subst (λ ms. Stands s (view s x y seg ms given)) (sym (append-nil sent)) v in
        let l : Looks b x y (sent ++ []) given = looks x y (sent ++ []) given at_x at_y n w in
        record {
          sends = λ e. sends_calmly s x y n' seg.stations i st step.station at b (sent ++ []) given (told_to listener s step.events) goes (subst (λ z. Does z st step.station) (same_address a s (is_of s listener goes seg r each i st at x s at_x e)) d) e (l.quiet (λ q. absurd (n' (sym e ∙ q))));
          receives = λ e. received x y (sent ++ []) given n' e (λ q. n (q ∙ is_of s listener goes seg r each i st at y listener at_y e)) l (carried s f) refl;
          other = λ _ m. l.quiet (λ q. absurd (m q));
        }) none_at none_silent (taken_one gives a low listener s st f room seg.now own)
      where
        d : Does a st step.station
        d = does_taken gives a low st f room seg.now own

        received : (x y : ℕ) (sent given : List told.Message) → (x ≡ y → ⊥) → i ≡ y → (s.0 ≡ a.0 → ⊥) → Looks b x y sent given → (o : Option Wire) → carried s f ≡ o → Stands s (parts s (station_in s seg.stations x) step.station b y sent (given ++ told_to listener s step.events))
        received x y sent given n' e m l None c =
            let k : Calm a low s st step = calm_taken a low s st f room seg.now own c in
            receives_calmly s x y n' seg.stations i st step.station at b sent given (told_to listener s step.events) goes k.session (ap first_message (none_told listener s step.events k.untold)) e (l.quiet (λ _. c))
        received x y sent given n' e m l (Some w) c =
            hears s listener goes a (parts s (station_in s seg.stations x) (station_in s seg.stations y) b y sent given) st f w room seg.now own m
            (ap (λ (z : Station). session_at z.sessions (key_all s)) (at_it s x y n' seg.stations i st step.station at b sent given [] y e)) c (l.carries e w c)

    taken_looks : bus.next_frame seg.bus i ≡ Some f → (x y : ℕ) (sent given : List told.Message) → IsAt seg x s → IsAt seg y listener → (s.0 ≡ listener.0 → ⊥) → Stands s (view s x y seg sent given) → Looks (released (bus.taken seg.bus i)) x y sent given
    taken_looks next x y sent given at_x at_y n v = record { quiet = quiet; carries = carries }
      where
        v0 : View
        v0 = view s x y seg sent given

        within : (cursor_at seg.bus i).place + 1 ≤ bus_len seg.bus
        within = frame_within seg.bus ((cursor_at seg.bus i).place + 1) f next

        t : IsTaken seg.bus i f
        t = taken_here seg.bus i f sound here next within

        there : i ≡ y → record v0 { ahead = t.rest; again = Some f } ≡ parts s (station_in s seg.stations x) (station_in s seg.stations y) (released (bus.taken seg.bus i)) y sent given
        there e = sym (λ k. (let u : View = record v0 { ahead = (ap (ahead_of (released (bus.taken seg.bus i))) (sym e) ∙ t.ahead) k; again = (ap (bus.frame_again (released (bus.taken seg.bus i))) (sym e) ∙ t.again) k } in u))

        before : i ≡ y → v0.ahead ≡ f ∷ t.rest
        before e = ap (ahead_of seg.bus) (sym e) ∙ t.before

        else : (i ≡ y → ⊥) → Stands s (parts s (station_in s seg.stations x) (station_in s seg.stations y) (released (bus.taken seg.bus i)) y sent given)
        else m = bus_same s listener (station_in s seg.stations x) (station_in s seg.stations y) seg.bus (released (bus.taken seg.bus i)) y sent given
            (taken_ahead_else seg.bus i f sound here next within y (cursor_of seg r y listener at_y) (λ q. m (sym q))) (taken_again_else seg.bus i f sound here next within y (cursor_of seg r y listener at_y) (λ q. m (sym q))) v

        quiet : (i ≡ y → carried s f ≡ None) → Stands s (parts s (station_in s seg.stations x) (station_in s seg.stations y) (released (bus.taken seg.bus i)) y sent given)
        quiet c = by (equal_or_not i y)
          where
            by : (i ≡ y) ⊎ (i ≡ y → ⊥) → Stands s (parts s (station_in s seg.stations x) (station_in s seg.stations y) (released (bus.taken seg.bus i)) y sent given)
            by (inl e) = subst (Stands s) (there e) (takes_other s goes v0 v.0 f t.rest v.1 (before e) (c e))
            by (inr m) = else m

        carries : i ≡ y → (w : Wire) → carried s f ≡ Some w → Taken s goes (parts s (station_in s seg.stations x) (station_in s seg.stations y) (released (bus.taken seg.bus i)) y sent given) w
        carries e w c = subst (λ u. Taken s goes u w) (there e) (takes_own s goes v0 v.0 f t.rest w v.1 (before e) c)

    repeated_looks : bus.frame_again seg.bus i ≡ Some f → (x y : ℕ) (sent given : List told.Message) → IsAt seg x s → IsAt seg y listener → (s.0 ≡ listener.0 → ⊥) → Stands s (view s x y seg sent given) → Looks seg.bus x y sent given
    repeated_looks again x y sent given at_x at_y n v = record {
      quiet = λ c. v;
      carries = λ e w c. repeats s goes (view s x y seg sent given) v.0 f w v.1 (ap (bus.frame_again seg.bus) (sym e) ∙ again) c;
    }

  pub takes_good : (station : Address) (room : Bool) (f : CanFrame) → bus.next_frame seg.bus i ≡ Some f → GoodBy s listener seg (Take station room) (looked (record seg { bus = released (bus.taken seg.bus i) }) room i st f)
  takes_good station room f e = look_good f room (released (bus.taken seg.bus i)) (counted (counted_look seg.counts (is_malformed_for st f)) (step f room).events) (taken_looks f room e)

  pub repeats_good : (station : Address) (room : Bool) (f : CanFrame) → bus.frame_again seg.bus i ≡ Some f → GoodBy s listener seg (TakeAgain station room) (looked (record seg { counts = counted_repeat seg.counts }) room i st f)
  repeats_good station room f e = look_good f room seg.bus (counted (counted_look (counted_repeat seg.counts) (is_malformed_for st f)) (step f room).events) (repeated_looks f room e)

  -- Frames are passed over
  pub overruns_good : (station : Address) (n : ℕ) → nat_lt (bus.waiting seg.bus i) n ≡ false → GoodBy s listener seg (Overrun station n) (stepped (record seg { bus = released (bus.passed seg.bus i n) }) i (overrun st))
  overruns_good station k few = passes (ltb-false (bus.waiting seg.bus i) k few)
    where
      new : Station
      new = (overrun st).station

      events : List Event
      events = (overrun st).events

      b : Bus
      b = released (bus.passed seg.bus i k)

      none_given : station_told listener s events ≡ []
      none_given = none_told listener s events (overrun_untold gives a low s st.address st.lanes 256)

      none : told_to listener s events ≡ []
      none = ap first_message none_given

      d : Does a st new
      d = does_overrun gives a low st own

      passes : k ≤ bus.waiting seg.bus i → Good s listener seg (record { now = seg.now; stations = set seg.stations i new; bus = b; counts = counted seg.counts events }) [] events
      passes few = good_step s listener goes seg r each i st at seg.now b (counted seg.counts events) new [] events d.own (λ x y sent given at_x at_y n v.
          let n' : x ≡ y → ⊥ = apart_places seg x y s listener at_x at_y n in
          let w : Stands s (view s x y seg (sent ++ []) given) = subst (λ ms. Stands s (view s x y seg ms given)) (sym (append-nil sent)) v in
          let xs : Station = station_in s seg.stations x in
          let ys : Station = station_in s seg.stations y in
          let v0 : View = view s x y seg (sent ++ []) given in
          let else : (i ≡ y → ⊥) → Stands s (parts s xs ys b y (sent ++ []) given) = λ m. bus_same s listener xs ys seg.bus b y (sent ++ []) given
          (passed_ahead_else seg.bus i k sound here few y (cursor_of seg r y listener at_y) (λ q. m (sym q))) (passed_again_else seg.bus i k sound here few y (cursor_of seg r y listener at_y) (λ q. m (sym q))) w in
          record {
            sends = λ e. sends_calmly s x y n' seg.stations i st new at b (sent ++ []) given (told_to listener s events) goes (subst (λ z. Does z st new) (same_address a s (is_of s listener goes seg r each i st at x s at_x e)) d) e (else (λ q. n' (sym e ∙ q)));
            receives = λ e.
                let ahead : ahead_of b y ≡ drop k v0.ahead = ap (ahead_of b) (sym e) ∙ passed_ahead seg.bus i k sound here few ∙ ap (λ j. drop k (ahead_of seg.bus j)) e in
                let again : bus.frame_again b y ≡ None = ap (bus.frame_again b) (sym e) ∙ passed_again seg.bus i k sound here few in
                let long : k ≤ length v0.ahead = subst (λ j. k ≤ length (ahead_of seg.bus j)) e (passed_long seg.bus i k sound here few) in
                let gone : session_at finmap.empty (key_all s) ≡ None = ap (option_map (λ (z : List ℕ × Incoming). z.1)) (state_empty (key_all s)) in
                subst (Stands s) (sym (λ j. (let u : View = record v0 { ahead = ahead j; again = again j; session = gone j; given = (ap (λ ts. given ++ ts) none ∙ append-nil given) j } in u)))
                (skips s goes k v0 w.0 w.1 long);
            other = λ _ m. else m;
          }) (λ _ _ _. none) (λ _. none_given) (one_of_none _ none_given)
