-- What a segment shows of the messages from s to d, and what is shown of every call.
use Rattle.std.proofs.Common.{◌≡◌, ◌⊎◌, inl, inr, ℕ, List, [], ◌++◌, set, filter_map, length, Some, refl, sym, ap, ◌∙◌, subst, append-nil, ⊎_elim, get_or-set_same, get_or-set_other}
use Rattle.std.specs.Prelude.{slice_get, option_to_list, get_or}
use Rattle.std.proofs.lemmas.Option.{same_Some, slice_get_within, get_or_from_slice_get}
use Rattle.pgn_ids.specs.declared.address.Address.{Address}
use Rattle.pgn_ids.specs.Pgn.{clean}
use Rattle.tp_wire.specs.declared.wire.Kind.{Kind}
use Rattle.tp_wire.specs.declared.wire.Kind.TheVariants.{Tp, Etp}
use Rattle.bus_order.specs.Bus.{Bus, frame_again}
use Rattle.port_table.specs.Ports.{Ports, ports_for}
use Rattle.station_lanes.specs.LaneCalls.{lane_to}
use Rattle.message_events.specs.declared.event.Event.{Event}
use Rattle.station_core.specs.Station.{Station, StationStep, new_station}
use Rattle.segment_law.specs.Told as told
use Rattle.segment_law.specs.Told.{AtPort, sent_by}
use Rattle.segment_law.specs.Segment.{Segment}
use Rattle.segment_law.specs.Calls.{events_of}
use Rattle.segment_law.specs.Reached.{IsReached}
use Rattle.segment_law.specs.declared.call.Call.{Call}
use Rattle.segment_law.specs.declared.counts.Counts.{Counts}
use Rattle.segment_law.specs.declared.refusal.Refusal.{Refusal}
use Rattle.segment_law.specs.declared.reply.Reply.TheVariants.{Refused}
use Rattle.segment_law.specs.declared.reply.Reply.{Reply}
use Rattle.record_law.proofs.Told.{none_refused}
use Rattle.record_law.proofs.Tests.{equal_or_not}
use Rattle.lane_law.specs.Lane as machine
use Rattle.broadcast_law.proofs.Buses.{ahead_of}
use Rattle.broadcast_law.proofs.Places.{IsAt, one_place, apart_places}
use Rattle.broadcast_law.proofs.Ports.{IsOneGiving, one_of_none, first_message}
use Rattle.connection_law.proofs.Frames.{goes, returns}
use Rattle.connection_law.proofs.Roles.{real_at, station_told, numbers_at, ended_in}
use Rattle.connection_law.proofs.Events.{Tells}
use Rattle.connection_law.proofs.Marks.{less_mark}
use Rattle.connection_law.proofs.Receiver.{mark_of}
use Rattle.connection_law.proofs.Tables.{Stands}
use Rattle.connection_law.proofs.Turns.{opened_at, closed_at, none_opened, Turns, turns_same}
use Rattle.connection_law.proofs.View.{Laws, IsPair, Mark, Has, View, Sim, Still, Next, next_still, still_same}

-- what was told, and the mark of the last session of each kind that was asked for
pub record Ghost : Type 0 where
  pub sent : List told.Message
  pub given : List told.Message
  pub ended : List told.NumberedOutcome
  pub opened : Kind → Mark

module _ (laws : Laws) (s d : Address) (pair : IsPair s d) where
  abbrev pub parts : (sender receiver : Station) → Bus → (x y : ℕ) → Ghost → View
  parts xs ys b x y g = record {
    lane = lane_to s xs.lanes d.0;
    forward = filter_map (goes s d) (ahead_of b y ++ xs.queue);
    again = filter_map (goes s d) (option_to_list (frame_again b y));
    answers = filter_map (returns s d) (ahead_of b x ++ ys.queue);
    heard = filter_map (returns s d) (option_to_list (frame_again b x));
    tp = real_at laws s d pair ys.sessions Tp;
    etp = real_at laws s d pair ys.sessions Etp;
    sent = g.sent;
    given = g.given;
    ended = g.ended;
    opened = g.opened;
  }

  abbrev pub station_in : List Station → ℕ → Station
  station_in stations x = get_or stations x (new_station s)

  abbrev pub view : (x y : ℕ) → Segment → Ghost → View
  view x y seg g = parts (station_in seg.stations x) (station_in seg.stations y) seg.bus x y g

  -- each mark is as it was but for the ports that closed, or is of now, with the ports that the table has for the message
  abbrev pub Marks : Ports → List ℕ → List AtPort → (Kind → Mark) → Ghost → Type 0
  Marks table closed given opened g = (k : Kind) → (opened k ≡ less_mark closed (g.opened k))
      ⊎ ((pgn : ℕ) × (size : ℕ) × (closed ≡ []) × (given ≡ []) × (opened k ≡ mark_of (length g.sent) pgn size (ports_for table (clean pgn) size)))

  -- a lane goes on to stand for what these stations show
  pub record Goes (table : Ports) (closed : List ℕ) (xs ys : Station) (b : Bus) (x y : ℕ) (g : Ghost) (more : List told.Message) (given : List AtPort) (ended : List told.NumberedOutcome) (l : machine.Lane) : Type 0 where
    pub opened : Kind → Mark
    pub marks : Marks table closed given opened g
    pub next : Next s d (numbers_at given) l (parts xs ys b x y (record { sent = g.sent ++ more; given = g.given ++ first_message given; ended = g.ended ++ ended; opened = opened }))

  -- s is d, or there is no station d
  abbrev pub Silent : Segment → Type 0
  Silent seg = (s.0 ≡ d.0) ⊎ ((j : ℕ) → IsAt seg j d → ⊥)

  pub record Good (seg next : Segment) (more : List told.Message) (opened : ℕ → List (ℕ × ℕ)) (closed : List ℕ) (events : List Event) : Type 0 where
    pub stands : (x y : ℕ) (g : Ghost) (l : machine.Lane) → IsAt seg x s → IsAt seg y d → Sim s d (view x y seg g) l → Goes (station_in seg.stations y).ports closed (station_in next.stations x) (station_in next.stations y) next.bus x y g more (station_told d s d events) (ended_in s d events) l
    pub turns : (y : ℕ) → IsAt seg y d → Turns opened closed (station_in seg.stations y).ports (station_in next.stations y).ports
    pub one : IsOneGiving (station_told d s d events)
    pub apart : (station_told d s d events ≡ []) ⊎ (ended_in s d events ≡ [])

  abbrev pub GoodBy : Segment → Call → Segment × Reply → Type 0
  GoodBy seg call step = Good seg step.0 (sent_by s d call step.1) (opened_at d call step.1) (closed_at d call step.1) (events_of step.1)

  -- nothing is told and nothing opens
  pub goes_quietly : {table : Ports} (xs ys : Station) (b : Bus) (x y : ℕ) (g : Ghost) (l : machine.Lane) → Still s d l (parts xs ys b x y g) → Goes table [] xs ys b x y g [] [] [] l
  goes_quietly xs ys b x y g l h = record {
    opened = g.opened;
    marks = λ k. inl refl;
    next = next_still s d l _ (subst (Still s d l) (sym (λ i. parts xs ys b x y (let w : Ghost = record { sent = append-nil g.sent i; given = append-nil g.given i; ended = append-nil g.ended i; opened = g.opened } in w))) h);
  }

  pub good_same : (seg : Segment) → Good seg seg [] none_opened [] []
  good_same seg = record { stands = λ x y g l at_x at_y h. goes_quietly (station_in seg.stations x) (station_in seg.stations y) seg.bus x y g l (still_same s d l _ h); turns = λ y at_y. turns_same (station_in seg.stations y).ports (station_in seg.stations y).ports refl; one = one_of_none [] refl; apart = inl refl }

  pub refused_good : (seg : Segment) (call : Call) (cause : Refusal) → GoodBy seg call (seg, Refused cause)
  refused_good seg call cause = subst (λ (z : List told.Message × (ℕ → List (ℕ × ℕ))). Good seg seg z.0 z.1 [] []) (λ i. (sym (none_refused s d call cause) i, λ p. sym (Rattle.connection_law.proofs.Turns.refused_none d call cause p) i)) (good_same seg)

  module _ (seg : Segment) (r : IsReached seg) (i : ℕ) (st : Station) (at : slice_get seg.stations i ≡ Some st) where
    abbrev pub a : Address
    a = st.address

    pub is_of : (x : ℕ) (c : Address) → IsAt seg x c → i ≡ x → a.0 ≡ c.0
    is_of x c (u, at_x, is) e = ap (λ (z : Station). z.address.0) (same_Some st u (sym at ∙ ap (slice_get seg.stations) e ∙ at_x)) ∙ is

    pub is_here : (x : ℕ) (c : Address) → IsAt seg x c → a.0 ≡ c.0 → i ≡ x
    is_here x c h e = one_place seg r i x a c (st, at, refl) h e

    pub at_it : (j : ℕ) → i ≡ j → station_in seg.stations j ≡ st
    at_it j e = get_or_from_slice_get seg.stations j st (new_station s) (ap (slice_get seg.stations) (sym e) ∙ at)

    module _ (new : Station) where
      new_it : (j : ℕ) → i ≡ j → station_in (set seg.stations i new) j ≡ new
      new_it j e = ap (station_in (set seg.stations i new)) (sym e) ∙ get_or-set_same seg.stations i new (new_station s) (slice_get_within seg.stations i st at)

      old_it : (j : ℕ) → (i ≡ j → ⊥) → station_in (set seg.stations i new) j ≡ station_in seg.stations j
      old_it j n = get_or-set_other seg.stations i j new (new_station s) (λ e. n (sym e))

    -- the roles of a station in a call
    pub record Roles (b : Bus) (step : StationStep) (more : List told.Message) (closed : List ℕ) (x y : ℕ) (g : Ghost) (l : machine.Lane) : Type 0 where
      pub sends : i ≡ x → Goes (station_in seg.stations y).ports closed step.station (station_in seg.stations y) b x y g more [] (ended_in s d step.events) l
      pub receives : i ≡ y → Goes st.ports closed (station_in seg.stations x) step.station b x y g more (station_told d s d step.events) [] l
      pub other : (i ≡ x → ⊥) → (i ≡ y → ⊥) → Goes (station_in seg.stations y).ports closed (station_in seg.stations x) (station_in seg.stations y) b x y g more [] [] l

    -- what it makes of its ports
    pub record TurnsAt (opened : ℕ → List (ℕ × ℕ)) (closed : List ℕ) (new : Station) : Type 0 where
      pub here : a.0 ≡ d.0 → Turns opened closed st.ports new.ports
      pub elsewhere : (a.0 ≡ d.0 → ⊥) → (p : ℕ) (o : ℕ × ℕ) → Has (opened p) o → ⊥

    pub turns_none : (new : Station) → new.ports ≡ st.ports → TurnsAt none_opened [] new
    turns_none new e = record { here = λ _. turns_same st.ports new.ports e; elsewhere = λ n p o h. h }

    pub good_step : (now : ℕ) (b : Bus) (counts : Counts) (step : StationStep) (more : List told.Message) (opened : ℕ → List (ℕ × ℕ)) (closed : List ℕ) → Tells s d a step.events → TurnsAt opened closed step.station
        → ((x y : ℕ) (g : Ghost) (l : machine.Lane) → IsAt seg x s → IsAt seg y d → Sim s d (view x y seg g) l → Roles b step more closed x y g l)
        → Good seg (record { now = now; stations = set seg.stations i step.station; bus = b; counts = counts }) more opened closed step.events
    good_step now b counts step more opened closed tells turns roles = record {
      stands = λ x y g l at_x at_y h. by x y g l at_x at_y (roles x y g l at_x at_y h) (equal_or_not i x) (equal_or_not i y);
      turns = λ y at_y. turned y at_y (equal_or_not i y);
      one = tells.one;
      apart = told_or (equal_or_not a.0 s.0);
    }
      where
        told_or : (a.0 ≡ s.0) ⊎ (a.0 ≡ s.0 → ⊥) → (station_told d s d step.events ≡ []) ⊎ (ended_in s d step.events ≡ [])
        told_or (inl e) = inl (tells.own e)
        told_or (inr n) = inr (tells.foreign n)

        table_kept : (y : ℕ) → (i ≡ y → ⊥) → (station_in (set seg.stations i step.station) y).ports ≡ (station_in seg.stations y).ports
        table_kept y n = ap (λ (z : Station). z.ports) (old_it step.station y n)

        turned : (y : ℕ) → IsAt seg y d → (i ≡ y) ⊎ (i ≡ y → ⊥) → Turns opened closed (station_in seg.stations y).ports (station_in (set seg.stations i step.station) y).ports
        turned y at_y (inl e) p pgn len = subst (λ (z : Station × Station). Turns opened closed z.0.ports z.1.ports) (λ k. (sym (at_it y e) k, sym (new_it step.station y e) k)) (turns.here (is_of y d at_y e)) p pgn len
        turned y at_y (inr n) p pgn len = λ o m. subst (λ (x : Ports). Stands p pgn len x.open_ports) (sym (table_kept y n)) (⊎_elim (λ (h : Stands p pgn len (station_in seg.stations y).ports.open_ports). h) (λ (h : Has (opened p) (pgn, len)). absurd (turns.elsewhere (λ f. n (is_here y d at_y f)) p (pgn, len) h)) o)

        by : (x y : ℕ) (g : Ghost) (l : machine.Lane) → IsAt seg x s → IsAt seg y d → Roles b step more closed x y g l → (i ≡ x) ⊎ (i ≡ x → ⊥) → (i ≡ y) ⊎ (i ≡ y → ⊥)
            → Goes (station_in seg.stations y).ports closed (station_in (set seg.stations i step.station) x) (station_in (set seg.stations i step.station) y) b x y g more (station_told d s d step.events) (ended_in s d step.events) l
        by x y g l at_x at_y q (inl e) o =
            let n : i ≡ y → ⊥ = λ f. apart_places seg x y s d at_x at_y pair.apart (sym e ∙ f) in
            let none : station_told d s d step.events ≡ [] = tells.own (is_of x s at_x e) in
            subst (λ (z : Station). Goes (station_in seg.stations y).ports closed z (station_in (set seg.stations i step.station) y) b x y g more (station_told d s d step.events) (ended_in s d step.events) l) (sym (new_it step.station x e))
            (subst (λ (z : Station). Goes (station_in seg.stations y).ports closed step.station z b x y g more (station_told d s d step.events) (ended_in s d step.events) l) (sym (old_it step.station y n))
            (subst (λ ts. Goes (station_in seg.stations y).ports closed step.station (station_in seg.stations y) b x y g more ts (ended_in s d step.events) l) (sym none) (q.sends e)))
        by x y g l at_x at_y q (inr n) (inl e) =
            let none : ended_in s d step.events ≡ [] = tells.foreign (λ f. n (is_here x s at_x f)) in
            subst (λ (z : Station). Goes (station_in seg.stations y).ports closed z (station_in (set seg.stations i step.station) y) b x y g more (station_told d s d step.events) (ended_in s d step.events) l) (sym (old_it step.station x n))
            (subst (λ (z : Station). Goes (station_in seg.stations y).ports closed (station_in seg.stations x) z b x y g more (station_told d s d step.events) (ended_in s d step.events) l) (sym (new_it step.station y e))
            (subst (λ ts. Goes (station_in seg.stations y).ports closed (station_in seg.stations x) step.station b x y g more (station_told d s d step.events) ts l) (sym none) (subst (λ (z : Station). Goes z.ports closed (station_in seg.stations x) step.station b x y g more (station_told d s d step.events) [] l) (sym (at_it y e)) (q.receives e))))
        by x y g l at_x at_y q (inr n) (inr m) =
            let none : ended_in s d step.events ≡ [] = tells.foreign (λ f. n (is_here x s at_x f)) in
            let nothing : station_told d s d step.events ≡ [] = tells.elsewhere (λ f. m (is_here y d at_y f)) in
            subst (λ (z : Station). Goes (station_in seg.stations y).ports closed z (station_in (set seg.stations i step.station) y) b x y g more (station_told d s d step.events) (ended_in s d step.events) l) (sym (old_it step.station x n))
            (subst (λ (z : Station). Goes (station_in seg.stations y).ports closed (station_in seg.stations x) z b x y g more (station_told d s d step.events) (ended_in s d step.events) l) (sym (old_it step.station y m))
            (subst (λ ts. Goes (station_in seg.stations y).ports closed (station_in seg.stations x) (station_in seg.stations y) b x y g more ts (ended_in s d step.events) l) (sym nothing)
            (subst (λ ts. Goes (station_in seg.stations y).ports closed (station_in seg.stations x) (station_in seg.stations y) b x y g more [] ts l) (sym none) (q.other n m))))
