-- The messages of s to d on a new segment: nothing was sent, and nothing is under way.
use Rattle.std.proofs.Common.{◌≡◌, ℕ, ◌+◌, ◌-◌, ◌≤◌, true, cond, List, [], ◌++◌, filter_map, length, drop, Option, Some, None, refl, sym, ap, ◌∙◌, subst, arith}
use Rattle.std.specs.Prelude.{option_to_list}
use Rattle.std.specs.Ordering.{nat_cmp}
use Rattle.std.proofs.lemmas.Option.{get_or_from_slice_get}
use Rattle.std.specs.FinMap as finmap
use Rattle.std.specs.FinMap.{get-empty}
use Rattle.pgn_ids.specs.declared.address.Address.{Address}
use Rattle.tp_wire.specs.declared.wire.Kind.{Kind}
use Rattle.tp_wire.specs.declared.wire.Kind.TheVariants.{Tp, Etp}
use Rattle.bus_order.specs.Bus.{Cursor, start, cursor_at, frame_at, frame_again}
use Rattle.lane_core.specs.Lane.{Lane, new_lane}
use Rattle.station_lanes.specs.LaneCalls.{lane_to}
use Rattle.station_sessions.specs.Opening.{key_of}
use Rattle.station_core.specs.Station.{Station, new_station}
use Rattle.segment_law.specs.Segment.{Segment, new_segment, rising}
use Rattle.record_law.proofs.Maps.{state_empty, of_each_none}
use Rattle.record_law.proofs.Segments.{same_address, new_at, start_at}
use Rattle.lane_law.specs.Lane as machine
use Rattle.lane_law.specs.Choice.{IsChoice}
use Rattle.broadcast_law.proofs.Buses.{ahead_of}
use Rattle.broadcast_law.proofs.Places.{IsAt}
use Rattle.broadcast_law.proofs.View.{GoesOn}
use Rattle.port_table.specs.Ports.{no_ports}
use Rattle.segment_law.specs.Headline.{port_of}
use Rattle.record_law.proofs.ports.Calls.{IsSound, HasLife, Good}
use Rattle.record_law.proofs.ports.Lives.{lives_first}
use Rattle.record_law.proofs.ports.Receptions.{IsBound}
use Rattle.session_table.specs.Key.{session_for}
use Rattle.connection_law.proofs.Openings.{no_mark, marked_none}
use Rattle.connection_law.proofs.Frames.{goes, returns}
use Rattle.connection_law.proofs.View.{Mark, Laws, IsPair, View, Sim}
use Rattle.connection_law.proofs.Segments.{Ghost, parts, station_in, view}
use Rattle.connection_law.proofs.Stood.{Stood}
use Rattle.connection_law.proofs.Tally.{tally_none}

module _ (broadcasts : GoesOn) (laws : Laws) (choose : machine.OnEachLane (λ lane. IsChoice lane.stream.given lane.stream.sent)) (begins : machine.IsReached true (machine.start true)) (s d : Address) (pair : IsPair s d) where
  abbrev none_opened : Kind → Mark
  none_opened k = no_mark

  abbrev first : View
  first = record { lane = new_lane s.0 d.0; forward = []; again = []; answers = []; heard = []; tp = None; etp = None; sent = []; given = []; ended = []; opened = none_opened }

  first_sim : Sim s d first (machine.start true)
  first_sim = record {
    carries = record {
      reached = begins;
      good = tt;
      sent = refl;
      given = refl;
      forward = refl;
      again = tt;
      answers = refl;
      heard = refl;
      sender = record { from = refl; to = refl; count = refl; last = omega arith; token_is = refl; under_way = (refl, tt, refl) };
      ended = tt;
    };
    session = tt;
  }

  pub new_stood : (addresses : List Address) (x y : ℕ) → IsAt (new_segment addresses) x s → IsAt (new_segment addresses) y d → Stood broadcasts laws choose s d pair x y [] (new_segment addresses)
  new_stood addresses x y (xs, at_x, is_x) (ys, at_y, is_y) = record {
    lane = machine.start true;
    opened = none_opened;
    places = λ k. 0;
    givings = [];
    kept = record { lives = new_lives; stands = λ p pgn len i e. absurd i; marked = λ k. marked_none s d; all_opened = tt };
    small = λ k. none_small k;
    gone = tt;
    some = tt;
    tally = tally_none;
    sim = subst (λ v. Sim s d v (machine.start true)) (sym shown) first_sim;
    true_at = tt;
  }
    where
      new : Segment
      new = new_segment addresses

      new_lives : (p : ℕ) → Good (port_of d p) 0 [] [] new.stations
      new_lives p j st e = subst (λ (z : Station). IsSound z × HasLife (port_of d p) 0 [] [] z) (sym (new_at (rising addresses) j st e))
          (record { own = refl; used = tt; sessions = of_each_none (IsBound (no_ports st.address)) }, λ _. lives_first p 0 st.address)

      none_small : (k : Kind) → (none_opened k).count ≤ 0
      none_small k = omega arith

      xs_is : station_in laws s d pair new.stations x ≡ new_station s
      xs_is = get_or_from_slice_get new.stations x xs (new_station s) at_x ∙ new_at (rising addresses) x xs at_x ∙ ap new_station (same_address xs.address s is_x)

      ys_is : station_in laws s d pair new.stations y ≡ new_station ys.address
      ys_is = get_or_from_slice_get new.stations y ys (new_station s) at_y ∙ new_at (rising addresses) y ys at_y

      cursor : (j : ℕ) → cursor_at new.bus j ≡ start
      cursor j = start_at (length addresses) j

      lane : lane_to s finmap.empty d.0 ≡ new_lane s.0 d.0
      lane = ap (λ (o : Option Lane). elim o as (λ (_ : Option Lane). Lane) [ None ↦ new_lane s.0 d.0 | Some z ↦ z ]) (get-empty {X = Lane} nat_cmp d.0)

      ahead : (j : ℕ) → ahead_of new.bus j ≡ []
      ahead j = ap (λ (c : Cursor). drop (c.place + 1 - 1) []) (cursor j)

      again : (j : ℕ) → frame_again new.bus j ≡ None
      again j = ap (λ (c : Cursor). cond c.repeatable (frame_at new.bus c.place) None) (cursor j)

      empty : Ghost
      empty = record { sent = []; given = []; ended = []; opened = none_opened }

      shown : view laws s d pair x y new empty ≡ first
      shown = (λ k. parts laws s d pair (xs_is k) (ys_is k) new.bus x y empty) ∙ (λ k. (let v : View = record {
        lane = lane k;
        forward = filter_map (goes s d) (ahead y k ++ []);
        again = filter_map (goes s d) (option_to_list (again y k));
        answers = filter_map (returns s d) (ahead x k ++ []);
        heard = filter_map (returns s d) (option_to_list (again x k));
        tp = state_empty (key_of s (session_for Tp)) k;
        etp = state_empty (key_of s (session_for Etp)) k;
        sent = [];
        given = [];
        ended = [];
        opened = none_opened;
      } in v))
