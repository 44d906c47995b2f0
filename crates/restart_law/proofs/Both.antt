-- The segment at the moment: the receiver, and the sender. On its bus is at most the last frame, which each of the two took or missed.
use Rattle.std.proofs.Common.{◌≡◌, ◌≢◌, ◌⊎◌, inl, inr, ℕ, zero, suc, ◌≤◌, ◌==◌, false, List, [], ◌∷◌, ◌++◌, length, Option, Some, None, refl, sym, ap, ◌∙◌, subst, arith, eq-eqb, ne_eqb}
use Rattle.std.specs.Prelude.{slice_get, is_some}
use Rattle.std.proofs.lemmas.Option.{same_Some, none-some}
use Rattle.bus_frame.specs.Frames.{CanFrame}
use Rattle.pgn_ids.specs.declared.address.Address.{Address}
use Rattle.bus_order.specs.Bus.{Bus, new_bus, bus_len, frame_again, waiting}
use Rattle.bus_order.specs.Kept.{IsCursorWithin}
use Rattle.station_core.specs.Station.{Station}
use Rattle.segment_law.specs.Segment.{Segment, no_counts, place_of, waiting_at}
use Rattle.segment_law.specs.Reached.{IsFitStation, IsFitBus, IsReached}
use Rattle.segment_law.proofs.Buses.{new_fits}
use Rattle.segment_law.proofs.Reaching.{as_it_is}
use Rattle.record_law.proofs.Lists.{each_all}
use Rattle.broadcast_law.proofs.Buses.{ahead_of}
use Rattle.broadcast_law.proofs.Places.{IsAt, AllOwn}
use Rattle.broadcast_law.proofs.Stations.{IsOwn}
use Rattle.network_law.proofs.Crossing.{ahead_waits, nothing_of}
use Rattle.network_law.proofs.Joins.{Joins}
use Rattle.restart_law.specs.Start.{MayRepeat}

-- a bus for two that carried this frame last: whether the first may take it again, and the second
abbrev pub start_bus : (last first second : Option CanFrame) → Bus
start_bus None first second = new_bus 2
start_bus (Some f) first second = record { first = 1; kept = f ∷ []; cursors = record { place = 1; repeatable = is_some first } ∷ record { place = 1; repeatable = is_some second } ∷ [] }

start_fits : (last first second : Option CanFrame) → IsFitBus 2 (start_bus last first second)
start_fits None first second = new_fits 2
start_fits (Some f) first second = record {
  sound = record {
    from_one = omega arith;
    room = omega arith;
    fits = omega arith;
    held = omega arith;
    cursors = each_all (IsCursorWithin 1) (record { place = 1; repeatable = is_some first } ∷ record { place = 1; repeatable = is_some second } ∷ []) (record { within = omega arith; repeats = λ t. omega arith }, (record { within = omega arith; repeats = λ t. omega arith }, tt));
  };
  cursors = refl;
  released = refl;
}

pub first_ahead : (last first second : Option CanFrame) → ahead_of (start_bus last first second) 0 ≡ []
first_ahead None first second = refl
first_ahead (Some f) first second = refl

pub second_ahead : (last first second : Option CanFrame) → ahead_of (start_bus last first second) 1 ≡ []
second_ahead None first second = refl
second_ahead (Some f) first second = refl

pub first_again : (last first second : Option CanFrame) → (first ≡ None) ⊎ (first ≡ last) → frame_again (start_bus last first second) 0 ≡ first
first_again None first second (inl e) = sym e
first_again None first second (inr e) = sym e
first_again (Some f) None second h = refl
first_again (Some f) (Some g) second (inl e) = absurd (cc)
first_again (Some f) (Some g) second (inr e) = sym e

pub second_again : (last first second : Option CanFrame) → (second ≡ None) ⊎ (second ≡ last) → frame_again (start_bus last first second) 1 ≡ second
second_again None first second (inl e) = sym e
second_again None first second (inr e) = sym e
second_again (Some f) first None h = refl
second_again (Some f) first (Some g) (inl e) = absurd (cc)
second_again (Some f) first (Some g) (inr e) = sym e

start_len : (last first second : Option CanFrame) → bus_len (start_bus last first second) ≤ 1
start_len None first second = omega arith
start_len (Some f) first second = omega arith

-- a station alone, which has looked at all frames
pub record IsLone (a : Address) (own : Segment) : Type 0 where
  pub reached : IsReached own
  pub each : AllOwn own
  pub st : Station
  pub single : own.stations ≡ st ∷ []
  pub address : st.address ≡ a
  pub looked : waiting_at own a ≡ 0

module _ (a : Address) (own : Segment) (l : IsLone a own) where
  pub it : slice_get own.stations 0 ≡ Some l.st
  it = ap (λ (ss : List Station). slice_get ss 0) l.single

  pub none_ahead : ahead_of own.bus 0 ≡ []
  none_ahead =
      let place : place_of own a ≡ Some 0 = ap (place_of own) (sym l.address) ∙ l.reached.places 0 l.st it in
      let none : waiting own.bus 0 ≡ 0 = sym (ap (λ o. elim o as (λ (_ : Option ℕ). ℕ) [ None ↦ 0 | Some k ↦ waiting own.bus k ]) place) ∙ l.looked in
      let long : length own.stations ≡ 1 = ap (λ (ss : List Station). length ss) l.single in
      nothing_of (ahead_of own.bus 0) (ahead_waits own.bus 0 l.reached.bus.sound (omega (arith, long, l.reached.bus.cursors)) ∙ none)

module _ (s d : Address) (distinct : s.0 ≢ d.0) (own_s own_d : Segment) (ls : IsLone s own_s) (ld : IsLone d own_d) (last : Option CanFrame) (again_s : MayRepeat last own_s) (again_d : MayRepeat last own_d) where
  -- the receiver stands first
  abbrev pub both : Segment
  both = record { now = 0; stations = ld.st ∷ ls.st ∷ []; bus = start_bus last (frame_again own_d.bus 0) (frame_again own_s.bus 0); counts = no_counts }

  pub at_d : IsAt both 0 d
  at_d = (ld.st, refl, ap (λ (a : Address). a.0) ld.address)

  pub at_s : IsAt both 1 s
  at_s = (ls.st, refl, ap (λ (a : Address). a.0) ls.address)

  other : (ld.st.address.0 == ls.st.address.0) ≡ false
  other = ne_eqb ld.st.address.0 ls.st.address.0 (λ e. distinct (sym (ap (λ (a : Address). a.0) ls.address) ∙ sym e ∙ ap (λ (a : Address). a.0) ld.address))

  pub reached : IsReached both
  reached = record {
    some = omega arith;
    stations = each_all IsFitStation (ld.st ∷ ls.st ∷ []) ((as_it_is own_d ld.reached 0 ld.st (it d own_d ld)).fit, ((as_it_is own_s ls.reached 0 ls.st (it s own_s ls)).fit, tt));
    places = places;
    bus = start_fits last (frame_again own_d.bus 0) (frame_again own_s.bus 0);
  }
    where
      places : (i : ℕ) (u : Station) → slice_get (ld.st ∷ ls.st ∷ []) i ≡ Some u → place_of both u.address ≡ Some i
      places zero u e = subst (λ (z : Station). place_of both z.address ≡ Some 0) (same_Some ld.st u e) (rw (eq-eqb ld.st.address.0 ld.st.address.0 refl) refl)
      places (suc zero) u e = subst (λ (z : Station). place_of both z.address ≡ Some 1) (same_Some ls.st u e) (rw (other, eq-eqb ls.st.address.0 ls.st.address.0 refl) refl)
      places (suc (suc i)) u e = absurd (none-some u e)

  pub each : AllOwn both
  each zero u e = subst (λ (z : Station). IsOwn z.address z) (same_Some ld.st u e) (ld.each 0 ld.st (it d own_d ld))
  each (suc zero) u e = subst (λ (z : Station). IsOwn z.address z) (same_Some ls.st u e) (ls.each 0 ls.st (it s own_s ls))
  each (suc (suc i)) u e = absurd (none-some u e)

  pub joins_d : Joins d 0 own_d both []
  joins_d = record {
    st = ld.st;
    address = ld.address;
    single = ld.single;
    at = refl;
    buses = record {
      again = first_again last (frame_again own_d.bus 0) (frame_again own_s.bus 0) again_d;
      ahead = inl (first_ahead last (frame_again own_d.bus 0) (frame_again own_s.bus 0) ∙ sym (ap (λ (xs : List CanFrame). xs ++ []) (none_ahead d own_d ld)));
    };
  }

  pub joins_s : Joins s 1 own_s both []
  joins_s = record {
    st = ls.st;
    address = ls.address;
    single = ls.single;
    at = refl;
    buses = record {
      again = second_again last (frame_again own_d.bus 0) (frame_again own_s.bus 0) again_s;
      ahead = inl (second_ahead last (frame_again own_d.bus 0) (frame_again own_s.bus 0) ∙ sym (ap (λ (xs : List CanFrame). xs ++ []) (none_ahead s own_s ls)));
    };
  }

  pub short : bus_len both.bus ≤ 1
  short = start_len last (frame_again own_d.bus 0) (frame_again own_s.bus 0)
