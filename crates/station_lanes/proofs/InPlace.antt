-- A lane that is stepped where it stands.
use Rattle.std.proofs.Common.{◌≡◌, ℕ, ◌<◌, ◌||◌, ◌==◌, true, false, List, length, Option, Some, None, arith, subst, sym, ap, ◌∙◌, slice_index_or, get_or-set_same, Result, Ok, Err, OnOk, OnErr, OnSome, IfNone}
use Rattle.std.proofs.Math.ListN.{set}
use Rattle.std.proofs.lemmas.List.{length-set, set-get_or}
use Rattle.std.specs.FinMap as map
use Rattle.pgn_ids.specs.Address.{is_one, global_address}
use Rattle.pgn_ids.specs.declared.address.Address.{Address}
use Rattle.address_set.specs.Sets.{AddressSet, has}
use Rattle.lane_core.specs.Lane.{Lane, new_lane, pushed}
use Rattle.lane_core.specs.declared.refused.PushRefused.{PushRefused}
use Rattle.lane_core.specs.Pump.{is_ready}
use Rattle.lane_core.specs.Fire.{is_timed}
use Rattle.lane_core.specs.Cancel.{numbered, queues_abort}
use Rattle.lane_core.specs.declared.step.Ended.{Ended}
use Rattle.lane_core.specs.Step.{LaneStep, nothing_to_do}
use Rattle.station_lanes.specs.Lanes.{Lanes}
use Rattle.station_lanes.specs.LaneCalls.{stepped_lanes, step_at, lane_to}
use Rattle.station_lanes.specs.LaneReaders.{is_pending_at, queues_abort_at}
use Rattle.station_lanes.specs.LaneSlots.{slot_at, lanes_below, AreSlots, IsMarked}
use Rattle.station_lanes.specs.declared.lanes.Lanes.TheInside.{Inside}
use Rattle.station_lanes.proofs.SlotLaws.{get_lanes, put_is, in_place_after}
use Rattle.station_lanes.proofs.Marked.{Marks, marked_put, nodes_put, place_of}

-- the lanes are in order again where the lane that was stepped is to the same destination, and is marked
pub marked_again : (l new : Inside) (to : ℕ) (lane last : Lane) → to < 256 → AreSlots l → slot_at l.slots.items to ≡ Some lane → new.slots.items ≡ set l.slots.items to (Some last) → last.to ≡ lane.to → IsMarked l.ready new.ready to (is_ready last) → IsMarked l.timed new.timed to (is_timed last) → AreSlots new
marked_again l new to lane last here old there is same ready timed =
    let slots = l.slots.items in
    let inside : to < length slots = omega (arith, here, old.places) in
    record {
      places = ap length is ∙ length-set slots to (Some last) ∙ old.places;
      in_place = subst (λ (s : List (Option Lane)). (q : ℕ) (other : Lane) → slot_at s q ≡ Some other → other.to ≡ q) (sym is) (in_place_after slots to inside (Some last) old.in_place (λ other e. sym (ap (place_of last) e) ∙ same ∙ old.in_place to lane there));
      nodes = subst (λ (s : List (Option Lane)). (q : ℕ) (other : Lane) → slot_at s q ≡ Some other → (is_one q || q == global_address) ≡ true) (sym is) (nodes_put slots to last (old.nodes to lane there) old.nodes);
      ready = subst (λ (s : List (Option Lane)). Marks s new.ready is_ready) (sym is) (marked_put slots l.ready new.ready is_ready to last old.places here old.ready ready.0 ready.1);
      timed = subst (λ (s : List (Option Lane)). Marks s new.timed is_timed) (sym is) (marked_put slots l.timed new.timed is_timed to last old.places here old.timed timed.0 timed.1);
    }

-- and where its places and its sets are as they were
pub in_order : (l new : Inside) → AreSlots l → new.slots.items ≡ l.slots.items → new.ready ≡ l.ready → new.timed ≡ l.timed → AreSlots new
in_order l new old is ready timed = record {
  places = ap length is ∙ old.places;
  in_place = λ q lane e. old.in_place q lane (sym (ap (λ (s : List (Option Lane)). slot_at s q) is) ∙ e);
  nodes = λ q lane e. old.nodes q lane (sym (ap (λ (s : List (Option Lane)). slot_at s q) is) ∙ e);
  ready = λ q lane e. ap (λ (s : AddressSet). has s q) ready ∙ old.ready q lane (sym (ap (λ (s : List (Option Lane)). slot_at s q) is) ∙ e);
  timed = λ q lane e. ap (λ (s : AddressSet). has s q) timed ∙ old.timed q lane (sym (ap (λ (s : List (Option Lane)). slot_at s q) is) ∙ e);
}

-- what follows of a case that is so follows too
pub on_some : {A B : Type 0} (o : Option Ended) → (A → B) → OnSome o A → OnSome o B
on_some (Some e) f x = f x
on_some None f x = tt

pub if_none : {A B : Type 0} (o : Option Ended) → (A → B) → IfNone o A → IfNone o B
if_none (Some e) f x = tt
if_none None f x = f x

pub on_ok : {A B : Type 0} (r : Result ℕ PushRefused) → (A → B) → OnOk r A → OnOk r B
on_ok (Ok n) f x = f x
on_ok (Err e) f x = tt

-- a lane that took a message, or stayed as it was, is to the same destination
pub pushed_to : (r : Result ℕ PushRefused) (lane last : Lane) (pgn : ℕ) (bytes : List ℕ) → OnOk r (last ≡ pushed lane pgn bytes) → OnErr r (last ≡ lane) → last.to ≡ lane.to
pushed_to (Ok n) lane last pgn bytes done other = ap (λ l. l.to) done
pushed_to (Err e) lane last pgn bytes done other = ap (λ l. l.to) other

module _ (slots : List (Option Lane)) {lanes : Lanes} {i to : ℕ} {o found : Option Lane} (view : lanes_below slots (length slots) ≡ lanes) (same : i ≡ to) (is : o ≡ slice_index_or slots i o) (as_found : found ≡ o) (here : to < length slots) where
  -- what was found is what the place holds
  pub there : slot_at slots to ≡ found
  there = sym (ap (λ (s : List (Option Lane)). slot_at s to) (set-get_or slots to o)) ∙ get_or-set_same slots to (slice_index_or slots to o) None here ∙ ap (λ n. slice_index_or slots n o) (sym same) ∙ sym is ∙ sym as_found

  -- and what stands at the destination
  pub got : map.get lanes to ≡ found
  got = sym (ap (λ m. map.get m to) view) ∙ get_lanes slots to ∙ there

  -- left as it was, it leaves the places
  pub same_places : set slots i o ≡ slots
  same_places = ap (set slots i) is ∙ set-get_or slots i o

  -- and it leaves the lanes as they were
  pub as_before : lanes_below (set slots i o) (length (set slots i o)) ≡ lanes
  as_before = ap (λ (s : List (Option Lane)). lanes_below s (length s)) same_places ∙ view

  -- stepped, it stands among them
  pub stepped_there : (last lane : Lane) → last ≡ lane → lanes_below (set slots i (Some last)) (length (set slots i (Some last))) ≡ map.insert lanes to lane
  stepped_there last lane e = put_is slots to here (set slots i (Some last)) lanes last (ap (λ n. set slots n (Some last)) same) view ∙ ap (map.insert lanes to) e

  -- left as it was, it leaves the lanes as they were
  pub kept_there : (last : Lane) → Some last ≡ found → lanes_below (set slots i (Some last)) (length (set slots i (Some last))) ≡ lanes
  kept_there last e = ap (λ (x : Option Lane). lanes_below (set slots i x) (length (set slots i x))) (e ∙ as_found) ∙ as_before

  -- what is said of the lane to the destination is said of what was found
  pub of_found : {A : Type 0} (f : Option Lane → A) → f (map.get lanes to) ≡ f found
  of_found f = ap f got

  -- the lanes after a step of it, and what that leaves to do
  pub stepped_at : (step : Lane → Lane × LaneStep) → stepped_lanes lanes to step ≡ elim found [ None ↦ lanes | Some lane ↦ map.insert lanes to (step lane).0 ]
  stepped_at step = of_found (λ o. elim o [ None ↦ lanes | Some lane ↦ map.insert lanes to (step lane).0 ])

  pub left_at : (step : Lane → Lane × LaneStep) → step_at lanes to step ≡ elim found [ None ↦ nothing_to_do | Some lane ↦ (step lane).1 ]
  left_at step = of_found (λ o. elim o [ None ↦ nothing_to_do | Some lane ↦ (step lane).1 ])

  pub pending_at : (number : ℕ) → is_pending_at lanes to number ≡ elim found [ None ↦ false | Some lane ↦ numbered lane.pending number ]
  pending_at number = of_found (λ o. elim o [ None ↦ false | Some lane ↦ numbered lane.pending number ])

  pub aborts_at : (number : ℕ) → queues_abort_at lanes to number ≡ elim found [ None ↦ false | Some lane ↦ queues_abort lane number ]
  aborts_at number = of_found (λ o. elim o [ None ↦ false | Some lane ↦ queues_abort lane number ])

  pub lane_at : (from : Address) → lane_to from lanes to ≡ elim found [ None ↦ new_lane from.0 to | Some lane ↦ lane ]
  lane_at from = of_found (λ o. elim o [ None ↦ new_lane from.0 to | Some lane ↦ lane ])
