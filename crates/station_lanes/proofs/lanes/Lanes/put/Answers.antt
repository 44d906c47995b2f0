use Rattle.std.proofs.Common.{◌≡◌, ℕ, ◌<◌, ◌||◌, ◌==◌, true, Some, arith, length, sym, ap, ◌∙◌, subst, List, Option}
use Rattle.std.proofs.Math.ListN.{set}
use Rattle.std.proofs.lemmas.List.{length-set}
use Rattle.pgn_ids.specs.Address.{is_one, global_address}
use Rattle.lane_core.specs.Lane.{Lane}
use Rattle.lane_core.specs.Pump.{is_ready}
use Rattle.lane_core.specs.Fire.{is_timed}
use Rattle.station_lanes.specs.LaneSlots.{slot_at}
use Rattle.station_lanes.proofs.SlotLaws.{put_is, in_place_after}
use Rattle.station_lanes.proofs.Marked.{Marks, marked_put, nodes_put, place_of}
use Rattle.station_lanes.proofs.lanes.Lanes.put.Goals as goal

pub returns : goal.returns
returns c =
    let here : c.args.to.0 < length c.self.inside.slots.items = omega arith in
    put_is c.self.inside.slots.items c.args.to.0 here c.put_at.new.slots.items c.args.self.now c.args.lane.value c.put_at.ensures c.self.view_is

pub invariant_of-self : goal.invariant_of-self
invariant_of-self c =
    let slots = c.self.inside.slots.items in
    let lane = c.args.lane.value in
    let to = c.args.to.0 in
    let here : to < 256 = omega arith in
    let inside : to < length slots = omega arith in
    let is : c.put_at.new.slots.items ≡ set slots to (Some lane) = c.put_at.ensures in
    record {
      places = ap length is ∙ length-set slots to (Some lane) ∙ c.self.invariant.places;
      in_place = subst (λ (s : List (Option Lane)). (q : ℕ) (other : Lane) → slot_at s q ≡ Some other → other.to ≡ q) (sym is) (in_place_after slots to inside (Some lane) c.self.invariant.in_place (λ other e. sym (ap (place_of lane) e) ∙ c.requires));
      nodes = subst (λ (s : List (Option Lane)). (q : ℕ) (other : Lane) → slot_at s q ≡ Some other → (is_one q || q == global_address) ≡ true) (sym is) (nodes_put slots to lane (subst (λ n. (is_one n || n == global_address) ≡ true) (ap (λ (l : Lane). l.to) c.deref.ensures ∙ c.requires) c.to-to.ensures.node) c.self.invariant.nodes);
      ready = subst (λ (s : List (Option Lane)). Marks s c.mark.new.ready is_ready) (sym is) (marked_put slots c.self.inside.ready c.mark.new.ready is_ready to lane c.self.invariant.places here c.self.invariant.ready (c.mark.ensures.ready.0 ∙ ap is_ready c.deref-2.ensures) c.mark.ensures.ready.1);
      timed = subst (λ (s : List (Option Lane)). Marks s c.mark.new.timed is_timed) (sym is) (marked_put slots c.self.inside.timed c.mark.new.timed is_timed to lane c.self.invariant.places here c.self.invariant.timed (c.mark.ensures.timed.0 ∙ ap is_timed c.deref-2.ensures) c.mark.ensures.timed.1);
    }
