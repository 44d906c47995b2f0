-- What holds of every station, and steps that leave its lane to all, and what it queues of it, as they were.
use Rattle.std.proofs.Common.{◌≡◌, ℕ, ◌<◌, ◌==◌, Bool, true, false, List, [], ◌++◌, Option, Some, None, refl, sym, ap, ◌∙◌, subst, arith, append_assoc, append-nil, eqb-true}
use Rattle.std.specs.Prelude.{option_to_list}
use Rattle.std.proofs.lemmas.Bool.{eqb-false}
use Rattle.std.proofs.lemmas.Option.{same_Some}
use Rattle.std.specs.FinMap as finmap
use Rattle.std.specs.FinMap.{get-empty}
use Rattle.std.specs.Ordering.{nat_cmp}
use Rattle.bus_frame.specs.Frames.{CanFrame}
use Rattle.pgn_ids.specs.Identifier.{meaning_of}
use Rattle.pgn_ids.specs.declared.address.Address.{Address}
use Rattle.port_table.specs.Ports.{Ports}
use Rattle.lane_core.specs.Lane.{Lane}
use Rattle.lane_core.specs.Step.{nothing_to_do, LaneStep}
use Rattle.lane_core.specs.Endings.{still}
use Rattle.lane_core.specs.declared.step.Ended.{Ended}
use Rattle.session_table.specs.declared.key.Key.{Key}
use Rattle.station_lanes.specs.Lanes.{Lanes}
use Rattle.station_lanes.specs.LaneCalls.{stepped_lanes, step_at, outcome_of}
use Rattle.message_events.specs.declared.event.Event.{Event}
use Rattle.station_sessions.specs.Receiving.{Inbound, Reception}
use Rattle.station_core.specs.Station.{Station, new_station, by_session, by_lane}
use Rattle.record_law.proofs.Lists.{Each, each_append}
use Rattle.record_law.proofs.Maps.{lane_here, lane_else, OfEach, of_each_none}
use Rattle.record_law.proofs.Readings.{GivesBack}
use Rattle.broadcast_law.proofs.Carried.{IsSaid, IsQuiet, quiet_each, own_each, own_quiet}
use Rattle.broadcast_law.proofs.Ports.{ArePortsOf, IsOfPort, IsUntold}
use Rattle.broadcast_law.proofs.LaneSteps.{IsLaneOf, Fits}
use Rattle.broadcast_law.proofs.Receptions.{IsSessionOf, Settles}

abbrev pub AreLanes : ℕ → Lanes → Type 0
AreLanes a lanes = (to : ℕ) (lane : Lane) → finmap.get lanes to ≡ Some lane → IsLaneOf a to lane

abbrev pub AreOwn : Address → List CanFrame → Type 0
AreOwn a frames = Each (λ (f : CanFrame). (meaning_of f.id).from.0 ≡ a.0) frames

pub record IsOwn (a : Address) (st : Station) : Type 0 where
  pub address : st.address ≡ a
  pub ports : ArePortsOf a st.ports
  pub sessions : OfEach (IsSessionOf a.0) st.sessions
  pub lanes : AreLanes a.0 st.lanes
  pub queue : AreOwn a st.queue

pub record Does (a : Address) (st new : Station) : Type 0 where
  pub own : IsOwn a new
  pub lane : finmap.get new.lanes 255 ≡ finmap.get st.lanes 255
  pub frames : List CanFrame
  pub queue : new.queue ≡ st.queue ++ frames
  pub quiet : Each (IsQuiet a) frames

pub new_is_own : (a : Address) → IsOwn a (new_station a)
new_is_own a = record {
  address = refl;
  ports = record { station = refl; apart = tt; used = tt };
  sessions = of_each_none (IsSessionOf a.0);
  lanes = λ to lane is. absurd (let e = get-empty {X = Lane} nat_cmp to in cc);
  queue = tt;
}

pub does_none : (a : Address) (st : Station) → IsOwn a st → Does a st st
does_none a st h = record { own = h; lane = refl; frames = []; queue = sym (append-nil st.queue); quiet = tt }

pub does_then : (a : Address) (x y z : Station) → Does a x y → Does a y z → Does a x z
does_then a x y z h k = record {
  own = k.own;
  lane = k.lane ∙ h.lane;
  frames = h.frames ++ k.frames;
  queue = k.queue ∙ ap (λ q. q ++ k.frames) h.queue ∙ append_assoc x.queue h.frames k.frames;
  quiet = each_append (IsQuiet a) h.frames k.frames h.quiet k.quiet;
}

pub does_ports : (a : Address) (st : Station) (ports : Ports) → IsOwn a st → ArePortsOf a ports → Does a st (record st { ports = ports })
does_ports a st ports h k = record {
  own = record { address = h.address; ports = k; sessions = h.sessions; lanes = h.lanes; queue = h.queue };
  lane = refl;
  frames = [];
  queue = sym (append-nil st.queue);
  quiet = tt;
}

-- The lane to a destination makes a step

module _ (a : ℕ) (lanes : Lanes) (to : ℕ) (step : Lane → Lane × LaneStep) (each : AreLanes a lanes) where
  pub put_lane : (lane : Lane) → IsLaneOf a to lane → AreLanes a (finmap.insert lanes to lane)
  put_lane lane h q l is = by (q == to) refl
    where
      by : (b : Bool) → (q == to) ≡ b → IsLaneOf a q l
      by true e =
          let s : q ≡ to = eqb-true q to e in
          let it : lane ≡ l = same_Some lane l (sym (lane_here lanes to lane) ∙ ap (λ x. finmap.get (finmap.insert lanes to lane) x) (sym s) ∙ is) in
          subst (λ x. IsLaneOf a x l) (sym s) (subst (λ x. IsLaneOf a to x) it h)
      by false e = each q l (sym (lane_else lanes to q lane (eqb-false q to e)) ∙ is)

  pub lanes_stepped : ((lane : Lane) → IsLaneOf a to lane → IsLaneOf a to (step lane).0) → AreLanes a (stepped_lanes lanes to step)
  lanes_stepped keeps = by (finmap.get lanes to) refl
    where
      by : (o : Option Lane) → finmap.get lanes to ≡ o → AreLanes a (elim o [ None ↦ lanes | Some lane ↦ finmap.insert lanes to (step lane).0 ])
      by None e = each
      by (Some lane) e = put_lane (step lane).0 (keeps lane (each to lane e))

  pub lanes_said : ((lane : Lane) → IsLaneOf a to lane → Fits a to (step lane)) → Each (IsSaid a to) (step_at lanes to step).frames
  lanes_said keeps = by (finmap.get lanes to) refl
    where
      by : (o : Option Lane) → finmap.get lanes to ≡ o → Each (IsSaid a to) (elim o as (λ (_ : Option Lane). LaneStep) [ None ↦ nothing_to_do | Some lane ↦ (step lane).1 ]).frames
      by None e = tt
      by (Some lane) e = (keeps lane (each to lane e)).1

  pub lanes_else : (to ≡ 255 → ⊥) → finmap.get (stepped_lanes lanes to step) 255 ≡ finmap.get lanes 255
  lanes_else n = by (finmap.get lanes to)
    where
      by : (o : Option Lane) → finmap.get (elim o as (λ (_ : Option Lane). Lanes) [ None ↦ lanes | Some lane ↦ finmap.insert lanes to (step lane).0 ]) 255 ≡ finmap.get lanes 255
      by None = refl
      by (Some lane) = lane_else lanes to 255 (step lane).0 (λ e. n (sym e))

-- a step that leaves the lane as it is, and queues nothing
abbrev IsStill : ℕ → (Lane → Lane × LaneStep) → Type 0
IsStill a step = (lane : Lane) → IsLaneOf a 255 lane → step lane ≡ still lane

module _ (a : ℕ) (lanes : Lanes) (step : Lane → Lane × LaneStep) (each : AreLanes a lanes) (stays : IsStill a step) where
  pub lanes_still : finmap.get (stepped_lanes lanes 255 step) 255 ≡ finmap.get lanes 255
  lanes_still = by (finmap.get lanes 255) refl
    where
      by : (o : Option Lane) → finmap.get lanes 255 ≡ o → finmap.get (elim o as (λ (_ : Option Lane). Lanes) [ None ↦ lanes | Some lane ↦ finmap.insert lanes 255 (step lane).0 ]) 255 ≡ finmap.get lanes 255
      by None e = refl
      by (Some lane) e = lane_here lanes 255 (step lane).0 ∙ ap (λ (x : Lane × LaneStep). Some x.0) (stays lane (each 255 lane e)) ∙ sym e

  frames_still : (step_at lanes 255 step).frames ≡ []
  frames_still = by (finmap.get lanes 255) refl
    where
      by : (o : Option Lane) → finmap.get lanes 255 ≡ o → (elim o as (λ (_ : Option Lane). LaneStep) [ None ↦ nothing_to_do | Some lane ↦ (step lane).1 ]).frames ≡ []
      by None e = refl
      by (Some lane) e = ap (λ (x : Lane × LaneStep). x.1.frames) (stays lane (each 255 lane e))

pub outcome_events : (P : Event → Type 0) → ((from to : Address) (e : Ended) → Each P (outcome_of from to (Some e))) → (from to : Address) (o : Option Ended) → Each P (outcome_of from to o)
outcome_events P h from to None = tt
outcome_events P h from to (Some e) = h from to e

pub outcome_ports : (a from to : Address) (o : Option Ended) → Each (IsOfPort a) (outcome_of from to o)
outcome_ports a = outcome_events (IsOfPort a) (λ from to e. (tt, tt))

pub outcome_untold : (s from to : Address) (o : Option Ended) → Each (IsUntold s) (outcome_of from to o)
outcome_untold s = outcome_events (IsUntold s) (λ from to e. (tt, tt))

module _ (gives : GivesBack) (a : Address) (small : a.0 < 254) where
  below : a.0 < 256
  below = omega arith

  -- frames are queued to one node, and sessions change
  pub does_sessions : (st : Station) (sessions : Inbound) (frames : List CanFrame) (to : ℕ) → IsOwn a st → OfEach (IsSessionOf a.0) sessions → to < 254 → Each (IsSaid a.0 to) frames → Does a st (record st { queue = st.queue ++ frames; sessions = sessions })
  does_sessions st sessions frames to h k l e =
      let q : Each (IsQuiet a) frames = quiet_each gives a to frames below (omega arith) e in
      record {
        own = record { address = h.address; ports = h.ports; sessions = k; lanes = h.lanes; queue = each_append (λ (f : CanFrame). (meaning_of f.id).from.0 ≡ a.0) st.queue frames h.queue (own_quiet a frames q) };
        lane = refl;
        frames = frames;
        queue = refl;
        quiet = q;
      }

  pub does_reception : (st : Station) (key : Key) (r : Reception) → IsOwn a st → Settles a key st.sessions r → Does a st (by_session st r).station
  does_reception st key r h s = does_sessions st r.sessions (option_to_list r.frame) s.frame.0 h s.sessions s.frame.1 s.frame.2

  -- the lane to any destination makes a step
  pub own_lane : (st : Station) (to : Address) (step : Lane → Lane × LaneStep) → IsOwn a st → to.0 < 256 → ((lane : Lane) → IsLaneOf a.0 to.0 lane → Fits a.0 to.0 (step lane)) → IsOwn a (by_lane st to step).station
  own_lane st to step h l keeps = record {
    address = h.address;
    ports = h.ports;
    sessions = h.sessions;
    lanes = lanes_stepped a.0 st.lanes to.0 step h.lanes (λ lane k. (keeps lane k).0);
    queue = each_append (λ (f : CanFrame). (meaning_of f.id).from.0 ≡ a.0) st.queue (step_at st.lanes to.0 step).frames h.queue (own_each gives a to.0 (step_at st.lanes to.0 step).frames below l (lanes_said a.0 st.lanes to.0 step h.lanes keeps));
  }

  -- to one node
  pub does_lane : (st : Station) (to : Address) (step : Lane → Lane × LaneStep) → IsOwn a st → to.0 < 255 → ((lane : Lane) → IsLaneOf a.0 to.0 lane → Fits a.0 to.0 (step lane)) → Does a st (by_lane st to step).station
  does_lane st to step h l keeps = record {
    own = own_lane st to step h (omega arith) keeps;
    lane = lanes_else a.0 st.lanes to.0 step h.lanes (λ e. omega (arith, e));
    frames = (step_at st.lanes to.0 step).frames;
    queue = refl;
    quiet = quiet_each gives a to.0 (step_at st.lanes to.0 step).frames below l (lanes_said a.0 st.lanes to.0 step h.lanes keeps);
  }

  -- to all, where the lane stays as it is
  pub does_still : (st : Station) (step : Lane → Lane × LaneStep) → IsOwn a st → ((lane : Lane) → IsLaneOf a.0 255 lane → Fits a.0 255 (step lane)) → IsStill a.0 step → Does a st (by_lane st (record { 0 = 255 }) step).station
  does_still st step h keeps stays = record {
    own = own_lane st (record { 0 = 255 }) step h (omega arith) keeps;
    lane = lanes_still a.0 st.lanes step h.lanes stays;
    frames = (step_at st.lanes 255 step).frames;
    queue = refl;
    quiet = subst (Each (IsQuiet a)) (sym (frames_still a.0 st.lanes step h.lanes stays)) tt;
  }
