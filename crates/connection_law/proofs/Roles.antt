-- The two ends of a lane in the view, and steps of a station that leave what it shows as it was.
use Rattle.std.proofs.Common.{◌≡◌, ◌⊎◌, inl, inr, ℕ, cond, ◌&&◌, List, [], ◌++◌, map, filter_map, Option, Some, None, refl, sym, ap, ◌∙◌, subst, append-nil, append_assoc, eq-eqb}
use Rattle.std.specs.List.{cons_option}
use Rattle.std.specs.FinMap as finmap
use Rattle.std.proofs.lemmas.List.Elements.{filter_map-append}
use Rattle.bus_frame.specs.Frames.{CanFrame}
use Rattle.pgn_ids.specs.declared.address.Address.{Address}
use Rattle.tp_wire.specs.declared.wire.Kind.{Kind}
use Rattle.tp_wire.specs.declared.wire.Kind.TheVariants.{Tp, Etp}
use Rattle.lane_core.specs.Lane.{Lane, new_lane}
use Rattle.lane_core.specs.Step.{nothing_to_do, LaneStep}
use Rattle.lane_core.specs.declared.step.Ended.{Ended}
use Rattle.station_lanes.specs.Lanes.{Lanes}
use Rattle.station_lanes.specs.LaneCalls.{lane_to, outcome_of}
use Rattle.message_events.specs.declared.event.Event.{Event}
use Rattle.session_table.specs.Key.{session_for}
use Rattle.session_table.specs.Sessions.{state_at}
use Rattle.station_sessions.specs.Receiving.{Inbound}
use Rattle.station_sessions.specs.Opening.{key_of}
use Rattle.station_core.specs.Station.{Station, StationStep, by_lane}
use Rattle.segment_law.specs.Told as told
use Rattle.segment_law.specs.Told.{AtPort, given_to_station, outcome_in}
use Rattle.record_law.proofs.Maps.{lane_here}
use Rattle.lane_law.specs.Lane as machine
use Rattle.lane_law.specs.Session.{Session}
use Rattle.broadcast_law.proofs.Ports.{first_message}
use Rattle.connection_law.proofs.Frames.{goes, returns}
use Rattle.connection_law.proofs.View.{Laws, IsPair, Mark, View, kind_of, IsHeardAs, IsSame, of_kind, Carries, Sim, Still}
use Rattle.connection_law.proofs.Receiver.{Real}
use Rattle.connection_law.proofs.Moves.{carries_else, ends}
use Rattle.connection_law.proofs.Sender.{stepped_view, ended_told}

-- what station r is told of the messages from s to d, and the outcomes of them
abbrev pub station_told : (r s d : Address) → List Event → List AtPort
station_told r s d events = filter_map (given_to_station r s d) events

abbrev pub told_to : (r s d : Address) → List Event → List told.Message
told_to r s d events = first_message (station_told r s d events)

-- the ports that it is told of
abbrev pub numbers_at : List AtPort → List ℕ
numbers_at xs = map (λ (x : AtPort). x.0) xs

abbrev pub ended_in : (s d : Address) → List Event → List told.NumberedOutcome
ended_in s d events = filter_map (outcome_in s d) events

-- a session is no more, or is as it was
abbrev pub Recedes : (new old : Real) → Type 0
Recedes new old = (new ≡ None) ⊎ (new ≡ old)

module _ (laws : Laws) (s d : Address) (pair : IsPair s d) where
  -- The sender

  abbrev pub sender_view : View → (ahead : List CanFrame) → StationStep → View
  sender_view v ahead step = record v { lane = lane_to s step.station.lanes d.0; forward = filter_map (goes s d) (ahead ++ step.station.queue); ended = v.ended ++ ended_in s d step.events }

  -- the view has the lane and the queue of this station
  pub record IsSenderOf (v : View) (ahead : List CanFrame) (st : Station) : Type 0 where
    pub lane : v.lane ≡ lane_to s st.lanes d.0
    pub forward : v.forward ≡ filter_map (goes s d) (ahead ++ st.queue)

  -- nothing of the lane
  pub record AsideOut (st : Station) (step : StationStep) : Type 0 where
    pub lane : lane_to s step.station.lanes d.0 ≡ lane_to s st.lanes d.0
    pub frames : List CanFrame
    pub queue : step.station.queue ≡ st.queue ++ frames
    pub none : filter_map (goes s d) frames ≡ []
    pub untold : ended_in s d step.events ≡ []

  queued_more : (ahead queue more : List CanFrame) → filter_map (goes s d) (ahead ++ (queue ++ more)) ≡ filter_map (goes s d) (ahead ++ queue) ++ filter_map (goes s d) more
  queued_more ahead queue more = ap (filter_map (goes s d)) (sym (append_assoc ahead queue more)) ∙ filter_map-append (goes s d) (ahead ++ queue) more

  pub sender_aside : (v : View) (ahead : List CanFrame) (st : Station) (step : StationStep) (l : machine.Lane) → IsSenderOf v ahead st → AsideOut st step → Still s d l v → Still s d l (sender_view v ahead step)
  sender_aside v ahead st step l is aside h = subst (Still s d l) (sym (λ i. (let w : View = record v { lane = lane i; forward = forward i; ended = ended i } in w))) h
    where
      lane : lane_to s step.station.lanes d.0 ≡ v.lane
      lane = aside.lane ∙ sym is.lane

      forward : filter_map (goes s d) (ahead ++ step.station.queue) ≡ v.forward
      forward = ap (λ q. filter_map (goes s d) (ahead ++ q)) aside.queue ∙ queued_more ahead st.queue aside.frames ∙ ap (λ ws. filter_map (goes s d) (ahead ++ st.queue) ++ ws) aside.none ∙ append-nil (filter_map (goes s d) (ahead ++ st.queue)) ∙ sym is.forward

      ended : v.ended ++ ended_in s d step.events ≡ v.ended
      ended = ap (λ xs. v.ended ++ xs) aside.untold ∙ append-nil v.ended

  -- the lane itself makes a step
  own_told : (from : Address) (o : Option Ended) → from.0 ≡ s.0 → ended_in s d (outcome_of from d o) ≡ ended_told o
  own_told from None e = refl
  own_told from (Some x) e = λ i. cons_option (cond (eq-eqb from.0 s.0 e i && eq-eqb d.0 d.0 refl i) (Some (x.number, x.outcome)) None) []

  abbrev lane_or : Option Lane → Lane
  lane_or o = elim o as (λ (_ : Option Lane). Lane) [ None ↦ new_lane s.0 d.0 | Some l ↦ l ]

  pub sender_lane : (v : View) (ahead : List CanFrame) (st : Station) (step : Lane → Lane × LaneStep) (l : machine.Lane) → IsSenderOf v ahead st → st.address ≡ s → Still s d l v → Still s d l (stepped_view laws s d pair v (step v.lane)) → Still s d l (sender_view v ahead (by_lane st d step))
  sender_lane v ahead st step l is own same h = by (finmap.get st.lanes d.0) refl
    where
      after : Option Lane → StationStep
      after o = record {
        station = record st { queue = st.queue ++ (elim o as (λ (_ : Option Lane). LaneStep) [ None ↦ nothing_to_do | Some x ↦ (step x).1 ]).frames; lanes = elim o as (λ (_ : Option Lane). Lanes) [ None ↦ st.lanes | Some x ↦ finmap.insert st.lanes d.0 (step x).0 ] };
        events = outcome_of st.address d (elim o as (λ (_ : Option Lane). LaneStep) [ None ↦ nothing_to_do | Some x ↦ (step x).1 ]).ended;
      }

      by : (o : Option Lane) → finmap.get st.lanes d.0 ≡ o → Still s d l (sender_view v ahead (after o))
      by None e = sender_aside v ahead st (after None) l is (record { lane = refl; frames = []; queue = refl; none = refl; untold = refl }) same
      by (Some x) e = subst (Still s d l) (sym (λ i. (let w : View = record v { lane = lane i; forward = forward i; ended = ended i } in w))) h
        where
          lane_is : v.lane ≡ x
          lane_is = is.lane ∙ ap lane_or e

          lane : lane_to s (finmap.insert st.lanes d.0 (step x).0) d.0 ≡ (step v.lane).0
          lane = ap lane_or (lane_here st.lanes d.0 (step x).0) ∙ ap (λ (z : Lane). (step z).0) (sym lane_is)

          forward : filter_map (goes s d) (ahead ++ (st.queue ++ (step x).1.frames)) ≡ v.forward ++ filter_map (goes s d) (step v.lane).1.frames
          forward = queued_more ahead st.queue (step x).1.frames ∙ (λ i. sym is.forward i ++ filter_map (goes s d) (step (sym lane_is i)).1.frames)

          ended : v.ended ++ ended_in s d (outcome_of st.address d (step x).1.ended) ≡ v.ended ++ ended_told (step v.lane).1.ended
          ended = ap (λ xs. v.ended ++ xs) (own_told st.address (step x).1.ended (ap (λ (a : Address). a.0) own) ∙ ap (λ (z : Lane). ended_told (step z).1.ended) (sym lane_is))

  -- The receiver

  abbrev pub real_at : Inbound → Kind → Real
  real_at sessions kind = state_at sessions (key_of s (session_for kind))

  abbrev pub receiver_view : View → (behind : List CanFrame) → StationStep → View
  receiver_view v behind step = record v { tp = real_at step.station.sessions Tp; etp = real_at step.station.sessions Etp; answers = filter_map (returns s d) (behind ++ step.station.queue); given = v.given ++ told_to d s d step.events }

  pub record IsReceiverOf (v : View) (behind : List CanFrame) (st : Station) : Type 0 where
    pub tp : v.tp ≡ real_at st.sessions Tp
    pub etp : v.etp ≡ real_at st.sessions Etp
    pub answers : v.answers ≡ filter_map (returns s d) (behind ++ st.queue)

  pub record AsideIn (st : Station) (step : StationStep) : Type 0 where
    pub sessions : (k : Kind) → Recedes (real_at step.station.sessions k) (real_at st.sessions k)
    pub frames : List CanFrame
    pub queue : step.station.queue ≡ st.queue ++ frames
    pub none : filter_map (returns s d) frames ≡ []
    pub untold : station_told d s d step.events ≡ []

  pub answers_more : (behind queue more : List CanFrame) → filter_map (returns s d) (behind ++ (queue ++ more)) ≡ filter_map (returns s d) (behind ++ queue) ++ filter_map (returns s d) more
  answers_more behind queue more = ap (filter_map (returns s d)) (sym (append_assoc behind queue more)) ∙ filter_map-append (returns s d) (behind ++ queue) more

  -- whatever a session stood for, another one stands for, or there is none
  abbrev pub StandsOn : Mark → (new : Real) → Mark → (old : Real) → Type 0
  StandsOn marked new mark old = (new ≡ None) ⊎ ((o : Option Session) → IsHeardAs (IsSame s d) mark old o → IsHeardAs (IsSame s d) marked new o)

  -- other sessions, that stand for the same
  pub stands_on : (v : View) (l : machine.Lane) (tp etp : Real) (opened : Kind → Mark) → Sim s d v l → ((k : Kind) → StandsOn (opened k) (of_kind k tp etp) (v.opened k) (of_kind k v.tp v.etp)) → Still s d l (record v { tp = tp; etp = etp; opened = opened })
  stands_on v l tp etp opened h on = by (on kind)
    where
      kind : Kind
      kind = kind_of l.stream.reached.message

      c : Carries s d (record v { tp = tp; etp = etp; opened = opened }) l
      c = carries_else laws s d v l tp etp opened h.carries

      by : StandsOn (opened kind) (of_kind kind tp etp) (v.opened kind) (of_kind kind v.tp v.etp) → Still s d l (record v { tp = tp; etp = etp; opened = opened })
      by (inl e) = ends laws s d (record v { tp = tp; etp = etp; opened = opened }) l c e
      by (inr w) = record { lane = l; sim = record { carries = c; session = w l.stream.session h.session }; given = refl }

  receding : (v : View) (tp etp : Real) → Recedes tp v.tp → Recedes etp v.etp → (k : Kind) → StandsOn (v.opened k) (of_kind k tp etp) (v.opened k) (of_kind k v.tp v.etp)
  receding v tp etp h k kind = by kind (cases kind)
    where
      cases : (kind : Kind) → Recedes (of_kind kind tp etp) (of_kind kind v.tp v.etp)
      cases Tp = h
      cases Etp = k

      by : (kind : Kind) → Recedes (of_kind kind tp etp) (of_kind kind v.tp v.etp) → StandsOn (v.opened kind) (of_kind kind tp etp) (v.opened kind) (of_kind kind v.tp v.etp)
      by kind (inl e) = inl e
      by kind (inr e) = inr (λ o q. subst (λ r. IsHeardAs (IsSame s d) (v.opened kind) r o) (sym e) q)

  pub recedes : (v : View) (l : machine.Lane) (tp etp : Real) → Sim s d v l → Recedes tp v.tp → Recedes etp v.etp → Still s d l (record v { tp = tp; etp = etp })
  recedes v l tp etp h p q = stands_on v l tp etp v.opened h (receding v tp etp p q)

  pub receiver_aside : (v : View) (behind : List CanFrame) (st : Station) (step : StationStep) (l : machine.Lane) → IsReceiverOf v behind st → AsideIn st step → Sim s d v l → Still s d l (receiver_view v behind step)
  receiver_aside v behind st step l is aside h = subst (Still s d l) (sym (λ i. (let w : View = record v { tp = real_at step.station.sessions Tp; etp = real_at step.station.sessions Etp; answers = answers i; given = given i } in w)))
      (recedes v l (real_at step.station.sessions Tp) (real_at step.station.sessions Etp) h (subst (Recedes (real_at step.station.sessions Tp)) (sym is.tp) (aside.sessions Tp)) (subst (Recedes (real_at step.station.sessions Etp)) (sym is.etp) (aside.sessions Etp)))
    where
      answers : filter_map (returns s d) (behind ++ step.station.queue) ≡ v.answers
      answers = ap (λ q. filter_map (returns s d) (behind ++ q)) aside.queue ∙ answers_more behind st.queue aside.frames ∙ ap (λ ws. filter_map (returns s d) (behind ++ st.queue) ++ ws) aside.none ∙ append-nil (filter_map (returns s d) (behind ++ st.queue)) ∙ sym is.answers

      given : v.given ++ told_to d s d step.events ≡ v.given
      given = ap (λ xs. v.given ++ first_message xs) aside.untold ∙ append-nil v.given
