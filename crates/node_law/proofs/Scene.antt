-- What the examples share: two nodes, of which the first sends a message and the second has a port for it.
use Rattle.std.proofs.Common.{◌≡◌, ℕ, ◌+◌, ◌<◌, ◌==◌, Bool, true, false, cond, List, [], ◌∷◌, ◌++◌, Option, Some, None, Ok, Err, refl, ap, ◌∙◌, arith}
use Rattle.std.specs.Prelude.{is_ok, slice_get}
use Rattle.std.specs.Cmp.{nat_cmp_total, unsigned_tied}
use Rattle.std.specs.FinMap as finmap
use Rattle.std.specs.FinMap.{get-insert}
use Rattle.std.specs.Ordering.{nat_cmp, eq_by_cmp}
use Rattle.std.proofs.lemmas.Bool.{ne_eqb, eq-eqb}
use Rattle.bus_frame.specs.Frames.{CanFrame}
use Rattle.pgn_ids.specs.declared.address.Address.{Address}
use Rattle.bus_order.specs.Bus as bus
use Rattle.bus_order.specs.Bus.{Bus, next_frame}
use Rattle.lane_core.specs.Lane.{Lane, new_lane, is_full, pushed}
use Rattle.lane_core.specs.Pump.{pump_refusal, pumped}
use Rattle.lane_core.specs.Step.{LaneStep, nothing_to_do}
use Rattle.lane_core.specs.declared.refused.PumpRefused.{PumpRefused}
use Rattle.lane_core.specs.declared.refused.PumpRefused.TheVariants as pump
use Rattle.station_lanes.specs.Lanes.{Lanes}
use Rattle.station_lanes.specs.LaneCalls.{outcome_of}
use Rattle.message_events.specs.declared.event.Event.{Event}
use Rattle.port_table.specs.Ports.{Ports}
use Rattle.port_table.specs.declared.port.PortId.{PortId}
use Rattle.session_table.specs.Key.{key_cmp}
use Rattle.session_table.proofs.Keys.{key_total}
use Rattle.session_table.specs.declared.key.Key.{Key}
use Rattle.session_table.specs.declared.incoming.Incoming.{Incoming}
use Rattle.station_sessions.specs.Receiving.{Inbound}
use Rattle.station_core.specs.Station.{Station, StationStep, new_station, by_lane}
use Rattle.segment_law.specs.Segment.{Segment, no_counts, counted, place_of}
use Rattle.segment_law.specs.Calls.{Answer, at_place, at_station, called, replied, applied, takes, takes_by, looks, no_place, pumps_by, stepped}
use Rattle.segment_law.specs.Readers.{pumps_to, next_pump}
use Rattle.segment_law.specs.declared.call.Call.TheVariants.{Pump, Take}
use Rattle.segment_law.specs.declared.counts.Counts.{Counts}
use Rattle.segment_law.specs.declared.refusal.Refusal.TheVariants as refusal
use Rattle.segment_law.specs.declared.reply.Reply.TheVariants.{Sent, Done}
use Rattle.one_station.specs.Node.{Node}
use Rattle.node_law.proofs.Doing.{ok_done, first_pumped}

abbrev pub one : Address
one = record { 0 = 1 }

abbrev pub two : Address
two = record { 0 = 2 }

abbrev pub pgn : ℕ
pgn = 65226

abbrev pub node : Address → Segment → List Event → Node
node a seg events = record { segment = seg; address = a; events = events; has_missed = false; quiet_until = 0 }

-- a bus with a cursor at this place
abbrev pub bus_with : ℕ → ℕ → Bool → List CanFrame → Bus
bus_with first place again kept = record { first = first; kept = kept; cursors = record { place = place; repeatable = again } ∷ [] }

-- so many frames were put and looked at, the last of them this one; and one more is put
abbrev pub level : ℕ → CanFrame → Bus
level k f = bus_with k k true (f ∷ [])

abbrev pub ahead : ℕ → CanFrame → CanFrame → Bus
ahead k f g = bus_with k k true (f ∷ g ∷ [])

abbrev pub begun_with : CanFrame → Bus
begun_with f = bus_with 1 0 false (f ∷ [])

abbrev pub frames_put : ℕ → Counts
frames_put n = record no_counts { frames = n }

-- A station takes the next frame

module _ (seg : Segment) (a : Address) (i : ℕ) (st : Station) (place : place_of seg a ≡ Some i) (at : slice_get seg.stations i ≡ Some st) (f : CanFrame) (next : next_frame seg.bus i ≡ Some f) (room : no_place st ≡ false) where
  pub take_is : applied seg (Take a true) ≡ replied seg (looks (record seg { bus = bus.released (bus.taken seg.bus i) }) true i st f)
  unfolding called
  take_is =
      ap (λ (o : Option ℕ). replied seg (at_place seg o (takes seg true))) place
      ∙ ap (λ (o : Option Station). replied seg (at_station o (takes seg true i))) at
      ∙ ap (λ (o : Option CanFrame). replied seg (takes_by seg true i st o)) next
      ∙ ap (λ (b : Bool). replied seg (cond b (Err refusal.TxFull) (looks (record seg { bus = bus.released (bus.taken seg.bus i) }) true i st f))) room

-- The sender

abbrev pub sends : List CanFrame → Lanes → Station
sends queue lanes = record (new_station one) { queue = queue; lanes = lanes }

abbrev pub sender : (now : ℕ) → List CanFrame → Lanes → Bus → Counts → Segment
sender now queue lanes b c = record { now = now; stations = sends queue lanes ∷ []; bus = b; counts = c }

module _ (to : Address) where
  pub lane_there : (m : Lanes) (l : Lane) → finmap.get (finmap.insert m to.0 l) to.0 ≡ Some l
  lane_there m l = get-insert nat_cmp_total m to.0 l to.0 ∙ ap (λ (b : Bool). cond b (Some l) (finmap.get m to.0)) (unsigned_tied to.0 to.0 ∙ eq-eqb to.0 to.0 refl)

  -- a message is sent, whether or not there is a lane yet
  abbrev pub send_by : List ℕ → Option Lane → Answer
  send_by bytes o =
      cond (is_full (elim o as (λ (_ : Option Lane). Lane) [ None ↦ new_lane 1 to.0 | Some l ↦ l ])) (Err refusal.LaneFull)
      (Ok (
        sender 0 [] (finmap.insert finmap.empty to.0 (pushed (elim o as (λ (_ : Option Lane). Lane) [ None ↦ new_lane 1 to.0 | Some l ↦ l ]) pgn bytes)) (bus.new_bus 1) no_counts,
        Sent ((elim o as (λ (_ : Option Lane). Lane) [ None ↦ new_lane 1 to.0 | Some l ↦ l ]).sent + 1),
      ))

  -- a step of its lane
  abbrev pub stepped_by : List CanFrame → Lanes → Lane × LaneStep → StationStep
  stepped_by queue lanes r = record { station = sends (queue ++ r.1.frames) (finmap.insert lanes to.0 r.0); events = outcome_of one to r.1.ended }

  pub by_lane_is : (queue : List CanFrame) (lanes : Lanes) (l : Lane) (step : Lane → Lane × LaneStep) → finmap.get lanes to.0 ≡ Some l → by_lane (sends queue lanes) to step ≡ stepped_by queue lanes (step l)
  by_lane_is queue lanes l step e = ap (λ (o : Option Lane). (let r : StationStep = record {
    station = sends (queue ++ (elim o as (λ (_ : Option Lane). LaneStep) [ None ↦ nothing_to_do | Some x ↦ (step x).1 ]).frames) (elim o as (λ (_ : Option Lane). Lanes) [ None ↦ lanes | Some x ↦ finmap.insert lanes to.0 (step x).0 ]);
    events = outcome_of one to (elim o as (λ (_ : Option Lane). LaneStep) [ None ↦ nothing_to_do | Some x ↦ (step x).1 ]).ended;
  } in r)) e

  -- its lane queues what comes next
  pub pump_is : (now : ℕ) (lanes : Lanes) (l : Lane) (b : Bus) (c : Counts) → (to.0 == 254) ≡ false → finmap.get lanes to.0 ≡ Some l → pump_refusal l now ≡ None
      → applied (sender now [] lanes b c) (Pump one to) ≡ (sender now (pumped l now).1.frames (finmap.insert lanes to.0 (pumped l now).0) b (counted c (outcome_of one to (pumped l now).1.ended)), Done (outcome_of one to (pumped l now).1.ended))
  unfolding called
  pump_is now lanes l b c real e free =
      ap (λ (t : Bool). replied (sender now [] lanes b c) (cond t (Err refusal.NoSuchStation) (pumps_by (sender now [] lanes b c) to 0 (sends [] lanes) (elim (finmap.get lanes to.0) as (λ (_ : Option Lane). Option PumpRefused) [ None ↦ Some pump.NothingToSend | Some x ↦ pump_refusal x now ])))) real
      ∙ ap (λ (r : Option PumpRefused). replied (sender now [] lanes b c) (pumps_by (sender now [] lanes b c) to 0 (sends [] lanes) r))
      (ap (λ (o : Option Lane). elim o as (λ (_ : Option Lane). Option PumpRefused) [ None ↦ Some pump.NothingToSend | Some x ↦ pump_refusal x now ]) e ∙ free)
      ∙ ap (λ (r : StationStep). replied (sender now [] lanes b c) (stepped (sender now [] lanes b c) 0 r)) (by_lane_is [] lanes l (λ x. pumped x now) e)

  -- to the destinations before that one nothing is queued
  abbrev pub HasNoneBefore : Lanes → Type 0
  HasNoneBefore lanes = (k : ℕ) → k < to.0 → finmap.get lanes k ≡ None

  none_else : (now : ℕ) (lanes : Lanes) (b : Bus) (c : Counts) → HasNoneBefore lanes → (k : ℕ) → k < to.0 → pumps_to (sender now [] lanes b c) one k ≡ false
  unfolding called
  none_else now lanes b c none k below =
      ap (λ (o : Option Lane). is_ok (cond (k == 254) (Err refusal.NoSuchStation) (pumps_by (sender now [] lanes b c) (record { 0 = k }) 0 (sends [] lanes) (elim o as (λ (_ : Option Lane). Option PumpRefused) [ None ↦ Some pump.NothingToSend | Some x ↦ pump_refusal x now ])))) (none k below)
      ∙ either (k == 254)
    where
      either : (t : Bool) → is_ok (cond {A = Answer} t (Err refusal.NoSuchStation) (Err refusal.NothingToSend)) ≡ false
      either true = refl
      either false = refl

  pub none_more : (m : Lanes) (l : Lane) → HasNoneBefore m → HasNoneBefore (finmap.insert m to.0 l)
  none_more m l none k below = get-insert nat_cmp_total m to.0 l k ∙ (λ i. cond (apart i) (Some l) (none k below i))
    where
      apart : eq_by_cmp nat_cmp k to.0 ≡ false
      apart = unsigned_tied k to.0 ∙ ne_eqb k to.0 (λ e. absurd (omega (arith, e, below)))

  pub pumps_here : to.0 < 256 → (now : ℕ) (lanes : Lanes) (b : Bus) (c : Counts) (next : Segment) (events : List Event) → HasNoneBefore lanes → applied (sender now [] lanes b c) (Pump one to) ≡ (next, Done events) → next_pump (sender now [] lanes b c) one ≡ Some to
  pumps_here small now lanes b c next events none e =
      first_pumped (sender now [] lanes b c) one to.0 small (none_else now lanes b c none) (ap (λ (x : Answer). is_ok x) (ok_done (sender now [] lanes b c) next (Pump one to) events e))

-- The receiver

abbrev pub port : PortId
port = record { station = two; number = 1 }

abbrev pub ports : Ports
ports = record { station = two; open_ports = record { number = 1; pgn = pgn; max_len = 100; paused = false } ∷ []; opened = 1 }

abbrev pub hears : List CanFrame → Inbound → Station
hears queue sessions = record (new_station two) { queue = queue; ports = ports; sessions = sessions }

abbrev pub receiver : List CanFrame → Inbound → Bus → Counts → Segment
receiver queue sessions b c = record { now = 0; stations = hears queue sessions ∷ []; bus = b; counts = c }

-- what stands in its table
pub there_is : (key : Key) (m : Inbound) (v : Option (List ℕ × Incoming)) → eq_by_cmp key_cmp key key ≡ true → finmap.get (finmap.insert m key v) key ≡ Some v
there_is key m v same = get-insert key_total m key v key ∙ ap (λ (b : Bool). cond b (Some v) (finmap.get m key)) same
