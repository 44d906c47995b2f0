-- The steps of a lane: it stays the lane between its two stations, and what it queues goes from the one to the other.
use Rattle.std.proofs.Common.{◌≡◌, ℕ, ◌+◌, ◌<◌, ◌==◌, nat_lt, cond, not, ◌&&◌, ◌||◌, List, [], ◌∷◌, length, Option, Some, None, refl, sym, ap, ◌∙◌, arith, eqb-true}
use Rattle.std.specs.Prelude.{nat_le, min, option_to_list}
use Rattle.std.specs.List.{range_with_len}
use Rattle.std.proofs.lemmas.Bool.{eqb-false}
use Rattle.bus_frame.specs.Frames.{CanFrame}
use Rattle.tp_wire.specs.Rows.{written}
use Rattle.tp_wire.specs.declared.wire.Kind.{Kind}
use Rattle.tp_wire.specs.declared.wire.Kind.TheVariants.{Tp, Etp}
use Rattle.tp_wire.specs.declared.wire.CmFrame.{CmFrame}
use Rattle.tp_wire.specs.declared.wire.CmFrame.TheVariants.{Rts, Cts, EndOfMsgAck, Bam, Abort, EtpRts, EtpCts, EtpDpo, EtpEoma, EtpAbort}
use Rattle.tp_wire.specs.declared.wire.Wire.{Wire}
use Rattle.tp_wire.specs.declared.wire.Wire.TheVariants.{Cm, Packet, Request, Ack}
use Rattle.tp_wire.specs.declared.outcome.Outcome.{Outcome}
use Rattle.tp_wire.specs.declared.outcome.Outcome.TheVariants as outcome
use Rattle.tick_timers.specs.Timers.{Timer, is_due}
use Rattle.seg_cut.specs.Packets.{packet_count}
use Rattle.bam_session.specs.Frames.{next_packet}
use Rattle.bam_session.specs.Sending as sending
use Rattle.bam_session.specs.declared.outgoing.BamPumped.{BamPumped}
use Rattle.originator.specs.Link.{Link, packets_of, frame_of}
use Rattle.originator.specs.States.{Sending as Window, most_resends}
use Rattle.originator.specs.Readers.{link_of, without_window, is_of, is_all_queued}
use Rattle.originator.specs.Opening.{begun}
use Rattle.originator.specs.Endings as out
use Rattle.originator.specs.Cts.{cts_without_window, is_equal_cts, has_unsent, on_cts}
use Rattle.originator.specs.Step.{on_end, on_cm}
use Rattle.originator.specs.Pump as burst
use Rattle.originator.specs.declared.states.OutState.{OutState}
use Rattle.originator.specs.declared.states.OutState.TheVariants.{AwaitCts, Sending, AwaitEnd}
use Rattle.originator.specs.declared.states.Stepped.{Stepped}
use Rattle.originator.specs.declared.states.Stepped.TheVariants.{On, Over}
use Rattle.lane_core.specs.Lane.{Lane, new_lane, pushed, link_for, with_under_way}
use Rattle.lane_core.specs.Probe.{is_token, other_token, token_pgn, probes, most_requests}
use Rattle.lane_core.specs.Step.{says, LaneStep}
use Rattle.lane_core.specs.Endings.{over, still, is_acknowledged, after_step}
use Rattle.lane_core.specs.Cancel.{withdrawn, is_front, cancelled, cancelled_by}
use Rattle.lane_core.specs.Overrun.{overrun, overrun_by}
use Rattle.lane_core.specs.Hear.{connection_heard, heard, heard_by}
use Rattle.lane_core.specs.Answer.{answered, answered_by}
use Rattle.lane_core.specs.Pump.{begins, idle_pumped, after_packet, after_burst, front_bytes, pumped, pumped_by}
use Rattle.lane_core.specs.Fire.{probe_fired, fired, fired_by}
use Rattle.lane_core.specs.declared.message.Pending.{Pending}
use Rattle.lane_core.specs.declared.place.UnderWay.{UnderWay}
use Rattle.lane_core.specs.declared.place.UnderWay.TheVariants.{Nothing, Broadcast, Connection}
use Rattle.lane_core.specs.declared.probe.Standing.{Standing}
use Rattle.lane_core.specs.declared.probe.Standing.TheVariants.{Settled, InDoubt, Probing}
use Rattle.record_law.proofs.Lists.{Each, each_append, each_map, each_of_all}
use Rattle.record_law.proofs.Tests.{on_test, either}
use Rattle.broadcast_law.proofs.Carried.{IsSaid}

module _ (a to : ℕ) where
  abbrev pub FitsLink : Link → Type 0
  FitsLink link = (link.from ≡ a) × (link.to ≡ to)

  abbrev pub FitsUnderWay : UnderWay → Type 0
  FitsUnderWay Nothing = Unit {0}
  FitsUnderWay (Broadcast b) = (b.from ≡ a) × (to ≡ 255)
  FitsUnderWay (Connection o) = FitsLink (link_of o) × (to < 255)

  -- the lane from a to the destination
  pub record IsLaneOf (lane : Lane) : Type 0 where
    pub from : lane.from ≡ a
    pub to_it : lane.to ≡ to
    pub small : to < 256
    pub under_way : FitsUnderWay lane.under_way
    pub settled : to ≡ 255 → lane.standing ≡ Settled

  abbrev Said : List CanFrame → Type 0
  Said frames = Each (IsSaid a to) frames

  -- what a step leaves, and queues
  abbrev pub Fits : Lane × LaneStep → Type 0
  Fits step = IsLaneOf step.0 × Said step.1.frames

  said_link : (link : Link) (w : Wire) → FitsLink link → IsSaid a to (frame_of link w)
  said_link link w h = (w, λ i. written w (h.0 i) (h.1 i))

  under : (lane : Lane) (u : UnderWay) → IsLaneOf lane → FitsUnderWay u → IsLaneOf (with_under_way lane u)
  under lane u h k = record { from = h.from; to_it = h.to_it; small = h.small; under_way = k; settled = h.settled }

  -- a message ends
  fits_over : (lane : Lane) (o : Outcome) (frame : Option CanFrame) → IsLaneOf lane → Said (option_to_list frame) → Fits (over lane o frame)
  fits_over lane o frame h k = (
    record {
      from = h.from;
      to_it = h.to_it;
      small = h.small;
      under_way = tt;
      settled = λ e. ap (λ n. cond ((n == 255) || is_acknowledged o) lane.standing InDoubt) (h.to_it ∙ e) ∙ h.settled e;
    },
    k,
  )

  fits_still : (lane : Lane) → IsLaneOf lane → Fits (still lane)
  fits_still lane h = (h, tt)

  -- The sender of a connection

  abbrev FitsStepped : Stepped → Type 0
  FitsStepped (On state) = FitsLink (link_of state)
  FitsStepped (Over o) = Said (option_to_list o.frame)

  fits_without : (link : Link) (unsent resends : ℕ) (timer : Timer) → FitsLink link → FitsStepped (On (without_window link unsent resends timer))
  fits_without link unsent resends timer h = either (λ (s : OutState). FitsLink (link_of s)) (nat_le unsent (packets_of link)) _ _ h h

  fits_cts : (link : Link) (unsent resends granted next now : ℕ) → FitsLink link → FitsStepped (cts_without_window link unsent resends granted next now)
  fits_cts link unsent resends granted next now h =
      either FitsStepped (granted == 0) _ _ (fits_without link unsent resends _ h)
      (either FitsStepped (next == 0 || nat_lt (min unsent (packets_of link)) next) _ _ (said_link link _ h, tt)
      (either FitsStepped (nat_lt next unsent && resends == most_resends) _ _ (said_link link _ h, tt)
      (either FitsStepped (nat_lt next unsent) _ _ h h)))

  fits_on_cts : (state : OutState) (granted next now : ℕ) → FitsLink (link_of state) → FitsStepped (on_cts state granted next now)
  fits_on_cts (AwaitCts s) granted next now h = fits_cts s.link s.unsent s.resends granted next now h
  fits_on_cts (Sending s) granted next now h =
      either FitsStepped (is_equal_cts s granted next) _ _ h
      (either FitsStepped (has_unsent s) _ _ (said_link s.link _ h, tt) (fits_cts s.link s.unsent s.resends granted next now h))
  fits_on_cts (AwaitEnd s) granted next now h = fits_cts s.link (packets_of s.link + 1) s.resends granted next now h

  fits_on_end : (state : OutState) (size : ℕ) → FitsLink (link_of state) → FitsStepped (on_end state size)
  fits_on_end state size h = either FitsStepped (size == (link_of state).len && is_all_queued state) _ _ tt h

  fits_cm : (state : OutState) (frame : CmFrame) (now : ℕ) → FitsLink (link_of state) → FitsStepped (on_cm state frame now)
  fits_cm state (Cts granted next pgn) now h = either FitsStepped (is_of state Tp pgn) _ _ (fits_on_cts state granted next now h) h
  fits_cm state (EtpCts granted next pgn) now h = either FitsStepped (is_of state Etp pgn) _ _ (fits_on_cts state granted next now h) h
  fits_cm state (EndOfMsgAck size packets pgn) now h = either FitsStepped (is_of state Tp pgn && packets == packets_of (link_of state)) _ _ (fits_on_end state size h) h
  fits_cm state (EtpEoma size pgn) now h = either FitsStepped (is_of state Etp pgn) _ _ (fits_on_end state size h) h
  fits_cm state (Rts size packets most pgn) now h = h
  fits_cm state (Bam size packets pgn) now h = h
  fits_cm state (Abort reason pgn) now h = h
  fits_cm state (EtpRts size pgn) now h = h
  fits_cm state (EtpDpo packets offset pgn) now h = h
  fits_cm state (EtpAbort reason pgn) now h = h

  fits_connection : (state : OutState) (wire : Wire) (now : ℕ) → FitsLink (link_of state) → FitsStepped (connection_heard state wire now)
  fits_connection state (Cm (Abort reason pgn)) now h = either FitsStepped (is_of state Tp pgn) _ _ tt h
  fits_connection state (Cm (EtpAbort reason pgn)) now h = either FitsStepped (is_of state Etp pgn) _ _ tt h
  fits_connection state (Cm (Rts size packets most pgn)) now h = h
  fits_connection state (Cm (Cts granted next pgn)) now h = fits_cm state (Cts granted next pgn) now h
  fits_connection state (Cm (EndOfMsgAck size packets pgn)) now h = fits_cm state (EndOfMsgAck size packets pgn) now h
  fits_connection state (Cm (Bam size packets pgn)) now h = h
  fits_connection state (Cm (EtpRts size pgn)) now h = h
  fits_connection state (Cm (EtpCts granted next pgn)) now h = fits_cm state (EtpCts granted next pgn) now h
  fits_connection state (Cm (EtpDpo packets offset pgn)) now h = h
  fits_connection state (Cm (EtpEoma size pgn)) now h = fits_cm state (EtpEoma size pgn) now h
  fits_connection state (Packet kind sequence bytes) now h = h
  fits_connection state (Request pgn) now h = h
  fits_connection state (Ack control address pgn) now h = h

  fits_step : (lane : Lane) (step : Stepped) → IsLaneOf lane → to < 255 → FitsStepped step → Fits (after_step lane step)
  fits_step lane (On state) h l k = fits_still _ (under lane (Connection state) h (k, l))
  fits_step lane (Over o) h l k = fits_over lane o.outcome o.frame h k

  pub fits_heard : (lane : Lane) (wire : Wire) (now : ℕ) → IsLaneOf lane → Fits (heard lane wire now)
  fits_heard lane wire now h = by lane.under_way h.under_way
    where
      by : (u : UnderWay) → FitsUnderWay u → Fits (heard_by u lane wire now)
      by Nothing k = fits_still lane h
      by (Broadcast b) k = fits_still lane h
      by (Connection o) k = fits_step lane (connection_heard o wire now) h k.1 (fits_connection o wire now k.0)

  pub fits_answered : (lane : Lane) (pgn : ℕ) → IsLaneOf lane → IsLaneOf (answered lane pgn)
  fits_answered lane pgn h = by lane.standing
    where
      by : (st : Standing) → IsLaneOf (answered_by st lane pgn)
      by Settled = h
      by InDoubt = h
      by (Probing count timer) = either IsLaneOf (is_token lane.token pgn) (record lane { standing = Settled; token = other_token lane.token }) lane (record { from = h.from; to_it = h.to_it; small = h.small; under_way = h.under_way; settled = λ e. refl }) h

  pub fits_overrun : (lane : Lane) → IsLaneOf lane → Fits (overrun lane)
  fits_overrun lane h = by lane.under_way h.under_way
    where
      by : (u : UnderWay) → FitsUnderWay u → Fits (overrun_by u lane)
      by Nothing k = fits_still lane h
      by (Broadcast b) k = fits_still lane h
      by (Connection o) k = fits_over lane out.overrun.outcome None h tt

  pub fits_cancelled : (lane : Lane) (number : ℕ) → IsLaneOf lane → Fits (cancelled lane number)
  fits_cancelled lane number h = by lane.under_way h.under_way
    where
      less : Fits (withdrawn lane number)
      less = (record { from = h.from; to_it = h.to_it; small = h.small; under_way = h.under_way; settled = h.settled }, tt)

      by : (u : UnderWay) → FitsUnderWay u → Fits (cancelled_by u lane number)
      by Nothing k = less
      by (Broadcast b) k = either Fits (is_front lane.pending number) _ _ (fits_over lane outcome.Cancelled None h tt) less
      by (Connection o) k = either Fits (is_front lane.pending number) _ _ (fits_over lane (out.cancelled (link_of o)).outcome (out.cancelled (link_of o)).frame h (said_link (link_of o) _ k.0, tt)) less

  pub fits_pushed : (lane : Lane) (pgn : ℕ) (bytes : List ℕ) → IsLaneOf lane → IsLaneOf (pushed lane pgn bytes)
  fits_pushed lane pgn bytes h = record { from = h.from; to_it = h.to_it; small = h.small; under_way = h.under_way; settled = h.settled }

  -- Pumping

  said_bam : (w : Wire) (from : ℕ) → from ≡ a → to ≡ 255 → IsSaid a to (written w from 255)
  said_bam w from e k = (w, λ i. written w (e i) (sym k i))

  not_all : to < 256 → (to ≡ 255 → ⊥) → to < 255
  not_all l q = omega arith

  fits_begins : (lane : Lane) (m : Pending) (now : ℕ) → IsLaneOf lane → Fits (begins lane m now)
  fits_begins lane m now h = on_test (λ b. (lane.to == 255) ≡ b → Fits (cond b broadcast connection)) (lane.to == 255)
      (λ t e. let all : to ≡ 255 = sym h.to_it ∙ eqb-true lane.to 255 e in (under lane (Broadcast (sending.begun lane.from m.pgn (length m.bytes) now).0) h (h.from, all), (said_bam (Cm (Bam (length m.bytes) (packet_count (length m.bytes)) m.pgn)) lane.from h.from all, tt)))
      (λ t e.
      let n : lane.to ≡ 255 → ⊥ = eqb-false lane.to 255 e in
      let one : to < 255 = not_all h.small (λ x. n (h.to_it ∙ x)) in
      (under lane (Connection (AwaitCts (begun (link_for lane.from lane.to m) now).0)) h ((h.from, h.to_it), one), (said_link (link_for lane.from lane.to m) _ (h.from, h.to_it), tt))) refl
    where
      broadcast : Lane × LaneStep
      broadcast = (with_under_way lane (Broadcast (sending.begun lane.from m.pgn (length m.bytes) now).0), says (sending.begun lane.from m.pgn (length m.bytes) now).1)

      connection : Lane × LaneStep
      connection = (with_under_way lane (Connection (AwaitCts (begun (link_for lane.from lane.to m) now).0)), says (begun (link_for lane.from lane.to m) now).1)

  fits_probes : (lane : Lane) (count now : ℕ) → IsLaneOf lane → (lane.standing ≡ Settled → ⊥) → Fits (probes lane count now)
  fits_probes lane count now h n = (record { from = h.from; to_it = h.to_it; small = h.small; under_way = h.under_way; settled = λ e. absurd (n (h.settled e)) }, ((Request (token_pgn lane.token), λ i. written (Request (token_pgn lane.token)) (h.from i) (h.to_it i)), tt))

  doubt_not : InDoubt ≡ Settled → ⊥
  doubt_not e = cc

  probing_not : (count : ℕ) (timer : Timer) → Probing count timer ≡ Settled → ⊥
  probing_not count timer e = cc

  fits_idle : (st : Standing) (ms : List Pending) (lane : Lane) (now : ℕ) → IsLaneOf lane → lane.standing ≡ st → Fits (idle_pumped st ms lane now)
  fits_idle Settled [] lane now h e = fits_still lane h
  fits_idle Settled (m ∷ ms) lane now h e = fits_begins lane m now h
  fits_idle InDoubt [] lane now h e = fits_still lane h
  fits_idle InDoubt (m ∷ ms) lane now h e = fits_probes lane 1 now h (λ q. doubt_not (sym e ∙ q))
  fits_idle (Probing count timer) [] lane now h e = fits_still lane h
  fits_idle (Probing count timer) (m ∷ ms) lane now h e = fits_still lane h

  said_burst : (s : Window) (bytes : List ℕ) → FitsLink s.link → Said (burst.burst_of_window s bytes)
  said_burst s bytes h = each_append (IsSaid a to) (burst.announcement s.link.kind s) (burst.packet_frames s.link s.next bytes s.at (burst.burst_packets s)) (by s.link.kind)
      (each_map (IsSaid a to) (burst.packet_frame s.link s.next bytes) (range_with_len s.at (burst.burst_packets s)) (each_of_all (λ k. IsSaid a to (burst.packet_frame s.link s.next bytes k)) (λ k. said_link s.link _ h) (range_with_len s.at (burst.burst_packets s))))
    where
      by : (k : Kind) → Said (burst.announcement k s)
      by Tp = tt
      by Etp = either Said s.announced _ _ tt (said_link s.link _ h, tt)

  pub fits_pumped : (lane : Lane) (now : ℕ) → IsLaneOf lane → Fits (pumped lane now)
  fits_pumped lane now h = by lane.under_way h.under_way
    where
      queued : (state : OutState) (bytes : List ℕ) → FitsUnderWay (Connection state) → Fits (after_burst lane (burst.pumped state bytes now))
      queued (AwaitCts s) bytes k = (under lane (Connection (AwaitCts s)) h k, tt)
      queued (AwaitEnd s) bytes k = (under lane (Connection (AwaitEnd s)) h k, tt)
      queued (Sending s) bytes k = (
        under lane (Connection (burst.queued_to s (s.at + burst.burst_packets s) now)) h
            (either (λ (st : OutState). FitsLink (link_of st)) (nat_lt s.until (s.at + burst.burst_packets s)) _ _ (fits_without s.link _ s.resends _ k.0) k.0, k.1),
        said_burst s bytes k.0,
      )

      by : (u : UnderWay) → FitsUnderWay u → Fits (pumped_by u lane now)
      by Nothing k = fits_idle lane.standing lane.pending lane now h refl
      by (Broadcast b) k = either (λ (p : BamPumped). Fits (after_packet lane p)) (not (is_due b.gap now)) _ _ (fits_still _ (under lane (Broadcast b) h k))
          (either (λ (p : BamPumped). Fits (after_packet lane p)) (b.next == packet_count b.len) _ _
          (fits_over lane outcome.Broadcast (Some (next_packet b (front_bytes lane.pending))) h (said_bam _ b.from k.0 k.1, tt))
          (under lane _ h k, (said_bam _ b.from k.0 k.1, tt)))
      by (Connection o) k = queued o (front_bytes lane.pending) k

  pub fits_fired : (lane : Lane) (now : ℕ) → IsLaneOf lane → Fits (fired lane now)
  fits_fired lane now h = by lane.under_way h.under_way
    where
      probing : (st : Standing) → lane.standing ≡ st → Fits (probe_fired st lane now)
      probing Settled e = fits_still lane h
      probing InDoubt e = fits_still lane h
      probing (Probing count timer) e = either Fits (nat_lt count most_requests) _ _ (fits_probes lane (count + 1) now h (λ q. probing_not count timer (sym e ∙ q))) (fits_over lane outcome.Unreachable None h tt)

      by : (u : UnderWay) → FitsUnderWay u → Fits (fired_by u lane now)
      by Nothing k = probing lane.standing refl
      by (Broadcast b) k = fits_still lane h
      by (Connection o) k = fits_over lane (out.expired (link_of o)).outcome (out.expired (link_of o)).frame h (said_link (link_of o) _ k.0, tt)

pub fits_new : (a to : ℕ) → to < 256 → IsLaneOf a to (new_lane a to)
fits_new a to l = record { from = refl; to_it = refl; small = l; under_way = tt; settled = λ e. refl }
