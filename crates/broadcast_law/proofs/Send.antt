-- The sender of messages to all: what its lane to all queues, begins or ends, a stream sends, begins or leaves.
use Rattle.std.proofs.Common.{◌≡◌, ℕ, ◌+◌, ◌<◌, ◌≤◌, ◌^◌, true, false, not, ◌==◌, cond, List, [], ◌∷◌, ◌++◌, map, filter_map, length, Some, None, refl, sym, ap, subst, arith, append_assoc, append-nil, length-append}
use Rattle.std.proofs.lemmas.Bool.{eqb-false}
use Rattle.std.proofs.lemmas.List.{map-append}
use Rattle.std.proofs.lemmas.List.Elements.{filter_map-append}
use Rattle.bus_frame.specs.Frames.{CanFrame}
use Rattle.pgn_ids.specs.Address.{is_one}
use Rattle.pgn_ids.specs.Pgn.{clean}
use Rattle.pgn_ids.specs.declared.address.Address.{Address}
use Rattle.tp_wire.specs.declared.outcome.Outcome.TheVariants as outcome
use Rattle.seg_cut.specs.Packets.{packet_count, packet}
use Rattle.tick_timers.specs.Timers.{is_due}
use Rattle.bam_session.specs.States as bam
use Rattle.bam_session.specs.Frames.{announcement, next_packet}
use Rattle.bam_session.specs.Sending as sending
use Rattle.bam_session.specs.declared.outgoing.BamPumped.TheVariants as pumping
use Rattle.lane_core.specs.Lane.{Lane, pushed, link_for, with_under_way}
use Rattle.lane_core.specs.Step.{says, LaneStep}
use Rattle.lane_core.specs.Endings.{over}
use Rattle.lane_core.specs.Cancel.{withdrawn, is_front, cancelled, cancelled_by}
use Rattle.lane_core.specs.Pump.{begins, idle_pumped, after_packet, front_bytes, pumped, pumped_by}
use Rattle.lane_core.specs.declared.message.Pending.{Pending}
use Rattle.lane_core.specs.declared.place.UnderWay.{UnderWay}
use Rattle.lane_core.specs.declared.place.UnderWay.TheVariants.{Nothing, Broadcast, Connection}
use Rattle.lane_core.specs.declared.probe.Standing.TheVariants.{Settled}
use Rattle.originator.specs.Opening.{begun as connects}
use Rattle.originator.specs.declared.states.OutState.TheVariants.{AwaitCts}
use Rattle.record_law.proofs.Lists.{each_append}
use Rattle.record_law.proofs.Readings.{ReadsBack}
use Rattle.record_law.proofs.Tests.{on_test}
use Rattle.lane_law.specs.Message.{Message}
use Rattle.lane_law.specs.Frame.{Frame, Rts, Packet as Data, Place}
use Rattle.lane_law.specs.Stream as stream
use Rattle.lane_law.specs.Stream.{Stream, Send, Begin, QueuePacket}
use Rattle.broadcast_law.proofs.Carried.{carried, carried_bam, carried_packet}
use Rattle.broadcast_law.proofs.Pending.{fewer_pending, within, last_pending, enough, below}
use Rattle.broadcast_law.proofs.View.{View, wire_of, plain, message, IsClean, ArePending, IsBroadcasting, IsUnderWay, IsSender, Sim, Stands, GoesOn}

-- packets have seven bytes
abbrev pub AreSeven : Type 0
AreSeven = (message : List ℕ) (k : ℕ) → k ≤ packet_count (length message) → length (packet message k) ≡ 7

-- a lane's step, with its frames queued
abbrev pub stepped_view : View → Lane × LaneStep → View
stepped_view v step = record v { lane = step.0; queue = v.queue ++ step.1.frames }

module _ (s : Address) (goes : GoesOn) where
  one_more : (ahead queue : List CanFrame) (fs : List Frame) (f : CanFrame) (g : Frame) → filter_map (carried s) (ahead ++ queue) ≡ map wire_of fs → carried s f ≡ Some (wire_of g) → filter_map (carried s) (ahead ++ (queue ++ f ∷ [])) ≡ map wire_of (fs ++ g ∷ [])
  one_more ahead queue fs f g h c = rw (← append_assoc ahead queue (f ∷ []), filter_map-append (carried s) (ahead ++ queue) (f ∷ []), c, h, map-append wire_of fs (g ∷ [])) refl

  others_more : (ahead queue more : List CanFrame) (fs : List Frame) → filter_map (carried s) (ahead ++ queue) ≡ map wire_of fs → filter_map (carried s) more ≡ [] → filter_map (carried s) (ahead ++ (queue ++ more)) ≡ map wire_of fs
  others_more ahead queue more fs h c = rw (← append_assoc ahead queue more, filter_map-append (carried s) (ahead ++ queue) more, c, append-nil (filter_map (carried s) (ahead ++ queue))) h

  -- frames that carry nothing are queued at the sender
  pub queues_others : (v : View) (frames : List CanFrame) → Stands s v → filter_map (carried s) frames ≡ [] → Stands s (record v { queue = v.queue ++ frames })
  queues_others v frames (st, h) c = (
    st,
    record {
      carries = record { reached = h.carries.reached; clean = h.carries.clean; sent = h.carries.sent; given = h.carries.given; forward = others_more v.ahead v.queue frames st.forward h.carries.forward c; again = h.carries.again; sender = h.carries.sender };
      session = h.session;
    },
  )

  -- the sender puts its front frame on the bus
  pub transmits : (v : View) (f : CanFrame) (rest : List CanFrame) → Stands s v → v.queue ≡ f ∷ rest → Stands s (record v { queue = rest; ahead = v.ahead ++ f ∷ [] })
  transmits v f rest (st, h) e = (
    st,
    record {
      carries = record {
        reached = h.carries.reached;
        clean = h.carries.clean;
        sent = h.carries.sent;
        given = h.carries.given;
        forward = rw (append_assoc v.ahead (f ∷ []) rest) (subst (λ fs. filter_map (carried s) (v.ahead ++ fs) ≡ map wire_of st.forward) e h.carries.forward);
        again = h.carries.again;
        sender = h.carries.sender;
      };
      session = h.session;
    },
  )

  -- somebody else does
  pub puts_other : (v : View) (f : CanFrame) → Stands s v → carried s f ≡ None → Stands s (record v { ahead = v.ahead ++ f ∷ [] })
  puts_other v f (st, h) c = (
    st,
    record {
      carries = record {
        reached = h.carries.reached;
        clean = h.carries.clean;
        sent = h.carries.sent;
        given = h.carries.given;
        forward = rw (append_assoc v.ahead (f ∷ []) v.queue, filter_map-append (carried s) v.ahead (f ∷ v.queue), c, ← filter_map-append (carried s) v.ahead v.queue) h.carries.forward;
        again = h.carries.again;
        sender = h.carries.sender;
      };
      session = h.session;
    },
  )

  -- a message is sent
  pub pushes : (v : View) (pgn : ℕ) (bytes : List ℕ) → Stands s v → 0 < length bytes → pgn < 2 ^ 18 → clean pgn ≡ pgn → Stands s (record v { lane = pushed v.lane pgn bytes; sent = v.sent ++ (pgn, bytes) ∷ [] })
  pushes v pgn bytes (st, h) j k c =
      let m : Message = record { pgn = pgn; bytes = bytes } in
      let p : Pending = record { number = v.lane.sent + 1; pgn = pgn; bytes = bytes } in (
        stream.after (Send m) st,
        record {
          carries = record {
            reached = goes st (Send m) h.carries.reached tt;
            clean = each_append IsClean st.sent (m ∷ []) h.carries.clean (c, tt);
            sent = rw (map-append plain st.sent (m ∷ []), h.carries.sent) refl;
            given = h.carries.given;
            forward = h.carries.forward;
            again = h.carries.again;
            sender = record {
              from = h.carries.sender.from;
              to = h.carries.sender.to;
              count = rw (length-append st.sent (m ∷ []), h.carries.sender.count) refl;
              last = omega (arith, length-append st.sent (m ∷ []), h.carries.sender.last);
              standing = h.carries.sender.standing;
              under_way = under v.lane.under_way v.lane.pending st.queued st.sent p h.carries.sender.last (ap (λ n. n + 1) h.carries.sender.count) j k h.carries.sender.under_way;
            };
          };
          session = h.session;
        },
      )
    where
      under : (u : UnderWay) (ms : List Pending) (q : Place) (sent : List Message) (p : Pending) → q.number ≤ length sent → p.number ≡ length sent + 1 → 0 < length p.bytes → p.pgn < 2 ^ 18 → IsUnderWay s.0 u ms q sent → IsUnderWay s.0 u (ms ++ p ∷ []) q (sent ++ message p ∷ [])
      under Nothing ms q sent p l n j k h = last_pending q.number ms sent p l n j k h
      under (Broadcast b) [] q sent p l n j k h = absurd h
      under (Broadcast b) (m ∷ ms) q sent p l n j k h = (h.0, last_pending m.number ms sent p (omega (arith, h.0.number)) n j k h.1)
      under (Connection o) ms q sent p l n j k h = absurd h

  same_stream : (v : View) (st : Stream) (lane : Lane) → Sim s v st → IsSender s.0 lane st.queued st.sent → Stands s (stepped_view v (lane, record { frames = []; ended = None }))
  same_stream v st lane h k = (
    st,
    record {
      carries = record { reached = h.carries.reached; clean = h.carries.clean; sent = h.carries.sent; given = h.carries.given; forward = rw (append-nil v.queue) h.carries.forward; again = h.carries.again; sender = k };
      session = h.session;
    },
  )

  -- what is under way, by what it is
  is_under : (v : View) (st : Stream) (u : UnderWay) (ms : List Pending) → Sim s v st → v.lane.under_way ≡ u → v.lane.pending ≡ ms → IsUnderWay s.0 u ms st.queued st.sent
  is_under v st u ms h e p = subst (λ x. IsUnderWay s.0 u x st.queued st.sent) p (subst (λ x. IsUnderWay s.0 x v.lane.pending st.queued st.sent) e h.carries.sender.under_way)

  -- a message is cancelled
  pub cancels : (v : View) (number : ℕ) → Stands s v → Stands s (record v { lane = (cancelled v.lane number).0 })
  cancels v number (st, h) = (
    st,
    record {
      carries = record { reached = h.carries.reached; clean = h.carries.clean; sent = h.carries.sent; given = h.carries.given; forward = h.carries.forward; again = h.carries.again; sender = go v.lane.under_way refl v.lane.pending refl };
      session = h.session;
    },
  )
    where
      go : (u : UnderWay) → v.lane.under_way ≡ u → (ms : List Pending) → v.lane.pending ≡ ms → IsSender s.0 (cancelled_by u v.lane number).0 st.queued st.sent
      go Nothing u ms e = record {
        from = h.carries.sender.from;
        to = h.carries.sender.to;
        count = h.carries.sender.count;
        last = h.carries.sender.last;
        standing = h.carries.sender.standing;
        under_way = rw u (fewer_pending number st.queued.number v.lane.pending st.sent (is_under v st Nothing v.lane.pending h u refl));
      }
      go (Broadcast b) u [] e = absurd (is_under v st (Broadcast b) [] h u e)
      go (Broadcast b) u (m ∷ ms) e =
          let w : IsUnderWay s.0 (Broadcast b) (m ∷ ms) st.queued st.sent = is_under v st (Broadcast b) (m ∷ ms) h u e in
          on_test (λ t. is_front v.lane.pending number ≡ t → IsSender s.0 (cond t (over v.lane outcome.Cancelled None) (withdrawn v.lane number)).0 st.queued st.sent) (is_front v.lane.pending number)
          (λ front q. record {
            from = h.carries.sender.from;
            to = h.carries.sender.to;
            count = h.carries.sender.count;
            last = h.carries.sender.last;
            standing = rw h.carries.sender.to h.carries.sender.standing;
            under_way = rw (e, w.0.number) w.1;
          })
          (λ other q. record {
            from = h.carries.sender.from;
            to = h.carries.sender.to;
            count = h.carries.sender.count;
            last = h.carries.sender.last;
            standing = h.carries.sender.standing;
            under_way = rw (u, e) (rw (subst (λ x. is_front x number ≡ false) e q) (w.0, fewer_pending number m.number ms st.sent w.1));
          }) refl
      go (Connection o) u ms e = absurd (is_under v st (Connection o) ms h u e)

  module _ (own : is_one s.0 ≡ true) (reads : ReadsBack) (seven : AreSeven) where
    abbrev begun_at : Lane → Pending → ℕ → Lane × LaneStep
    begun_at lane m now = (with_under_way lane (Broadcast (sending.begun lane.from m.pgn (length m.bytes) now).0), says (sending.begun lane.from m.pgn (length m.bytes) now).1)

    begins_broadcast : (v : View) (st : Stream) (m : Pending) (ms : List Pending) (now : ℕ) → Sim s v st → v.lane.under_way ≡ Nothing → v.lane.pending ≡ m ∷ ms → Stands s (stepped_view v (begun_at v.lane m now))
    begins_broadcast v st m ms now h u e =
        let w : ArePending st.queued.number (m ∷ ms) st.sent = is_under v st Nothing (m ∷ ms) h u e in (
          stream.after (Begin m.number (message m)) st,
          record {
            carries = record {
              reached = goes st (Begin m.number (message m)) h.carries.reached (w.0.later, w.0.was_sent);
              clean = h.carries.clean;
              sent = h.carries.sent;
              given = h.carries.given;
              forward = one_more v.ahead v.queue st.forward (announcement v.lane.from m.pgn (length m.bytes)) (Rts m.number (message m)) h.carries.forward (rw h.carries.sender.from (carried_bam s own reads (length m.bytes) (packet_count (length m.bytes)) m.pgn w.0.pgn));
              again = h.carries.again;
              sender = record {
                from = h.carries.sender.from;
                to = h.carries.sender.to;
                count = h.carries.sender.count;
                last = within st.sent m.number (message m) w.0.was_sent;
                standing = h.carries.sender.standing;
                under_way = subst (λ x. IsUnderWay s.0 (Broadcast (sending.begun v.lane.from m.pgn (length m.bytes) now).0) x (record { number = m.number; message = message m; offset = 0 }) st.sent) (sym e)
                    (record { from = h.carries.sender.from; len = refl; first = omega arith; last = enough (length m.bytes) w.0.long; number = refl; message = refl; offset = refl }, w.1);
              };
            };
            session = h.session;
          },
        )

    -- one more packet, whether the last or not: what is queued
    packet_queued : (v : View) (st : Stream) (b : bam.Outgoing) (m : Pending) → Sim s v st → IsBroadcasting s.0 b m st.queued → filter_map (carried s) (v.ahead ++ (v.queue ++ next_packet b m.bytes ∷ [])) ≡ map wire_of (stream.after (QueuePacket b.next) st).forward
    packet_queued v st b m h w =
        let at : st.queued.offset + b.next ≡ b.next = omega (arith, w.offset) in
        let same : packet st.queued.message.bytes (st.queued.offset + b.next) ≡ packet m.bytes b.next = rw (at, w.message) refl in
        one_more v.ahead v.queue st.forward (next_packet b m.bytes) (Data b.next (packet st.queued.message.bytes (st.queued.offset + b.next))) h.carries.forward
        (rw (w.from, same) (carried_packet s own reads b.next (packet m.bytes b.next) w.first (seven m.bytes b.next (subst (λ n. b.next ≤ packet_count n) w.len w.last))))

    one_packet : (v : View) (st : Stream) (b c : bam.Outgoing) (m : Pending) (ms : List Pending) → Sim s v st → v.lane.pending ≡ m ∷ ms → IsBroadcasting s.0 b m st.queued → ArePending m.number ms st.sent → IsBroadcasting s.0 c m st.queued → Stands s (stepped_view v (with_under_way v.lane (Broadcast c), says (next_packet b m.bytes)))
    one_packet v st b c m ms h e w r x = (
      stream.after (QueuePacket b.next) st,
      record {
        carries = record {
          reached = goes st (QueuePacket b.next) h.carries.reached tt;
          clean = h.carries.clean;
          sent = h.carries.sent;
          given = h.carries.given;
          forward = packet_queued v st b m h w;
          again = h.carries.again;
          sender = record {
            from = h.carries.sender.from;
            to = h.carries.sender.to;
            count = h.carries.sender.count;
            last = h.carries.sender.last;
            standing = h.carries.sender.standing;
            under_way = subst (λ y. IsUnderWay s.0 (Broadcast c) y st.queued st.sent) (sym e) (x, r);
          };
        };
        session = h.session;
      },
    )

    last_packet : (v : View) (st : Stream) (b : bam.Outgoing) (m : Pending) (ms : List Pending) → Sim s v st → v.lane.pending ≡ m ∷ ms → IsBroadcasting s.0 b m st.queued → ArePending m.number ms st.sent → Stands s (stepped_view v (over v.lane outcome.Broadcast (Some (next_packet b m.bytes))))
    last_packet v st b m ms h e w r = (
      stream.after (QueuePacket b.next) st,
      record {
        carries = record {
          reached = goes st (QueuePacket b.next) h.carries.reached tt;
          clean = h.carries.clean;
          sent = h.carries.sent;
          given = h.carries.given;
          forward = packet_queued v st b m h w;
          again = h.carries.again;
          sender = record {
            from = h.carries.sender.from;
            to = h.carries.sender.to;
            count = h.carries.sender.count;
            last = h.carries.sender.last;
            standing = rw h.carries.sender.to h.carries.sender.standing;
            under_way = rw (e, w.number) r;
          };
        };
        session = h.session;
      },
    )

    begins_so : (lane : Lane) (m : Pending) (now : ℕ) → lane.to ≡ 255 → begins lane m now ≡ begun_at lane m now
    begins_so lane m now h = ap (λ t. cond {A = Lane × LaneStep} (t == 255) (begun_at lane m now) (with_under_way lane (Connection (AwaitCts (connects (link_for lane.from t m) now).0)), says (connects (link_for lane.from t m) now).1)) h

    -- the lane is pumped, whatever comes of it
    pub pumps : (v : View) (now : ℕ) → Stands s v → Stands s (stepped_view v (pumped v.lane now))
    pumps v now (st, h) = go v.lane.under_way refl v.lane.pending refl
      where
        go : (u : UnderWay) → v.lane.under_way ≡ u → (ms : List Pending) → v.lane.pending ≡ ms → Stands s (stepped_view v (pumped_by u v.lane now))
        go Nothing u [] e = subst (λ x. Stands s (stepped_view v (idle_pumped x v.lane.pending v.lane now))) (sym h.carries.sender.standing) (subst (λ x. Stands s (stepped_view v (idle_pumped Settled x v.lane now))) (sym e) (same_stream v st v.lane h h.carries.sender))
        go Nothing u (m ∷ ms) e = subst (λ x. Stands s (stepped_view v (idle_pumped x v.lane.pending v.lane now))) (sym h.carries.sender.standing) (subst (λ x. Stands s (stepped_view v (idle_pumped Settled x v.lane now))) (sym e)
            (subst (λ x. Stands s (stepped_view v x)) (sym (begins_so v.lane m now h.carries.sender.to)) (begins_broadcast v st m ms now h u e)))
        go (Broadcast b) u [] e = absurd (is_under v st (Broadcast b) [] h u e)
        go (Broadcast b) u (m ∷ ms) e =
            let w : IsUnderWay s.0 (Broadcast b) (m ∷ ms) st.queued st.sent = is_under v st (Broadcast b) (m ∷ ms) h u e in
            subst (λ x. Stands s (stepped_view v (after_packet v.lane (sending.pumped b (front_bytes x) now)))) (sym e)
            (on_test (λ t. Stands s (stepped_view v (after_packet v.lane (cond (not t) (pumping.NotYet b) (cond (b.next == packet_count b.len) (pumping.Last (next_packet b m.bytes)) (pumping.On (bam.with_next b now) (next_packet b m.bytes))))))) (is_due b.gap now)
            (λ due. on_test (λ t. Stands s (stepped_view v (after_packet v.lane (cond t (pumping.Last (next_packet b m.bytes)) (pumping.On (bam.with_next b now) (next_packet b m.bytes)))))) (b.next == packet_count b.len)
            (λ last. last_packet v st b m ms h e w.0 w.1)
            (λ more. one_packet v st b (bam.with_next b now) m ms h e w.0 w.1
            (record { from = w.0.from; len = w.0.len; first = omega arith; last = below b.next (packet_count b.len) w.0.last (eqb-false b.next (packet_count b.len) more); number = w.0.number; message = w.0.message; offset = w.0.offset })))
            (λ soon. same_stream v st (with_under_way v.lane (Broadcast b)) h
            (record {
              from = h.carries.sender.from;
              to = h.carries.sender.to;
              count = h.carries.sender.count;
              last = h.carries.sender.last;
              standing = h.carries.sender.standing;
              under_way = subst (λ x. IsUnderWay s.0 x v.lane.pending st.queued st.sent) u h.carries.sender.under_way;
            })))
        go (Connection o) u ms e = absurd (is_under v st (Connection o) ms h u e)
