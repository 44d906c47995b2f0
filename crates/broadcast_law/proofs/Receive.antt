-- The receiver of messages to all: what its session makes of a BAM or of a packet is what the session of a stream makes of it.
use Rattle.std.proofs.Common.{◌≡◌, ◌⊎◌, inl, inr, ℕ, zero, suc, ◌+◌, ◌-◌, ◌≤◌, not, cond, List, [], ◌∷◌, ◌++◌, map, filter_map, length, drop, take, Option, Some, None, refl, sym, ap, ◌∙◌, subst, arith, append-nil, ltb-false, eqb-true}
use Rattle.std.specs.Prelude.{option_to_list, nat_lt}
use Rattle.std.proofs.lemmas.List.{map-append}
use Rattle.bus_frame.specs.Frames.{CanFrame}
use Rattle.pgn_ids.specs.Pgn.{clean}
use Rattle.pgn_ids.specs.declared.address.Address.{Address}
use Rattle.tp_wire.specs.declared.wire.Kind.TheVariants.{Tp}
use Rattle.tp_wire.specs.declared.wire.CmFrame.TheVariants.{Bam}
use Rattle.tp_wire.specs.declared.wire.Wire.{Wire}
use Rattle.tp_wire.specs.declared.wire.Wire.TheVariants.{Cm, Packet}
use Rattle.seg_cut.specs.Packets.{packet_count}
use Rattle.seg_cut.specs.Join.{joined, wants_last}
use Rattle.bam_session.specs.States as bam
use Rattle.bam_session.specs.Receiving.{Received, Awaits, Completes, Drops, received}
use Rattle.session_table.specs.declared.incoming.Incoming.{Incoming}
use Rattle.session_table.specs.declared.incoming.Incoming.TheVariants as incoming
use Rattle.station_sessions.specs.Opening.{whole_join}
use Rattle.segment_law.specs.Told as told
use Rattle.record_law.proofs.Lists.{take_more}
use Rattle.record_law.proofs.Tests.{on_test}
use Rattle.lane_law.specs.Message.{Message}
use Rattle.lane_law.specs.Frame.{Frame, Rts, Dpo, Packet as Data, Request as Asks}
use Rattle.lane_law.specs.Session.{Session, given_of, session_after}
use Rattle.lane_law.specs.Stream as stream
use Rattle.lane_law.specs.Stream.{Stream, Take, PassOver, Forget, EndSession, Reopen, Accept, Give}
use Rattle.broadcast_law.proofs.Carried.{carried}
use Rattle.broadcast_law.proofs.View.{View, wire_of, cleaned, IsSame, IsHeard, Carries, Sim, Stands, GoesOn}

-- what the step of a broadcast session leaves of it
abbrev pub left_of : Received → Option Incoming
left_of (Awaits t) = Some (incoming.Broadcast t)
left_of (Completes bytes) = None
left_of Drops = None

-- what may be given by it
abbrev pub MayTell : (pgn : ℕ) → Received → List told.Message → Type 0
MayTell pgn (Completes bytes) told = (told ≡ []) ⊎ (told ≡ (clean pgn, bytes) ∷ [])
MayTell pgn (Awaits t) told = told ≡ []
MayTell pgn Drops told = told ≡ []

module _ (s : Address) (goes : GoesOn) where
  with_session : (v : View) (st : Stream) (o : Option Incoming) → Carries s v st → Carries s (record v { session = o }) st
  with_session v st o h = record { reached = h.reached; clean = h.clean; sent = h.sent; given = h.given; forward = h.forward; again = h.again; sender = h.sender }

  -- the session ends, for whatever cause
  pub ends : (v : View) (st : Stream) → Carries s v st → Stands s (record v { session = None })
  ends v st h = (
    stream.after EndSession st,
    record {
      carries = record { reached = goes st EndSession h.reached tt; clean = h.clean; sent = h.sent; given = h.given; forward = h.forward; again = h.again; sender = h.sender };
      session = tt;
    },
  )

  abbrev told_more : View → Option Incoming → List told.Message → View
  told_more v o told = record v { session = o; given = v.given ++ told }

  none_more : (v : View) (o : Option Incoming) (told : List told.Message) → told ≡ [] → Stands s (record v { session = o }) → Stands s (told_more v o told)
  none_more v o told e h = subst (λ ts. Stands s (record v { session = o; given = ts })) (sym (ap (λ ts. v.given ++ ts) e ∙ append-nil v.given)) h

  accepts : (v : View) (st : Stream) (b : bam.Incoming) (x : Session) (k now : ℕ) (bytes : List ℕ) → Carries s v st → st.session ≡ Some x → st.again ≡ Data k bytes ∷ [] → IsSame s.0 b x → k ≡ b.join.next → Stands s (record v { session = Some (incoming.Broadcast (bam.accepted b bytes now)) })
  accepts v st b x k now bytes h e a z n = (
    stream.after (Accept x k bytes) st,
    record {
      carries = record { reached = goes st (Accept x k bytes) h.reached (a, e, omega (arith, z.offset, z.next)); clean = h.clean; sent = h.sent; given = h.given; forward = h.forward; again = h.again; sender = h.sender };
      session = record {
        from = z.from;
        pgn = z.pgn;
        size = z.size;
        next = ap (λ n. n + 1) z.next;
        bytes = (λ i. z.bytes i ++ take (z.size i - length (z.bytes i)) bytes) ∙ take_more x.size x.collected bytes;
        offset = z.offset;
      };
    },
  )

  gives : (v : View) (st : Stream) (b : bam.Incoming) (x : Session) (k : ℕ) (bytes : List ℕ) → Carries s v st → st.session ≡ Some x → st.again ≡ Data k bytes ∷ [] → IsSame s.0 b x → k ≡ b.join.next → b.join.next ≡ packet_count b.join.size → Stands s (told_more v None ((clean b.pgn, (joined b.join bytes).bytes) ∷ []))
  gives v st b x k bytes h e a z n l =
      let whole : (joined b.join bytes).bytes ≡ take x.size (x.collected ++ bytes) = (λ i. z.bytes i ++ take (z.size i - length (z.bytes i)) bytes) ∙ take_more x.size x.collected bytes in (
        stream.after (Give x k bytes) st,
        record {
          carries = record {
            reached = goes st (Give x k bytes) h.reached ((a, e, omega (arith, z.offset, z.next)), sym z.next ∙ l ∙ ap packet_count z.size);
            clean = h.clean;
            sent = h.sent;
            given = (λ i. h.given i ++ (clean (z.pgn i), whole i) ∷ []) ∙ sym (map-append cleaned st.given (given_of x bytes ∷ []));
            forward = h.forward;
            again = h.again;
            sender = h.sender;
          };
          session = tt;
        },
      )

  -- a packet is taken, or taken again, where there is a session
  pub packet_heard : (v : View) (st : Stream) (b : bam.Incoming) (x : Session) (k now : ℕ) (bytes : List ℕ) (told : List told.Message) → Carries s v st → st.session ≡ Some x → st.again ≡ Data k bytes ∷ [] → IsSame s.0 b x → MayTell b.pgn (received b k bytes now) told → Stands s (told_more v (left_of (received b k bytes now)) told)
  packet_heard v st b x k now bytes told h e a z =
      on_test (λ t. Goal (cond t (Awaits b) (cond (nat_lt b.join.next k) Drops last))) (nat_lt k b.join.next)
      (λ below m. none_more v (Some (incoming.Broadcast b)) told m (st, record { carries = with_session v st (Some (incoming.Broadcast b)) h; session = subst (λ o. IsHeard s.0 (Some (incoming.Broadcast b)) o) (sym e) z }))
      (λ not_below. on_test (λ t. Goal (cond t Drops last)) (nat_lt b.join.next k)
      (λ above m. none_more v None told m (ends v st h))
      (λ not_above. let n : k ≡ b.join.next = omega (arith, ltb-false k b.join.next not_below, ltb-false b.join.next k not_above) in
      on_test (λ t. Goal (cond (not t) (Awaits (bam.accepted b bytes now)) (Completes (joined b.join bytes).bytes))) (wants_last b.join)
      (λ is_last m. by_told n (eqb-true b.join.next (packet_count b.join.size) is_last) m)
      (λ more m. none_more v (Some (incoming.Broadcast (bam.accepted b bytes now))) told m (accepts v st b x k now bytes h e a z n))))
    where
      Goal : Received → Type 0
      Goal r = MayTell b.pgn r told → Stands s (told_more v (left_of r) told)

      last : Received
      last = cond (not (wants_last b.join)) (Awaits (bam.accepted b bytes now)) (Completes (joined b.join bytes).bytes)

      by_told : k ≡ b.join.next → b.join.next ≡ packet_count b.join.size → (told ≡ []) ⊎ (told ≡ (clean b.pgn, (joined b.join bytes).bytes) ∷ []) → Stands s (told_more v None told)
      by_told n l (inl none) = none_more v None told none (ends v st h)
      by_told n l (inr some) = subst (λ ts. Stands s (told_more v None ts)) (sym some) (gives v st b x k bytes h e a z n l)

  -- The next frame

  abbrev pub taken_from : View → CanFrame → List CanFrame → View
  taken_from v f rest = record v { ahead = rest; again = Some f }

  ahead_is : (v : View) (st : Stream) (f : CanFrame) (rest : List CanFrame) → Carries s v st → v.ahead ≡ f ∷ rest → filter_map (carried s) (f ∷ rest ++ v.queue) ≡ map wire_of st.forward
  ahead_is v st f rest h e = subst (λ fs. filter_map (carried s) (fs ++ v.queue) ≡ map wire_of st.forward) e h.forward

  -- one that carries nothing
  pub takes_other : (v : View) (st : Stream) (f : CanFrame) (rest : List CanFrame) → Sim s v st → v.ahead ≡ f ∷ rest → carried s f ≡ None → Stands s (taken_from v f rest)
  takes_other v st f rest h e c = (
    stream.after Forget st,
    record {
      carries = record {
        reached = goes st Forget h.carries.reached tt;
        clean = h.carries.clean;
        sent = h.carries.sent;
        given = h.carries.given;
        forward = let q : filter_map (carried s) (f ∷ rest ++ v.queue) ≡ map wire_of st.forward = ahead_is v st f rest h.carries e in rw c at q;
        again = rw c refl;
        sender = h.carries.sender;
      };
      session = h.session;
    },
  )

  -- one that carries something: it was taken last, and its session isn't known yet
  pub record Taken (v : View) (w : Wire) : Type 0 where
    pub frame : Frame
    pub stream : Stream
    pub shows : wire_of frame ≡ w
    pub carries : Carries s v stream
    pub again : stream.again ≡ frame ∷ []
    pub session : (k : ℕ) (bytes : List ℕ) → frame ≡ Data k bytes → IsHeard s.0 v.session stream.session

  pub takes_own : (v : View) (st : Stream) (f : CanFrame) (rest : List CanFrame) (w : Wire) → Sim s v st → v.ahead ≡ f ∷ rest → carried s f ≡ Some w → Taken (taken_from v f rest) w
  takes_own v st f rest w h e c = go st.forward refl (let q : filter_map (carried s) (f ∷ rest ++ v.queue) ≡ map wire_of st.forward = ahead_is v st f rest h.carries e in rw c at q)
    where
      go : (fs : List Frame) → st.forward ≡ fs → w ∷ filter_map (carried s) (rest ++ v.queue) ≡ map wire_of fs → Taken (taken_from v f rest) w
      go [] p q = absurd (cc)
      go (g ∷ gs) p q = record {
        frame = g;
        stream = stream.after (Take g gs) st;
        shows = cc;
        carries = record { reached = goes st (Take g gs) h.carries.reached p; clean = h.carries.clean; sent = h.carries.sent; given = h.carries.given; forward = cc; again = rw c (cc); sender = h.carries.sender };
        again = refl;
        session = λ k bytes is. subst (λ o. IsHeard s.0 v.session o) (sym (ap (λ x. session_after x st.session) is)) h.session;
      }

  -- the frame that may be taken again
  pub repeats : (v : View) (st : Stream) (f : CanFrame) (w : Wire) → Sim s v st → v.again ≡ Some f → carried s f ≡ Some w → Taken v w
  repeats v st f w h e c = go st.again refl (let q : filter_map (carried s) (option_to_list (Some f)) ≡ map wire_of st.again = subst (λ o. filter_map (carried s) (option_to_list o) ≡ map wire_of st.again) e h.carries.again in rw c at q)
    where
      go : (fs : List Frame) → st.again ≡ fs → w ∷ [] ≡ map wire_of fs → Taken v w
      go [] p q = absurd (cc)
      go (g ∷ []) p q = record { frame = g; stream = st; shows = cc; carries = h.carries; again = p; session = λ k bytes is. h.session }
      go (g ∷ k ∷ fs) p q = absurd (cc)

  -- a BAM is taken, or taken again, and opens a session
  pub bam_opens : (v : View) (st : Stream) (n : ℕ) (m : Message) (size pgn now : ℕ) → Carries s v st → st.again ≡ Rts n m ∷ [] → length m.bytes ≡ size → m.pgn ≡ pgn → Stands s (record v { session = Some (incoming.Broadcast (bam.announced s.0 pgn (whole_join size) now)) })
  bam_opens v st n m size pgn now h a l g = (
    stream.after (Reopen n m) st,
    record {
      carries = record { reached = goes st (Reopen n m) h.reached a; clean = h.clean; sent = h.sent; given = h.given; forward = h.forward; again = h.again; sender = h.sender };
      session = record { from = refl; pgn = sym g; size = sym l; next = refl; bytes = nothing (length m.bytes); offset = refl };
    },
  )
    where
      nothing : (n : ℕ) → [] ≡ take {A = ℕ} n []
      nothing zero = refl
      nothing (suc n) = refl

  -- An overrun of the receiver

  here : (v : View) (st : Stream) → Carries s v st → Stands s (record v { again = None; session = None })
  here v st h =
      let one : stream.IsReached (stream.after Forget st) = goes st Forget h.reached tt in (
        stream.after EndSession (stream.after Forget st),
        record {
          carries = record { reached = goes (stream.after Forget st) EndSession one tt; clean = h.clean; sent = h.sent; given = h.given; forward = h.forward; again = refl; sender = h.sender };
          session = tt;
        },
      )

  abbrev skipped : View → List CanFrame → View
  skipped v fs = record v { ahead = fs; again = None; session = None }

  skips_one : (f : CanFrame) (fs : List CanFrame) (v : View) (st : Stream) → Carries s v st → v.ahead ≡ f ∷ fs → (o : Option Wire) → carried s f ≡ o → (gs : List Frame) → st.forward ≡ gs → (st : Stream) × Carries s (record v { ahead = fs; again = None }) st
  skips_one f fs v st h e None c gs p =
      let q : filter_map (carried s) (f ∷ fs ++ v.queue) ≡ map wire_of st.forward = ahead_is v st f fs h e in
      (stream.after Forget st, record { reached = goes st Forget h.reached tt; clean = h.clean; sent = h.sent; given = h.given; forward = rw c at q; again = refl; sender = h.sender })
  skips_one f fs v st h e (Some w) c [] p =
      let q : filter_map (carried s) (f ∷ fs ++ v.queue) ≡ map wire_of st.forward = ahead_is v st f fs h e in
      let r : w ∷ filter_map (carried s) (fs ++ v.queue) ≡ map wire_of st.forward = rw c at q in
      absurd (let t : w ∷ filter_map (carried s) (fs ++ v.queue) ≡ [] = r ∙ ap (λ xs. map wire_of xs) p in cc)
  skips_one f fs v st h e (Some w) c (g ∷ gs) p =
      let q : filter_map (carried s) (f ∷ fs ++ v.queue) ≡ map wire_of st.forward = ahead_is v st f fs h e in
      let r : w ∷ filter_map (carried s) (fs ++ v.queue) ≡ map wire_of st.forward = rw c at q in
      let t : w ∷ filter_map (carried s) (fs ++ v.queue) ≡ wire_of g ∷ map wire_of gs = r ∙ ap (λ xs. map wire_of xs) p in
      (stream.after (PassOver g gs) st, record { reached = goes st (PassOver g gs) h.reached p; clean = h.clean; sent = h.sent; given = h.given; forward = cc; again = refl; sender = h.sender })

  skips_all : (n : ℕ) (fs : List CanFrame) → n ≤ length fs → (v : View) (st : Stream) → Carries s v st → v.ahead ≡ fs → Stands s (skipped v (drop n fs))
  skips_all zero fs l v st h e = subst (λ xs. Stands s (skipped v xs)) e (here v st h)
  skips_all (suc n) [] l v st h e = absurd (omega arith)
  skips_all (suc n) (f ∷ fs) l v st h e =
      let one : (st : Stream) × Carries s (record v { ahead = fs; again = None }) st = skips_one f fs v st h e (carried s f) refl st.forward refl in
      skips_all n fs (omega arith) (record v { ahead = fs; again = None }) one.0 one.1 refl

  pub skips : (n : ℕ) (v : View) (st : Stream) → Sim s v st → n ≤ length v.ahead → Stands s (skipped v (drop n v.ahead))
  skips n v st h l = skips_all n v.ahead l v st h.carries refl

-- which frame shows a packet, and which a BAM
pub packet_shown : (g : Frame) (k : ℕ) (bytes : List ℕ) → wire_of g ≡ Packet Tp k bytes → g ≡ Data k bytes
packet_shown (Rts n m) k bytes e = absurd (cc)
packet_shown (Dpo o) k bytes e = absurd (cc)
packet_shown (Data j b) k bytes e = cc
packet_shown (Asks t) k bytes e = absurd (cc)

pub record ShowsBam (g : Frame) (size pgn : ℕ) : Type 0 where
  pub number : ℕ
  pub message : Message
  pub frame : g ≡ Rts number message
  pub length_is : length message.bytes ≡ size
  pub pgn_is : message.pgn ≡ pgn

pub bam_shown : (g : Frame) (size packets pgn : ℕ) → wire_of g ≡ Cm (Bam size packets pgn) → ShowsBam g size pgn
bam_shown (Rts n m) size packets pgn e = record { number = n; message = m; frame = refl; length_is = cc; pgn_is = cc }
bam_shown (Dpo o) size packets pgn e = absurd (cc)
bam_shown (Data j b) size packets pgn e = absurd (cc)
bam_shown (Asks t) size packets pgn e = absurd (cc)
