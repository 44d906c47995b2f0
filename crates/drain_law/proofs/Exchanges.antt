-- A drain runs the exchange of a message to its end, as a drive does: windows, in each its packets, and then the end acknowledgement.
use Rattle.std.proofs.Common.{◌≡◌, ℕ, zero, suc, ◌+◌, ◌-◌, ◌<◌, ◌≤◌, ◌^◌, nat_lt, nat_le, true, false, List, [], ◌∷◌, ◌++◌, length, Some, None, refl, sym, ap, ◌∙◌, subst, arith}
use Rattle.std.specs.FinMap as finmap
use Rattle.std.proofs.lemmas.List.{append-nil, append_assoc, length-append, length-map}
use Rattle.std.proofs.lemmas.List.FromFn.{length-map-range_with_len}
use Rattle.std.proofs.lemmas.Bool.{le-leb, lt-leb, ltb-true, and_parts}
use Rattle.bus_frame.specs.Frames.{CanFrame}
use Rattle.tp_wire.specs.declared.outcome.Outcome.TheVariants as outcome
use Rattle.tp_wire.specs.declared.wire.Kind.{Kind}
use Rattle.tp_wire.specs.declared.wire.Kind.TheVariants.{Tp, Etp}
use Rattle.tp_wire.specs.declared.wire.CmFrame.TheVariants.{EtpDpo}
use Rattle.tp_wire.specs.declared.wire.Wire.TheVariants.{Cm}
use Rattle.tick_timers.specs.Timers.{Timer}
use Rattle.originator.specs.Link.{request_to_send}
use Rattle.originator.specs.Pump as out
use Rattle.originator.specs.States as states
use Rattle.originator.specs.Readers.{without_window}
use Rattle.originator.specs.declared.states.OutState.{OutState}
use Rattle.originator.specs.declared.states.OutState.TheVariants.{Sending}
use Rattle.responder.specs.Window.{clear_to_send}
use Rattle.session_table.specs.Key.{session_for}
use Rattle.session_table.specs.declared.TheConstants.{MAX_SESSIONS}
use Rattle.session_table.specs.declared.key.Key.{Key}
use Rattle.session_table.specs.declared.incoming.Incoming.{Incoming}
use Rattle.message_events.specs.declared.event.Event.{Event}
use Rattle.message_events.specs.declared.event.Event.TheVariants as event
use Rattle.station_sessions.specs.Opening.{key_of, others_than}
use Rattle.station_sessions.specs.Receiving.{Inbound, Reception, received}
use Rattle.station_core.specs.Station.{StationStep, by_session}
use Rattle.station_core.specs.Taking.{wire_taken}
use Rattle.segment_law.specs.Segment.{Segment}
use Rattle.segment_law.specs.Quiet.{given_by, takers}
use Rattle.exchange_law.proofs.Nodes.{IsBetween}
use Rattle.exchange_law.proofs.Senders.{Sent, s, d, last, len, link, awaits, awaits_end, window, since, ready, going, over_with, rts, begins, lanes_with, sends, end_of, cts_taken, end_taken}
use Rattle.exchange_law.proofs.Receivers.{Welcome, key, hears, sessions_with, key_is}
use Rattle.exchange_law.proofs.Rows.{Laws, rts_between, cts_between, end_between, dpo_between, packet_wire, packet_between}
use Rattle.exchange_law.proofs.Sessions.{widest, grant, cts, ending, IsAt, tp_announced, Goes, Gives, opens, announces as announces_window, mid, next_window, ends}
use Rattle.exchange_law.proofs.Windows.{IsOwing, owed_at, state_at}
use Rattle.exchange_law.proofs.Exchanges as quiet
use Rattle.drain_law.proofs.Turns.{Stands, IsLowest, pumped, back}
use Rattle.drain_law.proofs.Sessions.{received_ends}
use Rattle.drain_law.proofs.Windows.{Moved, sender_turn}

module _ (laws : Laws) (e : Sent) (h : Welcome e) (L now : ℕ) (begin : Segment) (low : IsLowest e.pair L now begin) where
  abbrev given : List Event
  given = given_by e.pair.ys e.m (s e) (d e)

  abbrev pub told : List Event
  told = given ++ event.Outcome (s e) (d e) e.m.number outcome.Acknowledged ∷ []

  abbrev packets : (k p count : ℕ) → List CanFrame
  packets k p count = out.packet_frames (link e) k e.m.bytes p count

  abbrev reach : ℕ → ℕ
  reach k = quiet.reach laws e h L now k

  abbrev opened : ℕ → states.Sending
  opened k = quiet.opened laws e h L now k

  abbrev left : (windows k : ℕ) → List CanFrame
  left n k = quiet.left laws e h L now n k

  abbrev Tiles : (windows k : ℕ) → Type 0
  Tiles n k = quiet.Tiles laws e h L now n k

  -- the receiver has the message, and no longer the session
  abbrev pub sessions_after : Incoming → Inbound
  sessions_after x = finmap.remove (sessions_with e e.kind x) (key e e.kind)

  record EndPending (t : ℕ) (fs : List CanFrame) : Type 0 where
    state : Incoming
    timer : Timer
    stands : Stands e.pair L now begin (sends e [] (lanes_with e (going e (awaits_end e timer)))) (hears e (ending e e.kind ∷ []) (sessions_after state)) t fs given

  -- the receiver's CTS for the window from packet k on is queued
  record CtsPending (k t : ℕ) (fs : List CanFrame) : Type 0 where
    state : Incoming
    timer : Timer
    at : IsAt e e.kind false k (reach k) k state
    stands : Stands e.pair L now begin (sends e [] (lanes_with e (going e (awaits e k timer)))) (hears e (cts e e.kind k ∷ []) (sessions_with e e.kind state)) t fs []

  abbrev Pending : (windows k t : ℕ) → List CanFrame → Type 0
  Pending zero k t fs = EndPending t fs
  Pending (suc n) k t fs = CtsPending k t fs

  -- the packet that completes the message ends the session
  packet_step : (k p : ℕ) (x : Incoming) → wire_taken (hears e [] (sessions_with e e.kind x)) (packet_wire laws e e.kind k p) (s e) (d e) true now
      ≡ by_session (hears e [] (sessions_with e e.kind x)) (received e.pair.ys.ports (key e e.kind) (packet_wire laws e e.kind k p) true now (sessions_with e e.kind x))
  packet_step k p x = ap (λ (q : Key). by_session (hears e [] (sessions_with e e.kind x)) (received e.pair.ys.ports q (packet_wire laws e e.kind k p) true now (sessions_with e e.kind x))) (key_is e e.kind)

  some_given : 0 < length given
  some_given =
      let takers_some : nat_lt 0 (length (takers e.pair.ys e.m)) ≡ true = (and_parts (nat_lt 0 (length (takers e.pair.ys e.m))) (nat_lt (others_than e.pair.ys.sessions (key_of (s e) (session_for e.kind))) MAX_SESSIONS) h.place).0 in
      let long : 0 < length (takers e.pair.ys e.m) = ltb-true 0 (length (takers e.pair.ys e.m)) takers_some in
      let same : length given ≡ length (takers e.pair.ys e.m) = length-map (takers e.pair.ys e.m) (λ number. event.Given (record { station = e.pair.ys.address; number = number }) (s e) (d e) e.m.pgn e.m.bytes) in
      omega (arith, long, same)

  whole_ends : (k p : ℕ) (x : Incoming) (step : Gives e e.kind (wire_taken (hears e [] (sessions_with e e.kind x)) (packet_wire laws e e.kind k p) (s e) (d e) true now)) → step.sessions ≡ sessions_after x
  whole_ends k p x step =
      let r : Reception = received e.pair.ys.ports (key e e.kind) (packet_wire laws e e.kind k p) true now (sessions_with e e.kind x) in
      let is : by_session (hears e [] (sessions_with e e.kind x)) r ≡ record { station = hears e (ending e e.kind ∷ []) step.sessions; events = given } = sym (packet_step k p x) ∙ step.is in
      let events : r.events ≡ given = ap (λ (z : StationStep). z.events) is in
      let some : 0 < length r.events = subst (λ (es : List Event). 0 < length es) (sym events) some_given in
      sym (ap (λ (z : StationStep). z.station.sessions) is) ∙ received_ends e.pair.ys.ports (key e e.kind) (packet_wire laws e e.kind k p) true now (sessions_with e e.kind x) some

  -- the message has its outcome
  pub record Finished (t : ℕ) (fs : List CanFrame) : Type 0 where
    pub state : Incoming
    pub stands : Stands e.pair L now begin (sends e [] (lanes_with e (over_with e))) (hears e [] (sessions_after state)) t fs told

  -- these frames are put, and then it has
  abbrev RunsOut : List CanFrame → ℕ → List CanFrame → Type 0
  RunsOut more t fs = Finished (t + length more) (fs ++ more)

  abbrev HasRoom : ℕ → List CanFrame → Type 0
  HasRoom t more = L + (t + length more) < 2 ^ 64

  none_more : (t : ℕ) (fs : List CanFrame) → Finished t fs → RunsOut [] t fs
  none_more t fs f =
      let n : t ≡ t + 0 = omega arith in
      subst (λ (z : ℕ × List CanFrame). Finished z.0 z.1) (λ i. (n i, sym (append-nil fs) i)) f

  one_turn : (f : CanFrame) (more : List CanFrame) (t : ℕ) (fs : List CanFrame) → RunsOut more (t + 1) (fs ++ f ∷ []) → RunsOut (f ∷ more) t fs
  one_turn f more t fs r =
      let n : t + 1 + length more ≡ t + length (f ∷ more) = omega arith in
      subst (λ (z : ℕ × List CanFrame). Finished z.0 z.1) (λ i. (n i, append_assoc fs (f ∷ []) more i)) r

  -- ---- the end acknowledgement

  end_runs : (t : ℕ) (fs : List CanFrame) → HasRoom t (ending e e.kind ∷ []) → EndPending t fs → RunsOut (ending e e.kind ∷ []) t fs
  end_runs t fs room p = one_turn (ending e e.kind) [] t fs (none_more (t + 1) (fs ++ ending e e.kind ∷ []) (record {
    state = p.state;
    stands = back e.pair L now begin (Cm (end_of e.kind (len e) e.m.pgn)) (ending e e.kind) (end_between laws e e.kind) [] (lanes_with e (going e (awaits_end e p.timer))) (lanes_with e (over_with e)) (sessions_after p.state)
        (event.Outcome (s e) (d e) e.m.number outcome.Acknowledged ∷ []) (end_taken e p.timer now) t fs given p.stands (omega (arith, room));
  }))

  -- ---- the packets of a window

  module _ (k : ℕ) (from_first : 1 ≤ k) (within : reach k ≤ last e) where
    abbrev g : ℕ
    g = grant e e.kind k

    abbrev u : ℕ
    u = reach k

    abbrev Owing : List CanFrame → OutState → List CanFrame → Type 0
    Owing q o owed = IsOwing e L now k g u q o owed

    record IsSpent (q : List CanFrame) (o : OutState) : Type 0 where
      empty : q ≡ []
      state : o ≡ without_window (link e) (u + 1) 0 (since e now)

    -- where nothing is owed, the window is over
    spent : (q : List CanFrame) (o : OutState) → Owing q o [] → IsSpent q o
    spent q o w = by q w.left refl (w.is)
      where
        some : (n : ℕ) → 1 ≤ length (owed_at e L now k g u w.a w.announced (suc n))
        some n =
            let a : length (owed_at e L now k g u w.a w.announced (suc n)) ≡ length (out.announcement e.kind (window e k g u w.a w.announced)) + length (packets k w.a (suc n)) = length-append (out.announcement e.kind (window e k g u w.a w.announced)) (packets k w.a (suc n)) in
            let b : length (packets k w.a (suc n)) ≡ suc n = length-map-range_with_len (out.packet_frame (link e) k e.m.bytes) w.a (suc n) in
            omega (arith, a, b)

        by : (z : List CanFrame) (n : ℕ) → w.left ≡ n → z ++ owed_at e L now k g u w.a w.announced w.left ≡ [] → IsSpent z o
        by [] zero none is =
            let a : w.a ≡ u + 1 = omega (arith, w.sum, none) in
            record { empty = refl; state = w.state ∙ ap (state_at e L now k g u w.a w.announced) none ∙ ap (λ n. without_window (link e) n 0 (since e now)) a }
        by [] (suc n) more is = absurd (let x : length (owed_at e L now k g u w.a w.announced (suc n)) ≡ 0 = ap (λ (fs : List CanFrame). length fs) (ap (owed_at e L now k g u w.a w.announced) (sym more) ∙ is) in omega (arith, x, some n))
        by (f ∷ z) n left is = absurd (let x : length (f ∷ (z ++ owed_at e L now k g u w.a w.announced w.left)) ≡ 0 = ap (λ (fs : List CanFrame). length fs) is in omega (arith, x))

    abbrev frame : ℕ → CanFrame
    frame p = out.packet_frame (link e) k e.m.bytes p

    module _ (p : ℕ) (from_window : k ≤ p) (granted : p ≤ u) (q : List CanFrame) (o : OutState) (x : Incoming) (at : IsAt e e.kind true k u p x) (t : ℕ) (fs : List CanFrame)
        (stands : Stands e.pair L now begin (sends e q (lanes_with e (going e o))) (hears e [] (sessions_with e e.kind x)) t fs []) (room : L + t + 1 < 2 ^ 64) where
      abbrev said : IsBetween (s e) (d e) (packet_wire laws e e.kind k p) (frame p)
      said = packet_between laws e e.kind k p from_first from_window (omega (arith, granted, within))

      -- the last packet of the window
      ends_window : (n : ℕ) → p ≡ u → Tiles n (u + 1) → Owing q o (frame p ∷ []) → Pending n (u + 1) (t + 1) (fs ++ frame p ∷ [])
      ends_window zero end tiles w =
          let step : Gives e e.kind (wire_taken (hears e [] (sessions_with e e.kind x)) (packet_wire laws e e.kind k p) (s e) (d e) true now) = ends e laws h k u p from_first from_window granted within e.kind refl x at now end (omega (arith, tiles)) in
          let none : step.sessions ≡ sessions_after x = whole_ends k p x step in
          let takes : wire_taken (hears e [] (sessions_with e e.kind x)) (packet_wire laws e e.kind k p) (s e) (d e) true now ≡ record { station = hears e (ending e e.kind ∷ []) (sessions_after x); events = given } =
          step.is ∙ ap (λ (m : Inbound). (let r : StationStep = record { station = hears e (ending e e.kind ∷ []) m; events = given } in r)) none in
          let moved : Moved e L now k g u begin low q o (frame p) [] (ending e e.kind ∷ []) (sessions_after x) t fs given = sender_turn e L now k g u begin low q o (packet_wire laws e e.kind k p) (frame p) [] w said (ending e e.kind ∷ []) (sessions_with e e.kind x) (sessions_after x) given takes t fs [] stands room in
          let spent_now : IsSpent moved.q' moved.o' = spent moved.q' moved.o' moved.owing in
          let all : nat_le (u + 1) (last e) ≡ false = lt-leb (u + 1) (last e) (omega (arith, tiles)) in
          let state : moved.o' ≡ awaits_end e (since e now) = spent_now.state ∙ rw all refl in
          record {
            state = x;
            timer = since e now;
            stands = subst (λ (z : List CanFrame × OutState). Stands e.pair L now begin (sends e z.0 (lanes_with e (going e z.1))) (hears e (ending e e.kind ∷ []) (sessions_after x)) (t + 1) (fs ++ frame p ∷ []) given) (λ i. (spent_now.empty i, state i)) moved.stands;
          }
      ends_window (suc n) end tiles w =
          let more : u < last e = (let y : u + 1 ≤ last e = tiles.0 in omega (arith, y)) in
          let step : Goes e e.kind (cts e e.kind (p + 1) ∷ []) false (p + 1) (p + 1 - 1 + grant e e.kind (p + 1)) (p + 1) _ = next_window e laws h k u p from_first from_window granted within e.kind refl x at now end more in
          let moved : Moved e L now k g u begin low q o (frame p) [] (cts e e.kind (p + 1) ∷ []) (sessions_with e e.kind step.state) t fs [] =
          sender_turn e L now k g u begin low q o (packet_wire laws e e.kind k p) (frame p) [] w said (cts e e.kind (p + 1) ∷ []) (sessions_with e e.kind x) (sessions_with e e.kind step.state) [] step.is t fs [] stands room in
          let spent_now : IsSpent moved.q' moved.o' = spent moved.q' moved.o' moved.owing in
          let not_all : nat_le (u + 1) (last e) ≡ true = le-leb (u + 1) (last e) tiles.0 in
          let state : moved.o' ≡ awaits e (p + 1) (since e now) = spent_now.state ∙ rw not_all refl ∙ ap (λ n. awaits e (n + 1) (since e now)) (sym end) in
          let pending : CtsPending (p + 1) (t + 1) (fs ++ frame p ∷ []) = record {
            state = step.state;
            timer = since e now;
            at = step.at;
            stands = subst (λ (z : List CanFrame × OutState). Stands e.pair L now begin (sends e z.0 (lanes_with e (going e z.1))) (hears e (cts e e.kind (p + 1) ∷ []) (sessions_with e e.kind step.state)) (t + 1) (fs ++ frame p ∷ []) []) (λ i. (spent_now.empty i, state i)) moved.stands;
          } in
          subst (λ n. CtsPending (n + 1) (t + 1) (fs ++ frame p ∷ [])) end pending

    -- from packet p on
    loop : (n count p : ℕ) → k ≤ p → p + suc count ≡ u + 1 → Tiles n (u + 1) → (q : List CanFrame) (o : OutState) → Owing q o (packets k p (suc count)) → (x : Incoming) → IsAt e e.kind true k u p x
        → (more : List CanFrame) (t : ℕ) (fs : List CanFrame) → Stands e.pair L now begin (sends e q (lanes_with e (going e o))) (hears e [] (sessions_with e e.kind x)) t fs []
        → HasRoom t (packets k p (suc count) ++ more) → ((t' : ℕ) (fs' : List CanFrame) → HasRoom t' more → Pending n (u + 1) t' fs' → RunsOut more t' fs') → RunsOut (packets k p (suc count) ++ more) t fs
    loop n zero p from_window sum tiles q o w x at more t fs stands room next =
        let granted : p ≤ u = omega (arith, sum) in
        let end : p ≡ u = omega (arith, sum) in
        one_turn (frame p) more t fs (next (t + 1) (fs ++ frame p ∷ []) (omega (arith, room)) (ends_window p from_window granted q o x at t fs stands (omega (arith, room)) n end tiles w))
    loop n (suc count) p from_window sum tiles q o w x at more t fs stands room next =
        let granted : p ≤ u = omega (arith, sum) in
        let step : Goes e e.kind [] true k u (p + 1) _ = mid e laws h k u p from_first from_window granted within e.kind refl x at now (omega (arith, sum)) in
        let moved : Moved e L now k g u begin low q o (frame p) (packets k (p + 1) (suc count)) [] (sessions_with e e.kind step.state) t fs [] =
        sender_turn e L now k g u begin low q o (packet_wire laws e e.kind k p) (frame p) (packets k (p + 1) (suc count)) w (packet_between laws e e.kind k p from_first from_window (omega (arith, granted, within))) [] (sessions_with e e.kind x) (sessions_with e e.kind step.state) [] step.is t fs [] stands (omega (arith, room)) in
        one_turn (frame p) (packets k (p + 1) (suc count) ++ more) t fs
        (loop n count (p + 1) (omega (arith, from_window)) (omega (arith, sum)) tiles moved.q' moved.o' moved.owing step.state step.at more (t + 1) (fs ++ frame p ∷ []) moved.stands (omega (arith, room)) next)

    -- from the DPO on, where there is one
    announces : (kind : Kind) → e.kind ≡ kind → (n count : ℕ) → k + suc count ≡ u + 1 → Tiles n (u + 1) → (x : Incoming) → IsAt e kind false k u k x
        → Owing [] (Sending (opened k)) (out.announcement kind (opened k) ++ packets k k (suc count))
        → (more : List CanFrame) (t : ℕ) (fs : List CanFrame) → Stands e.pair L now begin (sends e [] (lanes_with e (going e (Sending (opened k))))) (hears e [] (sessions_with e kind x)) t fs []
        → HasRoom t ((out.announcement kind (opened k) ++ packets k k (suc count)) ++ more) → ((t' : ℕ) (fs' : List CanFrame) → HasRoom t' more → Pending n (u + 1) t' fs' → RunsOut more t' fs')
        → RunsOut ((out.announcement kind (opened k) ++ packets k k (suc count)) ++ more) t fs
    announces Tp is n count sum tiles x at w more t fs stands room next =
        loop n count k (omega arith) sum tiles [] (Sending (opened k)) w x (subst (λ (kind : Kind). IsAt e kind true k u k x) (sym is) (tp_announced e k u k x at)) more t fs
        (subst (λ (kind : Kind). Stands e.pair L now begin (sends e [] (lanes_with e (going e (Sending (opened k))))) (hears e [] (sessions_with e kind x)) t fs []) (sym is) stands) room next
    announces Etp is n count sum tiles x at w more t fs stands room next =
        let granted : k ≤ u = omega (arith, sum) in
        let dpo : CanFrame = out.dpo_frame (opened k) in
        let step : Goes e Etp [] true k u k _ = announces_window e laws h k u x at now from_first granted in
        let moved : Moved e L now k g u begin low [] (Sending (opened k)) dpo (packets k k (suc count)) [] (sessions_with e Etp step.state) t fs [] =
        sender_turn e L now k g u begin low [] (Sending (opened k)) (Cm (EtpDpo (u + 1 - k) (k - 1) e.m.pgn)) dpo (packets k k (suc count)) w (dpo_between laws e (u + 1 - k) (k - 1) (omega (arith, granted, within))) [] (sessions_with e Etp x) (sessions_with e Etp step.state) [] step.is t fs [] stands (omega (arith, room)) in
        one_turn dpo (packets k k (suc count) ++ more) t fs
        (loop n count k (omega arith) sum tiles moved.q' moved.o' moved.owing step.state (subst (λ (kind : Kind). IsAt e kind true k u k step.state) (sym is) step.at) more (t + 1) (fs ++ dpo ∷ [])
        (subst (λ (kind : Kind). Stands e.pair L now begin (sends e moved.q' (lanes_with e (going e moved.o'))) (hears e [] (sessions_with e kind step.state)) (t + 1) (fs ++ dpo ∷ []) []) (sym is) moved.stands) (omega (arith, room)) next)

    -- from the CTS on
    window_runs : (n count : ℕ) → g ≡ suc count → k ≤ last e → Tiles n (u + 1) → (more : List CanFrame) (t : ℕ) (fs : List CanFrame) → CtsPending k t fs
        → HasRoom t (cts e e.kind k ∷ (out.announcement e.kind (opened k) ++ packets k k g) ++ more) → ((t' : ℕ) (fs' : List CanFrame) → HasRoom t' more → Pending n (u + 1) t' fs' → RunsOut more t' fs')
        → RunsOut (cts e e.kind k ∷ (out.announcement e.kind (opened k) ++ packets k k g) ++ more) t fs
    window_runs n count some in_message tiles more t fs p room next =
        let one : 1 ≤ g = omega (arith, some) in
        let sum : k + suc count ≡ u + 1 = omega (arith, some, from_first) in
        let f : CanFrame = cts e e.kind k in
        let taken : Stands e.pair L now begin (sends e [] (lanes_with e (going e (Sending (opened k))))) (hears e [] (sessions_with e e.kind p.state)) (t + 1) (fs ++ f ∷ []) [] =
        back e.pair L now begin (Cm (clear_to_send e.kind g k e.m.pgn)) f (cts_between laws e e.kind g k in_message) [] (lanes_with e (going e (awaits e k p.timer))) (lanes_with e (going e (Sending (opened k)))) (sessions_with e e.kind p.state) []
        (cts_taken e k g u p.timer now one from_first in_message refl within) t fs [] p.stands (omega (arith, room)) in
        let owing : Owing [] (Sending (opened k)) (out.announcement e.kind (opened k) ++ packets k k (suc count)) = record { a = k; left = suc count; announced = false; state = refl; sum = sum; short = omega arith; is = refl } in
        let room_next : HasRoom (t + 1) ((out.announcement e.kind (opened k) ++ packets k k (suc count)) ++ more) =
        subst (λ (c : ℕ). HasRoom (t + 1) ((out.announcement e.kind (opened k) ++ packets k k c) ++ more)) some (omega (arith, room)) in
        one_turn f ((out.announcement e.kind (opened k) ++ packets k k g) ++ more) t fs
        (subst (λ (c : ℕ). RunsOut ((out.announcement e.kind (opened k) ++ packets k k c) ++ more) (t + 1) (fs ++ f ∷ [])) (sym some)
        (announces e.kind refl n count sum tiles p.state p.at owing more (t + 1) (fs ++ f ∷ []) taken room_next next))

  -- ---- all windows

  most_some : (kind : Kind) → 1 ≤ widest kind
  most_some Tp = omega arith
  most_some Etp = omega arith

  -- from the CTS of a window, or the end acknowledgement, to the end
  runs : (n k : ℕ) → 1 ≤ k → Tiles n k → (t : ℕ) (fs : List CanFrame) → HasRoom t (left n k) → Pending n k t fs → RunsOut (left n k) t fs
  runs zero k from_first tiles t fs room p = end_runs t fs room p
  runs (suc n) k from_first tiles t fs room p =
      let some : 1 ≤ grant e e.kind k = omega (arith, tiles.0, most_some e.kind) in
      let within : reach k ≤ last e = omega (arith, tiles.0, from_first) in
      let count : grant e e.kind k ≡ suc (grant e e.kind k - 1) = omega (arith, some) in
      window_runs k from_first within n (grant e e.kind k - 1) count tiles.0 tiles.1 (left n (reach k + 1)) t fs p room
      (λ t' fs' room' p'. runs n (reach k + 1) (omega arith) tiles.1 t' fs' room' p')

  -- from the RTS on
  pub exchange_runs : (n : ℕ) → Tiles (suc n) 1 → Stands e.pair L now begin (sends e [] (lanes_with e (ready e))) (hears e [] e.pair.ys.sessions) 0 [] [] → HasRoom 0 (rts e ∷ left (suc n) 1) → RunsOut (rts e ∷ left (suc n) 1) 0 []
  exchange_runs n tiles stands room =
      let step : Goes e e.kind (cts e e.kind 1 ∷ []) false 1 (1 - 1 + grant e e.kind 1) 1 _ = opens e laws h e.kind refl now in
      one_turn (rts e) (left (suc n) 1) 0 [] (runs (suc n) 1 (omega arith) tiles (0 + 1) (rts e ∷ []) (omega (arith, room)) (record {
        state = step.state;
        timer = since e now;
        at = step.at;
        stands = pumped e.pair L now begin (Cm (request_to_send e.kind (len e) e.m.pgn)) (rts e) (rts_between laws e e.kind) low [] (cts e e.kind 1 ∷ []) (ready e) (going e (awaits e 1 (since e now))) e.pair.ys.sessions (sessions_with e e.kind step.state) []
            (omega arith) refl (begins e now) step.is 0 [] [] stands (omega (arith, room));
      }))
