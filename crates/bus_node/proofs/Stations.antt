-- What the station is after a call on it, and what is told of that.
use Rattle.std.proofs.Common.{◌≡◌, ℕ, ◌-◌, ◌≤◌, max, arith, subst, Bool, true, false, List, [], ◌∷◌, ◌++◌, Option, Some, None, Ok, Err, IsOk, refl, sym, ap, ◌∙◌}
use Rattle.std.specs.Prelude.{Result, codes, if◌then◌else◌}
use Rattle.std.proofs.lemmas.List.{append-nil}
use Rattle.bus_frame.specs.Frames.{CanFrame}
use Rattle.message_events.specs.declared.event.Event.{Event}
use Rattle.script_text.specs.Parts.{line}
use Rattle.script_text.specs.Replies.{reply_line}
use Rattle.segment_law.specs.Calls.{replied as replied_on, applied, events_of}
use Rattle.segment_law.specs.Calls.{called as called_on}
use Rattle.segment_law.specs.declared.call.Call.{Call}
use Rattle.segment_law.specs.declared.call.Call.TheVariants.{Tick}
use Rattle.segment_law.specs.declared.refusal.Refusal.{Refusal}
use Rattle.segment_law.specs.declared.reply.Reply.{Reply}
use Rattle.segment_law.specs.declared.reply.Reply.TheVariants as replies
use Rattle.one_station.specs.Node.{Node as Station, Did, makes}
use Rattle.one_station.specs.Answers.{IsStopped, IsAnswered, IsMissed, EndsFirst, IsReady, IsUndone, IsReadyAndFed, IsSent, feed_refusal}
use Rattle.one_station.specs.declared.error.NodeError.{NodeError}
use Rattle.one_station.specs.declared.error.NodeError.TheVariants.{Refused, ClockPassed, Starting, OutOfMemory}
use Rattle.one_station.specs.declared.error.Fed.TheVariants.{Taken}
use Rattle.one_station.specs.declared.error.Missed.TheVariants as ends
use Rattle.bus_node.specs.Node.{Node, with_station, answered, called, asked}
use Rattle.bus_node.specs.Stations.{missed, ready, sent, sent_by, fed, fed_by}
use Rattle.bus_node.specs.Answers.{replied, IsTold, IsReplied, IsRefused}

-- a call that is refused does nothing
refused_makes : (s : Station) (call : Call) (cause : Refusal) → called_on s.segment call ≡ Err cause → s ≡ makes s call
refused_makes s call cause is =
    (λ k. record s { events = sym (append-nil s.events) k })
    ∙ (λ k. record s { segment = (replied_on s.segment (sym is k)).0; events = s.events ++ events_of (replied_on s.segment (sym is k)).1 })

-- a call of which no more is told than what it told
pub told_call : (n : Node) (call : Call) (after : Station) (made : Result (Unit {0}) NodeError) (m : Node) → IsAnswered n.station call after made → IsTold (record n { station = after }) made m → m ≡ called n call
unfolding called
told_call n call after (Ok done) m (ok, did) t = t ∙ ap (with_station n) did.node
told_call n call after (Err (Refused cause)) m (is, same) t = t ∙ ap (with_station n) (same ∙ refused_makes n.station call cause is)
told_call n call after (Err ClockPassed) m a t = absurd t
told_call n call after (Err (Starting tick)) m a t = absurd t
told_call n call after (Err OutOfMemory) m a t = absurd t

-- the clock goes on to a tick, or stands where it is
pub told_clock : (n : Node) (tick come_to : ℕ) (after : Station) (made : Result (Unit {0}) NodeError) (m : Node) → come_to ≡ max tick n.station.segment.now
    → (n.station.segment.now ≤ come_to → IsAnswered n.station (Tick (come_to - n.station.segment.now)) after made) → IsTold (record n { station = after }) made m → m ≡ called n (Tick (tick - n.station.segment.now))
told_clock n tick come_to after made m is answers t =
    let same : come_to - n.station.segment.now ≡ tick - n.station.segment.now = omega (arith, is) in
    let on : n.station.segment.now ≤ come_to = omega (arith, is) in
    told_call n (Tick (tick - n.station.segment.now)) after made m (subst (λ (k : ℕ). IsAnswered n.station (Tick k) after made) same (answers on)) t

-- a call whose reply is told
pub told_reply : (n : Node) (call : Call) (after : Station) (reply : Reply) (m : Node) → Did n.station (call ∷ []) after → (applied n.station.segment call).1 ≡ reply → m ≡ replied (record n { station = after }) reply → m ≡ asked n call
unfolding asked
told_reply n call after reply m did is t = t ∙ (λ k. answered n (did.node k) (reply_line (sym is k)))

pub told_refusal : (n : Node) (call : Call) (after : Station) (error : NodeError) (m : Node) → IsStopped (called_on n.station.segment call) error × (after ≡ n.station) → IsRefused (record n { station = after }) error m → m ≡ asked n call
unfolding asked
told_refusal n call after (Refused cause) m (is, same) t =
    t ∙ (λ k. answered n ((same ∙ refused_makes n.station call cause is) k) (reply_line (replied_on n.station.segment (sym is k)).1))
told_refusal n call after ClockPassed m a t = absurd t
told_refusal n call after (Starting tick) m a t = absurd t
told_refusal n call after OutOfMemory m a t = absurd t

-- one that is only answered that it was done
pub told_done : (n : Node) (call : Call) (after : Station) (made : Result (Unit {0}) NodeError) (m : Node) → (IsOk (called_on n.station.segment call) → reply_line (replies.Done []) ≡ reply_line (applied n.station.segment call).1)
    → IsAnswered n.station call after made → IsReplied (record n { station = after }) made m → m ≡ asked n call
unfolding asked
told_done n call after (Ok done) m only (ok, did) t = t ∙ (λ k. answered n (did.node k) (only ok k))
told_done n call after (Err error) m only a t = told_refusal n call after error m a t

-- frames were missed
pub told_missed : (n : Node) (after : Station) (m : Node) → IsMissed n.station after ends.Ended → m ≡ with_station n after → m ≡ with_station n (missed n.station)
told_missed n after m (none, did) t = t ∙ ap (with_station n) did.node

pub told_missing : (n : Node) (after : Station) (events : List Event) (m : Node) → IsMissed n.station after ends.Ended → m ≡ replied (record n { station = after }) (replies.Done events) → m ≡ answered n (missed n.station) (line (codes "done"))
unfolding reply_line
told_missing n after events m (none, did) t = t ∙ (λ k. answered n (did.node k) (line (codes "done")))

-- what was under way when they were missed has ended
ready_is : (s r : Station) → IsReady s r → r ≡ ready s
ready_is s r (ends_first, none) = by s.has_missed refl ends_first
  where
    by : (b : Bool) → s.has_missed ≡ b → EndsFirst b s r → r ≡ ready s
    by true is (none, did) = did.node ∙ sym (ap (λ (b : Bool). if b then missed s else s) is)
    by false is same = same ∙ sym (ap (λ (b : Bool). if b then missed s else s) is)

-- a frame that the station took
pub told_taken : (n : Node) (frame : CanFrame) (after : Station) (m : Node) → IsReadyAndFed n.station frame after (Ok Taken) → m ≡ with_station n after → m ≡ with_station n (fed (ready n.station) frame)
told_taken n frame after m (r, first, (free, did)) t =
    t ∙ ap (with_station n) (did.node ∙ sym (ap (fed_by r frame) free) ∙ ap (λ (s : Station). fed s frame) (ready_is n.station r first))

-- one that it wasn't fed, and missed
pub told_unfed : (n : Node) (frame : CanFrame) (mid : Station) (cause : Refusal) (m : Node) → IsReadyAndFed n.station frame mid (Err (Refused cause)) → m ≡ with_station n (missed mid) → m ≡ with_station n (fed (ready n.station) frame)
told_unfed n frame mid cause m (r, first, undone) t =
    t ∙ ap (with_station n) (by (feed_refusal r frame) refl undone ∙ ap (λ (s : Station). fed s frame) (ready_is n.station r first))
  where
    by : (o : Option NodeError) → feed_refusal r frame ≡ o → IsUndone o r mid (Refused cause) → missed mid ≡ fed r frame
    by None is (e, same) = absurd cc
    by (Some error) is (e, same) = ap missed same ∙ sym (ap (fed_by r frame) is)

-- a frame that it put
pub told_sent : (n : Node) (after : Station) (made : Result (Unit {0}) NodeError) (m : Node) → IsSent n.station after made → IsTold (record n { station = after }) made m → m ≡ with_station n (sent (ready n.station))
told_sent n after (Ok done) m (r, first, (free, did)) t =
    t ∙ ap (with_station n) (did.node ∙ sym (ap (sent_by r) free) ∙ ap sent (ready_is n.station r first))
told_sent n after (Err (Refused cause)) m (r, first, (is, same)) t =
    t ∙ ap (with_station n) (same ∙ sym (ap (sent_by r) is) ∙ ap sent (ready_is n.station r first))
told_sent n after (Err ClockPassed) m a t = absurd t
told_sent n after (Err (Starting tick)) m a t = absurd t
told_sent n after (Err OutOfMemory) m a t = absurd t
