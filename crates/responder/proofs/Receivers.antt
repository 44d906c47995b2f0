-- A receiver and its steps.
use Rattle.std.proofs.Common.{◌≡◌, ◌<◌, ◌+◌, ◌-◌, ◌≤◌, ◌++◌, ◌∷◌, [], ℕ, Bool, true, false, List, Option, Some, None, refl, sym, subst, arith, ap, max, ◌&&◌, cond}
use Rattle.std.proofs.lemmas.Bool.{cond_both, and_parts}
use Rattle.std.proofs.lemmas.List.{append-nil}
use Rattle.std.proofs.lemmas.Option.{none-some}
use Rattle.std.specs.Prelude.{option_to_list, nat_le}
use Rattle.bus_frame.specs.Frames.{CanFrame}
use Rattle.tick_timers.specs.Timers.{Timer}
use Rattle.seg_cut.specs.Join.{wants_last}
use Rattle.tp_wire.specs.Kinds.{is_same_kind}
use Rattle.tp_wire.specs.Reason.{reason_byte}
use Rattle.tp_wire.specs.declared.reason.AbortReason.{AbortReason}
use Rattle.tp_wire.specs.declared.wire.Kind.TheVariants.{Etp}
use Rattle.tp_wire.specs.declared.wire.Wire.{Wire}
use Rattle.responder.proofs.Rows.{same_kinds}
use Rattle.responder.specs.Answers.{abort_frame}
use Rattle.responder.specs.AwaitPacket.{aborted}
use Rattle.responder.specs.Image.{state_at}
use Rattle.responder.specs.Readers.{unfinished_of}
use Rattle.responder.specs.Receiver.{GoesOn, awaits_last, Answers, Leads, prepared_step}
use Rattle.responder.specs.Room.{IsPrepared, prepared, grants_next, needed}
use Rattle.responder.specs.StateFields.{IsAt}
use Rattle.responder.specs.States as states
use Rattle.responder.specs.Steps.{stepped, is_next, completes}
use Rattle.responder.specs.Unfinished.{Unfinished}
use Rattle.responder.specs.declared.flow.Flow.{Flow}
use Rattle.responder.specs.declared.in_state.InState.TheVariants.{AwaitPacket, Holding}
use Rattle.responder.specs.declared.in_state.InState.{InState}
use Rattle.responder.specs.declared.received.Received.TheVariants.{On, Ended}
use Rattle.responder.specs.declared.received.Received.{Received}
use Rattle.responder.specs.declared.receiver.Left.TheVariants.{Nothing, Message, Abort, NoMemory}
use Rattle.responder.specs.declared.receiver.Left.{Left}
use Rattle.responder.specs.declared.stage.Stage.TheVariants.{Awaiting, OnHold}
use Rattle.responder.specs.declared.stage.Stage.{Stage}

-- there is room for the last packet, once it is announced
pub has_room : (m : Unfinished) (stage : Stage) (timer : Timer) → IsAt m stage → 1 ≤ m.join.next → awaits_last (state_at m stage timer) ≡ true → 0 < m.join.room
has_room m (Awaiting granted until) timer h first e = omega (arith, h.grant, h.room, first)
has_room m OnHold timer h first e = absurd (cc)

-- a frame that completes the message is its last packet, which is awaited and announced
pub last_awaited : (s : InState) (wire : Wire) → completes s wire ≡ true → awaits_last s ≡ true
last_awaited (AwaitPacket s) wire e =
    let p : ((is_next s wire && wants_last s.message.join) ≡ true) × (nat_le s.message.join.next s.until ≡ true) = and_parts (is_next s wire && wants_last s.message.join) (nat_le s.message.join.next s.until) e in
    (λ i. (and_parts (is_next s wire) (wants_last s.message.join) p.0).1 i && p.1 i)
last_awaited (Holding s) wire e = absurd (cc)

-- what is prepared already stays as it is
pub stays_prepared : (s : InState) (wire : Wire) (room : Bool) (flow : Flow) → IsPrepared s wire room flow → prepared s wire room flow ≡ s
stays_prepared (AwaitPacket s) wire room flow h =
    cond_both (is_same_kind s.message.kind Etp && grants_next s wire room flow) _ _ (λ (x : states.AwaitPacket). AwaitPacket x ≡ AwaitPacket s)
    (λ e. ap (λ r. AwaitPacket (record s { message = record s.message { join = record s.message.join { room = r } } }))
    (enough (h (same_kinds s.message.kind Etp (and_parts (is_same_kind s.message.kind Etp) (grants_next s wire room flow) e).0))))
    (λ _. refl)
  where
    enough : needed s wire room flow ≤ s.message.join.room → max s.message.join.room (needed s wire room flow) ≡ s.message.join.room
    enough h = omega (arith, h)
stays_prepared (Holding s) wire room flow h = refl

-- so its step with the room that it needs is its step
pub made : (s : InState) (wire : Wire) (room : Bool) (flow : Flow) (now : ℕ) (led : Received) → IsPrepared s wire room flow → prepared_step s wire room flow now ≡ led → led ≡ stepped s wire room flow now
made s wire room flow now led h e = subst (λ x. led ≡ stepped x wire room flow now) (stays_prepared s wire room flow h) (sym e)

-- the step is that of the receiver that a state was turned into, which went on or is ended by an abort
pub goes_on : (s r after x : InState) (wire : Wire) (room : Bool) (flow : Flow) (now : ℕ) → r ≡ s → x ≡ after → IsPrepared s wire room flow
    → prepared_step r wire room flow now ≡ On after None → On x None ≡ stepped s wire room flow now
goes_on s r after x wire room flow now same turned h e =
    made s wire room flow now (On x None) h
    (subst (λ y. prepared_step y wire room flow now ≡ On x None) same (subst (λ y. prepared_step r wire room flow now ≡ On y None) (sym turned) e))

pub is_ended : (s r after : InState) (reason : AbortReason) (frame : CanFrame) (wire : Wire) (room : Bool) (flow : Flow) (now : ℕ) → r ≡ s → after ≡ r
    → frame ≡ abort_frame (unfinished_of after).kind (unfinished_of after).peer (reason_byte reason) → IsPrepared s wire room flow
    → prepared_step r wire room flow now ≡ aborted (unfinished_of r) reason → Ended (Some frame) ≡ stepped s wire room flow now
is_ended s r after reason frame wire room flow now same kept made_so h e =
    made s wire room flow now (Ended (Some frame)) h
    (subst (λ y. prepared_step y wire room flow now ≡ Ended (Some frame)) same
    (subst (λ f. prepared_step r wire room flow now ≡ Ended (Some f)) (sym (subst (λ y. frame ≡ abort_frame (unfinished_of y).kind (unfinished_of y).peer (reason_byte reason)) kept made_so)) e))

-- a step whose answer is queued leads where it was to
pub queued : (before : InState) (wire : Wire) (room : Bool) (flow : Flow) (now : ℕ) (left : Left) (after : InState) (frame : CanFrame) (queue : List CanFrame)
    → Answers before wire room flow now left after (Some frame) → Leads before wire room flow now left after queue (queue ++ frame ∷ [])
queued before wire room flow now Nothing after frame queue h = subst (λ r. GoesOn r after queue (queue ++ frame ∷ [])) (sym h) (refl, refl)
queued before wire room flow now Message after frame queue h = absurd (none-some frame (sym h.3))
queued before wire room flow now (Abort reason) after frame queue h = absurd (none-some frame (sym h.2))
queued before wire room flow now NoMemory after frame queue h = absurd (none-some frame (sym h.3))

pub not_queued : (before : InState) (wire : Wire) (room : Bool) (flow : Flow) (now : ℕ) (left : Left) (after : InState) (queue : List CanFrame)
    → Answers before wire room flow now left after None → Leads before wire room flow now left after queue queue
not_queued before wire room flow now Nothing after queue h = subst (λ r. GoesOn r after queue queue) (sym h) (refl, sym (append-nil queue))
not_queued before wire room flow now Message after queue h = (h.0, h.1, (h.2, refl))
not_queued before wire room flow now (Abort reason) after queue h = (h.0, (h.1, refl))
not_queued before wire room flow now NoMemory after queue h = (h.0, h.1, (h.2, refl))
