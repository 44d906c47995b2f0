-- The relation that a frame or a timer makes of an incoming session: its step is made, or it is unchanged and this is left to do
-- (SAE J1939-21, TP.DT; ISO 11783-3, ETP.DT, ETP.CM_DPO).
use Rattle.std.specs.Prelude.{◌≡◌, ℕ, Bool, true, List, Option, Some, None}
use Rattle.std.specs.FinMap as map
use Rattle.bus_frame.specs.Frames.{CanFrame}
use Rattle.tp_wire.specs.declared.wire.Wire.{Wire}
use Rattle.tp_wire.specs.declared.reason.AbortReason.TheVariants.{Timeout, Other}
use Rattle.seg_cut.specs.Join.{wants_last}
use Rattle.bam_session.specs.States as bam
use Rattle.bam_session.specs.Receiving as bam-steps
use Rattle.responder.specs.Receiver as responder
use Rattle.responder.specs.declared.flow.Flow.{Flow}
use Rattle.responder.specs.declared.receiver.Left.{Left}
use Rattle.responder.specs.declared.receiver.Left.TheVariants.{Nothing, Message, Abort, NoMemory}
use Rattle.session_table.specs.declared.key.Key.{Key}
use Rattle.session_table.specs.declared.incoming.Incoming.{Incoming}
use Rattle.session_table.specs.declared.incoming.Incoming.TheVariants.{Broadcast, Connection}
use Rattle.session_table.specs.Sessions.{Sessions}

-- a broadcast continues, its message is complete, or its packets are out of order and it must be ended
abbrev pub BroadcastLeads : (before : bam.Incoming) → Wire → (now : ℕ) → Left → (after : bam.Incoming) → Type 0
BroadcastLeads before wire now Nothing after = bam-steps.stepped before wire now ≡ bam-steps.Awaits after
BroadcastLeads before wire now Message after = (bam-steps.completes before wire ≡ true) × (wants_last before.join ≡ true) × (after ≡ before)
BroadcastLeads before wire now (Abort reason) after = (bam-steps.stepped before wire now ≡ bam-steps.Drops) × (reason ≡ Other) × (after ≡ before)
BroadcastLeads before wire now NoMemory after = ⊥

-- what a call does to a session: its state before, what is left to do, its state after, and the queue before and after
abbrev pub Step : Type 1
Step = (before : Incoming) → Left → (after : Incoming) → (queued left : List CanFrame) → Type 0

-- the step of a session with a frame
abbrev pub by_frame : Wire → (room : Bool) → Flow → (now : ℕ) → Step
by_frame wire room flow now (Broadcast s) answer (Broadcast t) queued left = BroadcastLeads s wire now answer t × (left ≡ queued)
by_frame wire room flow now (Connection s) answer (Connection t) queued left = responder.Leads s wire room flow now answer t queued left
by_frame wire room flow now _ answer _ queued left = ⊥

-- the step of a session whose timer fires: a broadcast must be ended
abbrev pub by_timer : Flow → (now : ℕ) → Step
by_timer flow now (Broadcast s) answer (Broadcast t) queued left = (answer ≡ Abort Timeout) × (t ≡ s) × (left ≡ queued)
by_timer flow now (Connection s) answer (Connection t) queued left = responder.Fires s flow now answer t queued left
by_timer flow now _ answer _ queued left = ⊥

module _ {T : Type 0} where
  -- that relation for the content of a place, if it has one
  abbrev pub LeadsIn : Step → (before : Option (T × Incoming)) → Left → (after : Option (T × Incoming)) → (queued left : List CanFrame) → Type 0
  LeadsIn step None answer None queued left = (answer ≡ Nothing) × (left ≡ queued)
  LeadsIn step (Some v) answer (Some w) queued left = (w.0 ≡ v.0) × step v.1 answer w.1 queued left
  LeadsIn step _ answer _ queued left = ⊥

  -- that relation for the state at a key of a table: if anything is left to do, table and queue are unchanged
  abbrev pub LeadsAt : Step → (before : Option (T × Incoming)) → Left → Sessions T → Key → (after : Sessions T) → (queued left : List CanFrame) → Type 0
  LeadsAt step None answer m key after queued left = (answer ≡ Nothing) × (after ≡ m) × (left ≡ queued)
  LeadsAt step (Some v) Nothing m key after queued left =
      (state : Incoming) × (after ≡ map.insert m key (Some (v.0, state))) × step v.1 Nothing state queued left
  LeadsAt step (Some v) answer m key after queued left = (after ≡ m) × step v.1 answer v.1 queued left × (left ≡ queued)
