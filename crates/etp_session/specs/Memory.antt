-- The memory of a receiver of ETP: it grows by the window.
use Rattle.std.specs.Prelude.{◌≡◌, ◌+◌, ◌-◌, ◌≤◌, ⊤}
use Rattle.tp_wire.specs.declared.constants.TheConstants.{ETP_MAX_WINDOW}
use Rattle.tp_wire.specs.declared.wire.Kind.TheVariants.{Etp}
use Rattle.seg_cut.specs.Join.{Join}
use Rattle.responder.specs.Unfinished.{Unfinished}
use Rattle.responder.specs.Window.{window}
use Rattle.responder.specs.States.{AwaitPacket}
use Rattle.responder.specs.declared.in_state.InState.{InState}
use Rattle.responder.specs.declared.in_state.InState.TheVariants as InState
use Rattle.responder.specs.declared.received.Received.{Received}
use Rattle.responder.specs.declared.received.Received.TheVariants.{On, Complete, Ended}

-- there is room for one window at most beside the bytes received
abbrev pub IsWithinWindow : Join → Type 0
IsWithinWindow join = join.room ≤ ETP_MAX_WINDOW

-- a message of ETP has room for no more than the next window
pub record HasSpareRoom (m : Unfinished) : Type 0 where
  pub etp : m.kind ≡ Etp
  pub most : m.most ≤ ETP_MAX_WINDOW
  pub from_first : 1 ≤ m.join.next
  pub within_window : m.join.room ≤ window m.most m.join.size m.join.next

-- while packets are awaited, there is room for just those that are granted
pub record HasGrantedRoom (s : AwaitPacket) : Type 0 where
  pub spare : HasSpareRoom s.message
  pub announced : s.until ≤ s.granted
  pub granted : s.message.join.next - 1 + s.message.join.room ≡ s.granted

-- either state has no more room than that
abbrev pub HasLeastRoom : InState → Type 0
HasLeastRoom (InState.AwaitPacket s) = HasGrantedRoom s
HasLeastRoom (InState.Holding s) = HasSpareRoom s.message

-- the state that follows has no more room than that
abbrev pub GoesOnWithLeastRoom : Received → Type 0
GoesOnWithLeastRoom (On s frame) = HasLeastRoom s
GoesOnWithLeastRoom (Complete message) = ⊤
GoesOnWithLeastRoom (Ended frame) = ⊤
