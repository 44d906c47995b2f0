-- The steps of an incoming session: it stays the one of its key, and what it queues goes to its source.
use Rattle.std.proofs.Common.{◌≡◌, ℕ, Bool, Option, Some}
use Rattle.std.specs.Prelude.{option_to_list}
use Rattle.bus_frame.specs.Frames.{CanFrame}
use Rattle.tp_wire.specs.Rows.{written}
use Rattle.tp_wire.specs.declared.wire.Kind.{Kind}
use Rattle.tp_wire.specs.declared.wire.Kind.TheVariants.{Tp, Etp}
use Rattle.tp_wire.specs.declared.wire.Wire.{Wire}
use Rattle.responder.specs.Peer.{Peer}
use Rattle.responder.specs.Answers.{end_frame}
use Rattle.responder.specs.Unfinished.{Unfinished, with_packet}
use Rattle.responder.specs.Readers.{unfinished_of}
use Rattle.responder.specs.Asking.{asking, asked}
use Rattle.responder.specs.Steps.{stepped, expired}
use Rattle.responder.specs.Room.{prepared, prepared_to_expire}
use Rattle.responder.specs.declared.flow.Flow.{Flow}
use Rattle.responder.specs.declared.flow.Flow.TheVariants.{Open, Held}
use Rattle.responder.specs.declared.in_state.InState.{InState}
use Rattle.responder.specs.declared.received.Received.{Received}
use Rattle.responder.specs.declared.received.Received.TheVariants.{On, Complete, Ended}
use Rattle.record_law.proofs.Lists.{Each}
use Rattle.responder.proofs.Rows.{by_rows, by_timer, by_room, by_room_at_timer}
use Rattle.broadcast_law.proofs.Carried.{IsSaid}

module _ (a from : ℕ) where
  abbrev pub FitsPeer : Peer → Type 0
  FitsPeer peer = (peer.to ≡ a) × (peer.from ≡ from)

  abbrev pub SaidBack : Option CanFrame → Type 0
  SaidBack frame = Each (IsSaid a from) (option_to_list frame)

  pub said_peer : (peer : Peer) (w : Wire) → FitsPeer peer → SaidBack (Some (written w peer.to peer.from))
  said_peer peer w h = ((w, λ i. written w (h.0 i) (h.1 i)), tt)

  pub said_end : (kind : Kind) (peer : Peer) (size : ℕ) → FitsPeer peer → SaidBack (Some (end_frame kind peer size))
  said_end Tp peer size h = said_peer peer _ h
  said_end Etp peer size h = said_peer peer _ h

  -- Steps of a connection

  abbrev pub Fits : Received → Type 0
  Fits (On s frame) = FitsPeer (unfinished_of s).peer × SaidBack frame
  Fits (Complete m) = FitsPeer m.peer
  Fits (Ended frame) = SaidBack frame

  pub asking_fits : (m : Unfinished) (flow : Flow) (now : ℕ) → FitsPeer m.peer → FitsPeer (unfinished_of (asking m flow now)).peer × SaidBack (Some (asked m flow))
  asking_fits m Open now h = (h, said_peer m.peer _ h)
  asking_fits m Held now h = (h, said_peer m.peer _ h)

  pub connection_step : (s : InState) (wire : Wire) (room : Bool) (flow : Flow) (now : ℕ) → FitsPeer (unfinished_of s).peer → Fits (stepped s wire room flow now)
  connection_step s wire room flow now h =
      by_rows Fits flow now s wire room (record {
        same = λ _. (h, tt);
        aborts = λ _ reason. said_peer (unfinished_of s).peer _ h;
        announces = λ granted until packets offset pgn timer _ _. (h, tt);
        announces_held = λ packets offset pgn timer _ _. (h, tt);
        accepts = λ bytes granted until timer _ _. (h, tt);
        asks_next = λ bytes _ _. asking_fits (with_packet (unfinished_of s) bytes) flow now h;
        ends = λ bytes _ _ _. h;
      })

  pub connection_expired : (s : InState) (flow : Flow) (now : ℕ) → FitsPeer (unfinished_of s).peer → Fits (expired s flow now)
  connection_expired s flow now h = by_timer Fits flow now s (said_peer (unfinished_of s).peer _ h) (asking_fits (unfinished_of s) flow now h)

  -- room changes no peer
  pub peer_prepared : (s : InState) (wire : Wire) (room : Bool) (flow : Flow) → FitsPeer (unfinished_of s).peer → FitsPeer (unfinished_of (prepared s wire room flow)).peer
  peer_prepared s wire room flow h = by_room (λ x. FitsPeer (unfinished_of x).peer) s wire room flow h (λ packets granted until timer. h)

  pub peer_prepared_fire : (s : InState) (flow : Flow) → FitsPeer (unfinished_of s).peer → FitsPeer (unfinished_of (prepared_to_expire s flow)).peer
  peer_prepared_fire s flow h = by_room_at_timer (λ x. FitsPeer (unfinished_of x).peer) s flow h (λ packets timer. h)
