-- A drive is made of its turns.
use Rattle.std.proofs.Common.{◌≡◌, ◌≤◌, ◌+◌, ℕ, zero, suc, Bool, true, false, cond, List, [], ◌∷◌, ◌++◌, Option, Some, None, refl, sym, ◌∙◌, ap, append_assoc, arith}
use Rattle.std.proofs.lemmas.List.{append-nil}
use Rattle.bus_frame.specs.Frames.{CanFrame}
use Rattle.pgn_ids.specs.declared.address.Address.{Address}
use Rattle.tx_queue.specs.Queue.{front}
use Rattle.station_lanes.specs.LaneReaders.{missing_at}
use Rattle.station_core.specs.Station.{Station}
use Rattle.segment_law.specs.Segment.{Segment, station_at, waiting_at}
use Rattle.segment_law.specs.Calls.{applied}
use Rattle.segment_law.specs.Record.{Record}
use Rattle.segment_law.specs.Drive.{Driven, end_by, with_call, stops_at, goes_on, makes, makes_call, pumps_again, pumps, with_put, puts_from, puts, has_queued, turn_puts, takes, last_take, takes_all, all_take, turn, turns_from, not_driven, driven}
use Rattle.segment_law.specs.declared.call.Call.{Call}
use Rattle.segment_law.specs.declared.call.Call.TheVariants.{Pump, Transmit, Take, Tick}
use Rattle.segment_law.specs.declared.end.DriveEnd.{DriveEnd}
use Rattle.segment_law.specs.declared.end.DriveEnd.TheVariants as end
use Rattle.segment_law.specs.declared.refusal.Refusal.{Refusal}
use Rattle.segment_law.specs.declared.refusal.Refusal.TheVariants as refusal
use Rattle.segment_law.specs.declared.reply.Reply.{Reply}
use Rattle.segment_law.specs.declared.reply.Reply.TheVariants.{Opened, Sent, Refused, Done}

-- a drive that went on from another's end
abbrev pub before : Driven → Driven → Driven
before p d = record d { calls = p.calls ++ d.calls; turns = p.turns + d.turns; frames = p.frames ++ d.frames }

-- what ends a drive before its turns are made
abbrev pub IsStop : DriveEnd → Type 0
IsStop end.Turns = ⊥
IsStop end.Idle = Unit {0}
IsStop (end.Refused cause) = Unit {0}
IsStop end.OutOfMemory = Unit {0}

abbrev pub IsFair : Option DriveEnd → Type 0
IsFair None = Unit {0}
IsFair (Some cause) = IsStop cause

end_fair : (cause : Refusal) → IsStop (end_by cause)
end_fair refusal.IdTooLarge = tt
end_fair refusal.DataTooLong = tt
end_fair refusal.BadPgn = tt
end_fair refusal.WrongPacket = tt
end_fair refusal.ClockEnd = tt
end_fair refusal.TxFull = tt
end_fair refusal.BusFull = tt
end_fair refusal.TableFull = tt
end_fair refusal.LaneFull = tt
end_fair refusal.PgnTaken = tt
end_fair refusal.PortsFull = tt
end_fair refusal.NoSuchPort = tt
end_fair refusal.BadAddresses = tt
end_fair refusal.NoSuchStation = tt
end_fair refusal.TooShort = tt
end_fair refusal.TooLong = tt
end_fair refusal.SameStation = tt
end_fair refusal.NothingToTake = tt
end_fair refusal.NothingToRepeat = tt
end_fair refusal.NothingDue = tt
end_fair refusal.NothingToSend = tt
end_fair refusal.NotYet = tt
end_fair refusal.StationAddress = tt
end_fair refusal.RingFull = tt
end_fair refusal.TraceFull = tt
end_fair refusal.ClientsFull = tt
end_fair refusal.PortPaused = tt
end_fair refusal.PortNotPaused = tt
end_fair refusal.PiecesDontJoin = tt
end_fair refusal.NotThisSegment = tt

-- a step from d to e makes at most k turns, and is the same, to f, where it went on from another drive
pub record Moves (k : ℕ) (p d e f : Driven) : Type 0 where
  pub same : f ≡ before p e
  pub most : e.turns ≤ d.turns + k
  pub fair : IsFair d.ended → IsFair e.ended

still : (p d : Driven) → Moves 0 p d d (before p d)
still p d = record { same = refl; most = omega arith; fair = λ h. h }

next : (k m : ℕ) (p d e f : Driven) (g : Driven → Driven) → Moves k p d e f → Moves m p e (g e) (g (before p e)) → Moves (k + m) p d (g e) (g f)
next k m p d e f g x y =
    let a = x.most in
    let b = y.most in
    record { same = ap g x.same ∙ y.same; most = omega (arith, a, b); fair = λ h. y.fair (x.fair h) }

called_moves : (call : Call) (p d : Driven) → Moves 0 p d (with_call d call (applied d.segment call)) (with_call (before p d) call (applied d.segment call))
called_moves call p d =
    let step : Segment × Reply = applied d.segment call in
    record { same = ap (λ (calls : Record). record (before p d) { segment = step.0; calls = calls }) (append_assoc p.calls d.calls ((call, step.1) ∷ [])); most = omega arith; fair = λ h. h }

stops_moves : (reply : Reply) (p d : Driven) → Moves 0 p d (stops_at d reply) (stops_at (before p d) reply)
stops_moves (Opened port) p d = still p d
stops_moves (Sent number) p d = still p d
stops_moves (Refused cause) p d = record { same = refl; most = omega arith; fair = λ h. end_fair cause }
stops_moves (Done events) p d = still p d

goes_moves : (k : ℕ) (f : Driven → Driven) (p d : Driven) → Moves k p d (f d) (f (before p d)) → Moves k p d (goes_on d f) (goes_on (before p d) f)
goes_moves k f p d m = by d.ended
  where
    by : (o : Option DriveEnd) → Moves k p d (elim o as (λ (_ : Option DriveEnd). Driven) [ None ↦ f d | Some cause ↦ d ]) (elim o as (λ (_ : Option DriveEnd). Driven) [ None ↦ f (before p d) | Some cause ↦ before p d ])
    by None = m
    by (Some cause) = record { same = refl; most = omega arith; fair = λ h. h }

call_moves : (call : Call) (p d : Driven) → Moves 0 p d (makes_call call d) (makes_call call (before p d))
call_moves call p d =
    let step : Segment × Reply = applied d.segment call in
    next 0 0 p d (with_call d call step) (with_call (before p d) call step) (λ x. stops_at x step.1) (called_moves call p d) (stops_moves step.1 p (with_call d call step))

makes_moves : (call : Call) (p d : Driven) → Moves 0 p d (makes d call) (makes (before p d) call)
makes_moves call p d = goes_moves 0 (makes_call call) p d (call_moves call p d)

put_moves : (o : Option CanFrame) (p d : Driven) → Moves 1 p d (with_put o d) (with_put o (before p d))
put_moves None p d = record { same = refl; most = omega arith; fair = λ h. h }
put_moves (Some f) p d =
    let n : p.turns + d.turns + 1 ≡ p.turns + (d.turns + 1) = omega arith in
    let l : (p.frames ++ d.frames) ++ f ∷ [] ≡ p.frames ++ (d.frames ++ f ∷ []) = append_assoc p.frames d.frames (f ∷ []) in
    record { same = λ i. record (before p d) { turns = n i; frames = l i }; most = omega arith; fair = λ h. h }

puts_from_moves : (a : Address) (p d : Driven) → Moves 1 p d (puts_from a d) (puts_from a (before p d))
puts_from_moves a p d =
    let o : Option CanFrame = front (station_at d.segment a).queue in
    let e : Driven = makes_call (Transmit a) d in
    next 0 1 p d e (makes_call (Transmit a) (before p d)) (λ x. goes_on x (with_put o)) (call_moves (Transmit a) p d) (goes_moves 1 (with_put o) p e (put_moves o p e))

puts_moves : (a : Address) (p d : Driven) → Moves 1 p d (puts d a) (puts (before p d) a)
puts_moves a p d = goes_moves 1 (puts_from a) p d (puts_from_moves a p d)

takes_moves : (k : ℕ) (a : Address) (p d : Driven) → Moves 0 p d (takes k a d) (takes k a (before p d))
takes_moves zero a p d = still p d
takes_moves (suc k) a p d =
    next 0 0 p d (makes d (Take a true)) (makes (before p d) (Take a true)) (takes k a) (makes_moves (Take a true) p d) (takes_moves k a p (makes d (Take a true)))

takes_all_moves : (a : Address) (p d : Driven) → Moves 0 p d (takes_all a d) (takes_all a (before p d))
takes_all_moves a p d =
    let n : ℕ = waiting_at d.segment a in
    let e : Driven = takes n a d in
    next 0 0 p d e (takes n a (before p d)) (λ x. goes_on x (last_take a)) (takes_moves n a p d) (goes_moves 0 (last_take a) p e (called_moves (Take a true) p e))

all_take_moves : (stations : List Station) (p d : Driven) → Moves 0 p d (all_take stations d) (all_take stations (before p d))
all_take_moves [] p d = still p d
all_take_moves (st ∷ stations) p d =
    let e : Driven = goes_on d (takes_all st.address) in
    next 0 0 p d e (goes_on (before p d) (takes_all st.address)) (all_take stations) (goes_moves 0 (takes_all st.address) p d (takes_all_moves st.address p d)) (all_take_moves stations p e)

module _ (from to : Address) where
  again_moves : (reply : Reply) (p d : Driven) → Moves 0 p d (pumps_again from to reply d) (pumps_again from to reply (before p d))
  again_moves (Opened port) p d = stops_moves (Opened port) p d
  again_moves (Sent number) p d = stops_moves (Sent number) p d
  again_moves (Done events) p d = stops_moves (Done events) p d
  again_moves (Refused refusal.IdTooLarge) p d = stops_moves (Refused refusal.IdTooLarge) p d
  again_moves (Refused refusal.DataTooLong) p d = stops_moves (Refused refusal.DataTooLong) p d
  again_moves (Refused refusal.BadPgn) p d = stops_moves (Refused refusal.BadPgn) p d
  again_moves (Refused refusal.WrongPacket) p d = stops_moves (Refused refusal.WrongPacket) p d
  again_moves (Refused refusal.ClockEnd) p d = stops_moves (Refused refusal.ClockEnd) p d
  again_moves (Refused refusal.TxFull) p d = stops_moves (Refused refusal.TxFull) p d
  again_moves (Refused refusal.BusFull) p d = stops_moves (Refused refusal.BusFull) p d
  again_moves (Refused refusal.TableFull) p d = stops_moves (Refused refusal.TableFull) p d
  again_moves (Refused refusal.LaneFull) p d = stops_moves (Refused refusal.LaneFull) p d
  again_moves (Refused refusal.PgnTaken) p d = stops_moves (Refused refusal.PgnTaken) p d
  again_moves (Refused refusal.PortsFull) p d = stops_moves (Refused refusal.PortsFull) p d
  again_moves (Refused refusal.NoSuchPort) p d = stops_moves (Refused refusal.NoSuchPort) p d
  again_moves (Refused refusal.BadAddresses) p d = stops_moves (Refused refusal.BadAddresses) p d
  again_moves (Refused refusal.NoSuchStation) p d = stops_moves (Refused refusal.NoSuchStation) p d
  again_moves (Refused refusal.TooShort) p d = stops_moves (Refused refusal.TooShort) p d
  again_moves (Refused refusal.TooLong) p d = stops_moves (Refused refusal.TooLong) p d
  again_moves (Refused refusal.SameStation) p d = stops_moves (Refused refusal.SameStation) p d
  again_moves (Refused refusal.NothingToTake) p d = stops_moves (Refused refusal.NothingToTake) p d
  again_moves (Refused refusal.NothingToRepeat) p d = stops_moves (Refused refusal.NothingToRepeat) p d
  again_moves (Refused refusal.NothingDue) p d = stops_moves (Refused refusal.NothingDue) p d
  again_moves (Refused refusal.NothingToSend) p d = stops_moves (Refused refusal.NothingToSend) p d
  again_moves (Refused refusal.NotYet) p d =
      let k : ℕ = missing_at (station_at d.segment from).lanes to.0 d.segment.now in
      next 0 0 p d (makes d (Tick k)) (makes (before p d) (Tick k)) (λ x. makes x (Pump from to)) (makes_moves (Tick k) p d) (makes_moves (Pump from to) p (makes d (Tick k)))
  again_moves (Refused refusal.StationAddress) p d = stops_moves (Refused refusal.StationAddress) p d
  again_moves (Refused refusal.RingFull) p d = stops_moves (Refused refusal.RingFull) p d
  again_moves (Refused refusal.TraceFull) p d = stops_moves (Refused refusal.TraceFull) p d
  again_moves (Refused refusal.ClientsFull) p d = stops_moves (Refused refusal.ClientsFull) p d
  again_moves (Refused refusal.PortPaused) p d = stops_moves (Refused refusal.PortPaused) p d
  again_moves (Refused refusal.PortNotPaused) p d = stops_moves (Refused refusal.PortNotPaused) p d
  again_moves (Refused refusal.PiecesDontJoin) p d = stops_moves (Refused refusal.PiecesDontJoin) p d
  again_moves (Refused refusal.NotThisSegment) p d = stops_moves (Refused refusal.NotThisSegment) p d

  pumps_moves : (p d : Driven) → Moves 0 p d (pumps from to d) (pumps from to (before p d))
  pumps_moves p d =
      let step : Segment × Reply = applied d.segment (Pump from to) in
      let e : Driven = with_call d (Pump from to) step in
      next 0 0 p d e (with_call (before p d) (Pump from to) step) (pumps_again from to step.1) (called_moves (Pump from to) p d) (again_moves step.1 p e)

  turn_puts_moves : (p d : Driven) → Moves 1 p d (turn_puts from to d) (turn_puts from to (before p d))
  turn_puts_moves p d = by (has_queued d.segment from) (has_queued d.segment to)
    where
      by : (a b : Bool) → Moves 1 p d (cond a (puts d from) (cond b (puts d to) (puts (pumps from to d) from))) (cond a (puts (before p d) from) (cond b (puts (before p d) to) (puts (pumps from to (before p d)) from)))
      by true b = puts_moves from p d
      by false true = puts_moves to p d
      by false false = next 0 1 p d (pumps from to d) (pumps from to (before p d)) (λ x. puts x from) (pumps_moves p d) (puts_moves from p (pumps from to d))

  turn_moves : (p d : Driven) → Moves 1 p d (turn from to d) (turn from to (before p d))
  turn_moves p d =
      let e : Driven = turn_puts from to d in
      next 1 0 p d e (turn_puts from to (before p d)) (λ x. goes_on x (λ y. all_take y.segment.stations y)) (turn_puts_moves p d) (goes_moves 0 (λ y. all_take y.segment.stations y) p e (all_take_moves e.segment.stations p e))

  turns_same : (n : ℕ) (p d : Driven) → turns_from n from to (before p d) ≡ before p (turns_from n from to d)
  turns_same zero p d = refl
  turns_same (suc n) p d = ap (turns_from n from to) (goes_moves 1 (turn from to) p d (turn_moves p d)).same ∙ turns_same n p (goes_on d (turn from to))

  ended_stays : (n : ℕ) (d : Driven) (c : DriveEnd) → d.ended ≡ Some c → turns_from n from to d ≡ d
  ended_stays zero d c e = refl
  ended_stays (suc n) d c e =
      let s : goes_on d (turn from to) ≡ d = ap (λ (o : Option DriveEnd). elim o as (λ (_ : Option DriveEnd). Driven) [ None ↦ turn from to d | Some cause ↦ d ]) e in
      ap (turns_from n from to) s ∙ ended_stays n d c e

  -- a drive that goes on from the end of one is that one with nothing more yet
  begun : (d : Driven) → d.ended ≡ None → before d (not_driven d.segment) ≡ d
  begun d e =
      let n : d.turns + 0 ≡ d.turns = omega arith in
      let c : d.calls ++ [] ≡ d.calls = append-nil d.calls in
      let f : d.frames ++ [] ≡ d.frames = append-nil d.frames in
      let o : None ≡ d.ended = sym e in
      λ i. record d { calls = c i; turns = n i; frames = f i; ended = o i }

  pub split_more : (n : ℕ) (s : Segment) → (driven s from to 1).ended ≡ None → driven s from to (suc n) ≡ before (driven s from to 1) (driven (driven s from to 1).segment from to n)
  unfolding driven
  split_more n s e =
      let d : Driven = turn from to (not_driven s) in
      ap (turns_from n from to) (sym (begun d e)) ∙ turns_same n d (not_driven d.segment)

  pub split_end : (n : ℕ) (s : Segment) (c : DriveEnd) → (driven s from to 1).ended ≡ Some c → driven s from to (suc n) ≡ driven s from to 1
  unfolding driven
  split_end n s c e = ended_stays n (turn from to (not_driven s)) c e

  pub one_most : (s : Segment) → (driven s from to 1).turns ≤ 1
  unfolding driven
  one_most s = (turn_moves (not_driven s) (not_driven s)).most

  pub one_fair : (s : Segment) → IsFair (driven s from to 1).ended
  unfolding driven
  one_fair s = (turn_moves (not_driven s) (not_driven s)).fair tt
