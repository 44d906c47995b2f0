-- A drive's calls with their replies carry the record on.
use Rattle.std.proofs.Common.{◌≡◌, ℕ, zero, suc, Bool, true, false, cond, List, [], ◌∷◌, ◌++◌, Option, Some, None, refl, sym, subst, append_assoc}
use Rattle.std.proofs.lemmas.List.{append-nil}
use Rattle.bus_frame.specs.Frames.{CanFrame}
use Rattle.pgn_ids.specs.declared.address.Address.{Address}
use Rattle.tx_queue.specs.Queue.{front}
use Rattle.station_core.specs.Lanes.{missing_at}
use Rattle.station_core.specs.Station.{Station}
use Rattle.segment_law.specs.Segment.{Segment, station_at, waiting_at}
use Rattle.segment_law.specs.Calls.{applied, is_address, is_call}
use Rattle.segment_law.specs.Record.{Record, StandsAt}
use Rattle.segment_law.specs.Drive.{Driven, with_call, stops_at, goes_on, makes, makes_call, pumps_again, pumps, with_put, puts_from, puts, has_queued, turn_puts, takes, last_take, takes_all, all_take, turn, turns_from, not_driven, driven}
use Rattle.segment_law.specs.declared.call.Call.{Call}
use Rattle.segment_law.specs.declared.call.Call.TheVariants.{Pump, Transmit, Take, Tick}
use Rattle.segment_law.specs.declared.end.DriveEnd.{DriveEnd}
use Rattle.segment_law.specs.declared.refusal.Refusal.TheVariants as refusal
use Rattle.segment_law.specs.declared.reply.Reply.{Reply}
use Rattle.segment_law.specs.declared.reply.Reply.TheVariants.{Opened, Sent, Refused, Done}
use Rattle.segment_law.proofs.Records.{call_goes_on}

module _ (addresses : List Address) (steps : Record) (from to : Address) (fits : is_address to ≡ true) where
  -- the record goes on with the drive's calls
  abbrev Stands : Driven → Type 0
  Stands d = StandsAt addresses (steps ++ d.calls) d.segment

  with_call_stands : (d : Driven) (call : Call) → is_call call ≡ true → Stands d → Stands (with_call d call (applied d.segment call))
  with_call_stands d call is h =
      subst (λ (all : Record). StandsAt addresses all (applied d.segment call).0) (append_assoc steps d.calls ((call, (applied d.segment call).1) ∷ [])) (call_goes_on addresses (steps ++ d.calls) d.segment call h is)

  stops_stands : (d : Driven) (reply : Reply) → Stands d → Stands (stops_at d reply)
  stops_stands d (Opened port) h = h
  stops_stands d (Sent number) h = h
  stops_stands d (Refused cause) h = h
  stops_stands d (Done events) h = h

  goes_on_stands : (d : Driven) (next : Driven → Driven) → Stands d → ((x : Driven) → Stands x → Stands (next x)) → Stands (goes_on d next)
  goes_on_stands d next h keeps = by d.ended
    where
      by : (o : Option DriveEnd) → Stands (elim o as (λ (_ : Option DriveEnd). Driven) [ None ↦ next d | Some cause ↦ d ])
      by None = keeps d h
      by (Some cause) = h

  makes_call_stands : (d : Driven) (call : Call) → is_call call ≡ true → Stands d → Stands (makes_call call d)
  makes_call_stands d call is h = stops_stands (with_call d call (applied d.segment call)) (applied d.segment call).1 (with_call_stands d call is h)

  makes_stands : (d : Driven) (call : Call) → is_call call ≡ true → Stands d → Stands (makes d call)
  makes_stands d call is h = goes_on_stands d (makes_call call) h (λ x k. makes_call_stands x call is k)

  again_stands : (reply : Reply) (d : Driven) → Stands d → Stands (pumps_again from to reply d)
  again_stands (Opened port) d h = stops_stands d (Opened port) h
  again_stands (Sent number) d h = stops_stands d (Sent number) h
  again_stands (Done events) d h = stops_stands d (Done events) h
  again_stands (Refused refusal.IdTooLarge) d h = stops_stands d (Refused refusal.IdTooLarge) h
  again_stands (Refused refusal.DataTooLong) d h = stops_stands d (Refused refusal.DataTooLong) h
  again_stands (Refused refusal.BadPgn) d h = stops_stands d (Refused refusal.BadPgn) h
  again_stands (Refused refusal.WrongPacket) d h = stops_stands d (Refused refusal.WrongPacket) h
  again_stands (Refused refusal.ClockEnd) d h = stops_stands d (Refused refusal.ClockEnd) h
  again_stands (Refused refusal.TxFull) d h = stops_stands d (Refused refusal.TxFull) h
  again_stands (Refused refusal.BusFull) d h = stops_stands d (Refused refusal.BusFull) h
  again_stands (Refused refusal.TableFull) d h = stops_stands d (Refused refusal.TableFull) h
  again_stands (Refused refusal.LaneFull) d h = stops_stands d (Refused refusal.LaneFull) h
  again_stands (Refused refusal.PgnTaken) d h = stops_stands d (Refused refusal.PgnTaken) h
  again_stands (Refused refusal.PortsFull) d h = stops_stands d (Refused refusal.PortsFull) h
  again_stands (Refused refusal.NoSuchPort) d h = stops_stands d (Refused refusal.NoSuchPort) h
  again_stands (Refused refusal.BadAddresses) d h = stops_stands d (Refused refusal.BadAddresses) h
  again_stands (Refused refusal.NoSuchStation) d h = stops_stands d (Refused refusal.NoSuchStation) h
  again_stands (Refused refusal.TooShort) d h = stops_stands d (Refused refusal.TooShort) h
  again_stands (Refused refusal.TooLong) d h = stops_stands d (Refused refusal.TooLong) h
  again_stands (Refused refusal.SameStation) d h = stops_stands d (Refused refusal.SameStation) h
  again_stands (Refused refusal.NothingToTake) d h = stops_stands d (Refused refusal.NothingToTake) h
  again_stands (Refused refusal.NothingToRepeat) d h = stops_stands d (Refused refusal.NothingToRepeat) h
  again_stands (Refused refusal.NothingDue) d h = stops_stands d (Refused refusal.NothingDue) h
  again_stands (Refused refusal.NothingToSend) d h = stops_stands d (Refused refusal.NothingToSend) h
  again_stands (Refused refusal.NotYet) d h =
      let k : ℕ = missing_at (station_at d.segment from).lanes to.0 d.segment.now in
      makes_stands (makes d (Tick k)) (Pump from to) fits (makes_stands d (Tick k) refl h)
  again_stands (Refused refusal.StationAddress) d h = stops_stands d (Refused refusal.StationAddress) h
  again_stands (Refused refusal.RingFull) d h = stops_stands d (Refused refusal.RingFull) h
  again_stands (Refused refusal.TraceFull) d h = stops_stands d (Refused refusal.TraceFull) h
  again_stands (Refused refusal.ClientsFull) d h = stops_stands d (Refused refusal.ClientsFull) h
  again_stands (Refused refusal.PortPaused) d h = stops_stands d (Refused refusal.PortPaused) h
  again_stands (Refused refusal.PortNotPaused) d h = stops_stands d (Refused refusal.PortNotPaused) h
  again_stands (Refused refusal.PiecesDontJoin) d h = stops_stands d (Refused refusal.PiecesDontJoin) h
  again_stands (Refused refusal.NotThisSegment) d h = stops_stands d (Refused refusal.NotThisSegment) h

  pumps_stands : (d : Driven) → Stands d → Stands (pumps from to d)
  pumps_stands d h = again_stands (applied d.segment (Pump from to)).1 (with_call d (Pump from to) (applied d.segment (Pump from to))) (with_call_stands d (Pump from to) fits h)

  put_stands : (o : Option CanFrame) (d : Driven) → Stands d → Stands (with_put o d)
  put_stands None d h = h
  put_stands (Some f) d h = h

  puts_stands : (d : Driven) (a : Address) → Stands d → Stands (puts d a)
  puts_stands d a h = goes_on_stands d (puts_from a) h (λ x k. goes_on_stands (makes_call (Transmit a) x) (with_put (front (station_at x.segment a).queue)) (makes_call_stands x (Transmit a) refl k) (λ y l. put_stands (front (station_at x.segment a).queue) y l))

  turn_puts_stands : (d : Driven) → Stands d → Stands (turn_puts from to d)
  turn_puts_stands d h = by (has_queued d.segment from) (has_queued d.segment to)
    where
      by : (a b : Bool) → Stands (cond a (puts d from) (cond b (puts d to) (puts (pumps from to d) from)))
      by true b = puts_stands d from h
      by false true = puts_stands d to h
      by false false = puts_stands (pumps from to d) from (pumps_stands d h)

  takes_stands : (k : ℕ) (a : Address) (d : Driven) → Stands d → Stands (takes k a d)
  takes_stands zero a d h = h
  takes_stands (suc k) a d h = takes_stands k a (makes d (Take a true)) (makes_stands d (Take a true) refl h)

  takes_all_stands : (a : Address) (d : Driven) → Stands d → Stands (takes_all a d)
  takes_all_stands a d h = goes_on_stands (takes (waiting_at d.segment a) a d) (last_take a) (takes_stands (waiting_at d.segment a) a d h) (λ x k. with_call_stands x (Take a true) refl k)

  all_take_stands : (stations : List Station) (d : Driven) → Stands d → Stands (all_take stations d)
  all_take_stands [] d h = h
  all_take_stands (st ∷ stations) d h = all_take_stands stations (goes_on d (takes_all st.address)) (goes_on_stands d (takes_all st.address) h (λ x k. takes_all_stands st.address x k))

  turn_stands : (d : Driven) → Stands d → Stands (turn from to d)
  turn_stands d h = goes_on_stands (turn_puts from to d) (λ e. all_take e.segment.stations e) (turn_puts_stands d h) (λ x k. all_take_stands x.segment.stations x k)

  turns_stand : (turns : ℕ) (d : Driven) → Stands d → Stands (turns_from turns from to d)
  turns_stand zero d h = h
  turns_stand (suc turns) d h = turns_stand turns (goes_on d (turn from to)) (goes_on_stands d (turn from to) h (λ x k. turn_stands x k))

pub drive_stands : (addresses : List Address) (steps : Record) (seg : Segment) (from to : Address) (turns : ℕ) → StandsAt addresses steps seg → is_address to ≡ true → StandsAt addresses (steps ++ (driven seg from to turns).calls) (driven seg from to turns).segment
unfolding driven
drive_stands addresses steps seg from to turns h fits = turns_stand addresses steps from to fits turns (not_driven seg) (subst (λ (all : Record). StandsAt addresses all seg) (sym (append-nil steps)) h)
