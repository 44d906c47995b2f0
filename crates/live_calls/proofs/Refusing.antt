-- Why a call would be refused doesn't hang on whether there is room for what it gives.
use Rattle.std.proofs.Common.{◌≡◌, ℕ, Bool, true, false, Option, Some, None, refl}
use Rattle.std.specs.Prelude.{slice_get}
use Rattle.bus_frame.specs.Frames.{CanFrame}
use Rattle.pgn_ids.specs.declared.address.Address.{Address}
use Rattle.station_core.specs.Station.{Station}
use Rattle.segment_law.specs.Segment.{Segment, place_of}
use Rattle.segment_law.specs.Calls.{Answer, at_station, at_place, at_address, called, no_place, takes_by, takes, repeats_by, repeats}
use Rattle.segment_state.specs.Answers.{refusal_of}
use Rattle.live_calls.specs.declared.call.WorkerCall.{WorkerCall}
use Rattle.live_calls.specs.declared.call.WorkerCall.TheVariants.{Pump, Transmit, Take, TakeAgain, Overrun, Tick, Fire, Cancel, Inject, Pause, Resume}
use Rattle.live_calls.specs.Words.{call_of}

at_same : (st : Segment) (a : Address) (f g : ℕ → Station → Answer) → ((i : ℕ) (s : Station) → refusal_of (f i s) ≡ refusal_of (g i s)) → refusal_of (at_address st a f) ≡ refusal_of (at_address st a g)
at_same st a f g h = placed (place_of st a)
  where
    there : (i : ℕ) (o : Option Station) → refusal_of (at_station o (f i)) ≡ refusal_of (at_station o (g i))
    there i None = refl
    there i (Some s) = h i s

    placed : (o : Option ℕ) → refusal_of (at_place st o f) ≡ refusal_of (at_place st o g)
    placed None = refl
    placed (Some i) = there i (slice_get st.stations i)

takes_same : (st : Segment) (r t : Bool) (i : ℕ) (s : Station) (o : Option CanFrame) → refusal_of (takes_by st r i s o) ≡ refusal_of (takes_by st t i s o)
takes_same st r t i s None = refl
takes_same st r t i s (Some frame) = by (no_place s) refl
  where
    by : (b : Bool) → no_place s ≡ b → refusal_of (takes_by st r i s (Some frame)) ≡ refusal_of (takes_by st t i s (Some frame))
    by true e = rw e refl
    by false e = rw e refl

repeats_same : (st : Segment) (r t : Bool) (i : ℕ) (s : Station) (o : Option CanFrame) → refusal_of (repeats_by st r i s o) ≡ refusal_of (repeats_by st t i s o)
repeats_same st r t i s None = refl
repeats_same st r t i s (Some frame) = by (no_place s) refl
  where
    by : (b : Bool) → no_place s ≡ b → refusal_of (repeats_by st r i s (Some frame)) ≡ refusal_of (repeats_by st t i s (Some frame))
    by true e = rw e refl
    by false e = rw e refl

take_same : (st : Segment) (a : Address) (r t : Bool) → refusal_of (called st (call_of (Take a) r)) ≡ refusal_of (called st (call_of (Take a) t))
unfolding called
take_same st a r t = at_same st a (takes st r) (takes st t) (λ i s. takes_same st r t i s _)

repeat_same : (st : Segment) (a : Address) (r t : Bool) → refusal_of (called st (call_of (TakeAgain a) r)) ≡ refusal_of (called st (call_of (TakeAgain a) t))
unfolding called
repeat_same st a r t = at_same st a (repeats st r) (repeats st t) (λ i s. repeats_same st r t i s _)

pub room_no_cause : (st : Segment) (call : WorkerCall) (r t : Bool) → refusal_of (called st (call_of call r)) ≡ refusal_of (called st (call_of call t))
room_no_cause st (Take a) r t = take_same st a r t
room_no_cause st (TakeAgain a) r t = repeat_same st a r t
room_no_cause st (Pump a to) r t = refl
room_no_cause st (Transmit a) r t = refl
room_no_cause st (Overrun a n) r t = refl
room_no_cause st (Tick n) r t = refl
room_no_cause st (Fire a) r t = refl
room_no_cause st (Cancel a to n) r t = refl
room_no_cause st (Inject frame) r t = refl
room_no_cause st (Pause q) r t = refl
room_no_cause st (Resume q) r t = refl
