-- The calls of threads on the segment.
use Rattle.std.specs.Prelude.{ℕ, Bool, true, false, List, []}
use Rattle.pgn_ids.specs.Address.{null_address}
use Rattle.pgn_ids.specs.declared.address.Address.{Address}
use Rattle.segment_law.specs.Segment.{Segment}
use Rattle.segment_law.specs.Readers.{wanted}
use Rattle.segment_law.specs.declared.call.Call.{Call}
use Rattle.segment_law.specs.declared.call.Call.TheVariants as call
use Rattle.live_calls.specs.declared.call.WorkerCall.{WorkerCall}
use Rattle.live_calls.specs.declared.call.WorkerCall.TheVariants.{Pump, Transmit, Take, TakeAgain, Overrun, Tick, Fire, Cancel, Inject, Pause, Resume}
use Rattle.live_calls.specs.declared.wanted.Wanted.{Wanted}

-- the segment's call, with or without room for what it gives
abbrev pub call_of : WorkerCall → (room : Bool) → Call
call_of (Pump station to) room = call.Pump station to
call_of (Transmit station) room = call.Transmit station
call_of (Take station) room = call.Take station room
call_of (TakeAgain station) room = call.TakeAgain station room
call_of (Overrun station n) room = call.Overrun station n
call_of (Tick n) room = call.Tick n
call_of (Fire station) room = call.Fire station
call_of (Cancel from to number) room = call.Cancel from to number
call_of (Inject frame) room = call.Inject frame
call_of (Pause port) room = call.Pause port
call_of (Resume port) room = call.Resume port

abbrev pub wants : Address → List ℕ × ℕ → Wanted
wants station w = record { station = station; ports = w.0; len = w.1 }

abbrev pub nothing : Wanted
nothing = wants (record { 0 = null_address }) ([], 0)

-- the ports that it gives to with room, and how long the message is
abbrev pub wanted_by : Segment → WorkerCall → Wanted
wanted_by seg (Take station) = wants station (wanted seg station false)
wanted_by seg (TakeAgain station) = wants station (wanted seg station true)
wanted_by seg _ = nothing
