-- A port that closes.
use Rattle.std.specs.Prelude.{ℕ, zero, suc, ◌++◌, ◌∷◌, [], nat_lt, length, if◌then◌else◌, List, Option, Some, None}
use Rattle.bus_frame.specs.Frames.{CanFrame}
use Rattle.pgn_ids.specs.declared.address.Address.{Address}
use Rattle.tx_queue.specs.Queue.{queue_limit}
use Rattle.port_table.specs.Ports.{without_port}
use Rattle.session_table.specs.declared.key.SessionKind.{SessionKind}
use Rattle.session_table.specs.declared.key.SessionKind.TheVariants as session
use Rattle.station_sessions.specs.Opening.{key_of}
use Rattle.station_sessions.specs.Receiving.{unbound_at}
use Rattle.station_core.specs.Station.{Station}

-- a frame is queued if there is a place for it
abbrev pub if_free : List CanFrame → Option CanFrame → List CanFrame
if_free queue None = queue
if_free queue (Some frame) = if nat_lt (length queue) queue_limit then queue ++ frame ∷ [] else queue

-- the port is taken out of the set of one session
abbrev pub unbound_session : Station → (source : Address) → SessionKind → (number : ℕ) → Station
unbound_session st source kind number =
    let r = unbound_at (key_of source kind) number st.sessions in
    record st { queue = if_free st.queue r.frame; sessions = r.sessions }

-- the port is taken out of the sets of one source's sessions, the broadcast first
abbrev pub unbound_source : Station → (source : Address) → (number : ℕ) → Station
unbound_source st source number =
    unbound_session (unbound_session (unbound_session st source session.Broadcast number) source session.Tp number) source session.Etp number

-- the port is taken out of the sets of all sources below n, by rising source
unfoldable pub closed_below : Station → (number : ℕ) → ℕ → Station
closed_below st number zero = st
closed_below st number (suc source) = unbound_source (closed_below st number source) (record { 0 = source }) number

-- the port is closed
abbrev pub closed : Station → (number : ℕ) → Station
closed st number = closed_below (record st { ports = without_port st.ports number }) number 254
