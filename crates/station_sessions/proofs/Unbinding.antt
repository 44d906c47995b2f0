-- The session of a key whose last port is closed.
use Rattle.std.proofs.Common.{◌≡◌, ℕ, Bool, true, cond, ◌==◌, List, [], length, Option, Some, None, refl, sym, ap, ◌∙◌}
use Rattle.std.specs.Option.{option_map, unwrap_or}
use Rattle.std.specs.FinMap as map
use Rattle.bus_frame.specs.Frames.{CanFrame}
use Rattle.tp_wire.specs.declared.reason.AbortReason.TheVariants.{Resources}
use Rattle.port_table.specs.PortSet.{without_number}
use Rattle.session_table.specs.declared.key.Key.{Key}
use Rattle.session_table.specs.declared.incoming.Incoming.{Incoming}
use Rattle.session_table.specs.declared.incoming.Incoming.TheVariants.{Broadcast, Connection}
use Rattle.session_table.specs.Incoming.{ending_frame}
use Rattle.session_table.specs.Sessions.{state_at}
use Rattle.station_sessions.specs.Steps.{closing_frame}
use Rattle.station_sessions.specs.Receiving.{Inbound, Reception, unbound_at, unbound_by}
use Rattle.station_sessions.proofs.SessionMaps.{remove_inserted}

-- what stood at a key was taken out
abbrev IsTaken : (key held : Key) → List ℕ → Incoming → Option (List ℕ × Incoming) → Type 0
IsTaken key held set s o = ◌≡◌ {A = Option (Key × List ℕ × Incoming)} (Some (held, set, s)) (option_map (λ (v : List ℕ × Incoming). (key, v.0, v.1)) o)

abbrev Stood : (key held : Key) → List ℕ → Incoming → Option (List ℕ × Incoming) → Type 0
Stood key held set s o = (◌≡◌ {A = Option (List ℕ × Incoming)} o (Some (set, s))) × (held ≡ key)

taken_by : (key held : Key) (set : List ℕ) (s : Incoming) (o : Option (List ℕ × Incoming)) → IsTaken key held set s o → Stood key held set s o
taken_by key held set s None e = absurd (cc)
taken_by key held set s (Some v) e =
    let inner : ◌≡◌ {A = Key × List ℕ × Incoming} (held, set, s) (key, v.0, v.1) = ap (λ (o : Option (Key × List ℕ × Incoming)). unwrap_or o (held, set, s)) e in
    (λ i. Some ((sym inner i).1, (sym inner i).2), λ i. (inner i).0)

-- nobody takes its message any more
closes : (s : Incoming) → ending_frame s Resources ≡ closing_frame s
closes (Broadcast s) = refl
closes (Connection s) = refl

-- the last port of a session is closed
pub unbound_is : (key held : Key) (number : ℕ) (set : List ℕ) (s : Incoming) (m after ended : Inbound) (frame : Option CanFrame)
    → IsTaken key held set s (state_at m key) → after ≡ map.insert m key None → ended ≡ map.remove after held
    → (length (without_number set number) == 0) ≡ true → frame ≡ ending_frame s Resources
    → unbound_at key number m ≡ record { sessions = ended; frame = frame; events = [] }
unbound_is key held number set s m after ended frame taken out gone is_last ends =
    let stood : Stood key held set s (state_at m key) = taken_by key held set s (state_at m key) taken in
    let left : map.remove m key ≡ ended = sym (remove_inserted m key None) ∙ (λ i. map.remove (sym out i) (sym stood.1 i)) ∙ sym gone in
    ap (λ o. unbound_by o key number m) stood.0
    ∙ ap (λ (b : Bool). cond {A = Reception} b (record { sessions = map.remove m key; frame = closing_frame s; events = [] }) (record { sessions = map.insert m key (Some (without_number set number, s)); frame = None; events = [] })) is_last
    ∙ (λ i. let r : Reception = record { sessions = left i; frame = sym (ends ∙ closes s) i; events = [] } in r)
