-- The threads left a segment of the stations and ports that were set up.
use Rattle.std.proofs.Common.{◌≡◌, ℕ, List, Bool, Option, Some, None, refl, sym, subst, option_map}
use Rattle.std.proofs.lemmas.Option.{none-some, same_Some}
use Rattle.pgn_ids.specs.declared.address.Address.{Address}
use Rattle.port_table.specs.declared.port.PortId.{PortId}
use Rattle.stored_calls.specs.declared.stored.Stored.{Stored}
use Rattle.script_segments.specs.LiveView.{LiveView}
use Rattle.script_segments.specs.Plan.{Plan}
use Rattle.script_segments.specs.declared.setup.Message.{Message}
use Rattle.script_segments.specs.declared.names.Names.{Names}
use Rattle.script_segments.specs.Names.{IsNamed, AreNamed, stations_in}
use Rattle.script_segments.specs.Ending.{Came}
use Rattle.bus_live.specs.Ending.{CameFrom, CameTo}

abbrev Made : Type 0
Made = Option (List Address × List Stored)

abbrev CameBy : List Address → List PortId → List Message → (ran_out : Bool) → List ℕ → Type 0
CameBy stations ports messages ran_out text = (v : LiveView) × Came stations ports messages ran_out text v

-- the same by other names of the same lists
pub at_same : (stations here : List Address) (ports opened : List PortId) (sent messages : List Message) (ran_out : Bool) (text : List ℕ)
    → stations ≡ here → ports ≡ opened → sent ≡ messages → (v : LiveView) × Came stations ports sent ran_out text v → CameBy here opened messages ran_out text
at_same stations here ports opened sent messages ran_out text e f k came =
    let at_here : CameBy here ports sent ran_out text = subst (λ (xs : List Address). CameBy xs ports sent ran_out text) e came in
    let at_opened : CameBy here opened sent ran_out text = subst (λ (ps : List PortId). CameBy here ps sent ran_out text) f at_here in
    subst (λ (ms : List Message). CameBy here opened ms ran_out text) k at_opened

of_made : (made : Made) (stations : List Address) (ports : List PortId) (messages : List Message) (ran_out : Bool) (text : List ℕ) → option_map stations_in made ≡ Some stations → CameBy stations ports messages ran_out text → CameFrom made ports messages ran_out text
of_made None stations ports messages ran_out text e came = absurd (none-some stations e)
of_made (Some m) stations ports messages ran_out text e came = subst (λ (xs : List Address). CameBy xs ports messages ran_out text) (sym (same_Some m.0 stations e)) came

-- what was set up with these names
pub at_came : (p : Plan) (o : Option Names) (n : Names) (ran_out : Bool) (text : List ℕ) → AreNamed p o → o ≡ Some n → CameBy n.stations.items n.ports.items n.messages.items ran_out text → CameTo p ran_out text
at_came p o n ran_out text named e came =
    let is : IsNamed p n = subst (λ (x : Option Names). AreNamed p x) e named in
    of_made p.made n.stations.items p.ports p.messages ran_out text is.stations (at_same n.stations.items n.stations.items _ _ _ _ ran_out text refl (sym is.ports) (sym is.messages) came)
