-- The threads left two segments of the stations and ports that were set up.
use Rattle.std.proofs.Common.{◌≡◌, ℕ, List, Bool, Option, Some, None, refl, sym, subst, option_map}
use Rattle.std.proofs.lemmas.Option.{none-some, same_Some}
use Rattle.pgn_ids.specs.declared.address.Address.{Address}
use Rattle.port_table.specs.declared.port.PortId.{PortId}
use Rattle.stored_calls.specs.declared.stored.Stored.{Stored}
use Rattle.script_segments.specs.Plan.{Plan, plan_of}
use Rattle.script_segments.specs.declared.setup.Message.{Message}
use Rattle.script_segments.specs.declared.setup.Setup.{Setup}
use Rattle.script_segments.specs.declared.names.Names.{Names}
use Rattle.script_segments.specs.Names.{IsNamed, stations_in}
use Rattle.script_segments.specs.declared.relay.gateway.Passage.{Passage}
use Rattle.script_segments.specs.declared.relay.gateway.Routing.{Routing}
use Rattle.script_segments.specs.Gateway.{passage_in}
use Rattle.bus_relay.specs.Ending.{CameOf, CameFrom, CameBy}

-- by other names of the same lists
pub at_told : (near far here there : List Address) (ports opened : List PortId) (sent messages : List Message) (o : Option Passage) (ran_out : Bool) (text : List ℕ)
    → near ≡ here → far ≡ there → ports ≡ opened → sent ≡ messages → CameOf near far ports sent o ran_out text → CameOf here there opened messages o ran_out text
at_told near far here there ports opened sent messages o ran_out text e f k m came =
    let at_near : CameOf here far ports sent o ran_out text = subst (λ (xs : List Address). CameOf xs far ports sent o ran_out text) e came in
    let at_far : CameOf here there ports sent o ran_out text = subst (λ (xs : List Address). CameOf here xs ports sent o ran_out text) f at_near in
    let at_ports : CameOf here there opened sent o ran_out text = subst (λ (ps : List PortId). CameOf here there ps sent o ran_out text) k at_far in
    subst (λ (ms : List Message). CameOf here there opened ms o ran_out text) m at_ports

abbrev Made : Type 0
Made = Option (List Address × List Stored)

-- both segments are made, of these stations
of_made : (a b : Made) (near far : List Address) (ports : List PortId) (messages : List Message) (o : Option Passage) (ran_out : Bool) (text : List ℕ) → option_map stations_in a ≡ Some near → option_map stations_in b ≡ Some far
    → CameOf near far ports messages o ran_out text → CameFrom a b ports messages o ran_out text
of_made None b near far ports messages o ran_out text e f came = absurd (none-some near e)
of_made (Some m) None near far ports messages o ran_out text e f came = absurd (none-some far f)
of_made (Some m) (Some n) near far ports messages o ran_out text e f came =
    at_told near far m.0 n.0 ports ports messages messages o ran_out text (sym (same_Some m.0 near e)) (sym (same_Some n.0 far f)) refl refl came

-- what was set up in two plans
pub at_run : (before : Option Setup) (first : Setup) (here : Plan) (routing : Routing) (near far : Names) (o : Option Passage) (ran_out : Bool) (text : List ℕ) → before ≡ Some first → IsNamed (plan_of first) near → IsNamed here far → o ≡ passage_in routing
    → CameOf near.stations.items far.stations.items far.ports.items near.messages.items o ran_out text → CameBy (option_map plan_of before) here routing ran_out text
at_run before first here routing near far o ran_out text is_first is_near is_far is_passage came =
    let named : CameOf near.stations.items far.stations.items here.ports (plan_of first).messages o ran_out text = at_told _ _ _ _ _ _ _ _ o ran_out text refl refl (sym is_far.ports) (sym is_near.messages) came in
    let made : CameFrom (plan_of first).made here.made here.ports (plan_of first).messages o ran_out text = of_made _ _ _ _ _ _ o ran_out text is_near.stations is_far.stations named in
    let by : CameFrom (plan_of first).made here.made here.ports (plan_of first).messages (passage_in routing) ran_out text =
    subst (λ (x : Option Passage). CameFrom (plan_of first).made here.made here.ports (plan_of first).messages x ran_out text) is_passage made in
    subst (λ (x : Option Setup). CameBy (option_map plan_of x) here routing ran_out text) (sym is_first) by
