-- How a run of two segments with a relay between them ended.
use Rattle.std.specs.Prelude.{◌≡◌, ℕ, List, [], ◌++◌, cond, Bool, true, false, Option, Some, None, codes}
use Rattle.pgn_ids.specs.declared.address.Address.{Address}
use Rattle.port_table.specs.declared.port.PortId.{PortId}
use Rattle.segment_law.specs.Headline.{Headline}
use Rattle.live_record.specs.Record.{Trail, trail}
use Rattle.stored_calls.specs.declared.stored.Stored.{Stored}
use Rattle.script_segments.specs.LiveView.{LiveView, Laws}
use Rattle.script_text.specs.Parts.{line}
use Rattle.script_text.specs.Counts.{relayed_line}
use Rattle.script_runs.specs.Reading.{Planned}
use Rattle.script_runs.specs.Ending.{EndedBy}
use Rattle.script_runs.specs.declared.ending.LiveRan.{LiveRan}
use Rattle.script_segments.specs.Plan.{Plan}
use Rattle.script_segments.specs.declared.setup.Message.{Message}
use Rattle.script_segments.specs.Texts.{below, ports_at, clients_at}
use Rattle.script_segments.specs.Noted.{all_noted}
use Rattle.script_segments.specs.Gateway.{Plans, text_of, passage_in}
use Rattle.bus_relay.specs.Carriages.{Carries, CarriesWhole}
use Rattle.script_segments.specs.declared.relay.gateway.Passage.{Passage}
use Rattle.script_segments.specs.declared.relay.gateway.Routing.{Routing}
use Rattle.bus_relay.specs.declared.text.Carriage.{Carriage}

-- by rising station the ports of the second segment, then what the relay did, then the outcomes of the first and of the second; and
-- whether the turns ran out
unfoldable pub end_text : (near far : List Address) → List PortId → Carriage → (ran_out : Bool) → (near_trail far_trail : Trail) → List ℕ
end_text near far ports c ran_out t u =
    below 256 (λ station. ports_at station ports u) ++ relayed_line c.pulled c.pushed c.left ++ below 256 (λ station. clients_at station 0 near t)
    ++ below 256 (λ station. clients_at station 0 far u) ++ cond ran_out (line (codes "turns ran out")) []

-- the text of what the threads left of two segments of these stations. It is that of two records, for each of which the headline holds,
-- and of a relay, if there is a route, that sent on what the first record gave to its port. Unless the turns ran out, each of the messages
-- has its outcome, and all that was to be relayed was relayed and has its outcome too
pub record Came (near_stations far_stations : List Address) (ports : List PortId) (messages : List Message) (o : Option Passage) (c : Carriage) (ran_out : Bool) (printed : List ℕ) (near far : LiveView) : Type 0 where
  pub near_addresses : near.addresses ≡ near_stations
  pub far_addresses : far.addresses ≡ far_stations
  pub near_laws : Laws near
  pub far_laws : Laws far
  pub near_headline : Headline near.addresses (trail near.addresses near.calls).steps
  pub far_headline : Headline far.addresses (trail far.addresses far.calls).steps
  pub text : printed ≡ end_text near_stations far_stations ports c ran_out (trail near.addresses near.calls) (trail far.addresses far.calls)
  pub outcomes : ran_out ≡ false → all_noted 0 near_stations messages (trail near.addresses near.calls) ≡ true
  pub carries : Carries o far_stations c near far
  pub whole : ran_out ≡ false → CarriesWhole o far_stations c near far

abbrev pub CameOf : (near_stations far_stations : List Address) → List PortId → List Message → Option Passage → (ran_out : Bool) → List ℕ → Type 0
CameOf near_stations far_stations ports messages o ran_out text = (near : LiveView) × (far : LiveView) × (c : Carriage) × Came near_stations far_stations ports messages o c ran_out text near far

-- what the threads left; they run if both segments are made
abbrev pub CameFrom : (near far : Option (List Address × List Stored)) → List PortId → List Message → Option Passage → (ran_out : Bool) → List ℕ → Type 0
CameFrom None far ports messages o ran_out text = ⊥
CameFrom (Some m) None ports messages o ran_out text = ⊥
CameFrom (Some m) (Some n) ports messages o ran_out text = CameOf m.0 n.0 ports messages o ran_out text

abbrev pub CameBy : Option Plan → Plan → Routing → (ran_out : Bool) → List ℕ → Type 0
CameBy None q routing ran_out text = ⊥
CameBy (Some p) q routing ran_out text = CameFrom p.made q.made q.ports p.messages (passage_in routing) ran_out text

abbrev pub CameTo : Plans → (ran_out : Bool) → List ℕ → Type 0
CameTo p ran_out text = CameBy p.before p.now p.routing ran_out text

-- the text of the refused lines was written, and then, if the script has no fault, the text of what the threads left; at a fault of the
-- script only the former
abbrev pub Ended : LiveRan → Option (List ℕ) → Option (List ℕ) → Planned Plans → Type 0
Ended ran a b planned = EndedBy text_of CameTo ran a b planned
