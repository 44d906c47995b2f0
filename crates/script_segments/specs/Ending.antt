-- How the threads of a segment ended.
use Rattle.std.specs.Prelude.{◌≡◌, ℕ, List, [], ◌++◌, cond, Bool, true, false, codes}
use Rattle.pgn_ids.specs.declared.address.Address.{Address}
use Rattle.port_table.specs.declared.port.PortId.{PortId}
use Rattle.segment_law.specs.Headline.{Headline}
use Rattle.live_record.specs.Record.{Trail, trail}
use Rattle.script_segments.specs.LiveView.{LiveView, Laws}
use Rattle.script_text.specs.Parts.{line}
use Rattle.script_segments.specs.declared.setup.Message.{Message}
use Rattle.script_segments.specs.Texts.{below, ports_at, clients_at}
use Rattle.script_segments.specs.Noted.{all_noted}

-- the text of the end: the ports by rising station, then the outcomes, and whether the turns ran out
unfoldable pub end_text : List Address → List PortId → (ran_out : Bool) → Trail → List ℕ
end_text addresses ports ran_out t =
    below 256 (λ station. ports_at station ports t) ++ below 256 (λ station. clients_at station 0 addresses t) ++ cond ran_out (line (codes "turns ran out")) []

-- the text of what the threads left of a segment of these stations and ports. It is that of the segment's record, for which the
-- headline holds. Unless the turns ran out, each of the messages has its outcome there
pub record Came (stations : List Address) (ports : List PortId) (messages : List Message) (ran_out : Bool) (printed : List ℕ) (v : LiveView) : Type 0 where
  pub addresses : v.addresses ≡ stations
  pub laws : Laws v
  pub headline : Headline v.addresses (trail v.addresses v.calls).steps
  pub text : printed ≡ end_text stations ports ran_out (trail v.addresses v.calls)
  pub outcomes : ran_out ≡ false → all_noted 0 stations messages (trail v.addresses v.calls) ≡ true
