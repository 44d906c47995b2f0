-- When two nodes are equal.
use Rattle.std.specs.Prelude.{ℕ, Bool, List, refl}
use Rattle.std.specs.Coded.{Coded, code_by, coded×, coded_list, coded_bool, coded_ℕ}
use Rattle.pgn_ids.specs.declared.address.Address.{Address}
use Rattle.pgn_ids.specs.contracts.address.Address as address
use Rattle.message_events.specs.declared.event.Event.{Event}
use Rattle.message_events.specs.contracts.event.Event as event
use Rattle.segment_law.specs.Segment.{Segment}
use Rattle.segment_state.specs.SegmentCode.{segment_code}
use Rattle.one_station.specs.Node.{Node}

abbrev Parts : Type 0
Parts = Segment × (Address × (List Event × (Bool × ℕ)))

-- nodes are equal if their parts are
abbrev pub node_code : Coded Node
node_code =
    code_by Parts
    (coded× segment_code (coded× ((address.the_row).coded) (coded× (coded_list ((event.the_row).coded)) (coded× coded_bool coded_ℕ))))
    (λ n. (n.segment, (n.address, (n.events, (n.has_missed, n.quiet_until)))))
    (λ p. record { segment = p.0; address = p.1.0; events = p.1.1.0; has_missed = p.1.1.1.0; quiet_until = p.1.1.1.1 })
    (λ _. refl)
