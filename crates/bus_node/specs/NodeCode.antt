-- When two nodes are equal.
use Rattle.std.specs.Prelude.{ℕ, Bool, List, Option, refl}
use Rattle.std.specs.Coded.{Coded, code_by, coded×, coded_list, coded_option, coded_bool, coded_ℕ}
use Rattle.bus_frame.specs.Frames.{CanFrame}
use Rattle.bus_frame.specs.contracts.frame.Frame as frame
use Rattle.log_fields.specs.declared.iface.Iface.{Iface}
use Rattle.log_fields.specs.contracts.iface.Iface as iface
use Rattle.one_station.specs.Node.{Node as Station}
use Rattle.one_station.specs.NodeCode.{node_code as station_code}
use Rattle.bus_node.specs.Node.{Node}

abbrev Parts : Type 0
Parts = Station × (Iface × (Bool × (Bool × (ℕ × (List ℕ × (ℕ × (Option ℕ × ((List CanFrame × (Option CanFrame × ℕ)) × (Bool × ((ℕ × ℕ) × List ℕ))))))))))

-- nodes are equal if their parts are
abbrev pub node_code : Coded Node
node_code =
    code_by Parts
    (coded× station_code (coded× ((iface.the_row).coded) (coded× coded_bool (coded× coded_bool (coded× coded_ℕ (coded× (coded_list coded_ℕ) (coded× coded_ℕ (coded× (coded_option coded_ℕ) (coded× (coded× (coded_list ((frame.the_row).coded)) (coded× (coded_option ((frame.the_row).coded)) coded_ℕ)) (coded× coded_bool (coded× (coded× coded_ℕ coded_ℕ) (coded_list coded_ℕ))))))))))))
    (λ n. (n.station, (n.iface, (n.knows_iface, (n.knows_other, (n.quiet, (n.rests, (n.since, (n.start, ((n.echoes.unseen, (n.echoes.last, n.echoes.silent_until)), (n.strict, ((n.counts.lines, n.counts.wrong), n.text))))))))))))
    (λ p. record { station = p.0; iface = p.1.0; knows_iface = p.1.1.0; knows_other = p.1.1.1.0; quiet = p.1.1.1.1.0; rests = p.1.1.1.1.1.0; since = p.1.1.1.1.1.1.0; start = p.1.1.1.1.1.1.1.0; echoes = record { unseen = p.1.1.1.1.1.1.1.1.0.0; last = p.1.1.1.1.1.1.1.1.0.1.0; silent_until = p.1.1.1.1.1.1.1.1.0.1.1 }; strict = p.1.1.1.1.1.1.1.1.1.0; counts = record { lines = p.1.1.1.1.1.1.1.1.1.1.0.0; wrong = p.1.1.1.1.1.1.1.1.1.1.0.1 }; text = p.1.1.1.1.1.1.1.1.1.1.1 })
    (λ _. refl)
