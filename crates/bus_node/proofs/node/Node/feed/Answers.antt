use Rattle.std.proofs.Common.{◌≡◌, OnOk, subst}
use Rattle.std.proofs.lemmas.Result.{on_ok_weaker}
use Rattle.std.specs.Prelude.{Ok, Err}
use Rattle.one_station.specs.Answers.{IsFed}
use Rattle.bus_node.specs.Stations.{ready, fed}
use Rattle.bus_node.specs.Node.{Node, with_station}
use Rattle.bus_node.specs.NodeFields.{node_value}
use Rattle.bus_node.proofs.Stations.{told_taken, told_unfed}
use Rattle.bus_node.proofs.node.Node.feed.Goals as goal

pub returns-in-Ok-Taken : goal.returns-in-Ok-Taken
returns-in-Ok-Taken c =
    subst (λ (n : Node). OnOk c.tell.result (c.tell.new.self ≡ with_station n (fed (ready n.station) c.args.frame))) c.self.view_is
    (on_ok_weaker c.tell.result (λ t. told_taken (node_value c.self.inside) c.args.frame c.feed.new.self c.tell.new.self (subst (λ x. IsFed c.self.inside.station c.args.frame c.feed.new.self (Ok x)) c.in-Ok-Taken.field-0-is c.in-Ok-Taken.ensures) t) c.tell.ensures)

pub returns-in-Err-Refused : goal.returns-in-Err-Refused
returns-in-Err-Refused c =
    subst (λ (n : Node). OnOk c.miss.result (c.miss.new.self ≡ with_station n (fed (ready n.station) c.args.frame))) c.self.view_is
    (on_ok_weaker c.miss.result (λ t. told_unfed (node_value c.self.inside) c.args.frame c.feed.new.self c.in-Err-Refused.field-0-0 c.miss.new.self (subst (λ x. IsFed c.self.inside.station c.args.frame c.feed.new.self (Err x)) c.in-Err-Refused.field-0-is c.in-Err-Refused.ensures) t) c.miss.ensures)
