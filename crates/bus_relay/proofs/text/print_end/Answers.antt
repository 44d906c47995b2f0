use Rattle.std.proofs.Common.{◌≡◌, ℕ, Bool, List, ◌++◌, sym, ap, ◌∙◌, subst, append_assoc}
use Rattle.live_record.specs.Record.{trail}
use Rattle.bus_relay.specs.Ending.{end_text}
use Rattle.bus_relay.proofs.text.print_end.Goals as goal

-- what five parts add, one after another
joined : (a p r n f t b1 b2 b3 b4 : List ℕ) → b1 ≡ a ++ p → b2 ≡ b1 ++ r → b3 ≡ b2 ++ n ++ f → b4 ≡ b3 ++ t → b4 ≡ a ++ (p ++ r ++ n ++ f ++ t)
joined a p r n f t b1 b2 b3 b4 e1 e2 e3 e4 =
    e4 ∙ ap (λ (x : List ℕ). x ++ t) e3 ∙ ap (λ (x : List ℕ). x ++ n ++ f ++ t) e2 ∙ ap (λ (x : List ℕ). x ++ r ++ n ++ f ++ t) e1
    ∙ ap (λ (x : List ℕ). x ++ n ++ f ++ t) (append_assoc a p r)
    ∙ ap (λ (x : List ℕ). x ++ f ++ t) (append_assoc a (p ++ r) n)
    ∙ ap (λ (x : List ℕ). x ++ t) (append_assoc a (p ++ r ++ n) f)
    ∙ append_assoc a (p ++ r ++ n ++ f) t

pub returns-in_ok-print_text : goal.returns-in_ok-print_text
unfolding end_text
returns-in_ok-print_text c =
    subst (λ (b : Bool). c.print_text.new.out.items ≡ c.args.out.now.items ++ end_text c.args.near_stations.now c.args.far_stations.now c.args.ports.now c.args.carriage b (trail c.args.near.now.addresses c.args.near.now.calls) (trail c.args.far.now.addresses c.args.far.now.calls)) (sym c.if-ran_out.true)
    (joined _ _ _ _ _ _ _ _ _ _ c.in_ok-print_ports.ensures.text c.in_ok-print_relayed.ensures c.in_ok-print_outcomes.ensures c.in_ok-print_text.ensures)
