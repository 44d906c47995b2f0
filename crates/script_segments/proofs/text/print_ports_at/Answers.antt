use Rattle.std.proofs.Common.{◌≡◌, ◌==◌, ◌<◌, ◌++◌, ℕ, List, [], length, cond, sym, ◌∙◌, ap, subst, arith}
use Rattle.std.specs.Prelude.{slice_index_or}
use Rattle.std.proofs.lemmas.Bool.{eqb-false}
use Rattle.std.proofs.lemmas.List.{get_or_default, append-nil}
use Rattle.port_table.specs.declared.port.PortId.{PortId}
use Rattle.live_record.specs.Record.{given, trail}
use Rattle.script_segments.specs.Reports.{HasPort}
use Rattle.script_segments.specs.Texts.{port_lines}
use Rattle.script_segments.proofs.Belows.{one_put}
use Rattle.script_segments.proofs.Knowns.{up_to, handed_up}
use Rattle.script_segments.proofs.text.print_ports_at.Goals.{then-is_at+in_ok-print_given_to, else-is_at}
use Rattle.script_segments.proofs.text.print_ports_at.Goals as goal

pub returns-in_err-print_given_to-clause-unknown : goal.returns-in_err-print_given_to-clause-unknown
returns-in_err-print_given_to-clause-unknown c =
    let within : c.loop-port.port-index < length c.args.ports.now = omega arith in
    handed_up _ _ _ c.from_residual.ensures.1 (λ is all. c.in_err-print_given_to.ensures.unknown is (all c.loop-port.port-index _ within))

pub loop-port-preserved : goal.loop-port-preserved
loop-port-preserved c =
    let ports = c.args.ports.now in
    let station = c.args.station in
    let i = c.loop-port.port-index in
    let first : PortId = record { station = record { 0 = 0 }; number = 0 } in
    let within : i < length ports = omega arith in
    let text : PortId → List ℕ = λ p. port_lines p (given p (trail c.args.live.now.addresses c.args.live.now.calls).events) in
    let more = up_to (λ k. (p : PortId) → (slice_index_or ports k p).station.0 ≡ station → HasPort c.args.live.now.ports (slice_index_or ports k p)) i c.loop-port.invariant.known in
    let small = up_to (λ k. (p : PortId) → (slice_index_or ports k p).station.0 < 256) i c.loop-port.invariant.small (λ p. subst (λ (q : PortId). q.station.0 < 256) (sym (get_or_default ports i p first within)) c.is_at.ensures.small) in
    let put = one_put (λ p. cond (p.station.0 == station) (text p) []) ports i first c.args.out.now.items c.loop-port.out.items c.if-is_at.out.items within c.loop-port.invariant.text in
    let lines : List ℕ = text (slice_index_or ports i first) in
    elim c.if-is_at.branch [
      | then-is_at+in_ok-print_given_to w ↦ record {
        text = put (ap (λ v. v.items) w.out-is ∙ w.in_ok-print_given_to.ensures.text ∙ ap (λ b. c.loop-port.out.items ++ cond b lines []) (sym w.if-is_at.true ∙ c.is_at.ensures.value));
        known = more (λ p at. subst (HasPort c.args.live.now.ports) (get_or_default ports i first p within) w.in_ok-print_given_to.ensures.known);
        small = small;
      }
      | else-is_at w ↦ record {
        text = put (ap (λ v. v.items) w.out-is ∙ sym (append-nil c.loop-port.out.items) ∙ ap (λ b. c.loop-port.out.items ++ cond b lines []) (sym w.if-is_at.false ∙ c.is_at.ensures.value));
        known = more (λ p at. absurd (eqb-false _ _ (sym c.is_at.ensures.value ∙ w.if-is_at.false) (ap (λ (q : PortId). q.station.0) (get_or_default ports i first p within) ∙ at)));
        small = small;
      }
    ]
