use Rattle.std.proofs.Common.{◌≡◌, ap, sym, ◌∙◌, subst, arith}
use Rattle.session_table.specs.declared.key.SessionKind.TheVariants as session
use Rattle.station_sessions.specs.Sources.{HasNoneBetween}
use Rattle.station_core.specs.Station.{Station}
use Rattle.station_core.specs.Closing.{unbound_session, unbound_source}
use Rattle.station_core.proofs.Counting.{closed_from, passed_to, passed_one}
use Rattle.station_core.proofs.station.Station.unbind_all.Goals as goal

pub loop-init : goal.loop-init
loop-init c = (sym (closed_from c.args.self.now c.args.number), omega arith, omega arith)

pub returns-in_default : goal.returns-in_default
returns-in_default c =
    let none : HasNoneBetween c.loop.self.sessions c.loop.from 254 = subst (λ (x : Station). HasNoneBetween x.sessions c.loop.from 254) c.self.view_is (λ s from below. c.in_default.ensures.none s from (omega (arith, below))) in
    passed_to c.args.self.now c.loop.self c.args.number c.loop.from 254 c.loop.invariant.0 c.loop.invariant.2 none

pub returns-then-source-ge-NODES : goal.returns-then-source-ge-NODES
returns-then-source-ge-NODES c =
    let none : HasNoneBetween c.loop.self.sessions c.loop.from 254 = subst (λ (x : Station). HasNoneBetween x.sessions c.loop.from 254) c.self.view_is (λ s from below. c.in-Some.ensures.next s from (omega (arith, below, c.if-source-ge-NODES.true))) in
    passed_to c.args.self.now c.loop.self c.args.number c.loop.from 254 c.loop.invariant.0 c.loop.invariant.2 none

pub loop-preserved : goal.loop-preserved
loop-preserved c =
    let source = c.in-Some.source in
    let number = c.args.number in
    let next : HasNoneBetween c.loop.self.sessions c.loop.from source.0 = subst (λ (x : Station). HasNoneBetween x.sessions c.loop.from source.0) c.self.view_is c.in-Some.ensures.next in
    let unbound : c.unbind-in-loop-2.new.self ≡ unbound_source c.loop.self source number =
    c.unbind-in-loop-2.ensures
    ∙ ap (λ (x : Station). unbound_session x source session.Etp number) (c.unbind-in-loop.ensures ∙ ap (λ (x : Station). unbound_session x source session.Tp number) c.unbind.ensures) in (
      unbound ∙ passed_one c.args.self.now c.loop.self number c.loop.from source c.loop.invariant.0 c.in-Some.ensures.on next,
      omega (arith, c.loop.invariant.1, c.in-Some.ensures.on),
      omega (arith, c.if-source-ge-NODES.false),
    )
