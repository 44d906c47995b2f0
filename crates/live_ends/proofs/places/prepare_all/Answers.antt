use Rattle.std.proofs.Common.{ℕ, ◌<◌, List, length, take, get_or, sym, arith, subst}
use Rattle.std.proofs.lemmas.List.{take_more, take_all}
use Rattle.live_ends.specs.Places.{times, port, RoomAt, LacksRoom, Prepared}
use Rattle.live_ends.proofs.Giving.{same_doors-refl, same_doors-trans, apart-same}
use Rattle.live_ends.proofs.Preparing.{prepared_none, prepared_same, prepared_more, prepared_all, lacks_place, times_at}
use Rattle.live_ends.proofs.places.prepare_all.Goals as goal

pub loop-number-init : goal.loop-number-init
loop-number-init c = record {
  same = same_doors-refl c.args.doors.now.items;
  apart = c.requires;
  ready = prepared_none c.args.station c.args.numbers.now c.args.doors.now.items;
}

pub returns-in_err-prepare-clause-same : goal.returns-in_err-prepare-clause-same
returns-in_err-prepare-clause-same c = same_doors-trans c.args.doors.now.items c.loop-number.doors.items c.prepare.new.self.items c.loop-number.invariant.same c.prepare.ensures.same

pub returns-then-not-branch-clause-same : goal.returns-then-not-branch-clause-same
returns-then-not-branch-clause-same c = same_doors-trans c.args.doors.now.items c.loop-number.doors.items c.prepare.new.self.items c.loop-number.invariant.same c.prepare.ensures.same

pub returns-then-not-branch-clause-none : goal.returns-then-not-branch-clause-none
returns-then-not-branch-clause-none c _ =
    let ns = c.args.numbers.now in
    let i = c.loop-number.number-index in
    let n = get_or ns i 0 in
    let l : i < length ns = omega arith in
    let lacks : LacksRoom (port c.args.station n) c.count.result c.prepare.new.self.items = c.in_ok-prepare.ensures.none c.if-not-branch.true in
    lacks_place c.args.station ns n c.prepare.new.self.items (times_at ns i 0 l) (subst (λ (k : ℕ). LacksRoom (port c.args.station n) k c.prepare.new.self.items) c.count.ensures lacks)

pub loop-number-preserved : goal.loop-number-preserved
loop-number-preserved c =
    let ns = c.args.numbers.now in
    let i = c.loop-number.number-index in
    let n = get_or ns i 0 in
    let l : i < length ns = omega arith in
    let ds = c.loop-number.doors.items in
    let es = c.prepare.new.self.items in
    let v = c.loop-number.invariant in
    let room : RoomAt (port c.args.station n) c.count.result es = c.in_ok-prepare.ensures.ready c.if-not-branch.false in
    let room' : RoomAt (port c.args.station n) (times n ns) es = subst (λ (k : ℕ). RoomAt (port c.args.station n) k es) c.count.ensures room in
    let kept : Prepared c.args.station ns (take i ns) es = prepared_same c.args.station ns (take i ns) ds es c.prepare.ensures.same v.ready in
    record {
      same = same_doors-trans c.args.doors.now.items ds es v.same c.prepare.ensures.same;
      apart = apart-same ds es c.prepare.ensures.same v.apart;
      ready = subst (λ (seen : List ℕ). Prepared c.args.station ns seen es) (sym (take_more ns i 0 l)) (prepared_more c.args.station ns (take i ns) n es room' kept);
    }

pub returns-clause-ready : goal.returns-clause-ready
returns-clause-ready c _ =
    let ns = c.args.numbers.now in
    let i = c.loop-number.number-index in
    prepared_all c.args.station ns c.loop-number.doors.items (subst (λ (seen : List ℕ). Prepared c.args.station ns seen c.loop-number.doors.items) (take_all i ns (omega arith)) c.loop-number.invariant.ready)
