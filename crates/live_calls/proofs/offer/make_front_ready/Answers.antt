use Rattle.std.proofs.Common.{◌≡◌, List, refl, Some, None, ap, ◌∙◌}
use Rattle.live_record.specs.declared.owed.Owed.{Owed}
use Rattle.live_record.specs.Record.{owed_by}
use Rattle.live_record.specs.Past.{count_since}
use Rattle.live_calls.specs.Offers.{LacksRoomToSend}
use Rattle.live_ends.specs.declared.offer.Front.TheVariants as front
use Rattle.live_calls.proofs.Fronts.{front_at, found_at, lacks_kept, ready_at}
use Rattle.live_ends.proofs.Results.{no_ok, on_err}
use Rattle.live_ends.proofs.SeatsSame.{same_seats-trans}
use Rattle.live_calls.proofs.offer.make_front_ready.Goals as goal

pub returns-in-Empty : goal.returns-in-Empty
returns-in-Empty c =
    let st = c.args.segment.now in
    let m = count_since c.args.calls.now.pieces c.args.calls.now.items in
    let ws = c.args.owed.now.items in
    let ts = c.look.new.self.items in
    let k = c.args.k in
    record {
      calls = refl;
      pieces = refl;
      owed = refl;
      seats = c.look.ensures.same;
      ready = front_at st m ws k c.as_slice.result.now ts c.count_owed-count.result c.len.result c.look.result front.Empty c.count_owed-count.ensures c.as_slice.ensures.value c.len.ensures c.look.ensures.front c.in-Empty.is;
      space = (tt, tt);
      few = tt;
      count = c.look.ensures.count;
      err = tt;
    }

pub returns-in-Owed : goal.returns-in-Owed
returns-in-Owed c =
    let st = c.args.segment.now in
    let m = count_since c.args.calls.now.pieces c.args.calls.now.items in
    let ws = c.args.owed.now.items in
    let ts = c.look.new.self.items in
    let k = c.args.k in
    record {
      calls = refl;
      pieces = refl;
      owed = refl;
      seats = c.look.ensures.same;
      ready = front_at st m ws k c.as_slice.result.now ts c.count_owed-count.result c.len.result c.look.result front.Owed c.count_owed-count.ensures c.as_slice.ensures.value c.len.ensures c.look.ensures.front c.in-Owed.is;
      space = (tt, tt);
      few = tt;
      count = c.look.ensures.count;
      err = tt;
    }

pub returns-in-Full : goal.returns-in-Full
returns-in-Full c =
    let st = c.args.segment.now in
    let m = count_since c.args.calls.now.pieces c.args.calls.now.items in
    let ws = c.args.owed.now.items in
    let ts = c.look.new.self.items in
    let k = c.args.k in
    record {
      calls = refl;
      pieces = refl;
      owed = refl;
      seats = c.look.ensures.same;
      ready = front_at st m ws k c.as_slice.result.now ts c.count_owed-count.result c.len.result c.look.result front.Full c.count_owed-count.ensures c.as_slice.ensures.value c.len.ensures c.look.ensures.front c.in-Full.is;
      space = (tt, tt);
      few = tt;
      count = c.look.ensures.count;
      err = tt;
    }

pub returns-in-Some : goal.returns-in-Some
returns-in-Some c =
    let st = c.args.segment.now in
    let m = count_since c.args.calls.now.pieces c.args.calls.now.items in
    let ws = c.args.owed.now.items in
    let ts = c.look.new.self.items in
    let k = c.args.k in
    record {
      calls = refl;
      pieces = refl;
      owed = refl {A = List Owed};
      seats = c.look.ensures.same;
      ready = found_at st m ws k c.as_slice.result.now ts c.as_slice-in-Waits.result.now c.count_owed-count.result c.len.result c.look.result c.front_refusal.result (Some c.in-Some.refusal) c.count_owed-count.ensures c.as_slice.ensures.value c.len.ensures c.look.ensures.front c.in-Waits.is c.as_slice-in-Waits.ensures c.front_refusal.ensures c.in-Some.is;
      space = (tt, tt);
      few = tt;
      count = c.look.ensures.count;
      err = tt;
    }

pub returns-in_err-reserve-in-Waits : goal.returns-in_err-reserve-in-Waits
returns-in_err-reserve-in-Waits c =
    let st = c.args.segment.now in
    let m = count_since c.args.calls.now.pieces c.args.calls.now.items in
    let ws = c.args.owed.now.items in
    let ts = c.look.new.self.items in
    let k = c.args.k in
    let lacks : LacksRoomToSend st m ws ts k = found_at st m ws k c.as_slice.result.now ts c.as_slice-in-Waits.result.now c.count_owed-count.result c.len.result c.look.result c.front_refusal.result None c.count_owed-count.ensures c.as_slice.ensures.value c.len.ensures c.look.ensures.front c.in-Waits.is c.as_slice-in-Waits.ensures c.front_refusal.ensures c.in_default.is in
    record {
      calls = c.reserve.ensures.items;
      pieces = c.reserve.ensures.pieces;
      owed = refl {A = List Owed};
      seats = c.look.ensures.same;
      ready = no_ok _ _ c.from_residual.ensures.0;
      space = no_ok _ _ c.from_residual.ensures.0;
      few = no_ok _ _ c.from_residual.ensures.0;
      count = c.look.ensures.count;
      err = on_err _ lacks;
    }

pub returns-in_err-reserve-in-Waits-2 : goal.returns-in_err-reserve-in-Waits-2
returns-in_err-reserve-in-Waits-2 c =
    let st = c.args.segment.now in
    let m = count_since c.args.calls.now.pieces c.args.calls.now.items in
    let ws = c.args.owed.now.items in
    let ts = c.look.new.self.items in
    let k = c.args.k in
    let lacks : LacksRoomToSend st m ws ts k = found_at st m ws k c.as_slice.result.now ts c.as_slice-in-Waits.result.now c.count_owed-count.result c.len.result c.look.result c.front_refusal.result None c.count_owed-count.ensures c.as_slice.ensures.value c.len.ensures c.look.ensures.front c.in-Waits.is c.as_slice-in-Waits.ensures c.front_refusal.ensures c.in_default.is in
    record {
      calls = c.reserve.ensures.items;
      pieces = c.reserve.ensures.pieces;
      owed = c.reserve-in-Waits.ensures.items;
      seats = c.look.ensures.same;
      ready = no_ok _ _ c.from_residual-in_err-reserve-in-Waits-2.ensures.0;
      space = no_ok _ _ c.from_residual-in_err-reserve-in-Waits-2.ensures.0;
      few = no_ok _ _ c.from_residual-in_err-reserve-in-Waits-2.ensures.0;
      count = c.look.ensures.count;
      err = on_err _ lacks;
    }

pub returns-in_err-keep_notes-in-Waits : goal.returns-in_err-keep_notes-in-Waits
returns-in_err-keep_notes-in-Waits c =
    let st = c.args.segment.now in
    let m = count_since c.args.calls.now.pieces c.args.calls.now.items in
    let ws = c.args.owed.now.items in
    let ts = c.look.new.self.items in
    let k = c.args.k in
    let lacks : LacksRoomToSend st m ws ts k = found_at st m ws k c.as_slice.result.now ts c.as_slice-in-Waits.result.now c.count_owed-count.result c.len.result c.look.result c.front_refusal.result None c.count_owed-count.ensures c.as_slice.ensures.value c.len.ensures c.look.ensures.front c.in-Waits.is c.as_slice-in-Waits.ensures c.front_refusal.ensures c.in_default.is in
    record {
      calls = c.reserve.ensures.items;
      pieces = c.reserve.ensures.pieces;
      owed = c.reserve-in-Waits.ensures.items;
      seats = same_seats-trans c.args.seats.now.items ts c.keep_notes.new.self.items c.look.ensures.same c.keep_notes.ensures.same;
      ready = no_ok _ _ c.from_residual-in_err-keep_notes-in-Waits.ensures.0;
      space = no_ok _ _ c.from_residual-in_err-keep_notes-in-Waits.ensures.0;
      few = no_ok _ _ c.from_residual-in_err-keep_notes-in-Waits.ensures.0;
      count = c.keep_notes.ensures.count ∙ c.look.ensures.count;
      err = on_err _ (lacks_kept st m ws k ts c.keep_notes.new.self.items c.keep_notes.ensures.kept lacks);
    }

pub returns-in_err-call-in-Waits : goal.returns-in_err-call-in-Waits
returns-in_err-call-in-Waits c =
    let st = c.args.segment.now in
    let m = count_since c.args.calls.now.pieces c.args.calls.now.items in
    let ws = c.args.owed.now.items in
    let ts = c.look.new.self.items in
    let k = c.args.k in
    let lacks : LacksRoomToSend st m ws ts k = found_at st m ws k c.as_slice.result.now ts c.as_slice-in-Waits.result.now c.count_owed-count.result c.len.result c.look.result c.front_refusal.result None c.count_owed-count.ensures c.as_slice.ensures.value c.len.ensures c.look.ensures.front c.in-Waits.is c.as_slice-in-Waits.ensures c.front_refusal.ensures c.in_default.is in
    record {
      calls = c.reserve.ensures.items;
      pieces = c.reserve.ensures.pieces;
      owed = c.reserve-in-Waits.ensures.items;
      seats = same_seats-trans c.args.seats.now.items ts c.keep_notes.new.self.items c.look.ensures.same c.keep_notes.ensures.same;
      ready = no_ok _ _ c.from_residual-in_err-call-in-Waits.ensures.0;
      space = no_ok _ _ c.from_residual-in_err-call-in-Waits.ensures.0;
      few = no_ok _ _ c.from_residual-in_err-call-in-Waits.ensures.0;
      count = c.keep_notes.ensures.count ∙ c.look.ensures.count;
      err = on_err _ (lacks_kept st m ws k ts c.keep_notes.new.self.items c.keep_notes.ensures.kept lacks);
    }

pub returns-in_ok-call-in-Waits-clause-ready : goal.returns-in_ok-call-in-Waits-clause-ready
returns-in_ok-call-in-Waits-clause-ready c =
    let st = c.args.segment.now in
    let m = count_since c.args.calls.now.pieces c.args.calls.now.items in
    let ws = c.args.owed.now.items in
    let ts = c.look.new.self.items in
    let k = c.args.k in
    let lacks : LacksRoomToSend st m ws ts k = found_at st m ws k c.as_slice.result.now ts c.as_slice-in-Waits.result.now c.count_owed-count.result c.len.result c.look.result c.front_refusal.result None c.count_owed-count.ensures c.as_slice.ensures.value c.len.ensures c.look.ensures.front c.in-Waits.is c.as_slice-in-Waits.ensures c.front_refusal.ensures c.in_default.is in
    let us = c.keep_notes.new.self.items in
    let same : c.count_owed-count.result ≡ owed_by k ws = c.count_owed-count.ensures ∙ ap (owed_by k) c.as_slice.ensures.value in
    ready_at st m ws k us c.as_slice-in-Waits-2.result.now c.count_owed-count.result c.in_ok-call-in-Waits.call same (lacks_kept st m ws k ts us c.keep_notes.ensures.kept lacks) c.in_ok-keep_notes-in-Waits.ensures.ok c.as_slice-in-Waits-2.ensures c.in_ok-call-in-Waits.ensures

pub returns-in_ok-call-in-Waits-clause-calls : goal.returns-in_ok-call-in-Waits-clause-calls
returns-in_ok-call-in-Waits-clause-calls c = c.reserve.ensures.items

pub returns-in_ok-call-in-Waits-clause-pieces : goal.returns-in_ok-call-in-Waits-clause-pieces
returns-in_ok-call-in-Waits-clause-pieces c = c.reserve.ensures.pieces

pub returns-in_ok-call-in-Waits-clause-owed : goal.returns-in_ok-call-in-Waits-clause-owed
returns-in_ok-call-in-Waits-clause-owed c = c.reserve-in-Waits.ensures.items

pub returns-in_ok-call-in-Waits-clause-seats : goal.returns-in_ok-call-in-Waits-clause-seats
returns-in_ok-call-in-Waits-clause-seats c = same_seats-trans c.args.seats.now.items c.look.new.self.items c.keep_notes.new.self.items c.look.ensures.same c.keep_notes.ensures.same

pub returns-in_ok-call-in-Waits-clause-count : goal.returns-in_ok-call-in-Waits-clause-count
returns-in_ok-call-in-Waits-clause-count c = c.keep_notes.ensures.count ∙ c.look.ensures.count

pub returns-in_ok-call-in-Waits-clause-err : goal.returns-in_ok-call-in-Waits-clause-err
returns-in_ok-call-in-Waits-clause-err c = tt
