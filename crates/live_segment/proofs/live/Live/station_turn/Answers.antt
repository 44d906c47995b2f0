use Rattle.std.proofs.Common.{◌≡◌, false, true, sym, ap, ◌∙◌, refl, subst, inl, inr, []}
use Rattle.pgn_ids.specs.declared.address.Address.{Address}
use Rattle.segment_law.specs.declared.reply.Reply.TheVariants.{Done}
use Rattle.segment_state.specs.Next.{is_active}
use Rattle.segment_state.specs.declared.passing.Passing.{Passing}
use Rattle.segment_state.specs.declared.passing.Passing.TheVariants.{Passed, Rests, Busy}
use Rattle.live_calls.specs.declared.call.WorkerCall.TheVariants.{Take}
use Rattle.live_segment.specs.LiveView.{LiveView}
use Rattle.live_segment.specs.Offers.{IsAtRest}
use Rattle.live_segment.specs.Passing.{IsPassing}
use Rattle.live_segment.specs.Turns.{Makes, StationTurn, point, no_turn, one_more, state_of}
use Rattle.live_segment.specs.declared.turns.Turn.{Turn}
use Rattle.live_segment.proofs.PassedOn.{turn_passed, turn_rests}
use Rattle.live_segment.proofs.live.Live.station_turn.Goals as goal

pub returns-then-is_called : goal.returns-then-is_called
returns-then-is_called c = subst (λ (u : LiveView). StationTurn c.args.station (point u no_turn) (point c.whole_turn.new.self c.whole_turn.result)) c.is_called.ensures.same c.whole_turn.ensures

pub returns-then-is_active : goal.returns-then-is_active
returns-then-is_active c =
    subst (λ (u : LiveView). StationTurn c.args.station (point u no_turn) (point c.whole_turn-then-is_active.new.self c.whole_turn-then-is_active.result)) (c.is_active.ensures.same ∙ c.is_called.ensures.same) c.whole_turn-then-is_active.ensures

-- nothing has changed where the frame is the station's business
same_in_Busy : (a b p : LiveView) (station : Address) (r : Passing) → r ≡ Busy → IsPassing a station p r → a ≡ b → p ≡ b
same_in_Busy a b p station r is passing same = subst (IsPassing a station p) is passing ∙ same

pub taking_turn-requires-clause-rests : goal.taking_turn-requires-clause-rests
taking_turn-requires-clause-rests c =
    let same = same_in_Busy c.is_active.new.self c.args.self.now c.pass_by.new.self c.args.station _ c.in-Busy.is c.pass_by.ensures (c.is_active.ensures.same ∙ c.is_called.ensures.same) in
    subst (IsAtRest c.args.station) (sym same) (c.is_called.ensures.rests c.if-is_called.false)

pub taking_turn-requires-clause-calm : goal.taking_turn-requires-clause-calm
taking_turn-requires-clause-calm c =
    let same = same_in_Busy c.is_active.new.self c.args.self.now c.pass_by.new.self c.args.station _ c.in-Busy.is c.pass_by.ensures (c.is_active.ensures.same ∙ c.is_called.ensures.same) in
    ap (λ (u : LiveView). is_active (state_of u) c.args.station) (same ∙ sym c.is_called.ensures.same) ∙ sym c.is_active.ensures.value ∙ c.if-is_active.false

pub returns-in-Busy : goal.returns-in-Busy
returns-in-Busy c =
    let same = same_in_Busy c.is_active.new.self c.args.self.now c.pass_by.new.self c.args.station _ c.in-Busy.is c.pass_by.ensures (c.is_active.ensures.same ∙ c.is_called.ensures.same) in
    subst (λ (u : LiveView). StationTurn c.args.station (point u no_turn) (point c.taking_turn.new.self c.taking_turn.result)) same c.taking_turn.ensures

pub returns-in-Rests : goal.returns-in-Rests
returns-in-Rests c =
    let a = c.args.self.now in
    let station = c.args.station in
    let same : c.is_active.new.self ≡ a = c.is_active.ensures.same ∙ c.is_called.ensures.same in
    let p : IsPassing a station c.pass_by.new.self Rests = subst (λ (u : LiveView). IsPassing u station c.pass_by.new.self Rests) same (subst (IsPassing c.is_active.new.self station c.pass_by.new.self) c.in-Rests.is c.pass_by.ensures) in
    let rests : IsAtRest station a = c.is_called.ensures.rests c.if-is_called.false in
    let calm : is_active (state_of a) station ≡ false = ap (λ (u : LiveView). is_active (state_of u) station) (sym c.is_called.ensures.same) ∙ sym c.is_active.ensures.value ∙ c.if-is_active.false in
    let turn : StationTurn station (point a no_turn) (point a no_turn) = turn_rests a station rests calm p.0 in
    subst (λ (t : Turn). StationTurn station (point a no_turn) (point c.pass_by.new.self t)) (sym c.new.ensures) (subst (λ (u : LiveView). StationTurn station (point a no_turn) (point u no_turn)) (sym p.1) turn)

pub returns-in-Passed : goal.returns-in-Passed
returns-in-Passed c =
    let a = c.args.self.now in
    let b = c.pass_by.new.self in
    let station = c.args.station in
    let same : c.is_active.new.self ≡ a = c.is_active.ensures.same ∙ c.is_called.ensures.same in
    let p : IsPassing a station b Passed = subst (λ (u : LiveView). IsPassing u station b Passed) same (subst (IsPassing c.is_active.new.self station b) c.in-Passed.is c.pass_by.ensures) in
    let rests : IsAtRest station a = c.is_called.ensures.rests c.if-is_called.false in
    let calm : is_active (state_of a) station ≡ false = ap (λ (u : LiveView). is_active (state_of u) station) (sym c.is_called.ensures.same) ∙ sym c.is_active.ensures.value ∙ c.if-is_active.false in
    let made : Makes (Take station) (point a no_turn) (point b (one_more no_turn)) = inl (Done [], inr (p.0, (true, p.1)), refl) in
    let turn : StationTurn station (point a no_turn) (point b (one_more no_turn)) = turn_passed a b station rests calm made p.2 in
    subst (λ (t : Turn). StationTurn station (point a no_turn) (point b t)) (sym c.one_call.ensures) turn
