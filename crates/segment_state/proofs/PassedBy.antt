-- A station takes a frame which is none of its business: nothing but the bus changes.
use Rattle.std.proofs.Common.{◌≡◌, ℕ, ◌==◌, ◌<◌, ◌&&◌, ◌||◌, Bool, true, false, cond, [], length, get_or, set, Option, Some, None, refl, sym, ap, ◌∙◌, subst, inl, inr, arith}
use Rattle.std.specs.Prelude.{is_none, is_some}
use Rattle.std.proofs.lemmas.Bool.{cases_lt, false≢true}
use Rattle.std.proofs.lemmas.List.{set-get_or}
use Rattle.bus_frame.specs.Frames.{CanFrame}
use Rattle.bus_order.specs.Bus.{Bus, next_frame, waiting, released, taken as moved}
use Rattle.pgn_ids.specs.declared.address.Address.{Address}
use Rattle.tp_wire.specs.Reading.{reading, is_transport}
use Rattle.tp_wire.specs.declared.wire.Wire.{Wire}
use Rattle.tx_queue.specs.Queue.{queue_limit, free_places}
use Rattle.station_core.specs.Station.{Station, StationStep, quietly}
use Rattle.station_core.specs.Refusals.{taking_refusal}
use Rattle.station_core.specs.Taking.{is_malformed_for, looks_at, meaning_taken, taken}
use Rattle.station_core.specs.declared.refused.Refused.{Refused as Cause}
use Rattle.station_core.specs.declared.refused.Refused.TheVariants as cause
use Rattle.station_core.proofs.Traffic.{other_traffic}
use Rattle.segment_law.specs.Segment.{Segment, place_of, station_at, waiting_at}
use Rattle.segment_law.specs.Calls.{at_address, takes, replied}
use Rattle.segment_law.specs.declared.call.Call.TheVariants.{Take}
use Rattle.segment_law.specs.declared.reply.Reply.TheVariants.{Done}
use Rattle.segment_state.specs.Passing.{PassesBy, concerns, passing_with, passing_at}
use Rattle.segment_state.specs.StateFields.{state_value}
use Rattle.segment_state.specs.declared.passing.Passing.{Passing}
use Rattle.segment_state.specs.declared.passing.Passing.TheVariants.{Passed, Rests, Busy}
use Rattle.segment_state.specs.declared.state.SegmentState.TheInside.{Inside}
use Rattle.segment_state.proofs.AtOnce.{unseen_taken}
use Rattle.segment_state.proofs.Calling.{station_here}
use Rattle.segment_state.proofs.Kept.{at_here, said, takes_is, taken_view}
use Rattle.segment_state.proofs.Records.{done_stands, takes_called}

-- Frames that don't concern it: it doesn't look at them, or they are other traffic

pub unconcerned_taken : (st : Station) (f : CanFrame) (room : Bool) (now : ℕ) → concerns st f ≡ false → taken st f room now ≡ record { station = st; events = [] }
unconcerned_taken st f room now none = by (looks_at st f) refl
  where
    by : (b : Bool) → looks_at st f ≡ b → taken st f room now ≡ record { station = st; events = [] }
    by true seen =
        let other : is_transport f ≡ false = ap (λ (b : Bool). b && is_transport f) (sym seen) ∙ none in
        ap (λ (b : Bool). cond {A = StationStep} b (meaning_taken st (reading f) room now) (quietly st)) seen
        ∙ ap (λ (o : Option (Wire × Address × Address)). meaning_taken st o room now) (other_traffic f other)
    by false away = unseen_taken st f room now away

pub unconcerned_formed : (st : Station) (f : CanFrame) → concerns st f ≡ false → is_malformed_for st f ≡ false
unconcerned_formed st f none = by (looks_at st f) (is_transport f) none
  where
    by : (seen ours : Bool) → (seen && ours) ≡ false → (seen && (ours && is_none (reading f))) ≡ false
    by true true e = absurd (false≢true (sym e))
    by true false e = refl
    by false ours e = refl

-- A place in its queue

pub has_place : (st : Station) → taking_refusal st ≡ None → length st.queue < queue_limit
has_place st free = elim (cases_lt (length st.queue) queue_limit) [
  | inl few ↦ few
  | inr full ↦
      let none : free_places st.queue ≡ 0 = omega (arith, full) in
      let q : Some cause.TxFull ≡ None = ap (λ (n : ℕ). cond {A = Option Cause} (n == 0) (Some cause.TxFull) None) (sym none) ∙ free in
      absurd cc
]

-- What its place is in the segment

pub none_there : {A : Type 0} (o : Option A) → is_some o ≡ false → o ≡ None
none_there None e = refl
none_there (Some x) e = absurd cc

pub waits_here : (s : Inside) (seg : Segment) (a : Address) (i n : ℕ) → state_value s ≡ seg → Some i ≡ place_of seg a → waiting s.bus i ≡ n → waiting_at seg a ≡ n
waits_here s seg a i n view here is =
    ap (λ (o : Option ℕ). elim o as (λ (_ : Option ℕ). ℕ) [ None ↦ 0 | Some k ↦ waiting seg.bus k ]) (sym here) ∙ ap (λ (x : Segment). waiting x.bus i) (sym view) ∙ is

pub none_waits : (n : ℕ) → (0 < n → false ≡ true) → n ≡ 0
none_waits n h = elim (cases_lt 0 n) [ inl some ↦ absurd (false≢true (h some)) | inr none ↦ omega (arith, none) ]

pub waits_nowhere : (seg : Segment) (a : Address) → place_of seg a ≡ None → waiting_at seg a ≡ 0
waits_nowhere seg a none = ap (λ (o : Option ℕ). elim o as (λ (_ : Option ℕ). ℕ) [ None ↦ 0 | Some k ↦ waiting seg.bus k ]) none

-- What it does with its next frame

abbrev by_place : Segment → Address → Option ℕ → Passing
by_place seg a o = elim o as (λ (_ : Option ℕ). Passing) [ None ↦ Rests | Some i ↦ passing_with (next_frame seg.bus i) (station_at seg a) ]

pub rests_nowhere : (seg : Segment) (a : Address) → place_of seg a ≡ None → Rests ≡ passing_at seg a
rests_nowhere seg a none = sym (ap (by_place seg a) none)

module _ (s : Inside) (seg : Segment) (a : Address) (i : ℕ) (view : state_value s ≡ seg) (here : Some i ≡ place_of seg a) where
  next_here : (next : Option CanFrame) → next ≡ next_frame s.bus i → passing_with next (station_at seg a) ≡ passing_at seg a
  next_here next is =
      ap (λ (o : Option CanFrame). passing_with o (station_at seg a)) (is ∙ ap (λ (x : Segment). next_frame x.bus i) view) ∙ ap (by_place seg a) here

  pub rests_here : None ≡ next_frame s.bus i → Rests ≡ passing_at seg a
  rests_here none = next_here None none

  module _ (st : Station) (frame : CanFrame) (within : i < length seg.stations) (is : st ≡ get_or s.stations.items i st) (next : Some frame ≡ next_frame s.bus i) where
    looks : passing_with (Some frame) st ≡ passing_at seg a
    looks = ap (passing_with (Some frame)) (sym (station_here s seg a i st view here within is)) ∙ next_here (Some frame) next

    pub busy_full : is_some (taking_refusal st) ≡ true → Busy ≡ passing_at seg a
    busy_full full = sym (ap (λ (b : Bool). cond {A = Passing} (b || concerns st frame) Busy Passed) full) ∙ looks

    pub busy_with : is_some (taking_refusal st) ≡ false → concerns st frame ≡ true → Busy ≡ passing_at seg a
    busy_with free ours =
        let e : passing_with (Some frame) st ≡ Busy = (λ k. cond {A = Passing} (free k || ours k) Busy Passed) in
        sym e ∙ looks

    pub passes_on : is_some (taking_refusal st) ≡ false → concerns st frame ≡ false → Passed ≡ passing_at seg a
    passes_on free other =
        let e : passing_with (Some frame) st ≡ Passed = (λ k. cond {A = Passing} (free k || other k) Busy Passed) in
        sym e ∙ looks

-- The Take

pub passed_by : (s : Inside) (seg : Segment) (a : Address) (i : ℕ) (st : Station) (frame : CanFrame) (passed : Bus) → state_value s ≡ seg → Some i ≡ place_of seg a → i < length seg.stations → st ≡ get_or s.stations.items i st
    → Some frame ≡ next_frame s.bus i → 0 < waiting s.bus i → taking_refusal st ≡ None → concerns st frame ≡ false → passed ≡ released (moved s.bus i) → PassesBy seg a (state_value (record s { bus = passed }))
passed_by s seg a i st frame passed view here within is next waits free other on =
    let after : Segment = state_value (record s { bus = passed }) in
    let put_back : set s.stations.items i st ≡ s.stations.items = ap (λ (x : Station). set s.stations.items i x) is ∙ set-get_or s.stations.items i st in
    let made : at_address seg a (takes seg true) ≡ said after (Done []) =
    at_here s seg a i st (takes seg true) view here within is
    ∙ takes_is seg true i st frame (quietly st) (next ∙ ap (λ (x : Segment). next_frame x.bus i) view) free (unconcerned_taken st frame true seg.now other)
    ∙ taken_view s seg i st frame st [] false (moved s.bus i) passed after (Done []) view (sym (unconcerned_formed st frame other)) refl on (λ k. record { now = s.clock; stations = sym put_back k; bus = passed; counts = s.counts }) refl in
    let here_after : Some i ≡ place_of after a = here ∙ ap (λ (x : Segment). place_of x a) (sym view) in
    let within_after : i < length after.stations = subst (λ (x : Segment). i < length x.stations) (sym view) within in
    record {
      waits = subst (λ (n : ℕ). 0 < n) (sym (waits_here s seg a i (waiting s.bus i) view here refl)) waits;
      taken = ap (replied seg) (takes_called seg a true ∙ made);
      only = ap (λ (x : Segment). record x { bus = passed }) view;
      free = subst (λ (x : Station). length x.queue < queue_limit) (sym (station_here (record s { bus = passed }) after a i st refl here_after within_after is)) (has_place st free);
      stands = done_stands seg after (Take a true) (Done []) refl (takes_called seg a true ∙ made);
    }
