-- What a drain does next, by what stations can do.
use Rattle.std.proofs.Common.{◌≡◌, ℕ, zero, suc, ◌<◌, ◌==◌, nat_lt, Bool, true, false, cond, not, ◌&&◌, List, [], ◌∷◌, ◌++◌, length, Option, Some, None, Ok, Err, refl, sym, ap, ◌∙◌, subst, arith}
use Rattle.std.specs.Prelude.{All, slice_get, is_some, is_none, is_ok, unwrap_or}
use Rattle.std.specs.Option.{option_map}
use Rattle.std.proofs.lemmas.Bool.{true≢false}
use Rattle.std.proofs.lemmas.Option.{none-some, same_Some, slice_get_within, get_or_from_slice_get}
use Rattle.bus_frame.specs.Frames.{CanFrame}
use Rattle.pgn_ids.specs.declared.address.Address.{Address}
use Rattle.tx_queue.specs.Queue.{free_places, front}
use Rattle.bus_order.specs.Bus.{next_frame, is_full}
use Rattle.lane_core.specs.declared.refused.PumpRefused.{PumpRefused}
use Rattle.lane_core.specs.declared.refused.PumpRefused.TheVariants as pump
use Rattle.station_lanes.specs.Lanes.{Lanes}
use Rattle.station_lanes.specs.LaneReaders.{found_or, least_below, refusal_at}
use Rattle.station_lanes.proofs.Counting.{same_up_to, none_from, least_is}
use Rattle.station_core.specs.Station.{Station}
use Rattle.station_core.specs.Sending as sending
use Rattle.segment_law.specs.Segment.{Segment, place_of}
use Rattle.segment_law.specs.Calls.{Answer, takes, takes_by, transmits, transmits_by, pumps, pumps_by, stepped, at_station, at_place, called, applied}
use Rattle.segment_law.specs.Readers.{pumps_to, next_pump}
use Rattle.segment_law.specs.declared.call.Call.TheVariants.{Pump, Transmit, Take, Fire}
use Rattle.segment_law.specs.declared.refusal.Refusal.{Refusal}
use Rattle.segment_law.specs.declared.refusal.Refusal.TheVariants as refusal
use Rattle.segment_state.specs.Answers.{refusal_of}
use Rattle.segment_drain.specs.Chosen.{node, can, lowest, is_for_bus, or_else, pump_of, makes_room, waits_until, next_tick, unblocked, untaken, next_of}
use Rattle.segment_drain.specs.declared.choosing.Next.{Next}
use Rattle.segment_drain.specs.declared.choosing.Next.TheVariants.{Make}
use Rattle.segment_drain.specs.declared.kind.Kind.{Kind}
use Rattle.segment_drain.specs.declared.kind.Kind.TheVariants as kind
use Rattle.segment_drain.proofs.Lowests.{lowest_is}

-- the least number that passes is above none
pub least_first : (test : ℕ → Bool) (n k : ℕ) → least_below test n ≡ Some k → least_below test k ≡ None
unfolding least_below
least_first test zero k e = absurd (none-some k e)
least_first test (suc n) k e = by (least_below test n) refl (test n) e (least_first test n k)
  where
    by : (o : Option ℕ) → least_below test n ≡ o → (b : Bool) → found_or o b n ≡ Some k → (least_below test n ≡ Some k → least_below test k ≡ None) → least_below test k ≡ None
    by (Some j) is b q rest = rest (is ∙ q)
    by None is true q rest = ap (least_below test) (sym (same_Some n k q)) ∙ is
    by None is false q rest = absurd (none-some k q)

-- what holds of each item holds of the one at a place
pub each_at : {A : Type 0} (P : A → Type 0) (xs : List A) (i : ℕ) (x : A) → All P xs → slice_get xs i ≡ Some x → P x
each_at P xs i x all at = subst P (get_or_from_slice_get xs i x x at) (all i x (slice_get_within xs i x at))

-- ---- the lowest address

pub none_can : (seg : Segment) (does : Kind) → ((n : ℕ) → n < 254 → can seg does (node n) ≡ false) → lowest seg does ≡ None
none_can seg does fails = ap (option_map node) (same_up_to (λ n. can seg does (node n)) 0 254 (omega arith) (λ n from below. fails n below) ∙ none_from (λ n. can seg does (node n)))

pub first_can : (seg : Segment) (does : Kind) (n : ℕ) → n < 254 → ((k : ℕ) → k < n → can seg does (node k) ≡ false) → can seg does (node n) ≡ true → lowest seg does ≡ Some (node n)
first_can seg does n below fails passes =
    sym (lowest_is seg does n (same_up_to (λ k. can seg does (node k)) 0 n (omega arith) (λ k from under. fails k under) ∙ none_from (λ k. can seg does (node k))) passes below)

-- ---- the next call

pub takes_next : (seg : Segment) (a : Address) → lowest seg kind.Take ≡ Some a → next_of seg ≡ Make (Take a true)
unfolding next_of
takes_next seg a e = ap (λ (o : Option Address). or_else o (λ b. Take b true) (untaken seg)) e

pub transmits_next : (seg : Segment) (a : Address) → lowest seg kind.Take ≡ None → lowest seg kind.Transmit ≡ Some a → next_of seg ≡ Make (Transmit a)
unfolding next_of
transmits_next seg a none e =
    ap (λ (o : Option Address). or_else o (λ b. Take b true) (untaken seg)) none
    ∙ ap (λ (o : Option Address). or_else o Transmit (cond (is_some (lowest seg kind.Blocked)) (makes_room seg) (unblocked seg))) e

pub unblocked_next : (seg : Segment) → lowest seg kind.Take ≡ None → lowest seg kind.Transmit ≡ None → lowest seg kind.Blocked ≡ None → next_of seg ≡ unblocked seg
unfolding next_of
unblocked_next seg none nothing free =
    ap (λ (o : Option Address). or_else o (λ b. Take b true) (untaken seg)) none
    ∙ ap (λ (o : Option Address). or_else o Transmit (cond (is_some (lowest seg kind.Blocked)) (makes_room seg) (unblocked seg))) nothing
    ∙ ap (λ (o : Option Address). cond (is_some o) (makes_room seg) (unblocked seg)) free

-- ---- what a station can do

-- no frame waits for it
pub no_take : (seg : Segment) (a : Address) → ((i : ℕ) → place_of seg a ≡ Some i → next_frame seg.bus i ≡ None) → can seg kind.Take a ≡ false
unfolding called
no_take seg a none = by (place_of seg a) refl
  where
    there : (i : ℕ) (o : Option Station) → next_frame seg.bus i ≡ None → is_none (refusal_of (at_station o (takes seg true i))) ≡ false
    there i None e = refl
    there i (Some st) e = ap (λ (f : Option CanFrame). is_none (refusal_of (takes_by seg true i st f))) e

    by : (o : Option ℕ) → place_of seg a ≡ o → is_none (refusal_of (at_place seg o (takes seg true))) ≡ false
    by None e = refl
    by (Some i) e = there i (slice_get seg.stations i) (none i e)

-- its queue is empty
abbrev pub HasNoneQueued : Segment → Address → Type 0
HasNoneQueued seg a = (i : ℕ) (st : Station) → place_of seg a ≡ Some i → slice_get seg.stations i ≡ Some st → st.queue ≡ []

pub no_transmit : (seg : Segment) (a : Address) → HasNoneQueued seg a → (can seg kind.Transmit a ≡ false) × (can seg kind.Blocked a ≡ false)
unfolding called
no_transmit seg a empty = by (place_of seg a) refl
  where
    Fails : Answer → Type 0
    Fails x = (is_none (refusal_of x) ≡ false) × (is_for_bus (refusal_of x) ≡ false)

    there : (i : ℕ) (o : Option Station) → slice_get seg.stations i ≡ o → place_of seg a ≡ Some i → Fails (at_station o (transmits seg i))
    there i None at e = (refl, refl)
    there i (Some st) at e = subst (λ (q : List CanFrame). Fails (transmits_by seg i st (front q))) (sym (empty i st e at)) (refl, refl)

    by : (o : Option ℕ) → place_of seg a ≡ o → Fails (at_place seg o (transmits seg))
    by None e = (refl, refl)
    by (Some i) e = there i (slice_get seg.stations i) refl e

-- whether a lane would queue something, where the queue is empty
abbrev pub would_pump : (now : ℕ) → Lanes → (to : ℕ) → Bool
would_pump now lanes to = not (to == 254) && is_none (refusal_at lanes to now)

module _ (seg : Segment) (i : ℕ) (st : Station) (empty : st.queue ≡ []) (to : ℕ) where
  pumps_is : is_ok (pumps seg (node to) i st) ≡ would_pump seg.now st.lanes to
  pumps_is = by (to == 254) (refusal_at st.lanes to seg.now)
    where
      free : nat_lt (free_places st.queue) 8 ≡ false
      free = ap (λ (q : List CanFrame). nat_lt (free_places q) 8) empty

      ends : (b : Bool) → is_ok (cond {A = Answer} b (Err refusal.TxFull) (stepped seg i (sending.pumped st (node to) seg.now))) ≡ not b
      ends true = refl
      ends false = refl

      by : (b : Bool) (o : Option PumpRefused) → is_ok (cond {A = Answer} b (Err refusal.NoSuchStation) (pumps_by seg (node to) i st o)) ≡ (not b && is_none o)
      by true o = refl
      by false None = ends (nat_lt (free_places st.queue) 8) ∙ ap not free
      by false (Some pump.NothingToSend) = refl
      by false (Some pump.NotYet) = refl

-- none of its lanes would
abbrev pub AreStill : (now : ℕ) → Lanes → (below : ℕ) → Type 0
AreStill now lanes below = (to : ℕ) → to < below → would_pump now lanes to ≡ false

module _ (seg : Segment) (a : Address) where
  pub pumps_at : (i : ℕ) (st : Station) → place_of seg a ≡ Some i → slice_get seg.stations i ≡ Some st → st.queue ≡ [] → (to : ℕ) → pumps_to seg a to ≡ would_pump seg.now st.lanes to
  unfolding called
  pumps_at i st place at empty to =
      ap (λ (o : Option ℕ). is_ok (at_place seg o (pumps seg (node to)))) place
      ∙ ap (λ (o : Option Station). is_ok (at_station o (pumps seg (node to) i))) at
      ∙ pumps_is seg i st empty to

  pub no_pump : ((i : ℕ) (st : Station) → place_of seg a ≡ Some i → slice_get seg.stations i ≡ Some st → (st.queue ≡ []) × AreStill seg.now st.lanes 256) → next_pump seg a ≡ None
  unfolding called
  no_pump still = ap (option_map node) (same_up_to (pumps_to seg a) 0 256 (omega arith) (λ to from below. by to below (place_of seg a) refl) ∙ none_from (pumps_to seg a))
    where
      there : (to : ℕ) → to < 256 → (i : ℕ) → place_of seg a ≡ Some i → (o : Option Station) → slice_get seg.stations i ≡ o → is_ok (at_station o (pumps seg (node to) i)) ≡ false
      there to below i place None at = refl
      there to below i place (Some st) at = let h = still i st place at in pumps_is seg i st h.0 to ∙ h.1 to below

      by : (to : ℕ) → to < 256 → (o : Option ℕ) → place_of seg a ≡ o → is_ok (at_place seg o (pumps seg (node to))) ≡ false
      by to below None e = refl
      by to below (Some i) e = there to below i e (slice_get seg.stations i) refl

  pub first_pump : (i : ℕ) (st : Station) → place_of seg a ≡ Some i → slice_get seg.stations i ≡ Some st → st.queue ≡ [] → (to : ℕ) → to < 256 → AreStill seg.now st.lanes to → would_pump seg.now st.lanes to ≡ true → next_pump seg a ≡ Some (node to)
  first_pump i st place at empty to below still passes =
      ap (option_map node) (least_is (pumps_to seg a) to 256
      (same_up_to (pumps_to seg a) 0 to (omega arith) (λ k from under. pumps_at i st place at empty k ∙ still k under) ∙ none_from (pumps_to seg a))
      (pumps_at i st place at empty to ∙ passes) below)

-- the lowest lane is pumped
pub pumps_next : (seg : Segment) (a to : Address) → lowest seg kind.Take ≡ None → lowest seg kind.Transmit ≡ None → lowest seg kind.Blocked ≡ None → lowest seg kind.Pump ≡ Some a → next_pump seg a ≡ Some to → next_of seg ≡ Make (Pump a to)
pumps_next seg a to none nothing free e first =
    unblocked_next seg none nothing free
    ∙ ap (λ (o : Option Address). or_else o (pump_of seg) (or_else (lowest seg kind.Fire) Fire (waits_until seg.now (next_tick seg)))) e
    ∙ ap (λ (o : Option Address). Make (Pump a (unwrap_or o a))) first
