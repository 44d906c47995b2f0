-- A station passes its own frame by.
use Rattle.std.proofs.Common.{◌≡◌, ℕ, ◌-◌, ◌==◌, ◌≤◌, nat_lt, Bool, true, false, cond, List, [], ◌∷◌, ◌++◌, length, Option, Some, None, Ok, Err, IsOk, refl, sym, ap, ◌∙◌, subst, arith, eqb-true}
use Rattle.std.specs.Prelude.{slice_get, unwrap_or}
use Rattle.std.proofs.lemmas.Bool.{eq-eqb, ltb-false}
use Rattle.std.proofs.lemmas.Option.{none-some, slice_get_within}
use Rattle.bus_frame.specs.Frames.{CanFrame}
use Rattle.pgn_ids.specs.Identifier.{meaning_of}
use Rattle.pgn_ids.specs.declared.address.Address.{Address}
use Rattle.tx_queue.specs.Queue.{queue_limit, free_places, front, behind}
use Rattle.bus_order.specs.Bus as bus
use Rattle.bus_order.specs.Bus.{waiting, next_frame}
use Rattle.station_core.specs.Station.{Station, new_station}
use Rattle.station_core.specs.Taking.{looks_at}
use Rattle.segment_law.specs.Segment.{Segment, place_of, station_of, waiting_at, with_station}
use Rattle.segment_law.specs.Calls.{Answer, called, replied, applied, no_place, with_frame, done, looks, at_station, at_place, takes, takes_by}
use Rattle.segment_law.specs.Readers.{queue_len}
use Rattle.segment_law.specs.Reached.{IsReached}
use Rattle.segment_law.specs.Record.{Record, StandsAt}
use Rattle.segment_law.specs.declared.call.Call.{Call}
use Rattle.segment_law.specs.declared.call.Call.TheVariants.{Transmit, Take}
use Rattle.segment_law.specs.declared.refusal.Refusal.TheVariants as refusal
use Rattle.segment_law.specs.declared.reply.Reply.{Reply}
use Rattle.segment_law.specs.declared.reply.Reply.TheVariants.{Done}
use Rattle.segment_law.proofs.Reaching.{position_kept, slice_get_same}
use Rattle.segment_law.proofs.Records.{stands_reached, call_goes_on}
use Rattle.record_law.proofs.EachCall.{Holds, Accepted, each_called}
use Rattle.record_law.proofs.Lists.{all_each, each_get}
use Rattle.broadcast_law.specs.Queues.{QueueTheirOwn}
use Rattle.broadcast_law.proofs.Buses.{put_next}
use Rattle.one_station.specs.Looks.{Puts, PassesBy}
use Rattle.one_station.specs.NodeFields.{IsStood, HasLookedAtAll}
use Rattle.one_station.proofs.Alone.{waits_is}
use Rattle.one_station.proofs.Made.{tells_quietly}

-- a frame that a station doesn't look at is passed by, with room or without
module _ (seg : Segment) (a : Address) (i : ℕ) (st : Station) (f : CanFrame) where
  abbrev passed : Segment
  passed = record seg { bus = bus.released (bus.taken seg.bus i) }

  unseen : (room : Bool) → looks_at st f ≡ false → looks passed room i st f ≡ done (with_station passed i st)
  unseen room away = rw away refl

  passes_unseen : place_of seg a ≡ Some i → slice_get seg.stations i ≡ Some st → next_frame seg.bus i ≡ Some f → no_place st ≡ false → looks_at st f ≡ false → PassesBy seg a
  unfolding called
  passes_unseen place at next free away = (
    with_station passed i st,
    λ room.
        ap (λ (p : Option ℕ). at_place seg p (takes seg room)) place
        ∙ ap (λ (o : Option Station). at_station o (takes seg room i)) at
        ∙ ap (λ (o : Option CanFrame). takes_by seg room i st o) next
        ∙ ap (λ (b : Bool). cond {A = Answer} b (Err refusal.TxFull) (looks passed room i st f)) free
        ∙ unseen room away,
  )

own_unseen : (st : Station) (f : CanFrame) → (meaning_of f.id).from ≡ st.address → looks_at st f ≡ false
own_unseen st f own = let same : ((meaning_of f.id).from.0 == st.address.0) ≡ true = eq-eqb (meaning_of f.id).from.0 st.address.0 (ap (λ (x : Address). x.0) own) in rw same refl

-- a frame that leaves the queue leaves a place
place_left : (queue : List CanFrame) (f : CanFrame) → front queue ≡ Some f → length queue ≤ queue_limit → (free_places (behind queue) == 0) ≡ false
place_left [] f first few = absurd (none-some f first)
place_left (g ∷ queue) f first few = by (queue_limit - length queue == 0) refl
  where
    by : (b : Bool) → (queue_limit - length queue == 0) ≡ b → b ≡ false
    by true e = absurd (let none : queue_limit - length queue ≡ 0 = eqb-true (queue_limit - length queue) 0 e in omega (arith, none, few))
    by false e = refl

module _ (seg : Segment) (r : IsReached seg) (own : QueueTheirOwn seg) where
  -- the station at a place puts the first frame of its queue
  module _ (a : Address) (i : ℕ) (st : Station) (at : slice_get seg.stations i ≡ Some st) (place : place_of seg a ≡ Some i) (f : CanFrame) (first : front st.queue ≡ Some f)
      (few : queue_len seg a ≤ queue_limit) (none : nat_lt 0 (waiting_at seg a) ≡ false) where
    abbrev new : Station
    new = record st { queue = behind st.queue }

    abbrev next : Segment
    next = with_frame (with_station seg i new) f

    place_next : place_of next a ≡ Some i
    place_next = position_kept seg.stations i st new at refl a ∙ place

    station_next : slice_get next.stations i ≡ Some new
    station_next = slice_get_same seg.stations i st new at refl

    none_there : waiting seg.bus i ≡ 0
    none_there =
        let same : waiting_at seg a ≡ waiting seg.bus i = ap (λ (o : Option ℕ). elim o as (λ (_ : Option ℕ). ℕ) [ None ↦ 0 | Some j ↦ waiting seg.bus j ]) place in
        let least : waiting_at seg a ≤ 0 = ltb-false 0 (waiting_at seg a) none in omega (arith, same, least)

    frame_next : next_frame next.bus i ≡ Some f
    frame_next = put_next seg.bus i f r.bus.sound (omega (arith, slice_get_within seg.stations i st at, r.bus.cursors)) none_there

    few_there : length st.queue ≤ queue_limit
    few_there = let here : station_of seg a ≡ Some st = ap (λ (o : Option ℕ). elim o as (λ (_ : Option ℕ). Option Station) [ None ↦ None | Some j ↦ slice_get seg.stations j ]) place ∙ at in subst (λ (o : Option Station). length (unwrap_or o (new_station a)).queue ≤ queue_limit) here few

    own_first : (meaning_of f.id).from ≡ st.address
    own_first = each_get (λ (g : CanFrame). (meaning_of g.id).from ≡ st.address) st.queue 0 f first (all_each (λ (g : CanFrame). (meaning_of g.id).from ≡ st.address) st.queue (own i st at))

    looks_past : PassesBy next a
    looks_past = passes_unseen next a i new f place_next station_next frame_next (place_left st.queue f first few_there) (own_unseen new f own_first)

  abbrev Passes : Call → Segment × Reply → Type 0
  Passes (Transmit a) step = queue_len seg a ≤ queue_limit → nat_lt 0 (waiting_at seg a) ≡ false → PassesBy step.0 a
  Passes call step = Unit {0}

  each_passes : Accepted seg Passes
  each_passes = record {
    station = λ i st at. record {
      opens = λ a pgn max_len here. tt;
      closes = λ port here there. tt;
      sends = λ from to pgn bytes here other long short. tt;
      pumps = λ a to here. tt;
      transmits = λ a f here first free few none. looks_past a i st at here f first few none;
      takes = λ a room f here next free. tt;
      repeats = λ a room f here last free. tt;
      overruns = λ a n here few. tt;
      fires = λ a here. tt;
      cancels = λ from to number here pending. tt;
      pauses = λ port here. tt;
      resumes = λ port here. tt;
    };
    ticks = λ n. tt;
    injects = λ f foreign free. tt;
  }

  pub passes : (a : Address) (step : Segment × Reply) → called seg (Transmit a) ≡ Ok step → Passes (Transmit a) step
  passes a step e = subst (Holds seg Passes (Transmit a)) e (each_called seg Passes each_passes (Transmit a))

-- a station that waited for no frame put its own
pub own_passed : ((addresses : List Address) (steps : Record) (seg : Segment) → StandsAt addresses steps seg → QueueTheirOwn seg) → (segment mid : Segment) (address : Address) → IsStood address segment → HasLookedAtAll address segment → queue_len segment address ≤ queue_limit
    → IsOk (called segment (Transmit address)) → Puts segment (Transmit address) mid → PassesBy mid address
own_passed law segment mid address stood looked few ok puts = by (called segment (Transmit address)) refl ok (puts []).made
  where
    r : IsReached segment
    r = stands_reached (address ∷ []) stood.0 segment stood.1

    none : nat_lt 0 (waiting_at segment address) ≡ false
    none = ap (nat_lt 0) (waits_is address segment r looked.0 ∙ looked.1)

    by : (x : Answer) → called segment (Transmit address) ≡ x → IsOk x → (applied segment (Transmit address)).0 ≡ mid → PassesBy mid address
    by (Err cause) e ok made = absurd (cc)
    by (Ok step) e ok made =
        subst (λ (s : Segment). PassesBy s address) (sym (ap (λ (p : Segment × Reply). p.0) (ap (replied segment) e)) ∙ made)
        (passes segment r (law (address ∷ []) stood.0 segment stood.1) address step e few none)

-- a Take of it without room is one with room
pub passed_own : (before after : Segment) (a : Address) (reply : Reply) → PassesBy before a → applied before (Take a false) ≡ (after, reply) → Puts before (Take a true) after
passed_own before after a reply (next, passes) says =
    let same : next ≡ after = ap (λ (p : Segment × Reply). p.0) (sym (ap (replied before) (passes false)) ∙ says) in
    let made : applied before (Take a true) ≡ (after, Done []) = ap (replied before) (passes true) ∙ ap (λ (s : Segment). (s, Done [])) same in
    tells_quietly before after (Take a true) made
    (λ addresses steps h. subst (λ (p : Segment × Reply). StandsAt addresses (steps ++ (Take a true, p.1) ∷ []) p.0) made (call_goes_on addresses steps before (Take a true) h refl))
