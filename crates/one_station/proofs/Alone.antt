-- A station alone on its bus: how many frames wait for it after each call, and what isn't refused where none does.
use Rattle.std.proofs.Common.{◌≡◌, ℕ, ◌+◌, ◌-◌, ◌<◌, ◌≤◌, Bool, true, false, cond, List, [], ◌∷◌, length, set, Option, Some, None, Ok, Err, IsOk, refl, sym, ap, ◌∙◌, subst, arith, get_or-set_same}
use Rattle.std.specs.Prelude.{slice_get, slice_index_or, unwrap_or, nat_le, is_ok}
use Rattle.std.proofs.lemmas.Bool.{ltb-false, leb-false, le-ltb, ne_eqb}
use Rattle.std.proofs.lemmas.List.{length_push}
use Rattle.std.proofs.lemmas.Option.{same_Some, slice_get_within}
use Rattle.bus_frame.specs.Frames.{CanFrame}
use Rattle.pgn_ids.specs.declared.address.Address.{Address}
use Rattle.tx_queue.specs.Queue.{queue_limit}
use Rattle.bus_order.specs.Bus as bus
use Rattle.bus_order.specs.Bus.{Bus, Cursor, start, lowest, cursor_at, bus_len, next_frame, waiting}
use Rattle.bus_order.proofs.Steps.{released_len, sound_moved, read_within}
use Rattle.station_core.specs.Station.{Station, new_station}
use Rattle.station_core.specs.Overruns.{overrun}
use Rattle.segment_law.specs.Segment.{Segment, place_of, station_of, waiting_at}
use Rattle.segment_law.specs.Calls.{Answer, called, replied, applied, no_place, at_station, at_place, takes, takes_by, looks, overruns}
use Rattle.segment_law.specs.Calls as calls
use Rattle.segment_law.specs.Reached.{IsReached}
use Rattle.segment_law.specs.Readers.{queue_len}
use Rattle.segment_law.specs.declared.call.Call.{Call}
use Rattle.segment_law.specs.declared.call.Call.TheVariants.{Open, Close, Send, Pump, Transmit, Take, TakeAgain, Overrun, Tick, Fire, Cancel, Inject, Pause, Resume}
use Rattle.segment_law.specs.declared.refusal.Refusal.TheVariants as refusal
use Rattle.segment_law.specs.declared.reply.Reply.{Reply}
use Rattle.segment_law.proofs.Buses.{frame_within}
use Rattle.segment_law.proofs.FitStations.{Stays, taken_stays, pumped_stays, cancelled_stays, fired_stays, closed_stays, overrun_stays}
use Rattle.segment_law.proofs.Reaching.{as_it_is}
use Rattle.record_law.proofs.EachCall.{Holds, Accepted, each_called}
use Rattle.broadcast_law.proofs.Buses.{put_next}
use Rattle.segment_state.specs.Memory.{KeepsTwo}
use Rattle.one_station.specs.Looks.{comes_on_bus}
use Rattle.one_station.specs.NodeFields.{IsAlone, HasLookedAtAll}

-- how many frames wait after a call that isn't refused
abbrev pub waits_after : Call → ℕ → ℕ
waits_after (Transmit a) n = n + 1
waits_after (Inject f) n = n + 1
waits_after (Take a room) n = n - 1
waits_after (Overrun a m) n = n - m
waits_after call n = n

none_after : (call : Call) → comes_on_bus call ≡ false → waits_after call 0 ≡ 0
none_after (Open a pgn max_len) away = refl
none_after (Close port) away = refl
none_after (Send from to pgn bytes) away = refl
none_after (Pump a to) away = refl
none_after (Transmit a) away = absurd cc
none_after (Take a room) away = omega arith
none_after (TakeAgain a room) away = refl
none_after (Overrun a n) away = omega arith
none_after (Tick n) away = refl
none_after (Fire a) away = refl
none_after (Cancel from to number) away = refl
none_after (Inject f) away = absurd cc
none_after (Pause port) away = refl
none_after (Resume port) away = refl

lowest_of_one : (cs : List Cursor) → length cs ≡ 1 → lowest cs ≡ (slice_index_or cs 0 start).place
lowest_of_one [] e = absurd (omega (arith, e))
lowest_of_one (c ∷ []) e = refl
lowest_of_one (c ∷ d ∷ cs) e = absurd (omega (arith, e))

module _ (a : Address) (seg : Segment) (r : IsReached seg) (h : IsAlone a seg) where
  one_long : length seg.stations ≡ 1
  one_long = ap (λ (ss : List Station). length ss) h.alone

  one_cursor : length seg.bus.cursors ≡ 1
  one_cursor = omega (arith, one_long, r.bus.cursors)

  has_cursor : 0 < length seg.bus.cursors
  has_cursor = omega (arith, one_cursor)

  it : slice_get seg.stations 0 ≡ Some h.station
  it = ap (λ (ss : List Station). slice_get ss 0) h.alone

  pub place_is : place_of seg a ≡ Some 0
  place_is = ap (place_of seg) (sym h.its) ∙ r.places 0 h.station it

  within : (cursor_at seg.bus 0).place ≤ bus_len seg.bus
  within = read_within seg.bus 0 (cursor_at seg.bus 0) r.bus.sound has_cursor refl

  -- a frame is put, taken or passed over
  put_waits : (f : CanFrame) → waiting (bus.put seg.bus f) 0 ≡ waiting seg.bus 0 + 1
  put_waits f = omega (arith, length_push seg.bus.kept f, r.bus.sound.from_one, within)

  moved_waits : (to : Cursor) → (cursor_at seg.bus 0).place ≤ to.place → to.place ≤ bus_len seg.bus → (to.repeatable ≡ true → 0 < to.place) → waiting (bus.released (record seg.bus { cursors = set seg.bus.cursors 0 to })) 0 ≡ bus_len seg.bus - to.place
  moved_waits to on most repeats =
      let at : cursor_at (record seg.bus { cursors = set seg.bus.cursors 0 to }) 0 ≡ to = get_or-set_same seg.bus.cursors 0 to start has_cursor in
      ap (λ (n : ℕ). n - (cursor_at (record seg.bus { cursors = set seg.bus.cursors 0 to }) 0).place) (released_len (record seg.bus { cursors = set seg.bus.cursors 0 to }) (sound_moved seg.bus 0 to r.bus.sound has_cursor on most repeats))
      ∙ ap (λ (c : Cursor). bus_len seg.bus - c.place) at

  taken_waits : (f : CanFrame) → next_frame seg.bus 0 ≡ Some f → waiting (bus.released (bus.taken seg.bus 0)) 0 ≡ waiting seg.bus 0 - 1
  taken_waits f next =
      let most = frame_within seg.bus _ f next in
      moved_waits (record { place = (cursor_at seg.bus 0).place + 1; repeatable = true }) (omega arith) most (λ _. omega arith) ∙ omega arith

  passed_waits : (n : ℕ) → n ≤ waiting seg.bus 0 → waiting (bus.released (bus.passed seg.bus 0 n)) 0 ≡ waiting seg.bus 0 - n
  passed_waits n few = moved_waits (record { place = (cursor_at seg.bus 0).place + n; repeatable = false }) (omega arith) (omega (arith, within, few)) (λ e. absurd cc) ∙ omega arith

  module _ (i : ℕ) (st : Station) (at : slice_get seg.stations i ≡ Some st) where
    zero_is : i ≡ 0
    zero_is = let l : i < length seg.stations = slice_get_within seg.stations i st at in omega (arith, l, one_long)

    same : st ≡ h.station
    same = same_Some st h.station (sym at ∙ ap (slice_get seg.stations) zero_is ∙ it)

    stays : Stays st.address st
    stays = as_it_is seg r i st at

    -- another state of the station
    moved : (now : ℕ) (b : Bus) (counts : _) (new : Station) → new.address ≡ st.address → IsAlone a (record { now = now; stations = set seg.stations i new; bus = b; counts = counts })
    moved now b counts new e = record { station = new; alone = λ k. set (h.alone k) (zero_is k) new; its = e ∙ ap (λ (s : Station). s.address) same ∙ h.its }

  abbrev Leaves : Call → Segment × Reply → Type 0
  Leaves call step = IsAlone a step.0 × (waiting step.0.bus 0 ≡ waits_after call (waiting seg.bus 0))

  each : Accepted seg Leaves
  each = record {
    station = λ i st at. record {
      opens = λ c pgn max_len here. (moved i st at _ _ _ _ refl, refl);
      closes = λ port here there. (moved i st at _ _ _ _ (closed_stays st.address st port.number (stays i st at)).address, refl);
      sends = λ from to pgn bytes here other long short. (moved i st at _ _ _ _ refl, refl);
      pumps = λ c to here. (moved i st at _ _ _ _ (pumped_stays st.address st to seg.now (stays i st at)).address, refl);
      transmits = λ c f here first free. (moved i st at _ _ _ _ refl, put_waits f);
      takes = λ c room f here next free. (
        moved i st at _ _ _ _ (taken_stays st.address st f room seg.now (stays i st at)).address,
        ap (λ k. waiting (bus.released (bus.taken seg.bus k)) 0) (zero_is i st at) ∙ taken_waits f (sym (ap (next_frame seg.bus) (zero_is i st at)) ∙ next),
      );
      repeats = λ c room f here last free. (moved i st at _ _ _ _ (taken_stays st.address st f room seg.now (stays i st at)).address, refl);
      overruns = λ c n here few. (
        moved i st at _ _ _ _ (overrun_stays st.address st (stays i st at)).address,
        ap (λ k. waiting (bus.released (bus.passed seg.bus k n)) 0) (zero_is i st at) ∙ passed_waits n (subst (λ k. n ≤ waiting seg.bus k) (zero_is i st at) (ltb-false (waiting seg.bus i) n few)),
      );
      fires = λ c here. (moved i st at _ _ _ _ (fired_stays st.address st seg.now (stays i st at)).address, refl);
      cancels = λ from to number here pending. (moved i st at _ _ _ _ (cancelled_stays st.address st to number (stays i st at)).address, refl);
      pauses = λ port here. (moved i st at _ _ _ _ refl, refl);
      resumes = λ port here. (moved i st at _ _ _ _ refl, refl);
    };
    ticks = λ n. (record { station = h.station; alone = h.alone; its = h.its }, refl);
    injects = λ f foreign free. (record { station = h.station; alone = h.alone; its = h.its }, put_waits f);
  }

  pub leaves : (call : Call) (step : Segment × Reply) → called seg call ≡ Ok step → Leaves call step
  leaves call step e = subst (Holds seg Leaves call) e (each_called seg Leaves each call)

  -- by a call that isn't refused, and one by which no frame comes on the bus
  pub leaves_by : (call : Call) (new : Segment) → IsOk (called seg call) → (applied seg call).0 ≡ new → IsAlone a new × (waiting new.bus 0 ≡ waits_after call (waiting seg.bus 0))
  leaves_by call new ok e = by (called seg call) refl ok e
    where
      by : (x : Answer) → called seg call ≡ x → IsOk x → (replied seg x).0 ≡ new → IsAlone a new × (waiting new.bus 0 ≡ waits_after call (waiting seg.bus 0))
      by (Err cause) is ok e = absurd (cc)
      by (Ok step) is ok e = subst (λ (s : Segment). IsAlone a s × (waiting s.bus 0 ≡ waits_after call (waiting seg.bus 0))) e (leaves call step is)

  pub rests : waiting seg.bus 0 ≡ 0 → (call : Call) → comes_on_bus call ≡ false → (new : Segment) (reply : Reply) → applied seg call ≡ (new, reply) → HasLookedAtAll a new
  rests none call away new reply e = by (called seg call) refl e
    where
      by : (x : Answer) → called seg call ≡ x → replied seg x ≡ (new, reply) → HasLookedAtAll a new
      by (Err cause) is e = subst (HasLookedAtAll a) (ap (λ (p : Segment × Reply). p.0) e) (h, none)
      by (Ok step) is e = subst (HasLookedAtAll a) (ap (λ (p : Segment × Reply). p.0) e) (let d : Leaves call step = leaves call step is in (d.0, d.1 ∙ ap (waits_after call) none ∙ none_after call away))

  -- none waits
  pub waits_is : waiting_at seg a ≡ waiting seg.bus 0
  waits_is = ap (λ o. elim o as (λ (_ : Option ℕ). ℕ) [ None ↦ 0 | Some k ↦ waiting seg.bus k ]) place_is

  pub keeps_one : waiting seg.bus 0 ≡ 0 → KeepsTwo seg → ⊥
  keeps_one none two = let low = lowest_of_one seg.bus.cursors one_cursor in omega (arith, none, two, low, r.bus.released, r.bus.sound.from_one, within)

  pub overrun_passes : IsOk (called seg (Overrun a 0))
  unfolding called
  overrun_passes = ap (λ (p : Option ℕ). is_ok (at_place seg p (overruns seg 0))) place_is ∙ ap (λ (o : Option Station). is_ok (at_station o (overruns seg 0 0))) it
      ∙ ap (λ (b : Bool). is_ok (cond {A = Answer} b (Err refusal.NothingToTake) (calls.stepped (record seg { bus = bus.released (bus.passed seg.bus 0 0) }) 0 (overrun h.station)))) (le-ltb (waiting seg.bus 0) 0 (omega arith))

  -- the next frame is taken, where there is a place for an answer
  pub take_passes : (f : CanFrame) → next_frame seg.bus 0 ≡ Some f → no_place h.station ≡ false → (room : Bool) → IsOk (called seg (Take a room))
  unfolding called
  take_passes f next free room =
      ap (λ (p : Option ℕ). is_ok (at_place seg p (takes seg room))) place_is
      ∙ ap (λ (o : Option Station). is_ok (at_station o (takes seg room 0))) it
      ∙ ap (λ (o : Option CanFrame). is_ok (takes_by seg room 0 h.station o)) next
      ∙ ap (λ (b : Bool). is_ok (cond {A = Answer} b (Err refusal.TxFull) (looks (record seg { bus = bus.released (bus.taken seg.bus 0) }) room 0 h.station f))) free

  pub station_is : station_of seg a ≡ Some h.station
  station_is = ap (λ (o : Option ℕ). elim o as (λ (_ : Option ℕ). Option Station) [ None ↦ None | Some j ↦ slice_get seg.stations j ]) place_is ∙ it

  pub has_place : nat_le queue_limit (queue_len seg a) ≡ false → no_place h.station ≡ false
  has_place few =
      let long : queue_len seg a ≡ length h.station.queue = ap (λ (o : Option Station). length (unwrap_or o (new_station a)).queue) station_is in
      let less : queue_len seg a < queue_limit = leb-false queue_limit (queue_len seg a) few in
      ne_eqb (queue_limit - length h.station.queue) 0 (λ e. absurd (omega (arith, e, long, less)))

-- a frame of another node that comes where none waits is the next, and changes no station
module _ (a : Address) (seg : Segment) (r : IsReached seg) (h : IsAlone a seg) (none : waiting seg.bus 0 ≡ 0) (f : CanFrame) where
  abbrev Comes : Call → Segment × Reply → Type 0
  Comes (Inject g) step = (next_frame step.0.bus 0 ≡ Some g) × (step.0.stations ≡ seg.stations)
  Comes call step = Unit {0}

  each_comes : Accepted seg Comes
  each_comes = record {
    station = λ i st at. record {
      opens = λ c pgn max_len here. tt;
      closes = λ port here there. tt;
      sends = λ from to pgn bytes here other long short. tt;
      pumps = λ c to here. tt;
      transmits = λ c f here first free. tt;
      takes = λ c room f here next free. tt;
      repeats = λ c room f here last free. tt;
      overruns = λ c n here few. tt;
      fires = λ c here. tt;
      cancels = λ from to number here pending. tt;
      pauses = λ port here. tt;
      resumes = λ port here. tt;
    };
    ticks = λ n. tt;
    injects = λ g foreign free. (put_next seg.bus 0 g r.bus.sound (has_cursor a seg r h) none, refl);
  }

  pub comes_next : (new : Segment) → IsOk (called seg (Inject f)) → (applied seg (Inject f)).0 ≡ new → (next_frame new.bus 0 ≡ Some f) × (new.stations ≡ seg.stations)
  comes_next new ok e = by (called seg (Inject f)) (each_called seg Comes each_comes (Inject f)) ok e
    where
      by : (x : Answer) → Holds seg Comes (Inject f) x → IsOk x → (replied seg x).0 ≡ new → (next_frame new.bus 0 ≡ Some f) × (new.stations ≡ seg.stations)
      by (Err cause) k ok e = absurd (cc)
      by (Ok step) k ok e = subst (λ (s : Segment). (next_frame s.bus 0 ≡ Some f) × (s.stations ≡ seg.stations)) e k
