-- A frame which is none of a station's business is taken: what that leaves, and the turn that does nothing else.
use Rattle.std.proofs.Common.{◌≡◌, ℕ, ◌+◌, ◌-◌, ◌<◌, ◌^◌, ◌&&◌, ◌||◌, Bool, true, false, nat_lt, List, ◌∷◌, ◌++◌, length, map, Option, None, refl, sym, ◌∙◌, ap, subst, arith, []}
use Rattle.std.specs.Prelude.{nat_le, is_some}
use Rattle.std.proofs.lemmas.Bool.{false≢true, lt-ltb, lt-leb}
use Rattle.bus_order.specs.Bus.{kept_limit}
use Rattle.tx_queue.specs.Queue.{queue_limit}
use Rattle.pgn_ids.specs.declared.address.Address.{Address}
use Rattle.segment_law.specs.Segment.{Segment, waiting_at}
use Rattle.segment_law.specs.Readers.{next_pump, is_due, queue_len}
use Rattle.segment_law.specs.declared.call.Call.{Call}
use Rattle.segment_law.specs.declared.call.Call.TheVariants.{Take}
use Rattle.segment_law.specs.declared.reply.Reply.{Reply}
use Rattle.segment_law.specs.declared.reply.Reply.TheVariants.{Done}
use Rattle.segment_law.proofs.Drifting.{stands_drifts}
use Rattle.live_record.specs.Replies.{reply_of, Follows}
use Rattle.live_record.proofs.Replies.{follows}
use Rattle.segment_state.specs.Next.{is_active}
use Rattle.segment_state.specs.Passing.{PassesBy}
use Rattle.segment_state.proofs.PassedBy.{none_there}
use Rattle.segment_rings.specs.Views.{SeatView, DoorView}
use Rattle.stored_calls.specs.declared.stored.Stored.{Stored}
use Rattle.live_record.specs.declared.owed.Owed.{Owed}
use Rattle.live_calls.specs.declared.call.WorkerCall.TheVariants as worker
use Rattle.live_segment.specs.Facts.{Holds}
use Rattle.live_ends.specs.Ends.{IdsFrom, HaveRoom, OwedWithin, note_all, give_all}
use Rattle.live_segment.specs.LiveView.{LiveView, Kept, Applied, live_view, client_of, port_of}
use Rattle.live_record.specs.Record.{stored, trail}
use Rattle.live_segment.specs.Offers.{IsAtRest}
use Rattle.live_segment.specs.Turns.{Point, point, no_turn, one_more, Makes, MakesWhere, PumpsTo, Finishes, StationTurn, is_stuck, state_of}
use Rattle.live_segment.specs.declared.turns.Turn.{Turn}
use Rattle.live_calls.specs.Words.{call_of}
use Rattle.live_segment.proofs.Applying.{spares_none}
use Rattle.live_ends.proofs.Giving.{give_all_unplaced}
use Rattle.live_segment.proofs.Holding.{holds-tell}
use Rattle.live_segment.proofs.Resting.{below_at_rest}
use Rattle.live_ends.proofs.Noting.{note_all_none}
use Rattle.live_segment.proofs.Telling.{ports_untold, clients_untold}

-- What the Take leaves

pub holds-passed : (addresses : List Address) (st next : Segment) (xs : List Stored) (ws : List Owed) (ss : List SeatView) (ds : List DoorView) (station : Address) → Holds addresses st xs ws ss ds → length xs + 1 < 2 ^ 64 → PassesBy st station next
    → Holds addresses next (xs ++ stored None (Take station true) ∷ []) ws ss ds
holds-passed addresses st next xs ws ss ds station h few p =
    let call : Call = Take station true in
    let ys : List Stored = xs ++ stored None call ∷ [] in
    let steps = (trail addresses xs).steps in
    let f : Follows st call next (Done []) = subst (λ (x : Segment × Reply). Follows st call x.0 x.1) p.taken (follows addresses steps st (stands_drifts addresses steps st h.stands) call) in
    let seats : note_all [] ss ≡ ss = note_all_none ss in
    let doors : give_all [] ds ≡ ds = give_all_unplaced [] ds refl in
    let told : Holds addresses next ys ws (note_all [] ss) (give_all [] ds) =
    holds-tell addresses st next xs ws ss ds call [] h few (ap (λ (x : Segment × Reply). x.1) p.taken) (sym (ap (λ (x : Segment × Reply). x.0) p.taken)) (p.stands addresses steps h.stands) f
    (subst (λ (u : List SeatView). IdsFrom 0 u) (sym seats) h.ids) (subst (λ (u : List SeatView). HaveRoom ws u) (sym seats) h.room) (subst (λ (u : List SeatView). OwedWithin (length u) ws) (sym seats) h.within) in
    subst (λ (u : List SeatView). Holds addresses next ys ws u ds) seats (subst (λ (u : List DoorView). Holds addresses next ys ws (note_all [] ss) u) doors told)

pub passed_as : (keeps : Kept) (addresses : List Address) (st next : Segment) (xs : List Stored) (ss : List SeatView) (ds : List DoorView) (station : Address) → st ≡ (trail addresses xs).state → PassesBy st station next
    → Applied (live_view keeps addresses xs ss ds) (live_view keeps addresses (xs ++ stored None (Take station true) ∷ []) ss ds) (worker.Take station) (Done []) true
passed_as keeps addresses st next xs ss ds station at p = record {
  reply = sym (ap (λ (x : Segment × Reply). x.1) p.taken) ∙ ap (λ (s : Segment). reply_of s (call_of (worker.Take station) true)) at;
  addresses = refl;
  stopped = refl;
  pieces = refl;
  calls = refl;
  clients = sym (clients_untold 0 (map client_of ss));
  ports = sym (ports_untold (map port_of ds));
  closed = spares_none (map port_of ds);
  room = λ none. absurd (false≢true (sym none));
}

pub passes_at : (st next left after : Segment) (station : Address) → st ≡ left → next ≡ after → PassesBy st station next → PassesBy left station after
passes_at st next left after station a b p = subst (λ (u : Segment). PassesBy u station after) a (subst (λ (u : Segment). PassesBy st station u) b p)

-- Its turn

below : (b : Bool) → (b && false) ≡ false
below true = refl
below false = refl

pub free_then : (seg : Segment) (station : Address) → queue_len seg station < queue_limit → is_stuck seg station ≡ false
free_then seg station l = ap (λ (b : Bool). nat_le (kept_limit - 1) (waiting_at seg station) && b) (lt-leb queue_limit (queue_len seg station) l) ∙ below (nat_le (kept_limit - 1) (waiting_at seg station))

pub rests_then : (seg : Segment) (station : Address) → waiting_at seg station ≡ 0 → is_stuck seg station ≡ false
rests_then seg station none = ap (λ (n : ℕ). nat_le (kept_limit - 1) n && nat_le queue_limit (queue_len seg station)) none

-- a station that isn't active has no timer that is due, and nothing to pump
neither : (b c : Bool) → (b || c) ≡ false → (b ≡ false) × (c ≡ false)
neither true c e = absurd (false≢true (sym e))
neither false c e = (refl, e)

pub not_due : (seg : Segment) (station : Address) → is_active seg station ≡ false → is_due seg station ≡ false
not_due seg station calm = (neither (is_due seg station) (is_some (next_pump seg station)) calm).0

pub none_pumps : (seg : Segment) (station : Address) → is_active seg station ≡ false → next_pump seg station ≡ None
none_pumps seg station calm = none_there (next_pump seg station) (neither (is_due seg station) (is_some (next_pump seg station)) calm).1

-- nothing is fired at a station that isn't active
pub fires_none : (a b : LiveView) (t : Turn) (station : Address) → is_active (state_of a) station ≡ false → b ≡ a → MakesWhere (is_due (state_of a) station) (worker.Fire station) (point a t) (point b t)
fires_none a b t station calm same =
    subst (λ (u : LiveView). MakesWhere (is_due (state_of a) station) (worker.Fire station) (point a t) (point u t)) (sym same)
    (subst (λ (wanted : Bool). MakesWhere wanted (worker.Fire station) (point a t) (point a t)) (sym (not_due (state_of a) station calm)) refl)

-- nobody submitted, and nothing is pumped
pub turn_finished : (a : LiveView) (q : Point) (station : Address) → IsAtRest station a → is_active (state_of a) station ≡ false → Finishes station (point a no_turn) q → StationTurn station (point a no_turn) q
turn_finished a q station rests calm f =
    let start : Point = point a no_turn in
    record {
      accepted = start;
      pumped = start;
      taken = f.taken;
      fired = f.fired;
      accepts = below_at_rest (length a.clients) a no_turn station (omega arith) rests;
      pumps = subst (λ (o : Option Address). PumpsTo o station start start) (sym (none_pumps (state_of a) station calm)) refl;
      takes = f.takes;
      fires = f.fires;
      misses = f.misses;
    }

-- no timer is due either
pub turn_passed : (a b : LiveView) (station : Address) → IsAtRest station a → is_active (state_of a) station ≡ false → Makes (worker.Take station) (point a no_turn) (point b (one_more no_turn)) → PassesBy (state_of a) station (state_of b) → StationTurn station (point a no_turn) (point b (one_more no_turn))
turn_passed a b station rests calm made p =
    let start : Point = point a no_turn in
    let taken : Point = point b (one_more no_turn) in
    let due : is_due (state_of b) station ≡ false = ap (λ (s : Segment). is_due s station) p.only ∙ not_due (state_of a) station calm in
    turn_finished a taken station rests calm (record {
      taken = taken;
      fired = taken;
      takes = subst (λ (wanted : Bool). MakesWhere wanted (worker.Take station) start taken) (sym (lt-ltb 0 (waiting_at (state_of a) station) p.waits)) made;
      fires = subst (λ (wanted : Bool). MakesWhere wanted (worker.Fire station) taken taken) (sym due) refl;
      misses = subst (λ (wanted : Bool). MakesWhere wanted (worker.Overrun station (waiting_at (state_of b) station)) taken taken) (sym (free_then (state_of b) station p.free)) refl;
    })

pub turn_rests : (a : LiveView) (station : Address) → IsAtRest station a → is_active (state_of a) station ≡ false → waiting_at (state_of a) station ≡ 0 → StationTurn station (point a no_turn) (point a no_turn)
turn_rests a station rests calm none =
    let start : Point = point a no_turn in
    turn_finished a start station rests calm (record {
      taken = start;
      fired = start;
      takes = subst (λ (n : ℕ). MakesWhere (nat_lt 0 n) (worker.Take station) start start) (sym none) refl;
      fires = fires_none a a no_turn station calm refl;
      misses = subst (λ (wanted : Bool). MakesWhere wanted (worker.Overrun station (waiting_at (state_of a) station)) start start) (sym (rests_then (state_of a) station none)) refl;
    })
