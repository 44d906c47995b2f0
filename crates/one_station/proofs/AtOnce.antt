-- A frame that is put on the inner bus and taken at once.
use Rattle.std.proofs.Common.{◌≡◌, ℕ, Bool, true, List, [], ◌∷◌, ◌++◌, None, Ok, IsOk, refl, sym, ap, ◌∙◌, subst}
use Rattle.bus_frame.specs.Frames.{CanFrame}
use Rattle.pgn_ids.specs.declared.address.Address.{Address}
use Rattle.message_events.specs.declared.event.Event.{Event}
use Rattle.segment_law.specs.Segment.{Segment}
use Rattle.segment_law.specs.Calls.{called, applied, events_of}
use Rattle.segment_law.specs.Record.{Record, StandsAt}
use Rattle.segment_law.specs.declared.call.Call.{Call}
use Rattle.segment_law.specs.declared.call.Call.TheVariants.{Transmit, Take, Inject}
use Rattle.segment_law.specs.declared.reply.Reply.{Reply}
use Rattle.segment_law.specs.declared.reply.Reply.TheVariants.{Done}
use Rattle.segment_state.specs.PutTaken.{PutTaken}
use Rattle.one_station.specs.Node.{Node}
use Rattle.one_station.specs.NodeFields.{IsStood, HasLookedAtAll}
use Rattle.one_station.specs.Looks.{comes_on_bus, Tells, Puts}
use Rattle.one_station.specs.Answers.{IsTakenIn, IsPassedBy, first_cause, as_error}
use Rattle.one_station.specs.declared.error.Fed.TheVariants.{Taken}
use Rattle.one_station.proofs.Made.{node_of, tells_quietly, did_two, took_in}
use Rattle.one_station.proofs.Resting.{done_ok, none_of, may_feed, looked_again}

-- a call that has these events
tells_so : (before after : Segment) (call : Call) (waiting left events : List Event) → applied before call ≡ (after, Done events) → left ≡ waiting ++ events
    → ((addresses : List Address) (steps : Record) → StandsAt addresses steps before → StandsAt addresses (steps ++ (call, Done events) ∷ []) after) → Tells before waiting call after left
tells_so before after call waiting left events says is stands = record {
  made = ap (λ (p : Segment × Reply). p.0) says;
  told = is ∙ ap (λ (p : Segment × Reply). waiting ++ events_of p.1) (sym says);
  stands = λ addresses steps h. subst (λ (p : Segment × Reply). StandsAt addresses (steps ++ (call, p.1) ∷ []) after) (sym says) (stands addresses steps h);
}

module _ (segment after : Segment) (address : Address) (call : Call) (told : List Event) (p : PutTaken segment call address after told) where
  puts : Puts segment call p.between
  puts = tells_quietly segment p.between call p.put p.put_stands

  ok : IsOk (called segment call)
  ok = done_ok segment p.between call [] p.put

  takes : (waiting left : List Event) → left ≡ waiting ++ told → Tells p.between waiting (Take address true) after left
  takes waiting left is = tells_so p.between after (Take address true) waiting left told p.taken is p.taken_stands

  -- then none waits
  pub looked_at_once : comes_on_bus call ≡ true → IsStood address segment → HasLookedAtAll address segment → IsStood address after × HasLookedAtAll address after
  looked_at_once comes stood looked =
      looked_again address segment p.between after call true [] told comes stood looked ok puts (done_ok p.between after (Take address true) told p.taken) (takes [] told refl)

-- the frame of another node
pub took_at_once : (now : Node) (segment after : Segment) (address : Address) (events told left : List Event) (missed : Bool) (quiet : ℕ) (frame : CanFrame) → node_of segment address events missed quiet ≡ now → first_cause now frame None ≡ None → PutTaken segment (Inject frame) address after told → left ≡ events ++ told
    → IsTakenIn now frame (node_of after address left missed quiet) (Ok Taken)
took_at_once now segment after address events told left missed quiet frame view cause p is =
    let free = may_feed now segment address events missed quiet frame view cause in (
      free.1 ∙ ap as_error (none_of (called segment (Inject frame)) (ok segment after address (Inject frame) told p)),
      took_in now segment p.between after address events events left missed quiet (Inject frame) Taken view refl (puts segment after address (Inject frame) told p) (takes segment after address (Inject frame) told p events left is),
    )

-- the node's own, which is put and passed by
pub passed_apart : (now : Node) (segment mid after : Segment) (address : Address) (events : List Event) (missed : Bool) (quiet : ℕ) (done : Unit {0}) → node_of segment address events missed quiet ≡ now → IsOk (called segment (Transmit address))
    → Puts segment (Transmit address) mid → Puts mid (Take address true) after → IsPassedBy now (node_of after address events missed quiet) (Ok done)
passed_apart now segment mid after address events missed quiet done view passes comes silent =
    subst (λ (n : Node). IsPassedBy n (node_of after address events missed quiet) (Ok done)) view
    (ap as_error (none_of (called segment (Transmit address)) passes), did_two (node_of segment address events missed quiet) (Transmit address) (Take address true) mid after events events (comes events) (silent events))

-- at once
pub passed_at_once : (now : Node) (segment after : Segment) (address : Address) (events : List Event) (missed : Bool) (quiet : ℕ) (done : Unit {0}) → node_of segment address events missed quiet ≡ now → PutTaken segment (Transmit address) address after [] → IsPassedBy now (node_of after address events missed quiet) (Ok done)
passed_at_once now segment after address events missed quiet done view p =
    passed_apart now segment p.between after address events missed quiet done view (ok segment after address (Transmit address) [] p) (puts segment after address (Transmit address) [] p) (tells_quietly p.between after (Take address true) p.taken p.taken_stands)
