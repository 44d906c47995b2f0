-- Nothing but memory is lacking for a call that isn't refused.
use Rattle.std.proofs.Common.{◌≡◌, ◌<◌, Bool, true, false, List, Option, None, Ok, Err, IsOk, refl, sym, ◌∙◌, subst}
use Rattle.pgn_ids.specs.declared.address.Address.{Address}
use Rattle.segment_law.specs.Segment.{Segment}
use Rattle.segment_law.specs.Calls.{Answer, called}
use Rattle.segment_law.specs.declared.refusal.Refusal.{Refusal}
use Rattle.segment_state.specs.Answers.{refusal_of}
use Rattle.live_calls.specs.declared.call.WorkerCall.{WorkerCall}
use Rattle.live_record.specs.declared.calls.TheConstants.{MOST_CALLS}
use Rattle.stored_calls.specs.declared.stored.Stored.{Stored}
use Rattle.segment_rings.specs.Views.{SeatView, DoorView}
use Rattle.live_calls.specs.Words.{call_of}
use Rattle.live_record.specs.Record.{trail}
use Rattle.live_record.specs.Past.{count_since}
use Rattle.live_segment.specs.LiveView.{live_view, LacksMemory, Kept}

-- where the segment doesn't refuse a call, nothing but memory may be lacking
pub lacks_memory : (keeps : Kept) (addresses : List Address) (st : Segment) (xs : List Stored) (ss : List SeatView) (ds : List DoorView) (call : WorkerCall) (o : Option Refusal) → st ≡ (trail addresses xs).state → count_since keeps.pieces xs < MOST_CALLS
    → o ≡ None → ((room : Bool) → o ≡ refusal_of (called st (call_of call room))) → LacksMemory (live_view keeps addresses xs ss ds) call
lacks_memory keeps addresses st xs ss ds call o at few none e = record {
  few = few;
  passes = λ room. subst (λ (s : Segment). refusal_of (called s (call_of call room)) ≡ None) at (sym (e room) ∙ none);
}

-- what isn't refused has no cause
pub no_cause : (x : Answer) → IsOk x → None ≡ refusal_of x
no_cause (Ok step) h = refl
no_cause (Err c) h = absurd (let no : false ≡ true = h in cc)
