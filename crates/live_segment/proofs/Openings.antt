-- Why an Open is refused: what the segment says of it beforehand is what it answers.
use Rattle.std.proofs.Common.{◌≡◌, ℕ, ◌<◌, Option, Some, None, Ok, Err, List, ◌∷◌, ◌++◌, map, refl, sym, ap, ◌∙◌, subst, inl, []}
use Rattle.std.proofs.lemmas.Option.{same_Some}
use Rattle.std.specs.Prelude.{Result, IsErr, IfErr}
use Rattle.std.specs.Result.{IsErrAnd}
use Rattle.pgn_ids.specs.declared.address.Address.{Address}
use Rattle.port_table.specs.declared.port.PortId.{PortId}
use Rattle.segment_law.specs.Segment.{Segment}
use Rattle.segment_law.specs.Calls.{Answer, called, replied}
use Rattle.segment_law.specs.declared.call.Call.{Call}
use Rattle.segment_law.specs.declared.call.Call.TheVariants.{Open}
use Rattle.segment_law.specs.declared.refusal.Refusal.{Refusal}
use Rattle.segment_law.specs.declared.reply.Reply.TheVariants.{Opened, Refused}
use Rattle.segment_state.specs.Answers.{refusal_of}
use Rattle.live_record.specs.Replies.{reply_of}
use Rattle.segment_rings.specs.Ends.{InboxEnd, new_inbox_end}
use Rattle.segment_rings.specs.Views.{SeatView, DoorView, new_door}
use Rattle.stored_calls.specs.declared.stored.Stored.{Stored}
use Rattle.live_record.specs.declared.calls.TheConstants.{MOST_CALLS}
use Rattle.live_segment.specs.declared.refused.NotMade.{NotMade}
use Rattle.live_segment.specs.declared.refused.NotMade.TheVariants as not_made
use Rattle.live_record.specs.Record.{trail, stored}
use Rattle.live_record.specs.Past.{count_since}
use Rattle.live_segment.specs.LiveView.{LiveView, live_view, port_of, new_port_view, IsOpenCause, OpenedWith, Kept}

pub refused_reply : (st : Segment) (c : Refusal) (x : Answer) → Some c ≡ refusal_of x → Refused c ≡ (replied st x).1
refused_reply st c (Ok step) e = absurd (cc)
refused_reply st c (Err d) e = ap (λ (r : Refusal). Refused r) (same_Some c d e)

pub open_free : (st at : Segment) (call : Call) (o : Option Refusal) → st ≡ at → o ≡ None → o ≡ refusal_of (called st call) → refusal_of (called at call) ≡ None
open_free st at call o same is e = subst (λ (s : Segment). refusal_of (called s call) ≡ None) same (sym e ∙ is)

-- nothing but memory is lacking to open a port
pub open_lacks : (keeps : Kept) (addresses : List Address) (st : Segment) (xs : List Stored) (ss : List SeatView) (ds : List DoorView) (station : Address) (pgn max_len : ℕ) (o : Option Refusal) (a : LiveView) → live_view keeps addresses xs ss ds ≡ a
    → st ≡ (trail addresses xs).state → o ≡ None → o ≡ refusal_of (called st (Open station pgn max_len)) → count_since keeps.pieces xs < MOST_CALLS → IsOpenCause a station pgn max_len not_made.OutOfMemory
open_lacks keeps addresses st xs ss ds station pgn max_len o a at same is e few =
    subst (λ (v : LiveView). IsOpenCause v station pgn max_len not_made.OutOfMemory) at (open_free st (trail addresses xs).state (Open station pgn max_len) o same is e, few)

-- the segment refuses to open it
pub open_cause : (keeps : Kept) (addresses : List Address) (st : Segment) (xs : List Stored) (ss : List SeatView) (ds : List DoorView) (station : Address) (pgn max_len : ℕ) (c : Refusal) (a : LiveView) → live_view keeps addresses xs ss ds ≡ a
    → st ≡ (trail addresses xs).state → Refused c ≡ reply_of st (Open station pgn max_len) → IsOpenCause a station pgn max_len (not_made.Refused c)
open_cause keeps addresses st xs ss ds station pgn max_len c a at same is =
    subst (λ (v : LiveView). IsOpenCause v station pgn max_len (not_made.Refused c)) at (inl (is ∙ ap (λ (s : Segment). reply_of s (Open station pgn max_len)) same))

ports_push : (ds : List DoorView) (d : DoorView) → map port_of (ds ++ d ∷ []) ≡ map port_of ds ++ port_of d ∷ []
ports_push [] d = refl
ports_push (x ∷ ds) d = ap (λ ps. port_of x ∷ ps) (ports_push ds d)

-- it was opened
pub opened_for : (keeps : Kept) (addresses : List Address) (st : Segment) (xs ys : List Stored) (ss : List SeatView) (ds es : List DoorView) (station : Address) (pgn max_len places free spare : ℕ) (p : PortId) (i : InboxEnd)
    → st ≡ (trail addresses xs).state → i ≡ new_inbox_end p i.spare → Opened p ≡ reply_of st (Open station pgn max_len) → ys ≡ xs ++ stored None (Open station pgn max_len) ∷ [] → es ≡ ds ++ new_door p places free spare ∷ []
    → OpenedWith (live_view keeps addresses xs ss ds) (live_view keeps addresses ys ss es) station pgn max_len places i
opened_for keeps addresses st xs ys ss ds es station pgn max_len places free spare p i at inbox is calls doors =
    let own : p ≡ i.port = sym (ap (λ (x : InboxEnd). x.port) inbox) in
    record {
      inbox = inbox ∙ ap (λ (q : PortId). new_inbox_end q i.spare) own;
      reply = ap (λ (q : PortId). Opened q) (sym own) ∙ is ∙ ap (λ (s : Segment). reply_of s (Open station pgn max_len)) at;
      addresses = refl;
      stopped = refl;
      pieces = refl;
      calls = calls;
      clients = refl;
      ports = ap (map port_of) doors ∙ ports_push ds (new_door p places free spare) ∙ ap (λ (q : PortId). map port_of ds ++ new_port_view q places ∷ []) own;
    }

-- what a `?` makes of want of memory
pub out_of_memory : {T : Type 0} (P : NotMade → Type 0) (r : Result T NotMade) → IsErr r × IsErrAnd r (λ e. e ≡ not_made.OutOfMemory) → P not_made.OutOfMemory → IfErr r P
out_of_memory P (Ok x) is h = tt
out_of_memory P (Err e) is h = subst P (sym is.1) h
