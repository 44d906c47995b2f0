-- What a call is answered where it isn't refused.
use Rattle.std.proofs.Common.{◌≡◌, Ok, Err, refl, sym, ap, ◌∙◌, subst}
use Rattle.segment_law.specs.Segment.{Segment}
use Rattle.segment_law.specs.Calls.{Answer, called, replied, applied}
use Rattle.segment_law.specs.declared.call.Call.{Call}
use Rattle.segment_law.specs.declared.call.Call.TheVariants.{Open, Send}
use Rattle.segment_law.specs.declared.refusal.Refusal.{Refusal}
use Rattle.segment_law.specs.declared.reply.Reply.{Reply}
use Rattle.segment_law.specs.declared.reply.Reply.TheVariants.{Opened, Sent, Refused, Done}
use Rattle.record_law.proofs.EachCall.{Holds, Accepted, each_called}

-- the name of a port for an Open, the number of a message for a Send, events for any other call
abbrev pub IsReplyTo : Reply → Call → Type 0
IsReplyTo (Refused cause) call = ⊥
IsReplyTo (Opened port) (Open a pgn max_len) = Unit {0}
IsReplyTo (Opened port) call = ⊥
IsReplyTo (Sent number) (Send from to pgn bytes) = Unit {0}
IsReplyTo (Sent number) call = ⊥
IsReplyTo (Done events) (Open a pgn max_len) = ⊥
IsReplyTo (Done events) (Send from to pgn bytes) = ⊥
IsReplyTo (Done events) call = Unit {0}

abbrev Replies : Call → Segment × Reply → Type 0
Replies call step = IsReplyTo step.1 call

each_replies : (seg : Segment) → Accepted seg Replies
each_replies seg = record {
  station = λ i st there. record {
    opens = λ a pgn max_len here. tt;
    closes = λ port here is. tt;
    sends = λ from to pgn bytes here other long short. tt;
    pumps = λ a to here. tt;
    transmits = λ a f here front free. tt;
    takes = λ a room f here next place. tt;
    repeats = λ a room f here last place. tt;
    overruns = λ a n here few. tt;
    fires = λ a here. tt;
    cancels = λ from to number here pending. tt;
    pauses = λ port here. tt;
    resumes = λ port here. tt;
  };
  ticks = λ n. tt;
  injects = λ f foreign free. tt;
}

is_reply : (seg : Segment) (call : Call) (step : Segment × Reply) → called seg call ≡ Ok step → IsReplyTo step.1 call
is_reply seg call step e = subst (Holds seg Replies call) e (each_called seg Replies (each_replies seg) call)

-- a call that is answered by a refusal is refused for that cause, and changes nothing
pub refused_for : (seg : Segment) (call : Call) (after : Segment) (cause : Refusal) → applied seg call ≡ (after, Refused cause) → (called seg call ≡ Err cause) × (after ≡ seg)
refused_for seg call after cause e = by (called seg call) refl e
  where
    by : (x : Answer) → called seg call ≡ x → replied seg x ≡ (after, Refused cause) → (called seg call ≡ Err cause) × (after ≡ seg)
    by (Err other) is e = (is ∙ ap (λ (r : Reply). err_of r) (ap (λ p. p.1) e), sym (ap (λ p. p.0) e))
      where
        err_of : Reply → Answer
        err_of (Refused c) = Err c
        err_of (Opened port) = Err other
        err_of (Sent number) = Err other
        err_of (Done events) = Err other
    by (Ok step) is e = absurd (subst (λ (r : Reply). IsReplyTo r call) (ap (λ p. p.1) e) (is_reply seg call step is))

-- any other answer
abbrev pub IsNoRefusal : Reply → Type 0
IsNoRefusal (Opened port) = Unit {0}
IsNoRefusal (Sent number) = Unit {0}
IsNoRefusal (Refused cause) = ⊥
IsNoRefusal (Done events) = Unit {0}

-- is a reply to that call
pub fits : (seg : Segment) (call : Call) (after : Segment) (reply : Reply) → applied seg call ≡ (after, reply) → IsNoRefusal reply → IsReplyTo reply call
fits seg call after reply e other = by (called seg call) refl e
  where
    by : (x : Answer) → called seg call ≡ x → replied seg x ≡ (after, reply) → IsReplyTo reply call
    by (Err cause) is e = absurd (subst IsNoRefusal (sym (ap (λ p. p.1) e)) other)
    by (Ok step) is e = subst (λ (r : Reply). IsReplyTo r call) (ap (λ p. p.1) e) (is_reply seg call step is)
