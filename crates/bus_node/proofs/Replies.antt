-- What a call is answered that opens no port and sends no message.
use Rattle.std.proofs.Common.{◌≡◌, ℕ, [], Ok, Err, IsOk, refl, ap, ◌∙◌, sym}
use Rattle.pgn_ids.specs.declared.address.Address.{Address}
use Rattle.port_table.specs.declared.port.PortId.{PortId}
use Rattle.script_text.specs.Replies.{reply_line}
use Rattle.segment_law.specs.Segment.{Segment}
use Rattle.segment_law.specs.Calls.{Answer, called, replied, applied}
use Rattle.segment_law.specs.declared.call.Call.{Call}
use Rattle.segment_law.specs.declared.call.Call.TheVariants.{Close, Pause, Resume, Cancel}
use Rattle.segment_law.specs.declared.reply.Reply.{Reply}
use Rattle.segment_law.specs.declared.reply.Reply.TheVariants.{Opened, Sent, Refused, Done}
use Rattle.record_law.proofs.Replies.{IsReplyTo, refused_for, fits}

is_reply : (seg : Segment) (call : Call) → IsOk (called seg call) → IsReplyTo (applied seg call).1 call
is_reply seg call ok = by (called seg call) refl ok
  where
    by : (x : Answer) → called seg call ≡ x → IsOk x → IsReplyTo (replied seg x).1 call
    by (Err cause) is ok = absurd cc
    by (Ok (new, Opened port)) is ok = fits seg call new (Opened port) (ap (replied seg) is) tt
    by (Ok (new, Sent number)) is ok = fits seg call new (Sent number) (ap (replied seg) is) tt
    by (Ok (new, Done events)) is ok = fits seg call new (Done events) (ap (replied seg) is) tt
    by (Ok (new, Refused cause)) is ok = absurd (let e = sym is ∙ (refused_for seg call new cause (ap (replied seg) is)).0 in cc)

-- its line says that it was done
abbrev IsDone : Call → Type 0
IsDone call = (reply : Reply) → IsReplyTo reply call → reply_line (Done []) ≡ reply_line reply

closes : (port : PortId) → IsDone (Close port)
unfolding reply_line
closes port (Opened p) h = absurd h
closes port (Sent number) h = absurd h
closes port (Refused cause) h = absurd h
closes port (Done events) h = refl

pauses : (port : PortId) → IsDone (Pause port)
unfolding reply_line
pauses port (Opened p) h = absurd h
pauses port (Sent number) h = absurd h
pauses port (Refused cause) h = absurd h
pauses port (Done events) h = refl

resumes : (port : PortId) → IsDone (Resume port)
unfolding reply_line
resumes port (Opened p) h = absurd h
resumes port (Sent number) h = absurd h
resumes port (Refused cause) h = absurd h
resumes port (Done events) h = refl

cancels : (from to : Address) (number : ℕ) → IsDone (Cancel from to number)
unfolding reply_line
cancels from to number (Opened p) h = absurd h
cancels from to number (Sent n) h = absurd h
cancels from to number (Refused cause) h = absurd h
cancels from to number (Done events) h = refl

abbrev SaysDone : Segment → Call → Type 0
SaysDone seg call = IsOk (called seg call) → reply_line (Done []) ≡ reply_line (applied seg call).1

pub close_done : (seg : Segment) (port : PortId) → SaysDone seg (Close port)
close_done seg port ok = closes port (applied seg (Close port)).1 (is_reply seg (Close port) ok)

pub pause_done : (seg : Segment) (port : PortId) → SaysDone seg (Pause port)
pause_done seg port ok = pauses port (applied seg (Pause port)).1 (is_reply seg (Pause port) ok)

pub resume_done : (seg : Segment) (port : PortId) → SaysDone seg (Resume port)
resume_done seg port ok = resumes port (applied seg (Resume port)).1 (is_reply seg (Resume port) ok)

pub cancel_done : (seg : Segment) (from to : Address) (number : ℕ) → SaysDone seg (Cancel from to number)
cancel_done seg from to number ok = cancels from to number (applied seg (Cancel from to number)).1 (is_reply seg (Cancel from to number) ok)
