-- What is given of a stream is a choice of what was sent.
use Rattle.std.proofs.Common.{◌≡◌, ℕ, ◌+◌, ◌*◌, ◌<◌, ◌≤◌, List, [], ◌∷◌, ◌++◌, length, take, Option, Some, None, refl, sym, ap, ◌∙◌, subst, arith}
use Rattle.lane_law.specs.Message.{Message, padded, packet, packet_count, IsSent}
use Rattle.lane_law.specs.Frame.{Frame, Rts, Dpo, Packet, Request, Place, place_after}
use Rattle.lane_law.specs.Session.{Session, Given, new_session, session_after, given_of}
use Rattle.lane_law.specs.Stream.{Stream, StreamEvent, Send, Begin, QueueDpo, QueuePacket, QueueRequest, Take, PassOver, Forget, Reopen, Accept, Give, EndSession, IsNext, MayHappen, with_frame, after, empty_stream, IsReached}
use Rattle.lane_law.proofs.Bytes.{one_more, whole, sent_more}
use Rattle.lane_law.proofs.Reached.{keeps_on}

-- the given numbers rise, from above this one
abbrev pub Rise : ℕ → List Given → Type 0
Rise above [] = Unit {0}
Rise above (g ∷ gs) = (above < g.number) × Rise g.number gs

-- what was given under a number is what was sent under it
abbrev pub AreSent : List Message → List Given → Type 0
AreSent sent [] = Unit {0}
AreSent sent (g ∷ gs) = IsSent sent g.number g.message × AreSent sent gs

-- a frame that may come next behind this place: an RTS of a later message that was sent, or a packet of the message here
abbrev pub Fits : List Message → Place → Frame → Type 0
Fits sent p (Rts n m) = (p.number < n) × IsSent sent n m
Fits sent p (Dpo o) = Unit {0}
Fits sent p (Packet s b) = b ≡ packet p.message.bytes (p.offset + s)
Fits sent p (Request t) = Unit {0}

-- each frame is one that may come next
abbrev pub InOrder : List Message → Place → List Frame → Type 0
InOrder sent p [] = Unit {0}
InOrder sent p (f ∷ fs) = Fits sent p f × InOrder sent (place_after p f) fs

-- the place behind all of them
abbrev pub end_of : Place → List Frame → Place
end_of p [] = p
end_of p (f ∷ fs) = end_of (place_after p f) fs

-- all given numbers are below this one
abbrev pub Below : ℕ → List Given → Type 0
Below n [] = Unit {0}
Below n (g ∷ gs) = (g.number < n) × Below n gs

-- no given number is above this one
abbrev pub UpTo : ℕ → List Given → Type 0
UpTo n [] = Unit {0}
UpTo n (g ∷ gs) = (g.number ≤ n) × UpTo n gs

-- a frame that was the last one before this place
abbrev pub FitsAgain : List Message → Place → List Given → Frame → Type 0
FitsAgain sent p given (Rts n m) = (p ≡ record { number = n; message = m; offset = 0 }) × IsSent sent n m × Below n given
FitsAgain sent p given (Dpo o) = Unit {0}
FitsAgain sent p given (Packet s b) = b ≡ packet p.message.bytes (p.offset + s)
FitsAgain sent p given (Request t) = Unit {0}

abbrev pub AllFitAgain : List Message → Place → List Given → List Frame → Type 0
AllFitAgain sent p given [] = Unit {0}
AllFitAgain sent p given (f ∷ fs) = FitsAgain sent p given f × AllFitAgain sent p given fs

-- a session is of the message of its place, which wasn't given, and has its first packets
pub record IsSession (sent : List Message) (p : Place) (given : List Given) (x : Session) : Type 0 where
  pub number : x.number ≡ p.number
  pub pgn : x.pgn ≡ p.message.pgn
  pub size : x.size ≡ length p.message.bytes
  pub offset : x.offset ≡ p.offset
  pub collected : x.collected ≡ take (7 * x.accepted) (padded p.message.bytes)
  pub was_sent : IsSent sent p.number p.message
  pub new : Below p.number given

abbrev pub IfSession : List Message → Place → List Given → Option Session → Type 0
IfSession sent p given None = Unit {0}
IfSession sent p given (Some x) = IsSession sent p given x

-- what holds of each stream that events lead to
pub record IsStream (s : Stream) : Type 0 where
  pub order : InOrder s.sent s.reached s.forward
  pub end : end_of s.reached s.forward ≡ s.queued
  pub again : AllFitAgain s.sent s.reached s.given s.again
  pub session : IfSession s.sent s.reached s.given s.session
  pub up_to : UpTo s.reached.number s.given
  pub rise : Rise 0 s.given
  pub are_sent : AreSent s.sent s.given

-- numbers
pub below_up_to : (m n : ℕ) (gs : List Given) → m < n → UpTo m gs → Below n gs
below_up_to m n [] h u = tt
below_up_to m n (g ∷ gs) h u = (omega (arith, u.0), below_up_to m n gs h u.1)

pub up_to_more : (m n : ℕ) (gs : List Given) → m ≤ n → UpTo m gs → UpTo n gs
up_to_more m n [] h u = tt
up_to_more m n (g ∷ gs) h u = (omega (arith, u.0), up_to_more m n gs h u.1)

up_to_push : (n : ℕ) (gs : List Given) (g : Given) → g.number ≤ n → UpTo n gs → UpTo n (gs ++ g ∷ [])
up_to_push n [] g h u = (h, tt)
up_to_push n (k ∷ gs) g h u = (u.0, up_to_push n gs g h u.1)

rise_push : (b : ℕ) (gs : List Given) (g : Given) → b < g.number → Below g.number gs → Rise b gs → Rise b (gs ++ g ∷ [])
rise_push b [] g h u r = (h, tt)
rise_push b (k ∷ gs) g h u r = (r.0, rise_push k.number gs g u.0 u.1 r.1)

sent_push : (sent : List Message) (gs : List Given) (g : Given) → IsSent sent g.number g.message → AreSent sent gs → AreSent sent (gs ++ g ∷ [])
sent_push sent [] g h u = (h, tt)
sent_push sent (k ∷ gs) g h u = (u.0, sent_push sent gs g h u.1)

-- one more message
all_sent_more : (sent : List Message) (m : Message) (gs : List Given) → AreSent sent gs → AreSent (sent ++ m ∷ []) gs
all_sent_more sent m [] h = tt
all_sent_more sent m (g ∷ gs) h = (sent_more sent (m ∷ []) g.number g.message h.0, all_sent_more sent m gs h.1)

fits_more : (sent : List Message) (m : Message) (p : Place) (f : Frame) → Fits sent p f → Fits (sent ++ m ∷ []) p f
fits_more sent m p (Rts n k) h = (h.0, sent_more sent (m ∷ []) n k h.1)
fits_more sent m p (Dpo o) h = tt
fits_more sent m p (Packet s b) h = h
fits_more sent m p (Request t) h = tt

order_more : (sent : List Message) (m : Message) (p : Place) (fs : List Frame) → InOrder sent p fs → InOrder (sent ++ m ∷ []) p fs
order_more sent m p [] h = tt
order_more sent m p (f ∷ fs) h = (fits_more sent m p f h.0, order_more sent m (place_after p f) fs h.1)

again_more : (sent : List Message) (m : Message) (p : Place) (given : List Given) (fs : List Frame) → AllFitAgain sent p given fs → AllFitAgain (sent ++ m ∷ []) p given fs
again_more sent m p given [] h = tt
again_more sent m p given (Rts n k ∷ fs) h = ((h.0.0, sent_more sent (m ∷ []) n k h.0.1, h.0.2), again_more sent m p given fs h.1)
again_more sent m p given (Dpo o ∷ fs) h = (tt, again_more sent m p given fs h.1)
again_more sent m p given (Packet s b ∷ fs) h = (h.0, again_more sent m p given fs h.1)
again_more sent m p given (Request t ∷ fs) h = (tt, again_more sent m p given fs h.1)

session_more : (sent : List Message) (m : Message) (p : Place) (given : List Given) (o : Option Session) → IfSession sent p given o → IfSession (sent ++ m ∷ []) p given o
session_more sent m p given None h = tt
session_more sent m p given (Some x) h =
    record { number = h.number; pgn = h.pgn; size = h.size; offset = h.offset; collected = h.collected; was_sent = sent_more sent (m ∷ []) p.number p.message h.was_sent; new = h.new }

-- one more frame
order_push : (sent : List Message) (p : Place) (fs : List Frame) (f : Frame) → Fits sent (end_of p fs) f → InOrder sent p fs → InOrder sent p (fs ++ f ∷ [])
order_push sent p [] f h o = (h, tt)
order_push sent p (g ∷ fs) f h o = (o.0, order_push sent (place_after p g) fs f h o.1)

end_push : (p : Place) (fs : List Frame) (f : Frame) → end_of p (fs ++ f ∷ []) ≡ place_after (end_of p fs) f
end_push p [] f = refl
end_push p (g ∷ fs) f = end_push (place_after p g) fs f

queued : (s : Stream) (f : Frame) → Fits s.sent s.queued f → IsStream s → IsStream (with_frame f s)
queued s f h i = record {
  order = order_push s.sent s.reached s.forward f (subst (λ p. Fits s.sent p f) (sym i.end) h) i.order;
  end = end_push s.reached s.forward f ∙ ap (λ p. place_after p f) i.end;
  again = i.again;
  session = i.session;
  up_to = i.up_to;
  rise = i.rise;
  are_sent = i.are_sent;
}

-- a frame is taken
taken_session : (sent : List Message) (p : Place) (given : List Given) (f : Frame) (o : Option Session) → Fits sent p f → UpTo p.number given → IfSession sent p given o → IfSession sent (place_after p f) given (session_after f o)
taken_session sent p given (Rts n m) o h u i =
    record { number = refl; pgn = refl; size = refl; offset = refl; collected = refl; was_sent = h.1; new = below_up_to p.number n given h.0 u }
taken_session sent p given (Dpo k) None h u i = tt
taken_session sent p given (Dpo k) (Some x) h u i =
    record { number = i.number; pgn = i.pgn; size = i.size; offset = refl; collected = i.collected; was_sent = i.was_sent; new = i.new }
taken_session sent p given (Packet s b) o h u i = i
taken_session sent p given (Request t) o h u i = i

taken_again : (sent : List Message) (p : Place) (given : List Given) (f : Frame) → Fits sent p f → UpTo p.number given → FitsAgain sent (place_after p f) given f
taken_again sent p given (Rts n m) h u = (refl, h.1, below_up_to p.number n given h.0 u)
taken_again sent p given (Dpo k) h u = tt
taken_again sent p given (Packet s b) h u = h
taken_again sent p given (Request t) h u = tt

passed_up_to : (sent : List Message) (p : Place) (given : List Given) (f : Frame) → Fits sent p f → UpTo p.number given → UpTo (place_after p f).number given
passed_up_to sent p given (Rts n m) h u = up_to_more p.number n given (omega (arith, h.0)) u
passed_up_to sent p given (Dpo k) h u = u
passed_up_to sent p given (Packet s b) h u = u
passed_up_to sent p given (Request t) h u = u

-- the session's next packet
pub session_at : (s : Stream) (x : Session) → s.session ≡ Some x → IsStream s → IsSession s.sent s.reached s.given x
session_at s x h i = subst (λ o. IfSession s.sent s.reached s.given o) h i.session

next_packet : (s : Stream) (x : Session) (k : ℕ) (b : List ℕ) → IsNext s x k b → IsStream s → x.collected ++ b ≡ take (7 * (x.accepted + 1)) (padded s.reached.message.bytes)
next_packet s x k b h i =
    let z = session_at s x h.1 i in
    let e : b ≡ packet s.reached.message.bytes (s.reached.offset + k) = (subst (λ fs. AllFitAgain s.sent s.reached s.given fs) h.0 i.again).0 in
    let place : s.reached.offset + k ≡ x.accepted + 1 = ap (λ n. n + k) (sym z.offset) ∙ h.2 in
    ap (λ bs. bs ++ b) z.collected ∙ ap (λ bs. take (7 * x.accepted) (padded s.reached.message.bytes) ++ bs) e ∙ one_more s.reached.message.bytes x.accepted (s.reached.offset + k) place

whole_message : (s : Stream) (x : Session) (k : ℕ) (b : List ℕ) → IsNext s x k b → x.accepted + 1 ≡ packet_count x.size → IsStream s → (given_of x b).message ≡ s.reached.message
whole_message s x k b h last i =
    let z = session_at s x h.1 i in
    let bytes : take x.size (x.collected ++ b) ≡ s.reached.message.bytes =
    ap (λ n. take n (x.collected ++ b)) z.size ∙ ap (λ bs. take (length s.reached.message.bytes) bs) (next_packet s x k b h i) ∙ whole s.reached.message.bytes x.accepted (last ∙ ap packet_count z.size) in
    ap (λ n. record { pgn = n; bytes = take x.size (x.collected ++ b) }) z.pgn ∙ ap (λ bs. record { pgn = s.reached.message.pgn; bytes = bs }) bytes

pub keeps : (e : StreamEvent) (s : Stream) → MayHappen e s → IsStream s → IsStream (after e s)
keeps (Send m) s h i = record {
  order = order_more s.sent m s.reached s.forward i.order;
  end = i.end;
  again = again_more s.sent m s.reached s.given s.again i.again;
  session = session_more s.sent m s.reached s.given s.session i.session;
  up_to = i.up_to;
  rise = i.rise;
  are_sent = all_sent_more s.sent m s.given i.are_sent;
}
keeps (Begin n m) s h i = queued s (Rts n m) h i
keeps (QueueDpo o) s h i = queued s (Dpo o) tt i
keeps (QueuePacket k) s h i = queued s (Packet k (packet s.queued.message.bytes (s.queued.offset + k))) refl i
keeps (QueueRequest t) s h i = queued s (Request t) tt i
keeps (Take f rest) s h i =
    let o = subst (λ fs. InOrder s.sent s.reached fs) h i.order in
    record {
      order = o.1;
      end = ap (λ fs. end_of s.reached fs) (sym h) ∙ i.end;
      again = (taken_again s.sent s.reached s.given f o.0 i.up_to, tt);
      session = taken_session s.sent s.reached s.given f s.session o.0 i.up_to i.session;
      up_to = passed_up_to s.sent s.reached s.given f o.0 i.up_to;
      rise = i.rise;
      are_sent = i.are_sent;
    }
keeps (PassOver f rest) s h i =
    let o = subst (λ fs. InOrder s.sent s.reached fs) h i.order in
    record {
      order = o.1;
      end = ap (λ fs. end_of s.reached fs) (sym h) ∙ i.end;
      again = tt;
      session = tt;
      up_to = passed_up_to s.sent s.reached s.given f o.0 i.up_to;
      rise = i.rise;
      are_sent = i.are_sent;
    }
keeps Forget s h i = record { order = i.order; end = i.end; again = tt; session = i.session; up_to = i.up_to; rise = i.rise; are_sent = i.are_sent }
keeps (Reopen n m) s h i =
    let a = (subst (λ fs. AllFitAgain s.sent s.reached s.given fs) h i.again).0 in
    record {
      order = i.order;
      end = i.end;
      again = i.again;
      session = subst (λ p. IsSession s.sent p s.given (new_session n m)) (sym a.0) (record { number = refl; pgn = refl; size = refl; offset = refl; collected = refl; was_sent = a.1; new = a.2 });
      up_to = i.up_to;
      rise = i.rise;
      are_sent = i.are_sent;
    }
keeps (Accept x k b) s h i =
    let z = session_at s x h.1 i in
    record {
      order = i.order;
      end = i.end;
      again = i.again;
      session = record { number = z.number; pgn = z.pgn; size = z.size; offset = z.offset; collected = next_packet s x k b h i; was_sent = z.was_sent; new = z.new };
      up_to = i.up_to;
      rise = i.rise;
      are_sent = i.are_sent;
    }
keeps (Give x k b) s h i =
    let z = session_at s x h.0.1 i in
    let g = given_of x b in
    let a = subst (λ fs. AllFitAgain s.sent s.reached s.given fs) h.0.0 i.again in
    let sent : IsSent s.sent g.number g.message =
    subst (λ n. IsSent s.sent n g.message) (sym z.number) (subst (λ m. IsSent s.sent s.reached.number m) (sym (whole_message s x k b h.0 h.1 i)) z.was_sent) in
    let new : Below g.number s.given = subst (λ n. Below n s.given) (sym z.number) z.new in
    record {
      order = i.order;
      end = i.end;
      again = subst (λ fs. AllFitAgain s.sent s.reached (s.given ++ g ∷ []) fs) (sym h.0.0) (a.0, tt);
      session = tt;
      up_to = up_to_push s.reached.number s.given g (omega (arith, z.number)) i.up_to;
      rise = rise_push 0 s.given g sent.0 new i.rise;
      are_sent = sent_push s.sent s.given g sent i.are_sent;
    }
keeps EndSession s h i = record { order = i.order; end = i.end; again = i.again; session = tt; up_to = i.up_to; rise = i.rise; are_sent = i.are_sent }

pub at_first : IsStream empty_stream
at_first = record { order = tt; end = refl; again = tt; session = tt; up_to = tt; rise = tt; are_sent = tt }

pub is_stream : (s : Stream) → IsReached s → IsStream s
is_stream s h = keeps_on MayHappen after IsStream keeps empty_stream s at_first h
