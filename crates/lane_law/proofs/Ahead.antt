-- What is ahead of the two stations of a lane: predicates by recursion, and what they become when a list loses
-- its front or gets one more at its end.
use Rattle.std.proofs.Common.{◌≡◌, ◌≢◌, ℕ, ◌<◌, ◌≤◌, ◌⊎◌, inl, inr, Bool, true, false, List, [], ◌∷◌, ◌++◌, Option, Some, None, refl, sym, ap, ◌∙◌, subst, arith}
use Rattle.std.specs.Prelude.{not}
use Rattle.std.specs.List.{AllByRecursion as Each}
use Rattle.std.proofs.lemmas.Option.{none-some, same_Some}
use Rattle.lane_law.specs.Message.{Message}
use Rattle.lane_law.specs.Frame.{Frame, Rts, Dpo, Packet, Request, Place, place_after}
use Rattle.lane_law.specs.Session.{Session, Given, session_after}
use Rattle.lane_law.specs.Lane.{Answer, EndAcknowledgement, Acknowledgement}
use Rattle.lane_law.proofs.Streams.{Fits, InOrder, end_of, Below, UpTo, AllFitAgain, IfSession}

pub each_after : {A : Type 0} (P : A → Type 0) (xs ys : List A) → Each P (xs ++ ys) → Each P ys
each_after P [] ys h = h
each_after P (x ∷ xs) ys h = each_after P xs ys h.1

pub each_push : {A : Type 0} (P : A → Type 0) (xs : List A) (x : A) → P x → Each P xs → Each P (xs ++ x ∷ [])
each_push P [] x p h = (p, tt)
each_push P (y ∷ xs) x p h = (h.0, each_push P xs x p h.1)

pub each_both : {A : Type 0} (P : A → Type 0) (xs ys : List A) → Each P xs → Each P ys → Each P (xs ++ ys)
each_both P [] ys g h = h
each_both P (x ∷ xs) ys g h = (g.0, each_both P xs ys g.1 h)

pub each_weaker : {A : Type 0} (P Q : A → Type 0) → ((x : A) → P x → Q x) → (xs : List A) → Each P xs → Each Q xs
each_weaker P Q f [] h = tt
each_weaker P Q f (x ∷ xs) h = (f x h.0, each_weaker P Q f xs h.1)

-- A frame that can bring nothing of another message than `live`, the message under way once a CTS was taken: a packet meets no
-- session, or is of that message.
abbrev pub Quiet : Option ℕ → ℕ → Bool → Frame → Type 0
Quiet live m opens (Rts n k) = Unit {0}
Quiet live m opens (Dpo o) = Unit {0}
Quiet live m opens (Packet s b) = (opens ≡ false) ⊎ (Some m ≡ live)
Quiet live m opens (Request t) = Unit {0}

abbrev pub number_after : ℕ → Frame → ℕ
number_after m (Rts n k) = n
number_after m (Dpo o) = m
number_after m (Packet s b) = m
number_after m (Request t) = m

-- whether there may be a session
abbrev pub open_after : Bool → Frame → Bool
open_after opens (Rts n k) = true
open_after opens (Dpo o) = opens
open_after opens (Packet s b) = opens
open_after opens (Request t) = opens

abbrev pub Harmless : Option ℕ → ℕ → Bool → List Frame → Type 0
Harmless live m opens [] = Unit {0}
Harmless live m opens (f ∷ fs) = Quiet live m opens f × Harmless live (number_after m f) (open_after opens f) fs

abbrev pub is_open : Option Session → Bool
is_open None = false
is_open (Some x) = true

pub harmless_closed : (live : Option ℕ) (fs : List Frame) (m : ℕ) → Harmless live m true fs → Harmless live m false fs
harmless_closed live [] m h = tt
harmless_closed live (Rts n k ∷ fs) m h = h
harmless_closed live (Dpo o ∷ fs) m h = (tt, harmless_closed live fs m h.1)
harmless_closed live (Packet s b ∷ fs) m h = (inl refl, harmless_closed live fs m h.1)
harmless_closed live (Request t ∷ fs) m h = (tt, harmless_closed live fs m h.1)

-- with no session there is less to fear
pub harmless_less : (live : Option ℕ) (fs : List Frame) (m : ℕ) (opens : Bool) → Harmless live m opens fs → Harmless live m false fs
harmless_less live fs m true h = harmless_closed live fs m h
harmless_less live fs m false h = h

harmless_any : (live : Option ℕ) (fs : List Frame) (m : ℕ) (opens : Bool) → Harmless live m true fs → Harmless live m opens fs
harmless_any live fs m true h = h
harmless_any live fs m false h = harmless_closed live fs m h

-- without what the destination could take again
pub harmless_after : (live : Option ℕ) (sent : List Message) (p : Place) (given : List Given) (again fs : List Frame) (opens : Bool) → AllFitAgain sent p given again → Harmless live p.number opens (again ++ fs) → Harmless live p.number opens fs
harmless_after live sent p given [] fs opens a h = h
harmless_after live sent p given (Rts n k ∷ again) fs opens a h =
    let e : n ≡ p.number = sym (ap (λ (q : Place). q.number) a.0.0) in
    harmless_any live fs p.number opens (harmless_after live sent p given again fs true a.1 (subst (λ j. Harmless live j true (again ++ fs)) e h.1))
harmless_after live sent p given (Dpo o ∷ again) fs opens a h = harmless_after live sent p given again fs opens a.1 h.1
harmless_after live sent p given (Packet s b ∷ again) fs opens a h = harmless_after live sent p given again fs opens a.1 h.1
harmless_after live sent p given (Request t ∷ again) fs opens a h = harmless_after live sent p given again fs opens a.1 h.1

-- a frame is taken
pub harmless_taken : (live : Option ℕ) (p : Place) (o : Option Session) (f : Frame) (fs : List Frame) → Harmless live p.number (is_open o) (f ∷ fs) → Harmless live (place_after p f).number (is_open (session_after f o)) (f ∷ fs)
harmless_taken live p o (Rts n k) fs h = h
harmless_taken live p None (Dpo j) fs h = h
harmless_taken live p (Some x) (Dpo j) fs h = h
harmless_taken live p o (Packet s b) fs h = h
harmless_taken live p o (Request t) fs h = h

-- a frame is passed over
pub harmless_passed : (live : Option ℕ) (p : Place) (opens : Bool) (f : Frame) (fs : List Frame) → Harmless live p.number opens (f ∷ fs) → Harmless live (place_after p f).number false fs
harmless_passed live p opens (Rts n k) fs h = harmless_less live fs n true h.1
harmless_passed live p opens (Dpo j) fs h = harmless_less live fs p.number opens h.1
harmless_passed live p opens (Packet s b) fs h = harmless_less live fs p.number opens h.1
harmless_passed live p opens (Request t) fs h = harmless_less live fs p.number opens h.1

abbrev pub number_end : ℕ → List Frame → ℕ
number_end m [] = m
number_end m (f ∷ fs) = number_end (number_after m f) fs

pub harmless_push : (live : Option ℕ) (fs : List Frame) (m : ℕ) (opens : Bool) (f : Frame) → ((u : Bool) → Quiet live (number_end m fs) u f) → Harmless live m opens fs → Harmless live m opens (fs ++ f ∷ [])
harmless_push live [] m opens f q h = (q opens, tt)
harmless_push live (g ∷ fs) m opens f q h = (h.0, harmless_push live fs (number_after m g) (open_after opens g) f q h.1)

passed_number : (p : Place) (f : Frame) → (place_after p f).number ≡ number_after p.number f
passed_number p (Rts n k) = refl
passed_number p (Dpo o) = refl
passed_number p (Packet s b) = refl
passed_number p (Request t) = refl

end_number : (p : Place) (fs : List Frame) → (end_of p fs).number ≡ number_end p.number fs
end_number p [] = refl
end_number p (f ∷ fs) = end_number (place_after p f) fs ∙ ap (λ n. number_end n fs) (passed_number p f)

pub number_ahead : (sent : List Message) (p : Place) (given : List Given) (again fs : List Frame) → AllFitAgain sent p given again → number_end p.number (again ++ fs) ≡ (end_of p fs).number
number_ahead sent p given [] fs a = sym (end_number p fs)
number_ahead sent p given (Rts n k ∷ again) fs a =
    let e : n ≡ p.number = sym (ap (λ (q : Place). q.number) a.0.0) in
    ap (λ j. number_end j (again ++ fs)) e ∙ number_ahead sent p given again fs a.1
number_ahead sent p given (Dpo o ∷ again) fs a = number_ahead sent p given again fs a.1
number_ahead sent p given (Packet s b ∷ again) fs a = number_ahead sent p given again fs a.1
number_ahead sent p given (Request t ∷ again) fs a = number_ahead sent p given again fs a.1

-- the message gets its first CTS
pub harmless_granted : (n : ℕ) (fs : List Frame) (m : ℕ) (opens : Bool) → Harmless None m opens fs → Harmless (Some n) m opens fs
harmless_granted n [] m opens h = tt
harmless_granted n (Rts k j ∷ fs) m opens h = (tt, harmless_granted n fs k true h.1)
harmless_granted n (Dpo o ∷ fs) m opens h = (tt, harmless_granted n fs m opens h.1)
harmless_granted n (Packet s b ∷ fs) m opens h = (elim h.0 [ inl e ↦ inl e | inr e ↦ absurd (none-some m (sym e)) ], harmless_granted n fs m opens h.1)
harmless_granted n (Request t ∷ fs) m opens h = (tt, harmless_granted n fs m opens h.1)

abbrev pub IsNoRts : Frame → Type 0
IsNoRts (Rts n m) = ⊥
IsNoRts (Dpo o) = Unit {0}
IsNoRts (Packet s b) = Unit {0}
IsNoRts (Request t) = Unit {0}

pub harmless_idle : (fs : List Frame) (m : ℕ) → Each IsNoRts fs → Harmless None m false fs
harmless_idle [] m h = tt
harmless_idle (Rts n k ∷ fs) m h = absurd h.0
harmless_idle (Dpo o ∷ fs) m h = (tt, harmless_idle fs m h.1)
harmless_idle (Packet s b ∷ fs) m h = (inl refl, harmless_idle fs m h.1)
harmless_idle (Request t ∷ fs) m h = (tt, harmless_idle fs m h.1)

fits_le : (sent : List Message) (p : Place) (f : Frame) → Fits sent p f → p.number ≤ (place_after p f).number
fits_le sent p (Rts n m) h = omega (arith, h.0)
fits_le sent p (Dpo o) h = omega arith
fits_le sent p (Packet s b) h = omega arith
fits_le sent p (Request t) h = omega arith

pub order_le : (sent : List Message) (p : Place) (fs : List Frame) → InOrder sent p fs → p.number ≤ (end_of p fs).number
order_le sent p [] h = omega arith
order_le sent p (f ∷ fs) h =
    let a = fits_le sent p f h.0 in
    let b = order_le sent (place_after p f) fs h.1 in
    omega (arith, a, b)

-- no other message is begun ahead
pub order_no_rts : (sent : List Message) (p : Place) (fs : List Frame) → (end_of p fs).number ≤ p.number → InOrder sent p fs → Each IsNoRts fs
order_no_rts sent p [] e h = tt
order_no_rts sent p (Rts n m ∷ fs) e h = let b = order_le sent (place_after p (Rts n m)) fs h.1 in absurd (omega (arith, b, e, h.0.0))
order_no_rts sent p (Dpo o ∷ fs) e h = (tt, order_no_rts sent (place_after p (Dpo o)) fs e h.1)
order_no_rts sent p (Packet s b ∷ fs) e h = (tt, order_no_rts sent p fs e h.1)
order_no_rts sent p (Request t ∷ fs) e h = (tt, order_no_rts sent p fs e h.1)

-- the message with this number was given
abbrev pub WasGiven : ℕ → List Given → Type 0
WasGiven n [] = ⊥
WasGiven n (g ∷ gs) = (g.number ≡ n) ⊎ WasGiven n gs

pub given_up_to : (n m : ℕ) (gs : List Given) → UpTo m gs → WasGiven n gs → n ≤ m
given_up_to n m [] u h = absurd h
given_up_to n m (g ∷ gs) u h = elim h [ inl e ↦ omega (arith, e, u.0) | inr k ↦ given_up_to n m gs u.1 k ]

pub given_below : (n m : ℕ) (gs : List Given) → Below m gs → WasGiven n gs → n < m
given_below n m [] u h = absurd h
given_below n m (g ∷ gs) u h = elim h [ inl e ↦ omega (arith, e, u.0) | inr k ↦ given_below n m gs u.1 k ]

pub given_more : (n : ℕ) (gs : List Given) (g : Given) → WasGiven n gs → WasGiven n (gs ++ g ∷ [])
given_more n [] g h = absurd h
given_more n (k ∷ gs) g h = elim h [ inl e ↦ inl e | inr i ↦ inr (given_more n gs g i) ]

pub given_last : (gs : List Given) (g : Given) → WasGiven g.number (gs ++ g ∷ [])
given_last [] g = inl refl
given_last (k ∷ gs) g = inr (given_last gs g)

pub given_cases : (n : ℕ) (gs : List Given) (g : Given) → WasGiven n (gs ++ g ∷ []) → WasGiven n gs ⊎ (g.number ≡ n)
given_cases n [] g h = elim h [ inl e ↦ inr e | inr i ↦ absurd i ]
given_cases n (k ∷ gs) g h = elim h [ inl e ↦ inl (inl e) | inr i ↦ elim (given_cases n gs g i) [ inl j ↦ inl (inr j) | inr e ↦ inr e ] ]

-- nothing of the last message is left that could be given, once it was given
pub again_no_rts : (sent : List Message) (p : Place) (given : List Given) (fs : List Frame) → WasGiven p.number given → AllFitAgain sent p given fs → Each IsNoRts fs
again_no_rts sent p given [] h a = tt
again_no_rts sent p given (Rts n m ∷ fs) h a =
    let lt = given_below p.number n given a.0.2 h in
    let e : p.number ≡ n = ap (λ (q : Place). q.number) a.0.0 in
    absurd (omega (arith, lt, e))
again_no_rts sent p given (Dpo o ∷ fs) h a = (tt, again_no_rts sent p given fs h a.1)
again_no_rts sent p given (Packet s b ∷ fs) h a = (tt, again_no_rts sent p given fs h a.1)
again_no_rts sent p given (Request t ∷ fs) h a = (tt, again_no_rts sent p given fs h a.1)

pub session_closed : (sent : List Message) (p : Place) (given : List Given) (o : Option Session) → WasGiven p.number given → IfSession sent p given o → is_open o ≡ false
session_closed sent p given None h i = refl
session_closed sent p given (Some x) h i = let lt = given_below p.number p.number given i.new h in absurd (omega (arith, lt))

-- tokens
abbrev pub IsNotRequest : Bool → Frame → Type 0
IsNotRequest t (Rts n m) = Unit {0}
IsNotRequest t (Dpo o) = Unit {0}
IsNotRequest t (Packet s b) = Unit {0}
IsNotRequest t (Request u) = u ≢ t

abbrev pub IsRequest : Bool → Frame → Type 0
IsRequest t (Rts n m) = ⊥
IsRequest t (Dpo o) = ⊥
IsRequest t (Packet s b) = ⊥
IsRequest t (Request u) = u ≡ t

abbrev pub IsNotAck : Bool → Answer → Type 0
IsNotAck t (EndAcknowledgement n) = Unit {0}
IsNotAck t (Acknowledgement u) = u ≢ t

abbrev pub IsAck : Bool → Answer → Type 0
IsAck t (EndAcknowledgement n) = ⊥
IsAck t (Acknowledgement u) = u ≡ t

-- each Request of the token stands behind all that isn't one
abbrev pub IfRequest : Bool → Frame → Type 0 → Type 0
IfRequest t (Rts n m) P = Unit {0}
IfRequest t (Dpo o) P = Unit {0}
IfRequest t (Packet s b) P = Unit {0}
IfRequest t (Request u) P = u ≡ t → P

abbrev pub IsSwept : Bool → List Frame → Type 0
IsSwept t [] = Unit {0}
IsSwept t (f ∷ fs) = IfRequest t f (Each (IsRequest t) fs) × IsSwept t fs

-- each answer to one stands behind all that isn't one, and nothing but such Requests is ahead of the destination
abbrev pub IfAck : Bool → Answer → Type 0 → Type 0
IfAck t (EndAcknowledgement n) P = Unit {0}
IfAck t (Acknowledgement u) P = u ≡ t → P

abbrev pub AreSwept : Bool → List Frame → List Answer → Type 0
AreSwept t ahead [] = Unit {0}
AreSwept t ahead (a ∷ rs) = IfAck t a (Each (IsAck t) rs × Each (IsRequest t) ahead) × AreSwept t ahead rs

if_request : (t : Bool) (f : Frame) (P Q : Type 0) → (P → Q) → IfRequest t f P → IfRequest t f Q
if_request t (Rts n m) P Q g h = tt
if_request t (Dpo o) P Q g h = tt
if_request t (Packet s b) P Q g h = tt
if_request t (Request u) P Q g h = λ e. g (h e)

if_ack : (t : Bool) (a : Answer) (P Q : Type 0) → (P → Q) → IfAck t a P → IfAck t a Q
if_ack t (EndAcknowledgement n) P Q g h = tt
if_ack t (Acknowledgement u) P Q g h = λ e. g (h e)

pub swept_after : (t : Bool) (fs gs : List Frame) → IsSwept t (fs ++ gs) → IsSwept t gs
swept_after t [] gs h = h
swept_after t (f ∷ fs) gs h = swept_after t fs gs h.1

pub swept_push : (t : Bool) (fs : List Frame) → IsSwept t fs → IsSwept t (fs ++ Request t ∷ [])
swept_push t [] h = ((λ e. tt), tt)
swept_push t (f ∷ fs) h = (if_request t f _ _ (λ i. each_push (IsRequest t) fs (Request t) refl i) h.0, swept_push t fs h.1)

pub swept_none : (t : Bool) (fs : List Frame) → Each (IsNotRequest t) fs → IsSwept t fs
swept_none t [] h = tt
swept_none t (Rts n m ∷ fs) h = (tt, swept_none t fs h.1)
swept_none t (Dpo o ∷ fs) h = (tt, swept_none t fs h.1)
swept_none t (Packet s b ∷ fs) h = (tt, swept_none t fs h.1)
swept_none t (Request u ∷ fs) h = ((λ e. absurd (h.0 e)), swept_none t fs h.1)

pub answers_after : (t : Bool) (ahead : List Frame) (rs ss : List Answer) → AreSwept t ahead (rs ++ ss) → AreSwept t ahead ss
answers_after t ahead [] ss h = h
answers_after t ahead (a ∷ rs) ss h = answers_after t ahead rs ss h.1

pub answers_ahead : (t : Bool) (ahead ahead' : List Frame) → (Each (IsRequest t) ahead → Each (IsRequest t) ahead') → (rs : List Answer) → AreSwept t ahead rs → AreSwept t ahead' rs
answers_ahead t ahead ahead' g [] h = tt
answers_ahead t ahead ahead' g (a ∷ rs) h = (if_ack t a _ _ (λ i. (i.0, g i.1)) h.0, answers_ahead t ahead ahead' g rs h.1)

pub answers_push : (t : Bool) (ahead : List Frame) (a : Answer) → (Each (IsRequest t) ahead → IsAck t a) → IfAck t a (Each (IsRequest t) ahead) → (rs : List Answer) → AreSwept t ahead rs → AreSwept t ahead (rs ++ a ∷ [])
answers_push t ahead a g k [] h = (if_ack t a _ _ (λ i. (tt, i)) k, tt)
answers_push t ahead a g k (b ∷ rs) h = (if_ack t b _ _ (λ i. (each_push (IsAck t) rs a (g i.1) i.0, i.1)) h.0, answers_push t ahead a g k rs h.1)

pub answers_none : (t : Bool) (ahead : List Frame) (rs : List Answer) → Each (IsNotAck t) rs → AreSwept t ahead rs
answers_none t ahead [] h = tt
answers_none t ahead (EndAcknowledgement n ∷ rs) h = (tt, answers_none t ahead rs h.1)
answers_none t ahead (Acknowledgement u ∷ rs) h = ((λ e. absurd (h.0 e)), answers_none t ahead rs h.1)

pub other_token : (t : Bool) → t ≢ not t
other_token true = λ e. cc
other_token false = λ e. cc

pub harmless_requests : (t : Bool) (fs : List Frame) (m : ℕ) (opens : Bool) → Each (IsRequest t) fs → Harmless None m opens fs
harmless_requests t [] m opens h = tt
harmless_requests t (Rts n k ∷ fs) m opens h = absurd h.0
harmless_requests t (Dpo o ∷ fs) m opens h = absurd h.0
harmless_requests t (Packet s b ∷ fs) m opens h = absurd h.0
harmless_requests t (Request u ∷ fs) m opens h = (tt, harmless_requests t fs m opens h.1)

pub not_request : (t : Bool) (f : Frame) → IsRequest t f → IsNotRequest (not t) f
not_request t (Rts n k) h = tt
not_request t (Dpo o) h = tt
not_request t (Packet s b) h = tt
not_request t (Request u) h = λ e. other_token t (sym h ∙ e)

pub not_ack : (t : Bool) (a : Answer) → IsAck t a → IsNotAck (not t) a
not_ack t (EndAcknowledgement n) h = tt
not_ack t (Acknowledgement u) h = λ e. other_token t (sym h ∙ e)

-- end acknowledgements
abbrev pub IsLive : Option ℕ → Answer → Type 0
IsLive live (EndAcknowledgement n) = Some n ≡ live
IsLive live (Acknowledgement u) = Unit {0}

-- of one that was taken already, while no message has a CTS, nothing is asked
abbrev pub IsPast : Option ℕ → Answer → Type 0
IsPast live (EndAcknowledgement n) = (live ≡ None) ⊎ (Some n ≡ live)
IsPast live (Acknowledgement u) = Unit {0}

pub live_past : (live : Option ℕ) (a : Answer) → IsLive live a → IsPast live a
live_past live (EndAcknowledgement n) h = inr h
live_past live (Acknowledgement u) h = tt

pub past_idle : (rs : List Answer) → Each (IsPast None) rs
past_idle [] = tt
past_idle (EndAcknowledgement n ∷ rs) = (inl refl, past_idle rs)
past_idle (Acknowledgement u ∷ rs) = (tt, past_idle rs)

pub live_granted : (n : ℕ) (a : Answer) → IsLive None a → IsLive (Some n) a
live_granted n (EndAcknowledgement k) h = absurd (none-some k (sym h))
live_granted n (Acknowledgement u) h = tt

pub live_acks : (t : Bool) (a : Answer) → IsAck t a → IsLive None a
live_acks t (EndAcknowledgement k) h = absurd h
live_acks t (Acknowledgement u) h = tt

abbrev pub IsOfGiven : List Given → Answer → Type 0
IsOfGiven given (EndAcknowledgement n) = WasGiven n given
IsOfGiven given (Acknowledgement u) = Unit {0}

pub of_given_more : (given : List Given) (g : Given) (a : Answer) → IsOfGiven given a → IsOfGiven (given ++ g ∷ []) a
of_given_more given g (EndAcknowledgement n) h = given_more n given g h
of_given_more given g (Acknowledgement u) h = tt

-- the numbers of the end acknowledgements rise
abbrev pub IsAbove : ℕ → Answer → Type 0
IsAbove b (EndAcknowledgement n) = b < n
IsAbove b (Acknowledgement u) = Unit {0}

abbrev pub tag_after : ℕ → Answer → ℕ
tag_after b (EndAcknowledgement n) = n
tag_after b (Acknowledgement u) = b

abbrev pub TagsRise : ℕ → List Answer → Type 0
TagsRise b [] = Unit {0}
TagsRise b (a ∷ rs) = IsAbove b a × TagsRise (tag_after b a) rs

tags_lower : (b c : ℕ) (rs : List Answer) → c ≤ b → TagsRise b rs → TagsRise c rs
tags_lower b c [] le h = tt
tags_lower b c (EndAcknowledgement n ∷ rs) le h = (omega (arith, h.0), h.1)
tags_lower b c (Acknowledgement u ∷ rs) le h = (tt, tags_lower b c rs le h.1)

pub tags_after : (b : ℕ) (rs ss : List Answer) → TagsRise b (rs ++ ss) → TagsRise 0 ss
tags_after b [] ss h = tags_lower b 0 ss (omega arith) h
tags_after b (a ∷ rs) ss h = tags_after (tag_after b a) rs ss h.1

pub tags_push_ack : (t : Bool) (b : ℕ) (rs : List Answer) → TagsRise b rs → TagsRise b (rs ++ Acknowledgement t ∷ [])
tags_push_ack t b [] h = (tt, tt)
tags_push_ack t b (a ∷ rs) h = (h.0, tags_push_ack t (tag_after b a) rs h.1)

pub tags_push : (given : List Given) (n b : ℕ) (rs : List Answer) → b < n → Below n given → Each (IsOfGiven given) rs → TagsRise b rs → TagsRise b (rs ++ EndAcknowledgement n ∷ [])
tags_push given n b [] lt u g h = (lt, tt)
tags_push given n b (EndAcknowledgement k ∷ rs) lt u g h = (h.0, tags_push given n k rs (given_below k n given u g.0) u g.1 h.1)
tags_push given n b (Acknowledgement t ∷ rs) lt u g h = (tt, tags_push given n b rs lt u g.1 h.1)

-- after the end acknowledgement of the message there is no other
pub no_other_end : (n b : ℕ) (rs : List Answer) → n ≤ b → TagsRise b rs → Each (IsLive (Some n)) rs → Each (IsLive None) rs
no_other_end n b [] le h l = tt
no_other_end n b (EndAcknowledgement k ∷ rs) le h l = let e : k ≡ n = same_Some k n l.0 in absurd (omega (arith, e, h.0, le))
no_other_end n b (Acknowledgement t ∷ rs) le h l = (tt, no_other_end n b rs le h.1 l.1)
