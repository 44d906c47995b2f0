-- Who the stored calls are by.
use Rattle.std.proofs.Common.{◌≡◌, ℕ, zero, suc, ◌≤◌, Bool, false, List, ◌∷◌, ◌++◌, length, Option, Some, None, refl, ap, arith, []}
use Rattle.std.proofs.lemmas.Option.{slice_get_within}
use Rattle.std.specs.Prelude.{slice_get}
use Rattle.pgn_ids.specs.declared.address.Address.{Address}
use Rattle.segment_law.specs.Calls.{is_send}
use Rattle.segment_law.specs.declared.call.Call.{Call}
use Rattle.segment_law.specs.declared.call.Call.TheVariants.{Open, Close, Send, Pump, Transmit, Take, TakeAgain, Overrun, Tick, Fire, Cancel, Inject, Pause, Resume}
use Rattle.stored_calls.specs.declared.stored.Stored.{Stored}
use Rattle.live_segment.specs.Facts.{IsClientAt, IsSender, HaveSenders}
use Rattle.live_record.proofs.Equal.{apart}
use Rattle.live_record.specs.Record.{sent_in, is_by, accepted}

pub senders-append : (qs : List Address) (xs : List Stored) (x : Stored) → HaveSenders qs xs → IsSender x.call x.by qs → HaveSenders qs (xs ++ x ∷ [])
senders-append qs [] x h i = (i, tt)
senders-append qs (y ∷ xs) x h i = (h.0, senders-append qs xs x h.1 i)

at-more : (qs bs : List Address) (c : ℕ) (a : Address) → slice_get qs c ≡ Some a → slice_get (qs ++ bs) c ≡ Some a
at-more [] bs c a h = absurd cc
at-more (b ∷ qs) bs zero a h = h
at-more (b ∷ qs) bs (suc c) a h = at-more qs bs c a h

client-more : (by : Option ℕ) (from : Address) (qs bs : List Address) → IsClientAt by from qs → IsClientAt by from (qs ++ bs)
client-more None from qs bs h = h
client-more (Some c) from qs bs h = at-more qs bs c from h

sender-more : (call : Call) (by : Option ℕ) (qs bs : List Address) → IsSender call by qs → IsSender call by (qs ++ bs)
sender-more (Open station pgn max_len) by qs bs h = h
sender-more (Close p) by qs bs h = h
sender-more (Send from to pgn bytes) by qs bs h = client-more by from qs bs h
sender-more (Pump station to) by qs bs h = h
sender-more (Transmit station) by qs bs h = h
sender-more (Take station room) by qs bs h = h
sender-more (TakeAgain station room) by qs bs h = h
sender-more (Overrun station n) by qs bs h = h
sender-more (Tick n) by qs bs h = h
sender-more (Fire station) by qs bs h = h
sender-more (Cancel from to number) by qs bs h = h
sender-more (Inject frame) by qs bs h = h
sender-more (Pause p) by qs bs h = h
sender-more (Resume p) by qs bs h = h

pub senders-more : (qs bs : List Address) (xs : List Stored) → HaveSenders qs xs → HaveSenders (qs ++ bs) xs
senders-more qs bs [] h = tt
senders-more qs bs (x ∷ xs) h = (sender-more x.call x.by qs bs h.0, senders-more qs bs xs h.1)

-- a call that is no Send is nobody's
pub nobody_sends : (call : Call) (qs : List Address) → is_send call ≡ false → IsSender call None qs
nobody_sends (Open station pgn max_len) qs h = refl
nobody_sends (Close p) qs h = refl
nobody_sends (Send from to pgn bytes) qs h = absurd cc
nobody_sends (Pump station to) qs h = refl
nobody_sends (Transmit station) qs h = refl
nobody_sends (Take station room) qs h = refl
nobody_sends (TakeAgain station room) qs h = refl
nobody_sends (Overrun station n) qs h = refl
nobody_sends (Tick n) qs h = refl
nobody_sends (Fire station) qs h = refl
nobody_sends (Cancel from to number) qs h = refl
nobody_sends (Inject frame) qs h = refl
nobody_sends (Pause p) qs h = refl
nobody_sends (Resume p) qs h = refl

not_by : (c : ℕ) (by : Option ℕ) (from : Address) (qs : List Address) → length qs ≤ c → IsClientAt by from qs → is_by c by ≡ false
not_by c None from qs l h = refl
not_by c (Some d) from qs l h = apart d c (omega (arith, slice_get_within qs d from h))

none_in : (c : ℕ) (call : Call) (by : Option ℕ) (qs : List Address) → length qs ≤ c → IsSender call by qs → sent_in (is_by c by) call ≡ []
none_in c (Open station pgn max_len) by qs l h = refl
none_in c (Close p) by qs l h = refl
none_in c (Send from to pgn bytes) by qs l h = ap (λ (b : Bool). sent_in b (Send from to pgn bytes)) (not_by c by from qs l h)
none_in c (Pump station to) by qs l h = refl
none_in c (Transmit station) by qs l h = refl
none_in c (Take station room) by qs l h = refl
none_in c (TakeAgain station room) by qs l h = refl
none_in c (Overrun station n) by qs l h = refl
none_in c (Tick n) by qs l h = refl
none_in c (Fire station) by qs l h = refl
none_in c (Cancel from to number) by qs l h = refl
none_in c (Inject frame) by qs l h = refl
none_in c (Pause p) by qs l h = refl
none_in c (Resume p) by qs l h = refl

pub accepted-none : (qs : List Address) (c : ℕ) (xs : List Stored) → length qs ≤ c → HaveSenders qs xs → accepted c xs ≡ []
accepted-none qs c [] l h = refl
accepted-none qs c (x ∷ xs) l h = let e : sent_in (is_by c x.by) x.call ≡ [] = none_in c x.call x.by qs l h.0 in rw e (accepted-none qs c xs l h.1)
