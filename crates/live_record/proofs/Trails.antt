-- The replay of one call more.
use Rattle.std.proofs.Common.{◌≡◌, ℕ, ◌≤◌, Bool, true, false, List, ◌∷◌, ◌++◌, length, refl, sym, ◌∙◌, ap, arith, append-nil, append_assoc, length-append, []}
use Rattle.pgn_ids.specs.declared.address.Address.{Address}
use Rattle.segment_law.specs.declared.call.Call.{Call}
use Rattle.segment_law.specs.declared.call.Call.TheVariants.{Open, Close, Send, Pump, Transmit, Take, TakeAgain, Overrun, Tick, Fire, Cancel, Inject, Pause, Resume}
use Rattle.stored_calls.specs.declared.stored.Stored.{Stored}
use Rattle.live_record.specs.Record.{sent_in, is_by, accepted, Trail, start, step, trail_from, trail, delivery_at, given}
use Rattle.port_table.specs.declared.port.PortId.{PortId}
use Rattle.message_events.specs.declared.event.Event.{Event}

pub trail-nil : (addresses : List Address) → trail addresses [] ≡ start addresses
unfolding trail_from
trail-nil addresses = refl

trail_from-snoc : (t : Trail) (xs : List Stored) (x : Stored) → trail_from t (xs ++ x ∷ []) ≡ step (trail_from t xs) x
unfolding trail_from
trail_from-snoc t [] x = refl
trail_from-snoc t (y ∷ xs) x = trail_from-snoc (step t y) xs x

pub trail-snoc : (addresses : List Address) (xs : List Stored) (x : Stored) → trail addresses (xs ++ x ∷ []) ≡ step (trail addresses xs) x
trail-snoc addresses xs x = trail_from-snoc (start addresses) xs x

made_from : (t : Trail) (xs : List Stored) → (trail_from t xs).made ≡ t.made ++ xs
unfolding trail_from
made_from t [] = sym (append-nil t.made)
made_from t (x ∷ xs) = made_from (step t x) xs ∙ append_assoc t.made (x ∷ []) xs

pub made-trail : (addresses : List Address) (xs : List Stored) → (trail addresses xs).made ≡ xs
made-trail addresses xs = made_from (start addresses) xs

pub accepted-append : (c : ℕ) (xs ys : List Stored) → accepted c (xs ++ ys) ≡ accepted c xs ++ accepted c ys
accepted-append c [] ys = refl
accepted-append c (x ∷ xs) ys = ap (λ l. sent_in (is_by c x.by) x.call ++ l) (accepted-append c xs ys) ∙ sym (append_assoc (sent_in (is_by c x.by) x.call) (accepted c xs) (accepted c ys))

sent_in_le : (b : Bool) (x : Call) → length (sent_in b x) ≤ 1
sent_in_le b (Open station pgn max_len) = omega arith
sent_in_le b (Close p) = omega arith
sent_in_le b (Pump station to) = omega arith
sent_in_le b (Transmit station) = omega arith
sent_in_le b (Take station room) = omega arith
sent_in_le b (TakeAgain station room) = omega arith
sent_in_le b (Overrun station n) = omega arith
sent_in_le b (Tick n) = omega arith
sent_in_le b (Fire station) = omega arith
sent_in_le b (Cancel from to number) = omega arith
sent_in_le b (Inject frame) = omega arith
sent_in_le b (Pause p) = omega arith
sent_in_le b (Resume p) = omega arith
sent_in_le true (Send from to pgn bytes) = omega arith
sent_in_le false (Send from to pgn bytes) = omega arith

pub accepted_le : (c : ℕ) (xs : List Stored) → length (accepted c xs) ≤ length xs
accepted_le c [] = omega arith
accepted_le c (x ∷ xs) = omega (arith, length-append (sent_in (is_by c x.by) x.call) (accepted c xs), sent_in_le (is_by c x.by) x.call, accepted_le c xs)

pub sent_in_false : (x : Call) → sent_in false x ≡ []
sent_in_false (Open station pgn max_len) = refl
sent_in_false (Close p) = refl
sent_in_false (Pump station to) = refl
sent_in_false (Transmit station) = refl
sent_in_false (Take station room) = refl
sent_in_false (TakeAgain station room) = refl
sent_in_false (Overrun station n) = refl
sent_in_false (Tick n) = refl
sent_in_false (Fire station) = refl
sent_in_false (Cancel from to number) = refl
sent_in_false (Inject frame) = refl
sent_in_false (Pause p) = refl
sent_in_false (Resume p) = refl
sent_in_false (Send from to pgn bytes) = refl

pub given-append : (q : PortId) (xs ys : List Event) → given q (xs ++ ys) ≡ given q xs ++ given q ys
given-append q [] ys = refl
given-append q (x ∷ xs) ys = ap (λ l. delivery_at q x ++ l) (given-append q xs ys) ∙ sym (append_assoc (delivery_at q x) (given q xs) (given q ys))
