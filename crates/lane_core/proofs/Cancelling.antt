-- Without a message a lane is right.
use Rattle.std.proofs.Common.{◌≡◌, ℕ, suc, ◌+◌, ◌≤◌, ◌==◌, not, Bool, true, false, cond, Some, None, List, [], ◌∷◌, length, refl, arith, append-nil, ◌∙◌, IsSome}
use Rattle.std.proofs.lemmas.Bool.{ltb-false}
use Rattle.std.proofs.lemmas.List.{take_all, drop_all}
use Rattle.std.specs.List.{position_or_len, remove}
use Rattle.tp_wire.specs.declared.outcome.Outcome.{Outcome}
use Rattle.tp_wire.specs.declared.outcome.Outcome.TheVariants as outcome
use Rattle.originator.specs.Readers.{link_of}
use Rattle.originator.specs.Endings.{cancelled as cancelled_link}
use Rattle.lane_core.specs.declared.message.Pending.{Pending}
use Rattle.lane_core.specs.declared.place.UnderWay.{UnderWay}
use Rattle.lane_core.specs.declared.place.UnderWay.TheVariants.{Nothing, Broadcast, Connection}
use Rattle.lane_core.specs.Step.{LaneStep}
use Rattle.lane_core.specs.Lane.{Lane}
use Rattle.lane_core.specs.Endings.{over, connection_over, front_ended}
use Rattle.lane_core.specs.Cancel.{without_number, place_of, is_front, withdrawn, cancelled, cancelled_by}
use Rattle.lane_core.specs.LaneFields.{AreCarried}

-- by whether the front message has the number
carried_unless : (b : Bool) (to : ℕ) (messages without : List Pending) (m : Pending) → AreCarried to (m ∷ messages) → AreCarried to without → AreCarried to (cond b messages (m ∷ without))
carried_unless true to messages without m h r = h.1
carried_unless false to messages without m h r = (h.0, r)

pub carried_withdraw : (to : ℕ) (messages : List Pending) (number : ℕ) → AreCarried to messages → AreCarried to (without_number messages number)
carried_withdraw to [] number h = tt
carried_withdraw to (m ∷ messages) number h = carried_unless (m.number == number) to messages (without_number messages number) m h (carried_withdraw to messages number h.1)

-- taking out the first place that passes, where it is the front or behind it
removed_unless : (b : Bool) (messages without : List Pending) (m : Pending) (i : ℕ) → without ≡ remove messages i → cond b messages (m ∷ without) ≡ remove (m ∷ messages) (cond (not b) (1 + i) 0)
removed_unless true messages without m i e = refl
removed_unless false messages without m i e = let s : 1 + i ≡ suc i = omega arith in rw (s, e) refl

without_is_removed : (messages : List Pending) (number : ℕ) → without_number messages number ≡ remove messages (position_or_len (λ m. m.number == number) messages)
without_is_removed [] number = refl
without_is_removed (m ∷ messages) number = removed_unless (m.number == number) messages (without_number messages number) m (position_or_len (λ m. m.number == number) messages) (without_is_removed messages number)

some_is : (b : Bool) (i at : ℕ) → cond b (Some i) None ≡ Some at → i ≡ at
some_is true i at e = cc
some_is false i at e = cc

none_is : (b : Bool) (i : ℕ) → cond b (Some i) None ≡ None → b ≡ false
none_is true i e = cc
none_is false i e = refl

remove_past_end : (messages : List Pending) (i : ℕ) → length messages ≤ i → remove messages i ≡ messages
remove_past_end messages i h = let over : length messages ≤ suc i = omega arith in rw (take_all i messages h, drop_all (suc i) messages over) (append-nil messages)

-- the message at the place of a number is taken out
pub removed : (messages : List Pending) (number at : ℕ) → place_of messages number ≡ Some at → remove messages at ≡ without_number messages number
removed messages number at e = rw (without_is_removed, some_is _ _ _ e) refl

-- no message has the number
pub none_removed : (messages : List Pending) (number : ℕ) → place_of messages number ≡ None → without_number messages number ≡ messages
none_removed messages number e = without_is_removed messages number ∙ remove_past_end messages _ (ltb-false _ _ (none_is _ _ e))

-- the front message is cancelled only where there is one
front_ends : (number : ℕ) (messages : List Pending) (o : Outcome) → is_front messages number ≡ true → IsSome (front_ended messages o)
front_ends number [] o e = absurd cc
front_ends number (m ∷ messages) o e = refl

module _ (lane : Lane) (number : ℕ) where
  front_or : (b : Bool) (front : Lane × LaneStep) → (b ≡ true → IsSome front.1.ended) → IsSome (cond b front (withdrawn lane number)).1.ended
  front_or true front h = h refl
  front_or false front h = refl

  under : (u : UnderWay) → IsSome (cancelled_by u lane number).1.ended
  under Nothing = refl
  under (Broadcast s) = front_or (is_front lane.pending number) (over lane outcome.Cancelled None) (front_ends number lane.pending outcome.Cancelled)
  under (Connection s) = front_or (is_front lane.pending number) (connection_over lane (cancelled_link (link_of s))) (front_ends number lane.pending outcome.Cancelled)

  -- the message that is cancelled is told
  pub tells_one : IsSome (cancelled lane number).1.ended
  tells_one = under lane.under_way
