-- What a look at a client's front submission found, and that nothing but memory is lacking for it.
use Rattle.std.proofs.Common.{◌≡◌, ℕ, ◌+◌, ◌<◌, ◌≤◌, List, get_or, Option, None, sym, ◌∙◌, ap, subst, arith}
use Rattle.segment_law.specs.Segment.{Segment}
use Rattle.segment_law.specs.declared.call.Call.{Call}
use Rattle.segment_law.specs.declared.refusal.Refusal.{Refusal as Cause}
use Rattle.segment_rings.specs.Views.{SeatView, with_spare}
use Rattle.live_record.specs.declared.owed.Owed.{Owed}
use Rattle.live_record.specs.declared.calls.TheConstants.{MOST_CALLS}
use Rattle.live_ends.specs.declared.offer.Front.{Front}
use Rattle.live_ends.specs.declared.offer.Front.TheVariants as front
use Rattle.live_calls.specs.declared.offer.Ready.TheVariants as ready
use Rattle.live_record.specs.Record.{owed_by}
use Rattle.live_ends.specs.Offers.{IsWaiting, IsFrontIn, IsSendOf}
use Rattle.live_calls.specs.Offers.{IsCauseFor, IsReadyToSend, LacksRoomToSend}

-- nothing but memory is lacking for the submission in front

module _ (st : Segment) (n : ℕ) (ws : List Owed) (k : ℕ) where
  -- a submission waits, for which the segment has this cause to refuse it, or none
  pub found_cause : (ts : List SeatView) (owed stored : ℕ) (o c : Option Cause) → owed ≡ owed_by k ws → n < MOST_CALLS → IsFrontIn ts k owed stored front.Waits → ((s : SeatView) → IsCauseFor st (get_or ts k s) o) → o ≡ c
      → IsFrontIn ts k (owed_by k ws) n front.Waits × ((s : SeatView) → IsCauseFor st (get_or ts k s) c)
  found_cause ts owed stored o c same few f h is = (
    (few, λ s. ((f.1 s).0, subst (λ (w : ℕ). w < (get_or ts k s).free) same (f.1 s).1)),
    λ s. subst (λ (u : Option Cause). IsCauseFor st (get_or ts k s) u) is (h s),
  )

  -- room was made for its note
  pub lacks_kept : (ts us : List SeatView) → ((s : SeatView) → get_or us k s ≡ with_spare (get_or ts k s) (get_or us k s).spare) → LacksRoomToSend st n ws ts k → LacksRoomToSend st n ws us k
  lacks_kept ts us e r = (
    (r.0.0, λ s. subst (λ (u : SeatView). IsWaiting u × (owed_by k ws < u.free)) (sym (e s)) (r.0.1 s)),
    λ s. subst (λ (u : SeatView). IsCauseFor st u None) (sym (e s)) (r.1 s),
  )

  -- what the code found of a submission that waits
  pub found_at : (vs : List Owed) (ts us : List SeatView) (owed stored : ℕ) (r : Front) (o c : Option Cause) → owed ≡ owed_by k vs → vs ≡ ws → stored ≡ n → IsFrontIn ts k owed stored r → r ≡ front.Waits → us ≡ ts → ((s : SeatView) → IsCauseFor st (get_or us k s) o) → o ≡ c
      → IsFrontIn ts k (owed_by k ws) n front.Waits × ((s : SeatView) → IsCauseFor st (get_or ts k s) c)
  found_at vs ts us owed stored r o c same is count f waits seats h cause =
      let g : IsFrontIn ts k owed stored front.Waits = subst (λ (q : Front). IsFrontIn ts k owed stored q) waits f in
      found_cause ts owed stored o c (same ∙ ap (owed_by k) is) (subst (λ (m : ℕ). m < MOST_CALLS) count g.0) g (λ s. subst (λ (u : List SeatView). IsCauseFor st (get_or u k s) o) seats (h s)) cause

  -- what a look found
  pub front_at : (vs : List Owed) (ts : List SeatView) (owed stored : ℕ) (r q : Front) → owed ≡ owed_by k vs → vs ≡ ws → stored ≡ n → IsFrontIn ts k owed stored r → r ≡ q → IsFrontIn ts k (owed_by k ws) n q
  front_at vs ts owed stored r q same is count f e =
      let g : IsFrontIn ts k (owed_by k ws) stored r = subst (λ (w : ℕ). IsFrontIn ts k w stored r) (same ∙ ap (owed_by k) is) f in
      subst (λ (u : Front). IsFrontIn ts k (owed_by k ws) n u) e (subst (λ (m : ℕ). IsFrontIn ts k (owed_by k ws) m r) count g)

  more : (a b m : ℕ) → a ≡ b → a + 1 ≤ m → b < m
  more a b m e l = omega arith

  -- and there is room to keep its note
  pub ready_at : (us vs : List SeatView) (owed : ℕ) (call : Call) → owed ≡ owed_by k ws → LacksRoomToSend st n ws us k → ((s : SeatView) → owed + 1 ≤ (get_or us k s).spare) → vs ≡ us → ((s : SeatView) → IsSendOf (get_or vs k s) call) → IsReadyToSend st n ws us k (ready.Send call)
  ready_at us vs owed call same r room seats h = (
    (r.0.0, λ s. ((r.0.1 s).0, (r.0.1 s).1, more owed (owed_by k ws) (get_or us k s).spare same (room s))),
    λ s. subst (λ (u : List SeatView). IsSendOf (get_or u k s) call) seats (h s),
  )
