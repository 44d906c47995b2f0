-- The abort of a message that is cancelled has its place in the queue.
use Rattle.std.proofs.Common.{◌≡◌, ℕ, ◌<◌, ◌-◌, ◌==◌, Bool, true, false, ◌&&◌, not, cond, length, Some, None, refl, arith}
use Rattle.std.proofs.lemmas.Bool.{eqb-false}
use Rattle.pgn_ids.specs.Address.{null_address}
use Rattle.pgn_ids.specs.declared.address.Address.{Address}
use Rattle.tx_queue.specs.Queue.{queue_limit, free_places}
use Rattle.station_lanes.specs.LaneReaders.{is_pending_at, queues_abort_at}
use Rattle.station_core.specs.Station.{Station}
use Rattle.station_core.specs.Refusals.{cancelling_refusal, is_queue_full}
use Rattle.station_core.specs.declared.refused.Refused.TheVariants.{NoSuchStation, NothingToSend, TxFull}

-- of the causes of a refusal the last one
not_full : (nobody pending aborts full : Bool) → cond nobody (Some NoSuchStation) (cond (not pending) (Some NothingToSend) (cond (aborts && full) (Some TxFull) None)) ≡ None → aborts ≡ true → full ≡ false
not_full true pending aborts full e queues = absurd cc
not_full false false aborts full e queues = absurd cc
not_full false true true true e queues = absurd cc
not_full false true true false e queues = refl
not_full false true false full e queues = absurd cc

pub abort_has_place : (st : Station) (to : Address) (number : ℕ) → cancelling_refusal st to number ≡ None → queues_abort_at st.lanes to.0 number ≡ true → length st.queue < queue_limit
abort_has_place st to number passes aborts =
    let full : is_queue_full st ≡ false = not_full (to.0 == null_address) (is_pending_at st.lanes to.0 number) (queues_abort_at st.lanes to.0 number) (is_queue_full st) passes aborts in
    by (length st.queue) (eqb-false (free_places st.queue) 0 full)
  where
    by : (n : ℕ) → (queue_limit - n ≡ 0 → ⊥) → n < queue_limit
    by n free = omega (arith, free)
