-- A client is detached.
use Rattle.std.specs.Prelude.{◌≡◌, ℕ, cond, slice_get, Option, Some, None}
use Rattle.live_segment.specs.LiveView.{LiveView, ClientView}
use Rattle.live_segment.specs.Reports.{gone}
use Rattle.live_segment.specs.declared.detaching.NotDetached.{NotDetached}
use Rattle.live_segment.specs.declared.detaching.NotDetached.TheVariants.{NoSuchClient, Gone}

abbrev pub detached_cause : Option ClientView → Option NotDetached
detached_cause None = Some NoSuchClient
detached_cause (Some x) = cond x.active None (Some Gone)

-- why client c isn't detached: there is none, or it is gone
abbrev pub detaching_refusal : LiveView → ℕ → Option NotDetached
detaching_refusal v c = detached_cause (slice_get v.clients c)

-- the record is unchanged, but client c is gone: no more of its submissions are accepted, and no later note is put into its ring
pub record DetachedFrom (a b : LiveView) (c : ℕ) : Type 0 where
  pub addresses : b.addresses ≡ a.addresses
  pub stopped : b.stopped ≡ a.stopped
  pub pieces : b.pieces ≡ a.pieces
  pub calls : b.calls ≡ a.calls
  pub clients : b.clients ≡ gone a.clients c
  pub ports : b.ports ≡ a.ports
