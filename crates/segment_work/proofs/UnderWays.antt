-- The work of a connection under way, by what its readers say.
use Rattle.std.proofs.Common.{◌≡◌, ◌+◌, ◌*◌, ℕ, if◌then◌else◌, refl, arith}
use Rattle.originator.specs.Readers.{link_of, unsent_of, resends_of, repeated_of, is_announced_again}
use Rattle.originator.specs.Link.{packets_of}
use Rattle.originator.specs.declared.states.OutState.{OutState}
use Rattle.originator.specs.declared.states.OutState.TheVariants.{AwaitCts, Sending, AwaitEnd}
use Rattle.work_law.specs.Work.{Terms, packet_cost, dpo_cost, out_work, window_work, state_work}

none_more : (n p : ℕ) → n ≡ n + (0 * p + 0)
none_more n p = omega arith

pub state_work_is : (c : Terms) (s : OutState) → state_work c s
    ≡ out_work c (link_of s) (unsent_of s) (resends_of s)
    + (repeated_of s * packet_cost c (link_of s).from (link_of s).to + (if is_announced_again s then dpo_cost c (link_of s).kind else 0))
unfolding window_work
state_work_is c (AwaitCts s) = none_more (out_work c s.link s.unsent s.resends) (packet_cost c s.link.from s.link.to)
state_work_is c (Sending s) = refl
state_work_is c (AwaitEnd s) = none_more (out_work c s.link (packets_of s.link + 1) s.resends) (packet_cost c s.link.from s.link.to)
