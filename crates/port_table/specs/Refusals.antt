-- Why a call on ports isn't done: of several causes the first. Each rule stands once: `refused` says what a cause makes, and `done` what
-- stands where there is none.
use Rattle.std.specs.Prelude.{ℕ, not, if◌then◌else◌, Option, Some, None}
use Rattle.port_table.specs.declared.refused.Refused.{Refused}
use Rattle.port_table.specs.declared.refused.Refused.TheVariants.{PortsFull, NoSuchPort, PortPaused, PortNotPaused}
use Rattle.port_table.specs.Ports.{Ports, are_full, is_open, is_paused}

abbrev pub opens_unless : {A : Type 0} → (refused : Refused → A) → Ports → (done : A) → A
opens_unless refused ports done = if are_full ports then refused PortsFull else done

abbrev pub closes_unless : {A : Type 0} → (refused : Refused → A) → Ports → ℕ → (done : A) → A
closes_unless refused ports number done = if not (is_open ports number) then refused NoSuchPort else done

abbrev pub pauses_unless : {A : Type 0} → (refused : Refused → A) → Ports → ℕ → (done : A) → A
pauses_unless refused ports number done =
    if not (is_open ports number) then refused NoSuchPort
    else if is_paused ports number then refused PortPaused
    else done

abbrev pub resumes_unless : {A : Type 0} → (refused : Refused → A) → Ports → ℕ → (done : A) → A
resumes_unless refused ports number done =
    if not (is_open ports number) then refused NoSuchPort
    else if not (is_paused ports number) then refused PortNotPaused
    else done

-- The first cause, if there is one

abbrev pub opening_refusal : Ports → Option Refused
opening_refusal ports = opens_unless Some ports None

abbrev pub closing_refusal : Ports → ℕ → Option Refused
closing_refusal ports number = closes_unless Some ports number None

abbrev pub pausing_refusal : Ports → ℕ → Option Refused
pausing_refusal ports number = pauses_unless Some ports number None

abbrev pub resuming_refusal : Ports → ℕ → Option Refused
resuming_refusal ports number = resumes_unless Some ports number None
