-- Why a session is not opened.
use Rattle.std.specs.Prelude.{ℕ, nat_lt, if◌then◌else◌}
use Rattle.session_table.specs.declared.TheConstants.{MAX_SESSIONS}
use Rattle.session_table.specs.declared.incoming.Incoming.{Incoming}
use Rattle.session_table.specs.declared.table.OpenRefused.{OpenRefused}
use Rattle.session_table.specs.declared.table.OpenRefused.TheVariants.{TableFull, OutOfMemory}

-- the table is full, or else memory is refused; the arguments are handed back
abbrev pub refusal : {T : Type 0} → (len : ℕ) → T → Incoming → OpenRefused T
refusal len bound state = if nat_lt len MAX_SESSIONS then OutOfMemory bound state else TableFull bound state
