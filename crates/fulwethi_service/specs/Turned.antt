-- Rounds of the stations' turns.
use Rattle.std.specs.Prelude.{◌≡◌, ℕ, zero, suc, ◌<◌, ◌≤◌, ◌⊎◌, length, slice_get, MatchOption, Result, OnOk, IfErr}
use Rattle.segment_law.specs.Segment.{plus}
use Rattle.live_segment.specs.LiveView.{LiveView, stored_calls}
use Rattle.live_segment.specs.Rejoining.{CutAs, IsCutCause}
use Rattle.live_segment.specs.Turns.{StationTurn, point, no_turn}
use Rattle.live_record.specs.declared.calls.Piece.{Piece}
use Rattle.live_record.specs.declared.calls.TheConstants.{CUT_AT}
use Rattle.live_segment.specs.declared.refused.NotMade.{NotMade}
use Rattle.live_segment.specs.declared.turns.Turn.{Turn}

-- a turn of the station at place k, if there is one, which made so many calls
abbrev pub TurnAt : ℕ → (p q : LiveView) → (calls : ℕ) → Type 0
TurnAt k p q calls = MatchOption (slice_get p.addresses k) ((q ≡ p) × (calls ≡ 0)) (λ a. (t : Turn) × StationTurn a (point p no_turn) (point q t) × (calls ≡ t.calls))

-- the turns of the first n stations, one after another; calls are counted up to the last value
abbrev pub TurnsBelow : ℕ → (p q : LiveView) → (calls : ℕ) → Type 0
TurnsBelow zero p q calls = (q ≡ p) × (calls ≡ 0)
TurnsBelow (suc n) p q calls = (m : LiveView) × (below at : ℕ) × TurnsBelow n p m below × TurnAt n m q at × (calls ≡ plus below at)

-- the record is cut if it has as many calls as a record has as a rule
abbrev pub IsKeptShort : (p q : LiveView) → Type 0
IsKeptShort p q = ((stored_calls p < CUT_AT) × (q ≡ p)) ⊎ ((CUT_AT ≤ stored_calls p) × ((piece : Piece) × CutAs p q piece))

-- a round: a long record is cut, and then each station has its turn
abbrev pub IsRound : (p q : LiveView) → (calls : ℕ) → Type 0
IsRound p q calls = (m : LiveView) × IsKeptShort p m × TurnsBelow (length m.addresses) m q calls

abbrev pub Rounds : ℕ → (p q : LiveView) → (calls : ℕ) → Type 0
Rounds zero p q calls = (q ≡ p) × (calls ≡ 0)
Rounds (suc n) p q calls = (m : LiveView) × (before last : ℕ) × Rounds n p m before × IsRound m q last × (calls ≡ plus before last)

-- the last round made no call
abbrev pub Rests : LiveView → Type 0
Rests v = (m : LiveView) × IsRound m v 0

-- at most so many rounds: as many, or until one made no call, or a cut couldn't be made; the calls of all are written
abbrev pub IsTurned : (most made : ℕ) → (before after : LiveView) → Result (Unit {0}) NotMade → Type 0
IsTurned most made before after answer =
    (n : ℕ) × (n ≤ most) × Rounds n before after made × OnOk answer ((n ≡ most) ⊎ Rests after) × IfErr answer (λ e. IsCutCause after e)
