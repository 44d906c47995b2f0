-- What holds of each lane that events lead to: nothing ahead of its two ends is of another message than the one under way, or, in
-- doubt, all of it stands before the Request and its answer.
use Rattle.std.proofs.Common.{◌≡◌, ◌≢◌, ℕ, ◌<◌, Bool, List, ◌∷◌, ◌++◌, length, Option, Some, None, subst, arith}
use Rattle.lane_law.specs.Frame.{Frame}
use Rattle.lane_law.specs.Outcome.{Fate, Outcome, outcome}
use Rattle.lane_law.specs.Lane
use Rattle.lane_law.specs.Lane.{Answer, Phase, Idle, Begun, Granted, InDoubt}
use Rattle.lane_law.proofs.Streams.{IsStream}
use Rattle.std.specs.List.{AllByRecursion as Each}
use Rattle.lane_law.proofs.Ahead.{Harmless, is_open, IsNotRequest, IsNotAck, IsSwept, AreSwept, IsLive, IsPast, IsOfGiven, TagsRise}
use Rattle.lane_law.proofs.Numbers.{AllAgree, IsOpen, AreNumbers, IsSpared, BeginsSpared}

-- Nothing ahead is of another message than the one that has a CTS, or of a token that is still to come.
pub record IsSettled (token : Bool) (number : ℕ) (opens : Bool) (ahead : List Frame) (heard answers : List Answer) (live : Option ℕ) : Type 0 where
  pub ends : Each (IsLive live) answers
  pub past : Each (IsPast live) heard
  pub harmless : Harmless live number opens ahead
  pub no_request : Each (IsNotRequest token) ahead
  pub no_ack : Each (IsNotAck token) (heard ++ answers)

-- A Request stands behind all that was queued before the doubt, and its answer behind all that this can bring.
pub record IsDoubtful (token : Bool) (ahead : List Frame) (heard answers : List Answer) : Type 0 where
  pub requests : IsSwept token ahead
  pub acks : AreSwept token ahead (heard ++ answers)

-- a message under way is the last that was begun, and has no outcome
abbrev pub Controlled : (Option ℕ → Type 0) → Type 0 → ℕ → List Outcome → Phase → Type 0
Controlled Settled Doubtful begun os Idle = Settled None
Controlled Settled Doubtful begun os (Begun n) = (n ≡ begun) × (0 < n) × IsOpen n os × Settled None
Controlled Settled Doubtful begun os (Granted n) = (n ≡ begun) × (0 < n) × IsOpen n os × Settled (Some n)
Controlled Settled Doubtful begun os InDoubt = Doubtful

abbrev pub SettledAt : Lane.Lane → Option ℕ → Type 0
SettledAt l live = IsSettled l.token l.stream.reached.number (is_open l.stream.session) (l.stream.again ++ l.stream.forward) l.heard l.answers live

abbrev pub DoubtfulAt : Lane.Lane → Type 0
DoubtfulAt l = IsDoubtful l.token (l.stream.again ++ l.stream.forward) l.heard l.answers

-- what holds of each lane that events lead to
pub record IsLane (l : Lane.Lane) : Type 0 where
  pub stream : IsStream l.stream
  pub control : Controlled (SettledAt l) (DoubtfulAt l) l.stream.queued.number l.outcomes l.phase
  pub tags : TagsRise 0 (l.heard ++ l.answers)
  pub of_given : Each (IsOfGiven l.stream.given) (l.heard ++ l.answers)
  pub agree : AllAgree l.stream.given l.outcomes
  pub reached : IsSpared l.outcomes l.stream.reached.number
  pub ahead : Each (BeginsSpared l.outcomes) l.stream.forward
  pub numbers : AreNumbers l.stream.queued.number (length l.stream.sent) l.pending l.outcomes

-- in each phase
pub same_phase : (S S' : Option ℕ → Type 0) (D D' : Type 0) (begun : ℕ) (os : List Outcome) → ((live : Option ℕ) → S live → S' live) → (D → D') → (ph : Phase) → Controlled S D begun os ph → Controlled S' D' begun os ph
same_phase S S' D D' begun os f g Idle c = f None c
same_phase S S' D D' begun os f g (Begun n) c = (c.0, c.1, c.2, f None c.3)
same_phase S S' D D' begun os f g (Granted n) c = (c.0, c.1, c.2, f (Some n) c.3)
same_phase S S' D D' begun os f g InDoubt c = g c

-- a pending message gets an outcome
pub phase_outcome : (S : Option ℕ → Type 0) (D : Type 0) (begun k : ℕ) (os : List Outcome) (fate : Fate) → begun < k → (ph : Phase) → Controlled S D begun os ph → Controlled S D begun (outcome k fate ∷ os) ph
phase_outcome S D begun k os fate lt Idle c = c
phase_outcome S D begun k os fate lt (Begun n) c = let ne : k ≢ n = omega (arith, lt, c.0) in (c.0, c.1, (ne, c.2), c.3)
phase_outcome S D begun k os fate lt (Granted n) c = let ne : k ≢ n = omega (arith, lt, c.0) in (c.0, c.1, (ne, c.2), c.3)
phase_outcome S D begun k os fate lt InDoubt c = c

pub phase_at : (l : Lane.Lane) (ph : Phase) → l.phase ≡ ph → IsLane l → Controlled (SettledAt l) (DoubtfulAt l) l.stream.queued.number l.outcomes ph
phase_at l ph h i = subst (λ p. Controlled (SettledAt l) (DoubtfulAt l) l.stream.queued.number l.outcomes p) h i.control
