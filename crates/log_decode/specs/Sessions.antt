-- The messages under way, in the order in which they were announced, and what frames make of them.
use Rattle.std.specs.Prelude.{ℕ, List, [], ◌∷◌, ◌++◌, Bool, false, not, ◌==◌, nat_lt, if◌then◌else◌, Option, Some, None, option_to_list, filter, flat_map}
use Rattle.std.specs.Map.{lookup, remove_entry}
use Rattle.indexmap.specs.IndexMap.{insert_entry}
use Rattle.pgn_ids.specs.Pgn.{clean}
use Rattle.pgn_ids.specs.declared.address.Address.{Address}
use Rattle.tp_wire.specs.declared.wire.CmFrame.{CmFrame}
use Rattle.log_reports.specs.Keys.{same_key}
use Rattle.log_decode.specs.Session.{opened, renewed, is_again, sequence_heard, heard, abort_heard, is_silent, told_of}
use Rattle.log_reports.specs.declared.key.Key.{Key}
use Rattle.log_decode.specs.declared.session.Session.{Session}
use Rattle.log_decode.specs.declared.session.Fate.{Fate}
use Rattle.log_decode.specs.declared.session.Fate.TheVariants as fates
use Rattle.log_decode.specs.declared.sessions.News.{News}
use Rattle.log_reports.specs.declared.told.Cause.{Cause}
use Rattle.log_reports.specs.declared.told.Cause.TheVariants.{Replaced, TimedOut, WentBack, Unsound, TooLong}
use Rattle.log_reports.specs.declared.told.Told.{Told}
use Rattle.log_reports.specs.declared.told.Told.TheVariants.{Lost}

abbrev pub Sessions : Type 0
Sessions = List (Key × Session)

-- the messages under way, and the reports
abbrev pub Heard : Type 0
Heard = Sessions × List Told

-- the message of a key
abbrev pub session_at : Key → Sessions → Option Session
session_at key sessions = lookup (same_key key) sessions

-- with a message at a key: in its place if one is there, else behind the others
abbrev pub put : Key → Session → Sessions → Sessions
put key s sessions = insert_entry same_key sessions key s

-- the messages under way without that of a key
abbrev pub without : Key → Sessions → Sessions
without key sessions = remove_entry (same_key key) sessions

-- the message of a key ends in this way, if there is one, and that is reported
abbrev pub ended_at : Key → Fate → Heard → Heard
ended_at key fate h = elim (session_at key h.0) [ None ↦ h | Some s ↦ (without key h.0, h.1 ++ option_to_list (told_of key s fate)) ]

-- a message continues, or ends
abbrev pub settled : Key → Fate → Heard → Heard
settled key fates.GoesOn h = h
settled key fates.Given h = ended_at key fates.Given h
settled key (fates.Lost cause) h = ended_at key (fates.Lost cause) h
settled key (fates.Aborted reason who) h = ended_at key (fates.Aborted reason who) h

-- the message of a key, if there is one, is changed by f, and meets its fate
abbrev pub heard_at : (Session → Session × Fate) → Key → Heard → Heard
heard_at f key h = elim (session_at key h.0) [ None ↦ h | Some s ↦ settled key (f s).1 (put key (f s).0 h.0, h.1) ]

-- a packet arrives
abbrev pub packet_taken : Key → (sequence : ℕ) → List ℕ → (now : ℕ) → Heard → Heard
packet_taken key sequence bytes now h = heard_at (λ s. sequence_heard key.to s sequence bytes now) key h

-- a connection management frame that is neither an announcement nor an abort
abbrev pub cm_taken : Key → CmFrame → (now : ℕ) → Heard → Heard
cm_taken key frame now h = heard_at (λ s. heard s frame now) key h

-- an abort of a PGN
abbrev pub abort_taken : Key → (who : Address) → (reason pgn : ℕ) → Heard → Heard
abort_taken key who reason pgn h = elim (session_at key h.0) [ None ↦ h | Some s ↦ settled key (abort_heard s who reason pgn) h ]

-- whether the announcement repeats that of the message under way, which has no packet yet
abbrev pub is_again_at : Key → (pgn size : ℕ) → Sessions → Bool
is_again_at key pgn size sessions = elim (session_at key sessions) [ None ↦ false | Some s ↦ is_again s pgn size ]

abbrev pub renewed_at : Key → (now : ℕ) → Sessions → Sessions
renewed_at key now sessions = elim (session_at key sessions) [ None ↦ sessions | Some s ↦ put key (renewed s now) sessions ]

-- a message of this PGN is under way
abbrev pub is_of : Key → (pgn : ℕ) → Sessions → Bool
is_of key pgn sessions = elim (session_at key sessions) [ None ↦ false | Some s ↦ clean pgn == clean s.pgn ]

-- the report that a message didn't begin
abbrev pub not_begun : Key → News → Cause → Told
not_begun key news cause = Lost key (clean news.pgn) 0 news.size cause

-- a message begins; if no transport carries it or it is too long, that is reported
abbrev pub opened_at : Key → News → (most now : ℕ) → Heard → Heard
opened_at key news most now h =
    if not news.is_sound then (h.0, h.1 ++ not_begun key news Unsound ∷ [])
    else if nat_lt most news.size then (h.0, h.1 ++ not_begun key news TooLong ∷ [])
    else (put key (opened key.transport news.pgn news.size now) h.0, h.1)

-- a message is announced: it takes the place of the one before it
abbrev pub announced : Key → News → (most now : ℕ) → Heard → Heard
announced key news most now h =
    if is_again_at key news.pgn news.size h.0 then (renewed_at key now h.0, h.1)
    else opened_at key news most now (settled key (fates.Lost Replaced) h)

-- no frame of it was seen for as long as its ends wait
abbrev pub silent_entry : (now : ℕ) → Key × Session → Bool
silent_entry now e = is_silent e.0.to e.1 now

-- messages are lost for this cause
abbrev pub losses : Fate → Sessions → List Told
losses fate sessions = flat_map (λ e. option_to_list (told_of e.0 e.1 fate)) sessions

-- the messages that are silent are lost
abbrev pub silenced : (now : ℕ) → Heard → Heard
silenced now h = (filter (λ e. not (silent_entry now e)) h.0, h.1 ++ losses (fates.Lost TimedOut) (filter (silent_entry now) h.0))

-- time went back: each of them is lost
abbrev pub broken_off : Heard → Heard
broken_off h = ([], h.1 ++ losses (fates.Lost WentBack) h.0)
