-- A message at its place in the map is that at its key.
use Rattle.std.proofs.Common.{◌≡◌, ℕ, List, Option, Some, None, sym, ◌∙◌, ap, ◌==◌, false, cond, position, slice_get}
use Rattle.std.specs.Map.{keys_of, values_of}
use Rattle.indexmap.specs.Layout.{set_value_at}
use Rattle.indexmap.proofs.MapLemmas.{Found-position, Missing-position, insert_entry-first}
use Rattle.pgn_ids.specs.Pgn.{clean}
use Rattle.log_reports.specs.Keys.{same_key}
use Rattle.log_decode.specs.Sessions.{Sessions, Heard, session_at, put, settled, heard_at, renewed_at}
use Rattle.log_decode.specs.Session.{renewed}
use Rattle.log_reports.specs.declared.key.Key.{Key}
use Rattle.log_decode.specs.declared.session.Session.{Session}
use Rattle.log_decode.specs.declared.session.Fate.{Fate}
use Rattle.log_decode.specs.Stray.{packet_stray, cm_stray}
use Rattle.log_reports.specs.declared.stray.Stray.{Stray}
use Rattle.log_reports.specs.declared.stray.Stray.TheVariants.{Packet}
use Rattle.log_reports.specs.declared.told.Told.{Told}

-- the message of a key by its place
pub absent : (key : Key) (es : Sessions) → position (same_key key) (keys_of es) ≡ None → session_at key es ≡ None
absent key es p = (Missing-position (same_key key) es p).value

pub there : (key : Key) (es : Sessions) (at : ℕ) (s : Session) → position (same_key key) (keys_of es) ≡ Some at → slice_get (values_of es) at ≡ Some s → session_at key es ≡ Some s
there key es at s p g = (Found-position (same_key key) es at p).value ∙ g

-- what is written there is put at the key
pub put_at : (key : Key) (at : ℕ) (es : Sessions) (t : Session) → position (same_key key) (keys_of es) ≡ Some at → set_value_at es at t ≡ put key t es
put_at key at es t p = sym (insert_entry-first same_key key t es at (Found-position (same_key key) es at p).first)

abbrev pub by_session : (Session → Session × Fate) → Key → Heard → Option Session → Heard
by_session f key h o = elim o [ None ↦ h | Some s ↦ settled key (f s).1 (put key (f s).0 h.0, h.1) ]

-- it becomes what f says
pub heard_there : (f : Session → Session × Fate) (key : Key) (at : ℕ) (es : Sessions) (told : List Told) (s t : Session) (fate : Fate) → position (same_key key) (keys_of es) ≡ Some at → session_at key es ≡ Some s
    → (t, fate) ≡ f s → settled key fate (set_value_at es at t, told) ≡ heard_at f key (es, told)
heard_there f key at es told s t fate p v e =
    ap (λ x. settled key fate (x, told)) (put_at key at es t p) ∙ (λ i. settled key (e i).1 (put key (e i).0 es, told)) ∙ sym (ap (by_session f key (es, told)) v)

-- where there is none, nothing happens
pub heard_nowhere : (f : Session → Session × Fate) (key : Key) (es : Sessions) (told : List Told) → session_at key es ≡ None → (es, told) ≡ heard_at f key (es, told)
heard_nowhere f key es told v = sym (ap (by_session f key (es, told)) v)

abbrev pub by_renewed : Key → ℕ → Sessions → Option Session → Sessions
by_renewed key now es o = elim o [ None ↦ es | Some s ↦ put key (renewed s now) es ]

pub renewed_there : (key : Key) (now at : ℕ) (es : Sessions) (s t : Session) → position (same_key key) (keys_of es) ≡ Some at → session_at key es ≡ Some s → t ≡ renewed s now → set_value_at es at t ≡ renewed_at key now es
renewed_there key now at es s t p v e = put_at key at es t p ∙ ap (λ x. put key x es) e ∙ sym (ap (by_renewed key now es) v)

pub renewed_nowhere : (key : Key) (now : ℕ) (es : Sessions) → session_at key es ≡ None → es ≡ renewed_at key now es
renewed_nowhere key now es v = sym (ap (by_renewed key now es) v)

-- a frame of its PGN is no stray one
pub cm_there : (kind : Stray) (key : Key) (pgn : ℕ) (es : Sessions) (s : Session) → session_at key es ≡ Some s → cm_stray kind key pgn es ≡ cond (clean pgn == clean s.pgn) None (Some kind)
cm_there kind key pgn es s v = ap (λ o. cond (elim o [ None ↦ false | Some t ↦ clean pgn == clean t.pgn ]) None (Some kind)) v

-- a packet of it is no stray one
pub packet_there : (key : Key) (es : Sessions) (s : Session) → session_at key es ≡ Some s → None ≡ packet_stray key es
packet_there key es s v = sym (ap (λ o. elim o [ None ↦ Some Packet | Some t ↦ None ]) v)
