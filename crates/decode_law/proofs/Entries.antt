-- A message under way behind others is found, changed and taken out at its key; and where none is silent, time ends none.
use Rattle.std.proofs.Common.{◌≡◌, ℕ, ◌+◌, ◌-◌, ◌<◌, List, [], ◌∷◌, ◌++◌, true, false, not, cond, Some, None, refl, ap, ◌∙◌, arith, filter, if◌then◌else◌}
use Rattle.std.proofs.lemmas.List.{append-nil}
use Rattle.std.proofs.lemmas.List.Elements.{All-head, All-tail, All-append, All-cons, All-nil}
use Rattle.std.proofs.lemmas.Bool.{lt-leb}
use Rattle.log_reports.specs.contracts.key.KeyEq.TheImpl.Laws.{laws-law}
use Rattle.log_reports.specs.Keys.{same_key}
use Rattle.log_decode.specs.Session.{patience, is_silent}
use Rattle.log_decode.specs.Sessions.{Sessions, session_at, put, without, silent_entry, silenced}
use Rattle.log_reports.specs.declared.key.Key.{Key}
use Rattle.log_decode.specs.declared.session.Session.{Session}
use Rattle.log_reports.specs.declared.told.Told.{Told}
use Rattle.log_decode.proofs.Due.{patience_least}
use Rattle.decode_law.specs.Hearing.{NoneSilent}

module _ (key : Key) where
  same : same_key key key ≡ true
  same = laws-law.refl key

  abbrev pub behind : Sessions → Session → Sessions
  behind es s = es ++ (key, s) ∷ []

  pub found : (es : Sessions) (s : Session) → session_at key es ≡ None → session_at key (behind es s) ≡ Some s
  found [] s none = ap (λ b. cond b (Some s) None) same
  found (e ∷ es) s none =
      (elim (same_key key e.0) as (λ b. cond b (Some e.1) (session_at key es) ≡ None → cond b (Some e.1) (session_at key (behind es s)) ≡ Some s) [
        | true ↦ λ p. absurd cc
        | false ↦ λ p. found es s p
      ]) none

  pub put_new : (es : Sessions) (s : Session) → session_at key es ≡ None → put key s es ≡ behind es s
  put_new [] s none = refl
  put_new (e ∷ es) s none =
      (elim (same_key key e.0) as (λ b. cond b (Some e.1) (session_at key es) ≡ None → (if b then (e.0, s) ∷ es else e ∷ put key s es) ≡ e ∷ behind es s) [
        | true ↦ λ p. absurd cc
        | false ↦ λ p. ap (λ xs. e ∷ xs) (put_new es s p)
      ]) none

  pub put_again : (es : Sessions) (s t : Session) → session_at key es ≡ None → put key t (behind es s) ≡ behind es t
  put_again [] s t none = ap (λ b. if b then (key, t) ∷ [] else (key, s) ∷ (key, t) ∷ []) same
  put_again (e ∷ es) s t none =
      (elim (same_key key e.0) as (λ b. cond b (Some e.1) (session_at key es) ≡ None → (if b then (e.0, t) ∷ behind es s else e ∷ put key t (behind es s)) ≡ e ∷ behind es t) [
        | true ↦ λ p. absurd cc
        | false ↦ λ p. ap (λ xs. e ∷ xs) (put_again es s t p)
      ]) none

  pub taken_out : (es : Sessions) (s : Session) → session_at key es ≡ None → without key (behind es s) ≡ es
  taken_out [] s none = ap (λ b. cond b [] ((key, s) ∷ [])) same
  taken_out (e ∷ es) s none =
      (elim (same_key key e.0) as (λ b. cond b (Some e.1) (session_at key es) ≡ None → cond b (behind es s) (e ∷ without key (behind es s)) ≡ e ∷ es) [
        | true ↦ λ p. absurd cc
        | false ↦ λ p. ap (λ xs. e ∷ xs) (taken_out es s p)
      ]) none

module _ (now : ℕ) where
  all_kept : (es : Sessions) → NoneSilent now es → filter (λ e. not (silent_entry now e)) es ≡ es
  all_kept [] loud = refl
  all_kept (e ∷ es) loud =
      ap (λ b. cond (not b) (e ∷ filter (λ x. not (silent_entry now x)) es) (filter (λ x. not (silent_entry now x)) es)) (All-head (λ x. is_silent x.0.to x.1 now ≡ false) e es loud)
      ∙ ap (λ xs. e ∷ xs) (all_kept es (All-tail (λ x. is_silent x.0.to x.1 now ≡ false) e es loud))

  none_silent : (es : Sessions) → NoneSilent now es → filter (silent_entry now) es ≡ []
  none_silent [] loud = refl
  none_silent (e ∷ es) loud =
      ap (λ b. cond b (e ∷ filter (silent_entry now) es) (filter (silent_entry now) es)) (All-head (λ x. is_silent x.0.to x.1 now ≡ false) e es loud)
      ∙ none_silent es (All-tail (λ x. is_silent x.0.to x.1 now ≡ false) e es loud)

  -- time ends none of those that aren't silent
  pub none_ended : (es : Sessions) (told : List Told) → NoneSilent now es → silenced now (es, told) ≡ (es, told)
  none_ended es told loud = rw (all_kept es loud, none_silent es loud, append-nil told) refl

-- one that was heard less than so long ago isn't silent
pub loud_with : (key : Key) (es : Sessions) (s : Session) (now : ℕ) → NoneSilent now es → now < s.heard + patience key.to → NoneSilent now (behind key es s)
loud_with key es s now loud soon = All-append (λ e. is_silent e.0.to e.1 now ≡ false) es ((key, s) ∷ []) loud (All-cons (λ e. is_silent e.0.to e.1 now ≡ false) (key, s) [] (lt-leb (patience key.to) (now - s.heard) (let least = patience_least key.to in omega (arith, soon, least))) (All-nil (λ e. is_silent e.0.to e.1 now ≡ false)))
