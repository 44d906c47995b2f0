-- A message of which a listener has nothing else under way, and what may be told of it.
use Rattle.std.proofs.Common.{◌≡◌, ℕ, List, [], ◌∷◌, max, true, false, not, cond, Some, None, length, refl, sym, ap, ◌∙◌, subst, if◌then◌else◌, option_to_list, ◌⊎◌, inl, inr}
use Rattle.std.proofs.lemmas.List.{append-nil}
use Rattle.pgn_ids.specs.Pgn.{clean}
use Rattle.seg_cut.specs.Join.{is_complete}
use Rattle.log_decode.specs.Session.{is_silent}
use Rattle.log_decode.specs.Sessions.{Heard, heard_at, losses, silenced, broken_off}
use Rattle.log_decode.specs.Decoder.{goes_back, passed}
use Rattle.log_reports.specs.declared.key.Key.{Key}
use Rattle.log_decode.specs.declared.session.Session.{Session}
use Rattle.log_decode.specs.declared.session.Fate.{Fate}
use Rattle.log_decode.specs.declared.session.Fate.TheVariants as fates
use Rattle.log_reports.specs.declared.told.Cause.{Cause}
use Rattle.log_reports.specs.declared.told.Cause.TheVariants.{WentBack, TimedOut}
use Rattle.log_reports.specs.declared.told.Told.{Told}
use Rattle.log_reports.specs.declared.told.Told.TheVariants.{Given, Lost}
use Rattle.log_decode.proofs.Own.{heard_alone, ended_alone}
use Rattle.decode_law.specs.Lacking.{IsToldOf}

-- where nothing is under way, time changes nothing
pub none_passes : (told : List Told) (before time : ℕ) → passed before time ([], told) ≡ ([], told)
none_passes told before time = elim (goes_back before time) as (λ b. (if b then broken_off ([], told) else silenced (max before time) ([], told)) ≡ ([], told)) [ true ↦ (λ i. ([], append-nil told i)) | false ↦ (λ i. ([], append-nil told i)) ]

module _ (key : Key) (pgn : ℕ) (bytes : List ℕ) where
  -- a message under way is this one
  pub record IsOf (x : Session) : Type 0 where
    pub pgn_is : x.pgn ≡ pgn
    pub size_is : x.join.size ≡ length bytes

  -- it is over, or didn't begin
  abbrev pub IsOver : Heard → Type 0
  IsOver h = (told : List Told) × (h ≡ ([], told)) × IsToldOf key pgn bytes told

  -- it is under way, so, or over
  abbrev pub Holds : (Session → Type 0) → Heard → Type 0
  Holds S h = ((x : Session) × (h ≡ ((key, x) ∷ [], [])) × IsOf x × S x) ⊎ IsOver h

  pub lost : (x : Session) → IsOf x → (cause : Cause) → IsToldOf key pgn bytes (Lost key (clean x.pgn) (length x.join.bytes) x.join.size cause ∷ [])
  lost x g cause = inr (inr (length x.join.bytes, cause, λ i. Lost key (clean (g.pgn_is i)) (length x.join.bytes) (g.size_is i) cause ∷ []))

  -- time goes on, or back
  module _ (S : Session → Type 0) where
    alone_passes : (x : Session) → IsOf x → S x → (before time : ℕ) → Holds S (passed before time ((key, x) ∷ [], []))
    alone_passes x g s before time = elim (goes_back before time) as (λ b. Holds S (if b then broken_off ((key, x) ∷ [], []) else silenced (max before time) ((key, x) ∷ [], []))) [
      | true ↦ inr (Lost key (clean x.pgn) (length x.join.bytes) x.join.size WentBack ∷ [], refl, lost x g WentBack)
      | false ↦ elim (is_silent key.to x (max before time)) as (λ b. Holds S (cond (not b) ((key, x) ∷ []) [], losses (fates.Lost TimedOut) (cond b ((key, x) ∷ []) []))) [
        | true ↦ inr (Lost key (clean x.pgn) (length x.join.bytes) x.join.size TimedOut ∷ [], refl, lost x g TimedOut)
        | false ↦ inl (x, refl, g, s)
      ]
    ]

    pub passes : (before time : ℕ) (h : Heard) → Holds S h → Holds S (passed before time h)
    passes before time h (inl a) = subst (λ x. Holds S (passed before time x)) (sym a.1) (alone_passes a.0 a.2 a.3 before time)
    passes before time h (inr a) = inr (a.0, ap (passed before time) a.1 ∙ none_passes a.0 before time, a.2)

  -- what a frame makes of it
  abbrev pub Comes : (Session → Type 0) → Session × Fate → Type 0
  Comes S r =
      ((y : Session) × (r ≡ (y, fates.GoesOn)) × IsOf y × S y)
      ⊎ ((y : Session) × (r ≡ (y, fates.Given)) × IsOf y × (is_complete y.join ≡ true) × (y.join.bytes ≡ bytes))
      ⊎ ((y : Session) × (cause : Cause) × (r ≡ (y, fates.Lost cause)) × IsOf y)

  module _ (S S' : Session → Type 0) (f : Session → Session × Fate) (does : (x : Session) → IsOf x → S x → Comes S' (f x)) where
    alone_comes : (x : Session) → Comes S' (f x) → Holds S' (heard_at f key ((key, x) ∷ [], []))
    alone_comes x (inl c) = inl (c.0, heard_alone key f x c.0 fates.GoesOn [] c.1, c.2, c.3)
    alone_comes x (inr (inl c)) =
        inr (
          Given key (clean pgn) bytes ∷ [],
          heard_alone key f x c.0 fates.Given [] c.1
              ∙ ended_alone key c.0 fates.Given []
              ∙ (λ i. ([], option_to_list (cond (c.3 i) (Some (Given key (clean c.0.pgn) c.0.join.bytes)) None)))
              ∙ (λ i. ([], Given key (clean (c.2.pgn_is i)) (c.4 i) ∷ [])),
          inr (inl refl),
        )
    alone_comes x (inr (inr c)) =
        inr (
          Lost key (clean c.0.pgn) (length c.0.join.bytes) c.0.join.size c.1 ∷ [],
          heard_alone key f x c.0 (fates.Lost c.1) [] c.2 ∙ ended_alone key c.0 (fates.Lost c.1) [],
          lost c.0 c.3 c.1,
        )

    pub comes : (h : Heard) → Holds S h → Holds S' (heard_at f key h)
    comes h (inl a) = subst (λ x. Holds S' (heard_at f key x)) (sym a.1) (alone_comes a.0 (does a.0 a.2 a.3))
    comes h (inr a) = inr (a.0, ap (heard_at f key) a.1, a.2)
