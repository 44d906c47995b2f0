-- What a listener has under way of one key, and is told of it, apart from all else.
use Rattle.std.proofs.Common.{◌≡◌, ℕ, List, [], ◌∷◌, ◌++◌, max, Bool, true, false, not, cond, Option, Some, None, refl, sym, ap, ◌∙◌, filter, if◌then◌else◌, option_to_list}
use Rattle.std.specs.Prelude.{nat_lt}
use Rattle.std.proofs.lemmas.List.{append-nil}
use Rattle.std.proofs.lemmas.List.Elements.{filter-append}
use Rattle.pgn_ids.specs.Pgn.{clean}
use Rattle.seg_cut.specs.Join.{is_complete}
use Rattle.log_reports.specs.contracts.key.KeyEq.TheImpl.Laws.{laws-law}
use Rattle.log_reports.specs.Keys.{same_key}
use Rattle.log_decode.specs.Session.{told_of, opened, renewed, is_again}
use Rattle.log_decode.specs.Sessions.{Sessions, Heard, session_at, put, without, ended_at, settled, heard_at, losses, silent_entry, silenced, broken_off, renewed_at, is_again_at, not_begun, opened_at, announced}
use Rattle.log_decode.specs.Decoder.{goes_back, passed}
use Rattle.log_reports.specs.declared.key.Key.{Key}
use Rattle.log_decode.specs.declared.session.Session.{Session}
use Rattle.log_decode.specs.declared.session.Fate.{Fate}
use Rattle.log_decode.specs.declared.session.Fate.TheVariants as fates
use Rattle.log_decode.specs.declared.sessions.News.{News}
use Rattle.log_reports.specs.declared.told.Cause.{Cause}
use Rattle.log_reports.specs.declared.told.Cause.TheVariants.{Replaced, TimedOut, WentBack, Unsound, TooLong}
use Rattle.log_reports.specs.declared.told.Told.{Told}
use Rattle.log_reports.specs.declared.told.Told.TheVariants.{Given}
use Rattle.log_decode.proofs.AtKey.{by_session, by_renewed}
use Rattle.log_reports.specs.Told.{key_told}
use Rattle.log_decode.specs.Belonging.{told_of_key}

-- one filter behind another
filters : {A : Type 0} (p q : A → Bool) (xs : List A) → filter p (filter q xs) ≡ filter q (filter p xs)
filters p q [] = refl
filters p q (x ∷ xs) = by (p x) refl (q x) refl (filters p q xs)
  where
    by : (b : Bool) → p x ≡ b → (c : Bool) → q x ≡ c → filter p (filter q xs) ≡ filter q (filter p xs) → filter p (filter q (x ∷ xs)) ≡ filter q (filter p (x ∷ xs))
    by true s true t others = rw (s, t) (rw (s) (ap (λ ys. x ∷ ys) others))
    by true s false t others = rw (s, t) others
    by false s true t others = rw (s, t) (rw (s) others)
    by false s false t others = rw (s, t) others

module _ (key : Key) where
  abbrev pub own : Sessions → Sessions
  own es = filter (λ e. same_key key e.0) es

  -- both
  abbrev pub of_own : Heard → Heard
  of_own h = (own h.0, told_of_key key h.1)

  pub session_own : (es : Sessions) → session_at key (own es) ≡ session_at key es
  session_own [] = refl
  session_own (e ∷ es) = by (same_key key e.0) refl (session_own es)
    where
      by : (b : Bool) → same_key key e.0 ≡ b → session_at key (own es) ≡ session_at key es → session_at key (own (e ∷ es)) ≡ session_at key (e ∷ es)
      by true t others = rw (t) (rw (t) refl)
      by false t others = rw (t) others

  own_put : (s : Session) (es : Sessions) → own (put key s es) ≡ put key s (own es)
  own_put s [] = rw (laws-law.refl key) refl
  own_put s (e ∷ es) = by (same_key key e.0) refl (own_put s es)
    where
      by : (b : Bool) → same_key key e.0 ≡ b → own (put key s es) ≡ put key s (own es) → own (put key s (e ∷ es)) ≡ put key s (own (e ∷ es))
      by true t others = rw (t) (rw (t) refl)
      by false t others = rw (t) (rw (t) others)

  own_without : (es : Sessions) → own (without key es) ≡ without key (own es)
  own_without [] = refl
  own_without (e ∷ es) = by (same_key key e.0) refl (own_without es)
    where
      by : (b : Bool) → same_key key e.0 ≡ b → own (without key es) ≡ without key (own es) → own (without key (e ∷ es)) ≡ without key (own (e ∷ es))
      by true t others = rw (t) (rw (t) refl)
      by false t others = rw (t) (rw (t) others)

  -- ---- what is told

  pub of_append : (a b : List Told) → told_of_key key (a ++ b) ≡ told_of_key key a ++ told_of_key key b
  of_append a b = filter-append (λ t. same_key key (key_told t)) a b

  told_here : (k : Key) (s : Session) (fate : Fate) (t : Bool) → same_key key k ≡ t → told_of_key key (option_to_list (told_of k s fate)) ≡ cond t (option_to_list (told_of k s fate)) []
  told_here k s fates.GoesOn true e = refl
  told_here k s fates.GoesOn false e = refl
  told_here k s fates.Given t e = elim (is_complete s.join) as (λ b. told_of_key key (option_to_list (cond b (Some (Given k (clean s.pgn) s.join.bytes)) None)) ≡ cond t (option_to_list (cond b (Some (Given k (clean s.pgn) s.join.bytes)) None)) []) [ true ↦ rw (e) refl | false ↦ elim t as (λ b. ◌≡◌ {A = List Told} [] (cond b [] [])) [ true ↦ refl | false ↦ refl ] ]
  told_here k s (fates.Lost cause) t e = rw (e) refl
  told_here k s (fates.Aborted reason who) t e = rw (e) refl

  pub of_losses : (cause : Cause) (es : Sessions) → told_of_key key (losses (fates.Lost cause) es) ≡ losses (fates.Lost cause) (own es)
  of_losses cause [] = refl
  of_losses cause (e ∷ es) = by (same_key key e.0) refl (of_losses cause es)
    where
      by : (b : Bool) → same_key key e.0 ≡ b → told_of_key key (losses (fates.Lost cause) es) ≡ losses (fates.Lost cause) (own es) → told_of_key key (losses (fates.Lost cause) (e ∷ es)) ≡ losses (fates.Lost cause) (own (e ∷ es))
      by true t others = rw (t) (rw (others) refl)
      by false t others = rw (t) others

  told_lost : (cause : Cause) (es : Sessions) (told : List Told) → told_of_key key (told ++ losses (fates.Lost cause) es) ≡ told_of_key key told ++ losses (fates.Lost cause) (own es)
  told_lost cause es told = of_append told (losses (fates.Lost cause) es) ∙ ap (λ ts. told_of_key key told ++ ts) (of_losses cause es)

  told_own : (s : Session) (fate : Fate) (told : List Told) → told_of_key key (told ++ option_to_list (told_of key s fate)) ≡ told_of_key key told ++ option_to_list (told_of key s fate)
  told_own s fate told = of_append told (option_to_list (told_of key s fate)) ∙ ap (λ ts. told_of_key key told ++ ts) (told_here key s fate true (laws-law.refl key))

  pub told_other : (other : Key) (s : Session) (fate : Fate) (told : List Told) → same_key key other ≡ false → told_of_key key (told ++ option_to_list (told_of other s fate)) ≡ told_of_key key told
  told_other other s fate told apart = of_append told (option_to_list (told_of other s fate)) ∙ ap (λ ts. told_of_key key told ++ ts) (told_here other s fate false apart) ∙ append-nil (told_of_key key told)

  -- one that is told
  pub told_one : (t : Told) (told : List Told) (b : Bool) → same_key key (key_told t) ≡ b → told_of_key key (told ++ t ∷ []) ≡ told_of_key key told ++ cond b (t ∷ []) []
  told_one t told b e = of_append told (t ∷ []) ∙ ap (λ c. told_of_key key told ++ cond c (t ∷ []) []) e

  -- ---- time

  pub own_passed : (before time : ℕ) (h : Heard) → of_own (passed before time h) ≡ passed before time (of_own h)
  own_passed before time h = elim (goes_back before time) as (λ b. of_own (if b then broken_off h else silenced (max before time) h) ≡ (if b then broken_off (of_own h) else silenced (max before time) (of_own h))) [ true ↦ back | false ↦ on (max before time) ]
    where
      back : of_own (broken_off h) ≡ broken_off (of_own h)
      back i = ([], told_lost WentBack h.0 h.1 i)

      on : (now : ℕ) → of_own (silenced now h) ≡ silenced now (of_own h)
      on now i = (filters (λ e. same_key key e.0) (λ e. not (silent_entry now e)) h.0 i, (told_lost TimedOut (filter (silent_entry now) h.0) h.1 ∙ ap (λ es. told_of_key key h.1 ++ losses (fates.Lost TimedOut) es) (filters (λ e. same_key key e.0) (silent_entry now) h.0)) i)

  -- ---- frames of the message at the key

  abbrev by_end : Fate → Heard → Option Session → Heard
  by_end fate h o = elim o [ None ↦ h | Some s ↦ (without key h.0, h.1 ++ option_to_list (told_of key s fate)) ]

  own_ended : (fate : Fate) (h : Heard) → of_own (ended_at key fate h) ≡ ended_at key fate (of_own h)
  own_ended fate h = by (session_at key h.0) refl
    where
      by : (o : Option Session) → session_at key h.0 ≡ o → of_own (ended_at key fate h) ≡ ended_at key fate (of_own h)
      by None p = ap (λ o. of_own (by_end fate h o)) p ∙ sym (ap (by_end fate (of_own h)) (session_own h.0 ∙ p))
      by (Some s) p = ap (λ o. of_own (by_end fate h o)) p ∙ (λ i. (own_without h.0 i, told_own s fate h.1 i)) ∙ sym (ap (by_end fate (of_own h)) (session_own h.0 ∙ p))

  own_settled : (fate : Fate) (h : Heard) → of_own (settled key fate h) ≡ settled key fate (of_own h)
  own_settled fates.GoesOn h = refl
  own_settled fates.Given h = own_ended fates.Given h
  own_settled (fates.Lost cause) h = own_ended (fates.Lost cause) h
  own_settled (fates.Aborted reason who) h = own_ended (fates.Aborted reason who) h

  pub own_heard : (f : Session → Session × Fate) (h : Heard) → of_own (heard_at f key h) ≡ heard_at f key (of_own h)
  own_heard f h = by (session_at key h.0) refl
    where
      by : (o : Option Session) → session_at key h.0 ≡ o → of_own (heard_at f key h) ≡ heard_at f key (of_own h)
      by None p = ap (λ o. of_own (by_session f key h o)) p ∙ sym (ap (by_session f key (of_own h)) (session_own h.0 ∙ p))
      by (Some s) p =
          ap (λ o. of_own (by_session f key h o)) p
          ∙ own_settled (f s).1 (put key (f s).0 h.0, h.1)
          ∙ ap (λ es. settled key (f s).1 (es, told_of_key key h.1)) (own_put (f s).0 h.0)
          ∙ sym (ap (by_session f key (of_own h)) (session_own h.0 ∙ p))

  own_renewed : (now : ℕ) (es : Sessions) → own (renewed_at key now es) ≡ renewed_at key now (own es)
  own_renewed now es = by (session_at key es) refl
    where
      by : (o : Option Session) → session_at key es ≡ o → own (renewed_at key now es) ≡ renewed_at key now (own es)
      by None p = ap (λ o. own (by_renewed key now es o)) p ∙ sym (ap (by_renewed key now (own es)) (session_own es ∙ p))
      by (Some s) p = ap (λ o. own (by_renewed key now es o)) p ∙ own_put (renewed s now) es ∙ sym (ap (by_renewed key now (own es)) (session_own es ∙ p))

  abbrev opens : News → (most now : ℕ) → Bool → Bool → Heard → Heard
  opens news most now is_sound is_long h =
      if not is_sound then (h.0, h.1 ++ not_begun key news Unsound ∷ [])
      else if is_long then (h.0, h.1 ++ not_begun key news TooLong ∷ [])
      else (put key (opened key.transport news.pgn news.size now) h.0, h.1)

  own_opened : (news : News) (most now : ℕ) (h : Heard) → of_own (opened_at key news most now h) ≡ opened_at key news most now (of_own h)
  own_opened news most now h = either news.is_sound (nat_lt most news.size)
    where
      refused : (cause : Cause) → of_own (h.0, h.1 ++ not_begun key news cause ∷ []) ≡ (own h.0, told_of_key key h.1 ++ not_begun key news cause ∷ [])
      refused cause i = (own h.0, told_one (not_begun key news cause) h.1 true (laws-law.refl key) i)

      begun : of_own (put key (opened key.transport news.pgn news.size now) h.0, h.1) ≡ (put key (opened key.transport news.pgn news.size now) (own h.0), told_of_key key h.1)
      begun i = (own_put (opened key.transport news.pgn news.size now) h.0 i, told_of_key key h.1)

      either : (a b : Bool) → of_own (opens news most now a b h) ≡ opens news most now a b (of_own h)
      either false b = refused Unsound
      either true true = refused TooLong
      either true false = begun

  abbrev announces : News → (most now : ℕ) → Heard → Bool → Heard
  announces news most now h b = if b then (renewed_at key now h.0, h.1) else opened_at key news most now (settled key (fates.Lost Replaced) h)

  pub own_announced : (news : News) (most now : ℕ) (h : Heard) → of_own (announced key news most now h) ≡ announced key news most now (of_own h)
  own_announced news most now h =
      either (is_again_at key news.pgn news.size h.0)
      ∙ sym (ap (λ o. announces news most now (of_own h) (elim o [ None ↦ false | Some s ↦ is_again s news.pgn news.size ])) (session_own h.0))
    where
      either : (b : Bool) → of_own (announces news most now h b) ≡ announces news most now (of_own h) b
      either true = (λ i. (own_renewed now h.0 i, told_of_key key h.1))
      either false = own_opened news most now (settled key (fates.Lost Replaced) h) ∙ ap (opened_at key news most now) (own_settled (fates.Lost Replaced) h)

  -- ---- where it has nothing else under way

  session_first : (x : Session) → session_at key ((key, x) ∷ []) ≡ Some x
  session_first x = ap (λ b. cond b (Some x) None) (laws-law.refl key)

  put_first : (x y : Session) → put key y ((key, x) ∷ []) ≡ (key, y) ∷ []
  put_first x y = ap (λ b. if b then (key, y) ∷ [] else (key, x) ∷ (key, y) ∷ []) (laws-law.refl key)

  pub heard_alone : (f : Session → Session × Fate) (x y : Session) (fate : Fate) (told : List Told) → f x ≡ (y, fate) → heard_at f key ((key, x) ∷ [], told) ≡ settled key fate ((key, y) ∷ [], told)
  heard_alone f x y fate told e =
      ap (by_session f key ((key, x) ∷ [], told)) (session_first x)
      ∙ (λ i. settled key (e i).1 (put key (e i).0 ((key, x) ∷ []), told))
      ∙ ap (λ es. settled key fate (es, told)) (put_first x y)

  pub ended_alone : (y : Session) (fate : Fate) (told : List Told) → ended_at key fate ((key, y) ∷ [], told) ≡ ([], told ++ option_to_list (told_of key y fate))
  ended_alone y fate told =
      ap (by_end fate ((key, y) ∷ [], told)) (session_first y)
      ∙ (λ i. (cond (laws-law.refl key i) [] ((key, y) ∷ []), told ++ option_to_list (told_of key y fate)))
