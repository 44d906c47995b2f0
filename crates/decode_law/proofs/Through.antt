-- A listener goes through a log of whatever frames, in which those of one message are a part of a list.
use Rattle.std.proofs.Common.{◌≡◌, ℕ, List, [], ◌∷◌, ◌++◌, Bool, true, false, cond, Some, None, refl, sym, ap, ◌∙◌, subst, filter, map, if◌then◌else◌, ◌⊎◌, inl, inr, unwrap_or, true≢false}
use Rattle.std.specs.Prelude.{⊤}
use Rattle.std.specs.Map.{lookup}
use Rattle.std.proofs.lemmas.List.{append-nil}
use Rattle.std.proofs.lemmas.List.Elements.{All-head, All-tail}
use Rattle.std.specs.Cmp.Lexicographic.{bytes_decides}
use Rattle.bus_frame.specs.Frames.{CanFrame}
use Rattle.log_fields.specs.declared.iface.Iface.{Iface}
use Rattle.log_fields.specs.contracts.iface.IfaceEq.TheImpl.Laws.{laws-law}
use Rattle.log_reports.specs.Keys.{same_key, same_iface}
use Rattle.log_decode.specs.Belonging.{is_frame_of, told_of_key}
use Rattle.log_decode.specs.Sessions.{Sessions, Heard, session_at, losses}
use Rattle.log_decode.specs.Decoder.{frame_taken, now_at, passed, taken, ended}
use Rattle.log_decode.specs.View.{Bus, Buses, State, new_bus, bus_at, put_bus}
use Rattle.log_reports.specs.declared.key.Key.{Key}
use Rattle.log_decode.specs.declared.session.Fate.TheVariants as fates
use Rattle.log_reports.specs.declared.told.Cause.TheVariants.{EndOfLog}
use Rattle.log_reports.specs.declared.told.Told.{Told}
use Rattle.log_decode.proofs.Own.{own, of_own, own_passed, of_append, of_losses}
use Rattle.log_decode.proofs.Apart.{other_frame, frame_elsewhere}
use Rattle.decode_law.proofs.Alone.{none_passes}
use Rattle.decode_law.specs.Lacking.{IsPartOf, Entry, heard_through, frames_of, IsFree, IsToldOf}

module _ (key : Key) where
  -- ---- what each interface has of the key

  abbrev either : Bool → Type 0 → Type 0 → Type 0
  either true A B = A
  either false A B = B

  abbrev HaveNone : Buses → Type 0
  HaveNone [] = ⊤
  HaveNone (b ∷ bs) = (own key b.1.sessions ≡ []) × HaveNone bs

  -- only the first of the key's interface has messages of it, and those are these
  abbrev pub HaveOnly : Sessions → Buses → Type 0
  HaveOnly es [] = es ≡ []
  HaveOnly es (b ∷ bs) = either (same_iface key.iface b.0) ((own key b.1.sessions ≡ es) × HaveNone bs) ((own key b.1.sessions ≡ []) × HaveOnly es bs)

  none_own : (es : Sessions) → session_at key es ≡ None → own key es ≡ []
  none_own [] none = refl
  none_own (e ∷ es) none =
      (elim (same_key key e.0) as (λ b. cond b (Some e.1) (session_at key es) ≡ None → cond b (e ∷ own key es) (own key es) ≡ []) [
        | true ↦ λ p. absurd cc
        | false ↦ λ p. none_own es p
      ]) none

  own_free : (bs : Buses) → IsFree key bs → HaveNone bs
  own_free [] free = tt
  own_free (b ∷ bs) free = (none_own b.1.sessions (All-head (λ x. session_at key x.1.sessions ≡ None) b bs free), own_free bs (All-tail (λ x. session_at key x.1.sessions ≡ None) b bs free))

  none_only : (bs : Buses) → HaveNone bs → HaveOnly [] bs
  none_only [] none = refl
  none_only (b ∷ bs) none = elim (same_iface key.iface b.0) as (λ t. either t ((own key b.1.sessions ≡ []) × HaveNone bs) ((own key b.1.sessions ≡ []) × HaveOnly [] bs)) [ true ↦ none | false ↦ (none.0, none_only bs none.1) ]

  pub free_only : (bs : Buses) → IsFree key bs → HaveOnly [] bs
  free_only bs free = none_only bs (own_free bs free)

  abbrev found : Bus → Buses → Bool → Bus
  found b bs t = unwrap_or (cond t (Some b) (lookup (same_iface key.iface) bs)) new_bus

  only_at : (es : Sessions) (bs : Buses) → HaveOnly es bs → own key (bus_at key.iface bs).sessions ≡ es
  only_at es [] h = sym h
  only_at es (b ∷ bs) h =
      (elim (same_iface key.iface b.0) as (λ t. either t ((own key b.1.sessions ≡ es) × HaveNone bs) ((own key b.1.sessions ≡ []) × HaveOnly es bs) → own key (found b.1 bs t).sessions ≡ es) [
        | true ↦ λ h. h.0
        | false ↦ λ h. only_at es bs h.1
      ]) h

  only_put : (es fs : Sessions) (x : Bus) (bs : Buses) → HaveOnly es bs → own key x.sessions ≡ fs → HaveOnly fs (put_bus key.iface x bs)
  only_put es fs x [] h e = rw (laws-law.refl key.iface) (e, tt)
  only_put es fs x (b ∷ bs) h e = by (same_iface key.iface b.0) refl h (only_put es fs x bs)
    where
      by : (t : Bool) → same_iface key.iface b.0 ≡ t → either t ((own key b.1.sessions ≡ es) × HaveNone bs) ((own key b.1.sessions ≡ []) × HaveOnly es bs)
          → (HaveOnly es bs → own key x.sessions ≡ fs → HaveOnly fs (put_bus key.iface x bs)) → HaveOnly fs (put_bus key.iface x (b ∷ bs))
      by true t h others = rw (t) (rw (t) (e, h.1))
      by false t h others = rw (t) (rw (t) (h.0, others h.1 e))

  module _ (iface : Iface) (apart : same_iface key.iface iface ≡ false) where
    apart_from : (i : Iface) → same_iface iface i ≡ true → same_iface key.iface i ≡ false
    apart_from i t = laws-law.symm key.iface i ∙ sym (laws-law.congr iface i key.iface t) ∙ laws-law.symm iface key.iface ∙ apart

    abbrev found_other : Bus → Buses → Bool → Bus
    found_other b bs t = unwrap_or (cond t (Some b) (lookup (same_iface iface) bs)) new_bus

    none_at : (bs : Buses) → HaveNone bs → own key (bus_at iface bs).sessions ≡ []
    none_at [] h = refl
    none_at (b ∷ bs) h = elim (same_iface iface b.0) as (λ t. own key (found_other b.1 bs t).sessions ≡ []) [ true ↦ h.0 | false ↦ none_at bs h.1 ]

    other_at : (es : Sessions) (bs : Buses) → HaveOnly es bs → own key (bus_at iface bs).sessions ≡ []
    other_at es [] h = refl
    other_at es (b ∷ bs) h = by (same_iface iface b.0) refl (same_iface key.iface b.0) refl h (other_at es bs)
      where
        by : (t : Bool) → same_iface iface b.0 ≡ t → (k : Bool) → same_iface key.iface b.0 ≡ k → either k ((own key b.1.sessions ≡ es) × HaveNone bs) ((own key b.1.sessions ≡ []) × HaveOnly es bs)
            → (HaveOnly es bs → own key (bus_at iface bs).sessions ≡ []) → own key (bus_at iface (b ∷ bs)).sessions ≡ []
        by true t true k h others = absurd (true≢false (sym k ∙ apart_from b.0 t))
        by true t false k h others = rw (t) h.0
        by false t true k h others = rw (t) (none_at bs h.1)
        by false t false k h others = rw (t) (others h.1)

    none_put : (x : Bus) (bs : Buses) → HaveNone bs → own key x.sessions ≡ [] → HaveNone (put_bus iface x bs)
    none_put x [] h e = (e, tt)
    none_put x (b ∷ bs) h e = elim (same_iface iface b.0) as (λ t. HaveNone (if t then (b.0, x) ∷ bs else b ∷ put_bus iface x bs)) [ true ↦ (e, h.1) | false ↦ (h.0, none_put x bs h.1 e) ]

    other_put : (es : Sessions) (x : Bus) (bs : Buses) → HaveOnly es bs → own key x.sessions ≡ [] → HaveOnly es (put_bus iface x bs)
    other_put es x [] h e = rw (apart) (e, h)
    other_put es x (b ∷ bs) h e = by (same_iface iface b.0) refl (same_iface key.iface b.0) refl h (other_put es x bs)
      where
        by : (t : Bool) → same_iface iface b.0 ≡ t → (k : Bool) → same_iface key.iface b.0 ≡ k → either k ((own key b.1.sessions ≡ es) × HaveNone bs) ((own key b.1.sessions ≡ []) × HaveOnly es bs)
            → (HaveOnly es bs → own key x.sessions ≡ [] → HaveOnly es (put_bus iface x bs)) → HaveOnly es (put_bus iface x (b ∷ bs))
        by true t true k h others = absurd (true≢false (sym k ∙ apart_from b.0 t))
        by true t false k h others = rw (t) (rw (k) (e, h.1))
        by false t true k h others = rw (t) (rw (k) (h.0, none_put x bs h.1 e))
        by false t false k h others = rw (t) (rw (k) (h.0, others h.1 e))

  -- ---- at the end of the log

  abbrev lost_at_end : Sessions → List Told
  lost_at_end es = losses (fates.Lost EndOfLog) es

  ended_first : (b : Iface × Bus) (bs : Buses) → told_of_key key (ended (b ∷ bs)) ≡ lost_at_end (own key b.1.sessions) ++ told_of_key key (ended bs)
  ended_first b bs = of_append key (lost_at_end b.1.sessions) (ended bs) ∙ ap (λ ts. ts ++ told_of_key key (ended bs)) (of_losses key EndOfLog b.1.sessions)

  none_ended : (bs : Buses) → HaveNone bs → told_of_key key (ended bs) ≡ []
  none_ended [] h = refl
  none_ended (b ∷ bs) h = ended_first b bs ∙ (λ i. lost_at_end (h.0 i) ++ none_ended bs h.1 i)

  only_ended : (es : Sessions) (bs : Buses) → HaveOnly es bs → told_of_key key (ended bs) ≡ lost_at_end es
  only_ended es [] h = ap lost_at_end (sym h)
  only_ended es (b ∷ bs) h =
      (elim (same_iface key.iface b.0) as (λ t. either t ((own key b.1.sessions ≡ es) × HaveNone bs) ((own key b.1.sessions ≡ []) × HaveOnly es bs) → told_of_key key (ended (b ∷ bs)) ≡ lost_at_end es) [
        | true ↦ λ h. ended_first b bs ∙ (λ i. lost_at_end (h.0 i) ++ none_ended bs h.1 i) ∙ append-nil (lost_at_end es)
        | false ↦ λ h. ended_first b bs ∙ (λ i. lost_at_end (h.0 i) ++ only_ended es bs h.1 i)
      ]) h

  -- ---- a frame of the log

  -- what is under way of the key, and was told of it, is so
  pub record Stands (C : Heard → Type 0) (l : State) (told : List Told) : Type 0 where
    pub es : Sessions
    pub only : HaveOnly es l.buses
    pub so : C (es, told_of_key key told)

  abbrev pub Passes : (Heard → Type 0) → Type 0
  Passes C = (before time : ℕ) (h : Heard) → C h → C (passed before time h)

  abbrev pub Leads : (Heard → Type 0) → CanFrame → (Heard → Type 0) → Type 0
  Leads C f C' = (most now : ℕ) (h : Heard) → C (of_own key h) → C' (of_own key (frame_taken key.iface f most now h))

  module _ (C : Heard → Type 0) (pass : Passes C) (l : State) (told : List Told) (a : Stands C l told) (time : ℕ) (f : CanFrame) where
    abbrev b : Bus
    b = bus_at key.iface l.buses

    abbrev before : Heard
    before = passed b.time time (b.sessions, told)

    so_before : C (of_own key before)
    so_before =
        let is : of_own key before ≡ passed b.time time (a.es, told_of_key key told) = own_passed key b.time time (b.sessions, told) ∙ ap (λ es. passed b.time time (es, told_of_key key told)) (only_at a.es l.buses a.only) in
        subst C (sym is) (pass b.time time (a.es, told_of_key key told) a.so)

    abbrev after : Heard
    after = frame_taken key.iface f l.most (now_at b.time time) before

    taken_on : (C' : Heard → Type 0) → C' (of_own key after) → Stands C' (taken l time key.iface f told).0 (taken l time key.iface f told).1
    taken_on C' c = record { es = own key after.0; only = only_put a.es (own key after.0) (record { time = now_at b.time time; sessions = after.0 }) l.buses a.only refl; so = c }

    pub own_taken : (C' : Heard → Type 0) → Leads C f C' → Stands C' (taken l time key.iface f told).0 (taken l time key.iface f told).1
    own_taken C' leads = taken_on C' (leads l.most (now_at b.time time) before so_before)

    here_taken : is_frame_of key key.iface f ≡ false → Stands C (taken l time key.iface f told).0 (taken l time key.iface f told).1
    here_taken isnt = taken_on C (subst C (sym (other_frame key key.iface f l.most (now_at b.time time) before isnt)) so_before)

    module _ (iface : Iface) (apart : same_iface key.iface iface ≡ false) where
      abbrev o : Bus
      o = bus_at iface l.buses

      abbrev other_after : Heard
      other_after = frame_taken iface f l.most (now_at o.time time) (passed o.time time (o.sessions, told))

      abbrev past : Bool → Heard
      past t = cond t ([], told_of_key key told ++ []) ([], told_of_key key told ++ [])

      same_after : of_own key other_after ≡ ([], told_of_key key told)
      same_after =
          other_frame key iface f l.most (now_at o.time time) (passed o.time time (o.sessions, told)) (frame_elsewhere key iface f apart)
          ∙ own_passed key o.time time (o.sessions, told)
          ∙ ap (λ es. passed o.time time (es, told_of_key key told)) (other_at iface apart a.es l.buses a.only)
          ∙ none_passes (told_of_key key told) o.time time

      pub elsewhere_taken : Stands C (taken l time iface f told).0 (taken l time iface f told).1
      elsewhere_taken = record {
        es = a.es;
        only = other_put iface apart a.es (record { time = now_at o.time time; sessions = other_after.0 }) l.buses a.only (ap (λ h. h.0) same_after);
        so = subst (λ ts. C (a.es, ts)) (sym (ap (λ h. h.1) same_after)) a.so;
      }

    iface_is : (iface : Iface) → same_iface key.iface iface ≡ true → key.iface ≡ iface
    iface_is iface e = ap (λ k. let i : Iface = record { kept = k } in i) ((bytes_decides key.iface.kept iface.kept).0 e)

    pub others_taken : (iface : Iface) → is_frame_of key iface f ≡ false → Stands C (taken l time iface f told).0 (taken l time iface f told).1
    others_taken iface isnt = by (same_iface key.iface iface) refl
      where
        by : (t : Bool) → same_iface key.iface iface ≡ t → Stands C (taken l time iface f told).0 (taken l time iface f told).1
        by true t = subst (λ i. Stands C (taken l time i f told).0 (taken l time i f told).1) (iface_is iface t) (here_taken (subst (λ i. is_frame_of key i f ≡ false) (sym (iface_is iface t)) isnt))
        by false t = elsewhere_taken iface t

    pub owns_taken : (C' : Heard → Type 0) → Leads C f C' → (iface : Iface) → is_frame_of key iface f ≡ true → Stands C' (taken l time iface f told).0 (taken l time iface f told).1
    owns_taken C' leads iface is_own = by (same_iface key.iface iface) refl
      where
        by : (t : Bool) → same_iface key.iface iface ≡ t → Stands C' (taken l time iface f told).0 (taken l time iface f told).1
        by true t = subst (λ i. Stands C' (taken l time i f told).0 (taken l time i f told).1) (iface_is iface t) (own_taken C' leads)
        by false t = absurd (true≢false (sym is_own ∙ frame_elsewhere key iface f t))

-- ---- a whole log

module _ (key : Key) (pgn : ℕ) (bytes : List ℕ) where
  -- if its frames of the key are a part of these, what is told to its end is right
  abbrev pub Fine : (Heard → Type 0) → List CanFrame → Type 0
  Fine C whole = (l : State) (log : List Entry) (told : List Told) → Stands key C l told → IsPartOf (frames_of key log) whole
      → IsToldOf key pgn bytes (told_of_key key ((heard_through l log told).1 ++ ended (heard_through l log told).0.buses))

  abbrev frames_from : Entry → List Entry → Bool → List CanFrame
  frames_from e es t = map (λ x. x.2) (cond t (e ∷ filter (λ x. is_frame_of key x.1 x.2) es) (filter (λ x. is_frame_of key x.1 x.2) es))

  module _ (C : Heard → Type 0) (pass : Passes key C) where
    pub nothing_more : ((h : Heard) → C h → IsToldOf key pgn bytes (h.1 ++ losses (fates.Lost EndOfLog) h.0)) → Fine C []
    nothing_more right l [] told a part =
        let is : told_of_key key (told ++ ended l.buses) ≡ told_of_key key told ++ losses (fates.Lost EndOfLog) a.es = of_append key told (ended l.buses) ∙ ap (λ ts. told_of_key key told ++ ts) (only_ended key a.es l.buses a.only) in
        subst (IsToldOf key pgn bytes) (sym is) (right (a.es, told_of_key key told) a.so)
    nothing_more right l (e ∷ es) told a part = by (is_frame_of key e.1 e.2) refl part (nothing_more right (taken l e.0 e.1 e.2 told).0 es (taken l e.0 e.1 e.2 told).1)
      where
        by : (t : Bool) → is_frame_of key e.1 e.2 ≡ t → IsPartOf (frames_from e es (is_frame_of key e.1 e.2)) []
            → (Stands key C (taken l e.0 e.1 e.2 told).0 (taken l e.0 e.1 e.2 told).1 → IsPartOf (frames_of key es) [] → IsToldOf key pgn bytes (told_of_key key ((heard_through l (e ∷ es) told).1 ++ ended (heard_through l (e ∷ es) told).0.buses)))
            → IsToldOf key pgn bytes (told_of_key key ((heard_through l (e ∷ es) told).1 ++ ended (heard_through l (e ∷ es) told).0.buses))
        by true t part others = absurd (subst (λ b. IsPartOf (frames_from e es b) []) t part)
        by false t part others = others (others_taken key C pass l told a e.0 e.2 e.1 t) (subst (λ b. IsPartOf (frames_from e es b) []) t part)

    module _ (C' : Heard → Type 0) (f : CanFrame) (whole : List CanFrame) (skip : (h : Heard) → C h → C' h) (leads : Leads key C f C') (rest : Fine C' whole) where
      pub one_more : Fine C (f ∷ whole)
      one_more l [] told a part = rest l [] told (record { es = a.es; only = a.only; so = skip (a.es, told_of_key key told) a.so }) tt
      one_more l (e ∷ es) told a part = by (is_frame_of key e.1 e.2) refl part (one_more (taken l e.0 e.1 e.2 told).0 es (taken l e.0 e.1 e.2 told).1)
        where
          is_next : (is_own : is_frame_of key e.1 e.2 ≡ true) → ((e.2 ≡ f) × IsPartOf (frames_of key es) whole) ⊎ IsPartOf (e.2 ∷ frames_of key es) whole → IsToldOf key pgn bytes (told_of_key key ((heard_through l (e ∷ es) told).1 ++ ended (heard_through l (e ∷ es) told).0.buses))
          is_next is_own (inl p) = rest (taken l e.0 e.1 e.2 told).0 es (taken l e.0 e.1 e.2 told).1 (owns_taken key C pass l told a e.0 e.2 C' (subst (λ x. Leads key C x C') (sym p.0) leads) e.1 is_own) p.1
          is_next is_own (inr p) = rest l (e ∷ es) told (record { es = a.es; only = a.only; so = skip (a.es, told_of_key key told) a.so }) (subst (λ b. IsPartOf (frames_from e es b) whole) (sym is_own) p)

          by : (t : Bool) → is_frame_of key e.1 e.2 ≡ t → IsPartOf (frames_from e es (is_frame_of key e.1 e.2)) (f ∷ whole)
              → (Stands key C (taken l e.0 e.1 e.2 told).0 (taken l e.0 e.1 e.2 told).1 → IsPartOf (frames_of key es) (f ∷ whole) → IsToldOf key pgn bytes (told_of_key key ((heard_through l (e ∷ es) told).1 ++ ended (heard_through l (e ∷ es) told).0.buses)))
              → IsToldOf key pgn bytes (told_of_key key ((heard_through l (e ∷ es) told).1 ++ ended (heard_through l (e ∷ es) told).0.buses))
          by true t part others = is_next t (subst (λ b. IsPartOf (frames_from e es b) (f ∷ whole)) t part)
          by false t part others = others (others_taken key C pass l told a e.0 e.2 e.1 t) (subst (λ b. IsPartOf (frames_from e es b) (f ∷ whole)) t part)
