-- The least key that passes is the first one in the order of the keys.
use Rattle.std.proofs.Common.{◌≡◌, Bool, true, false, cond, ◌&&◌, T as Holds, List, [], ◌∷◌, Option, Some, None, refl, sym, ap, subst, ◌∙◌, true≢false}
use Rattle.std.specs.Prelude.{find as first_of}
use Rattle.std.specs.Option.{option_map, option_map_or}
use Rattle.std.specs.Cmp.{tied_itself}
use Rattle.std.specs.Ordering.{is_eq, is_gt, is_lt, ordering_reverse}
use Rattle.std.specs.declared.cmp.Ordering.{Ordering}
use Rattle.std.specs.declared.cmp.Ordering.TheVariants.{Less, Equal, Greater}
use Rattle.std.specs.FinMap.{find, is_sorted, entries, entries_sorted, get-entries}
use Rattle.std.specs.FinMap.Entries.{below_all}
use Rattle.session_table.specs.declared.key.Key.{Key}
use Rattle.session_table.specs.declared.incoming.Incoming.{Incoming}
use Rattle.session_table.specs.Key.{key_cmp, key_eq}
use Rattle.session_table.specs.Sessions.{Sessions}
use Rattle.session_table.specs.DueOrder.{IsPicked, IsLeastPicked, passes, first_picked}
use Rattle.session_table.proofs.Keys.{key_total, key_apart}
use Rattle.session_table.proofs.Tables.{key_eq-refl, key_eq-same}
use Rattle.session_table.proofs.Least.{lt-not_gt}

front : (a b : Bool) → Holds (a && b) → a ≡ true
front true b h = refl
front false b h = absurd h

rest : (a b : Bool) → Holds (a && b) → Holds b
rest true b h = h
rest false b h = absurd h

lt-not_eq : (r : Ordering) → is_lt r ≡ true → is_eq (ordering_reverse r) ≡ false
lt-not_eq Less e = refl
lt-not_eq Equal e = absurd (true≢false (sym e))
lt-not_eq Greater e = refl

both_up_to : (r : Ordering) → is_gt r ≡ false → is_gt (ordering_reverse r) ≡ false → r ≡ Equal
both_up_to Less e f = absurd (true≢false f)
both_up_to Equal e f = refl
both_up_to Greater e f = absurd (true≢false e)

module _ {X : Type 0} where
  -- a key below all is below each that is found
  below-found : (k : Key) (es : List (Key × X)) (q : Key) (w : X) → Holds (below_all key_cmp k es) → find key_cmp q es ≡ Some w → is_lt (key_cmp k q) ≡ true
  below-found k [] q w below h = absurd (cc)
  below-found k (e ∷ es) q w below h = by (below-found k es q w (rest _ _ below)) (key_eq q e.0) refl h
    where
      by : (find key_cmp q es ≡ Some w → is_lt (key_cmp k q) ≡ true) → (b : Bool) → key_eq q e.0 ≡ b → cond b (Some e.1) (find key_cmp q es) ≡ Some w → is_lt (key_cmp k q) ≡ true
      by later true p is = ap (λ x. is_lt (key_cmp k x)) (key_eq-same q e.0 p) ∙ front _ _ below
      by later false p is = later is

  -- the first key of a sorted list is below each that is found behind it
  below-later : (e : Key × X) (es : List (Key × X)) → Holds (is_sorted key_cmp (e ∷ es)) → (q : Key) (w : X) → find key_cmp q es ≡ Some w → is_lt (key_cmp e.0 q) ≡ true
  below-later e es sorted q w is =
      below-found e.0 es q w (subst Holds (sym (front (below_all key_cmp e.0 es) (is_sorted key_cmp es) sorted)) tt) is

  module _ (test : Key × X → Bool) where
    -- a first entry that passes, up to this key
    abbrev IsReached : List (Key × X) → Key → Type 0
    IsReached es q = (e : Key × X) × (first_of test es ≡ Some e) × (is_gt (key_cmp e.0 q) ≡ false)

    -- the first entry that passes is up to each that passes
    pub first_reached : (es : List (Key × X)) → Holds (is_sorted key_cmp es) → (q : Key) (w : X) → find key_cmp q es ≡ Some w → test (q, w) ≡ true → IsReached es q
    first_reached [] sorted q w h t = absurd (cc)
    first_reached (e ∷ es) sorted q w h t = by (λ is. first_reached es (rest _ _ sorted) q w is t) (key_eq q e.0) refl h (test e) refl
      where
        by : (find key_cmp q es ≡ Some w → IsReached es q) → (b : Bool) → key_eq q e.0 ≡ b → cond b (Some e.1) (find key_cmp q es) ≡ Some w → (c : Bool) → test e ≡ c → (f : Key × X) × (cond c (Some e) (first_of test es) ≡ Some f) × (is_gt (key_cmp f.0 q) ≡ false)
        by later true p is true s = (e, refl, ap (λ x. is_gt (key_cmp e.0 x)) (key_eq-same q e.0 p) ∙ ap is_gt (tied_itself key_total e.0))
        by later true p is false s = absurd (true≢false (sym t ∙ (let value : w ≡ e.1 = cc in λ i. test (key_eq-same q e.0 p i, value i)) ∙ s))
        by later false p is true s = (e, refl, lt-not_gt (key_cmp e.0 q) (below-later e es sorted q w is))
        by later false p is false s = later is

    -- the first entry that passes is found by its key, and passes
    pub first_found : (es : List (Key × X)) → Holds (is_sorted key_cmp es) → (f : Key × X) → first_of test es ≡ Some f → (find key_cmp f.0 es ≡ Some f.1) × (test f ≡ true)
    first_found [] sorted f h = absurd (cc)
    first_found (e ∷ es) sorted f h = by (first_found es (rest _ _ sorted) f) (test e) refl h
      where
        by : (first_of test es ≡ Some f → (find key_cmp f.0 es ≡ Some f.1) × (test f ≡ true)) → (c : Bool) → test e ≡ c → cond c (Some e) (first_of test es) ≡ Some f → (find key_cmp f.0 (e ∷ es) ≡ Some f.1) × (test f ≡ true)
        by later true s is =
            let same : e ≡ f = cc in
            subst (λ x. (find key_cmp x.0 (e ∷ es) ≡ Some x.1) × (test x ≡ true)) same (ap (λ b. cond b (Some e.1) (find key_cmp e.0 es)) (key_eq-refl e.0), s)
        by later false s is =
            let there = later is in
            let apart : key_eq f.0 e.0 ≡ false = ap is_eq (key_total.antisymm f.0 e.0) ∙ lt-not_eq (key_cmp e.0 f.0) (below-later e es sorted f.0 f.1 there.0) in
            (ap (λ b. cond b (Some e.1) (find key_cmp f.0 es)) apart ∙ there.0, there.1)

module _ {T : Type 0} (m : Sessions T) (pick : Key → T × Incoming → Bool) where
  reached : (k : Key) → IsPicked m pick k → IsReached (passes pick) (entries m) k
  reached k picked =
      first_reached (passes pick) (entries m) (entries_sorted m) k (Some picked.0) (sym (get-entries m k) ∙ picked.1) picked.2

  picked_first : (e : Key × Option (T × Incoming)) → first_of (passes pick) (entries m) ≡ Some e → IsPicked m pick e.0
  picked_first e h = by (first_found (passes pick) (entries m) (entries_sorted m) e h) e.1 refl
    where
      by : (find key_cmp e.0 (entries m) ≡ Some e.1) × (passes pick e ≡ true) → (o : Option (T × Incoming)) → e.1 ≡ o → IsPicked m pick e.0
      by there None p = absurd (true≢false (sym there.1 ∙ ap (λ o. option_map_or (pick e.0) o false) p))
      by there (Some v) p = (v, get-entries m e.0 ∙ there.0 ∙ ap Some p, sym (ap (λ o. option_map_or (pick e.0) o false) p) ∙ there.1)

  -- there is one least key that passes, and it is the first
  pub least_is_first : (r : Option Key) → IsLeastPicked m pick r → r ≡ first_picked m pick
  least_is_first r least = by r (first_of (passes pick) (entries m)) refl least
    where
      by : (r : Option Key) (o : Option (Key × Option (T × Incoming))) → first_of (passes pick) (entries m) ≡ o → IsLeastPicked m pick r → r ≡ option_map (λ (e : Key × Option (T × Incoming)). e.0) o
      by None None h is = refl
      by None (Some e) h is = absurd (is e.0 (picked_first e h))
      by (Some k) None h is = let near = reached k is.0 in let there = near.1 in absurd (cc)
      by (Some k) (Some e) h is =
          let near = reached k is.0 in
          let there = near.1 in
          let same : near.0 ≡ e = cc in
          let down : is_gt (key_cmp e.0 k) ≡ false = subst (λ x. is_gt (key_cmp x.0 k) ≡ false) same near.2 in
          let up = is.1 e.0 (picked_first e h) in
          ap Some (key_apart k e.0 (both_up_to (key_cmp k e.0) up (ap is_gt (sym (key_total.antisymm e.0 k)) ∙ down)))
