-- Sessions that are taken out of their table and put back, or ended.
use Rattle.std.proofs.Common.{◌≡◌, ℕ, ◌-◌, ◌<◌, nat_lt, Bool, true, false, cond, List, Option, Some, None, refl, sym, ap, ◌∙◌, subst}
use Rattle.std.proofs.lemmas.Bool.{lt-ltb}
use Rattle.std.specs.Option.{option_flatten}
use Rattle.std.specs.FinMap as map
use Rattle.std.specs.FinMap.{get-empty, get-insert, get-remove, len-remove, same_map}
use Rattle.session_table.specs.declared.key.Key.{Key}
use Rattle.session_table.specs.declared.incoming.Incoming.{Incoming}
use Rattle.session_table.specs.Key.{key_cmp, key_eq}
use Rattle.session_table.specs.Sessions.{state_at}
use Rattle.session_table.specs.Refusal.{refusal}
use Rattle.session_table.specs.declared.TheConstants.{MAX_SESSIONS}
use Rattle.session_table.specs.declared.table.OpenRefused.TheVariants.{TableFull, OutOfMemory}
use Rattle.session_table.proofs.Keys.{key_total, key_apart}
use Rattle.session_table.proofs.Tables as tables
use Rattle.session_table.proofs.Tables.{key_eq-same}
use Rattle.station_sessions.specs.Receiving.{Inbound, NoneHeld}

abbrev Kept : Type 0
Kept = Option (List ℕ × Incoming)

module _ (m : Inbound) (k : Key) where
  over : (a b : Kept) (q : Key) (t : Bool) → key_eq q k ≡ t → cond t (Some b) (map.get (map.insert m k a) q) ≡ cond t (Some b) (map.get m q)
  over a b q true e = refl
  over a b q false e = get-insert key_total m k a q ∙ ap (λ c. cond c (Some a) (map.get m q)) e

  -- what was taken out is put back
  pub insert_again : (a b : Kept) → map.insert (map.insert m k a) k b ≡ map.insert m k b
  insert_again a b = same_map key_total key_apart _ _ (λ q. get-insert key_total (map.insert m k a) k b q ∙ over a b q (key_eq q k) refl ∙ sym (get-insert key_total m k b q))

  -- what was taken out is ended
  pub remove_inserted : (a : Kept) → map.remove (map.insert m k a) k ≡ map.remove m k
  remove_inserted a = tables.remove_inserted m k a

  same : (a : Option Kept) → map.get m k ≡ a → (q : Key) (t : Bool) → key_eq q k ≡ t → cond t a (map.get m q) ≡ map.get m q
  same a is q true e = sym is ∙ ap (map.get m) (sym (key_eq-same q k e))
  same a is q false e = refl

  -- what is put back as it was changes nothing
  pub insert_as_it_was : (a : Kept) → map.get m k ≡ Some a → map.insert m k a ≡ m
  insert_as_it_was a is = same_map key_total key_apart _ _ (λ q. get-insert key_total m k a q ∙ same (Some a) is q (key_eq q k) refl)

  -- what isn't there is not missed
  pub remove_missing : map.get m k ≡ None → map.remove m k ≡ m
  remove_missing is = same_map key_total key_apart _ _ (λ q. get-remove key_total m k q ∙ same None is q (key_eq q k) refl)

  -- a state at a key
  pub there : (v : List ℕ × Incoming) → state_at m k ≡ Some v → map.get m k ≡ Some (Some v)
  there v = by (map.get m k)
    where
      by : (o : Option Kept) → option_flatten o ≡ Some v → o ≡ Some (Some v)
      by None e = cc
      by (Some None) e = cc
      by (Some (Some w)) e = cc

  -- no state at a key that isn't held
  pub absent : NoneHeld m → state_at m k ≡ None → map.get m k ≡ None
  absent none = by (map.get m k) refl
    where
      by : (o : Option Kept) → map.get m k ≡ o → option_flatten o ≡ None → o ≡ None
      by None is e = refl
      by (Some None) is e = absurd (none.none k is)
      by (Some (Some w)) is e = cc

  pub none_held_inserted : NoneHeld m → (v : List ℕ × Incoming) → NoneHeld (map.insert m k (Some v))
  none_held_inserted none v = record { none = λ q is. by q (key_eq q k) refl (sym (get-insert key_total m k (Some v) q) ∙ is) }
    where
      by : (q : Key) (t : Bool) → key_eq q k ≡ t → cond t (Some (Some v)) (map.get m q) ≡ Some None → ⊥
      by q true e is = cc
      by q false e is = none.none q is

  pub none_held_removed : NoneHeld m → NoneHeld (map.remove m k)
  none_held_removed none = record { none = λ q is. by q (key_eq q k) refl (sym (get-remove key_total m k q) ∙ is) }
    where
      by : (q : Key) (t : Bool) → key_eq q k ≡ t → cond t None (map.get m q) ≡ Some None → ⊥
      by q true e is = cc
      by q false e is = none.none q is

pub none_held_empty : NoneHeld map.empty
none_held_empty = record { none = λ q is. (let e = get-empty {X = Kept} key_cmp q in cc) }

pub ruleset session_maps = (insert_again, remove_inserted, insert_as_it_was, remove_missing, there, absent, none_held_inserted, none_held_removed, none_held_empty)

-- how many there are beside one
pub len_others : (m : Inbound) (k : Key) → map.len (map.remove m k) ≡ cond (map.contains_key m k) (map.len m - 1) (map.len m)
len_others m k = len-remove key_total m k

pub ruleset session_lens = (len_others)

-- with less than 32 beside a key that isn't there, the table isn't full
pub room_for : {T : Type 0} (m : Inbound) (k : Key) (bound back : T) (state end : Incoming) → map.get m k ≡ None → map.len (map.remove m k) < MAX_SESSIONS → TableFull back end ≡ refusal (map.len m) bound state → ⊥
room_for m k bound back state end none few = by (nat_lt (map.len m) MAX_SESSIONS) (lt-ltb (map.len m) MAX_SESSIONS (subst (λ (x : Inbound). map.len x < MAX_SESSIONS) (remove_missing m k none) few))
  where
    by : (b : Bool) → b ≡ true → TableFull back end ≡ cond b (OutOfMemory bound state) (TableFull bound state) → ⊥
    by true e is = cc
    by false e is = cc
