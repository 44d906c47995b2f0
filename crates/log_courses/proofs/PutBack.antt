-- A row that is put into a map and taken back leaves the map as it was.
use Rattle.std.proofs.Common.{◌≡◌, List, [], ◌∷◌, Option, Some, None, IsSome, cond, true, false, refl, sym, ap, ◌∙◌, subst, true≢false}
use Rattle.std.specs.Cmp.{IsTotalOrder, tied_itself}
use Rattle.std.specs.Ordering.{is_eq, match_ordering}
use Rattle.std.specs.declared.cmp.Ordering.{Ordering}
use Rattle.std.specs.declared.cmp.Ordering.TheVariants.{Less, Equal, Greater}
use Rattle.std.specs.Option.{is_some, unwrap_or}
use Rattle.std.specs.BTreeMap.{insert_entry, is_at}
use Rattle.std.specs.Map.{lookup, remove_entry, keys_of}
use Rattle.std.specs.List.Sorted.{IsStrictlySortedBy}
use Rattle.std.proofs.lemmas.Map.{lookup-none}
use Rattle.std.proofs.lemmas.Map.Entries.{none_below_head}
use Rattle.std.proofs.lemmas.Map.Keys.{sorted_tail}
use Rattle.log_fields.specs.declared.iface.Iface.{Iface}
use Rattle.log_courses.specs.Rows.{Summary, by_row, by_name, row_at, put_back, name_of_iface, frames_named, frames_on}
use Rattle.log_courses.specs.declared.key.Name.{Name}
use Rattle.log_courses.specs.declared.key.RowKey.{RowKey}
use Rattle.log_courses.specs.declared.row.Row.{Row}
use Rattle.log_courses.specs.contracts.key.RowKeyOrd.TheImpl.Laws.{total-law}

module _ {K X : Type 0} {R : K → K → Ordering} (o : IsTotalOrder R) (k : K) (v : X) where
  itself : is_at (R k) k ≡ true
  itself = ap is_eq (tied_itself o k)

  -- a key that was new is taken out again
  removed_at : (r : Ordering) (e : K × X) (es : List (K × X)) → R k e.0 ≡ r → lookup (is_at (R k)) (e ∷ es) ≡ None
      → (lookup (is_at (R k)) es ≡ None → remove_entry (is_at (R k)) (insert_entry R es k v) ≡ es)
      → remove_entry (is_at (R k)) (match_ordering r ((k, v) ∷ e ∷ es) ((e.0, v) ∷ es) (e ∷ insert_entry R es k v)) ≡ e ∷ es
  removed_at Less e es is none next = ap (λ b. cond b (e ∷ es) ((k, v) ∷ remove_entry (is_at (R k)) (e ∷ es))) itself
  removed_at Equal e es is none next =
      let found : lookup (is_at (R k)) (e ∷ es) ≡ Some e.1 = ap (λ r. cond (is_eq r) (Some e.1) (lookup (is_at (R k)) es)) is in
      absurd (true≢false (ap is_some (sym found ∙ none)))
  removed_at Greater e es is none next =
      let later : lookup (is_at (R k)) es ≡ None = sym (ap (λ r. cond (is_eq r) (Some e.1) (lookup (is_at (R k)) es)) is) ∙ none in
      ap (λ r. cond (is_eq r) (insert_entry R es k v) (e ∷ remove_entry (is_at (R k)) (insert_entry R es k v))) is ∙ ap (λ l. e ∷ l) (next later)

  pub removed_again : (es : List (K × X)) → lookup (is_at (R k)) es ≡ None → remove_entry (is_at (R k)) (insert_entry R es k v) ≡ es
  removed_again [] none = ap (λ b. cond b [] ((k, v) ∷ [])) itself
  removed_again (e ∷ es) none = removed_at (R k e.0) e es refl none (removed_again es)

  -- the value that a key had is put back
  back_at : (r : Ordering) (e : K × X) (es : List (K × X)) (w : X) → R k e.0 ≡ r → IsStrictlySortedBy R (keys_of (e ∷ es)) → lookup (is_at (R k)) (e ∷ es) ≡ Some w
      → (lookup (is_at (R k)) es ≡ Some w → insert_entry R (insert_entry R es k v) k w ≡ es)
      → insert_entry R (match_ordering r ((k, v) ∷ e ∷ es) ((e.0, v) ∷ es) (e ∷ insert_entry R es k v)) k w ≡ e ∷ es
  back_at Less e es w is sorted found next =
      let none : lookup (is_at (R k)) (e ∷ es) ≡ None = lookup-none (is_at (R k)) (e ∷ es) (none_below_head o k e es sorted is) in
      absurd (true≢false (ap is_some (sym found ∙ none)))
  back_at Equal e es w is sorted found next =
      let had : Some e.1 ≡ Some w = sym (ap (λ r. cond (is_eq r) (Some e.1) (lookup (is_at (R k)) es)) is) ∙ found in
      ap (λ r. match_ordering r ((k, w) ∷ (e.0, v) ∷ es) ((e.0, w) ∷ es) ((e.0, v) ∷ insert_entry R es k w)) is ∙ ap (λ x. (e.0, unwrap_or x w) ∷ es) (sym had)
  back_at Greater e es w is sorted found next =
      let later : lookup (is_at (R k)) es ≡ Some w = sym (ap (λ r. cond (is_eq r) (Some e.1) (lookup (is_at (R k)) es)) is) ∙ found in
      ap (λ r. match_ordering r ((k, w) ∷ e ∷ insert_entry R es k v) ((e.0, w) ∷ insert_entry R es k v) (e ∷ insert_entry R (insert_entry R es k v) k w)) is ∙ ap (λ l. e ∷ l) (next later)

  pub put_again : (es : List (K × X)) (w : X) → IsStrictlySortedBy R (keys_of es) → lookup (is_at (R k)) es ≡ Some w → insert_entry R (insert_entry R es k v) k w ≡ es
  put_again [] w sorted found = absurd (true≢false (ap is_some (sym found)))
  put_again (e ∷ es) w sorted found = back_at (R k e.0) e es w refl sorted found (put_again es w (sorted_tail R e.0 (keys_of es) sorted))

-- and so are all rows
pub rows_again : (key : RowKey) (row : Row) (before : Option Row) (rows : List (RowKey × Row)) → IsStrictlySortedBy by_row (keys_of rows) → before ≡ row_at key rows → put_back key before (insert_entry by_row rows key row) ≡ rows
rows_again key row None rows sorted is = removed_again total-law key row rows (sym is)
rows_again key row (Some old) rows sorted is = put_again total-law key row rows old sorted (sym is)

-- a summary that a row was put into and taken back
pub all_again : (key : RowKey) (row : Row) (before : Option Row) (old counted left new : Summary) → IsStrictlySortedBy by_row (keys_of old.rows) → before ≡ row_at key old.rows
    → counted ≡ record old { rows = insert_entry by_row old.rows key row } → left ≡ counted → new ≡ record left { rows = put_back key before left.rows } → new ≡ old
all_again key row before old counted left new sorted was put same back =
    let with_rows : Summary → List (RowKey × Row) → Summary = λ s r. record s { rows = r } in
    back ∙ ap (λ s. with_rows s (put_back key before s.rows)) (same ∙ put) ∙ ap (with_rows old) (rows_again key row before old.rows sorted was)

-- an interface that isn't there had no frame
pub none_seen : (iface : Iface) (name : Name) (s : Summary) → name ≡ name_of_iface iface → lookup (is_at (by_name name)) s.frames ≡ None → frames_on iface s ≡ 0
none_seen iface name s is absent = ap (λ n. frames_named n s.frames) (sym is) ∙ ap (λ o. unwrap_or o 0) absent
