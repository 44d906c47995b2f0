-- The cursors furthest behind, where a cursor moves on.
use Rattle.std.proofs.Common.{◌≡◌, ◌≢◌, ℕ, zero, suc, ◌+◌, ◌-◌, ◌<◌, ◌≤◌, ◌⊎◌, min, Bool, true, false, cond, ◌==◌, List, [], ◌∷◌, ◌++◌, fold, length, get_or, set, replicate, count_by, filter, refl, sym, ap, ◌∙◌, inl, inr, ⊎_elim, arith, length-set, get_or-set_same, get_or-set_other}
use Rattle.std.proofs.lemmas.List.Sums.{sum_by-cons, sum_by-set, length-filter, get_or-le-sum_by}
use Rattle.std.proofs.lemmas.List.{get_or_default, length-replicate}
use Rattle.std.proofs.lemmas.Bool.{cases_eq, cases_lt, ne_eqb, eq-eqb}
use Rattle.bus_order.specs.Bus.{Cursor, start, lowest}
use Rattle.bus_order.specs.Rear.{IsRear}
use Rattle.bus_order.specs.declared.cursor.Rear.{Rear}

abbrev pub lowest_from : ℕ → List Cursor → ℕ
lowest_from least cs = fold (λ least other. min least other.place) least cs

lowest_from_start : (least : ℕ) (cs : List Cursor) → lowest_from least cs ≤ least
lowest_from_start least [] = omega arith
lowest_from_start least (c ∷ cs) = omega (arith, lowest_from_start (min least c.place) cs)

lowest_from_each : (least : ℕ) (cs : List Cursor) (k : ℕ) (d : Cursor) → k < length cs → lowest_from least cs ≤ (get_or cs k d).place
lowest_from_each least [] k d h = absurd (omega arith)
lowest_from_each least (c ∷ cs) zero d h = omega (arith, lowest_from_start (min least c.place) cs)
lowest_from_each least (c ∷ cs) (suc k) d h = lowest_from_each (min least c.place) cs k d (omega arith)

-- no cursor is below the lowest
pub lowest_each : (cs : List Cursor) (k : ℕ) (d : Cursor) → k < length cs → lowest cs ≤ (get_or cs k d).place
lowest_each [] k d h = absurd (omega arith)
lowest_each (c ∷ cs) zero d h = lowest_from_start c.place cs
lowest_each (c ∷ cs) (suc k) d h = lowest_from_each c.place cs k d (omega arith)

lowest_from_above : (m least : ℕ) (cs : List Cursor) → m ≤ least → ((k : ℕ) (d : Cursor) → k < length cs → m ≤ (get_or cs k d).place) → m ≤ lowest_from least cs
lowest_from_above m least [] h each = h
lowest_from_above m least (c ∷ cs) h each =
    let here : m ≤ c.place = each zero c (omega arith) in
    lowest_from_above m (min least c.place) cs (omega arith) (λ k d in'. each (suc k) d (omega arith))

-- what is below every cursor is below the lowest
pub lowest_above : (m : ℕ) (cs : List Cursor) → 0 < length cs → ((k : ℕ) (d : Cursor) → k < length cs → m ≤ (get_or cs k d).place) → m ≤ lowest cs
lowest_above m [] some each = absurd (omega arith)
lowest_above m (c ∷ cs) some each =
    lowest_from_above m c.place cs (each zero c (omega arith)) (λ k d in'. each (suc k) d (omega arith))

-- how many cursors stand at a place
abbrev pub standing : ℕ → List Cursor → ℕ
standing m cs = count_by (λ c. c.place == m) cs

-- a place where a cursor stands is not below one that all others have reached
filtered_above : (least m : ℕ) (cs : List Cursor) → ((k : ℕ) (d : Cursor) → k < length cs → least ≤ (get_or cs k d).place) → 0 < length (filter (λ c. c.place == m) cs) → least ≤ m
filtered_above least m [] each some = absurd (omega arith)
filtered_above least m (c ∷ cs) each some =
    ⊎_elim
    (λ (e : c.place ≡ m). rw (← e) (each zero c (omega arith)))
    (λ (ne : c.place ≡ m → ⊥).
    let off : (c.place == m) ≡ false = ne_eqb c.place m ne in
    let rest : 0 < length (filter (λ x. x.place == m) cs) = rw off at some in
    filtered_above least m cs (λ k d h. each (suc k) d (omega arith)) rest)
    (cases_eq c.place m)

lowest_standing : (m : ℕ) (cs : List Cursor) → 0 < standing m cs → lowest cs ≤ m
lowest_standing m cs some =
    filtered_above (lowest cs) m cs (lowest_each cs) (omega (arith, length-filter (λ (c : Cursor). c.place == m) cs))

-- a cursor at the lowest place
record AtLowest (least : ℕ) (cs : List Cursor) : Type 0 where
  pub place : ℕ
  pub inside : place < length cs
  pub here : (get_or cs place start).place ≡ least

lowest_from_reached : (least : ℕ) (cs : List Cursor) → (lowest_from least cs ≡ least) ⊎ AtLowest (lowest_from least cs) cs
lowest_from_reached least [] = inl refl
lowest_from_reached least (c ∷ cs) =
    ⊎_elim
    (λ (e : lowest_from (min least c.place) cs ≡ min least c.place).
    ⊎_elim
    (λ (lt : least < c.place). inl (omega arith))
    (λ (le : c.place ≤ least). inr (record { place = zero; inside = omega arith; here = omega arith }))
    (cases_lt least c.place))
    (λ (r : AtLowest (lowest_from (min least c.place) cs) cs). inr (record { place = suc r.place; inside = omega (arith, r.inside); here = r.here }))
    (lowest_from_reached (min least c.place) cs)

lowest_reached : (cs : List Cursor) → 0 < length cs → AtLowest (lowest cs) cs
lowest_reached [] some = absurd (omega arith)
lowest_reached (c ∷ cs) some =
    ⊎_elim
    (λ (e : lowest_from c.place cs ≡ c.place). record { place = zero; inside = omega arith; here = sym e })
    (λ (r : AtLowest (lowest_from c.place cs) cs). record { place = suc r.place; inside = omega (arith, r.inside); here = r.here })
    (lowest_from_reached c.place cs)

-- some cursor stands at the lowest place
standing_lowest : (cs : List Cursor) → 0 < length cs → 0 < standing (lowest cs) cs
standing_lowest cs some =
    let r : AtLowest (lowest cs) cs = lowest_reached cs some in
    let le : cond ((get_or cs r.place start).place == lowest cs) 1 0 ≤ standing (lowest cs) cs = get_or-le-sum_by (λ (c : Cursor). cond (c.place == lowest cs) 1 0) cs r.place start r.inside in
    let on : ((get_or cs r.place start).place == lowest cs) ≡ true = eq-eqb (get_or cs r.place start).place (lowest cs) r.here in
    rw on at le

-- the lowest place never falls
pub lowest_moved : (cs : List Cursor) (at : ℕ) (to : Cursor) → at < length cs → (get_or cs at start).place ≤ to.place → lowest cs ≤ lowest (set cs at to)
lowest_moved cs at to h on =
    lowest_above (lowest cs) (set cs at to) (omega (arith, length-set cs at to)) each
  where
    each : (k : ℕ) (d : Cursor) → k < length (set cs at to) → lowest cs ≤ (get_or (set cs at to) k d).place
    each k d in' =
        let l : k < length cs = omega (arith, length-set cs at to) in
        ⊎_elim
        (λ (e : k ≡ at). rw (e, get_or-set_same cs at to d h) (omega (arith, lowest_each cs at start h)))
        (λ (ne : k ≢ at). rw (get_or-set_other cs at k to d ne) (lowest_each cs k d l))
        (cases_eq k at)

-- where cursors still stand at the lowest place after one has moved on, it stays the lowest
lowest_stays : (cs : List Cursor) (at : ℕ) (to : Cursor) → at < length cs → (get_or cs at start).place ≤ to.place → 0 < standing (lowest cs) (set cs at to) → lowest cs ≡ lowest (set cs at to)
lowest_stays cs at to h on some =
    omega (arith, lowest_moved cs at to h on, lowest_standing (lowest cs) (set cs at to) some)

-- how many stand at a place after one has moved
standing_moved : (m : ℕ) (cs : List Cursor) (at : ℕ) (to : Cursor) → at < length cs → standing m (set cs at to) + cond ((get_or cs at start).place == m) 1 0 ≡ standing m cs + cond (to.place == m) 1 0
standing_moved m cs at to h = sum_by-set (λ (c : Cursor). cond (c.place == m) 1 0) cs at to start h

-- the place of those furthest behind stays where some still stand there
rear_moved : (rear : Rear) (count : ℕ) (cs : List Cursor) (at : ℕ) (to : Cursor) → IsRear rear cs → at < length cs → (get_or cs at start).place ≤ to.place → count ≡ standing rear.place (set cs at to) → 0 < count → IsRear (record { place = rear.place; count = count }) (set cs at to)
rear_moved rear count cs at to r h on e some =
    let s : 0 < standing (lowest cs) (set cs at to) = rw (← r.place) (omega (arith, e)) in
    record { place = r.place ∙ lowest_stays cs at to h on s; count = e }

-- a cursor that isn't among those furthest behind moves on
pub rear_left_behind : (rear : Rear) (cs : List Cursor) (at : ℕ) (to : Cursor) → IsRear rear cs → at < length cs → (get_or cs at start).place ≤ to.place → (get_or cs at start).place ≢ rear.place → IsRear rear (set cs at to)
rear_left_behind rear cs at to r h on ne =
    let low : lowest cs ≤ (get_or cs at start).place = lowest_each cs at start h in
    let off : ((get_or cs at start).place == rear.place) ≡ false = ne_eqb (get_or cs at start).place rear.place ne in
    let up : (to.place == rear.place) ≡ false = ne_eqb to.place rear.place (λ e. ne (omega (arith, r.place))) in
    let m : standing rear.place (set cs at to) + 0 ≡ standing rear.place cs + 0 = rw (off, up) at (standing_moved rear.place cs at to h) in
    let here : 0 < standing rear.place cs = rw r.place (standing_lowest cs (omega arith)) in
    rear_moved rear rear.count cs at to r h on (omega (arith, r.count)) (rw r.count here)

-- a cursor stays at its place
pub rear_same : (rear : Rear) (cs : List Cursor) (at : ℕ) (to : Cursor) → IsRear rear cs → at < length cs → to.place ≡ (get_or cs at start).place → IsRear rear (set cs at to)
rear_same rear cs at to r h e =
    let q : cond {A = ℕ} (to.place == rear.place) 1 0 ≡ cond {A = ℕ} ((get_or cs at start).place == rear.place) 1 0 = ap (λ (n : ℕ). cond {A = ℕ} (n == rear.place) 1 0) e in
    let m : standing rear.place (set cs at to) ≡ standing rear.place cs = omega (arith, standing_moved rear.place cs at to h) in
    let here : 0 < standing rear.place cs = rw r.place (standing_lowest cs (omega arith)) in
    rear_moved rear rear.count cs at to r h (omega arith) (omega (arith, r.count)) (rw r.count here)

-- one of those furthest behind moves on, and others are left
pub rear_left : (rear : Rear) (cs : List Cursor) (at : ℕ) (to : Cursor) → IsRear rear cs → at < length cs → (get_or cs at start).place ≡ rear.place → (get_or cs at start).place < to.place → 1 < rear.count → IsRear (record { place = rear.place; count = rear.count - 1 }) (set cs at to)
rear_left rear cs at to r h here on more =
    let was : ((get_or cs at start).place == rear.place) ≡ true = eq-eqb (get_or cs at start).place rear.place here in
    let off : (to.place == rear.place) ≡ false = ne_eqb to.place rear.place (λ e. omega arith) in
    let m : standing rear.place (set cs at to) + 1 ≡ standing rear.place cs + 0 = rw (was, off) at (standing_moved rear.place cs at to h) in
    rear_moved rear (rear.count - 1) cs at to r h (omega arith) (omega (arith, r.count)) (omega (arith, r.count))

-- what a read of a cursor gives
pub place_read : (cs : List Cursor) (at n : ℕ) (c : Cursor) → at < length cs → c ≡ get_or cs at c → n ≡ c.place → (get_or cs at start).place ≡ n
place_read cs at n c h e p =
    let d : get_or cs at start ≡ get_or cs at c = get_or_default cs at start c h in
    cc

-- the lowest of cursors that are all at the start
lowest_from_new : (stations : ℕ) → lowest_from 0 (replicate stations start) ≡ 0
lowest_from_new zero = refl
lowest_from_new (suc n) = lowest_from_new n

filtered_new : (stations : ℕ) → filter (λ (c : Cursor). c.place == 0) (replicate stations start) ≡ replicate stations start
filtered_new zero = refl
filtered_new (suc n) = ap (λ cs. start ∷ cs) (filtered_new n)

standing_new : (stations : ℕ) → standing 0 (replicate stations start) ≡ stations
standing_new stations =
    let f : length (filter (λ (c : Cursor). c.place == 0) (replicate stations start)) ≡ stations = rw (filtered_new stations) (length-replicate stations start) in
    omega (arith, f, length-filter (λ (c : Cursor). c.place == 0) (replicate stations start))

-- all cursors are at the start
pub rear_new : (stations : ℕ) → IsRear (record { place = 0; count = stations }) (replicate stations start)
rear_new stations = record { place = place stations; count = sym (standing_new stations) }
  where
    place : (n : ℕ) → 0 ≡ lowest (replicate n start)
    place zero = refl
    place (suc n) = sym (lowest_from_new n)

-- One cursor more

lowest_from_push : (least : ℕ) (cs : List Cursor) (c : Cursor) → lowest_from least (cs ++ c ∷ []) ≡ min (lowest_from least cs) c.place
lowest_from_push least [] c = refl
lowest_from_push least (x ∷ xs) c = lowest_from_push (min least x.place) xs c

lowest_push : (cs : List Cursor) (c : Cursor) → 0 < length cs → lowest (cs ++ c ∷ []) ≡ min (lowest cs) c.place
lowest_push [] c some = absurd (omega arith)
lowest_push (x ∷ xs) c some = lowest_from_push x.place xs c

standing_push : (m : ℕ) (cs : List Cursor) (c : Cursor) → standing m (cs ++ c ∷ []) ≡ standing m cs + cond {A = ℕ} (c.place == m) 1 0
standing_push m [] c = refl
standing_push m (x ∷ xs) c =
    let f : Cursor → ℕ = λ x. cond (x.place == m) 1 0 in
    let whole : standing m (x ∷ (xs ++ c ∷ [])) ≡ f x + standing m (xs ++ c ∷ []) = sum_by-cons f x (xs ++ c ∷ []) in
    let before : standing m (x ∷ xs) ≡ f x + standing m xs = sum_by-cons f x xs in
    omega (arith, standing_push m xs c)

-- below all before it,
pub rear_below : (rear : Rear) (cs : List Cursor) (c : Cursor) → 0 < length cs → IsRear rear cs → c.place < rear.place → IsRear (record { place = c.place; count = 1 }) (cs ++ c ∷ [])
rear_below rear cs c some h lt =
    let on : cond {A = ℕ} (c.place == c.place) 1 0 ≡ 1 = ap (λ (b : Bool). cond {A = ℕ} b 1 0) (eq-eqb c.place c.place refl) in
    let none : standing c.place cs ≡ 0 = nobody (standing c.place cs) (λ some. omega (arith, lowest_standing c.place cs some, h.place)) in
    record {
      place = omega (arith, lowest_push cs c some, h.place);
      count = omega (arith, standing_push c.place cs c);
    }
  where
    nobody : (n : ℕ) → (0 < n → ⊥) → n ≡ 0
    nobody zero never = refl
    nobody (suc n) never = absurd (never (omega arith))

-- beside those furthest behind,
pub rear_beside : (rear : Rear) (cs : List Cursor) (c : Cursor) → 0 < length cs → IsRear rear cs → c.place ≡ rear.place → IsRear (record { place = rear.place; count = rear.count + 1 }) (cs ++ c ∷ [])
rear_beside rear cs c some h e =
    let on : cond {A = ℕ} (c.place == rear.place) 1 0 ≡ 1 = ap (λ (b : Bool). cond {A = ℕ} b 1 0) (eq-eqb c.place rear.place e) in
    record {
      place = omega (arith, lowest_push cs c some, h.place);
      count = omega (arith, standing_push rear.place cs c, h.count);
    }

-- or before them
pub rear_before : (rear : Rear) (cs : List Cursor) (c : Cursor) → 0 < length cs → IsRear rear cs → rear.place < c.place → IsRear rear (cs ++ c ∷ [])
rear_before rear cs c some h lt =
    let off : cond {A = ℕ} (c.place == rear.place) 1 0 ≡ 0 = ap (λ (b : Bool). cond {A = ℕ} b 1 0) (ne_eqb c.place rear.place (λ e. omega arith)) in
    record {
      place = omega (arith, lowest_push cs c some, h.place);
      count = omega (arith, standing_push rear.place cs c, h.count);
    }
