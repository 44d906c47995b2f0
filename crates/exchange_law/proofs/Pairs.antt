-- Two stations among those of a segment: the states of these two change, and every other station stays as it is.
use Rattle.std.proofs.Common.{◌≡◌, ℕ, zero, suc, ◌==◌, Bool, true, false, cond, List, [], ◌∷◌, ◌++◌, set, get_or, Option, Some, None, refl, sym, ap, ◌∙◌, arith}
use Rattle.std.specs.Prelude.{All, map, slice_get, flat_map}
use Rattle.std.proofs.lemmas.Bool.{eqb-true, eq-eqb, true≢false}
use Rattle.std.proofs.lemmas.List.{append-nil}
use Rattle.std.proofs.lemmas.List.Elements.{All-map}
use Rattle.std.proofs.lemmas.Option.{slice_get-map}
use Rattle.std.specs.Option.{option_map}
use Rattle.bus_frame.specs.Frames.{CanFrame}
use Rattle.pgn_ids.specs.Address.{is_one}
use Rattle.pgn_ids.specs.declared.address.Address.{Address}
use Rattle.tx_queue.specs.Queue.{free_places}
use Rattle.message_events.specs.declared.event.Event.{Event}
use Rattle.station_core.specs.Station.{Station, StationStep, quietly}
use Rattle.station_core.specs.Taking.{taken}
use Rattle.segment_law.specs.Calls.{no_place}
use Rattle.exchange_law.proofs.broadcasts.Lists.{set_where}

-- where one element alone has the test, only it tells something
module _ {X Z : Type 0} (test : X → Bool) (es : List Z) where
  none_told : (xs : List X) → ((j : ℕ) (x : X) → slice_get xs j ≡ Some x → test x ≡ false) → flat_map (λ x. cond (test x) es []) xs ≡ []
  none_told [] fails = refl
  none_told (x ∷ xs) fails = (λ j. cond (fails 0 x refl j) es [] ++ none_told xs (λ k z e. fails (suc k) z e) j)

  flat_one : (xs : List X) (i : ℕ) (z : X) → slice_get xs i ≡ Some z → test z ≡ true → ((j : ℕ) (x : X) → slice_get xs j ≡ Some x → test x ≡ true → j ≡ i) → flat_map (λ x. cond (test x) es []) xs ≡ es
  flat_one [] i z at is only = absurd cc
  flat_one (x ∷ xs) zero z at is only =
      let same : test x ≡ true = ap (λ (o : Option X). elim o as (λ (_ : Option X). Bool) [ None ↦ true | Some w ↦ test w ]) at ∙ is in
      (λ j. cond (same j) es [] ++ none_told xs (λ k w e. fails k w e (test w) refl) j) ∙ append-nil es
    where
      fails : (k : ℕ) (w : X) → slice_get xs k ≡ Some w → (b : Bool) → test w ≡ b → b ≡ false
      fails k w e true t = absurd (let h : suc k ≡ 0 = only (suc k) w e t in omega (arith, h))
      fails k w e false t = refl
  flat_one (x ∷ xs) (suc i) z at is only =
      let other : test x ≡ false = fails (test x) refl in
      (λ j. cond (other j) es [] ++ flat_one xs i z at is (λ k w e t. pred (only (suc k) w e t)) j)
    where
      fails : (b : Bool) → test x ≡ b → b ≡ false
      fails true t = absurd (let h : 0 ≡ suc i = only 0 x refl t in omega (arith, h))
      fails false t = refl

      pred : {k : ℕ} → suc k ≡ suc i → k ≡ i
      pred e = omega (arith, e)

-- stations with nothing queued, and two of them
pub record Pair : Type 0 where
  pub stations : List Station
  pub i : ℕ
  pub k : ℕ
  pub xs : Station
  pub ys : Station
  pub at : slice_get stations i ≡ Some xs
  pub there : slice_get stations k ≡ Some ys
  pub only_s : (j : ℕ) (st : Station) → slice_get stations j ≡ Some st → (st.address.0 == xs.address.0) ≡ true → j ≡ i
  pub only_d : (j : ℕ) (st : Station) → slice_get stations j ≡ Some st → (st.address.0 == ys.address.0) ≡ true → j ≡ k
  pub apart : (ys.address.0 == xs.address.0) ≡ false
  pub queues : All (λ (st : Station). st.queue ≡ []) stations
  pub own_s : is_one xs.address.0 ≡ true
  pub own_d : is_one ys.address.0 ≡ true

module _ (c : Pair) where
  abbrev pub s : Address
  s = c.xs.address

  abbrev pub d : Address
  d = c.ys.address

  abbrev pub is_s : Station → Bool
  is_s st = st.address.0 == s.0

  abbrev pub is_d : Station → Bool
  is_d st = st.address.0 == d.0

  -- one state for the sender, one for the receiver
  abbrev pub put : Station → Station → Station → Station
  put x y st = cond (is_s st) x (cond (is_d st) y st)

  abbrev pub both : Station → Station → List Station
  both x y = map (put x y) c.stations

  s_is_s : is_s c.xs ≡ true
  s_is_s = eq-eqb s.0 s.0 refl

  d_is_d : is_d c.ys ≡ true
  d_is_d = eq-eqb d.0 d.0 refl

  -- no station is both
  not_both : (st : Station) → is_d st ≡ true → is_s st ≡ false
  not_both st e = by (is_s st) refl
    where
      by : (b : Bool) → is_s st ≡ b → b ≡ false
      by true t =
          let same : d.0 ≡ s.0 = sym (eqb-true st.address.0 d.0 e) ∙ eqb-true st.address.0 s.0 t in
          absurd (true≢false (sym (eq-eqb d.0 s.0 same) ∙ c.apart))
      by false t = refl

  pub s_at : (x y : Station) → slice_get (both x y) c.i ≡ Some x
  s_at x y =
      slice_get-map (put x y) c.stations c.i
      ∙ ap (option_map (put x y)) c.at
      ∙ ap (λ (b : Bool). Some (cond b x (cond (is_d c.xs) y c.xs))) s_is_s

  pub d_at : (x y : Station) → slice_get (both x y) c.k ≡ Some y
  d_at x y =
      slice_get-map (put x y) c.stations c.k
      ∙ ap (option_map (put x y)) c.there
      ∙ (λ j. Some (cond (c.apart j) x (cond (d_is_d j) y c.ys)))

  pub s_set : (x y new : Station) → set (both x y) c.i new ≡ both new y
  s_set x y new = set_where is_s new (put x y) c.stations c.i c.xs c.at s_is_s c.only_s ∙ again c.stations
    where
      one : (st : Station) (b : Bool) → cond b new (cond b x (cond (is_d st) y st)) ≡ cond b new (cond (is_d st) y st)
      one st true = refl
      one st false = refl

      again : (zs : List Station) → map (λ st. cond (is_s st) new (put x y st)) zs ≡ map (put new y) zs
      again [] = refl
      again (st ∷ zs) = (λ j. one st (is_s st) j ∷ again zs j)

  pub d_set : (x y new : Station) → set (both x y) c.k new ≡ both x new
  d_set x y new = set_where is_d new (put x y) c.stations c.k c.ys c.there d_is_d c.only_d ∙ again c.stations
    where
      by : (st : Station) (a b : Bool) → (b ≡ true → a ≡ false) → cond b new (cond a x (cond b y st)) ≡ cond a x (cond b new st)
      by st true true h = absurd (true≢false (h refl))
      by st false true h = refl
      by st true false h = refl
      by st false false h = refl

      again : (zs : List Station) → map (λ st. cond (is_d st) new (put x y st)) zs ≡ map (put x new) zs
      again [] = refl
      again (st ∷ zs) = (λ j. by st (is_s st) (is_d st) (not_both st) j ∷ again zs j)

  -- a queue has room where those of both have
  pub rooms : (x y : Station) → no_place x ≡ false → no_place y ≡ false → All (λ (st : Station). no_place st ≡ false) (both x y)
  rooms x y room_x room_y = All-map (λ (st : Station). no_place st ≡ false) (put x y) c.stations (λ j default lt. one (get_or c.stations j default) (c.queues j default lt) (is_s (get_or c.stations j default)) (is_d (get_or c.stations j default)))
    where
      one : (st : Station) → st.queue ≡ [] → (a b : Bool) → no_place (cond a x (cond b y st)) ≡ false
      one st e true b = room_x
      one st e false true = room_y
      one st e false false = ap (λ (q : List CanFrame). free_places q == 0) e

  -- every other station lets a frame pass
  abbrev pub Passes : CanFrame → ℕ → Type 0
  Passes f now = (st : Station) → is_s st ≡ false → is_d st ≡ false → taken st f true now ≡ quietly st

  module _ (x y x' y' : Station) (told_x told_y : List Event) (f : CanFrame) (now : ℕ) (pass : Passes f now)
      (one : taken x f true now ≡ record { station = x'; events = told_x }) (other : taken y f true now ≡ record { station = y'; events = told_y }) where
    abbrev step : Station → StationStep
    step st = cond (is_s st) (record { station = x'; events = told_x }) (cond (is_d st) (record { station = y'; events = told_y }) (quietly st))

    steps : (st : Station) → taken (put x y st) f true now ≡ step st
    steps st = by (is_s st) (is_d st) refl refl
      where
        by : (a b : Bool) → is_s st ≡ a → is_d st ≡ b → taken (cond a x (cond b y st)) f true now ≡ cond a (record { station = x'; events = told_x }) (cond b (record { station = y'; events = told_y }) (quietly st))
        by true b e h = one
        by false true e h = other
        by false false e h = pass st e h

    pub stations_after : map (λ st. (taken st f true now).station) (both x y) ≡ both x' y'
    stations_after = all c.stations
      where
        by : (st : Station) (a b : Bool) → (let r : StationStep = cond a (record { station = x'; events = told_x }) (cond b (record { station = y'; events = told_y }) (quietly st)) in r.station) ≡ cond a x' (cond b y' st)
        by st true b = refl
        by st false true = refl
        by st false false = refl

        all : (zs : List Station) → map (λ st. (taken st f true now).station) (map (put x y) zs) ≡ map (put x' y') zs
        all [] = refl
        all (st ∷ zs) = (λ j. (ap (λ (r : StationStep). r.station) (steps st) ∙ by st (is_s st) (is_d st)) j ∷ all zs j)

    abbrev told : Station → List Event
    told st = cond (is_s st) told_x (cond (is_d st) told_y [])

    told_all : (zs : List Station) → flat_map (λ st. (taken st f true now).events) (map (put x y) zs) ≡ flat_map told zs
    told_all [] = refl
    told_all (st ∷ zs) = (λ j. (ap (λ (r : StationStep). r.events) (steps st) ∙ by st (is_s st) (is_d st)) j ++ told_all zs j)
      where
        by : (z : Station) (a b : Bool) → (let r : StationStep = cond a (record { station = x'; events = told_x }) (cond b (record { station = y'; events = told_y }) (quietly z)) in r.events) ≡ cond a told_x (cond b told_y [])
        by z true b = refl
        by z false true = refl
        by z false false = refl

    -- where only the receiver tells something
    pub told_by_d : told_x ≡ [] → flat_map (λ st. (taken st f true now).events) (both x y) ≡ told_y
    told_by_d none = told_all c.stations ∙ alike c.stations ∙ flat_one is_d told_y c.stations c.k c.ys c.there d_is_d c.only_d
      where
        by : (a b : Bool) → (b ≡ true → a ≡ false) → cond a told_x (cond b told_y []) ≡ cond b told_y []
        by true true h = absurd (true≢false (h refl))
        by false true h = refl
        by true false h = none
        by false false h = refl

        alike : (zs : List Station) → flat_map told zs ≡ flat_map (λ st. cond (is_d st) told_y []) zs
        alike [] = refl
        alike (st ∷ zs) = (λ j. by (is_s st) (is_d st) (not_both st) j ++ alike zs j)

    -- where only the sender does
    pub told_by_s : told_y ≡ [] → flat_map (λ st. (taken st f true now).events) (both x y) ≡ told_x
    told_by_s none = told_all c.stations ∙ alike c.stations ∙ flat_one is_s told_x c.stations c.i c.xs c.at s_is_s c.only_s
      where
        by : (a b : Bool) → cond a told_x (cond b told_y []) ≡ cond a told_x []
        by true b = refl
        by false true = none
        by false false = refl

        alike : (zs : List Station) → flat_map told zs ≡ flat_map (λ st. cond (is_s st) told_x []) zs
        alike [] = refl
        alike (st ∷ zs) = (λ j. by (is_s st) (is_d st) j ++ alike zs j)
