-- Along a record: the table of station d has the ports that were opened and not closed, and each mark has its place.
use Rattle.std.proofs.Common.{◌≡◌, ◌⊎◌, inl, inr, ℕ, ◌+◌, ◌<◌, ◌≤◌, List, [], ◌∷◌, ◌++◌, map, length, Some, refl, sym, ap, ◌∙◌, subst, arith}
use Rattle.std.specs.Prelude.{slice_get}
use Rattle.std.proofs.lemmas.List.{length_push}
use Rattle.pgn_ids.specs.Pgn.{clean}
use Rattle.pgn_ids.specs.declared.address.Address.{Address}
use Rattle.tp_wire.specs.declared.wire.Kind.{Kind}
use Rattle.port_table.specs.Ports.{Ports, ports_for}
use Rattle.port_table.specs.declared.port.PortId.{PortId}
use Rattle.station_core.specs.Station.{Station}
use Rattle.segment_law.specs.Headline.{port_of}
use Rattle.segment_law.specs.Told.{Message, Placed, AtPort, told_from, opened_by, closed_by, sends, sent}
use Rattle.segment_law.specs.Calls.{events_of}
use Rattle.segment_law.specs.Record.{Step, Record}
use Rattle.segment_law.specs.declared.call.Call.{Call}
use Rattle.segment_law.specs.declared.reply.Reply.{Reply}
use Rattle.record_law.proofs.Lists.{Each, each_append, each_map, each_of_all, In, each_weaker}
use Rattle.broadcast_law.proofs.Counted.{giving}
use Rattle.broadcast_law.proofs.Numbered.{Giving}
use Rattle.record_law.proofs.ports.Calls.{Good, Goes, placed}
use Rattle.record_law.proofs.ports.Lives.{Openings, Closings, Lives}
use Rattle.connection_law.proofs.View.{Mark, Has, IsMarked}
use Rattle.connection_law.proofs.Marks.{less_mark}
use Rattle.connection_law.proofs.Receiver.{mark_of}
use Rattle.connection_law.proofs.Tables.{Stands}
use Rattle.connection_law.proofs.Turns.{opened_at, closed_at, Turns, shut, none_closes}
use Rattle.connection_law.proofs.Openings.{Fits, Is, in_either, opened_so, closed_so, IsMarkedAt, IsOpened, opened_more, closed_more, still_open, not_closed, marked_more, opened_on, marked_now}

-- what steps tell stands within them
told_within : {A : Type 0} (tells : Step → List A) (place : ℕ) (steps : Record) → Each (λ (x : Placed A). x.0 < place + length steps) (told_from tells place steps)
told_within tells place [] = tt
told_within {A} tells place (step ∷ steps) = each_append (λ (x : Placed A). x.0 < place + length (step ∷ steps)) (map (λ x. (place, x)) (tells step)) (told_from tells (place + 1) steps)
    (each_map (λ (x : Placed A). x.0 < place + length (step ∷ steps)) (λ x. (place, x)) (tells step) (each_of_all (λ x. place < place + length (step ∷ steps)) (λ x. omega arith) (tells step)))
    (each_weaker (λ (x : Placed A). x.0 < (place + 1) + length steps) (λ (x : Placed A). x.0 < place + length (step ∷ steps)) (λ x l. omega (arith, l)) (told_from tells (place + 1) steps) (told_within tells (place + 1) steps))

-- nothing is both within and behind
none_behind : {A : Type 0} (n m : ℕ) (xs : List (Placed A)) → m ≤ n + 1 → Each (λ (x : Placed A). x.0 < m) xs → Each (λ (x : Placed A). n < x.0) xs → xs ≡ []
none_behind n m [] l h k = refl
none_behind n m (x ∷ xs) l h k = absurd (let a : x.0 < m = h.0 in let b : n < x.0 = k.0 in omega (arith, l, a, b))

each_at : (P : ℕ → Type 0) (xs : List ℕ) (x : ℕ) → Each P xs → Has xs x → P x
each_at P [] x h k = absurd k
each_at P (y ∷ ys) x h (inl e) = subst P e h.0
each_at P (y ∷ ys) x h (inr k) = each_at P ys x h.1 k

module _ (s d : Address) where
  -- the ports of d and the marks, beside what the record tells
  pub record Kept (steps : Record) (stations : List Station) (table : Ports) (opened : Kind → Mark) (places : Kind → ℕ) (givings : List Giving) : Type 0 where
    pub lives : (p : ℕ) → Good (port_of d p) (length steps) (opened_so s d steps p) (closed_so s d steps p) stations
    pub stands : (p pgn len : ℕ) → In (Is pgn len) (opened_so s d steps p) → closed_so s d steps p ≡ [] → Stands p pgn len table.open_ports
    pub marked : (k : Kind) → IsMarkedAt s d steps (opened k) (places k)
    pub all_opened : Each (IsOpened s d steps) givings

  -- what a call makes of a mark
  abbrev pub IsMarkAfter : Record → (closed : List ℕ) → (table : Ports) → (given : List AtPort) → Mark → Mark → Type 0
  IsMarkAfter steps closed table given m old = (m ≡ less_mark closed old) ⊎ ((pgn : ℕ) × (size : ℕ) × (closed ≡ []) × (given ≡ []) × (m ≡ mark_of (length (sent steps s d)) pgn size (ports_for table (clean pgn) size)))

  -- and of its place
  abbrev pub place_of_mark : (steps : Record) (closed : List ℕ) (table : Ports) (given : List AtPort) (m old : Mark) → IsMarkAfter steps closed table given m old → ℕ → ℕ
  place_of_mark steps closed table given m old (inl e) place = place
  place_of_mark steps closed table given m old (inr e) place = 1 + length steps

  module _ (steps : Record) (call : Call) (reply : Reply) (stations next : List Station) (table new : Ports) (opened : Kind → Mark) (places : Kind → ℕ) (givings : List Giving) (h : Kept steps stations table opened places givings) where
    abbrev longer : Record
    longer = steps ++ (call, reply) ∷ []

    abbrev closed : List ℕ
    closed = closed_at d call reply

    abbrev IsNext : (given : List AtPort) → Mark → Mark → Type 0
    IsNext given m old = IsMarkAfter steps closed table given m old

    abbrev place_after : (given : List AtPort) (m old : Mark) → IsNext given m old → ℕ → ℕ
    place_after given m old e place = place_of_mark steps closed table given m old e place

    pub all_opened_on : Each (λ (g : Giving). g.place ≤ length steps) givings → Each (IsOpened s d longer) givings
    all_opened_on l = by givings l h.all_opened
      where
        by : (gs : List Giving) → Each (λ (g : Giving). g.place ≤ length steps) gs → Each (IsOpened s d steps) gs → Each (IsOpened s d longer) gs
        by [] l k = tt
        by (g ∷ gs) l k = (opened_on s d steps call reply g l.0 k.0, by gs l.1 k.1)

    module _ (j : ℕ) (st : Station) (at : slice_get stations j ≡ Some st) (is : st.address.0 ≡ d.0) (table_is : st.ports ≡ table)
        (past : Each (λ (x : Placed Message). x.0 ≤ length steps) (sends steps s d)) (given : List AtPort) (after : Kind → Mark) (marks : (k : Kind) → IsNext given (after k) (opened k)) where
      marked_after : (k : Kind) → IsMarkedAt s d longer (after k) (place_after given (after k) (opened k) (marks k) (places k))
      marked_after k = by (marks k)
        where
          by : (m : IsNext given (after k) (opened k)) → IsMarkedAt s d longer (after k) (place_after given (after k) (opened k) m (places k))
          by (inl e) = subst (λ m. IsMarkedAt s d longer m (places k)) (sym e) (marked_more s d steps call reply closed (shut d call reply) (opened k) (places k) (h.marked k))
          by (inr (pgn, size, none, quiet, e)) = subst (λ m. IsMarkedAt s d longer m (1 + length steps)) (sym e)
              (marked_now s d steps call reply table h.stands (λ p. subst (Lives p (length steps) (opened_so s d steps p) (closed_so s d steps p)) table_is ((h.lives p j st at).1 is)) (λ p. none_closes d call reply p none) pgn size past)

      module _ (turns : Turns (opened_at d call reply) closed table new)
          (go : (p n : ℕ) (os : Openings) (cs : Closings) → Good (port_of d p) n os cs stations → Goes (port_of d p) n os cs (opened_by (port_of d p) call reply) (closed_by (port_of d p) call reply) next (events_of reply)) where
        lives_after : (p : ℕ) → Good (port_of d p) (length longer) (opened_so s d longer p) (closed_so s d longer p) next
        lives_after p =
            let n_is : length steps + 1 ≡ length longer = sym (length_push steps (call, reply)) in
            let one : length steps + 1 ≡ 1 + length steps = omega arith in
            subst (λ n. Good (port_of d p) n (opened_so s d longer p) (closed_so s d longer p) next) n_is
            (subst (λ (z : Openings × Closings). Good (port_of d p) (length steps + 1) z.0 z.1 next)
            (λ i. ((ap (λ n. opened_so s d steps p ++ placed n (opened_by (port_of d p) call reply)) one ∙ sym (opened_more s d steps call reply p)) i, (ap (λ n. closed_so s d steps p ++ placed n (closed_by (port_of d p) call reply)) one ∙ sym (closed_more s d steps call reply p)) i))
            (go p (length steps) (opened_so s d steps p) (closed_so s d steps p) (h.lives p)).next)

        stands_after : (p pgn len : ℕ) → In (Is pgn len) (opened_so s d longer p) → closed_so s d longer p ≡ [] → Stands p pgn len new.open_ports
        stands_after p pgn len i e = turns p pgn len (by (in_either (length steps) pgn len (opened_so s d steps p) (opened_at d call reply p) (subst (In (Is pgn len)) (opened_more s d steps call reply p) i))) (shut d call reply p (not_closed s d steps call reply p e))
          where
            by : In (Is pgn len) (opened_so s d steps p) ⊎ Has (opened_at d call reply p) (pgn, len) → Stands p pgn len table.open_ports ⊎ Has (opened_at d call reply p) (pgn, len)
            by (inl k) = inl (h.stands p pgn len k (still_open s d steps call reply p e))
            by (inr k) = inr k

        pub kept_next : (gs : List Giving) → Each (IsOpened s d longer) gs → Kept longer next new after (λ k. place_after given (after k) (opened k) (marks k) (places k)) gs
        kept_next gs all = record { lives = lives_after; stands = stands_after; marked = marked_after; all_opened = all }

      -- A message is given: the mark of its kind stood before

      pub opened_new : (k : Kind) (ports : List ℕ) (number pgn : ℕ) (bytes : List ℕ) → (given ≡ [] → ⊥) → IsMarked (after k) ports number pgn (length bytes) → IsOpened s d longer (giving (length steps) ports (clean pgn, bytes) (after k).count)
      opened_new k ports number pgn bytes some is_marked = by (marks k) (marked_after k)
        where
          message : Message
          message = (clean pgn, bytes)

          within : (p : ℕ) → Each (λ (c : Placed PortId). 1 + length steps < c.0) (closed_so s d longer p) → closed_so s d longer p ≡ []
          within p c = none_behind (1 + length steps) (1 + length longer) (closed_so s d longer p) (let e : length longer ≡ length steps + 1 = length_push steps (call, reply) in omega (arith, e)) (told_within (λ step. closed_by (port_of d p) step.0 step.1) 1 longer) c

          fits : (place : ℕ) → Fits place (clean pgn) (length bytes) ≡ Fits place (clean (after k).pgn) (after k).size
          fits place = λ i. Fits place (clean (is_marked.1 i)) (is_marked.2 i)

          by : (m : IsNext given (after k) (opened k)) → IsMarkedAt s d longer (after k) (place_after given (after k) (opened k) m (places k)) → IsOpened s d longer (giving (length steps) ports message (after k).count)
          by (inr (p, size, none, quiet, e)) mk = absurd (some quiet)
          by (inl e) mk = record {
            opening = places k;
            turn = let l : places k ≤ length steps = (h.marked k).past in omega (arith, l);
            after = mk.after;
            some = (let (p, o, c) = mk.some is_marked.3 in (p, subst (λ P. In P (opened_so s d longer p)) (sym (fits (places k))) o, c));
            all = λ p i c. each_at (Has ports) (after k).due p is_marked.4 (mk.covers p (subst (λ P. In P (opened_so s d longer p)) (fits (places k)) i) (within p c));
          }
