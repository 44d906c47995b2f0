-- From the moment on the two records are woven into one of a segment with both.
use Rattle.std.proofs.Common.{◌≡◌, ◌≢◌, ◌⊎◌, inl, inr, ℕ, zero, suc, ◌+◌, ◌<◌, ◌≤◌, ◌^◌, true, List, [], ◌++◌, length, Option, refl, sym, ap, ◌∙◌, subst, arith}
use Rattle.std.specs.List.{list_all}
use Rattle.bus_frame.specs.Frames.{CanFrame}
use Rattle.pgn_ids.specs.declared.address.Address.{Address}
use Rattle.bus_order.specs.Bus.{bus_len}
use Rattle.segment_law.specs.Segment.{Segment}
use Rattle.segment_law.specs.Calls.{is_call, is_frame}
use Rattle.segment_law.specs.Record.{Record, calls_of}
use Rattle.segment_law.specs.Drift.{Drift}
use Rattle.segment_law.specs.Reached.{IsReached}
use Rattle.network_law.proofs.Joins.{joins_else, zero_more}
use Rattle.network_law.proofs.Meeting.{steps_are}
use Rattle.network_law.proofs.Runs.{KeepsOwn, steps_from, made, own_of, drift_on, fit_on, Ran, run, made_extra}
use Rattle.network_law.proofs.Weave.{Woven, all_made, AreAll, all_else, weave_all, stands_still, ran_stands, fair_first, fair_second, Thread, add_extra, fair_added, ran_first, ran_second, ran_first_made, ran_second_made, ran_first_own, ran_first_other, ran_second_own, ran_second_other}
use Rattle.restart_law.specs.Start.{IsOnBusSince, MayRepeat}
use Rattle.restart_law.proofs.Both.{IsLone, both, reached, joins_d, joins_s, short}

module _ (keeps : KeepsOwn) (s d : Address) (distinct : s.0 ≢ d.0) (before_s since_s before_d since_d : Record) (bus : List CanFrame) (are : list_all is_frame bus ≡ true) (room : length bus + 1 < 2 ^ 64)
    (first : IsOnBusSince s before_s since_s bus) (second : IsOnBusSince d before_d since_d bus) (ls : IsLone s first.start) (ld : IsLone d second.start) (last : Option CanFrame) (again_s : MayRepeat last first.start) (again_d : MayRepeat last second.start) where
  abbrev B : Segment
  B = both s d distinct first.start second.start ls ld last again_s again_d

  B_reached : IsReached B
  B_reached = reached s d distinct first.start second.start ls ld last again_s again_d

  apart : ◌≢◌ {A = ℕ} 1 0
  apart e = absurd (omega (arith, e))

  only : AreAll 1 0 B
  only k l = of_two k (let e : length B.bus.cursors ≡ 2 = B_reached.bus.cursors in omega (arith, l, e))
    where
      of_two : (k : ℕ) → k < 2 → (k ≡ 1) ⊎ (k ≡ 0)
      of_two zero l = inr refl
      of_two (suc zero) l = inl refl
      of_two (suc (suc k)) l = absurd (omega (arith, l))

  ra : Ran s 1 B (steps_from first.start (calls_of since_s)) bus
  ra = run keeps s 1 bus (calls_of since_s) first.calls_fit first.start B ls.reached ls.each B_reached (joins_s s d distinct first.start second.start ls ld last again_s again_d) first.fits first.orderly

  rb : Ran d 0 ra.next (steps_from second.start (calls_of since_d)) bus
  rb = run keeps d 0 bus (calls_of since_d) second.calls_fit second.start ra.next ld.reached ld.each ra.reached
      (joins_else d 0 1 second.start B ra.next [] [] B_reached (λ e. apart (sym e)) (joins_d s d distinct first.start second.start ls ld last again_s again_d) ra.elsewhere) second.fits second.orderly

  len_is : bus_len rb.next.bus ≡ bus_len B.bus
  len_is = rb.elsewhere.len ∙ zero_more (bus_len ra.next.bus) ∙ ra.elsewhere.len ∙ zero_more (bus_len B.bus)

  w : Woven rb.next (steps_from ra.own ra.rest) (steps_from rb.own rb.rest)
  w = weave_all keeps s 1 d 0 apart distinct bus are rb.next ra.own rb.own ra.rest rb.rest ra.lag rb.lag rb.reached
      (stands_still s 1 0 ra.own ra.next rb.next ra.rest ra.lag bus ra.reached apart rb.elsewhere (ran_stands s 1 B _ bus ra))
      (ran_stands d 0 ra.next _ bus rb)
      (all_else 1 0 0 ra.next rb.next [] rb.elsewhere (all_else 1 0 1 B ra.next [] ra.elsewhere only))
      (less (bus_len rb.next.bus) (bus_len B.bus) (length bus) (2 ^ 64) len_is (short s d distinct first.start second.start ls ld last again_s again_d) room)
    where
      less : (k n l most : ℕ) → k ≡ n → n ≤ 1 → l + 1 < most → k + l < most
      less k n l most e f g = omega (arith, e, f, g)

  pub woven : Woven B since_s since_d
  woven =
      let v : List Thread = ran_second d 0 ra.next _ bus rb w.weave in
      let made_is = ran_first_made s 1 B _ bus ra v ∙ ap (λ (xs : Record). (made ra.turns ++ made_extra ra.extra) ++ xs) (ran_second_made d 0 ra.next _ bus rb w.weave) in
      record {
        weave = ran_first s 1 B _ bus ra v;
        last = w.last;
        drift = subst (λ (m : Record). Drift B m w.last) (sym made_is)
            (drift_on (made ra.turns ++ made_extra ra.extra) _ B ra.next w.last ra.drift (drift_on (made rb.turns ++ made_extra rb.extra) (all_made w.weave) ra.next rb.next w.last rb.drift w.drift));
        fit = subst (λ (m : Record). list_all is_call (calls_of m) ≡ true) (sym made_is) (fit_on (made ra.turns ++ made_extra ra.extra) _ ra.fit (fit_on (made rb.turns ++ made_extra rb.extra) (all_made w.weave) rb.fit w.fit));
        fair = fair_first ra.turns (add_extra ra.extra v) ra.fair (fair_added ra.extra v (fair_second rb.turns (add_extra rb.extra w.weave) rb.fair (fair_added rb.extra w.weave w.fair)));
        first = sym (steps_are since_s first.start first.replies) ∙ ra.is ∙ ap (λ (xs : Record). own_of ra.turns ++ xs) (w.first ∙ sym (ran_second_other d 0 ra.next _ bus rb w.weave)) ∙ sym (ran_first_own s 1 B _ bus ra v);
        second = sym (steps_are since_d second.start second.replies) ∙ rb.is ∙ ap (λ (xs : Record). own_of rb.turns ++ xs) w.second ∙ sym (ran_second_own d 0 ra.next _ bus rb w.weave) ∙ sym (ran_first_other s 1 B _ bus ra v);
      }
