-- Of the stations looked at so far, which one transmits next.
use Rattle.std.proofs.Common.{◌≡◌, ℕ, ◌+◌, ◌<◌, ◌≤◌, List, get_or, Option, Some, None, sym, ◌∙◌, ap, inl, inr, arith}
use Rattle.std.specs.Prelude.{◌⊎◌, MatchOption}
use Rattle.std.proofs.lemmas.Bool.{cases_lt}
use Rattle.bus_frame.specs.Frames.{CanFrame}
use Rattle.pgn_ids.specs.declared.address.Address.{Address}
use Rattle.segment_law.specs.Segment.{Segment}
use Rattle.segment_law.specs.Readers.{front_at}
use Rattle.watched_segment.specs.Lowest.{NoneWaits, IsLowest}

-- the station that transmits next of the first i, and its identifier
abbrev pub Stands : Segment → List Address → ℕ → Option Address → ℕ → Type 0
Stands seg addresses i o least = MatchOption o (NoneWaits seg addresses i × (least ≡ 4294967295)) (λ a. IsLowest seg addresses i least a)

pub before_or_at : (k i : ℕ) → k < i + 1 → (k < i) ⊎ (k ≡ i)
before_or_at k i l = elim (cases_lt k i) [ inl a ↦ inl a | inr b ↦ inr (omega arith) ]

module _ (seg : Segment) (addresses : List Address) (i : ℕ) (b : Address) (at : (d : Address) → get_or addresses i d ≡ b) where
  here : (k : ℕ) (d : Address) (o : Option CanFrame) → k ≡ i → front_at seg (get_or addresses k d) ≡ o → front_at seg b ≡ o
  here k d o q s = sym (ap (front_at seg) (at d)) ∙ sym (ap (λ (n : ℕ). front_at seg (get_or addresses n d)) q) ∙ s

  pub none_more : front_at seg b ≡ None → NoneWaits seg addresses i → NoneWaits seg addresses (i + 1)
  none_more e h k d l = elim (before_or_at k i l) [
    | inl m ↦ h k d m
    | inr q ↦ ap (λ (n : ℕ). front_at seg (get_or addresses n d)) q ∙ ap (front_at seg) (at d) ∙ e
  ]

  pub lowest_kept : (id : ℕ) (a : Address) → IsLowest seg addresses i id a → ((f : CanFrame) → front_at seg b ≡ Some f → id ≤ f.id) → IsLowest seg addresses (i + 1) id a
  lowest_kept id a h e = record {
    place = h.place;
    within = omega (arith, h.within);
    is = h.is;
    bytes = h.bytes;
    front = h.front;
    least = λ k d f l s. elim (before_or_at k i l) [ inl m ↦ h.least k d f m s | inr q ↦ e f (here k d (Some f) q s) ];
    first = h.first;
  }

  pub lowest_new : (f : CanFrame) → front_at seg b ≡ Some f → ((k : ℕ) (d : Address) (g : CanFrame) → k < i → front_at seg (get_or addresses k d) ≡ Some g → f.id < g.id) → IsLowest seg addresses (i + 1) f.id b
  lowest_new f e before = record {
    place = i;
    within = omega arith;
    is = at;
    bytes = f.bytes;
    front = e;
    least = λ k d g l s. elim (before_or_at k i l) [
      | inl m ↦ omega (arith, before k d g m s)
      | inr q ↦ let same : Some f ≡ Some g = sym e ∙ here k d (Some g) q s in let id : f.id ≡ g.id = cc in omega arith
    ];
    first = before;
  }

  pub stands_none : (o : Option Address) (least : ℕ) → front_at seg b ≡ None → Stands seg addresses i o least → Stands seg addresses (i + 1) o least
  stands_none None least e h = (none_more e h.0, h.1)
  stands_none (Some a) least e h = lowest_kept least a h (λ f s. absurd cc)

  pub stands_kept : (o : Option Address) (least : ℕ) (f : CanFrame) → front_at seg b ≡ Some f → least ≤ f.id → f.id < 4294967295 → Stands seg addresses i o least → Stands seg addresses (i + 1) o least
  stands_kept None least f e l m h = absurd (omega (arith, h.1))
  stands_kept (Some a) least f e l m h = lowest_kept least a h (λ g s. let same : Some f ≡ Some g = sym e ∙ s in let id : f.id ≡ g.id = cc in omega arith)

  pub stands_new : (o : Option Address) (least : ℕ) (f : CanFrame) → front_at seg b ≡ Some f → f.id < least → Stands seg addresses i o least → IsLowest seg addresses (i + 1) f.id b
  stands_new None least f e l h = lowest_new f e (λ k d g m s. let none = h.0 k d m in absurd cc)
  stands_new (Some a) least f e l h = lowest_new f e (λ k d g m s. omega (arith, h.least k d g m s))
