-- Each interface is a bus of its own: what a listener hears on one is what a listener to that one alone hears.
use Rattle.std.proofs.Common.{◌≡◌, ℕ, List, [], ◌∷◌, Bool, true, false, cond, Some, refl, sym, ap, ◌∙◌, unwrap_or, if◌then◌else◌}
use Rattle.std.specs.Map.{lookup}
use Rattle.bus_frame.specs.Frames.{CanFrame}
use Rattle.log_fields.specs.declared.iface.Iface.{Iface}
use Rattle.log_fields.specs.contracts.iface.IfaceEq.TheImpl.Laws.{laws-law}
use Rattle.log_reports.specs.Keys.{same_iface}
use Rattle.log_decode.specs.Decoder.{bus_taken}
use Rattle.log_decode.specs.View.{Bus, Buses, State, new_bus, bus_at, put_bus}
use Rattle.log_reports.specs.declared.told.Told.{Told}
use Rattle.decode_law.specs.Hearing.{Log, heard_all, frames_in}

-- a bus takes frames one after another
abbrev pub heard_on : (most : ℕ) → Bus → Iface → Log → List Told → Bus × List Told
heard_on most b iface [] told = (b, told)
heard_on most b iface (f ∷ fs) told = heard_on most (bus_taken b most f.0 iface f.1 told).0 iface fs (bus_taken b most f.0 iface f.1 told).1

module _ (iface : Iface) where
  same : same_iface iface iface ≡ true
  same = laws-law.refl iface

  abbrev placed : Iface × Bus → Bus → Buses → Buses → Bool → Buses
  placed x b before after t = if t then (x.0, b) ∷ before else x ∷ after

  abbrev found : Bus → Buses → Bool → Bus
  found b bs t = unwrap_or (cond t (Some b) (lookup (same_iface iface) bs)) new_bus

  -- a bus is found where it was put
  bus_put : (b : Bus) (bs : Buses) → bus_at iface (put_bus iface b bs) ≡ b
  bus_put b [] = ap (found b []) same
  bus_put b (x ∷ bs) = by (same_iface iface x.0) refl (bus_put b bs)
    where
      by : (t : Bool) → same_iface iface x.0 ≡ t → bus_at iface (put_bus iface b bs) ≡ b → bus_at iface (put_bus iface b (x ∷ bs)) ≡ b
      by true e others = ap (λ t. bus_at iface (placed x b bs (put_bus iface b bs) t)) e ∙ ap (found b bs) e
      by false e others = ap (λ t. bus_at iface (placed x b bs (put_bus iface b bs) t)) e ∙ ap (found x.1 (put_bus iface b bs)) e ∙ others

  -- and takes the place of the one before
  put_again : (a b : Bus) (bs : Buses) → put_bus iface b (put_bus iface a bs) ≡ put_bus iface b bs
  put_again a b [] = ap (placed (iface, a) b [] (put_bus iface b [])) same
  put_again a b (x ∷ bs) = by (same_iface iface x.0) refl (put_again a b bs)
    where
      by : (t : Bool) → same_iface iface x.0 ≡ t → put_bus iface b (put_bus iface a bs) ≡ put_bus iface b bs → put_bus iface b (put_bus iface a (x ∷ bs)) ≡ put_bus iface b (x ∷ bs)
      by true e others =
          ap (λ t. put_bus iface b (placed x a bs (put_bus iface a bs) t)) e
          ∙ ap (placed (x.0, a) b bs (put_bus iface b bs)) e
          ∙ sym (ap (placed x b bs (put_bus iface b bs)) e)
      by false e others =
          ap (λ t. put_bus iface b (placed x a bs (put_bus iface a bs) t)) e
          ∙ ap (placed x b (put_bus iface a bs) (put_bus iface b (put_bus iface a bs))) e
          ∙ ap (λ ys. x ∷ ys) others
          ∙ sym (ap (placed x b bs (put_bus iface b bs)) e)

  -- a listener whose bus has come to this
  abbrev pub listener : State → Bus × List Told → State × List Told
  listener l r = (record { most = l.most; time = r.0.time; buses = put_bus iface r.0 l.buses }, r.1)

  lifted : (l : State) (f : ℕ × CanFrame) (fs : Log) (told : List Told) → heard_all l iface (f ∷ fs) told ≡ listener l (heard_on l.most (bus_at iface l.buses) iface (f ∷ fs) told)
  lifted l f [] told = refl
  lifted l f (g ∷ gs) told =
      let first : Bus × List Told = bus_taken (bus_at iface l.buses) l.most f.0 iface f.1 told in
      let next : State = (listener l first).0 in
      lifted next g gs first.1
      ∙ ap (λ b. listener next (heard_on l.most b iface (g ∷ gs) first.1)) (bus_put first.0 l.buses)
      ∙ (let r : Bus × List Told = heard_on l.most first.0 iface (g ∷ gs) first.1 in ap (λ bs. (let after : State = record { most = l.most; time = r.0.time; buses = bs } in (after, r.1))) (put_again first.0 r.0 l.buses))

  -- of a log that begins
  pub on_interface : (l : State) (log : Log) (told : List Told) (f : CanFrame) (rest : List CanFrame) → frames_in log ≡ f ∷ rest → heard_all l iface log told ≡ listener l (heard_on l.most (bus_at iface l.buses) iface log told)
  on_interface l [] told f rest frames = absurd cc
  on_interface l (g ∷ gs) told f rest frames = lifted l g gs told
