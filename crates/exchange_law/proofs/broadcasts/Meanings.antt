-- What a frame of a message to all says, and which stations look at it (SAE J1939-21).
use Rattle.std.proofs.Common.{◌≡◌, ℕ, ◌<◌, ◌^◌, ◌==◌, Bool, true, false, cond, not, ◌&&◌, ◌||◌, List, length, Option, Some, refl, sym, ap, ◌∙◌, arith}
use Rattle.std.proofs.lemmas.Bool.{eqb-true, eq-eqb, ltb-true}
use Rattle.bus_frame.specs.Frames.{CanFrame}
use Rattle.pgn_ids.specs.Address.{is_one}
use Rattle.pgn_ids.specs.Identifier.{id_of, meaning_of}
use Rattle.pgn_ids.specs.declared.address.Address.{Address}
use Rattle.pgn_ids.specs.declared.identifier.IdMeaning.{IdMeaning}
use Rattle.tp_wire.specs.Groups.{tp_cm, tp_dt}
use Rattle.tp_wire.specs.Reading.{reading}
use Rattle.tp_wire.specs.Rows.{written}
use Rattle.tp_wire.specs.declared.wire.Kind.TheVariants.{Tp}
use Rattle.tp_wire.specs.declared.wire.CmFrame.TheVariants.{Bam}
use Rattle.tp_wire.specs.declared.wire.Wire.{Wire}
use Rattle.tp_wire.specs.declared.wire.Wire.TheVariants.{Cm, Packet}
use Rattle.station_core.specs.Station.{Station, StationStep, quietly}
use Rattle.station_core.specs.Taking.{meaning_taken, taken, wire_taken}
use Rattle.record_law.proofs.Readings.{GivesBack, ReadsBack}
use Rattle.exchange_law.proofs.broadcasts.Receivers.{all}

-- a frame from one node to all, with its meaning
pub record IsSaid (s : Address) (wire : Wire) (f : CanFrame) : Type 0 where
  pub from_is : (meaning_of f.id).from ≡ s
  pub to_is : (meaning_of f.id).to ≡ all
  pub means : reading f ≡ Some (wire, s, all)

module _ (s : Address) (own : is_one s.0 ≡ true) (gives : GivesBack) (reads : ReadsBack) where
  below : s.0 < 256
  below = let h : s.0 < 254 = ltb-true s.0 254 own in omega arith

  pub bam_said : (size packets pgn : ℕ) → pgn < 2 ^ 18 → IsSaid s (Cm (Bam size packets pgn)) (written (Cm (Bam size packets pgn)) s.0 255)
  unfolding written
  bam_said size packets pgn fits =
      let h : meaning_of (id_of 7 tp_cm 255 s.0) ≡ record { priority = 7; pgn = tp_cm; to = all; from = s } = gives 7 tp_cm 255 s.0 (omega arith) refl (omega arith) below (λ _. refl) in
      record {
        from_is = ap (λ (x : IdMeaning). x.from) h;
        to_is = ap (λ (x : IdMeaning). x.to) h;
        means = reads (Cm (Bam size packets pgn)) s all (record { numbers = tt; widths = fits; source = own; destination = refl });
      }

  pub packet_said : (sequence : ℕ) (bytes : List ℕ) → 0 < sequence → length bytes ≡ 7 → IsSaid s (Packet Tp sequence bytes) (written (Packet Tp sequence bytes) s.0 255)
  unfolding written
  packet_said sequence bytes some seven =
      let h : meaning_of (id_of 7 tp_dt 255 s.0) ≡ record { priority = 7; pgn = tp_dt; to = all; from = s } = gives 7 tp_dt 255 s.0 (omega arith) refl (omega arith) below (λ _. refl) in
      record {
        from_is = ap (λ (x : IdMeaning). x.from) h;
        to_is = ap (λ (x : IdMeaning). x.to) h;
        means = reads (Packet Tp sequence bytes) s all (record { numbers = some; widths = seven; source = own; destination = refl });
      }

module _ (s : Address) (wire : Wire) (f : CanFrame) (h : IsSaid s wire f) (st : Station) (now : ℕ) where
  -- the sender takes its own frame
  pub taken_own : (st.address.0 == s.0) ≡ true → taken st f true now ≡ quietly st
  taken_own same =
      let e : (s.0 == st.address.0) ≡ true = eq-eqb s.0 st.address.0 (sym (eqb-true st.address.0 s.0 same)) in
      ap (λ (a : Address). cond {A = StationStep} (not (a.0 == st.address.0) && ((meaning_of f.id).to.0 == st.address.0 || (meaning_of f.id).to.0 == 255)) (meaning_taken st (reading f) true now) (quietly st)) h.from_is
      ∙ ap (λ (b : Bool). cond {A = StationStep} (not b && ((meaning_of f.id).to.0 == st.address.0 || (meaning_of f.id).to.0 == 255)) (meaning_taken st (reading f) true now) (quietly st)) e

  -- every other station
  pub taken_other : (st.address.0 == s.0) ≡ false → taken st f true now ≡ wire_taken st wire s all true now
  taken_other other =
      let e : (s.0 == st.address.0) ≡ false = flipped (s.0 == st.address.0) refl in
      ap (λ (a : Address). cond {A = StationStep} (not (a.0 == st.address.0) && ((meaning_of f.id).to.0 == st.address.0 || (meaning_of f.id).to.0 == 255)) (meaning_taken st (reading f) true now) (quietly st)) h.from_is
      ∙ ap (λ (b : Bool). cond {A = StationStep} (not b && ((meaning_of f.id).to.0 == st.address.0 || (meaning_of f.id).to.0 == 255)) (meaning_taken st (reading f) true now) (quietly st)) e
      ∙ ap (λ (a : Address). cond {A = StationStep} (a.0 == st.address.0 || a.0 == 255) (meaning_taken st (reading f) true now) (quietly st)) h.to_is
      ∙ ap (λ (b : Bool). cond {A = StationStep} b (meaning_taken st (reading f) true now) (quietly st)) (either (255 == st.address.0))
      ∙ ap (λ (o : Option (Wire × Address × Address)). meaning_taken st o true now) h.means
    where
      either : (b : Bool) → (b || true) ≡ true
      either true = refl
      either false = refl

      flipped : (b : Bool) → (s.0 == st.address.0) ≡ b → b ≡ false
      flipped true e = let t : (st.address.0 == s.0) ≡ true = eq-eqb st.address.0 s.0 (sym (eqb-true s.0 st.address.0 e)) in absurd cc
      flipped false e = refl
