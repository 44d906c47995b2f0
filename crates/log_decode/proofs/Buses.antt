-- A bus at its place in the map is that of its interface.
use Rattle.std.proofs.Common.{◌≡◌, ℕ, zero, suc, List, [], ◌∷◌, ◌++◌, ◌+◌, Some, None, sym, ◌∙◌, ap, position, slice_get, unwrap_or, length, ◌≤◌, drop, drop_of_length-le, append_assoc, arith}
use Rattle.std.specs.Map.{keys_of, values_of}
use Rattle.std.proofs.lemmas.List.{append-nil}
use Rattle.indexmap.specs.Layout.{set_value_at}
use Rattle.indexmap.proofs.MapLemmas.{Found-position, Missing-position, insert_entry-first}
use Rattle.bus_frame.specs.Frames.{CanFrame}
use Rattle.log_fields.specs.declared.iface.Iface.{Iface}
use Rattle.log_reports.specs.Keys.{same_iface}
use Rattle.log_decode.specs.Sessions.{losses}
use Rattle.log_decode.specs.View.{Bus, Buses, State, new_bus, bus_at, put_bus}
use Rattle.log_decode.specs.Decoder.{bus_taken, taken, ended}
use Rattle.log_decode.specs.declared.session.Fate.TheVariants.{Lost}
use Rattle.log_reports.specs.declared.told.Cause.TheVariants.{EndOfLog}
use Rattle.log_reports.specs.declared.told.Told.{Told}
use Rattle.log_decode.proofs.Silences.{same_some, none_is_some}

pub there : (iface : Iface) (bs : Buses) (at : ℕ) (b : Bus) → position (same_iface iface) (keys_of bs) ≡ Some at → slice_get (values_of bs) at ≡ Some b → bus_at iface bs ≡ b
there iface bs at b p g = ap (λ o. unwrap_or o new_bus) ((Found-position (same_iface iface) bs at p).value ∙ g)

pub nowhere : (iface : Iface) (bs : Buses) → position (same_iface iface) (keys_of bs) ≡ None → bus_at iface bs ≡ new_bus
nowhere iface bs p = ap (λ o. unwrap_or o new_bus) (Missing-position (same_iface iface) bs p).value

put_at : (iface : Iface) (at : ℕ) (bs : Buses) (t : Bus) → position (same_iface iface) (keys_of bs) ≡ Some at → set_value_at bs at t ≡ put_bus iface t bs
put_at iface at bs t p = sym (insert_entry-first same_iface iface t bs at (Found-position (same_iface iface) bs at p).first)

abbrev state : (most time : ℕ) → Buses → State
state most time bs = record { most = most; time = time; buses = bs }

-- by what a frame makes of its bus
abbrev then_state : (most : ℕ) → Iface → Buses → Bus × List Told → State × List Told
then_state most iface bs t = (state most t.0.time (put_bus iface t.0 bs), t.1)

-- the bus there takes a frame
pub taken_there : (most last time at : ℕ) (iface : Iface) (f : CanFrame) (bs : Buses) (b t : Bus) (told after : List Told) → position (same_iface iface) (keys_of bs) ≡ Some at → bus_at iface bs ≡ b
    → (t, after) ≡ bus_taken b most time iface f told → (state most t.time (set_value_at bs at t), after) ≡ taken (state most last bs) time iface f told
taken_there most last time at iface f bs b t told after p v e =
    ap (λ ys. (state most t.time ys, after)) (put_at iface at bs t p) ∙ ap (then_state most iface bs) e ∙ sym (ap (λ y. then_state most iface bs (bus_taken y most time iface f told)) v)

-- what is told at the end of the log, of those from a place on
abbrev pub ended_from : (at : ℕ) → Buses → List Told
ended_from at bs = ended (drop at bs)

at_place : (bs : Buses) (at : ℕ) (e : Iface × Bus) → slice_get bs at ≡ Some e → drop at bs ≡ e ∷ drop (suc at) bs
at_place [] at e g = absurd (none_is_some g)
at_place (x ∷ bs) zero e g = ap (λ y. y ∷ bs) (same_some g)
at_place (x ∷ bs) (suc at) e g = at_place bs at e g

pub ended_on : (at : ℕ) (bs : Buses) (e : Iface × Bus) (told all : List Told) → slice_get bs at ≡ Some e → told ++ ended_from at bs ≡ all → (told ++ losses (Lost EndOfLog) e.1.sessions) ++ ended_from (at + 1) bs ≡ all
ended_on at bs e told all g so_far =
    let n : at + 1 ≡ suc at = omega arith in
    let own : List Told = losses (Lost EndOfLog) e.1.sessions in
    ap (λ m. (told ++ own) ++ ended_from m bs) n ∙ append_assoc told own (ended_from (suc at) bs) ∙ sym (ap (λ ys. told ++ ended ys) (at_place bs at e g)) ∙ so_far

pub ended_all : (at : ℕ) (bs : Buses) (told all : List Told) → length bs ≤ at → told ++ ended_from at bs ≡ all → told ≡ all
ended_all at bs told all l so_far = sym (append-nil told) ∙ sym (ap (λ ys. told ++ ended ys) (drop_of_length-le bs l)) ∙ so_far
