-- One more message leaves a lane right.
use Rattle.std.proofs.Common.{◌≡◌, ◌↔◌, ℕ, zero, suc, ◌<◌, ◌≤◌, ◌==◌, Bool, true, false, if◌then◌else◌, List, [], ◌∷◌, ◌++◌, length, get_or, Option, Some, None, IsSome, IfSome, Bor, refl, subst, arith}
use Rattle.std.specs.Prelude.{slice_get}
use Rattle.std.proofs.lemmas.Option.{same_Some, none-some, slice_get_read}
use Rattle.pgn_ids.specs.Address.{global_address}
use Rattle.tp_wire.specs.declared.constants.TheConstants.{MIN_SIZE, TP_MAX_SIZE, ETP_MAX_SIZE}
use Rattle.lane_core.specs.declared.message.Pending.{Pending}
use Rattle.lane_core.specs.declared.place.UnderWay.{UnderWay}
use Rattle.lane_core.specs.declared.place.UnderWay.TheVariants.{Nothing, Broadcast, Connection}
use Rattle.lane_core.specs.Lane.{longest_to}
use Rattle.lane_core.specs.LaneFields.{AreCarried, CarriesFront}

pub carried_push : (to : ℕ) (messages : List Pending) (m : Pending) → AreCarried to messages → MIN_SIZE ≤ length m.bytes → length m.bytes ≤ longest_to to → AreCarried to (messages ++ m ∷ [])
carried_push to [] m h least most = ((least, most), tt)
carried_push to (x ∷ messages) m h least most = (h.0, carried_push to messages m h.1 least most)

-- no message is longer than the longest to one destination
short_for : (b : Bool) (n : ℕ) → n ≤ (if b then TP_MAX_SIZE else ETP_MAX_SIZE) → n ≤ ETP_MAX_SIZE
short_for true n h = omega (arith, h)
short_for false n h = h

carried_at : (to : ℕ) (messages : List Pending) (i : ℕ) (m : Pending) → slice_get messages i ≡ Some m → AreCarried to messages → length m.bytes ≤ ETP_MAX_SIZE
carried_at to [] i m e h = absurd (none-some m e)
carried_at to (x ∷ messages) zero m e h = subst (λ (y : Pending). length y.bytes ≤ ETP_MAX_SIZE) (same_Some x m e) (short_for (to == global_address) (length x.bytes) h.0.1)
carried_at to (x ∷ messages) (suc i) m e h = carried_at to messages i m e h.1

pub carried_read : (to : ℕ) (messages : List Pending) (len : ℕ) (found : Option (Bor Pending)) (i : ℕ) → len ≡ length messages → (IsSome found ↔ (i < len)) → IfSome found (λ m. m.now ≡ get_or messages i m.now)
    → AreCarried to messages → IfSome found (λ m. length m.now.bytes ≤ ETP_MAX_SIZE)
carried_read to messages len None i count within read h = tt
carried_read to messages len (Some m) i count within read h = carried_at to messages i m.now (slice_get_read messages len i m.now count (within.0 refl) read) h

pub front_push : (from to : ℕ) (under_way : UnderWay) (messages : List Pending) (m : Pending) → CarriesFront from to under_way messages → CarriesFront from to under_way (messages ++ m ∷ [])
front_push from to Nothing messages m h = tt
front_push from to (Broadcast s) [] m h = absurd h
front_push from to (Broadcast s) (x ∷ messages) m h = h
front_push from to (Connection s) [] m h = absurd h
front_push from to (Connection s) (x ∷ messages) m h = h
