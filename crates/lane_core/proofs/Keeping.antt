-- What is under way goes on as the same message.
use Rattle.std.proofs.Common.{ℕ, List, [], ◌∷◌, length, sym, ap, ◌∙◌}
use Rattle.lane_core.specs.declared.message.Pending.{Pending}
use Rattle.lane_core.specs.declared.place.UnderWay.{UnderWay}
use Rattle.lane_core.specs.declared.place.UnderWay.TheVariants.{Nothing, Broadcast, Connection}
use Rattle.lane_core.specs.declared.probe.Standing.{Standing}
use Rattle.lane_core.specs.LaneFields.{CarriesFront, IsCalm}
use Rattle.lane_core.specs.Pump.{front_bytes}
use Rattle.lane_core.specs.Place.{IsOfLength, KeepsMessage}

pub of_length : (from to : ℕ) (u : UnderWay) (messages : List Pending) → CarriesFront from to u messages → IsOfLength u (length (front_bytes messages))
of_length from to Nothing messages h = tt
of_length from to (Broadcast s) [] h = absurd h
of_length from to (Connection s) [] h = absurd h
of_length from to (Broadcast s) (m ∷ messages) h = sym h.1
of_length from to (Connection s) (m ∷ messages) h = sym (ap (λ l. l.len) h.1)

pub carries_on : (from to : ℕ) (u v : UnderWay) (messages : List Pending) → CarriesFront from to u messages → KeepsMessage u v → CarriesFront from to v messages
carries_on from to Nothing Nothing messages h k = h
carries_on from to (Broadcast s) (Broadcast t) [] h k = h
carries_on from to (Broadcast s) (Broadcast t) (m ∷ messages) h k = (h.0, k ∙ h.1)
carries_on from to (Connection s) (Connection t) [] h k = h
carries_on from to (Connection s) (Connection t) (m ∷ messages) h k = (h.0, k ∙ h.1)
carries_on from to Nothing (Broadcast t) messages h k = absurd k
carries_on from to Nothing (Connection t) messages h k = absurd k
carries_on from to (Broadcast s) Nothing messages h k = absurd k
carries_on from to (Broadcast s) (Connection t) messages h k = absurd k
carries_on from to (Connection s) Nothing messages h k = absurd k
carries_on from to (Connection s) (Broadcast t) messages h k = absurd k

pub calm_on : (u v : UnderWay) (standing : Standing) → IsCalm u standing → KeepsMessage u v → IsCalm v standing
calm_on Nothing Nothing standing h k = h
calm_on (Broadcast s) (Broadcast t) standing h k = h
calm_on (Connection s) (Connection t) standing h k = h
calm_on Nothing (Broadcast t) standing h k = absurd k
calm_on Nothing (Connection t) standing h k = absurd k
calm_on (Broadcast s) Nothing standing h k = absurd k
calm_on (Broadcast s) (Connection t) standing h k = absurd k
calm_on (Connection s) Nothing standing h k = absurd k
calm_on (Connection s) (Broadcast t) standing h k = absurd k
