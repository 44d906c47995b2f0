-- A `feed` or a `sent` that first ends what was under way is two deeds.
use Rattle.std.proofs.Common.{◌≡◌, Bool, true, false, List, [], ◌∷◌, ◌++◌, Option, Some, None, Ok, Err, refl, sym, ap, ◌∙◌, subst}
use Rattle.std.specs.Prelude.{Result}
use Rattle.bus_frame.specs.Frames.{CanFrame}
use Rattle.one_station.specs.Node.{Node}
use Rattle.one_station.specs.Answers.{IsFed, IsSent, IsReady, IsUndone, EndsFirst, feed_refusal}
use Rattle.one_station.specs.declared.error.Fed.{Fed}
use Rattle.one_station.specs.declared.error.Fed.TheVariants.{Taken, WithoutRoom, PassedBy}
use Rattle.one_station.specs.declared.error.NodeError.{NodeError}
use Rattle.one_station.specs.declared.error.NodeError.TheVariants.{Refused, ClockPassed, Starting, OutOfMemory}
use Rattle.node_law.specs.Life.{Deed, IsDone, Lives}
use Rattle.node_law.specs.Life.Deed.{Feeds}
use Rattle.node_law.specs.Deeds.{ends_first, fed_deeds, HasSent}

made_ready : (before ready : Node) → IsReady before ready → Lives before (ends_first before.has_missed) ready × (ready.has_missed ≡ false)
made_ready before ready (first, none) = by before.has_missed refl first
  where
    by : (b : Bool) → before.has_missed ≡ b → EndsFirst b before ready → Lives before (ends_first b) ready × (ready.has_missed ≡ false)
    by true is (alone, did) = ((ready, (is, (alone, did)), refl), ap (λ (n : Node). n.has_missed) did.node)
    by false is same = (sym same, ap (λ (n : Node). n.has_missed) same ∙ is)

-- it is ready still
stays_ready : (before ready : Node) → IsReady before ready → ready.has_missed ≡ false → IsReady ready ready
stays_ready before ready (first, none) level = (subst (λ (b : Bool). EndsFirst b ready ready) (sym level) refl, none)

lives_on : (deeds : List Deed) (before mid after : Node) (deed : Deed) → Lives before deeds mid → IsDone deed mid after → Lives before (deeds ++ deed ∷ []) after
lives_on [] before mid after deed same done = (after, subst (λ (n : Node). IsDone deed n after) (sym same) done, refl)
lives_on (d ∷ deeds) before mid after deed (next, so, rest) done = (next, so, lives_on deeds next mid after deed rest done)

undone_same : (o : Option NodeError) (before after : Node) (error : NodeError) → IsUndone o before after error → after ≡ before
undone_same None before after error (is, same) = same
undone_same (Some cause) before after error (is, same) = same

pub fed : (before after : Node) (frame : CanFrame) (answer : Result Fed NodeError) → IsFed before frame after answer → Lives before (fed_deeds before frame answer) after
fed before after frame (Ok Taken) (ready, first, taken) =
    let m = made_ready before ready first in
    lives_on (ends_first before.has_missed) before ready after (Feeds frame Taken) m.0 (m.1, (ready, stays_ready before ready first m.1, taken))
fed before after frame (Ok WithoutRoom) (ready, first, taken) =
    let m = made_ready before ready first in
    lives_on (ends_first before.has_missed) before ready after (Feeds frame WithoutRoom) m.0 (m.1, (ready, stays_ready before ready first m.1, taken))
fed before after frame (Ok PassedBy) (missed, ok, same) = sym same
fed before after frame (Err error) (ready, first, undone) =
    subst (Lives before (ends_first before.has_missed)) (sym (undone_same (feed_refusal ready frame) ready after error undone)) (made_ready before ready first).0

pub sent : (before after : Node) (answer : Result (Unit {0}) NodeError) → IsSent before after answer → HasSent before after answer
sent before after (Ok done) (ready, first, passed) =
    let m = made_ready before ready first in
    (ready, m.0, λ frame front. (after, (front, m.1, (ready, stays_ready before ready first m.1, passed)), refl))
sent before after (Err OutOfMemory) (missed, ok, same) = sym same
sent before after (Err (Refused cause)) (ready, first, (is, same)) = subst (Lives before (ends_first before.has_missed)) (sym same) (made_ready before ready first).0
sent before after (Err ClockPassed) never = absurd never
sent before after (Err (Starting tick)) never = absurd never
