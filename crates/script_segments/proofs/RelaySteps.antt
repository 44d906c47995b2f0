-- A step of the segment that is set up now is one of both.
use Rattle.std.proofs.Common.{◌≡◌, ℕ, List, Result, Ok, Err, refl, ◌∙◌, ap, subst}
use Rattle.line_faults.specs.declared.fault.LineError.{LineError}
use Rattle.line_faults.specs.declared.fault.LineError.TheVariants as errors
use Rattle.script_segments.specs.Plan as setup
use Rattle.script_segments.specs.Plan.{Plan}
use Rattle.script_segments.specs.declared.relay.gateway.Routing.{Routing}
use Rattle.script_segments.specs.Gateway.{Plans, Step, text_of, goes_on, obeyed_now, with_second, Done}

-- whatever the route is then
pub goes_done : (p : Plans) (routing : Routing) (r : Result (Unit {0}) LineError) (q : Plan) (s : setup.Step) → setup.Done r p.now q s
    → Done r p (record { before = p.before; now = q; routing = routing }) (goes_on (record p { routing = routing }) s)
goes_done p routing (Ok u) q s h = ap (goes_on (record p { routing = routing })) h
goes_done p routing (Err (errors.Fault f)) q s h = (ap (goes_on (record p { routing = routing })) h.0, h.1)
goes_done p routing (Err errors.OutOfMemory) q s h = h

-- from another beginning with the same text
done_from : (p a q : Plans) (r : Result (Unit {0}) LineError) (s : Step) → text_of a ≡ text_of p → Done r a q s → Done r p q s
done_from p a q (Ok u) s e h = h
done_from p a q (Err (errors.Fault f)) s e h = (h.0, h.1 ∙ e)
done_from p a q (Err errors.OutOfMemory) s e h = h ∙ e

-- the second segment began before
pub second_done : (p a q : Plans) (r : Result (Unit {0}) LineError) (words : List (List ℕ)) → a ≡ with_second p → Done r a q (obeyed_now a words) → Done r p q (obeyed_now (with_second p) words)
second_done p a q r words e h = done_from p (with_second p) q r (obeyed_now (with_second p) words) refl (subst (λ (x : Plans). Done r x q (obeyed_now x words)) e h)
