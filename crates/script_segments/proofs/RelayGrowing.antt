-- A line opens one port at most, so that fewer calls are stored than lines were read.
use Rattle.std.proofs.Common.{◌≡◌, ℕ, ◌+◌, List, [], ◌∷◌, Option, Some, None, Ok, Err, Bool, true, false, cond, subst}
use Rattle.std.specs.Str.{bytes_eq}
use Rattle.std.specs.Prelude.{codes, Result}
use Rattle.pgn_ids.specs.declared.address.Address.{Address}
use Rattle.segment_law.specs.declared.refusal.Refusal.{Refusal}
use Rattle.stored_calls.specs.declared.stored.Stored.{Stored}
use Rattle.script_commands.specs.Words.{is_ascii}
use Rattle.script_commands.specs.Words.{words_of}
use Rattle.script_commands.specs.Values.{◌>>=◌}
use Rattle.script_commands.specs.Routes.{route_of}
use Rattle.line_faults.specs.declared.fault.Fault.{Fault}
use Rattle.line_faults.specs.declared.fault.Fault.TheVariants.{NoStations, UnknownCommand, NotAscii}
use Rattle.script_commands.specs.declared.route.RouteWords.{RouteWords}
use Rattle.script_segments.specs.Plan as setup
use Rattle.script_segments.specs.Plan.{Plan, CallsBelow}
use Rattle.script_segments.proofs.Growing as setups
use Rattle.script_segments.specs.declared.relay.gateway.Passage.{Passage}
use Rattle.script_segments.specs.declared.relay.gateway.Routing.{Routing}
use Rattle.script_segments.specs.declared.relay.gateway.Routing.TheVariants as routings
use Rattle.script_segments.specs.Gateway.{Plans, Step, goes_on, obeyed_now, with_second, passage_of, routed, route_by, routed_by, begins_second, is_out_of_order, placed_by, named_by, ordered_by, obeyed_words, obeyed_line, HasRoom}

abbrev Below : Step → ℕ → Type 0
Below (Ok q) n = CallsBelow q.now.made n
Below (Err f) n = Unit {0}

goes : (p : Plans) (s : setup.Step) (n : ℕ) → setups.StepBelow s n → Below (goes_on p s) n
goes p (Ok q) n h = h
goes p (Err f) n h = tt

here : (p : Plans) (words : List (List ℕ)) (n : ℕ) → CallsBelow p.now.made n → Below (obeyed_now p words) (n + 1)
here p words n h = goes p (setup.obeyed_words p.now words) (n + 1) (setups.words p.now words n h)

leads : (p : Plans) (r : Result Passage Refusal) (n : ℕ) → CallsBelow p.now.made n → Below (routed p r) n
leads p (Ok passage) n h = h
leads p (Err cause) n h = h

route : (p : Plans) (first : Plan) (w : RouteWords) (n : ℕ) → CallsBelow p.now.made n → Below (route_by p first w) n
route p first w n h = by p.now.made
  where
    by : (o : Option (List Address × List Stored)) → Below (elim o as (λ (_ : Option (List Address × List Stored)). Step) [ None ↦ Err NoStations | Some m ↦ routed p (passage_of first m.0 w) ]) n
    by None = tt
    by (Some m) = leads p (passage_of first m.0 w) n h

routes : (p : Plans) (words : List (List ℕ)) (n : ℕ) → CallsBelow p.now.made n → Below (routed_by p words) n
routes p words n h = by p.before
  where
    reads : (first : Plan) (r : Result RouteWords Fault) → Below (r >>= (λ w. route_by p first w)) n
    reads first (Ok w) = route p first w n h
    reads first (Err f) = tt

    by : (o : Option Plan) → Below (elim o as (λ (_ : Option Plan). Step) [ None ↦ Err UnknownCommand | Some first ↦ route_of words >>= (λ w. route_by p first w) ]) n
    by None = tt
    by (Some first) = reads first (route_of words)

later : (s : Step) (n : ℕ) → Below s n → Below s (n + 1)
later (Ok q) n h = setups.more q.now.made n h
later (Err f) n h = tt

placed : (p : Plans) (name : List ℕ) (words : List (List ℕ)) (n : ℕ) → CallsBelow p.now.made n → Below (placed_by p name words) (n + 1)
placed p name words n h = by (is_out_of_order p name)
  where
    begins : (b : Bool) → Below (cond b (obeyed_now (with_second p) words) (obeyed_now p words)) (n + 1)
    begins true = here (with_second p) words n tt
    begins false = here p words n h

    by : (b : Bool) → Below (cond b (Err UnknownCommand) (cond (begins_second p name) (obeyed_now (with_second p) words) (obeyed_now p words))) (n + 1)
    by true = tt
    by false = begins (begins_second p name)

named : (p : Plans) (name : List ℕ) (rest : List (List ℕ)) (n : ℕ) → CallsBelow p.now.made n → Below (named_by p name rest) (n + 1)
named p name rest n h = by (bytes_eq name (codes "route"))
  where
    by : (b : Bool) → Below (cond b (routed_by p rest) (placed_by p name (name ∷ rest))) (n + 1)
    by true = later (routed_by p rest) n (routes p rest n h)
    by false = placed p name (name ∷ rest) n h

ordered : (p : Plans) (r : Routing) (name : List ℕ) (words : List (List ℕ)) (n : ℕ) → CallsBelow p.now.made n → Below (ordered_by p r name words) (n + 1)
ordered p routings.NotYet name words n h = named p name words n h
ordered p routings.Refused name words n h = tt
ordered p (routings.To passage) name words n h = tt

words : (p : Plans) (texts : List (List ℕ)) (n : ℕ) → CallsBelow p.now.made n → Below (obeyed_words p texts) (n + 1)
unfolding obeyed_words
words p [] n h = setups.more p.now.made n h
words p (name ∷ rest) n h = ordered p p.routing name rest n h

line : (p : Plans) (text : List ℕ) (n : ℕ) → CallsBelow p.now.made n → Below (obeyed_line p text) (n + 1)
unfolding obeyed_line
line p text n h = by (is_ascii text)
  where
    by : (b : Bool) → Below (cond b (obeyed_words p (words_of text)) (Err NotAscii)) (n + 1)
    by true = words p (words_of text) n h
    by false = tt

-- after a line that was obeyed
pub room_after : (p q : Plans) (text : List ℕ) (n : ℕ) → HasRoom p n → obeyed_line p text ≡ Ok q → HasRoom q (n + 1)
room_after p q text n h e = subst (λ (s : Step). Below s (n + 1)) e (line p text n h)
