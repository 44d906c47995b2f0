-- What is printed of refused lines only grows, with each line.
use Rattle.std.proofs.Common.{ℕ, List, [], ◌∷◌, Option, Some, None, Ok, Err, Bool, true, false, cond, refl}
use Rattle.std.specs.Str.{bytes_eq}
use Rattle.std.specs.Prelude.{codes, Result}
use Rattle.pgn_ids.specs.declared.address.Address.{Address}
use Rattle.segment_law.specs.declared.refusal.Refusal.{Refusal}
use Rattle.stored_calls.specs.declared.stored.Stored.{Stored}
use Rattle.script_commands.specs.Words.{is_ascii}
use Rattle.script_commands.specs.Words.{words_of}
use Rattle.script_commands.specs.Values.{◌>>=◌}
use Rattle.script_commands.specs.Routes.{route_of}
use Rattle.line_faults.specs.declared.fault.Fault.{Fault}
use Rattle.line_faults.specs.declared.fault.Fault.TheVariants.{NoStations, UnknownCommand, NotAscii}
use Rattle.script_commands.specs.declared.route.RouteWords.{RouteWords}
use Rattle.script_text.specs.Parts.{line}
use Rattle.script_text.specs.Replies.{refusal_text}
use Rattle.script_runs.specs.Reading.{Grows}
use Rattle.script_runs.proofs.ScriptsRead.{all_of}
use Rattle.script_segments.specs.Plan as setup
use Rattle.script_segments.specs.Plan.{Plan}
use Rattle.script_segments.proofs.TextsGrow as setups
use Rattle.script_segments.specs.declared.relay.gateway.Passage.{Passage}
use Rattle.script_segments.specs.declared.relay.gateway.Routing.{Routing}
use Rattle.script_segments.specs.declared.relay.gateway.Routing.TheVariants as routings
use Rattle.script_segments.specs.Gateway.{Plans, Step, text_of, goes_on, obeyed_now, with_second, not_routed, passage_of, routed, route_by, routed_by, begins_second, is_out_of_order, placed_by, named_by, ordered_by, obeyed_words, obeyed_line}

-- a step of the segment that is set up now
goes : (p : Plans) (s : setup.Step) → setups.Grows p.now s → Grows text_of p (goes_on p s)
goes p (Ok q) h = h
goes p (Err f) h = tt

here : (p : Plans) (words : List (List ℕ)) → Grows text_of p (obeyed_now p words)
here p words = goes p (setup.obeyed_words p.now words) (setups.words p.now words)

-- the second segment begins with the text of the first
second : (p : Plans) (s : Step) → Grows text_of (with_second p) s → Grows text_of p s
second p (Ok q) h = h
second p (Err f) h = tt

refused : (p : Plans) (cause : Refusal) → Grows text_of p (not_routed p cause)
refused p cause = (line (refusal_text cause), refl)

leads : (p : Plans) (r : Result Passage Refusal) → Grows text_of p (routed p r)
leads p (Ok passage) = all_of (text_of p) (text_of p) refl
leads p (Err cause) = refused p cause

route : (p : Plans) (first : Plan) (w : RouteWords) → Grows text_of p (route_by p first w)
route p first w = by p.now.made
  where
    by : (o : Option (List Address × List Stored)) → Grows text_of p (elim o as (λ (_ : Option (List Address × List Stored)). Step) [ None ↦ Err NoStations | Some m ↦ routed p (passage_of first m.0 w) ])
    by None = tt
    by (Some m) = leads p (passage_of first m.0 w)

routes : (p : Plans) (words : List (List ℕ)) → Grows text_of p (routed_by p words)
routes p words = by p.before
  where
    reads : (first : Plan) (r : Result RouteWords Fault) → Grows text_of p (r >>= (λ w. route_by p first w))
    reads first (Ok w) = route p first w
    reads first (Err f) = tt

    by : (o : Option Plan) → Grows text_of p (elim o as (λ (_ : Option Plan). Step) [ None ↦ Err UnknownCommand | Some first ↦ route_of words >>= (λ w. route_by p first w) ])
    by None = tt
    by (Some first) = reads first (route_of words)

placed : (p : Plans) (name : List ℕ) (words : List (List ℕ)) → Grows text_of p (placed_by p name words)
placed p name words = by (is_out_of_order p name)
  where
    begins : (b : Bool) → Grows text_of p (cond b (obeyed_now (with_second p) words) (obeyed_now p words))
    begins true = second p (obeyed_now (with_second p) words) (here (with_second p) words)
    begins false = here p words

    by : (b : Bool) → Grows text_of p (cond b (Err UnknownCommand) (cond (begins_second p name) (obeyed_now (with_second p) words) (obeyed_now p words)))
    by true = tt
    by false = begins (begins_second p name)

named : (p : Plans) (name : List ℕ) (rest : List (List ℕ)) → Grows text_of p (named_by p name rest)
named p name rest = by (bytes_eq name (codes "route"))
  where
    by : (b : Bool) → Grows text_of p (cond b (routed_by p rest) (placed_by p name (name ∷ rest)))
    by true = routes p rest
    by false = placed p name (name ∷ rest)

ordered : (p : Plans) (r : Routing) (name : List ℕ) (words : List (List ℕ)) → Grows text_of p (ordered_by p r name words)
ordered p routings.NotYet name words = named p name words
ordered p routings.Refused name words = tt
ordered p (routings.To passage) name words = tt

words : (p : Plans) (texts : List (List ℕ)) → Grows text_of p (obeyed_words p texts)
unfolding obeyed_words
words p [] = all_of (text_of p) (text_of p) refl
words p (name ∷ rest) = ordered p p.routing name rest

-- a line
pub obeys : (p : Plans) (text : List ℕ) → Grows text_of p (obeyed_line p text)
unfolding obeyed_line
obeys p text = by (is_ascii text)
  where
    by : (b : Bool) → Grows text_of p (cond b (obeyed_words p (words_of text)) (Err NotAscii))
    by true = words p (words_of text)
    by false = tt
