-- The law from a moment on, in the words of the two records.
use Rattle.std.proofs.Common.{◌≡◌, ◌≢◌, inr, ℕ, suc, ◌+◌, ◌<◌, ◌==◌, ◌^◌, true, not, List, [], ◌∷◌, ◌++◌, map, filter_map, length, Option, Some, None, refl, sym, ap, ◌∙◌, subst, arith, append_assoc, eq-eqb}
use Rattle.std.specs.Prelude.{AllPairs, Contains, zip, slice_get, unwrap_or}
use Rattle.std.specs.List.{list_all, list_any}
use Rattle.std.proofs.lemmas.List.{map-append}
use Rattle.std.proofs.lemmas.Option.{same_Some}
use Rattle.bus_frame.specs.Frames.{CanFrame}
use Rattle.bus_order.specs.Bus.{frame_again}
use Rattle.pgn_ids.specs.Address.{is_one}
use Rattle.pgn_ids.specs.declared.address.Address.{Address}
use Rattle.port_table.specs.declared.port.PortId.{PortId}
use Rattle.tp_wire.specs.declared.outcome.Outcome.{Outcome}
use Rattle.tp_wire.specs.declared.outcome.Outcome.TheVariants as outcome
use Rattle.lane_core.specs.Lane.{Lane}
use Rattle.session_table.specs.Sessions.{state_at}
use Rattle.station_lanes.specs.LaneCalls.{lane_to}
use Rattle.station_sessions.specs.Opening.{key_of}
use Rattle.station_core.specs.Station.{Station, new_station}
use Rattle.segment_law.specs.Segment.{Segment, new_segment, place_of, station_at}
use Rattle.segment_law.specs.Calls.{events_of, is_frame}
use Rattle.segment_law.specs.Record.{Step, Record, calls_of, after}
use Rattle.segment_law.specs.Drift.{DriftsTo}
use Rattle.segment_law.specs.Told.{Message, Placed, AtPort, NumberedOutcome, told_from, opened_by, closed_by, all_givens, items_of, places_of, sent_by, sends, sent, given_to_station, station_givens, outcome_in, outcomes}
use Rattle.segment_law.specs.Numbering.{item, IsAfter, part_of}
use Rattle.segment_law.specs.Headline as own
use Rattle.segment_law.specs.Headline.{Headline, HeadlineDrifts, port_of, IsOpenFor}
use Rattle.segment_law.specs.declared.call.Call.{Call}
use Rattle.segment_law.specs.declared.call.Call.TheVariants.{Inject, Overrun}
use Rattle.segment_law.specs.declared.reply.Reply.{Reply}
use Rattle.segment_law.specs.declared.reply.Reply.TheVariants.{Done}
use Rattle.segment_law.proofs.Drifting.{stands_drifts, drifts_reached}
use Rattle.segment_law.proofs.Records.{stands_on}
use Rattle.record_law.proofs.Lists.{Each, each_all, all_each, each_weaker}
use Rattle.record_law.proofs.Told.{flat, items_flat, flat_append}
use Rattle.record_law.proofs.ports.Records.{record_goes}
use Rattle.lane_law.specs.Stream as stream
use Rattle.broadcast_law.proofs.AlongRecords as broadcast
use Rattle.broadcast_law.proofs.Carried.{all}
use Rattle.broadcast_law.proofs.Counted.{counted_numbers}
use Rattle.broadcast_law.proofs.Every.{good_call}
use Rattle.connection_law.proofs.Final.{Machine}
use Rattle.connection_law.proofs.Stood.{Stood, all_stood}
use Rattle.connection_law.proofs.View.{IsPair, Has}
use Rattle.network_law.specs.Between.{IsOpenAt, AreNumbersOf, HaveOneOutcome, Sentence, receiver_at}
use Rattle.network_law.proofs.Carrying.{has_of, PortsGo, numbers_go, given_goes}
use Rattle.network_law.proofs.Places.{Move, Goes, moves_of, AreOrdered, goes_ordered, Matches, matches_weaker, matched, more_moves, silent_move, told_append, silent, none_of}
use Rattle.network_law.proofs.Places.Move.{Alone, Together}
use Rattle.network_law.proofs.Runs.{Told, Turn, IsTurn, KeepsOwn}
use Rattle.network_law.proofs.Sentence.{AreAllNumbered, one_of, has_right, has_woven, none_here, gives_none}
use Rattle.network_law.proofs.Shown.{opened_shown, closed_shown}
use Rattle.network_law.proofs.Telling.{of_first, like_sent, like_told, like_shown, none_sent, outcomes_give_station}
use Rattle.network_law.proofs.Weave.{Woven, all_made, seconds}
use Rattle.restart_law.specs.Start.{is_sent_to, is_answer, IsOnBusSince, IsNothingOnTheWay, sender_since, receiver_since}
use Rattle.restart_law.proofs.Addressed.{along_all, of_some}
use Rattle.restart_law.proofs.Alone.{IsAlone, alone}
use Rattle.restart_law.proofs.Bare.{IsReady, new_ready, ready_kept}
use Rattle.restart_law.proofs.BareToAll as bare-to-all
use Rattle.restart_law.proofs.Begun.{former, IsClear, sends_are, begun, begun_to_all}
use Rattle.restart_law.proofs.Both.{IsLone, it, both, at_d, at_s, reached, each}
use Rattle.restart_law.proofs.Earlier.{of_ports, earlier, as_long, opened_flat, closed_flat, tells_nothing, sendings, none_opened, none_closed, none_told_there}
use Rattle.restart_law.proofs.Lanes.{IsKept}
use Rattle.restart_law.proofs.Numbers.{of_numbers, numbers_given, are_numbers, acknowledged, unreachable}
use Rattle.restart_law.proofs.Weaving.{woven}

-- Places: each of the earlier ones goes with its own

abbrev each_together : Record → List Move → List Move
each_together [] w = w
each_together (step ∷ steps) w = Together 1 ∷ each_together steps w

later_goes : (steps : Record) (w : List Move) (i j a b : ℕ) → Goes w (i + length steps) (j + length steps) a b → Goes (each_together steps w) i j a b
later_goes [] w i j a b h = let e : i + 0 ≡ i = omega arith in let f : j + 0 ≡ j = omega arith in subst (λ (z : ℕ × ℕ). Goes w z.0 z.1 a b) (λ k. (e k, f k)) h
later_goes (step ∷ steps) w i j a b h =
    let e : i + length (step ∷ steps) ≡ (i + 1) + length steps = omega arith in
    let f : j + length (step ∷ steps) ≡ (j + 1) + length steps = omega arith in
    inr (later_goes steps w (i + 1) (j + 1) a b (subst (λ (z : ℕ × ℕ). Goes w z.0 z.1 a b) (λ k. (e k, f k)) h))

module _ {A : Type 0} (tells : Step → List A) (same : (call : Call) (reply : Reply) → flat tells (of_ports call reply ∷ []) ≡ tells (call, reply)) (w : List Move) (made since : Record) where
  earlier_match : (steps : Record) (i j : ℕ) → Matches (Goes w (i + length steps) (j + length steps)) (told_from tells (i + length steps) made) (told_from tells (j + length steps) since)
      → Matches (Goes (each_together steps w) i j) (told_from tells i (earlier steps ++ made)) (told_from tells j (steps ++ since))
  earlier_match [] i j h =
      let e : i + 0 ≡ i = omega arith in
      let f : j + 0 ≡ j = omega arith in
      subst (λ (z : ℕ × ℕ). Matches (Goes w z.0 z.1) (told_from tells z.0 made) (told_from tells z.1 since)) (λ k. (e k, f k)) h
  earlier_match (step ∷ steps) i j h =
      let e : i + length (step ∷ steps) ≡ (i + 1) + length steps = omega arith in
      let f : j + length (step ∷ steps) ≡ (j + 1) + length steps = omega arith in
      more_moves tells i j (of_ports step.0 step.1 ∷ []) (earlier steps ++ made) (tells step) (told_from tells (j + 1) (steps ++ since)) (each_together steps w) tt (same step.0 step.1)
      (earlier_match steps (i + 1) (j + 1) (subst (λ (z : ℕ × ℕ). Matches (Goes w z.0 z.1) (told_from tells z.0 made) (told_from tells z.1 since)) (λ k. (e k, f k)) h))

-- What is told since is some of what is told

each_behind : {A : Type 0} (P : A → Type 0) (xs ys : List A) → Each P (xs ++ ys) → Each P ys
each_behind P [] ys h = h
each_behind P (x ∷ xs) ys h = each_behind P xs ys h.1

pairs_behind : (xs ys : List ℕ) → AllPairs (λ a b. a ≢ b) (xs ++ ys) → AllPairs (λ a b. a ≢ b) ys
pairs_behind [] ys h = h
pairs_behind (x ∷ xs) ys h = pairs_behind xs ys (λ i j d l within. h (suc i) (suc j) d (omega (arith, l)) (omega (arith, within)))

-- of a lane of which nothing is asked
abbrev Anything : List Message → Lane → Type 0
Anything ms lane = Unit {0}

anything_kept : IsKept Anything
anything_kept = record {
  sends = λ ms lane pgn bytes fits long most h. tt;
  hears = λ ms lane wire now h. tt;
  settles = λ ms lane pgn h. tt;
  fires = λ ms lane now h. tt;
  overruns = λ ms lane h. tt;
  pumps = λ ms lane now h. tt;
  cancels = λ ms lane number is h. tt;
}

-- a station alone is the one with its address
lone_station : (a : Address) (own : Segment) (l : IsLone a own) → station_at own a ≡ l.st
lone_station a own l =
    ap (λ (p : Option ℕ). unwrap_or (elim p as (λ (_ : Option ℕ). Option Station) [ None ↦ None | Some j ↦ slice_get own.stations j ]) (new_station a)) (ap (place_of own) (sym l.address) ∙ l.reached.places 0 l.st (it a own l))
    ∙ ap (λ (o : Option Station). unwrap_or o (new_station a)) (it a own l)

-- its record from the beginning
whole_drifts : (a : Address) (before since : Record) (bus : List CanFrame) (h : IsOnBusSince a before since bus) → DriftsTo (a ∷ []) (before ++ since) (after h.start (calls_of since))
whole_drifts a before since bus h = stands_drifts (a ∷ []) (before ++ since) (after h.start (calls_of since)) (stands_on (a ∷ []) before since h.start h.stands h.calls_fit h.replies)

module _ (headline : HeadlineDrifts) (numbered_so : AreAllNumbered) (m : Machine) (begins : stream.IsReached stream.empty_stream) (choose : broadcast.StreamsChoose)
    (s d : Address) (before_s since_s before since : Record) (bus : List CanFrame) (distinct : s.0 ≢ d.0) (are : list_all is_frame bus ≡ true) (room : length bus + 1 < 2 ^ 64)
    (s_on : IsOnBusSince s before_s since_s bus) (d_on : IsOnBusSince d before since bus) (start : IsNothingOnTheWay s d s_on.start d_on.start) where
  abbrev any : Address
  any = record { 0 = 0 }

  keeps : KeepsOwn
  keeps seg call r is its = (good_call any any refl m.broadcasts m.laws.gives m.laws.reads m.laws.seven seg r its call is).each

  one_s : is_one s.0 ≡ true
  one_s = one_of s s_on.stands.addresses_fit

  pair : IsPair s d
  pair = record { one_s = one_s; one_d = one_of d d_on.stands.addresses_fit; apart = distinct }

  -- The receiver

  d_drifts : DriftsTo (d ∷ []) before d_on.start
  d_drifts = stands_drifts (d ∷ []) before d_on.start d_on.stands

  al_d : IsAlone keeps s d s Anything anything_kept tt before d_on.start
  al_d = alone keeps s d s Anything anything_kept tt before d_on.start d_drifts

  abbrev ld : IsLone d d_on.start
  ld = record { reached = drifts_reached (d ∷ []) before d_on.start d_drifts; each = al_d.each; st = al_d.st; single = al_d.single; address = al_d.address; looked = d_on.looked }

  abbrev whole : Record
  whole = before ++ since

  abbrev last_d : Segment
  last_d = after d_on.start (calls_of since)

  d_whole : DriftsTo (d ∷ []) whole last_d
  d_whole = whole_drifts d before since bus d_on

  -- The sender

  before_drifts : DriftsTo (s ∷ []) before_s s_on.start
  before_drifts = stands_drifts (s ∷ []) before_s s_on.start s_on.stands

  al_s : IsAlone keeps d s d (IsReady m.laws m.choose m.begins s d pair) (ready_kept m.laws m.choose m.begins s d pair) (new_ready m.laws m.choose m.begins s d pair) before_s s_on.start
  al_s = alone keeps d s d (IsReady m.laws m.choose m.begins s d pair) (ready_kept m.laws m.choose m.begins s d pair) (new_ready m.laws m.choose m.begins s d pair) before_s s_on.start before_drifts

  abbrev IsBareToAll : List Message → Lane → Type 0
  IsBareToAll = bare-to-all.IsBare m.broadcasts begins m.laws.reads m.laws.seven s one_s

  al_all : IsAlone keeps d s all IsBareToAll (bare-to-all.bare_kept m.broadcasts begins m.laws.reads m.laws.seven s one_s) (bare-to-all.new_bare m.broadcasts begins m.laws.reads m.laws.seven s one_s) before_s s_on.start
  al_all = alone keeps d s all IsBareToAll (bare-to-all.bare_kept m.broadcasts begins m.laws.reads m.laws.seven s one_s) (bare-to-all.new_bare m.broadcasts begins m.laws.reads m.laws.seven s one_s) before_s s_on.start before_drifts

  abbrev ls : IsLone s s_on.start
  ls = record { reached = drifts_reached (s ∷ []) before_s s_on.start before_drifts; each = al_s.each; st = al_s.st; single = al_s.single; address = al_s.address; looked = s_on.looked }

  abbrev from : Record
  from = before_s ++ since_s

  abbrev last_s : Segment
  last_s = after s_on.start (calls_of since_s)

  s_drifts : DriftsTo (s ∷ []) from last_s
  s_drifts = whole_drifts s before_s since_s bus s_on

  abbrev own_s : Headline (s ∷ []) from
  own_s = headline (s ∷ []) from last_s s_drifts

  itself : list_any (λ b. s.0 == b.0) (s ∷ []) ≡ true
  itself = rw (eq-eqb s.0 s.0 refl) refl

  to_all_stands : IsBareToAll (sent before_s s all) (lane_to s ls.st.lanes 255)
  to_all_stands = subst (λ (z : Station). IsBareToAll (sent before_s s all) (lane_to s z.lanes 255)) (same_Some al_all.st al_s.st (sym (ap (λ (ss : List Station). slice_get ss 0) al_all.single) ∙ ap (λ (ss : List Station). slice_get ss 0) al_s.single)) al_all.lane

  -- Both

  clear : IsClear s d ls.st ld.st (frame_again s_on.start.bus 0) (frame_again d_on.start.bus 0)
  clear = record {
    sound = (al_s.kept.lives 0 0 al_s.st (it s s_on.start ls)).0;
    unsent = ap (λ (z : Station). list_all (λ f. not (is_sent_to d f)) z.queue) (sym (lone_station s s_on.start ls)) ∙ start.unsent;
    unanswered = ap (λ (z : Station). list_all (λ f. not (is_answer s f)) z.queue) (sym (lone_station d d_on.start ld)) ∙ start.unanswered;
    sessions = λ kind. ap (λ (z : Station). state_at z.sessions (key_of s kind)) (sym (lone_station d d_on.start ld)) ∙ start.sessions kind;
    last_unsent = start.is_last.unsent;
    last_unanswered = start.is_last.unanswered;
  }

  abbrev B : Segment
  B = both s d distinct s_on.start d_on.start ls ld start.last start.is_last.of_s start.is_last.of_d

  w : Woven B since_s since
  w = woven keeps s d distinct before_s since_s before since bus are room s_on d_on ls ld start.last start.is_last.of_s start.is_last.of_d

  abbrev M : Record
  M = all_made w.weave

  abbrev E : Record
  E = former before_s before

  abbrev W : Record
  W = E ++ M

  stood : Stood m.broadcasts m.laws m.choose s d pair 1 0 W w.last
  stood = all_stood m.broadcasts m.laws m.choose s d pair m.agree M E B w.last
      (reached s d distinct s_on.start d_on.start ls ld start.last start.is_last.of_s start.is_last.of_d) (each s d distinct s_on.start d_on.start ls ld start.last start.is_last.of_s start.is_last.of_d) w.fit w.drift 1 0
      (at_s s d distinct s_on.start d_on.start ls ld start.last start.is_last.of_s start.is_last.of_d) (at_d s d distinct s_on.start d_on.start ls ld start.last start.is_last.of_s start.is_last.of_d)
      (begun s d distinct s_on.start d_on.start ls ld start.last start.is_last.of_s start.is_last.of_d clear before_s before m pair al_d.kept al_s.lane.0)

  stood_to_all : broadcast.Stood m.broadcasts choose m.laws.gives m.laws.reads m.laws.seven s d one_s 1 0 W w.last
  stood_to_all = broadcast.all_stood m.broadcasts choose m.laws.gives m.laws.reads m.laws.seven s d one_s M E B w.last
      (reached s d distinct s_on.start d_on.start ls ld start.last start.is_last.of_s start.is_last.of_d) (each s d distinct s_on.start d_on.start ls ld start.last start.is_last.of_s start.is_last.of_d) w.fit w.drift 1 0
      (at_s s d distinct s_on.start d_on.start ls ld start.last start.is_last.of_s start.is_last.of_d) (at_d s d distinct s_on.start d_on.start ls ld start.last start.is_last.of_s start.is_last.of_d) distinct
      (begun_to_all s d distinct s_on.start d_on.start ls ld start.last start.is_last.of_s start.is_last.of_d clear before_s before m.broadcasts begins choose m.laws.gives m.laws.reads m.laws.seven one_s to_all_stands)

  -- of the sender, what it did since
  only_since : {A : Type 0} (tells : Step → List A) → flat tells from ≡ [] → flat tells since_s ≡ []
  only_since tells e = (none_of (flat tells before_s) (flat tells since_s) (sym (flat_append tells before_s since_s) ∙ e)).1

  -- What the woven record tells of the sender

  sent_is : (x : Address) → sent W s x ≡ sent from s x
  sent_is x =
      items_flat tells 1 W ∙ flat_append tells E M ∙ (λ k. before_is k ++ since_is k) ∙ sym (flat_append tells before_s since_s) ∙ sym (items_flat tells 1 from)
    where
      tells : Step → List Message
      tells step = sent_by s x step.0 step.1

      before_is : flat tells E ≡ flat tells before_s
      before_is = sym (items_flat tells 1 E) ∙ sends_are s d distinct s_on.start d_on.start ls ld start.last start.is_last.of_s start.is_last.of_d clear before_s before x ∙ items_flat tells 1 before_s

      none_since : flat tells since ≡ []
      none_since = (none_of (flat tells before) (flat tells since) (sym (flat_append tells before since) ∙ none_sent s d one_s m.broadcasts m.laws.gives m.laws.reads m.laws.seven x whole last_d (λ e. distinct (sym e)) d_whole)).1

      since_is : flat tells M ≡ flat tells since_s
      since_is = of_first tells (like_sent s x) (λ f. refl) (λ z. refl) w.weave w.fair (ap (flat tells) (sym w.second) ∙ none_since) ∙ ap (flat tells) (sym w.first)

  abbrev tells_outcomes : Address → Step → List NumberedOutcome
  tells_outcomes x step = filter_map (outcome_in s x) (events_of step.1)

  abbrev outcomes_since : Address → List (Placed NumberedOutcome)
  outcomes_since x = (sender_since s before_s since_s).outcomes x

  told_too : (number : ℕ) (o : Outcome) → Contains (items_of (outcomes_since d)) (number, o) → Has (items_of (outcomes W s d)) (number, o)
  told_too number o c =
      let tells : Step → List NumberedOutcome = tells_outcomes d in
      let here : Has (flat tells since_s) (number, o) = subst (λ xs. Has xs (number, o)) (items_flat tells (1 + length before_s) since_s) (has_of (items_of (outcomes_since d)) (number, o) c) in
      let there : Has (flat tells M) (number, o) = has_woven tells (like_told (filter_map (outcome_in s d)) refl) w.weave (number, o) w.fair (subst (λ (xs : Record). Has (flat tells xs) (number, o)) w.first here) in
      subst (λ xs. Has xs (number, o)) (sym (items_flat tells 1 W ∙ flat_append tells E M)) (has_right (flat tells E) (flat tells M) (number, o) there)

  one_outcome_since : (x : Address) → HaveOneOutcome (sends from s x) (outcomes_since x)
  one_outcome_since x =
      let mine : own.HaveOneOutcome from s x = own_s.one_outcome s x itself in
      let all_is : outcomes from s x ≡ outcomes before_s s x ++ outcomes_since x = told_append (tells_outcomes x) 1 before_s since_s in
      let numbers_of : List (Placed NumberedOutcome) → List ℕ = map (λ (o : Placed NumberedOutcome). o.1.0) in
      let IsLater : Placed NumberedOutcome → Type 0 = λ o. IsAfter (item (places_of (sends from s x)) o.1.0) o.0 in
      record {
        one = pairs_behind (numbers_of (outcomes before_s s x)) (numbers_of (outcomes_since x)) (subst (AllPairs (λ a b. a ≢ b)) (ap numbers_of all_is ∙ map-append (λ (o : Placed NumberedOutcome). o.1.0) (outcomes before_s s x) (outcomes_since x)) mine.one);
        sent_before = each_all IsLater (outcomes_since x) (each_behind IsLater (outcomes before_s s x) (outcomes_since x) (subst (Each IsLater) all_is (all_each IsLater (outcomes from s x) mine.sent_before)));
      }

  -- And of the other, at places that go with its own

  -- what follows on what the receiver did before, and where
  abbrev behind : Record
  behind = sendings before_s ++ M

  abbrev moves : List Move
  moves = Alone (length (sendings before_s)) ∷ moves_of w.weave

  abbrev place : ℕ
  place = 1 + length before

  abbrev R : ℕ → ℕ → Type 0
  R = Goes (each_together before moves) 1 1

  in_order : AreOrdered R
  in_order = goes_ordered (each_together before moves)

  whole_is : W ≡ earlier before ++ behind
  whole_is = append_assoc (earlier before) (sendings before_s) M

  since_match : {A : Type 0} (tells : Step → List A) → flat tells (sendings before_s) ≡ [] → Matches (Goes (moves_of w.weave) (place + length (sendings before_s)) place) (told_from tells (place + length (sendings before_s)) M) (told_from tells place (seconds w.weave))
      → Matches (Goes moves place place) (told_from tells place behind) (told_from tells place since)
  since_match tells none h = silent_move tells place place (sendings before_s) M (told_from tells place since) (moves_of w.weave) none
      (subst (λ (xs : Record). Matches (Goes (moves_of w.weave) (place + length (sendings before_s)) place) (told_from tells (place + length (sendings before_s)) M) (told_from tells place xs)) (sym w.second) h)

  givens_match : (x : Address) → Matches R (station_givens W d s x) ((receiver_since d s before since).givens x)
  givens_match x =
      let tells : Step → List AtPort = λ step. filter_map (given_to_station d s x) (events_of step.1) in
      let front : told_from tells 1 (earlier before) ≡ [] = silent tells 1 (earlier before) (tells_nothing (filter_map (given_to_station d s x)) refl before) in
      let split : station_givens W d s x ≡ told_from tells place behind = ap (told_from tells 1) whole_is ∙ told_append tells 1 (earlier before) behind ∙ (λ k. front k ++ told_from tells (1 + as_long before k) behind) in
      subst (λ (xs : List (Placed AtPort)). Matches R xs ((receiver_since d s before since).givens x)) (sym split)
      (matches_weaker (Goes moves place place) R (λ a b h. later_goes before moves 1 1 a b h) (told_from tells place behind) ((receiver_since d s before since).givens x)
      (since_match tells (none_told_there (filter_map (given_to_station d s x)) refl before_s)
      (matched tells (like_told (filter_map (given_to_station d s x)) refl) (λ f. refl) (λ z. outcomes_give_station d s x z.events z.outcomes) w.weave (place + length (sendings before_s)) place w.fair
      (ap (flat tells) (sym w.first) ∙ only_since tells (sym (items_flat tells 1 from)
      ∙ ap (λ (xs : List (Placed AtPort)). items_of xs) (gives_none m.broadcasts m.laws.gives m.laws.reads m.laws.seven s d from last_s distinct one_s s_drifts own_s.within_life x))))))

  abbrev p : ℕ → PortId
  p port = port_of d port

  -- what is told of its ports
  port_match : {A : Type 0} (tells : Step → List A) → ((call : Call) (reply : Reply) → flat tells (of_ports call reply ∷ []) ≡ tells (call, reply)) → ((t : Turn) → IsTurn t → flat tells t.1 ≡ tells t.0) → ((f : CanFrame) → tells (Inject f, Done []) ≡ []) → ((z : Told) → tells (Overrun z.station 1, Done z.events) ≡ [])
      → flat tells (sendings before_s) ≡ [] → flat tells from ≡ [] → Matches R (told_from tells 1 W) (told_from tells 1 whole)
  port_match tells same like quiet nothing none none_from = subst (λ (xs : Record). Matches R (told_from tells 1 xs) (told_from tells 1 whole)) (sym whole_is)
      (earlier_match tells same moves behind since before 1 1
      (since_match tells none (matched tells like quiet nothing w.weave (place + length (sendings before_s)) place w.fair (ap (flat tells) (sym w.first) ∙ only_since tells none_from))))

  ports_match : PortsGo R (receiver_at d s W) (receiver_since d s before since)
  ports_match = record {
    openings = λ port. port_match (opens port) (opened_flat (p port)) (like_shown (opened_by (p port)) (opened_shown (p port))) (λ f. refl) (λ z. refl) (none_opened (p port) before_s) (none_here m.broadcasts m.laws.gives m.laws.reads m.laws.seven s d from last_s distinct one_s s_drifts own_s.within_life port).0;
    closings = λ port. port_match (closes port) (closed_flat (p port)) (like_shown (closed_by (p port)) (closed_shown (p port))) (λ f. refl) (λ z. refl) (none_closed (p port) before_s) (none_here m.broadcasts m.laws.gives m.laws.reads m.laws.seven s d from last_s distinct one_s s_drifts own_s.within_life port).1;
  }
    where
      opens : ℕ → Step → List (ℕ × ℕ)
      opens port step = opened_by (p port) step.0 step.1

      closes : ℕ → Step → List PortId
      closes port step = closed_by (p port) step.0 step.1

  numbers_are : (x : Address) (numbers : List ℕ) → AreNumbersOf (sent W s x) (station_givens W d s x) numbers → AreNumbersOf (sent from s x) ((receiver_since d s before since).givens x) numbers
  numbers_are x numbers n = numbers_go R in_order (sent W s x) (sent from s x) (station_givens W d s x) ((receiver_since d s before since).givens x) numbers (sent_is x) (givens_match x) n

  abbrev numbers : List ℕ
  numbers = numbers_given m s d pair 1 0 W w.last stood

  lane : AreNumbersOf (sent from s d) ((receiver_since d s before since).givens d) numbers
  lane = numbers_are d numbers (are_numbers m s d pair 1 0 W w.last stood)

  to_all : (ns : List ℕ) × AreNumbersOf (sent from s all) ((receiver_since d s before since).givens all) ns
  to_all = (let n = counted_numbers _ _ _ _ stood_to_all.counted in (n.0, numbers_are all n.0 (of_numbers _ _ n.0 n.1)))

  pub sentence : Sentence d (sender_since s before_s since_s) (receiver_since d s before since)
  sentence = record {
    addressed = λ x some. of_some d s x ((receiver_since d s before since).givens x)
        (along_all d s x (p 0) before since (new_segment (d ∷ [])).stations last_d.stations 0 (1 + length before) [] [] (record_goes (p 0) (d ∷ []) whole last_d d_whole)) some;
    in_order = λ port. (part_of port (zip numbers ((receiver_since d s before since).givens d)), lane.each_port port);
    to_all = λ port. (part_of port (zip to_all.0 ((receiver_since d s before since).givens all)), to_all.1.each_port port);
    once_to_all = to_all;
    honest = (
      numbers,
      record {
        lane = lane;
        acknowledged = λ number c. given_goes R in_order (sent W s d) (sent from s d) d (receiver_at d s W) (receiver_since d s before since) numbers number (sent_is d) ports_match (givens_match d)
            (acknowledged m s d pair 1 0 W w.last stood number (told_too number outcome.Acknowledged c));
        unreachable = λ number c found. unreachable m s d pair 1 0 W w.last stood number (told_too number outcome.Unreachable c) found;
      },
    );
    counted = λ x. numbered_so (s ∷ []) from last_s s_drifts s x;
    one_outcome = one_outcome_since;
    within_life = λ port. each_all (λ (g : Placed Message). IsOpenAt (receiver_since d s before since) port g.0 g.1) (all_givens whole (p port))
        (each_weaker (IsOpenFor whole (p port)) (λ (g : Placed Message). IsOpenAt (receiver_since d s before since) port g.0 g.1) (λ g k. record { opened = k.opened; not_closed = k.not_closed }) (all_givens whole (p port))
        (all_each (IsOpenFor whole (p port)) (all_givens whole (p port)) ((headline (d ∷ []) whole last_d d_whole).within_life (p port))));
  }
