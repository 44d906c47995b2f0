-- At the moment lanes stand for the messages of the sender to the receiver and to all: nothing of them is on the way, and none was given.
use Rattle.std.proofs.Common.{◌≡◌, ◌≢◌, true, ℕ, zero, suc, ◌+◌, ◌<◌, ◌≤◌, List, [], ◌∷◌, ◌++◌, filter_map, length, Option, None, inl, inr, refl, sym, ap, ◌∙◌, subst, arith, append-nil, length-append}
use Rattle.std.specs.Prelude.{option_to_list}
use Rattle.std.specs.Option.{option_map}
use Rattle.std.proofs.lemmas.Option.{same_Some, none-some}
use Rattle.bus_frame.specs.Frames.{CanFrame}
use Rattle.pgn_ids.specs.Address.{is_one}
use Rattle.pgn_ids.specs.declared.address.Address.{Address}
use Rattle.tp_wire.specs.declared.wire.Kind.TheVariants.{Tp, Etp}
use Rattle.bus_order.specs.Bus.{frame_again}
use Rattle.port_table.specs.Ports.{Ports}
use Rattle.port_table.specs.declared.port.Port.{Port}
use Rattle.port_table.specs.declared.port.PortId.{PortId}
use Rattle.message_events.specs.declared.event.Event.{Event}
use Rattle.session_table.specs.Key.{session_for}
use Rattle.session_table.specs.Sessions.{state_at}
use Rattle.session_table.specs.declared.incoming.Incoming.{Incoming}
use Rattle.session_table.specs.declared.key.SessionKind.{SessionKind}
use Rattle.session_table.specs.declared.key.SessionKind.TheVariants as session
use Rattle.station_lanes.specs.LaneCalls.{lane_to}
use Rattle.station_sessions.specs.Opening.{key_of}
use Rattle.station_core.specs.Station.{Station}
use Rattle.segment_law.specs.Segment.{Segment}
use Rattle.segment_law.specs.Headline.{port_of}
use Rattle.segment_law.specs.Record.{Step, Record}
use Rattle.segment_law.specs.Told as told
use Rattle.segment_law.specs.Told.{Placed, told_from, items_of, sent_by, sends, sent, given_to_station, station_givens, outcome_in, outcomes, opened_by, openings, closed_by, closings}
use Rattle.segment_law.specs.Calls.{events_of}
use Rattle.record_law.proofs.Lists.{Each, each_weaker, In, in_weaker}
use Rattle.record_law.proofs.Readings.{GivesBack, ReadsBack}
use Rattle.record_law.proofs.Told.{flat, flat_append, items_flat}
use Rattle.record_law.proofs.ports.Calls.{IsSound, HasLife, Good}
use Rattle.record_law.proofs.ports.Lives.{Openings, Closings, Opened, IsKnown, Lives}
use Rattle.lane_law.specs.Choice as choice
use Rattle.lane_law.specs.Session.{Given}
use Rattle.lane_law.specs.Stream as stream
use Rattle.broadcast_law.proofs.AlongRecords as broadcast
use Rattle.broadcast_law.proofs.Carried.{all}
use Rattle.broadcast_law.proofs.Places as places
use Rattle.broadcast_law.proofs.Send.{AreSeven}
use Rattle.broadcast_law.proofs.View as to-all
use Rattle.connection_law.proofs.Along.{none_mapped, IsTrueAt}
use Rattle.connection_law.proofs.Final.{Machine}
use Rattle.connection_law.proofs.Frames.{returns, goes}
use Rattle.connection_law.proofs.Kept.{Kept}
use Rattle.connection_law.proofs.Openings.{Is, Fits, no_mark, opened_so, closed_so, IsMarkedAt}
use Rattle.connection_law.proofs.Segments.{Ghost, view}
use Rattle.connection_law.proofs.Stood.{Stood}
use Rattle.connection_law.proofs.Tally.{Tally}
use Rattle.connection_law.proofs.View.{IsPair, View, Sim}
use Rattle.network_law.specs.Traffic.{is_from}
use Rattle.network_law.proofs.Places.{told_append, silent}
use Rattle.restart_law.specs.Start.{is_sent_to, is_answer, AreNone, MayRepeat}
use Rattle.restart_law.proofs.Alone.{no_marks, no_places, told_within}
use Rattle.restart_law.proofs.Bare.{bare, IsBare}
use Rattle.restart_law.proofs.BareToAll as bare-to-all
use Rattle.restart_law.proofs.Both.{IsLone, it, both, first_ahead, second_ahead, first_again, second_again}
use Rattle.restart_law.proofs.Earlier.{earlier, as_long, opened_earlier, closed_earlier, sends_nothing, tells_nothing, sendings, same_sends, none_opened, none_closed, none_told_there}
use Rattle.restart_law.proofs.Frames.{no_answers, none_goes, none_carried, others_go, others_carried}

none_fits : (pgn size : ℕ) (os : List (Placed (ℕ × ℕ))) → In (Fits 0 pgn size) os → ⊥
none_fits pgn size [] h = h
none_fits pgn size (o ∷ os) (inl k) = absurd (omega (arith, k.0))
none_fits pgn size (o ∷ os) (inr h) = none_fits pgn size os h

at_least : (n : ℕ) → 0 ≤ n
at_least n = omega arith

-- what was open after n steps was so after m
lives_later : (number n m : ℕ) (os : Openings) (cs : Closings) (ports : Ports) → n ≤ m → Lives number n os cs ports → Lives number m os cs ports
lives_later number n m os cs ports l h = record {
  here = each_weaker (λ (q : Port). q.number ≡ number → IsKnown n os cs q) (λ (q : Port). q.number ≡ number → IsKnown m os cs q)
      (λ q k e. ((k e).0, in_weaker (Opened n q) (Opened m q) (λ o w. (omega (arith, l, w.0), w.1, w.2)) os (k e).1)) ports.open_ports h.here;
  ahead = h.ahead;
}

-- what the two did before, as far as it shows
abbrev pub former : (before_s before_d : Record) → Record
former before_s before_d = earlier before_d ++ sendings before_s

-- the sender and the receiver, with what they may take again
pub record IsClear (s d : Address) (st_s st_d : Station) (of_s of_d : Option CanFrame) : Type 0 where
  pub sound : IsSound st_s
  pub unsent : AreNone (is_sent_to d) st_s.queue
  pub unanswered : AreNone (is_answer s) st_d.queue
  pub sessions : (kind : SessionKind) → state_at st_d.sessions (key_of s kind) ≡ None
  pub last_unsent : AreNone (is_from s) (option_to_list of_d)
  pub last_unanswered : AreNone (is_answer s) (option_to_list of_s)

module _ (s d : Address) (distinct : s.0 ≢ d.0) (own_s own_d : Segment) (ls : IsLone s own_s) (ld : IsLone d own_d) (last : Option CanFrame) (again_s : MayRepeat last own_s) (again_d : MayRepeat last own_d)
    (clear : IsClear s d ls.st ld.st (frame_again own_s.bus 0) (frame_again own_d.bus 0)) (before_s before_d : Record) where
  abbrev B : Segment
  B = both s d distinct own_s own_d ls ld last again_s again_d

  abbrev of_d : Option CanFrame
  of_d = frame_again own_d.bus 0

  abbrev of_s : Option CanFrame
  of_s = frame_again own_s.bus 0

  abbrev E : Record
  E = former before_s before_d

  -- What the two did before

  pub sends_are : (x : Address) → sent E s x ≡ sent before_s s x
  sends_are x =
      items_flat tells 1 E ∙ flat_append tells (earlier before_d) (sendings before_s) ∙ (λ k. sends_nothing s x before_d k ++ same_sends s x before_s k)
      ∙ sym (items_flat tells 1 before_s)
    where
      tells : Step → List told.Message
      tells step = sent_by s x step.0 step.1

  pub none_told : {A : Type 0} (of : List Event → List A) → of [] ≡ [] → flat (λ step. of (events_of step.1)) E ≡ []
  none_told of e = flat_append (λ step. of (events_of step.1)) (earlier before_d) (sendings before_s) ∙ (λ k. tells_nothing of e before_d k ++ none_told_there of e before_s k)

  givens_none : (x : Address) → station_givens E d s x ≡ []
  givens_none x = silent (λ step. filter_map (given_to_station d s x) (events_of step.1)) 1 E (none_told (filter_map (given_to_station d s x)) refl)

  outcomes_none : outcomes E s d ≡ []
  outcomes_none = silent (λ step. filter_map (outcome_in s d) (events_of step.1)) 1 E (none_told (filter_map (outcome_in s d)) refl)

  as_before : {A : Type 0} (tells : Step → List A) → told_from tells 1 (earlier before_d) ≡ told_from tells 1 before_d → flat tells (sendings before_s) ≡ [] → told_from tells 1 E ≡ told_from tells 1 before_d
  as_before tells same none = told_append tells 1 (earlier before_d) (sendings before_s) ∙ (λ k. same k ++ silent tells (1 + length (earlier before_d)) (sendings before_s) none k) ∙ append-nil (told_from tells 1 before_d)

  openings_are : (p : PortId) → openings E p ≡ openings before_d p
  openings_are p = as_before (λ step. opened_by p step.0 step.1) (opened_earlier p 1 before_d) (none_opened p before_s)

  closings_are : (p : PortId) → closings E p ≡ closings before_d p
  closings_are p = as_before (λ step. closed_by p step.0 step.1) (closed_earlier p 1 before_d) (none_closed p before_s)

  longer : length before_d ≤ length E
  longer = (let l : length E ≡ length (earlier before_d) + length (sendings before_s) = length-append (earlier before_d) (sendings before_s) in let e : length (earlier before_d) ≡ length before_d = as_long before_d in omega (arith, l, e))

  past : (x : Address) → Each (λ (z : Placed told.Message). z.0 ≤ length E) (sends E s x)
  past x = each_weaker (λ (z : Placed told.Message). z.0 < 1 + length E) (λ (z : Placed told.Message). z.0 ≤ length E) (λ z l. omega (arith, l)) (sends E s x) (told_within (λ step. sent_by s x step.0 step.1) 1 E)

  -- To the other

  module _ (m : Machine) (pair : IsPair s d) (kept : Kept s d before_d own_d.stations ld.st.ports no_marks no_places []) (stands : IsBare m.laws m.choose m.begins s d pair (sent before_s s d) (lane_to s ls.st.lanes d.0)) where
    abbrev ghost : Ghost
    ghost = record { sent = sent E s d; given = []; ended = items_of (outcomes E s d); opened = no_marks }

    shown : view m.laws s d pair 1 0 B ghost ≡ bare m.laws m.choose m.begins s d pair (lane_to s ls.st.lanes d.0) (sent before_s s d)
    shown = λ k. (let v : View = record {
      lane = lane_to s ls.st.lanes d.0;
      forward = (ap (λ (fs : List CanFrame). filter_map (goes s d) (fs ++ ls.st.queue)) (first_ahead last of_d of_s) ∙ none_goes s d ls.st.queue clear.unsent) k;
      again = (ap (λ (o : Option CanFrame). filter_map (goes s d) (option_to_list o)) (first_again last of_d of_s again_d) ∙ others_go s d (option_to_list of_d) clear.last_unsent) k;
      answers = (ap (λ (fs : List CanFrame). filter_map (returns s d) (fs ++ ld.st.queue)) (second_ahead last of_d of_s) ∙ no_answers s d ld.st.queue clear.unanswered) k;
      heard = (ap (λ (o : Option CanFrame). filter_map (returns s d) (option_to_list o)) (second_again last of_d of_s again_s) ∙ no_answers s d (option_to_list of_s) clear.last_unanswered) k;
      tp = clear.sessions (session_for Tp) k;
      etp = clear.sessions (session_for Etp) k;
      sent = sends_are d k;
      given = [];
      ended = items_of (outcomes_none k);
      opened = no_marks;
    } in v)

    lives_at : (p : ℕ) → Good (port_of d p) (length E) (opened_so s d before_d p) (closed_so s d before_d p) B.stations
    lives_at p zero u e = (let h = kept.lives p 0 u (it d own_d ld ∙ e) in (h.0, λ q. lives_later p (length before_d) (length E) (opened_so s d before_d p) (closed_so s d before_d p) u.ports longer (h.1 q)))
    lives_at p (suc zero) u e = subst (λ (z : Station). IsSound z × HasLife (port_of d p) (length E) (opened_so s d before_d p) (closed_so s d before_d p) z) (same_Some ls.st u e) (clear.sound, λ q. absurd (distinct (sym (ap (λ (a : Address). a.0) ls.address) ∙ q)))
    lives_at p (suc (suc i)) u e = absurd (none-some u e)

    kept_former : Kept s d E B.stations ld.st.ports no_marks no_places []
    kept_former = record {
      lives = λ p. subst (λ (z : Openings × Closings). Good (port_of d p) (length E) z.0 z.1 B.stations) (λ k. (sym (openings_are (port_of d p)) k, sym (closings_are (port_of d p)) k)) (lives_at p);
      stands = λ p pgn len i e. kept.stands p pgn len (subst (In (Is pgn len)) (openings_are (port_of d p)) i) (sym (closings_are (port_of d p)) ∙ e);
      marked = λ k. marked;
      all_opened = tt;
    }
      where
        marked : IsMarkedAt s d E no_mark 0
        marked = record { past = at_least (length E); after = λ n some l. absurd (omega (arith, some, l)); covers = λ p h e. absurd (none_fits _ _ (opened_so s d E p) h); some = λ l. absurd (omega (arith, l)) }

    none_given : stands.0.stream.given ≡ []
    none_given = none_mapped stands.0.stream.given stands.1.carries.given

    pub begun : Stood m.broadcasts m.laws m.choose s d pair 1 0 E B
    begun = record {
      lane = stands.0;
      opened = no_marks;
      places = no_places;
      givings = [];
      small = λ k. at_least (length (sent E s d));
      gone = tt;
      some = tt;
      tally = subst (λ (gs : List Given). Tally (sends E s d) (length E) (station_givens E d s d) (choice.numbers gs) []) (sym none_given)
          (record { told = givens_none d; distinct = tt; early = tt; past = past d; fits = tt });
      sim = subst (λ v. Sim s d v stands.0) (sym shown) stands.1;
      kept = kept_former;
      true_at = subst (Each (IsTrueAt (choice.numbers stands.0.stream.given) [])) (sym outcomes_none) tt;
    }

  -- To all

  module _ (on : to-all.GoesOn) (begins : stream.IsReached stream.empty_stream) (choose : broadcast.StreamsChoose) (gives : GivesBack) (reads : ReadsBack) (seven : AreSeven) (one_s : is_one s.0 ≡ true)
      (stands : bare-to-all.IsBare on begins reads seven s one_s (sent before_s s all) (lane_to s ls.st.lanes 255)) where
    abbrev first_to_all : to-all.View
    first_to_all = record { lane = lane_to s ls.st.lanes 255; queue = ls.st.queue; ahead = []; again = of_d; session = None; sent = sent before_s s all; given = [] }

    stands_so : to-all.Stands s first_to_all
    stands_so = (
      stands.0,
      record {
        carries = record {
          reached = stands.1.carries.reached;
          clean = stands.1.carries.clean;
          sent = stands.1.carries.sent;
          given = stands.1.carries.given;
          forward = none_carried s d ls.st.queue clear.unsent ∙ stands.1.carries.forward;
          again = others_carried s d (option_to_list of_d) clear.last_unsent ∙ stands.1.carries.again;
          sender = stands.1.carries.sender;
        };
        session = stands.1.session;
      },
    )

    shown_to_all : places.view s 1 0 B (sent E s all) [] ≡ first_to_all
    shown_to_all = λ k. (let v : to-all.View = record {
      lane = lane_to s ls.st.lanes 255;
      queue = ls.st.queue;
      ahead = first_ahead last of_d of_s k;
      again = first_again last of_d of_s again_d k;
      session = option_map (λ (z : List ℕ × Incoming). z.1) (clear.sessions session.Broadcast k);
      sent = sends_are all k;
      given = [];
    } in v)

    pub begun_to_all : broadcast.Stood on choose gives reads seven s d one_s 1 0 E B
    begun_to_all = record {
      givings = [];
      counted = record { told = givens_none all; distinct = tt; early = tt; past = past all; numbers = []; fits = tt; rising = tt };
      stands = subst (to-all.Stands s) (sym shown_to_all) stands_so;
    }
