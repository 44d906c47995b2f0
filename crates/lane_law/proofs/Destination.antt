-- Whatever the destination does with the frame that it took, or took again, keeps what holds of the lane: a Take moves one frame,
-- and each other event changes the session, what is given, or what is answered.
use Rattle.std.proofs.Common.{◌≡◌, ◌≢◌, ℕ, inl, inr, Bool, true, false, List, [], ◌∷◌, ◌++◌, Option, Some, None, sym, ap, ◌∙◌, subst, arith, append_assoc}
use Rattle.lane_law.specs.Message.{Message}
use Rattle.lane_law.specs.Frame.{Frame, Rts, Packet, Request}
use Rattle.lane_law.specs.Session.{Session, given_of, new_session, with_packet}
use Rattle.lane_law.specs.Stream as S
use Rattle.lane_law.specs.Lane
use Rattle.lane_law.specs.Lane.{EndAcknowledgement, Acknowledgement}
use Rattle.lane_law.proofs.Streams
use Rattle.lane_law.proofs.Streams.{IsStream, keeps, session_at}
use Rattle.std.specs.List.{AllByRecursion as Each}
use Rattle.lane_law.proofs.Ahead.{each_after, each_push, each_weaker, Harmless, Quiet, is_open, harmless_less, harmless_after, harmless_taken, harmless_passed, given_last, IsNotRequest, IsRequest, IsNotAck, IsSwept, AreSwept, swept_after, answers_ahead, answers_push, IsLive, IsOfGiven, of_given_more, TagsRise, tags_push_ack, tags_push}
use Rattle.lane_law.proofs.Numbers.{IsSpared, BeginsSpared, spared_passed, agree_push}
use Rattle.lane_law.proofs.Lanes.{SettledAt, DoubtfulAt, IsLane, same_phase}

pub takes : (l : Lane.Lane) (f : Frame) (rest : List Frame) → l.stream.forward ≡ f ∷ rest → IsLane l → IsLane (Lane.after (Lane.Takes f rest) l)
takes l f rest h i =
    let again = l.stream.again in
    let b = subst (λ fs. Each (BeginsSpared l.outcomes) fs) h i.ahead in
    record {
      stream = keeps (S.Take f rest) l.stream h i.stream;
      control = same_phase (SettledAt l) (SettledAt (Lane.after (Lane.Takes f rest) l)) (DoubtfulAt l) (DoubtfulAt (Lane.after (Lane.Takes f rest) l)) l.stream.queued.number l.outcomes
          (λ live z.
          let harmless = subst (λ fs. Harmless live l.stream.reached.number (is_open l.stream.session) (l.stream.again ++ fs)) h z.harmless in
          let none = subst (λ fs. Each (IsNotRequest l.token) (l.stream.again ++ fs)) h z.no_request in
          record {
            ends = z.ends;
            past = z.past;
            harmless = harmless_taken live l.stream.reached l.stream.session f rest (harmless_after live l.stream.sent l.stream.reached l.stream.given l.stream.again (f ∷ rest) (is_open l.stream.session) i.stream.again harmless);
            no_request = each_after (IsNotRequest l.token) l.stream.again (f ∷ rest) none;
            no_ack = z.no_ack;
          })
          (λ z.
          let requests = subst (λ fs. IsSwept l.token (l.stream.again ++ fs)) h z.requests in
          let acks = subst (λ fs. AreSwept l.token (l.stream.again ++ fs) (l.heard ++ l.answers)) h z.acks in
          record {
            requests = swept_after l.token l.stream.again (f ∷ rest) requests;
            acks = answers_ahead l.token (l.stream.again ++ f ∷ rest) (f ∷ rest) (λ e. each_after (IsRequest l.token) l.stream.again (f ∷ rest) e) (l.heard ++ l.answers) acks;
          })
          l.phase i.control;
      tags = i.tags;
      of_given = i.of_given;
      agree = i.agree;
      reached = spared_passed l.outcomes l.stream.reached f i.reached b.0;
      ahead = b.1;
      numbers = i.numbers;
    }

pub passes_over : (l : Lane.Lane) (f : Frame) (rest : List Frame) → l.stream.forward ≡ f ∷ rest → IsLane l → IsLane (Lane.after (Lane.PassesOver f rest) l)
passes_over l f rest h i =
    let b = subst (λ fs. Each (BeginsSpared l.outcomes) fs) h i.ahead in
    record {
      stream = keeps (S.PassOver f rest) l.stream h i.stream;
      control = same_phase (SettledAt l) (SettledAt (Lane.after (Lane.PassesOver f rest) l)) (DoubtfulAt l) (DoubtfulAt (Lane.after (Lane.PassesOver f rest) l)) l.stream.queued.number l.outcomes
          (λ live z.
          let harmless = subst (λ fs. Harmless live l.stream.reached.number (is_open l.stream.session) (l.stream.again ++ fs)) h z.harmless in
          let none = subst (λ fs. Each (IsNotRequest l.token) (l.stream.again ++ fs)) h z.no_request in
          record {
            ends = z.ends;
            past = z.past;
            harmless = harmless_passed live l.stream.reached (is_open l.stream.session) f rest (harmless_after live l.stream.sent l.stream.reached l.stream.given l.stream.again (f ∷ rest) (is_open l.stream.session) i.stream.again harmless);
            no_request = (each_after (IsNotRequest l.token) l.stream.again (f ∷ rest) none).1;
            no_ack = z.no_ack;
          })
          (λ z.
          let requests = subst (λ fs. IsSwept l.token (l.stream.again ++ fs)) h z.requests in
          let acks = subst (λ fs. AreSwept l.token (l.stream.again ++ fs) (l.heard ++ l.answers)) h z.acks in
          record {
            requests = (swept_after l.token l.stream.again (f ∷ rest) requests).1;
            acks = answers_ahead l.token (l.stream.again ++ f ∷ rest) rest (λ e. (each_after (IsRequest l.token) l.stream.again (f ∷ rest) e).1) (l.heard ++ l.answers) acks;
          })
          l.phase i.control;
      tags = i.tags;
      of_given = i.of_given;
      agree = i.agree;
      reached = spared_passed l.outcomes l.stream.reached f i.reached b.0;
      ahead = b.1;
      numbers = i.numbers;
    }

pub forgets : (l : Lane.Lane) → IsLane l → IsLane (Lane.after Lane.Forgets l)
forgets l i = record {
  stream = keeps S.Forget l.stream tt i.stream;
  control = same_phase (SettledAt l) (SettledAt (Lane.after Lane.Forgets l)) (DoubtfulAt l) (DoubtfulAt (Lane.after Lane.Forgets l)) l.stream.queued.number l.outcomes
      (λ live z. record {
        ends = z.ends;
        past = z.past;
        harmless = harmless_after live l.stream.sent l.stream.reached l.stream.given l.stream.again l.stream.forward (is_open l.stream.session) i.stream.again z.harmless;
        no_request = each_after (IsNotRequest l.token) l.stream.again l.stream.forward z.no_request;
        no_ack = z.no_ack;
      })
      (λ z. record {
        requests = swept_after l.token l.stream.again l.stream.forward z.requests;
        acks = answers_ahead l.token (l.stream.again ++ l.stream.forward) l.stream.forward (λ e. each_after (IsRequest l.token) l.stream.again l.stream.forward e) (l.heard ++ l.answers) z.acks;
      })
      l.phase i.control;
  tags = i.tags;
  of_given = i.of_given;
  agree = i.agree;
  reached = i.reached;
  ahead = i.ahead;
  numbers = i.numbers;
}

-- only the session changes
session_changes : (l : Lane.Lane) (o : Option Session) → IsStream (record l.stream { session = o }) → ((live : Option ℕ) → Harmless live l.stream.reached.number (is_open l.stream.session) (l.stream.again ++ l.stream.forward) → Harmless live l.stream.reached.number (is_open o) (l.stream.again ++ l.stream.forward)) → IsLane l → IsLane (record l { stream = record l.stream { session = o } })
session_changes l o s f i = record {
  stream = s;
  control = same_phase (SettledAt l) (SettledAt (record l { stream = record l.stream { session = o } })) (DoubtfulAt l) (DoubtfulAt (record l { stream = record l.stream { session = o } })) l.stream.queued.number l.outcomes
      (λ live z. record { ends = z.ends; past = z.past; harmless = f live z.harmless; no_request = z.no_request; no_ack = z.no_ack })
      (λ z. z)
      l.phase i.control;
  tags = i.tags;
  of_given = i.of_given;
  agree = i.agree;
  reached = i.reached;
  ahead = i.ahead;
  numbers = i.numbers;
}

pub reopens : (l : Lane.Lane) (n : ℕ) (m : Message) → l.stream.again ≡ Rts n m ∷ [] → IsLane l → IsLane (Lane.after (Lane.Reopens n m) l)
reopens l n m h i = session_changes l (Some (new_session n m)) (keeps (S.Reopen n m) l.stream h i.stream)
    (λ live z.
    let at_rts = subst (λ fs. Harmless live l.stream.reached.number (is_open l.stream.session) (fs ++ l.stream.forward)) h z in
    subst (λ fs. Harmless live l.stream.reached.number true (fs ++ l.stream.forward)) (sym h) at_rts)
    i

pub accepts : (l : Lane.Lane) (x : Session) (k : ℕ) (b : List ℕ) → S.IsNext l.stream x k b → IsLane l → IsLane (Lane.after (Lane.Accepts x k b) l)
accepts l x k b h i = session_changes l (Some (with_packet x b)) (keeps (S.Accept x k b) l.stream h i.stream)
    (λ live z. subst (λ u. Harmless live l.stream.reached.number u (l.stream.again ++ l.stream.forward)) (ap is_open h.1) z)
    i

pub ends_session : (l : Lane.Lane) → IsLane l → IsLane (Lane.after Lane.EndsSession l)
ends_session l i = session_changes l None (keeps S.EndSession l.stream tt i.stream)
    (λ live z. harmless_less live (l.stream.again ++ l.stream.forward) l.stream.reached.number (is_open l.stream.session) z)
    i

pub gives : (l : Lane.Lane) (x : Session) (k : ℕ) (b : List ℕ) → S.MayHappen (S.Give x k b) l.stream → IsLane l → IsLane (Lane.after (Lane.Gives x k b) l)
gives l x k b h i =
    let z = session_at l.stream x h.0.1 i.stream in
    let g = given_of x b in
    let assoc = append_assoc l.heard l.answers (EndAcknowledgement x.number ∷ []) in
    record {
      stream = keeps (S.Give x k b) l.stream h i.stream;
      control = same_phase (SettledAt l) (SettledAt (Lane.after (Lane.Gives x k b) l)) (DoubtfulAt l) (DoubtfulAt (Lane.after (Lane.Gives x k b) l)) l.stream.queued.number l.outcomes
          (λ live w.
          let quiet : Quiet live l.stream.reached.number (is_open l.stream.session) (Packet k b) = (subst (λ fs. Harmless live l.stream.reached.number (is_open l.stream.session) (fs ++ l.stream.forward)) h.0.0 w.harmless).0 in
          let is_live : Some x.number ≡ live = elim quiet [ inl e ↦ absurd (closed_open (sym (ap is_open h.0.1) ∙ e)) | inr e ↦ ap Some z.number ∙ e ] in
          record {
            ends = each_push (IsLive live) l.answers (EndAcknowledgement x.number) is_live w.ends;
            past = w.past;
            harmless = harmless_less live (l.stream.again ++ l.stream.forward) l.stream.reached.number (is_open l.stream.session) w.harmless;
            no_request = w.no_request;
            no_ack = subst (λ rs. Each (IsNotAck l.token) rs) assoc (each_push (IsNotAck l.token) (l.heard ++ l.answers) (EndAcknowledgement x.number) tt w.no_ack);
          })
          (λ w. record {
            requests = w.requests;
            acks = subst (λ rs. AreSwept l.token (l.stream.again ++ l.stream.forward) rs) assoc
                (answers_push l.token (l.stream.again ++ l.stream.forward) (EndAcknowledgement x.number) (λ e. (subst (λ fs. Each (IsRequest l.token) (fs ++ l.stream.forward)) h.0.0 e).0) tt (l.heard ++ l.answers) w.acks);
          })
          l.phase i.control;
      tags = subst (λ rs. TagsRise 0 rs) assoc (tags_push l.stream.given x.number 0 (l.heard ++ l.answers) (omega (arith, z.was_sent.0, z.number)) (subst (λ n. Streams.Below n l.stream.given) (sym z.number) z.new) i.of_given i.tags);
      of_given = subst (λ rs. Each (IsOfGiven (l.stream.given ++ g ∷ [])) rs) assoc
          (each_push (IsOfGiven (l.stream.given ++ g ∷ [])) (l.heard ++ l.answers) (EndAcknowledgement x.number) (given_last l.stream.given g)
          (each_weaker (IsOfGiven l.stream.given) (IsOfGiven (l.stream.given ++ g ∷ [])) (of_given_more l.stream.given g) (l.heard ++ l.answers) i.of_given));
      agree = agree_push l.stream.given g l.outcomes (subst (λ n. IsSpared l.outcomes n) (sym z.number) i.reached) i.agree;
      reached = i.reached;
      ahead = i.ahead;
      numbers = i.numbers;
    }
  where
    closed_open : true ≡ false → ⊥
    closed_open e = cc

pub replies : (l : Lane.Lane) (t : Bool) → l.stream.again ≡ Request t ∷ [] → IsLane l → IsLane (Lane.after (Lane.Replies t) l)
replies l t h i =
    let assoc = append_assoc l.heard l.answers (Acknowledgement t ∷ []) in
    record {
      stream = i.stream;
      control = same_phase (SettledAt l) (SettledAt (Lane.after (Lane.Replies t) l)) (DoubtfulAt l) (DoubtfulAt (Lane.after (Lane.Replies t) l)) l.stream.queued.number l.outcomes
          (λ live w.
          let other : t ≢ l.token = (subst (λ fs. Each (IsNotRequest l.token) (fs ++ l.stream.forward)) h w.no_request).0 in
          record {
            ends = each_push (IsLive live) l.answers (Acknowledgement t) tt w.ends;
            past = w.past;
            harmless = w.harmless;
            no_request = w.no_request;
            no_ack = subst (λ rs. Each (IsNotAck l.token) rs) assoc (each_push (IsNotAck l.token) (l.heard ++ l.answers) (Acknowledgement t) other w.no_ack);
          })
          (λ w.
          let swept = subst (λ fs. IsSwept l.token (fs ++ l.stream.forward)) h w.requests in
          record {
            requests = w.requests;
            acks = subst (λ rs. AreSwept l.token (l.stream.again ++ l.stream.forward) rs) assoc
                (answers_push l.token (l.stream.again ++ l.stream.forward) (Acknowledgement t)
                (λ e. (subst (λ fs. Each (IsRequest l.token) (fs ++ l.stream.forward)) h e).0)
                (λ e. subst (λ fs. Each (IsRequest l.token) (fs ++ l.stream.forward)) (sym h) (e, swept.0 e))
                (l.heard ++ l.answers) w.acks);
          })
          l.phase i.control;
      tags = subst (λ rs. TagsRise 0 rs) assoc (tags_push_ack t 0 (l.heard ++ l.answers) i.tags);
      of_given = subst (λ rs. Each (IsOfGiven l.stream.given) rs) assoc (each_push (IsOfGiven l.stream.given) (l.heard ++ l.answers) (Acknowledgement t) tt i.of_given);
      agree = i.agree;
      reached = i.reached;
      ahead = i.ahead;
      numbers = i.numbers;
    }
