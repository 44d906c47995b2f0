-- Whatever the sender hears keeps what holds of the lane: of the answers ahead of it only those of the message under way, or
-- of the token in doubt, may be taken for its own, and a message whose end acknowledgement is taken was given.
use Rattle.std.proofs.Common.{◌≡◌, ℕ, inl, inr, List, ◌∷◌, ◌++◌, length, Some, None, refl, sym, ap, subst, arith}
use Rattle.std.specs.Prelude.{not}
use Rattle.std.proofs.lemmas.Option.{none-some, same_Some}
use Rattle.lane_law.specs.Frame.{Place}
use Rattle.lane_law.specs.Outcome.{Acknowledged}
use Rattle.lane_law.specs.Lane
use Rattle.lane_law.specs.Lane.{Answer, EndAcknowledgement, Granted, InDoubt}
use Rattle.lane_law.proofs.Streams.{end_of}
use Rattle.std.specs.List.{AllByRecursion as Each}
use Rattle.lane_law.proofs.Ahead.{WasGiven, each_after, each_both, each_weaker, Harmless, is_open, harmless_idle, IsNoRts, order_le, order_no_rts, given_up_to, again_no_rts, session_closed, IsNotRequest, IsRequest, IsNotAck, IsAck, AreSwept, answers_after, other_token, harmless_requests, not_request, not_ack, IsLive, IsPast, live_past, past_idle, live_acks, IsOfGiven, TagsRise, tags_after, no_other_end}
use Rattle.lane_law.proofs.Numbers.{numbers_over, spared_ahead}
use Rattle.lane_law.proofs.Lanes.{SettledAt, DoubtfulAt, IsLane, same_phase, phase_at}

pub hears : (l : Lane.Lane) (a : Answer) (rest : List Answer) → l.answers ≡ a ∷ rest → IsLane l → IsLane (Lane.after (Lane.Hears a rest) l)
hears l a rest h i = record {
  stream = i.stream;
  control = same_phase (SettledAt l) (SettledAt (Lane.after (Lane.Hears a rest) l)) (DoubtfulAt l) (DoubtfulAt (Lane.after (Lane.Hears a rest) l)) l.stream.queued.number l.outcomes
      (λ live w.
      let e = subst (λ rs. Each (IsLive live) rs) h w.ends in
      record {
        ends = e.1;
        past = (live_past live a e.0, tt);
        harmless = w.harmless;
        no_request = w.no_request;
        no_ack = each_after (IsNotAck l.token) l.heard (a ∷ rest) (subst (λ rs. Each (IsNotAck l.token) (l.heard ++ rs)) h w.no_ack);
      })
      (λ w. record {
        requests = w.requests;
        acks = answers_after l.token (l.stream.again ++ l.stream.forward) l.heard (a ∷ rest) (subst (λ rs. AreSwept l.token (l.stream.again ++ l.stream.forward) (l.heard ++ rs)) h w.acks);
      })
      l.phase i.control;
  tags = tags_after 0 l.heard (a ∷ rest) (subst (λ rs. TagsRise 0 (l.heard ++ rs)) h i.tags);
  of_given = each_after (IsOfGiven l.stream.given) l.heard (a ∷ rest) (subst (λ rs. Each (IsOfGiven l.stream.given) (l.heard ++ rs)) h i.of_given);
  agree = i.agree;
  reached = i.reached;
  ahead = i.ahead;
  numbers = i.numbers;
}

pub forgets_answer : (l : Lane.Lane) → IsLane l → IsLane (Lane.after Lane.ForgetsAnswer l)
forgets_answer l i = record {
  stream = i.stream;
  control = same_phase (SettledAt l) (SettledAt (Lane.after Lane.ForgetsAnswer l)) (DoubtfulAt l) (DoubtfulAt (Lane.after Lane.ForgetsAnswer l)) l.stream.queued.number l.outcomes
      (λ live w. record {
        ends = w.ends;
        past = tt;
        harmless = w.harmless;
        no_request = w.no_request;
        no_ack = each_after (IsNotAck l.token) l.heard l.answers w.no_ack;
      })
      (λ w. record { requests = w.requests; acks = answers_after l.token (l.stream.again ++ l.stream.forward) l.heard l.answers w.acks })
      l.phase i.control;
  tags = tags_after 0 l.heard l.answers i.tags;
  of_given = each_after (IsOfGiven l.stream.given) l.heard l.answers i.of_given;
  agree = i.agree;
  reached = i.reached;
  ahead = i.ahead;
  numbers = i.numbers;
}

pub misses : (l : Lane.Lane) (a : Answer) (rest : List Answer) → l.answers ≡ a ∷ rest → IsLane l → IsLane (Lane.after (Lane.Misses a rest) l)
misses l a rest h i = forgets_answer (Lane.after (Lane.Hears a rest) l) (hears l a rest h i)

-- the end acknowledgement that is accepted is of the message under way, which was given
pub own_end : (l : Lane.Lane) (n k : ℕ) → Lane.MayHappen (Lane.Acknowledges n k) l → IsLane l → k ≡ n
own_end l n k h i =
    let past : IsPast (Some n) (EndAcknowledgement k) = (subst (λ rs. Each (IsPast (Some n)) rs) h.1 (phase_at l (Granted n) h.0 i).3.past).0 in
    elim past [ inl e ↦ absurd (none-some n (sym e)) | inr e ↦ same_Some k n e ]

pub given_earlier : (l : Lane.Lane) (n k : ℕ) → Lane.MayHappen (Lane.Acknowledges n k) l → IsLane l → WasGiven n l.stream.given
given_earlier l n k h i =
    subst (λ j. WasGiven j l.stream.given) (own_end l n k h i) (subst (λ rs. Each (IsOfGiven l.stream.given) (rs ++ l.answers)) h.1 i.of_given).0

-- the message that was given is the last that was begun
pub acknowledges : (l : Lane.Lane) (n k : ℕ) → Lane.MayHappen (Lane.Acknowledges n k) l → IsLane l → IsLane (Lane.after (Lane.Acknowledges n k) l)
acknowledges l n k h i =
    let s = l.stream in
    let c = phase_at l (Granted n) h.0 i in
    let z = c.3 in
    let same : k ≡ n = own_end l n k h i in
    let given : WasGiven n s.given = given_earlier l n k h i in
    let tags : TagsRise k l.answers = (subst (λ rs. TagsRise 0 (rs ++ l.answers)) h.1 i.tags).1 in
    let end : (end_of s.reached s.forward).number ≡ s.queued.number = ap (λ (p : Place). p.number) i.stream.end in
    let le = order_le s.sent s.reached s.forward i.stream.order in
    let ge = given_up_to n s.reached.number s.given i.stream.up_to given in
    let here : n ≡ s.reached.number = omega (arith, le, ge, end, c.0) in
    let given_here : WasGiven s.reached.number s.given = subst (λ j. WasGiven j s.given) here given in
    let no_rts : Each IsNoRts (s.again ++ s.forward) = each_both IsNoRts s.again s.forward
    (again_no_rts s.sent s.reached s.given s.again given_here i.stream.again)
    (order_no_rts s.sent s.reached s.forward (omega (arith, ge, end, c.0)) i.stream.order) in
    let closed = session_closed s.sent s.reached s.given s.session given_here i.stream.session in
    record {
      stream = i.stream;
      control = record {
        ends = no_other_end n k l.answers (omega (arith, same)) tags z.ends;
        past = past_idle l.heard;
        harmless = subst (λ u. Harmless None s.reached.number u (s.again ++ s.forward)) (sym closed) (harmless_idle (s.again ++ s.forward) s.reached.number no_rts);
        no_request = z.no_request;
        no_ack = z.no_ack;
      };
      tags = i.tags;
      of_given = i.of_given;
      agree = (given, i.agree);
      reached = (tt, i.reached);
      ahead = spared_ahead s.sent l.outcomes n Acknowledged s.reached s.forward (λ j u. tt) i.stream.order i.ahead;
      numbers = numbers_over s.queued.number (length s.sent) n l.pending l.outcomes Acknowledged c.0 c.1 c.2 i.numbers;
    }

pub settles : (l : Lane.Lane) → Lane.MayHappen Lane.Settles l → IsLane l → IsLane (Lane.after Lane.Settles l)
settles l h i =
    let s = l.stream in
    let z = phase_at l InDoubt h.0 i in
    let acks = (subst (λ rs. AreSwept l.token (s.again ++ s.forward) (rs ++ l.answers)) h.1 z.acks).0 refl in
    record {
      stream = i.stream;
      control = record {
        ends = each_weaker (IsAck l.token) (IsLive None) (live_acks l.token) l.answers acks.0;
        past = past_idle l.heard;
        harmless = harmless_requests l.token (s.again ++ s.forward) s.reached.number (is_open s.session) acks.1;
        no_request = each_weaker (IsRequest l.token) (IsNotRequest (not l.token)) (not_request l.token) (s.again ++ s.forward) acks.1;
        no_ack = subst (λ rs. Each (IsNotAck (not l.token)) (rs ++ l.answers)) (sym h.1)
            (other_token l.token, each_weaker (IsAck l.token) (IsNotAck (not l.token)) (not_ack l.token) l.answers acks.0);
      };
      tags = i.tags;
      of_given = i.of_given;
      agree = i.agree;
      reached = i.reached;
      ahead = i.ahead;
      numbers = i.numbers;
    }
