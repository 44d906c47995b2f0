-- Whatever the sender queues, begins, ends or cancels keeps what holds of the lane: a frame stands behind all that was queued
-- before it, and where a message ends in doubt, what is ahead of the destination is swept by the Request.
use Rattle.std.proofs.Common.{◌≡◌, ℕ, ◌+◌, ◌<◌, ◌≤◌, inl, inr, Bool, List, [], ◌∷◌, ◌++◌, length, Option, Some, None, refl, sym, ap, ◌∙◌, subst, arith, append_assoc}
use Rattle.std.proofs.lemmas.List.{length_push}
use Rattle.lane_law.specs.Message.{Message, packet}
use Rattle.lane_law.specs.Frame.{Frame, Rts, Dpo, Packet, Request, Place}
use Rattle.lane_law.specs.Outcome.{Unreachable, Other, outcome}
use Rattle.lane_law.specs.Stream as S
use Rattle.lane_law.specs.Stream.{with_frame}
use Rattle.lane_law.specs.Lane
use Rattle.lane_law.specs.Lane.{Idle, Begun, Granted, InDoubt}
use Rattle.lane_law.proofs.Streams.{end_of, keeps}
use Rattle.std.specs.List.{AllByRecursion as Each}
use Rattle.lane_law.proofs.Ahead.{each_after, each_push, each_weaker, Harmless, Quiet, is_open, harmless_push, number_end, number_ahead, harmless_granted, order_le, given_up_to, IsNotRequest, IsRequest, IsNotAck, IsSwept, swept_push, swept_none, answers_ahead, answers_none, IsLive, live_granted, IsOfGiven, tags_after}
use Rattle.lane_law.proofs.Numbers.{IsOpen, AreNumbers, numbers_sent, numbers_begun, numbers_without, numbers_over, rising_at, spared_open, BeginsSpared, spared_ahead}
use Rattle.lane_law.proofs.Lanes.{Controlled, SettledAt, DoubtfulAt, IsLane, phase_outcome, phase_at}

pub sends : (l : Lane.Lane) (m : Message) → IsLane l → IsLane (Lane.after (Lane.Sends m) l)
sends l m i = record {
  stream = keeps (S.Send m) l.stream tt i.stream;
  control = i.control;
  tags = i.tags;
  of_given = i.of_given;
  agree = i.agree;
  reached = i.reached;
  ahead = i.ahead;
  numbers = numbers_sent l.stream.queued.number (length l.stream.sent) (length (l.stream.sent ++ m ∷ [])) l.pending l.outcomes (length_push l.stream.sent m) i.numbers;
}

-- a frame is queued in a settled lane
settled_queue : (l : Lane.Lane) (live : Option ℕ) (f : Frame) → ((u : Bool) → Quiet live (number_end l.stream.reached.number (l.stream.again ++ l.stream.forward)) u f) → IsNotRequest l.token f → SettledAt l live → SettledAt (record l { stream = with_frame f l.stream }) live
settled_queue l live f q r z =
    let assoc = append_assoc l.stream.again l.stream.forward (f ∷ []) in
    record {
      ends = z.ends;
      past = z.past;
      harmless = subst (λ fs. Harmless live l.stream.reached.number (is_open l.stream.session) fs) assoc (harmless_push live (l.stream.again ++ l.stream.forward) l.stream.reached.number (is_open l.stream.session) f q z.harmless);
      no_request = subst (λ fs. Each (IsNotRequest l.token) fs) assoc (each_push (IsNotRequest l.token) (l.stream.again ++ l.stream.forward) f r z.no_request);
      no_ack = z.no_ack;
    }

pub begins : (l : Lane.Lane) (n : ℕ) (m : Message) (rest : List ℕ) → Lane.MayHappen (Lane.Begins n m rest) l → IsLane l → IsLane (Lane.after (Lane.Begins n m rest) l)
begins l n m rest h i =
    let numbers = subst (λ ns. AreNumbers l.stream.queued.number (length l.stream.sent) ns l.outcomes) h.1 i.numbers in
    record {
      stream = keeps (S.Begin n m) l.stream (numbers.rising.0, h.2) i.stream;
      control = (refl, h.2.0, numbers.no_outcome.0, settled_queue l None (Rts n m) (λ u. tt) tt (phase_at l Idle h.0 i));
      tags = i.tags;
      of_given = i.of_given;
      agree = i.agree;
      reached = i.reached;
      ahead = each_push (BeginsSpared l.outcomes) l.stream.forward (Rts n m) (spared_open n l.outcomes numbers.no_outcome.0) i.ahead;
      numbers = numbers_begun l.stream.queued.number (length l.stream.sent) n rest l.outcomes numbers;
    }

pub queues_dpo : (l : Lane.Lane) (n o : ℕ) → l.phase ≡ Granted n → IsLane l → IsLane (Lane.after (Lane.QueuesDpo n o) l)
queues_dpo l n o h i =
    let c = phase_at l (Granted n) h i in
    let l' = Lane.after (Lane.QueuesDpo n o) l in
    record {
      stream = keeps (S.QueueDpo o) l.stream tt i.stream;
      control = subst (λ p. Controlled (SettledAt l') (DoubtfulAt l') l.stream.queued.number l.outcomes p) (sym h) (c.0, c.1, c.2, settled_queue l (Some n) (Dpo o) (λ u. tt) tt c.3);
      tags = i.tags;
      of_given = i.of_given;
      agree = i.agree;
      reached = i.reached;
      ahead = each_push (BeginsSpared l.outcomes) l.stream.forward (Dpo o) tt i.ahead;
      numbers = i.numbers;
    }

pub queues_packet : (l : Lane.Lane) (n k : ℕ) → l.phase ≡ Granted n → IsLane l → IsLane (Lane.after (Lane.QueuesPacket n k) l)
queues_packet l n k h i =
    let c = phase_at l (Granted n) h i in
    let l' = Lane.after (Lane.QueuesPacket n k) l in
    let f = Packet k (packet l.stream.queued.message.bytes (l.stream.queued.offset + k)) in
    let at_end : number_end l.stream.reached.number (l.stream.again ++ l.stream.forward) ≡ n =
    number_ahead l.stream.sent l.stream.reached l.stream.given l.stream.again l.stream.forward i.stream.again ∙ ap (λ (p : Place). p.number) i.stream.end ∙ sym c.0 in
    record {
      stream = keeps (S.QueuePacket k) l.stream tt i.stream;
      control = subst (λ p. Controlled (SettledAt l') (DoubtfulAt l') l.stream.queued.number l.outcomes p) (sym h) (c.0, c.1, c.2, settled_queue l (Some n) f (λ u. inr (ap Some at_end)) tt c.3);
      tags = i.tags;
      of_given = i.of_given;
      agree = i.agree;
      reached = i.reached;
      ahead = each_push (BeginsSpared l.outcomes) l.stream.forward f tt i.ahead;
      numbers = i.numbers;
    }

-- a CTS is taken
settled_grant : (l : Lane.Lane) (n : ℕ) → SettledAt l None → SettledAt (Lane.after (Lane.Grants n) l) (Some n)
settled_grant l n z = record {
  ends = each_weaker (IsLive None) (IsLive (Some n)) (live_granted n) l.answers z.ends;
  past = tt;
  harmless = harmless_granted n (l.stream.again ++ l.stream.forward) l.stream.reached.number (is_open l.stream.session) z.harmless;
  no_request = z.no_request;
  no_ack = each_after (IsNotAck l.token) l.heard l.answers z.no_ack;
}

settled_again : (l : Lane.Lane) (n : ℕ) → SettledAt l (Some n) → SettledAt (Lane.after (Lane.Grants n) l) (Some n)
settled_again l n z = record {
  ends = z.ends;
  past = tt;
  harmless = z.harmless;
  no_request = z.no_request;
  no_ack = each_after (IsNotAck l.token) l.heard l.answers z.no_ack;
}

pub grants : (l : Lane.Lane) (n : ℕ) → Lane.MayHappen (Lane.Grants n) l → IsLane l → IsLane (Lane.after (Lane.Grants n) l)
grants l n h i =
    let l' = Lane.after (Lane.Grants n) l in
    let control : Controlled (SettledAt l') (DoubtfulAt l') l.stream.queued.number l.outcomes (Granted n) = elim h [
      | inl e ↦ (let c = phase_at l (Begun n) e i in (c.0, c.1, c.2, settled_grant l n c.3))
      | inr e ↦ (let c = phase_at l (Granted n) e i in (c.0, c.1, c.2, settled_again l n c.3))
    ] in
    record {
      stream = i.stream;
      control = control;
      tags = tags_after 0 l.heard l.answers i.tags;
      of_given = each_after (IsOfGiven l.stream.given) l.heard l.answers i.of_given;
      agree = i.agree;
      reached = i.reached;
      ahead = i.ahead;
      numbers = i.numbers;
    }

-- the doubt begins
doubtful_end : (l : Lane.Lane) (live : Option ℕ) → SettledAt l live → DoubtfulAt l
doubtful_end l live z = record {
  requests = swept_none l.token (l.stream.again ++ l.stream.forward) z.no_request;
  acks = answers_none l.token (l.stream.again ++ l.stream.forward) (l.heard ++ l.answers) z.no_ack;
}

spared_another : (l : Lane.Lane) (n : ℕ) → IsLane l → Each (BeginsSpared (outcome n Other ∷ l.outcomes)) l.stream.forward
spared_another l n i = spared_ahead l.stream.sent l.outcomes n Other l.stream.reached l.stream.forward (λ k le. tt) i.stream.order i.ahead

ends_with : (l : Lane.Lane) (n : ℕ) → n ≡ l.stream.queued.number → 0 < n → IsOpen n l.outcomes → DoubtfulAt l → IsLane l → IsLane (Lane.after (Lane.Ends n) l)
ends_with l n e pos o d i = record {
  stream = i.stream;
  control = d;
  tags = i.tags;
  of_given = i.of_given;
  agree = (tt, i.agree);
  reached = (tt, i.reached);
  ahead = spared_another l n i;
  numbers = numbers_over l.stream.queued.number (length l.stream.sent) n l.pending l.outcomes Other e pos o i.numbers;
}

pub ends : (l : Lane.Lane) (n : ℕ) → Lane.MayHappen (Lane.Ends n) l → IsLane l → IsLane (Lane.after (Lane.Ends n) l)
ends l n h i = elim h [
  | inl e ↦ (let c = phase_at l (Begun n) e i in ends_with l n c.0 c.1 c.2 (doubtful_end l None c.3) i)
  | inr e ↦ (let c = phase_at l (Granted n) e i in ends_with l n c.0 c.1 c.2 (doubtful_end l (Some n) c.3) i)
]

pub probes : (l : Lane.Lane) → l.phase ≡ InDoubt → IsLane l → IsLane (Lane.after Lane.Probes l)
probes l h i =
    let l' = Lane.after Lane.Probes l in
    let z = phase_at l InDoubt h i in
    let assoc = append_assoc l.stream.again l.stream.forward (Request l.token ∷ []) in
    let d : DoubtfulAt l' = record {
      requests = subst (λ fs. IsSwept l.token fs) assoc (swept_push l.token (l.stream.again ++ l.stream.forward) z.requests);
      acks = answers_ahead l.token (l.stream.again ++ l.stream.forward) (l.stream.again ++ (l.stream.forward ++ Request l.token ∷ []))
          (λ e. subst (λ fs. Each (IsRequest l.token) fs) assoc (each_push (IsRequest l.token) (l.stream.again ++ l.stream.forward) (Request l.token) refl e))
          (l.heard ++ l.answers) z.acks;
    } in
    record {
      stream = keeps (S.QueueRequest l.token) l.stream tt i.stream;
      control = subst (λ p. Controlled (SettledAt l') (DoubtfulAt l') l.stream.queued.number l.outcomes p) (sym h) d;
      tags = i.tags;
      of_given = i.of_given;
      agree = i.agree;
      reached = i.reached;
      ahead = each_push (BeginsSpared l.outcomes) l.stream.forward (Request l.token) tt i.ahead;
      numbers = i.numbers;
    }

pub cancels : (l : Lane.Lane) (earlier : List ℕ) (n : ℕ) (later : List ℕ) → l.pending ≡ earlier ++ n ∷ later → IsLane l → IsLane (Lane.after (Lane.Cancels earlier n later) l)
cancels l earlier n later h i =
    let numbers = subst (λ ns. AreNumbers l.stream.queued.number (length l.stream.sent) ns l.outcomes) h i.numbers in
    record {
      stream = i.stream;
      control = phase_outcome (SettledAt l) (DoubtfulAt l) l.stream.queued.number n l.outcomes Other (rising_at l.stream.queued.number n earlier later numbers.rising) l.phase i.control;
      tags = i.tags;
      of_given = i.of_given;
      agree = (tt, i.agree);
      reached = (tt, i.reached);
      ahead = spared_another l n i;
      numbers = numbers_without l.stream.queued.number (length l.stream.sent) n earlier later l.outcomes Other numbers;
    }

pub gives_up : (l : Lane.Lane) (n : ℕ) (rest : List ℕ) → l.pending ≡ n ∷ rest → IsLane l → IsLane (Lane.after (Lane.GivesUp n rest) l)
gives_up l n rest h i =
    let numbers = subst (λ ns. AreNumbers l.stream.queued.number (length l.stream.sent) ns l.outcomes) h i.numbers in
    let lt : l.stream.queued.number < n = numbers.rising.0 in
    let end : (end_of l.stream.reached l.stream.forward).number ≡ l.stream.queued.number = ap (λ (p : Place). p.number) i.stream.end in
    let le : l.stream.reached.number ≤ l.stream.queued.number = let o = order_le l.stream.sent l.stream.reached l.stream.forward i.stream.order in omega (arith, o, end) in
    record {
      stream = i.stream;
      control = phase_outcome (SettledAt l) (DoubtfulAt l) l.stream.queued.number n l.outcomes Unreachable lt l.phase i.control;
      tags = i.tags;
      of_given = i.of_given;
      agree = ((λ g. let u = given_up_to n l.stream.reached.number l.stream.given i.stream.up_to g in absurd (omega (arith, u, le, lt))), i.agree);
      reached = ((omega (arith, le, lt)), i.reached);
      ahead = spared_ahead l.stream.sent l.outcomes n Unreachable l.stream.reached l.stream.forward (λ k u. omega (arith, u, end, lt)) i.stream.order i.ahead;
      numbers = numbers_without l.stream.queued.number (length l.stream.sent) n [] rest l.outcomes Unreachable numbers;
    }
