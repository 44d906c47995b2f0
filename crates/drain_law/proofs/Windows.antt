-- The frames of a window leave one by one, however the sender queues them, as in a drive.
use Rattle.std.proofs.Common.{◌≡◌, ℕ, zero, suc, ◌+◌, ◌-◌, ◌<◌, ◌≤◌, ◌^◌, nat_lt, max, Bool, true, false, List, [], ◌∷◌, ◌++◌, length, map, refl, sym, ap, ◌∙◌, subst, arith}
use Rattle.std.specs.List.{range_with_len}
use Rattle.std.proofs.lemmas.List.{append_assoc, length-append, map-append}
use Rattle.std.proofs.lemmas.List.FromFn.{length-map-range_with_len}
use Rattle.std.proofs.lemmas.Bool.{lt-ltb, le-ltb}
use Rattle.bus_frame.specs.Frames.{CanFrame}
use Rattle.tp_wire.specs.declared.wire.Kind.{Kind}
use Rattle.tp_wire.specs.declared.wire.Kind.TheVariants.{Tp, Etp}
use Rattle.tp_wire.specs.declared.wire.Wire.{Wire}
use Rattle.originator.specs.States as states
use Rattle.originator.specs.Pump as out
use Rattle.originator.specs.declared.states.OutState.{OutState}
use Rattle.originator.specs.declared.states.OutState.TheVariants.{Sending}
use Rattle.message_events.specs.declared.event.Event.{Event}
use Rattle.station_sessions.specs.Receiving.{Inbound}
use Rattle.station_core.specs.Station.{StationStep}
use Rattle.station_core.specs.Taking.{wire_taken}
use Rattle.segment_law.specs.Segment.{Segment}
use Rattle.exchange_law.proofs.Nodes.{IsBetween}
use Rattle.exchange_law.proofs.Senders.{Sent, s, d, link, window, since, going, lanes_with, sends, goes}
use Rattle.exchange_law.proofs.Receivers.{hears}
use Rattle.exchange_law.proofs.Windows.{state_at, owed_at, IsOwing}
use Rattle.drain_law.proofs.Turns.{Stands, IsLowest, forward, pumped}

range_append : (a b n : ℕ) → range_with_len a (b + n) ≡ range_with_len a b ++ range_with_len (a + b) n
range_append a zero n = (let x : 0 + n ≡ n = omega arith in let y : a ≡ a + 0 = omega arith in (λ i. range_with_len (y i) (x i)))
range_append a (suc b) n =
    let x : suc b + n ≡ suc (b + n) = omega arith in
    let y : a + 1 + b ≡ a + suc b = omega arith in
    ap (range_with_len a) x ∙ (λ i. a ∷ range_append (a + 1) b n i) ∙ (λ i. a ∷ range_with_len (a + 1) b ++ range_with_len (y i) n)

record IsSplit (fs : List CanFrame) : Type 0 where
  first : CanFrame
  rest : List CanFrame
  is : fs ≡ first ∷ rest

split : (fs : List CanFrame) → 1 ≤ length fs → IsSplit fs
split [] some = absurd (omega (arith, some))
split (f ∷ fs) some = record { first = f; rest = fs; is = refl }

same_first : (f g : CanFrame) (x y : List CanFrame) → f ∷ x ≡ g ∷ y → (f ≡ g) × (x ≡ y)
same_first f g x y e = (cc, cc)

module _ (e : Sent) (L now : ℕ) (k g u : ℕ) where
  abbrev states_at : (a : ℕ) → Bool → (left : ℕ) → OutState
  states_at = state_at e L now k g u

  abbrev owes : (a : ℕ) → Bool → (left : ℕ) → List CanFrame
  owes = owed_at e L now k g u

  record Queues (a left : ℕ) (announced : Bool) : Type 0 where
    first : CanFrame
    rest : List CanFrame
    a' : ℕ
    left' : ℕ
    does : out.pumped (Sending (window e k g u a announced)) e.m.bytes now ≡ (states_at a' true left', first ∷ rest)
    sum : a' + left' ≡ u + 1
    short : length rest < 64
    is : owes a announced (suc left) ≡ first ∷ rest ++ owes a' true left'

  -- the lane queues the first frames that it owes
  module _ (a left : ℕ) (announced : Bool) (sum : a + suc left ≡ u + 1) where
    abbrev w : states.Sending
    w = window e k g u a announced

    abbrev said : List CanFrame
    said = out.announcement e.kind w

    abbrev count : ℕ
    count = out.burst_packets w

    one_at_most : (kind : Kind) (b : Bool) → length (out.announcement kind (window e k g u a b)) ≤ 1
    one_at_most Tp b = omega arith
    one_at_most Etp true = omega arith
    one_at_most Etp false = omega arith

    said_one : length said ≤ 1
    said_one = one_at_most e.kind announced

    count_some : 1 ≤ count
    count_some = omega (arith, said_one, sum)

    count_few : count ≤ suc left
    count_few = omega (arith, sum)

    count_short : length said + count ≤ 8
    count_short = omega (arith, said_one)

    burst_len : length (out.burst_of_window w e.m.bytes) ≡ length said + count
    burst_len = length-append said (out.packet_frames (link e) k e.m.bytes a count) ∙ ap (λ n. length said + n) (length-map-range_with_len (out.packet_frame (link e) k e.m.bytes) a count)

    none_said : (kind : Kind) (x : ℕ) → out.announcement kind (window e k g u x true) ≡ []
    none_said Tp x = refl
    none_said Etp x = refl

    packets_owed : (n : ℕ) (x : ℕ) → owes x true n ≡ out.packet_frames (link e) k e.m.bytes x n
    packets_owed zero x = refl
    packets_owed (suc n) x = ap (λ (fs : List CanFrame). fs ++ out.packet_frames (link e) k e.m.bytes x (suc n)) (none_said e.kind x)

    owed_is : owes a announced (suc left) ≡ out.burst_of_window w e.m.bytes ++ owes (a + count) true (suc left - count)
    owed_is =
        let both : suc left ≡ count + (suc left - count) = omega (arith, count_few) in
        ap (λ (n : ℕ). said ++ out.packet_frames (link e) k e.m.bytes a n) both
        ∙ ap (λ (xs : List ℕ). said ++ map (out.packet_frame (link e) k e.m.bytes) xs) (range_append a count (suc left - count))
        ∙ ap (λ (fs : List CanFrame). said ++ fs) (map-append (out.packet_frame (link e) k e.m.bytes) (range_with_len a count) (range_with_len (a + count) (suc left - count)))
        ∙ sym (append_assoc said (out.packet_frames (link e) k e.m.bytes a count) (out.packet_frames (link e) k e.m.bytes (a + count) (suc left - count)))
        ∙ ap (λ (fs : List CanFrame). out.burst_of_window w e.m.bytes ++ fs) (sym (packets_owed (suc left - count) (a + count)))

    state_is : (n : ℕ) → suc left - count ≡ n → out.queued_to w (a + count) now ≡ states_at (a + count) true n
    state_is zero is =
        let past : nat_lt u (a + count) ≡ true = lt-ltb u (a + count) (omega (arith, sum, is)) in
        let same : max a (a + count) ≡ a + count = omega arith in
        rw (past, same) refl
    state_is (suc n) is =
        let past : nat_lt u (a + count) ≡ false = le-ltb u (a + count) (omega (arith, sum, is)) in
        let same : max a (a + count) ≡ a + count = omega arith in
        rw (past, same) refl

    queues : Queues a left announced
    queues =
        let parts : IsSplit (out.burst_of_window w e.m.bytes) = split (out.burst_of_window w e.m.bytes) (omega (arith, burst_len, count_some)) in
        let long : length (out.burst_of_window w e.m.bytes) ≡ suc (length parts.rest) = ap (λ (fs : List CanFrame). length fs) parts.is in
        record {
          first = parts.first;
          rest = parts.rest;
          a' = a + count;
          left' = suc left - count;
          does = (λ i. (state_is (suc left - count) refl i, parts.is i));
          sum = omega (arith, sum, count_few);
          short = omega (arith, long, burst_len, count_short);
          is = owed_is ∙ ap (λ (fs : List CanFrame). fs ++ owes (a + count) true (suc left - count)) parts.is;
        }

  -- ---- a turn

  module _ (begin : Segment) (low : IsLowest e.pair L now begin) where
    pub record Moved (q : List CanFrame) (o : OutState) (f : CanFrame) (owed : List CanFrame) (p : List CanFrame) (ss : Inbound) (t : ℕ) (fs : List CanFrame) (es : List Event) : Type 0 where
      pub q' : List CanFrame
      pub o' : OutState
      pub owing : IsOwing e L now k g u q' o' owed
      pub stands : Stands e.pair L now begin (sends e q' (lanes_with e (going e o'))) (hears e p ss) (t + 1) (fs ++ f ∷ []) es

    -- the first frame that is owed is put, and the receiver takes it
    pub sender_turn : (q : List CanFrame) (o : OutState) (w : Wire) (f : CanFrame) (owed : List CanFrame) → IsOwing e L now k g u q o (f ∷ owed) → IsBetween (s e) (d e) w f
        → (p' : List CanFrame) (ss ss' : Inbound) (more : List Event) → wire_taken (hears e [] ss) w (s e) (d e) true now ≡ record { station = hears e p' ss'; events = more }
        → (t : ℕ) (fs : List CanFrame) (es : List Event) → Stands e.pair L now begin (sends e q (lanes_with e (going e o))) (hears e [] ss) t fs es → L + t + 1 < 2 ^ 64
        → Moved q o f owed p' ss' t fs (es ++ more)
    sender_turn [] o w f owed h b p' ss ss' more takes t fs es a fits = by h.left refl
      where
        queued_as : OutState × List CanFrame → StationStep
        queued_as r = record { station = sends e r.1 (lanes_with e (going e r.0)); events = [] }

        by : (n : ℕ) → h.left ≡ n → Moved [] o f owed p' ss' t fs (es ++ more)
        by zero none = absurd (let x : owes h.a h.announced h.left ≡ [] = ap (owes h.a h.announced) none in let y : [] ≡ f ∷ owed = sym x ∙ h.is in cc)
        by (suc n) some =
            let z : Queues h.a n h.announced = queues h.a n h.announced (ap (λ x. h.a + x) (sym some) ∙ h.sum) in
            let is : f ∷ owed ≡ z.first ∷ z.rest ++ owes z.a' true z.left' = sym h.is ∙ ap (owes h.a h.announced) some ∙ z.is in
            let same : (f ≡ z.first) × (owed ≡ z.rest ++ owes z.a' true z.left') = same_first f z.first owed (z.rest ++ owes z.a' true z.left') is in
            let st : states.Sending = window e k g u h.a h.announced in
            let here : Stands e.pair L now begin (sends e [] (lanes_with e (going e (Sending st)))) (hears e [] ss) t fs es =
            subst (λ (x : OutState). Stands e.pair L now begin (sends e [] (lanes_with e (going e x))) (hears e [] ss) t fs es) (h.state ∙ ap (states_at h.a h.announced) some) a in
            record {
              q' = z.rest;
              o' = states_at z.a' true z.left';
              owing = record { a = z.a'; left = z.left'; announced = true; state = refl; sum = z.sum; short = z.short; is = sym same.1 };
              stands = pumped e.pair L now begin w f b low z.rest p' (going e (Sending st)) (going e (states_at z.a' true z.left')) ss ss' more z.short refl
                  (goes e (Sending st) now ∙ ap queued_as z.does ∙ ap (λ (x : CanFrame). (let r : StationStep = record { station = sends e (x ∷ z.rest) (lanes_with e (going e (states_at z.a' true z.left'))); events = [] } in r)) (sym same.0))
                  takes t fs es here fits;
            }
    sender_turn (x ∷ q) o w f owed h b p' ss ss' more takes t fs es a fits =
        let same : (x ≡ f) × (q ++ owes h.a h.announced h.left ≡ owed) = same_first x f (q ++ owes h.a h.announced h.left) owed h.is in
        let l : suc (length q) < 64 = h.short in
        record {
          q' = q;
          o' = o;
          owing = record { a = h.a; left = h.left; announced = h.announced; state = h.state; sum = h.sum; short = omega (arith, l); is = same.1 };
          stands = forward e.pair L now begin w f b q p' (lanes_with e (going e o)) ss ss' more (omega (arith, l)) takes t fs es
              (subst (λ (y : CanFrame). Stands e.pair L now begin (sends e (y ∷ q) (lanes_with e (going e o))) (hears e [] ss) t fs es) same.0 a) fits;
        }
