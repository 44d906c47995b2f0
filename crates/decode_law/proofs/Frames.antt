-- What each frame of a message does to the listener's message under way.
use Rattle.std.proofs.Common.{◌≡◌, ℕ, ◌+◌, ◌<◌, ◌≤◌, ◌==◌, List, [], ◌∷◌, ◌++◌, true, false, cond, Option, Some, None, refl, sym, ap, ◌∙◌, subst, arith, option_to_list}
use Rattle.std.specs.Prelude.{nat_le}
use Rattle.std.proofs.lemmas.Bool.{le-leb, eq-eqb, ne_eqb}
use Rattle.bus_frame.specs.Frames.{CanFrame}
use Rattle.pgn_ids.specs.Pgn.{clean}
use Rattle.pgn_ids.specs.declared.address.Address.{Address}
use Rattle.tp_wire.specs.Rows.{IsRow, written}
use Rattle.tp_wire.specs.declared.wire.Wire.{Wire}
use Rattle.tp_wire.specs.declared.wire.Wire.TheVariants.{Packet}
use Rattle.seg_cut.specs.Packets.{packet_count, packet}
use Rattle.seg_cut.specs.Join.{Join, IsFrontOf, joined, wants, is_complete}
use Rattle.log_decode.specs.Session.{roomy, accepted, packet_heard, is_within, sequence_heard, given_of}
use Rattle.log_decode.specs.Sessions.{Heard, session_at, put, without, settled, packet_taken}
use Rattle.log_decode.specs.Decoder.{wire_taken, frame_taken}
use Rattle.log_decode.specs.declared.session.Session.{Session}
use Rattle.log_reports.specs.declared.told.Told.{Told}
use Rattle.log_reports.specs.declared.told.Told.TheVariants.{Given}
use Rattle.log_decode.proofs.AtKey.{by_session}
use Rattle.decode_law.proofs.Entries.{found, put_again, taken_out}
use Rattle.decode_law.proofs.Steps.{Laws, Case, roomy_front, roomy_next, last, key, with_one, news, Place, IsGoing, Goes, Stands, Over, step, gives}

module _ (laws : Laws) (c : Case) where
  -- what is written is read
  abbrev by_reading : (now : ℕ) → Heard → Option (Wire × Address × Address) → Heard
  by_reading now h o = elim o [ None ↦ h | Some r ↦ wire_taken (record { iface = c.iface; from = r.1; to = r.2 }) r.0 c.most now h ]

  pub meaning : (w : Wire) (a b : Address) (now : ℕ) (h : Heard) → IsRow w a.0 b.0 → frame_taken c.iface (written w a.0 b.0) c.most now h ≡ wire_taken (record { iface = c.iface; from = a; to = b }) w c.most now h
  meaning w a b now h row = ap (by_reading now h) (laws.reads w a b row)

  -- the message of the key ends so
  abbrev by_given : Heard → Option Session → Heard
  by_given h o = elim o [ None ↦ h | Some s ↦ (without (key laws c) h.0, h.1 ++ option_to_list (given_of (key laws c) (clean s.pgn) s.join)) ]

  module _ (p : ℕ) (place : Place) (sequence : ℕ) (from_first : 1 ≤ sequence) (inside : is_within place.window sequence ≡ true) (sum : place.offset + sequence ≡ p) (within : p ≤ last laws c) (time now : ℕ) (x : Session) (g : IsGoing laws c p place time x) where
    abbrev bytes : List ℕ
    bytes = packet c.m.bytes p

    abbrev frame : Wire
    frame = Packet c.kind sequence bytes

    abbrev after : Session
    after = accepted x bytes now

    abbrev next_join : Join
    next_join = joined (roomy x.join) bytes

    front : IsFrontOf c.m.bytes (roomy x.join)
    front = roomy_front c.m.bytes x.join g.front

    next : (roomy x.join).next ≡ p
    next = roomy_next x.join ∙ g.next_is

    packets : packet_count x.join.size ≡ last laws c
    packets = ap packet_count g.front.same_size

    packets_roomy : packet_count (roomy x.join).size ≡ last laws c
    packets_roomy = ap packet_count front.same_size

    front_next : IsFrontOf c.m.bytes next_join
    front_next =
        let le : (roomy x.join).next ≤ packet_count (roomy x.join).size = omega (arith, next, packets_roomy, within) in
        subst (λ n. IsFrontOf c.m.bytes (joined (roomy x.join) (packet c.m.bytes n))) next (laws.goes_on c.m.bytes (roomy x.join) front le)

    number : x.offset + sequence ≡ p
    number = ap (λ n. n + sequence) g.offset_is ∙ sum

    wanted : wants x.join p ≡ true
    wanted =
        let same : (p == x.join.next) ≡ true = eq-eqb p x.join.next (sym g.next_is) in
        let le : nat_le p (packet_count x.join.size) ≡ true = le-leb p (packet_count x.join.size) (omega (arith, packets, within)) in
        rw (same, le) refl

    -- the packet is one of the window
    heard_as : sequence_heard c.d x sequence bytes now ≡ packet_heard c.d x p bytes now
    heard_as = rw (ap (λ w. is_within w sequence) g.window_is ∙ inside) (ap (λ n. packet_heard c.d x n bytes now) number)

    -- the message of the key takes the packet
    takes : (told : List Told) → packet_taken (key laws c) sequence bytes now (with_one laws c x, told)
        ≡ settled (key laws c) (packet_heard c.d x p bytes now).1 (put (key laws c) (packet_heard c.d x p bytes now).0 (with_one laws c x), told)
    takes told =
        ap (by_session (λ s. sequence_heard c.d s sequence bytes now) (key laws c) (with_one laws c x, told)) (found (key laws c) c.others x c.free)
        ∙ (λ i. settled (key laws c) (heard_as i).1 (put (key laws c) (heard_as i).0 (with_one laws c x), told))

    row : IsRow frame c.s.0 c.d.0
    row = record { numbers = from_first; widths = laws.seven c.m.bytes p within; source = c.sendable.source; destination = c.carries sequence bytes }

    taken_as : (told : List Told) → frame_taken c.iface (written frame c.s.0 c.d.0) c.most now (with_one laws c x, told) ≡ packet_taken (key laws c) sequence bytes now (with_one laws c x, told)
    unfolding wire_taken
    taken_as told = meaning frame c.s c.d now (with_one laws c x, told) row

    some : p < last laws c → is_complete next_join ≡ false
    some more = ne_eqb ((roomy x.join).next + 1) (packet_count (roomy x.join).size + 1) (λ e. absurd (omega (arith, e, next, packets_roomy, more)))

    heard_on : p < last laws c → (told : List Told) → settled (key laws c) (packet_heard c.d x p bytes now).1 (put (key laws c) (packet_heard c.d x p bytes now).0 (with_one laws c x), told) ≡ (put (key laws c) after (with_one laws c x), told)
    unfolding packet_heard
    heard_on more told = rw (wanted, some more) refl

    -- more are to come
    goes : p < last laws c → Goes laws c (p + 1) place now (written frame c.s.0 c.d.0) x
    goes more = record {
      y = after;
      going = record { pgn = g.pgn; offset_is = g.offset_is; window_is = g.window_is; heard_at_time = refl; front = front_next; next_is = ap (λ n. n + 1) next };
      is = λ told. taken_as told ∙ takes told ∙ heard_on more told ∙ ap (λ es. (es, told)) (put_again (key laws c) c.others x after c.free);
    }

    all : p ≡ last laws c → is_complete next_join ≡ true
    all is_last = eq-eqb ((roomy x.join).next + 1) (packet_count (roomy x.join).size + 1) (omega (arith, next, packets_roomy, is_last))

    heard_whole : p ≡ last laws c → (told : List Told) → settled (key laws c) (packet_heard c.d x p bytes now).1 (put (key laws c) (packet_heard c.d x p bytes now).0 (with_one laws c x), told)
        ≡ by_given (put (key laws c) after (with_one laws c x), told) (session_at (key laws c) (put (key laws c) after (with_one laws c x)))
    unfolding packet_heard
    heard_whole is_last told = rw (wanted, all is_last) refl

    given : p ≡ last laws c → option_to_list (given_of (key laws c) (clean after.pgn) next_join) ≡ news laws c
    given is_last =
        ap (λ b. option_to_list (cond b (Some (Given (key laws c) (clean x.pgn) next_join.bytes)) None)) (all is_last)
        ∙ (λ i. Given (key laws c) (clean (g.pgn i)) (laws.ends c.m.bytes next_join front_next (all is_last) i) ∷ [])

    -- it is the last
    ends : p ≡ last laws c → (told : List Told) → frame_taken c.iface (written frame c.s.0 c.d.0) c.most now (with_one laws c x, told) ≡ (c.others, told ++ news laws c)
    ends is_last told =
        taken_as told ∙ takes told ∙ heard_whole is_last told
        ∙ ap (λ es. by_given (es, told) (session_at (key laws c) es)) (put_again (key laws c) c.others x after c.free)
        ∙ ap (by_given (with_one laws c after, told)) (found (key laws c) c.others after c.free)
        ∙ (λ i. (taken_out (key laws c) c.others after c.free i, told ++ given is_last i))

  -- packet p comes, with more to come
  pub packet_goes : (p : ℕ) (place : Place) (sequence : ℕ) (rest : List CanFrame) → 1 ≤ sequence → is_within place.window sequence ≡ true → place.offset + sequence ≡ p → p < last laws c
      → Stands laws c p place (written (Packet c.kind sequence (packet c.m.bytes p)) c.s.0 c.d.0 ∷ rest) → Stands laws c (p + 1) place rest
  packet_goes p place sequence rest from_first inside sum more = step laws c (written (Packet c.kind sequence (packet c.m.bytes p)) c.s.0 c.d.0) rest p place (p + 1) place (λ time now x g. goes p place sequence from_first inside sum (omega (arith, more)) time now x g more)

  -- the last packet comes
  pub packet_ends : (p : ℕ) (place : Place) (sequence : ℕ) (rest : List CanFrame) → 1 ≤ sequence → is_within place.window sequence ≡ true → place.offset + sequence ≡ p → p ≡ last laws c
      → Stands laws c p place (written (Packet c.kind sequence (packet c.m.bytes p)) c.s.0 c.d.0 ∷ rest) → Over laws c rest
  packet_ends p place sequence rest from_first inside sum is_last = gives laws c (written (Packet c.kind sequence (packet c.m.bytes p)) c.s.0 c.d.0) rest p place (λ time now x g. ends p place sequence from_first inside sum (omega (arith, is_last)) time now x g is_last c.told)
