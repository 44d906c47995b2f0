-- A listener takes the frames of one message: what it has under way after each of them, ahead of what is still to come.
use Rattle.std.proofs.Common.{◌≡◌, ℕ, ◌+◌, ◌-◌, ◌<◌, ◌≤◌, ◌==◌, List, [], ◌∷◌, ◌++◌, Bool, true, false, cond, length, Option, Some, None, refl, sym, ap, ◌∙◌, subst, arith, max, nat_lt}
use Rattle.std.specs.Prelude.{All, IsTrue}
use Rattle.std.proofs.lemmas.List.Elements.{All-head, All-tail}
use Rattle.bus_frame.specs.Frames.{CanFrame}
use Rattle.log_fields.specs.declared.iface.Iface.{Iface}
use Rattle.pgn_ids.specs.Pgn.{clean}
use Rattle.pgn_ids.specs.declared.address.Address.{Address}
use Rattle.tp_wire.specs.Reading.{reading}
use Rattle.tp_wire.specs.Rows.{IsRow, written, goes_to}
use Rattle.tp_wire.specs.declared.wire.Kind.{Kind}
use Rattle.tp_wire.specs.declared.wire.Wire.{Wire}
use Rattle.tp_wire.specs.declared.wire.Wire.TheVariants.{Packet}
use Rattle.seg_cut.specs.Packets.{packet_count, packet}
use Rattle.seg_cut.specs.Join.{Join, IsFrontOf, joined, is_complete, with_room}
use Rattle.lane_core.specs.declared.message.Pending.{Pending}
use Rattle.log_reports.specs.Keys.{transport_of}
use Rattle.log_decode.specs.Session.{patience, first_window, opened, roomy}
use Rattle.log_decode.specs.Sessions.{Sessions, Heard, session_at, silenced, broken_off}
use Rattle.log_decode.specs.Decoder.{frame_taken, goes_back, now_at, passed, bus_taken}
use Rattle.log_decode.specs.View.{Bus}
use Rattle.log_reports.specs.declared.key.Key.{Key}
use Rattle.log_decode.specs.declared.session.Session.{Session}
use Rattle.log_reports.specs.declared.told.Told.{Told}
use Rattle.log_reports.specs.declared.told.Told.TheVariants.{Given}
use Rattle.decode_law.specs.Hearing.{Log, frames_in, end_of, ComeWithin, ComeInTime, NoneSilent, IsSendable}
use Rattle.decode_law.proofs.Entries.{behind, none_ended, loud_with}
use Rattle.decode_law.proofs.Interfaces.{heard_on}

-- the laws of the layers below
pub record Laws : Type 0 where
  pub reads : (wire : Wire) (from to : Address) → IsRow wire from.0 to.0 → reading (written wire from.0 to.0) ≡ Some (wire, from, to)
  pub goes_on : (message : List ℕ) (j : Join) → IsFrontOf message j → j.next ≤ packet_count j.size → IsFrontOf message (joined j (packet message j.next))
  pub ends : (message : List ℕ) (j : Join) → IsFrontOf message j → IsTrue (is_complete j) → j.bytes ≡ message
  pub seven : (message : List ℕ) (k : ℕ) → k ≤ packet_count (length message) → length (packet message k) ≡ 7

abbrev pub key_with : Iface → (s d : Address) → Kind → Key
key_with iface s d kind = record { iface = iface; from = s; to = d; transport = transport_of kind }

-- behind which offset packets are numbered, and within which window
pub record Place : Type 0 where
  pub offset : ℕ
  pub window : Option ℕ

abbrev pub first_place : Kind → Place
first_place kind = record { offset = 0; window = first_window (transport_of kind) }

-- a message by one transport, a listener that has others under way, what it told before, and what it comes to in the end
pub record Case : Type 0 where
  pub m : Pending
  pub s : Address
  pub d : Address
  pub kind : Kind
  pub iface : Iface
  pub most : ℕ
  pub others : Sessions
  pub told : List Told
  pub total : Bus × List Told
  pub until : ℕ
  pub sendable : IsSendable m s d
  pub carries : (sequence : ℕ) (bytes : List ℕ) → goes_to (Packet kind sequence bytes) d.0 ≡ true
  pub room : length m.bytes ≤ most
  pub free : session_at (key_with iface s d kind) others ≡ None

abbrev pub bus : (time : ℕ) → Sessions → Bus
bus time es = record { time = time; sessions = es }

abbrev then_bus : (time : ℕ) → Heard → Bus × List Told
then_bus time h = (bus time h.0, h.1)

-- where time doesn't go back, and none is silent, a frame does what it does
taken_is : (most time now : ℕ) (es : Sessions) (iface : Iface) (f : CanFrame) (told : List Told) (h : Heard) → time ≤ now → NoneSilent now es → frame_taken iface f most now (es, told) ≡ h
    → bus_taken (bus time es) most now iface f told ≡ then_bus now h
taken_is most time now es iface f told h le loud e =
    let none : time - now ≡ 0 = omega (arith, le) in
    let on : goes_back time now ≡ false = ap (nat_lt 1000000) none in
    let most_is : max time now ≡ now = omega (arith, le) in
    let later : now_at time now ≡ now = ap (λ b. cond b now (max time now)) on ∙ most_is in
    let past : passed time now (es, told) ≡ (es, told) = ap (λ b. cond b (broken_off (es, told)) (silenced (max time now) (es, told))) on ∙ ap (λ n. silenced n (es, told)) most_is ∙ none_ended now es told loud in
    ap (λ n. then_bus n (frame_taken iface f most n (passed time now (es, told)))) later
    ∙ ap (λ (z : Heard). then_bus now (frame_taken iface f most now z)) past
    ∙ ap (λ (z : Heard). then_bus now z) e

-- room alone changes nothing of what has come
pub roomy_front : (message : List ℕ) (j : Join) → IsFrontOf message j → IsFrontOf message (roomy j)
roomy_front message j f = by (j.room == 0) (max (j.next - 1) 64)
  where
    by : (b : Bool) (room : ℕ) → IsFrontOf message (cond b (with_room j room) j)
    by true room = record { same_size = f.same_size; from_packet = f.from_packet; front = f.front }
    by false room = f

pub roomy_next : (j : Join) → (roomy j).next ≡ j.next
roomy_next j = by (j.room == 0) (max (j.next - 1) 64)
  where
    by : (b : Bool) (room : ℕ) → (cond b (with_room j room) j).next ≡ j.next
    by true room = refl
    by false room = refl

pub roomy_size : (j : Join) → (roomy j).size ≡ j.size
roomy_size j = by (j.room == 0) (max (j.next - 1) 64)
  where
    by : (b : Bool) (room : ℕ) → (cond b (with_room j room) j).size ≡ j.size
    by true room = refl
    by false room = refl

module _ (laws : Laws) (c : Case) where
  abbrev pub len : ℕ
  len = length c.m.bytes

  abbrev pub last : ℕ
  last = packet_count len

  abbrev pub key : Key
  key = key_with c.iface c.s c.d c.kind

  abbrev pub with_one : Session → Sessions
  with_one x = behind key c.others x

  -- what is told of the message
  abbrev pub news : List Told
  news = Given key (clean c.m.pgn) c.m.bytes ∷ []

  -- the packets before the next one have come, and it was heard at this time
  pub record IsGoing (next : ℕ) (place : Place) (time : ℕ) (x : Session) : Type 0 where
    pub pgn : x.pgn ≡ c.m.pgn
    pub offset_is : x.offset ≡ place.offset
    pub window_is : x.window ≡ place.window
    pub heard_at_time : x.heard ≡ time
    pub front : IsFrontOf c.m.bytes x.join
    pub next_is : x.join.next ≡ next

  -- a frame that it goes on by
  pub record Goes (next : ℕ) (place : Place) (now : ℕ) (f : CanFrame) (x : Session) : Type 0 where
    pub y : Session
    pub going : IsGoing next place now y
    pub is : (told : List Told) → frame_taken c.iface f c.most now (with_one x, told) ≡ (with_one y, told)

  -- the message is under way, and these frames are still to come
  pub record Stands (next : ℕ) (place : Place) (rest : List CanFrame) : Type 0 where
    pub time : ℕ
    pub session : Session
    pub log : Log
    pub going : IsGoing next place time session
    pub frames : frames_in log ≡ rest
    pub times : ComeWithin (patience c.d) time log
    pub loud : All (λ f. NoneSilent f.0 c.others) log
    pub ends : end_of time log ≡ c.until
    pub is : heard_on c.most (bus time (with_one session)) c.iface log c.told ≡ c.total

  -- the message was given, and these frames are still to come
  pub record Over (rest : List CanFrame) : Type 0 where
    pub time : ℕ
    pub log : Log
    pub frames : frames_in log ≡ rest
    pub times : ComeWithin (patience c.d) time log
    pub loud : All (λ f. NoneSilent f.0 c.others) log
    pub ends : end_of time log ≡ c.until
    pub is : heard_on c.most (bus time c.others) c.iface log (c.told ++ news) ≡ c.total

  abbrev LoudAt : ℕ × CanFrame → Type 0
  LoudAt f = NoneSilent f.0 c.others

  abbrev and_then : Log → Bus × List Told → Bus × List Told
  and_then log h = heard_on c.most h.0 c.iface log h.1

  -- the announcement
  pub begins : (f : CanFrame) (rest : List CanFrame) (time : ℕ) (log : Log) → frames_in log ≡ f ∷ rest → ComeInTime (patience c.d) time log → All LoudAt log → end_of time log ≡ c.until
      → heard_on c.most (bus time c.others) c.iface log c.told ≡ c.total
      → ((now : ℕ) → frame_taken c.iface f c.most now (c.others, c.told) ≡ (with_one (opened (transport_of c.kind) c.m.pgn len now), c.told))
      → Stands 1 (first_place c.kind) rest
  begins f rest time [] frames times loud ends is does = absurd cc
  begins f rest time (g ∷ gs) frames times loud ends is does = record {
    time = g.0;
    session = opened (transport_of c.kind) c.m.pgn len g.0;
    log = gs;
    going = record { pgn = refl; offset_is = refl; window_is = refl; heard_at_time = refl; front = record { same_size = refl; from_packet = omega arith; front = refl }; next_is = refl };
    frames = cc;
    times = times.1;
    loud = All-tail LoudAt g gs loud;
    ends = ends;
    is =
        sym (ap (and_then gs) (taken_is c.most time g.0 c.others c.iface g.1 c.told (with_one (opened (transport_of c.kind) c.m.pgn len g.0), c.told) times.0 (All-head LoudAt g gs loud) (ap (λ x. frame_taken c.iface x c.most g.0 (c.others, c.told)) first ∙ does g.0)))
        ∙ is;
  }
    where
      first : g.1 ≡ f
      first = cc

  -- a frame that it goes on by
  pub step : (f : CanFrame) (rest : List CanFrame) (next : ℕ) (place : Place) (next' : ℕ) (place' : Place) → ((time now : ℕ) (x : Session) → IsGoing next place time x → Goes next' place' now f x) → Stands next place (f ∷ rest) → Stands next' place' rest
  step f rest next place next' place' does a = by a.log a.frames a.times a.loud a.ends a.is
    where
      by : (log : Log) → frames_in log ≡ f ∷ rest → ComeWithin (patience c.d) a.time log → All LoudAt log → end_of a.time log ≡ c.until
          → heard_on c.most (bus a.time (with_one a.session)) c.iface log c.told ≡ c.total → Stands next' place' rest
      by [] frames times loud ends is = absurd cc
      by (g ∷ gs) frames times loud ends is =
          let first : g.1 ≡ f = cc in
          let n : Goes next' place' g.0 f a.session = does a.time g.0 a.session a.going in
          let before : a.session.heard ≡ a.time = a.going.heard_at_time in
          let soon : g.0 < a.session.heard + patience c.d = subst (λ t. g.0 < t + patience c.d) (sym before) times.1 in
          record {
            time = g.0;
            session = n.y;
            log = gs;
            going = n.going;
            frames = cc;
            times = times.2;
            loud = All-tail LoudAt g gs loud;
            ends = ends;
            is =
                sym (ap (and_then gs) (taken_is c.most a.time g.0 (with_one a.session) c.iface g.1 c.told (with_one n.y, c.told) times.0 (loud_with key c.others a.session g.0 (All-head LoudAt g gs loud) soon)
                (ap (λ x. frame_taken c.iface x c.most g.0 (with_one a.session, c.told)) first ∙ n.is c.told)))
                ∙ is;
          }

  -- a frame by which it is given
  pub gives : (f : CanFrame) (rest : List CanFrame) (next : ℕ) (place : Place)
      → ((time now : ℕ) (x : Session) → IsGoing next place time x → frame_taken c.iface f c.most now (with_one x, c.told) ≡ (c.others, c.told ++ news))
      → Stands next place (f ∷ rest) → Over rest
  gives f rest next place does a = by a.log a.frames a.times a.loud a.ends a.is
    where
      by : (log : Log) → frames_in log ≡ f ∷ rest → ComeWithin (patience c.d) a.time log → All LoudAt log → end_of a.time log ≡ c.until
          → heard_on c.most (bus a.time (with_one a.session)) c.iface log c.told ≡ c.total → Over rest
      by [] frames times loud ends is = absurd cc
      by (g ∷ gs) frames times loud ends is =
          let first : g.1 ≡ f = cc in
          let before : a.session.heard ≡ a.time = a.going.heard_at_time in
          let soon : g.0 < a.session.heard + patience c.d = subst (λ t. g.0 < t + patience c.d) (sym before) times.1 in
          record {
            time = g.0;
            log = gs;
            frames = cc;
            times = times.2;
            loud = All-tail LoudAt g gs loud;
            ends = ends;
            is =
                sym (ap (and_then gs) (taken_is c.most a.time g.0 (with_one a.session) c.iface g.1 c.told (c.others, c.told ++ news) times.0 (loud_with key c.others a.session g.0 (All-head LoudAt g gs loud) soon)
                (ap (λ x. frame_taken c.iface x c.most g.0 (with_one a.session, c.told)) first ∙ does a.time g.0 a.session a.going)))
                ∙ is;
          }

  -- a frame that says nothing more
  pub passes : (f : CanFrame) (rest : List CanFrame) → ((now : ℕ) (told : List Told) → frame_taken c.iface f c.most now (c.others, told) ≡ (c.others, told)) → Over (f ∷ rest) → Over rest
  passes f rest does a = by a.log a.frames a.times a.loud a.ends a.is
    where
      by : (log : Log) → frames_in log ≡ f ∷ rest → ComeWithin (patience c.d) a.time log → All LoudAt log → end_of a.time log ≡ c.until
          → heard_on c.most (bus a.time c.others) c.iface log (c.told ++ news) ≡ c.total → Over rest
      by [] frames times loud ends is = absurd cc
      by (g ∷ gs) frames times loud ends is =
          let first : g.1 ≡ f = cc in
          record {
            time = g.0;
            log = gs;
            frames = cc;
            times = times.2;
            loud = All-tail LoudAt g gs loud;
            ends = ends;
            is =
                sym (ap (and_then gs) (taken_is c.most a.time g.0 c.others c.iface g.1 (c.told ++ news) (c.others, c.told ++ news) times.0 (All-head LoudAt g gs loud)
                (ap (λ x. frame_taken c.iface x c.most g.0 (c.others, c.told ++ news)) first ∙ does g.0 (c.told ++ news))))
                ∙ is;
          }

  -- all frames have come
  pub whole : Over [] → c.total ≡ (bus c.until c.others, c.told ++ news)
  whole a = by a.log a.frames a.ends a.is
    where
      by : (log : Log) → frames_in log ≡ [] → end_of a.time log ≡ c.until → heard_on c.most (bus a.time c.others) c.iface log (c.told ++ news) ≡ c.total → c.total ≡ (bus c.until c.others, c.told ++ news)
      by [] frames ends is = sym is ∙ ap (λ t. (bus t c.others, c.told ++ news)) ends
      by (g ∷ gs) frames ends is = absurd cc
