-- The destination takes a frame of the sender, or takes it again.
use Rattle.std.proofs.Common.{inl, inr, ◌≡◌, ℕ, zero, suc, ◌+◌, ◌<◌, ◌≤◌, Bool, true, cond, List, [], ◌∷◌, ◌++◌, length, take, Option, Some, None, refl, sym, ap, ◌∙◌, subst, arith}
use Rattle.std.specs.Prelude.{All}
use Rattle.std.proofs.lemmas.List.{map-append, length-map}
use Rattle.std.proofs.lemmas.List.Elements.{All-head, All-tail}
use Rattle.pgn_ids.specs.Pgn.{clean}
use Rattle.pgn_ids.specs.declared.address.Address.{Address}
use Rattle.tp_wire.specs.declared.wire.Kind.{Kind}
use Rattle.tp_wire.specs.declared.wire.Kind.TheVariants.{Tp, Etp}
use Rattle.tp_wire.specs.declared.wire.CmFrame.TheVariants.{Rts, EtpRts, EtpDpo}
use Rattle.tp_wire.specs.declared.wire.Wire.{Wire}
use Rattle.tp_wire.specs.declared.wire.Wire.TheVariants.{Cm, Packet, Request}
use Rattle.responder.specs.Peer.{Peer}
use Rattle.responder.specs.Readers.{unfinished_of}
use Rattle.responder.specs.declared.in_state.InState.{InState}
use Rattle.session_table.specs.declared.incoming.Incoming.{Incoming}
use Rattle.session_table.specs.declared.incoming.Incoming.TheVariants as incoming
use Rattle.segment_law.specs.Told as told
use Rattle.record_law.proofs.Lists.{each_weaker, Each}
use Rattle.lane_law.specs.Message.{Message}
use Rattle.lane_law.specs.Choice.{IsChoice}
use Rattle.lane_law.specs.Frame.{Frame, Rts as Begins, Dpo, Packet as Data, Request as Asks, Place}
use Rattle.lane_law.specs.Session.{Session, Given, new_session}
use Rattle.lane_law.specs.Stream.{IsOfReached}
use Rattle.lane_law.specs.Lane as machine
use Rattle.lane_law.specs.Lane.{Reopens, Replies}
use Rattle.broadcast_law.proofs.Pending.{within}
use Rattle.broadcast_law.proofs.View.{plain}
use Rattle.connection_law.proofs.Frames.{Back, BackEnd, BackAck}
use Rattle.connection_law.proofs.View.{Laws, Mark, Has, IsMarked, View, kind_of, token_of, IsShown, shape, IsHeardAs, IsSame, of_kind, Still}
use Rattle.connection_law.proofs.Moves.{IsPlain, Taken, carries_else, ends}
use Rattle.connection_law.proofs.Follows.{Left, Goes, Whole, Gone}

-- another session of a kind
abbrev pub Real : Type 0
Real = Option (List ℕ × Incoming)

abbrev pub tp_with : Kind → (new old : Real) → Real
tp_with Tp new old = new
tp_with Etp new old = old

abbrev pub etp_with : Kind → (new old : Real) → Real
etp_with Tp new old = old
etp_with Etp new old = new

abbrev pub with_kind : Kind → Real → View → View
with_kind kind new v = record v { tp = tp_with kind new v.tp; etp = etp_with kind new v.etp }

pub of_kind_with : (kind : Kind) (new tp etp : Real) → of_kind kind (tp_with kind new tp) (etp_with kind new etp) ≡ new
of_kind_with Tp new tp etp = refl
of_kind_with Etp new tp etp = refl

-- the mark of a kind is another one
abbrev pub marked : Kind → Mark → (Kind → Mark) → Kind → Mark
marked Tp n opened Tp = n
marked Tp n opened Etp = opened Etp
marked Etp n opened Tp = opened Tp
marked Etp n opened Etp = n

marked_here : (kind : Kind) (n : Mark) (opened : Kind → Mark) → marked kind n opened kind ≡ n
marked_here Tp n opened = refl
marked_here Etp n opened = refl

-- of a session that is asked for now
abbrev pub mark_of : (count pgn size : ℕ) → (found : List ℕ) → Mark
mark_of count pgn size found = record { count = count; pgn = pgn; size = size; found = found; due = found }

pub each_has : (xs : List ℕ) → Each (Has xs) xs
each_has [] = tt
each_has (x ∷ xs) = (inl refl, each_weaker (Has xs) (Has (x ∷ xs)) (λ y h. inr h) xs (each_has xs))

-- what the step of a session leaves, answers and tells
abbrev pub left_of : List ℕ → Left → Real
left_of set (Goes i) = Some (set, i)
left_of set (Whole m) = None
left_of set Gone = None

abbrev pub back_of : (room : Bool) → Left → List Back
back_of room (Goes i) = []
back_of room (Whole m) = cond room (BackEnd ∷ []) []
back_of room Gone = []

abbrev pub told_of : (room : Bool) → Left → List told.Message
told_of room (Goes i) = []
told_of room (Whole m) = cond room ((clean m.peer.pgn, m.bytes) ∷ []) []
told_of room Gone = []

-- and to whom
abbrev pub ports_of : List ℕ → (room : Bool) → Left → List ℕ
ports_of set room (Goes i) = []
ports_of set room (Whole m) = cond room set []
ports_of set room Gone = []

abbrev pub settled_view : View → Kind → List ℕ → (room : Bool) → Left → View
settled_view v kind set room left = record (with_kind kind (left_of set left) v) { answers = v.answers ++ back_of room left; given = v.given ++ told_of room left }

-- What a frame is that is shown

pub record ShowsPacket (p : Place) (g : Frame) (kind : Kind) (k : ℕ) (bytes : List ℕ) : Type 0 where
  pub frame : g ≡ Data k bytes
  pub kind_is : kind_of p.message ≡ kind

pub packet_shown : (p : Place) (g : Frame) (kind : Kind) (k : ℕ) (bytes : List ℕ) → IsShown p g (Packet kind k bytes) → ShowsPacket p g kind k bytes
packet_shown p (Begins n m) kind k bytes h = absurd h
packet_shown p (Dpo o) kind k bytes h = absurd h
packet_shown p (Data j b) kind k bytes h = record { frame = λ i. Data (sym h.1 i) (sym h.2 i); kind_is = sym h.0 }
packet_shown p (Asks t) kind k bytes h = absurd h

pub record ShowsDpo (p : Place) (g : Frame) (offset pgn : ℕ) : Type 0 where
  pub frame : g ≡ Dpo offset
  pub kind_is : kind_of p.message ≡ Etp
  pub offset_is : p.offset ≡ offset
  pub pgn_is : pgn ≡ p.message.pgn

pub dpo_shown : (p : Place) (g : Frame) (packets offset pgn : ℕ) → IsShown p g (Cm (EtpDpo packets offset pgn)) → ShowsDpo p g offset pgn
dpo_shown p (Begins n m) packets offset pgn h = absurd h
dpo_shown p (Dpo o) packets offset pgn h = record { frame = ap Dpo (sym h.1); kind_is = h.0; offset_is = h.2 ∙ sym h.1; pgn_is = h.3 }
dpo_shown p (Data j b) packets offset pgn h = absurd h
dpo_shown p (Asks t) packets offset pgn h = absurd h

record ShowsRts (p : Place) (g : Frame) (kind : Kind) (size pgn : ℕ) : Type 0 where
  number : ℕ
  message : Message
  frame : g ≡ Begins number message
  kind_is : kind_of message ≡ kind
  place : p.message ≡ message
  size_is : size ≡ length message.bytes
  pgn_is : pgn ≡ message.pgn

rts_shown : (p : Place) (g : Frame) (size packets most pgn : ℕ) → IsShown p g (Cm (Rts size packets most pgn)) → ShowsRts p g Tp size pgn
rts_shown p (Begins n m) size packets most pgn h = record { number = n; message = m; frame = refl; kind_is = h.0; place = h.1; size_is = h.2; pgn_is = h.3 }
rts_shown p (Dpo o) size packets most pgn h = absurd h
rts_shown p (Data j b) size packets most pgn h = absurd h
rts_shown p (Asks t) size packets most pgn h = absurd h

etp_rts_shown : (p : Place) (g : Frame) (size pgn : ℕ) → IsShown p g (Cm (EtpRts size pgn)) → ShowsRts p g Etp size pgn
etp_rts_shown p (Begins n m) size pgn h = record { number = n; message = m; frame = refl; kind_is = h.0; place = h.1; size_is = h.2; pgn_is = h.3 }
etp_rts_shown p (Dpo o) size pgn h = absurd h
etp_rts_shown p (Data j b) size pgn h = absurd h
etp_rts_shown p (Asks t) size pgn h = absurd h

request_shown : (p : Place) (g : Frame) (pgn : ℕ) → IsShown p g (Request pgn) → (t : Bool) × (g ≡ Asks t) × (pgn ≡ token_of t)
request_shown p (Begins n m) pgn h = absurd h
request_shown p (Dpo o) pgn h = absurd h
request_shown p (Data j b) pgn h = absurd h
request_shown p (Asks t) pgn h = (t, refl, h)

pub all_last : (P : Given → Type 0) (xs : List Given) (y : Given) → All P (xs ++ y ∷ []) → P y
all_last P [] y h = All-head P y [] h
all_last P (x ∷ xs) y h = all_last P xs y (All-tail P x (xs ++ y ∷ []) h)

module _ (laws : Laws) (choose : machine.OnEachLane (λ lane. IsChoice lane.stream.given lane.stream.sent)) (s d : Address) where
  -- nothing changes: where no session is
  pub stays : (v : View) (l : machine.Lane) (w : Wire) (t : Taken laws s d l v w) → IsPlain t.frame → Still s d l v
  stays v l w t p = record { lane = t.lane; sim = record { carries = t.carries; session = t.heard p }; given = t.given }

  -- it ends, or doesn't open
  pub drops : (v : View) (l : machine.Lane) (w : Wire) (kind : Kind) (t : Taken laws s d l v w) → kind_of t.lane.stream.reached.message ≡ kind → Still s d l (with_kind kind None v)
  drops v l w kind t e =
      let r : Still s d t.lane (with_kind kind None v) = ends laws s d (with_kind kind None v) t.lane (carries_else laws s d v t.lane (tp_with kind None v.tp) (etp_with kind None v.etp) v.opened t.carries)
      (ap (λ k. of_kind k (tp_with kind None v.tp) (etp_with kind None v.etp)) e ∙ of_kind_with kind None v.tp v.etp) in
      record { lane = r.lane; sim = r.sim; given = r.given ∙ t.given }

  -- An RTS

  abbrev IsFresh : ℕ → Incoming → Type 0
  IsFresh pgn i = (x : Session) → x.pgn ≡ pgn → x.accepted ≡ 0 → x.offset ≡ 0 → x.collected ≡ [] → IsSame s d i x

  opens_session : (v : View) (l : machine.Lane) (w : Wire) (kind : Kind) (size pgn : ℕ) (set : List ℕ) (i : Incoming) (t : Taken laws s d l v w) → ShowsRts t.lane.stream.reached t.frame kind size pgn → 0 < length set
      → ((x : Session) → x.pgn ≡ pgn → x.size ≡ size → x.accepted ≡ 0 → x.offset ≡ 0 → x.collected ≡ [] → IsSame s d i x)
      → Still s d l (record (with_kind kind (Some (set, i)) v) { opened = marked kind (mark_of (length v.sent) pgn size set) v.opened })
  opens_session v l w kind size pgn set i t r some fresh = record {
    lane = next;
    sim = record {
      carries = record { reached = reached; good = t.carries.good; sent = t.carries.sent; given = t.carries.given; forward = t.carries.forward; again = t.carries.again; answers = t.carries.answers; heard = t.carries.heard; sender = t.carries.sender; ended = t.carries.ended };
      session = subst (λ k. IsHeardAs (IsSame s d) (marked kind mark v.opened k) (of_kind k (tp_with kind (Some (set, i)) v.tp) (etp_with kind (Some (set, i)) v.etp)) (Some x)) (sym kind_is)
          (subst (λ o. IsHeardAs (IsSame s d) (marked kind mark v.opened kind) o (Some x)) (sym (of_kind_with kind (Some (set, i)) v.tp v.etp))
          (some, subst (λ m. IsMarked m set x.number x.pgn x.size) (sym (marked_here kind mark v.opened)) (within_sent, sym r.pgn_is, sym r.size_is, some, each_has set), fresh x (sym r.pgn_is) (sym r.size_is) refl refl refl));
    };
    given = t.given;
  }
    where
      x : Session
      x = new_session r.number r.message

      mark : Mark
      mark = mark_of (length v.sent) pgn size set

      next : machine.Lane
      next = machine.after (Reopens r.number r.message) t.lane

      reached : machine.IsReached true next
      reached = laws.goes_on true t.lane (Reopens r.number r.message) t.carries.reached (t.again ∙ ap (λ (f : Frame). f ∷ []) r.frame)

      kind_is : kind_of t.lane.stream.reached.message ≡ kind
      kind_is = ap kind_of r.place ∙ r.kind_is

      of_it : IsOfReached next.stream x
      of_it = laws.session true next reached x refl

      within_sent : r.number ≤ length v.sent
      within_sent =
          let w : t.lane.stream.reached.number ≤ length t.lane.stream.sent = within t.lane.stream.sent t.lane.stream.reached.number t.lane.stream.reached.message of_it.was_sent in
          let n : r.number ≡ t.lane.stream.reached.number = of_it.number in
          let e : length v.sent ≡ length t.lane.stream.sent = ap (λ (xs : List told.Message). length xs) t.carries.sent ∙ length-map t.lane.stream.sent plain in
          omega (arith, w, n, e)

  nothing : (n : ℕ) → [] ≡ take {A = ℕ} n []
  nothing zero = refl
  nothing (suc n) = refl

  opens_with : (v : View) (l : machine.Lane) (w : Wire) (kind : Kind) (size pgn : ℕ) (set : List ℕ) (u : InState) (t : Taken laws s d l v w) → ShowsRts t.lane.stream.reached t.frame kind size pgn → 0 < length set
      → (unfinished_of u).peer ≡ record { from = s.0; to = d.0; pgn = pgn } → (unfinished_of u).join.size ≡ size → (unfinished_of u).join.next ≡ 1 → (unfinished_of u).join.bytes ≡ [] → (unfinished_of u).offset ≡ 0
      → Still s d l (record (with_kind kind (Some (set, incoming.Connection u)) v) { opened = marked kind (mark_of (length v.sent) pgn size set) v.opened })
  opens_with v l w kind size pgn set u t r some peer is_size next bytes offset = opens_session v l w kind size pgn set (incoming.Connection u) t r some
      (λ x p z a o c. (
        record { from = ap (λ (q : Peer). q.from) peer; to = ap (λ (q : Peer). q.to) peer; pgn = ap (λ (q : Peer). q.pgn) peer ∙ sym p },
        record { size = is_size ∙ sym z; next = next ∙ ap (λ n. n + 1) (sym a); bytes = bytes ∙ nothing x.size ∙ ap (take x.size) (sym c) },
        offset ∙ sym o,
      ))

  pub opens_tp : (v : View) (l : machine.Lane) (size packets most pgn : ℕ) (set : List ℕ) (u : InState) → Taken laws s d l v (Cm (Rts size packets most pgn)) → 0 < length set
      → (unfinished_of u).peer ≡ record { from = s.0; to = d.0; pgn = pgn } → (unfinished_of u).join.size ≡ size → (unfinished_of u).join.next ≡ 1 → (unfinished_of u).join.bytes ≡ [] → (unfinished_of u).offset ≡ 0
      → Still s d l (record v { tp = Some (set, incoming.Connection u); opened = marked Tp (mark_of (length v.sent) pgn size set) v.opened })
  opens_tp v l size packets most pgn set u t = opens_with v l (Cm (Rts size packets most pgn)) Tp size pgn set u t (rts_shown t.lane.stream.reached t.frame size packets most pgn t.shows)

  pub opens_etp : (v : View) (l : machine.Lane) (size pgn : ℕ) (set : List ℕ) (u : InState) → Taken laws s d l v (Cm (EtpRts size pgn)) → 0 < length set
      → (unfinished_of u).peer ≡ record { from = s.0; to = d.0; pgn = pgn } → (unfinished_of u).join.size ≡ size → (unfinished_of u).join.next ≡ 1 → (unfinished_of u).join.bytes ≡ [] → (unfinished_of u).offset ≡ 0
      → Still s d l (record v { etp = Some (set, incoming.Connection u); opened = marked Etp (mark_of (length v.sent) pgn size set) v.opened })
  opens_etp v l size pgn set u t = opens_with v l (Cm (EtpRts size pgn)) Etp size pgn set u t (etp_rts_shown t.lane.stream.reached t.frame size pgn t.shows)

  -- where it doesn't open
  pub refuses_tp : (v : View) (l : machine.Lane) (size packets most pgn : ℕ) → Taken laws s d l v (Cm (Rts size packets most pgn)) → Still s d l (record v { tp = None })
  refuses_tp v l size packets most pgn t =
      let r : ShowsRts t.lane.stream.reached t.frame Tp size pgn = rts_shown t.lane.stream.reached t.frame size packets most pgn t.shows in
      drops v l (Cm (Rts size packets most pgn)) Tp t (ap kind_of r.place ∙ r.kind_is)

  pub refuses_etp : (v : View) (l : machine.Lane) (size pgn : ℕ) → Taken laws s d l v (Cm (EtpRts size pgn)) → Still s d l (record v { etp = None })
  refuses_etp v l size pgn t =
      let r : ShowsRts t.lane.stream.reached t.frame Etp size pgn = etp_rts_shown t.lane.stream.reached t.frame size pgn t.shows in
      drops v l (Cm (EtpRts size pgn)) Etp t (ap kind_of r.place ∙ r.kind_is)

  -- A Request

  pub replies : (v : View) (l : machine.Lane) (pgn : ℕ) → Taken laws s d l v (Request pgn) → Still s d l (record v { answers = v.answers ++ BackAck pgn ∷ [] })
  replies v l pgn t = by (request_shown t.lane.stream.reached t.frame pgn t.shows)
    where
      by : (b : Bool) × (t.frame ≡ Asks b) × (pgn ≡ token_of b) → Still s d l (record v { answers = v.answers ++ BackAck pgn ∷ [] })
      by (b, e, p) = record {
        lane = machine.after (Replies b) t.lane;
        sim = record {
          carries = record {
            reached = laws.goes_on true t.lane (Replies b) t.carries.reached (t.again ∙ ap (λ (f : Frame). f ∷ []) e);
            good = t.carries.good;
            sent = t.carries.sent;
            given = t.carries.given;
            forward = t.carries.forward;
            again = t.carries.again;
            answers = (λ i. t.carries.answers i ++ BackAck (p i) ∷ []) ∙ sym (map-append shape t.lane.answers (machine.Acknowledgement b ∷ []));
            heard = t.carries.heard;
            sender = t.carries.sender;
            ended = t.carries.ended;
          };
          session = t.heard (subst IsPlain (sym e) tt);
        };
        given = t.given;
      }
