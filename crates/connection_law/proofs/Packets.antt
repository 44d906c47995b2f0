-- The destination takes a packet or a DPO, or the timer of its session fires.
use Rattle.std.proofs.Common.{◌≡◌, inl, inr, ℕ, ◌+◌, ◌-◌, ◌<◌, Bool, true, false, List, [], ◌∷◌, ◌++◌, length, Option, Some, None, refl, sym, ap, ◌∙◌, subst, append-nil}
use Rattle.std.proofs.lemmas.List.{map-append}
use Rattle.std.proofs.lemmas.Option.{same_Some}
use Rattle.pgn_ids.specs.Pgn.{clean}
use Rattle.pgn_ids.specs.declared.address.Address.{Address}
use Rattle.tp_wire.specs.declared.wire.Kind.{Kind}
use Rattle.tp_wire.specs.declared.wire.Kind.TheVariants.{Etp}
use Rattle.tp_wire.specs.declared.wire.CmFrame.TheVariants.{EtpDpo}
use Rattle.tp_wire.specs.declared.wire.Wire.{Wire}
use Rattle.tp_wire.specs.declared.wire.Wire.TheVariants.{Cm, Packet}
use Rattle.responder.specs.Finished.{Finished}
use Rattle.session_table.specs.declared.incoming.Incoming.{Incoming}
use Rattle.lane_law.specs.Message.{Message, IsSent}
use Rattle.lane_law.specs.Choice.{IsChoice}
use Rattle.lane_law.specs.Frame.{Frame, Packet as Data}
use Rattle.lane_law.specs.Session.{Session, Given, with_packet, given_of}
use Rattle.lane_law.specs.Stream.{IsOfReached}
use Rattle.lane_law.specs.Lane as machine
use Rattle.lane_law.specs.Lane.{Accepts, Gives}
use Rattle.broadcast_law.proofs.View.{cleaned}
use Rattle.connection_law.proofs.Frames.{BackEnd}
use Rattle.connection_law.proofs.View.{Laws, IsMarked, View, kind_of, shape, IsHeardAs, IsSame, IsAlmost, of_kind, Carries, Still, Next, next_still}
use Rattle.connection_law.proofs.Moves.{IsPlain, Taken, carries_else}
use Rattle.connection_law.proofs.Follows.{Left, Goes, Whole, Gone, Follows, Keeps, IsWhole}
use Rattle.connection_law.proofs.Receiver.{Real, tp_with, etp_with, with_kind, of_kind_with, ports_of, settled_view, ShowsPacket, packet_shown, ShowsDpo, dpo_shown, all_last, drops}

-- nothing more is answered or told
pub settled_none : (v : View) (kind : Kind) (new : Real) → record (with_kind kind new v) { answers = v.answers ++ []; given = v.given ++ [] } ≡ with_kind kind new v
settled_none v kind new = λ i. (let w : View = record (with_kind kind new v) { answers = append-nil v.answers i; given = append-nil v.given i } in w)

module _ (laws : Laws) (choose : machine.OnEachLane (λ lane. IsChoice lane.stream.given lane.stream.sent)) (s d : Address) where
  -- the session of a kind is another one, which the machine's session stands for
  goes_on_as : (v : View) (l0 l : machine.Lane) (kind : Kind) (set : List ℕ) (i : Incoming) (x : Session) → l.stream.given ≡ l0.stream.given → Carries s d v l → kind_of l.stream.reached.message ≡ kind → l.stream.session ≡ Some x → 0 < length set → IsMarked (v.opened kind) set x.number x.pgn x.size → IsSame s d i x → Still s d l0 (with_kind kind (Some (set, i)) v)
  goes_on_as v l0 l kind set i x g h e is some early same = record {
    lane = l;
    sim = record {
      carries = carries_else laws s d v l (tp_with kind (Some (set, i)) v.tp) (etp_with kind (Some (set, i)) v.etp) v.opened h;
      session = subst (λ k. IsHeardAs (IsSame s d) (v.opened k) (of_kind k (tp_with kind (Some (set, i)) v.tp) (etp_with kind (Some (set, i)) v.etp)) l.stream.session) (sym e)
          (subst (λ o. IsHeardAs (IsSame s d) (v.opened kind) o l.stream.session) (sym (of_kind_with kind (Some (set, i)) v.tp v.etp))
          (subst (λ o. IsHeardAs (IsSame s d) (v.opened kind) (Some (set, i)) o) (sym is) (some, early, same)));
    };
    given = g;
  }

  module _ (v : View) (l : machine.Lane) (w : Wire) (kind : Kind) (t : Taken laws s d l v w) (e : kind_of t.lane.stream.reached.message ≡ kind) (set : List ℕ) (x : Session) (is : t.lane.stream.session ≡ Some x) (some : 0 < length set) (early : IsMarked (v.opened kind) set x.number x.pgn x.size) where
    -- nothing is accepted
    pub keeps : (prog : Left) (room : Bool) → Keeps s d x prog → Next s d (ports_of set room prog) l (settled_view v kind set room prog)
    keeps (Goes i) room k = next_still s d l (settled_view v kind set room (Goes i))
        (subst (Still s d l) (sym (settled_none v kind (Some (set, i)))) (goes_on_as v l t.lane kind set i x t.given t.carries e is some early k))
    keeps (Whole m) room k = absurd k
    keeps Gone room k = next_still s d l (settled_view v kind set room Gone)
        (subst (Still s d l) (sym (settled_none v kind None)) (drops laws choose s d v l w kind t e))

    module _ (k : ℕ) (bytes : List ℕ) (a : t.lane.stream.again ≡ Data k bytes ∷ []) where
      accepts : (i : Incoming) → x.offset + k ≡ x.accepted + 1 → IsSame s d i (with_packet x bytes) → Still s d l (with_kind kind (Some (set, i)) v)
      accepts i n same =
          let next : machine.Lane = machine.after (Accepts x k bytes) t.lane in
          let carries : Carries s d v next = record { reached = laws.goes_on true t.lane (Accepts x k bytes) t.carries.reached (a, is, n); good = t.carries.good; sent = t.carries.sent; given = t.carries.given; forward = t.carries.forward; again = t.carries.again; answers = t.carries.answers; heard = t.carries.heard; sender = t.carries.sender; ended = t.carries.ended } in
          goes_on_as v l next kind set i (with_packet x bytes) t.given carries e refl some early same

      gives : (m : Finished) → x.offset + k ≡ x.accepted + 1 → x.accepted + 1 ≡ Rattle.seg_cut.specs.Packets.packet_count x.size → IsWhole s d m x bytes
          → Next s d set l (record (with_kind kind None v) { answers = v.answers ++ BackEnd ∷ []; given = v.given ++ (clean m.peer.pgn, m.bytes) ∷ [] })
      gives m n last is_whole = record {
        lane = next;
        sim = record {
          carries = record {
            reached = reached;
            good = t.carries.good;
            sent = t.carries.sent;
            given = (λ i. t.carries.given i ++ (clean (is_whole.peer.pgn i), is_whole.bytes_are i) ∷ []) ∙ sym (map-append cleaned t.lane.stream.given (given_of x bytes ∷ []));
            forward = t.carries.forward;
            again = t.carries.again;
            answers = (λ i. t.carries.answers i ++ BackEnd ∷ []) ∙ sym (map-append shape t.lane.answers (machine.EndAcknowledgement x.number ∷ []));
            heard = t.carries.heard;
            sender = t.carries.sender;
            ended = t.carries.ended;
          };
          session = subst (λ q. IsHeardAs (IsSame s d) (v.opened q) (of_kind q (tp_with kind None v.tp) (etp_with kind None v.etp)) None) (sym e)
              (subst (λ o. IsHeardAs (IsSame s d) (v.opened kind) o None) (sym (of_kind_with kind None v.tp v.etp)) tt);
        };
        more = given_of x bytes ∷ [];
        given = ap (λ gs. gs ++ given_of x bytes ∷ []) t.given;
        marked = (subst (λ q. IsMarked (v.opened q) set x.number x.pgn (length (given_of x bytes).message.bytes)) (sym kind_given) (subst (λ n. IsMarked (v.opened kind) set x.number x.pgn n) size_given early), tt);
      }
        where
          next : machine.Lane
          next = machine.after (Gives x k bytes) t.lane

          reached : machine.IsReached true next
          reached = laws.goes_on true t.lane (Gives x k bytes) t.carries.reached ((a, is, n), last)

          of_it : IsOfReached t.lane.stream x
          of_it = laws.session true t.lane t.carries.reached x is

          was_sent : IsSent t.lane.stream.sent x.number (given_of x bytes).message
          was_sent = all_last (λ (g : Given). IsSent t.lane.stream.sent g.number g.message) t.lane.stream.given (given_of x bytes) (choose true next reached).as_sent

          message_is : (given_of x bytes).message ≡ t.lane.stream.reached.message
          message_is = same_Some (given_of x bytes).message t.lane.stream.reached.message (sym was_sent.1 ∙ ap (λ n. Rattle.std.specs.Prelude.slice_get t.lane.stream.sent (n - 1)) of_it.number ∙ of_it.was_sent.1)

          size_given : x.size ≡ length (given_of x bytes).message.bytes
          size_given = of_it.size ∙ ap (λ (z : Message). length z.bytes) (sym message_is)

          kind_given : kind_of (given_of x bytes).message ≡ kind
          kind_given = ap kind_of message_is ∙ e

      pub follows : (prog : Left) (room : Bool) → Follows s d x k bytes prog → Next s d (ports_of set room prog) l (settled_view v kind set room prog)
      follows (Goes i) room (inl same) = keeps (Goes i) room same
      follows (Goes i) room (inr q) = next_still s d l (settled_view v kind set room (Goes i)) (subst (Still s d l) (sym (settled_none v kind (Some (set, i)))) (accepts i q.0 q.1))
      follows (Whole m) true f = gives m f.0 f.1 f.2
      follows (Whole m) false f = next_still s d l (settled_view v kind set false (Whole m))
          (subst (Still s d l) (sym (settled_none v kind None)) (drops laws choose s d v l w kind t e))
      follows Gone room f = keeps Gone room tt

  -- A packet, where there is a session of its kind

  pub packet_heard : (v : View) (l : machine.Lane) (kind : Kind) (k : ℕ) (bytes : List ℕ) (t : Taken laws s d l v (Packet kind k bytes)) (set : List ℕ) (i : Incoming) → of_kind kind v.tp v.etp ≡ Some (set, i)
      → (prog : Left) (room : Bool) → ((x : Session) → IsSame s d i x → Follows s d x k bytes prog) → Next s d (ports_of set room prog) l (settled_view v kind set room prog)
  packet_heard v l kind k bytes t set i is prog room follow = by t.lane.stream.session refl (subst (λ o. IsHeardAs (IsSame s d) (v.opened kind) o t.lane.stream.session) is (subst (λ q. IsHeardAs (IsSame s d) (v.opened q) (of_kind q v.tp v.etp) t.lane.stream.session) shown.kind_is (t.heard (subst IsPlain (sym shown.frame) tt))))
    where
      shown : ShowsPacket t.lane.stream.reached t.frame kind k bytes
      shown = packet_shown t.lane.stream.reached t.frame kind k bytes t.shows

      by : (o : Option Session) → t.lane.stream.session ≡ o → IsHeardAs (IsSame s d) (v.opened kind) (Some (set, i)) o → Next s d (ports_of set room prog) l (settled_view v kind set room prog)
      by None e h = absurd h
      by (Some x) e h = follows v l (Packet kind k bytes) kind t shown.kind_is set x e h.0 h.1 k bytes (t.again ∙ ap (λ (f : Frame). f ∷ []) shown.frame) prog room (follow x h.2)

  -- where there is none
  pub packet_unheard : (v : View) (l : machine.Lane) (kind : Kind) (k : ℕ) (bytes : List ℕ) → Taken laws s d l v (Packet kind k bytes) → Still s d l v
  packet_unheard v l kind k bytes t =
      let shown : ShowsPacket t.lane.stream.reached t.frame kind k bytes = packet_shown t.lane.stream.reached t.frame kind k bytes t.shows in
      Rattle.connection_law.proofs.Receiver.stays laws choose s d v l (Packet kind k bytes) t (subst IsPlain (sym shown.frame) tt)

  -- A DPO

  module _ (v : View) (l : machine.Lane) (packets offset pgn : ℕ) (t : Taken laws s d l v (Cm (EtpDpo packets offset pgn))) where
    shown : ShowsDpo t.lane.stream.reached t.frame offset pgn
    shown = dpo_shown t.lane.stream.reached t.frame packets offset pgn t.shows

    almost : IsHeardAs (IsAlmost s d) (v.opened Etp) v.etp t.lane.stream.session
    almost = subst (λ q. IsHeardAs (IsAlmost s d) (v.opened q) (of_kind q v.tp v.etp) t.lane.stream.session) shown.kind_is (t.offset offset shown.frame)

    pub dpo_heard : (set : List ℕ) (i : Incoming) → v.etp ≡ Some (set, i) → (prog : Left) (room : Bool) → ((x : Session) → IsAlmost s d i x → offset ≡ x.offset → pgn ≡ x.pgn → Keeps s d x prog) → Next s d (ports_of set room prog) l (settled_view v Etp set room prog)
    dpo_heard set i is prog room keep = by t.lane.stream.session refl (subst (λ o. IsHeardAs (IsAlmost s d) (v.opened Etp) o t.lane.stream.session) is almost)
      where
        by : (o : Option Session) → t.lane.stream.session ≡ o → IsHeardAs (IsAlmost s d) (v.opened Etp) (Some (set, i)) o → Next s d (ports_of set room prog) l (settled_view v Etp set room prog)
        by None e h = absurd h
        by (Some x) e h =
            let of_it : IsOfReached t.lane.stream x = laws.session true t.lane t.carries.reached x e in
            keeps v l (Cm (EtpDpo packets offset pgn)) Etp t shown.kind_is set x e h.0 h.1 prog room (keep x h.2 (sym shown.offset_is ∙ sym of_it.offset) (shown.pgn_is ∙ sym of_it.pgn))

    pub dpo_unheard : v.etp ≡ None → Still s d l v
    dpo_unheard is = by t.lane.stream.session refl (subst (λ o. IsHeardAs (IsAlmost s d) (v.opened Etp) o t.lane.stream.session) is almost)
      where
        by : (o : Option Session) → t.lane.stream.session ≡ o → IsHeardAs (IsAlmost s d) (v.opened Etp) None o → Still s d l v
        by None e h = record {
          lane = t.lane;
          sim = record {
            carries = t.carries;
            session = subst (λ q. IsHeardAs (IsSame s d) (v.opened q) (of_kind q v.tp v.etp) t.lane.stream.session) (sym shown.kind_is)
                (subst (λ o. IsHeardAs (IsSame s d) (v.opened Etp) o t.lane.stream.session) (sym is) (subst (λ o. IsHeardAs (IsSame s d) (v.opened Etp) None o) (sym e) tt));
          };
          given = t.given;
        }
        by (Some x) e h = absurd h
