-- A message to one node is heard.
use Rattle.std.proofs.Common.{◌≡◌, ℕ, ◌+◌, ◌<◌, ◌≤◌, ◌==◌, ◌||◌, List, [], ◌∷◌, ◌++◌, Bool, true, false, cond, length, None, refl, sym, ap, ◌∙◌, subst, arith}
use Rattle.std.specs.Prelude.{flat_map, nat_le}
use Rattle.std.proofs.lemmas.Bool.{leb-true, leb-false}
use Rattle.bus_frame.specs.Frames.{CanFrame}
use Rattle.log_fields.specs.declared.iface.Iface.{Iface}
use Rattle.pgn_ids.specs.Address.{is_one, global_address}
use Rattle.pgn_ids.specs.Pgn.{clean}
use Rattle.pgn_ids.specs.declared.address.Address.{Address}
use Rattle.tp_wire.specs.Rows.{written, goes_to}
use Rattle.tp_wire.specs.declared.constants.TheConstants.{TP_MAX_SIZE, ETP_MAX_SIZE}
use Rattle.tp_wire.specs.declared.wire.Kind.{Kind}
use Rattle.tp_wire.specs.declared.wire.Kind.TheVariants.{Tp, Etp}
use Rattle.tp_wire.specs.declared.wire.CmFrame.TheVariants.{Rts, EndOfMsgAck, EtpRts, EtpEoma}
use Rattle.tp_wire.specs.declared.wire.Wire.TheVariants.{Cm, Packet}
use Rattle.seg_cut.specs.Packets.{packet_count}
use Rattle.lane_core.specs.Lane.{kind_for}
use Rattle.lane_core.specs.declared.message.Pending.{Pending}
use Rattle.segment_law.specs.Quiet.{quiet, quiet_broadcast, quiet_connection, is_to_all, groups, tp_window, etp_window}
use Rattle.log_decode.specs.Session.{opened}
use Rattle.log_decode.specs.Sessions.{session_at}
use Rattle.log_decode.specs.Decoder.{frame_taken, cm_frame_taken, wire_taken}
use Rattle.log_decode.specs.View.{Bus, State, bus_at}
use Rattle.log_reports.specs.declared.told.Told.{Told}
use Rattle.log_reports.specs.declared.told.Told.TheVariants.{Given}
use Rattle.decode_law.specs.Hearing.{Log, heard_all, end_of, at_time, IsSendable, IsLogOf, IsHeard, kind_to}
use Rattle.decode_law.proofs.Steps.{Laws, Case, key_with, key, with_one, first_place, Stands, begins, passes, whole}
use Rattle.decode_law.proofs.Interfaces.{heard_on, listener, on_interface}
use Rattle.decode_law.proofs.Announcements.{tp_opens, etp_opens}
use Rattle.decode_law.proofs.Frames.{meaning}
use Rattle.decode_law.proofs.Managing.{ack_passes, etp_ack_passes}
use Rattle.decode_law.proofs.Windows.{tp_windows, etp_windows}
use Rattle.decode_law.proofs.Broadcasts.{broadcast_heard}

module _ (laws : Laws) (m : Pending) (s d : Address) (h : IsSendable m s d) (to_one : is_to_all d ≡ false) where
  abbrev len : ℕ
  len = length m.bytes

  own : is_one d.0 ≡ true
  own = by (is_one d.0) (d.0 == global_address) to_one h.destination
    where
      by : (a b : Bool) → b ≡ false → (a || b) ≡ true → a ≡ true
      by true b e f = refl
      by false b e f = absurd (let g : false ≡ true = sym e ∙ f in cc)

  most : len ≤ ETP_MAX_SIZE
  most = subst (λ b. len ≤ cond b TP_MAX_SIZE ETP_MAX_SIZE) to_one h.most

  quiet_is : (kind : Kind) → kind_for len ≡ kind → quiet m s d ≡ quiet_connection kind m s d
  unfolding quiet
  quiet_is kind is = (λ i. cond (to_one i) (quiet_broadcast m s d) (quiet_connection (is i) m s d))

  kind_is : (kind : Kind) → kind_for len ≡ kind → kind_to m d ≡ kind
  kind_is kind is = (λ i. cond (to_one i) Tp (is i))

  carried : (kind : Kind) (sequence : ℕ) (bytes : List ℕ) → goes_to (Packet kind sequence bytes) d.0 ≡ true
  carried Tp sequence bytes = h.destination
  carried Etp sequence bytes = own

  module _ (l : State) (iface : Iface) (log : Log) (told : List Told) (g : IsLogOf (quiet m s d) l iface m s d log) where
    abbrev b : Bus
    b = bus_at iface l.buses

    abbrev case_of : (kind : Kind) → kind_for len ≡ kind → Case
    case_of kind is = record {
      m = m;
      s = s;
      d = d;
      kind = kind;
      iface = iface;
      most = l.most;
      others = b.sessions;
      told = told;
      total = heard_on l.most b iface log told;
      until = end_of b.time log;
      sendable = h;
      carries = carried kind;
      room = g.room;
      free = subst (λ k. session_at (key_with iface s d k) b.sessions ≡ None) (kind_is kind is) g.free;
    }

    abbrev Hears : Kind → Type 0
    Hears kind = heard_all l iface log told ≡ (at_time l iface (end_of b.time log), told ++ Given (key_with iface s d kind) (clean m.pgn) m.bytes ∷ [])

    -- ---- TP

    module _ (is : kind_for len ≡ Tp) (short : len ≤ TP_MAX_SIZE) where
      abbrev c : Case
      c = case_of Tp is

      abbrev rts : CanFrame
      rts = written (Cm (Rts len (packet_count len) 255 m.pgn)) s.0 d.0

      abbrev ack : CanFrame
      ack = written (Cm (EndOfMsgAck len (packet_count len) m.pgn)) d.0 s.0

      opens : (now : ℕ) → frame_taken iface rts l.most now (b.sessions, told) ≡ (with_one laws c (opened (key laws c).transport m.pgn len now), told)
      unfolding wire_taken cm_frame_taken
      opens now =
          meaning laws c (Cm (Rts len (packet_count len) 255 m.pgn)) s d now (b.sessions, told) (record { numbers = tt; widths = h.pgn; source = h.source; destination = own })
          ∙ tp_opens (key laws c) b.sessions told m.pgn len l.most now c.free g.room h.least short

      stands : Stands laws c 1 (first_place Tp) (flat_map (tp_window m s d) (groups 16 (packet_count len)) ++ ack ∷ [])
      stands = begins laws c rts (flat_map (tp_window m s d) (groups 16 (packet_count len)) ++ ack ∷ []) b.time log (g.frames_are ∙ quiet_is Tp is) g.times g.others refl refl opens

      tp_heard : Hears Tp
      tp_heard =
          on_interface iface l log told rts (flat_map (tp_window m s d) (groups 16 (packet_count len)) ++ ack ∷ []) (g.frames_are ∙ quiet_is Tp is)
          ∙ ap (listener iface l) (whole laws c (passes laws c ack [] (λ now told. ack_passes laws c own refl len (packet_count len) now told) (tp_windows laws c own (omega (arith, h.least)) refl (ack ∷ []) stands)))

    -- ---- ETP

    module _ (is : kind_for len ≡ Etp) (long : TP_MAX_SIZE + 1 ≤ len) where
      abbrev ce : Case
      ce = case_of Etp is

      abbrev etp_rts : CanFrame
      etp_rts = written (Cm (EtpRts len m.pgn)) s.0 d.0

      abbrev etp_ack : CanFrame
      etp_ack = written (Cm (EtpEoma len m.pgn)) d.0 s.0

      etp_begins : (now : ℕ) → frame_taken iface etp_rts l.most now (b.sessions, told) ≡ (with_one laws ce (opened (key laws ce).transport m.pgn len now), told)
      unfolding wire_taken cm_frame_taken
      etp_begins now =
          meaning laws ce (Cm (EtpRts len m.pgn)) s d now (b.sessions, told) (record { numbers = tt; widths = h.pgn; source = h.source; destination = own })
          ∙ etp_opens (key laws ce) b.sessions told m.pgn len l.most now ce.free g.room long most

      etp_stands : Stands laws ce 1 (first_place Etp) (flat_map (etp_window m s d) (groups 64 (packet_count len)) ++ etp_ack ∷ [])
      etp_stands = begins laws ce etp_rts (flat_map (etp_window m s d) (groups 64 (packet_count len)) ++ etp_ack ∷ []) b.time log (g.frames_are ∙ quiet_is Etp is) g.times g.others refl refl etp_begins

      etp_heard : Hears Etp
      etp_heard =
          on_interface iface l log told etp_rts (flat_map (etp_window m s d) (groups 64 (packet_count len)) ++ etp_ack ∷ []) (g.frames_are ∙ quiet_is Etp is)
          ∙ ap (listener iface l) (whole laws ce (passes laws ce etp_ack [] (λ now told. etp_ack_passes laws ce own refl len now told) (etp_windows laws ce own (omega (arith, h.least)) refl (omega (arith, most)) (etp_ack ∷ []) etp_stands)))

    heard : Hears (kind_to m d)
    heard = by (nat_le len TP_MAX_SIZE) refl
      where
        by : (b : Bool) → nat_le len TP_MAX_SIZE ≡ b → Hears (kind_to m d)
        by true e = let is : kind_for len ≡ Tp = ap (λ b. cond b Tp Etp) e in subst Hears (sym (kind_is Tp is)) (tp_heard is (leb-true len TP_MAX_SIZE e))
        by false e =
            let is : kind_for len ≡ Etp = ap (λ b. cond b Tp Etp) e in
            let lt : TP_MAX_SIZE < len = leb-false len TP_MAX_SIZE e in
            subst Hears (sym (kind_is Etp is)) (etp_heard is (omega (arith, lt)))

  pub connection_heard : IsHeard m s d
  connection_heard l iface log told g = heard l iface log told g

pub message_heard : Laws → (m : Pending) (s d : Address) → IsSendable m s d → IsHeard m s d
message_heard laws m s d h = by (is_to_all d) refl
  where
    by : (b : Bool) → is_to_all d ≡ b → IsHeard m s d
    by true e = broadcast_heard laws m s d h e
    by false e = connection_heard laws m s d h e
