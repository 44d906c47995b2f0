-- A message to all is heard.
use Rattle.std.proofs.Common.{◌≡◌, ℕ, suc, ◌+◌, ◌-◌, ◌≤◌, List, [], ◌∷◌, ◌++◌, true, cond, map, length, None, refl, sym, ap, ◌∙◌, subst, arith}
use Rattle.std.specs.List.{range_with_len}
use Rattle.std.proofs.lemmas.List.{append-nil}
use Rattle.bus_frame.specs.Frames.{CanFrame}
use Rattle.log_fields.specs.declared.iface.Iface.{Iface}
use Rattle.pgn_ids.specs.Pgn.{clean}
use Rattle.pgn_ids.specs.declared.address.Address.{Address}
use Rattle.tp_wire.specs.Rows.{written}
use Rattle.tp_wire.specs.declared.constants.TheConstants.{TP_MAX_SIZE, ETP_MAX_SIZE}
use Rattle.tp_wire.specs.declared.wire.Kind.{Kind}
use Rattle.tp_wire.specs.declared.wire.Kind.TheVariants.{Tp}
use Rattle.tp_wire.specs.declared.wire.CmFrame.TheVariants.{Bam}
use Rattle.tp_wire.specs.declared.wire.Wire.TheVariants.{Cm, Packet}
use Rattle.seg_cut.specs.Packets.{packet_count, packet}
use Rattle.lane_core.specs.Lane.{kind_for}
use Rattle.lane_core.specs.declared.message.Pending.{Pending}
use Rattle.segment_law.specs.Quiet.{quiet, quiet_broadcast, quiet_connection, is_to_all}
use Rattle.log_decode.specs.Session.{opened}
use Rattle.log_decode.specs.Sessions.{session_at}
use Rattle.log_decode.specs.Decoder.{frame_taken, cm_frame_taken, wire_taken}
use Rattle.log_decode.specs.View.{Bus, State, bus_at}
use Rattle.log_reports.specs.declared.told.Told.{Told}
use Rattle.log_reports.specs.declared.told.Told.TheVariants.{Given}
use Rattle.decode_law.specs.Hearing.{Log, heard_all, frames_in, end_of, at_time, IsSendable, IsLogOf, IsHeard, kind_to}
use Rattle.decode_law.proofs.Steps.{Laws, Case, key_with, key, with_one, first_place, Stands, Over, begins, whole}
use Rattle.decode_law.proofs.Interfaces.{heard_on, listener, on_interface}
use Rattle.decode_law.proofs.Announcements.{tp_opens}
use Rattle.decode_law.proofs.Frames.{meaning}
use Rattle.decode_law.proofs.Walks.{packets_end}

module _ (laws : Laws) (m : Pending) (s d : Address) (h : IsSendable m s d) (to_all : is_to_all d ≡ true) where
  abbrev len : ℕ
  len = length m.bytes

  abbrev frames : ℕ → CanFrame
  frames k = written (Packet Tp k (packet m.bytes k)) s.0 d.0

  kind_is : kind_to m d ≡ Tp
  kind_is = ap (λ b. cond b Tp (kind_for len)) to_all

  short : len ≤ TP_MAX_SIZE
  short = subst (λ b. len ≤ cond b TP_MAX_SIZE ETP_MAX_SIZE) to_all h.most

  quiet_is : quiet m s d ≡ quiet_broadcast m s d
  unfolding quiet
  quiet_is = ap (λ b. cond b (quiet_broadcast m s d) (quiet_connection (kind_for len) m s d)) to_all

  module _ (l : State) (iface : Iface) (log : Log) (told : List Told) (g : IsLogOf (quiet m s d) l iface m s d log) where
    abbrev b : Bus
    b = bus_at iface l.buses

    abbrev c : Case
    c = record {
      m = m;
      s = s;
      d = d;
      kind = Tp;
      iface = iface;
      most = l.most;
      others = b.sessions;
      told = told;
      total = heard_on l.most b iface log told;
      until = end_of b.time log;
      sendable = h;
      carries = λ sequence bytes. h.destination;
      room = g.room;
      free = subst (λ kind. session_at (key_with iface s d kind) b.sessions ≡ None) kind_is g.free;
    }

    opens : (now : ℕ) → frame_taken iface (written (Cm (Bam len (packet_count len) m.pgn)) s.0 d.0) l.most now (b.sessions, told) ≡ (with_one laws c (opened (key laws c).transport m.pgn len now), told)
    unfolding wire_taken cm_frame_taken
    opens now =
        meaning laws c (Cm (Bam len (packet_count len) m.pgn)) s d now (b.sessions, told) (record { numbers = tt; widths = h.pgn; source = h.source; destination = to_all })
        ∙ tp_opens (key laws c) b.sessions told m.pgn len l.most now c.free g.room h.least short

    frames_are : frames_in log ≡ written (Cm (Bam len (packet_count len) m.pgn)) s.0 d.0 ∷ map frames (range_with_len 1 (packet_count len)) ++ []
    frames_are = g.frames_are ∙ quiet_is ∙ ap (λ fs. written (Cm (Bam len (packet_count len) m.pgn)) s.0 d.0 ∷ fs) (sym (append-nil (map frames (range_with_len 1 (packet_count len)))))

    stands : Stands laws c 1 (first_place Tp) (map frames (range_with_len 1 (packet_count len)) ++ [])
    stands =
        begins laws c (written (Cm (Bam len (packet_count len) m.pgn)) s.0 d.0) (map frames (range_with_len 1 (packet_count len)) ++ []) b.time log frames_are g.times g.others refl refl opens

    over : Over laws c []
    over =
        let n : ℕ = packet_count len - 1 in
        let some : packet_count len ≡ suc n = omega (arith, h.least) in
        let same : (i : ℕ) → 1 ≤ i → frames i ≡ written (Packet Tp i (packet m.bytes (0 + i))) s.0 d.0 = λ i from_first. (let e : i ≡ 0 + i = omega arith in ap (λ k. written (Packet Tp i (packet m.bytes k)) s.0 d.0) e) in
        packets_end laws c (first_place Tp) (packet_count len) (λ i up_to. refl) frames same n 1 [] (omega arith) (omega (arith, some)) (omega (arith, some)) (subst (λ k. Stands laws c 1 (first_place Tp) (map frames (range_with_len 1 k) ++ [])) some stands)

    heard : heard_all l iface log told ≡ (at_time l iface (end_of b.time log), told ++ Given (key_with iface s d (kind_to m d)) (clean m.pgn) m.bytes ∷ [])
    heard =
        on_interface iface l log told (written (Cm (Bam len (packet_count len) m.pgn)) s.0 d.0) (map frames (range_with_len 1 (packet_count len)) ++ []) frames_are
        ∙ ap (listener iface l) (whole laws c over)
        ∙ ap (λ (kind : Kind). (at_time l iface (end_of b.time log), told ++ Given (key_with iface s d kind) (clean m.pgn) m.bytes ∷ [])) (sym kind_is)

  pub broadcast_heard : IsHeard m s d
  broadcast_heard l iface log told g = heard l iface log told g
