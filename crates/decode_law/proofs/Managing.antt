-- What each connection management frame of a message to one node does to the listener's message under way.
use Rattle.std.proofs.Common.{◌≡◌, ℕ, ◌<◌, ◌^◌, ◌==◌, List, true, Some, refl, sym, ap, ◌∙◌}
use Rattle.std.proofs.lemmas.Bool.{eq-eqb}
use Rattle.pgn_ids.specs.Address.{is_one}
use Rattle.pgn_ids.specs.Pgn.{clean}
use Rattle.tp_wire.specs.Rows.{written}
use Rattle.tp_wire.specs.declared.wire.Kind.TheVariants.{Tp, Etp}
use Rattle.tp_wire.specs.declared.wire.CmFrame.{CmFrame}
use Rattle.tp_wire.specs.declared.wire.CmFrame.TheVariants.{Cts, EndOfMsgAck, EtpCts, EtpDpo, EtpEoma}
use Rattle.tp_wire.specs.declared.wire.Wire.TheVariants.{Cm}
use Rattle.log_decode.specs.Session.{renewed, heard}
use Rattle.log_decode.specs.Sessions.{Heard, put, settled, cm_taken}
use Rattle.log_decode.specs.Decoder.{cm_frame_taken, wire_taken, frame_taken}
use Rattle.log_decode.specs.declared.session.Session.{Session}
use Rattle.log_reports.specs.declared.told.Told.{Told}
use Rattle.log_decode.proofs.AtKey.{by_session}
use Rattle.decode_law.proofs.Entries.{found, put_again}
use Rattle.decode_law.proofs.Steps.{Laws, Case, key, key_with, with_one, Place, IsGoing, Goes}
use Rattle.decode_law.proofs.Frames.{meaning}

module _ (laws : Laws) (c : Case) (own : is_one c.d.0 ≡ true) where
  module _ (next : ℕ) (place : Place) (time now : ℕ) (x : Session) (g : IsGoing laws c next place time x) where
    same : (clean c.m.pgn == clean x.pgn) ≡ true
    same = eq-eqb (clean c.m.pgn) (clean x.pgn) (ap clean (sym g.pgn))

    cm_found : (frame : CmFrame) (told : List Told) → cm_taken (key laws c) frame now (with_one laws c x, told)
        ≡ settled (key laws c) (heard x frame now).1 (put (key laws c) (heard x frame now).0 (with_one laws c x), told)
    cm_found frame told = ap (by_session (λ s. heard s frame now) (key laws c) (with_one laws c x, told)) (found (key laws c) c.others x c.free)

    again : (y : Session) (told : List Told) → ◌≡◌ {A = Heard} (put (key laws c) y (with_one laws c x), told) (with_one laws c y, told)
    again y told = ap (λ es. (es, told)) (put_again (key laws c) c.others x y c.free)

    abbrev seen : Session
    seen = renewed x now

    going_on : IsGoing laws c next place now seen
    going_on = record { pgn = g.pgn; offset_is = g.offset_is; window_is = g.window_is; heard_at_time = refl; front = g.front; next_is = g.next_is }

    pub cts_goes : c.kind ≡ Tp → (granted first : ℕ) → Goes laws c next place now (written (Cm (Cts granted first c.m.pgn)) c.d.0 c.s.0) x
    unfolding wire_taken cm_frame_taken
    cts_goes is granted first = record {
      y = seen;
      going = going_on;
      is = λ told.
          meaning laws c (Cm (Cts granted first c.m.pgn)) c.d c.s now (with_one laws c x, told) (record { numbers = tt; widths = c.sendable.pgn; source = own; destination = c.sendable.source })
          ∙ ap (λ kind. cm_taken (key_with c.iface c.s c.d kind) (Cts granted first c.m.pgn) now (with_one laws c x, told)) (sym is)
          ∙ cm_found (Cts granted first c.m.pgn) told
          ∙ renews told
          ∙ again seen told;
    }
      where
        renews : (told : List Told) → settled (key laws c) (heard x (Cts granted first c.m.pgn) now).1 (put (key laws c) (heard x (Cts granted first c.m.pgn) now).0 (with_one laws c x), told) ≡ (put (key laws c) seen (with_one laws c x), told)
        renews told = rw (same, heard) refl

    -- the window is closed
    abbrev closed : Place
    closed = record { offset = place.offset; window = Some 0 }

    pub etp_cts_goes : c.kind ≡ Etp → (granted first : ℕ) → first < 2 ^ 24 → Goes laws c next closed now (written (Cm (EtpCts granted first c.m.pgn)) c.d.0 c.s.0) x
    unfolding wire_taken cm_frame_taken
    etp_cts_goes is granted first fits = record {
      y = asked;
      going = record { pgn = g.pgn; offset_is = g.offset_is; window_is = refl; heard_at_time = refl; front = g.front; next_is = g.next_is };
      is = λ told.
          meaning laws c (Cm (EtpCts granted first c.m.pgn)) c.d c.s now (with_one laws c x, told) (record { numbers = fits; widths = c.sendable.pgn; source = own; destination = c.sendable.source })
          ∙ ap (λ kind. cm_taken (key_with c.iface c.s c.d kind) (EtpCts granted first c.m.pgn) now (with_one laws c x, told)) (sym is)
          ∙ cm_found (EtpCts granted first c.m.pgn) told
          ∙ renews told
          ∙ again asked told;
    }
      where
        asked : Session
        asked = record x { window = Some 0; heard = now }

        renews : (told : List Told) → settled (key laws c) (heard x (EtpCts granted first c.m.pgn) now).1 (put (key laws c) (heard x (EtpCts granted first c.m.pgn) now).0 (with_one laws c x), told) ≡ (put (key laws c) asked (with_one laws c x), told)
        renews told = rw (same, heard) refl

    -- behind this offset the next one opens
    abbrev moved : (packets offset : ℕ) → Place
    moved packets offset = record { offset = offset; window = Some packets }

    pub dpo_goes : c.kind ≡ Etp → (packets offset : ℕ) → offset < 2 ^ 24 → Goes laws c next (moved packets offset) now (written (Cm (EtpDpo packets offset c.m.pgn)) c.s.0 c.d.0) x
    unfolding wire_taken cm_frame_taken
    dpo_goes is packets offset fits = record {
      y = behind;
      going = record { pgn = g.pgn; offset_is = refl; window_is = refl; heard_at_time = refl; front = g.front; next_is = g.next_is };
      is = λ told.
          meaning laws c (Cm (EtpDpo packets offset c.m.pgn)) c.s c.d now (with_one laws c x, told) (record { numbers = fits; widths = c.sendable.pgn; source = c.sendable.source; destination = own })
          ∙ ap (λ kind. cm_taken (key_with c.iface c.s c.d kind) (EtpDpo packets offset c.m.pgn) now (with_one laws c x, told)) (sym is)
          ∙ cm_found (EtpDpo packets offset c.m.pgn) told
          ∙ moves told
          ∙ again behind told;
    }
      where
        behind : Session
        behind = record x { offset = offset; window = Some packets; heard = now }

        moves : (told : List Told) → settled (key laws c) (heard x (EtpDpo packets offset c.m.pgn) now).1 (put (key laws c) (heard x (EtpDpo packets offset c.m.pgn) now).0 (with_one laws c x), told) ≡ (put (key laws c) behind (with_one laws c x), told)
        moves told = rw (same, heard) refl

  -- the end acknowledgement of a message that was given
  pub ack_passes : c.kind ≡ Tp → (size packets now : ℕ) (told : List Told) → frame_taken c.iface (written (Cm (EndOfMsgAck size packets c.m.pgn)) c.d.0 c.s.0) c.most now (c.others, told) ≡ (c.others, told)
  unfolding wire_taken cm_frame_taken
  ack_passes is size packets now told =
      meaning laws c (Cm (EndOfMsgAck size packets c.m.pgn)) c.d c.s now (c.others, told) (record { numbers = tt; widths = c.sendable.pgn; source = own; destination = c.sendable.source })
      ∙ ap (λ kind. cm_taken (key_with c.iface c.s c.d kind) (EndOfMsgAck size packets c.m.pgn) now (c.others, told)) (sym is)
      ∙ ap (by_session (λ s. heard s (EndOfMsgAck size packets c.m.pgn) now) (key laws c) (c.others, told)) c.free

  pub etp_ack_passes : c.kind ≡ Etp → (size now : ℕ) (told : List Told) → frame_taken c.iface (written (Cm (EtpEoma size c.m.pgn)) c.d.0 c.s.0) c.most now (c.others, told) ≡ (c.others, told)
  unfolding wire_taken cm_frame_taken
  etp_ack_passes is size now told =
      meaning laws c (Cm (EtpEoma size c.m.pgn)) c.d c.s now (c.others, told) (record { numbers = tt; widths = c.sendable.pgn; source = own; destination = c.sendable.source })
      ∙ ap (λ kind. cm_taken (key_with c.iface c.s c.d kind) (EtpEoma size c.m.pgn) now (c.others, told)) (sym is)
      ∙ ap (by_session (λ s. heard s (EtpEoma size c.m.pgn) now) (key laws c) (c.others, told)) c.free
