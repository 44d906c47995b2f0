-- The lane to all with nothing on the way: a stream stands for it.
use Rattle.std.proofs.Common.{◌≡◌, ℕ, ◌<◌, ◌≤◌, ◌^◌, true, List, [], ◌∷◌, ◌++◌, map, length, None, refl, sym, ap, subst, arith}
use Rattle.bus_frame.specs.Frames.{CanFrame}
use Rattle.pgn_ids.specs.Address.{is_one}
use Rattle.pgn_ids.specs.Pgn.{is_pgn, clean}
use Rattle.pgn_ids.specs.declared.address.Address.{Address}
use Rattle.tp_wire.specs.declared.constants.TheConstants.{MIN_SIZE, ETP_MAX_SIZE}
use Rattle.tp_wire.specs.declared.wire.Wire.{Wire}
use Rattle.lane_core.specs.Answer.{answered, answered_by}
use Rattle.lane_core.specs.Fire.{probe_fired, fired, fired_by}
use Rattle.lane_core.specs.Hear.{heard, heard_by}
use Rattle.lane_core.specs.Lane.{Lane, new_lane, pushed}
use Rattle.lane_core.specs.Overrun.{overrun, overrun_by}
use Rattle.lane_core.specs.Pump.{pumped}
use Rattle.lane_core.specs.declared.place.UnderWay.{UnderWay}
use Rattle.lane_core.specs.declared.place.UnderWay.TheVariants.{Nothing, Broadcast, Connection}
use Rattle.lane_core.specs.declared.probe.Standing.{Standing}
use Rattle.segment_law.specs.Told as told
use Rattle.record_law.proofs.Lists.{Each}
use Rattle.record_law.proofs.Readings.{ReadsBack}
use Rattle.record_law.proofs.Told.{clean_is}
use Rattle.lane_law.specs.Frame.{Frame}
use Rattle.lane_law.specs.Stream as stream
use Rattle.lane_law.specs.Stream.{Stream, PassOver, Forget, EndSession}
use Rattle.broadcast_law.proofs.Send.{AreSeven, pushes, pumps, cancels}
use Rattle.broadcast_law.proofs.View.{View, wire_of, plain, cleaned, IsUnderWay, IsSender, IsClean, Stands, GoesOn}
use Rattle.restart_law.proofs.Lanes.{IsKept}

module _ (goes : GoesOn) (begins : stream.IsReached stream.empty_stream) (reads : ReadsBack) (seven : AreSeven) (s : Address) (own : is_one s.0 ≡ true) where
  abbrev pub bare : Lane → List told.Message → View
  bare lane ms = record { lane = lane; queue = []; ahead = []; again = None; session = None; sent = ms; given = [] }

  abbrev pub IsBare : List told.Message → Lane → Type 0
  IsBare ms lane = Stands s (bare lane ms)

  -- all but the frames and the session
  record IsOf (lane : Lane) (ms : List told.Message) (st : Stream) : Type 0 where
    reached : stream.IsReached st
    clean : Each IsClean st.sent
    sent : ms ≡ map plain st.sent
    given : [] ≡ map cleaned st.given
    sender : IsSender s.0 lane st.queued st.sent

  -- what is on the way is missed
  misses : (lane : Lane) (ms : List told.Message) (fs : List Frame) (st : Stream) → st.forward ≡ fs → IsOf lane ms st → IsBare ms lane
  misses lane ms [] st e h = (
    stream.after Forget (stream.after EndSession st),
    record {
      carries = record {
        reached = goes (stream.after EndSession st) Forget (goes st EndSession h.reached tt) tt;
        clean = h.clean;
        sent = h.sent;
        given = h.given;
        forward = sym (ap (map wire_of) e);
        again = refl;
        sender = h.sender;
      };
      session = tt;
    },
  )
  misses lane ms (f ∷ fs) st e h = misses lane ms fs (stream.after (PassOver f fs) st) refl (record { reached = goes st (PassOver f fs) h.reached e; clean = h.clean; sent = h.sent; given = h.given; sender = h.sender })

  cleared : (lane : Lane) (ms : List told.Message) (frames : List CanFrame) → Stands s (record (bare lane ms) { queue = frames }) → IsBare ms lane
  cleared lane ms frames (st, h) = misses lane ms st.forward st refl (record { reached = h.carries.reached; clean = h.carries.clean; sent = h.carries.sent; given = h.carries.given; sender = h.carries.sender })

  pub new_bare : IsBare [] (new_lane s.0 255)
  new_bare = (
    stream.empty_stream,
    record {
      carries = record {
        reached = begins;
        clean = tt;
        sent = refl;
        given = refl;
        forward = refl;
        again = refl;
        sender = record { from = refl; to = refl; count = refl; last = omega arith; standing = refl; under_way = tt };
      };
      session = tt;
    },
  )

  sends_bare : (ms : List told.Message) (lane : Lane) (pgn : ℕ) (bytes : List ℕ) → is_pgn pgn ≡ true → MIN_SIZE ≤ length bytes → length bytes ≤ ETP_MAX_SIZE → IsBare ms lane → IsBare (ms ++ (pgn, bytes) ∷ []) (pushed lane pgn bytes)
  sends_bare ms lane pgn bytes fits long most h = (let c : (pgn < 2 ^ 18) × (clean pgn ≡ pgn) = clean_is pgn fits in pushes s goes (bare lane ms) pgn bytes h (omega (arith, long)) c.0 c.1)

  module _ (ms : List told.Message) (lane : Lane) (h : IsBare ms lane) where
    abbrev sender : IsSender s.0 lane h.0.queued h.0.sent
    sender = h.1.carries.sender

    is_under : (u : UnderWay) → lane.under_way ≡ u → IsUnderWay s.0 u lane.pending h.0.queued h.0.sent
    is_under u e = subst (λ (x : UnderWay). IsUnderWay s.0 x lane.pending h.0.queued h.0.sent) e sender.under_way

    hears_bare : (wire : Wire) (now : ℕ) → IsBare ms (heard lane wire now).0
    hears_bare wire now = by lane.under_way refl
      where
        by : (u : UnderWay) → lane.under_way ≡ u → IsBare ms (heard_by u lane wire now).0
        by Nothing e = h
        by (Broadcast b) e = h
        by (Connection o) e = absurd (is_under (Connection o) e)

    settles_bare : (pgn : ℕ) → IsBare ms (answered lane pgn)
    settles_bare pgn = subst (λ (x : Standing). IsBare ms (answered_by x lane pgn)) (sym sender.standing) h

    fires_bare : (now : ℕ) → IsBare ms (fired lane now).0
    fires_bare now = by lane.under_way refl
      where
        by : (u : UnderWay) → lane.under_way ≡ u → IsBare ms (fired_by u lane now).0
        by Nothing e = subst (λ (x : Standing). IsBare ms (probe_fired x lane now).0) (sym sender.standing) h
        by (Broadcast b) e = h
        by (Connection o) e = absurd (is_under (Connection o) e)

    overruns_bare : IsBare ms (overrun lane).0
    overruns_bare = by lane.under_way refl
      where
        by : (u : UnderWay) → lane.under_way ≡ u → IsBare ms (overrun_by u lane).0
        by Nothing e = h
        by (Broadcast b) e = h
        by (Connection o) e = absurd (is_under (Connection o) e)

    pumps_bare : (now : ℕ) → IsBare ms (pumped lane now).0
    pumps_bare now = cleared (pumped lane now).0 ms (pumped lane now).1.frames (pumps s goes own reads seven (bare lane ms) now h)

  pub bare_kept : IsKept IsBare
  bare_kept = record {
    sends = sends_bare;
    hears = λ ms lane wire now h. hears_bare ms lane h wire now;
    settles = λ ms lane pgn h. settles_bare ms lane h pgn;
    fires = λ ms lane now h. fires_bare ms lane h now;
    overruns = overruns_bare;
    pumps = λ ms lane now h. pumps_bare ms lane h now;
    cancels = λ ms lane number is h. cancels s goes (bare lane ms) number h;
  }
