-- The moves of frames: the destination takes the next one, or passes over some, and the sender the next answer.
use Rattle.std.proofs.Common.{◌≡◌, ℕ, true, List, [], ◌∷◌, ◌++◌, map, Option, Some, None, refl, sym, ap, ◌∙◌, subst}
use Rattle.pgn_ids.specs.declared.address.Address.{Address}
use Rattle.tp_wire.specs.declared.wire.Kind.{Kind}
use Rattle.tp_wire.specs.declared.wire.Kind.TheVariants.{Tp, Etp}
use Rattle.tp_wire.specs.declared.wire.Wire.{Wire}
use Rattle.session_table.specs.declared.incoming.Incoming.{Incoming}
use Rattle.session_table.specs.declared.incoming.Incoming.TheVariants as incoming
use Rattle.lane_law.specs.Frame.{Frame, Rts as Begins, Dpo, Packet as Data, Request as Asks}
use Rattle.lane_law.specs.Session.{Session, with_offset}
use Rattle.lane_law.specs.Lane as machine
use Rattle.lane_law.specs.Lane.{Answer, Takes, PassesOver, Forgets, EndsSession, Hears, Misses, ForgetsAnswer, LaneEvent}
use Rattle.connection_law.proofs.Frames.{Back}
use Rattle.connection_law.proofs.View.{Laws, Mark, View, kind_of, IsShown, AreShown, IsAgain, shape, IsHeardAs, IsHeard, IsSame, IsAlmost, of_kind, Carries, Sim, Still}

-- a frame that leaves the session as it is
abbrev pub IsPlain : Frame → Type 0
IsPlain (Begins n m) = ⊥
IsPlain (Dpo o) = ⊥
IsPlain (Data k b) = Unit {0}
IsPlain (Asks t) = Unit {0}

module _ (laws : Laws) (s d : Address) where
  reach : (l : machine.Lane) (event : LaneEvent) → machine.IsReached true l → machine.MayHappen event l → machine.IsReached true (machine.after event l)
  reach l event h m = laws.goes_on true l event h m

  -- what is known of a session is no part of it
  pub carries_else : (v : View) (l : machine.Lane) (tp etp : Option (List ℕ × Incoming)) (opened : Kind → Mark) → Carries s d v l → Carries s d (record v { tp = tp; etp = etp; opened = opened }) l
  carries_else v l tp etp opened h = record { reached = h.reached; good = h.good; sent = h.sent; given = h.given; forward = h.forward; again = h.again; answers = h.answers; heard = h.heard; sender = h.sender; ended = h.ended }

  -- the session ends, for whatever cause
  pub ends : (v : View) (l : machine.Lane) → Carries s d v l → of_kind (kind_of l.stream.reached.message) v.tp v.etp ≡ None → Still s d l v
  ends v l h e = record {
    lane = machine.after EndsSession l;
    sim = record {
      carries = record { reached = reach l EndsSession h.reached tt; good = h.good; sent = h.sent; given = h.given; forward = h.forward; again = h.again; answers = h.answers; heard = h.heard; sender = h.sender; ended = h.ended };
      session = subst (λ o. IsHeardAs (IsSame s d) (v.opened (kind_of l.stream.reached.message)) o None) (sym e) tt;
    };
    given = refl;
  }

  -- A frame is taken

  -- it was taken last, and what becomes of the session isn't known yet
  pub record Taken (l : machine.Lane) (v : View) (w : Wire) : Type 0 where
    pub lane : machine.Lane
    pub frame : Frame
    pub given : lane.stream.given ≡ l.stream.given
    pub shows : IsShown lane.stream.reached frame w
    pub carries : Carries s d v lane
    pub again : lane.stream.again ≡ frame ∷ []
    pub heard : IsPlain frame → IsHeard s d v lane
    pub offset : (o : ℕ) → frame ≡ Dpo o → IsHeardAs (IsAlmost s d) (v.opened (kind_of lane.stream.reached.message)) (of_kind (kind_of lane.stream.reached.message) v.tp v.etp) lane.stream.session

  almost_same : (i : Incoming) (x : Session) → IsSame s d i x → IsAlmost s d i x
  almost_same (incoming.Broadcast b) x h = h
  almost_same (incoming.Connection t) x h = (h.0, h.1)

  almost_at : (i : Incoming) (x : Session) (o : ℕ) → IsSame s d i x → IsAlmost s d i (record x { offset = o })
  almost_at (incoming.Broadcast b) x o h = h
  almost_at (incoming.Connection t) x o h = (record { from = h.0.from; to = h.0.to; pgn = h.0.pgn }, record { size = h.1.size; next = h.1.next; bytes = h.1.bytes })

  heard_offset : (o : ℕ) (opened : Mark) (real : Option (List ℕ × Incoming)) (x : Option Session) → IsHeardAs (IsSame s d) opened real x → IsHeardAs (IsAlmost s d) opened real (with_offset o x)
  heard_offset o opened None None h = tt
  heard_offset o opened None (Some x) h = h
  heard_offset o opened (Some v) None h = h
  heard_offset o opened (Some v) (Some x) h = (h.0, h.1, almost_at v.1 x o h.2)

  heard_almost : (opened : Mark) (real : Option (List ℕ × Incoming)) (x : Option Session) → IsHeardAs (IsSame s d) opened real x → IsHeardAs (IsAlmost s d) opened real x
  heard_almost opened None None h = tt
  heard_almost opened None (Some x) h = h
  heard_almost opened (Some v) None h = h
  heard_almost opened (Some v) (Some x) h = (h.0, h.1, almost_same v.1 x h.2)

  module _ (v : View) (l : machine.Lane) (h : Sim s d v l) where
    plain_after : (g : Frame) (rest : List Frame) → IsPlain g → IsHeard s d v (machine.after (Takes g rest) l)
    plain_after (Begins n m) rest p = absurd p
    plain_after (Dpo o) rest p = absurd p
    plain_after (Data k b) rest p = h.session
    plain_after (Asks t) rest p = h.session

    offset_after : (g : Frame) (rest : List Frame) (o : ℕ) → g ≡ Dpo o
        → IsHeardAs (IsAlmost s d) (v.opened (kind_of (machine.after (Takes g rest) l).stream.reached.message)) (of_kind (kind_of (machine.after (Takes g rest) l).stream.reached.message) v.tp v.etp) (machine.after (Takes g rest) l).stream.session
    offset_after (Begins n m) rest o e = absurd (cc)
    offset_after (Dpo p) rest o e = heard_offset p (v.opened (kind_of l.stream.reached.message)) (of_kind (kind_of l.stream.reached.message) v.tp v.etp) l.stream.session h.session
    offset_after (Data k b) rest o e = absurd (cc)
    offset_after (Asks t) rest o e = absurd (cc)

    pub takes : (w : Wire) (ws : List Wire) → v.forward ≡ w ∷ ws → Taken l (record v { forward = ws; again = w ∷ [] }) w
    takes w ws e = by l.stream.forward refl (subst (λ xs. AreShown l.stream.reached l.stream.forward xs l.stream.queued) e h.carries.forward)
      where
        by : (fs : List Frame) → l.stream.forward ≡ fs → AreShown l.stream.reached fs (w ∷ ws) l.stream.queued → Taken l (record v { forward = ws; again = w ∷ [] }) w
        by [] p q = absurd q
        by (g ∷ gs) p q = record {
          lane = machine.after (Takes g gs) l;
          frame = g;
          given = refl;
          shows = q.0;
          carries = record { reached = reach l (Takes g gs) h.carries.reached p; good = h.carries.good; sent = h.carries.sent; given = h.carries.given; forward = q.1; again = q.0; answers = h.carries.answers; heard = h.carries.heard; sender = h.carries.sender; ended = h.carries.ended };
          again = refl;
          heard = plain_after g gs;
          offset = offset_after g gs;
        }

    -- the frame that may be taken again
    pub repeats : (w : Wire) → v.again ≡ w ∷ [] → Taken l v w
    repeats w e = by l.stream.again refl (subst (λ xs. IsAgain l.stream.reached l.stream.again xs) e h.carries.again)
      where
        by : (fs : List Frame) → l.stream.again ≡ fs → IsAgain l.stream.reached fs (w ∷ []) → Taken l v w
        by [] p q = absurd q
        by (g ∷ []) p q = record {
          lane = l;
          frame = g;
          given = refl;
          shows = q;
          carries = h.carries;
          again = p;
          heard = λ _. h.session;
          offset = λ o _. heard_almost (v.opened (kind_of l.stream.reached.message)) (of_kind (kind_of l.stream.reached.message) v.tp v.etp) l.stream.session h.session;
        }
        by (g ∷ f ∷ fs) p q = absurd q

    -- a frame of somebody else is taken
    pub forgets : Still s d l (record v { again = [] })
    forgets = record {
      lane = machine.after Forgets l;
      sim = record {
        carries = record { reached = reach l Forgets h.carries.reached tt; good = h.carries.good; sent = h.carries.sent; given = h.carries.given; forward = h.carries.forward; again = tt; answers = h.carries.answers; heard = h.carries.heard; sender = h.carries.sender; ended = h.carries.ended };
        session = h.session;
      };
      given = refl;
    }

    -- the sender takes an answer, or another frame
    pub hears : (b : Back) (bs : List Back) → v.answers ≡ b ∷ bs → Still s d l (record v { answers = bs; heard = b ∷ [] })
    hears b bs e = by l.answers refl (sym e ∙ h.carries.answers)
      where
        by : (xs : List Answer) → l.answers ≡ xs → b ∷ bs ≡ map shape l.answers → Still s d l (record v { answers = bs; heard = b ∷ [] })
        by [] p q = absurd (let t : b ∷ bs ≡ [] = q ∙ ap (λ (ys : List Answer). map shape ys) p in cc)
        by (a ∷ xs) p q =
            let t : b ∷ bs ≡ shape a ∷ map shape xs = q ∙ ap (λ (ys : List Answer). map shape ys) p in
            record {
              lane = machine.after (Hears a xs) l;
              sim = record {
                carries = record { reached = reach l (Hears a xs) h.carries.reached p; good = h.carries.good; sent = h.carries.sent; given = h.carries.given; forward = h.carries.forward; again = h.carries.again; answers = cc; heard = cc; sender = h.carries.sender; ended = h.carries.ended };
                session = h.session;
              };
              given = refl;
            }

    pub forgets_answer : Still s d l (record v { heard = [] })
    forgets_answer = record {
      lane = machine.after ForgetsAnswer l;
      sim = record {
        carries = record { reached = reach l ForgetsAnswer h.carries.reached tt; good = h.carries.good; sent = h.carries.sent; given = h.carries.given; forward = h.carries.forward; again = h.carries.again; answers = h.carries.answers; heard = refl; sender = h.carries.sender; ended = h.carries.ended };
        session = h.session;
      };
      given = refl;
    }

  -- Frames are passed over

  record Passed (l : machine.Lane) (v : View) : Type 0 where
    lane : machine.Lane
    carries : Carries s d v lane
    given : lane.stream.given ≡ l.stream.given

  passes_one : (v : View) (l : machine.Lane) (w : Wire) (ws : List Wire) → Carries s d v l → v.forward ≡ w ∷ ws → Passed l (record v { forward = ws; again = [] })
  passes_one v l w ws h e = by l.stream.forward refl (subst (λ xs. AreShown l.stream.reached l.stream.forward xs l.stream.queued) e h.forward)
    where
      by : (fs : List Frame) → l.stream.forward ≡ fs → AreShown l.stream.reached fs (w ∷ ws) l.stream.queued → Passed l (record v { forward = ws; again = [] })
      by [] p q = absurd q
      by (g ∷ gs) p q = record {
        lane = machine.after (PassesOver g gs) l;
        carries = record { reached = reach l (PassesOver g gs) h.reached p; good = h.good; sent = h.sent; given = h.given; forward = q.1; again = tt; answers = h.answers; heard = h.heard; sender = h.sender; ended = h.ended };
        given = refl;
      }

  passes_all : (ws rest : List Wire) (v : View) (l : machine.Lane) → Carries s d v l → v.forward ≡ ws ++ rest → Passed l (record v { forward = rest; again = [] })
  passes_all [] rest v l h e = record {
    lane = machine.after Forgets l;
    carries = record { reached = reach l Forgets h.reached tt; good = h.good; sent = h.sent; given = h.given; forward = subst (λ xs. AreShown l.stream.reached l.stream.forward xs l.stream.queued) e h.forward; again = tt; answers = h.answers; heard = h.heard; sender = h.sender; ended = h.ended };
    given = refl;
  }
  passes_all (w ∷ ws) rest v l h e =
      let one : Passed l (record v { forward = ws ++ rest; again = [] }) = passes_one v l w (ws ++ rest) h e in
      let more : Passed one.lane (record v { forward = rest; again = [] }) = passes_all ws rest (record v { forward = ws ++ rest; again = [] }) one.lane one.carries refl in
      record { lane = more.lane; carries = more.carries; given = more.given ∙ one.given }

  none_of : (k : Kind) → of_kind k None None ≡ None
  none_of Tp = refl
  none_of Etp = refl

  -- the destination misses frames, and has no session left
  pub skips : (ws rest : List Wire) (v : View) (l : machine.Lane) → Sim s d v l → v.forward ≡ ws ++ rest → Still s d l (record v { forward = rest; again = []; tp = None; etp = None })
  skips ws rest v l h e =
      let all : Passed l (record v { forward = rest; again = [] }) = passes_all ws rest v l h.carries e in
      let end : Still s d all.lane (record v { forward = rest; again = []; tp = None; etp = None }) = ends (record v { forward = rest; again = []; tp = None; etp = None }) all.lane (carries_else (record v { forward = rest; again = [] }) all.lane None None v.opened all.carries) (none_of (kind_of all.lane.stream.reached.message)) in
      record { lane = end.lane; sim = end.sim; given = end.given ∙ all.given }

  -- the sender misses answers
  misses_one : (v : View) (l : machine.Lane) (b : Back) (bs : List Back) → Sim s d v l → v.answers ≡ b ∷ bs → Still s d l (record v { answers = bs; heard = [] })
  misses_one v l b bs h e = by l.answers refl (sym e ∙ h.carries.answers)
    where
      by : (xs : List Answer) → l.answers ≡ xs → b ∷ bs ≡ map shape l.answers → Still s d l (record v { answers = bs; heard = [] })
      by [] p q = absurd (let t : b ∷ bs ≡ [] = q ∙ ap (λ (ys : List Answer). map shape ys) p in cc)
      by (a ∷ xs) p q =
          let t : b ∷ bs ≡ shape a ∷ map shape xs = q ∙ ap (λ (ys : List Answer). map shape ys) p in
          record {
            lane = machine.after (Misses a xs) l;
            sim = record {
              carries = record { reached = reach l (Misses a xs) h.carries.reached p; good = h.carries.good; sent = h.carries.sent; given = h.carries.given; forward = h.carries.forward; again = h.carries.again; answers = cc; heard = refl; sender = h.carries.sender; ended = h.carries.ended };
              session = h.session;
            };
            given = refl;
          }

  pub misses : (bs rest : List Back) (v : View) (l : machine.Lane) → Sim s d v l → v.answers ≡ bs ++ rest → Still s d l (record v { answers = rest; heard = [] })
  misses [] rest v l h e = record {
    lane = machine.after ForgetsAnswer l;
    sim = record {
      carries = record { reached = reach l ForgetsAnswer h.carries.reached tt; good = h.carries.good; sent = h.carries.sent; given = h.carries.given; forward = h.carries.forward; again = h.carries.again; answers = sym e ∙ h.carries.answers; heard = refl; sender = h.carries.sender; ended = h.carries.ended };
      session = h.session;
    };
    given = refl;
  }
  misses (b ∷ bs) rest v l h e =
      let one : Still s d l (record v { answers = bs ++ rest; heard = [] }) = misses_one v l b (bs ++ rest) h e in
      let more : Still s d one.lane (record v { answers = rest; heard = [] }) = misses bs rest (record v { answers = bs ++ rest; heard = [] }) one.lane one.sim refl in
      record { lane = more.lane; sim = more.sim; given = more.given ∙ one.given }
