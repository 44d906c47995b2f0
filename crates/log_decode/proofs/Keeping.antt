-- What a frame keeps of the time before which no message becomes silent: a message that it changes was heard now.
use Rattle.std.proofs.Common.{◌≡◌, ℕ, ◌+◌, ◌*◌, ◌≤◌, List, [], ◌∷◌, ◌++◌, Bool, true, false, not, cond, Option, Some, None, refl, ap, arith, nat_lt, ◌⊎◌, inl, inr, ◌==◌, ◌&&◌, ◌||◌, if◌then◌else◌, option_to_list}
use Rattle.std.specs.Map.{remove_entry}
use Rattle.bus_frame.specs.Frames.{CanFrame}
use Rattle.log_fields.specs.declared.iface.Iface.{Iface}
use Rattle.pgn_ids.specs.Address.{global_address}
use Rattle.pgn_ids.specs.Pgn.{clean}
use Rattle.pgn_ids.specs.declared.address.Address.{Address}
use Rattle.seg_cut.specs.Join.{wants, joined, is_complete}
use Rattle.tick_timers.specs.declared.durations.TheConstants.{T1}
use Rattle.tp_wire.specs.Reading.{reading}
use Rattle.tp_wire.specs.Rows.{cm_pgn}
use Rattle.tp_wire.specs.declared.wire.Kind.{Kind}
use Rattle.tp_wire.specs.declared.wire.Kind.TheVariants.{Tp, Etp}
use Rattle.tp_wire.specs.declared.wire.CmFrame.{CmFrame}
use Rattle.tp_wire.specs.declared.wire.CmFrame.TheVariants as frames
use Rattle.tp_wire.specs.declared.wire.Wire.{Wire}
use Rattle.tp_wire.specs.declared.wire.Wire.TheVariants.{Cm, Packet, Request, Ack}
use Rattle.log_reports.specs.Keys.{same_key}
use Rattle.log_decode.specs.Ways.{key_of, key_back}
use Rattle.log_decode.specs.Session.{opened, accepted, renewed, roomy, packet_heard, is_within, sequence_heard, cm_heard, heard, abort_heard, told_of, patience}
use Rattle.log_decode.specs.Sessions.{Sessions, Heard, session_at, put, without, ended_at, settled, heard_at, packet_taken, cm_taken, abort_taken, renewed_at, is_again_at, is_of, opened_at, announced}
use Rattle.log_decode.specs.Decoder.{tp_news, etp_news, both_aborted, aborted, cm_frame_taken, wire_taken, frame_taken}
use Rattle.log_decode.specs.Due.{NoneDueBefore}
use Rattle.log_reports.specs.declared.key.Key.{Key}
use Rattle.log_decode.specs.declared.way.Way.{Way}
use Rattle.log_decode.specs.declared.session.Session.{Session}
use Rattle.log_decode.specs.declared.session.Fate.{Fate}
use Rattle.log_decode.specs.declared.session.Fate.TheVariants as fates
use Rattle.log_decode.specs.declared.sessions.News.{News}
use Rattle.log_reports.specs.declared.told.Cause.TheVariants.{Missing, Replaced, Unsound, TooLong}
use Rattle.log_reports.specs.declared.told.Told.TheVariants.{Lost, Aborted}
use Rattle.log_decode.proofs.AtKey.{by_session, by_renewed}
use Rattle.log_decode.proofs.Silences.{same_some, none_is_some}
use Rattle.log_decode.proofs.Due.{patience_least}

-- one that was heard now
entry_now : (n now : ℕ) (t : Session) (to : Address) → n ≤ now + T1 * 1000 → t.heard ≡ now → n ≤ t.heard + patience to
entry_now n now t to later e = let least = patience_least to in omega (arith, later, e, least)

put_now : (key : Key) (n now : ℕ) (t : Session) (es : Sessions) → n ≤ now + T1 * 1000 → t.heard ≡ now → NoneDueBefore n es → NoneDueBefore n (put key t es)
put_now key n now t [] later e d = (entry_now n now t key.to later e, tt)
put_now key n now t (x ∷ es) later e d =
    elim (same_key key x.0) as (λ b. NoneDueBefore n (if b then (x.0, t) ∷ es else x ∷ put key t es)) [
      | true ↦ (entry_now n now t x.0.to later e, d.1)
      | false ↦ (d.0, put_now key n now t es later e d.1)
    ]

-- one that was heard when the one in its place was
put_same : (key : Key) (n : ℕ) (s t : Session) (es : Sessions) → session_at key es ≡ Some s → t.heard ≡ s.heard → NoneDueBefore n es → NoneDueBefore n (put key t es)
put_same key n s t [] p e d = absurd (none_is_some p)
put_same key n s t (x ∷ es) p e d =
    (elim (same_key key x.0) as (λ b. cond b (Some x.1) (session_at key es) ≡ Some s → NoneDueBefore n (if b then (x.0, t) ∷ es else x ∷ put key t es)) [
      | true ↦ λ p. let first = d.0 in let k : x.1.heard ≡ s.heard = ap (λ y. y.heard) (same_some p) in (omega (arith, first, e, k), d.1)
      | false ↦ λ p. (d.0, put_same key n s t es p e d.1)
    ]) p

-- from s to t: heard now, or as before
abbrev IsHeard : (now : ℕ) → (s t : Session) → Type 0
IsHeard now s t = (t.heard ≡ now) ⊎ (t.heard ≡ s.heard)

put_heard : (key : Key) (n now : ℕ) (s t : Session) (es : Sessions) → n ≤ now + T1 * 1000 → session_at key es ≡ Some s → IsHeard now s t → NoneDueBefore n es → NoneDueBefore n (put key t es)
put_heard key n now s t es later p (inl e) d = put_now key n now t es later e d
put_heard key n now s t es later p (inr e) d = put_same key n s t es p e d

without_one : (test : Key → Bool) (n : ℕ) (es : Sessions) → NoneDueBefore n es → NoneDueBefore n (remove_entry test es)
without_one test n [] d = tt
without_one test n (x ∷ es) d = elim (test x.0) as (λ b. NoneDueBefore n (cond b es (x ∷ remove_entry test es))) [ true ↦ d.1 | false ↦ (d.0, without_one test n es d.1) ]

abbrev by_ended : Key → Fate → Heard → Option Session → Heard
by_ended key fate h o = elim o [ None ↦ h | Some s ↦ (without key h.0, h.1 ++ option_to_list (told_of key s fate)) ]

at_end : (key : Key) (fate : Fate) (n : ℕ) (h : Heard) → NoneDueBefore n h.0 → NoneDueBefore n (ended_at key fate h).0
at_end key fate n h d = elim (session_at key h.0) as (λ o. NoneDueBefore n (by_ended key fate h o).0) [ None ↦ d | Some s ↦ without_one (same_key key) n h.0 d ]

at_fate : (key : Key) (fate : Fate) (n : ℕ) (h : Heard) → NoneDueBefore n h.0 → NoneDueBefore n (settled key fate h).0
at_fate key fates.GoesOn n h d = d
at_fate key fates.Given n h d = at_end key fates.Given n h d
at_fate key (fates.Lost cause) n h d = at_end key (fates.Lost cause) n h d
at_fate key (fates.Aborted reason who) n h d = at_end key (fates.Aborted reason who) n h d

at_session : (f : Session → Session × Fate) (now : ℕ) → ((s : Session) → IsHeard now s (f s).0) → (key : Key) (n : ℕ) (h : Heard) → n ≤ now + T1 * 1000 → NoneDueBefore n h.0 → NoneDueBefore n (heard_at f key h).0
at_session f now fresh key n h later d = by (session_at key h.0) refl
  where
    by : (o : Option Session) → session_at key h.0 ≡ o → NoneDueBefore n (by_session f key h o).0
    by None p = d
    by (Some s) p = at_fate key (f s).1 n (put key (f s).0 h.0, h.1) (put_heard key n now s (f s).0 h.0 later p (fresh s) d)

either : (now : ℕ) (s : Session) (b : Bool) (x y : Session × Fate) → IsHeard now s x.0 → IsHeard now s y.0 → IsHeard now s (if b then x else y).0
either now s true x y p q = p
either now s false x y p q = q

packet_fresh : (to : Address) (s : Session) (k : ℕ) (bytes : List ℕ) (now : ℕ) → IsHeard now s (packet_heard to s k bytes now).0
unfolding packet_heard
packet_fresh to s k bytes now =
    either now s (wants s.join k) (accepted s bytes now, if is_complete (joined (roomy s.join) bytes) then fates.Given else fates.GoesOn)
    (if nat_lt s.join.next k && to.0 == global_address then (s, fates.Lost Missing) else (renewed s now, fates.GoesOn)) (inl refl)
    (either now s (nat_lt s.join.next k && to.0 == global_address) (s, fates.Lost Missing) (renewed s now, fates.GoesOn) (inr refl) (inl refl))

sequence_fresh : (to : Address) (s : Session) (k : ℕ) (bytes : List ℕ) (now : ℕ) → IsHeard now s (sequence_heard to s k bytes now).0
sequence_fresh to s k bytes now =
    either now s (is_within s.window k) (packet_heard to s (s.offset + k) bytes now) (renewed s now, fates.GoesOn) (packet_fresh to s (s.offset + k) bytes now) (inl refl)

cm_fresh : (s : Session) (frame : CmFrame) (now : ℕ) → IsHeard now s (cm_heard s frame now).0
cm_fresh s (frames.Cts granted next pgn) now = inl refl
cm_fresh s (frames.EtpCts granted next pgn) now = inl refl
cm_fresh s (frames.EtpDpo packets offset pgn) now = inl refl
cm_fresh s (frames.EndOfMsgAck size packets pgn) now = inr refl
cm_fresh s (frames.EtpEoma size pgn) now = inr refl
cm_fresh s (frames.Rts size packets window pgn) now = inr refl
cm_fresh s (frames.Bam size packets pgn) now = inr refl
cm_fresh s (frames.Abort reason pgn) now = inr refl
cm_fresh s (frames.EtpRts size pgn) now = inr refl
cm_fresh s (frames.EtpAbort reason pgn) now = inr refl

heard_fresh : (s : Session) (frame : CmFrame) (now : ℕ) → IsHeard now s (heard s frame now).0
heard_fresh s frame now = either now s (clean (cm_pgn frame) == clean s.pgn) (cm_heard s frame now) (s, fates.GoesOn) (cm_fresh s frame now) (inr refl)

at_cm : (key : Key) (frame : CmFrame) (now n : ℕ) (h : Heard) → n ≤ now + T1 * 1000 → NoneDueBefore n h.0 → NoneDueBefore n (cm_taken key frame now h).0
at_cm key frame now n h later d = at_session (λ s. heard s frame now) now (λ s. heard_fresh s frame now) key n h later d

at_packet : (key : Key) (sequence : ℕ) (bytes : List ℕ) (now n : ℕ) (h : Heard) → n ≤ now + T1 * 1000 → NoneDueBefore n h.0 → NoneDueBefore n (packet_taken key sequence bytes now h).0
at_packet key sequence bytes now n h later d = at_session (λ s. sequence_heard key.to s sequence bytes now) now (λ s. sequence_fresh key.to s sequence bytes now) key n h later d

abbrev by_abort : Key → Address → ℕ → ℕ → Heard → Option Session → Heard
by_abort key who reason pgn h o = elim o [ None ↦ h | Some s ↦ settled key (abort_heard s who reason pgn) h ]

at_abort : (key : Key) (who : Address) (reason pgn n : ℕ) (h : Heard) → NoneDueBefore n h.0 → NoneDueBefore n (abort_taken key who reason pgn h).0
at_abort key who reason pgn n h d = elim (session_at key h.0) as (λ o. NoneDueBefore n (by_abort key who reason pgn h o).0) [ None ↦ d | Some s ↦ at_fate key (abort_heard s who reason pgn) n h d ]

one_of : (n : ℕ) (b : Bool) (x y : Heard) → NoneDueBefore n x.0 → NoneDueBefore n y.0 → NoneDueBefore n (if b then x else y).0
one_of n true x y p q = p
one_of n false x y p q = q

at_aborts : (way : Way) (kind : Kind) (reason pgn n : ℕ) (h : Heard) → NoneDueBefore n h.0 → NoneDueBefore n (aborted way kind reason pgn h).0
at_aborts way kind reason pgn n h d =
    one_of n (is_of (key_of way kind) pgn h.0 || is_of (key_back way kind) pgn h.0) (both_aborted way kind reason pgn h) (h.0, h.1 ++ Aborted (key_of way kind) (clean pgn) reason way.from ∷ [])
    (at_abort (key_back way kind) way.from reason pgn n (abort_taken (key_of way kind) way.from reason pgn h) (at_abort (key_of way kind) way.from reason pgn n h d)) d

at_renewal : (key : Key) (now n : ℕ) (es : Sessions) → n ≤ now + T1 * 1000 → NoneDueBefore n es → NoneDueBefore n (renewed_at key now es)
at_renewal key now n es later d = elim (session_at key es) as (λ o. NoneDueBefore n (by_renewed key now es o)) [ None ↦ d | Some s ↦ put_now key n now (renewed s now) es later refl d ]

at_opening : (key : Key) (news : News) (most now n : ℕ) (h : Heard) → n ≤ now + T1 * 1000 → NoneDueBefore n h.0 → NoneDueBefore n (opened_at key news most now h).0
at_opening key news most now n h later d =
    let long : Heard = (h.0, h.1 ++ Lost key (clean news.pgn) 0 news.size TooLong ∷ []) in
    let wrong : Heard = (h.0, h.1 ++ Lost key (clean news.pgn) 0 news.size Unsound ∷ []) in
    let begun : Heard = (put key (opened key.transport news.pgn news.size now) h.0, h.1) in
    one_of n (not news.is_sound) wrong (if nat_lt most news.size then long else begun) d
    (one_of n (nat_lt most news.size) long begun d (put_now key n now (opened key.transport news.pgn news.size now) h.0 later refl d))

at_news : (key : Key) (news : News) (most now n : ℕ) (h : Heard) → n ≤ now + T1 * 1000 → NoneDueBefore n h.0 → NoneDueBefore n (announced key news most now h).0
at_news key news most now n h later d =
    let before : Heard = settled key (fates.Lost Replaced) h in
    one_of n (is_again_at key news.pgn news.size h.0) (renewed_at key now h.0, h.1) (opened_at key news most now before)
    (at_renewal key now n h.0 later d) (at_opening key news most now n before later (at_fate key (fates.Lost Replaced) n h d))

at_cm_frame : (way : Way) (frame : CmFrame) (most now n : ℕ) (h : Heard) → n ≤ now + T1 * 1000 → NoneDueBefore n h.0 → NoneDueBefore n (cm_frame_taken way frame most now h).0
unfolding cm_frame_taken
at_cm_frame way (frames.Rts size packets window pgn) most now n h later d = at_news (key_of way Tp) (tp_news pgn size packets) most now n h later d
at_cm_frame way (frames.Cts granted next pgn) most now n h later d = at_cm (key_back way Tp) (frames.Cts granted next pgn) now n h later d
at_cm_frame way (frames.EndOfMsgAck size packets pgn) most now n h later d = at_cm (key_back way Tp) (frames.EndOfMsgAck size packets pgn) now n h later d
at_cm_frame way (frames.Bam size packets pgn) most now n h later d = at_news (key_of way Tp) (tp_news pgn size packets) most now n h later d
at_cm_frame way (frames.Abort reason pgn) most now n h later d = at_aborts way Tp reason pgn n h d
at_cm_frame way (frames.EtpRts size pgn) most now n h later d = at_news (key_of way Etp) (etp_news pgn size) most now n h later d
at_cm_frame way (frames.EtpCts granted next pgn) most now n h later d = at_cm (key_back way Etp) (frames.EtpCts granted next pgn) now n h later d
at_cm_frame way (frames.EtpDpo packets offset pgn) most now n h later d = at_cm (key_of way Etp) (frames.EtpDpo packets offset pgn) now n h later d
at_cm_frame way (frames.EtpEoma size pgn) most now n h later d = at_cm (key_back way Etp) (frames.EtpEoma size pgn) now n h later d
at_cm_frame way (frames.EtpAbort reason pgn) most now n h later d = at_aborts way Etp reason pgn n h d

at_wire : (way : Way) (wire : Wire) (most now n : ℕ) (h : Heard) → n ≤ now + T1 * 1000 → NoneDueBefore n h.0 → NoneDueBefore n (wire_taken way wire most now h).0
unfolding wire_taken
at_wire way (Cm frame) most now n h later d = at_cm_frame way frame most now n h later d
at_wire way (Packet kind sequence bytes) most now n h later d = at_packet (key_of way kind) sequence bytes now n h later d
at_wire way (Request pgn) most now n h later d = d
at_wire way (Ack control address pgn) most now n h later d = d

abbrev by_reading : Iface → (most now : ℕ) → Heard → Option (Wire × Address × Address) → Heard
by_reading iface most now h o = elim o [ None ↦ h | Some r ↦ wire_taken (record { iface = iface; from = r.1; to = r.2 }) r.0 most now h ]

pub at_frame : (iface : Iface) (frame : CanFrame) (most now n : ℕ) (h : Heard) → n ≤ now + T1 * 1000 → NoneDueBefore n h.0 → NoneDueBefore n (frame_taken iface frame most now h).0
at_frame iface frame most now n h later d = elim (reading frame) as (λ o. NoneDueBefore n (by_reading iface most now h o).0) [ None ↦ d | Some r ↦ at_wire (record { iface = iface; from = r.1; to = r.2 }) r.0 most now n h later d ]
