-- Frames of other messages change nothing of what a listener has of one key, and is told of it.
use Rattle.std.proofs.Common.{◌≡◌, ℕ, List, [], ◌∷◌, ◌++◌, Bool, true, false, not, cond, Option, Some, None, refl, sym, ap, ◌∙◌, if◌then◌else◌, option_to_list, ◌||◌}
use Rattle.std.specs.Prelude.{nat_lt}
use Rattle.std.specs.List.{list_any}
use Rattle.std.proofs.lemmas.List.{append-nil}
use Rattle.bus_frame.specs.Frames.{CanFrame}
use Rattle.log_fields.specs.declared.iface.Iface.{Iface}
use Rattle.pgn_ids.specs.Pgn.{clean}
use Rattle.pgn_ids.specs.declared.address.Address.{Address}
use Rattle.tp_wire.specs.Reading.{reading}
use Rattle.tp_wire.specs.declared.wire.Kind.{Kind}
use Rattle.tp_wire.specs.declared.wire.Kind.TheVariants.{Tp, Etp}
use Rattle.tp_wire.specs.declared.wire.CmFrame.{CmFrame}
use Rattle.tp_wire.specs.declared.wire.CmFrame.TheVariants as frames
use Rattle.tp_wire.specs.declared.wire.Wire.{Wire}
use Rattle.tp_wire.specs.declared.wire.Wire.TheVariants.{Cm, Packet, Request, Ack}
use Rattle.log_reports.specs.contracts.key.KeyEq.TheImpl.Laws.{laws-law}
use Rattle.log_reports.specs.Keys.{same_key, same_iface}
use Rattle.log_decode.specs.Ways.{key_of, key_back}
use Rattle.log_decode.specs.Belonging.{keys_of_cm, keys_of, is_frame_of, told_of_key}
use Rattle.log_decode.specs.Session.{told_of, opened, renewed, heard, sequence_heard, abort_heard}
use Rattle.log_decode.specs.Sessions.{Sessions, Heard, session_at, put, without, ended_at, settled, heard_at, renewed_at, is_again_at, is_of, not_begun, opened_at, announced, abort_taken}
use Rattle.log_decode.specs.Decoder.{tp_news, etp_news, both_aborted, aborted, cm_frame_taken, wire_taken, frame_taken}
use Rattle.log_reports.specs.declared.key.Key.{Key}
use Rattle.log_decode.specs.declared.way.Way.{Way}
use Rattle.log_decode.specs.declared.session.Session.{Session}
use Rattle.log_decode.specs.declared.session.Fate.{Fate}
use Rattle.log_decode.specs.declared.session.Fate.TheVariants as fates
use Rattle.log_decode.specs.declared.sessions.News.{News}
use Rattle.log_reports.specs.declared.told.Cause.{Cause}
use Rattle.log_reports.specs.declared.told.Cause.TheVariants.{Replaced, Unsound, TooLong}
use Rattle.log_reports.specs.declared.told.Told.{Told}
use Rattle.log_reports.specs.declared.told.Told.TheVariants.{Aborted}
use Rattle.log_decode.proofs.AtKey.{by_session, by_renewed}
use Rattle.log_decode.proofs.Own.{own, of_own, told_other, told_one}

module _ (key : Key) where
  module _ (other : Key) (apart : same_key key other ≡ false) where
    apart_from : (k : Key) → same_key other k ≡ true → same_key key k ≡ false
    apart_from k t = laws-law.symm key k ∙ sym (laws-law.congr other k key t) ∙ laws-law.symm other key ∙ apart

    other_put : (s : Session) (es : Sessions) → own key (put other s es) ≡ own key es
    other_put s [] = rw (apart) refl
    other_put s (e ∷ es) = by (same_key other e.0) refl (other_put s es)
      where
        by : (b : Bool) → same_key other e.0 ≡ b → own key (put other s es) ≡ own key es → own key (put other s (e ∷ es)) ≡ own key (e ∷ es)
        by true t others = rw (t) (rw (apart_from e.0 t) refl)
        by false t others = rw (t) (ap (λ ys. cond (same_key key e.0) (e ∷ ys) ys) others)

    other_without : (es : Sessions) → own key (without other es) ≡ own key es
    other_without [] = refl
    other_without (e ∷ es) = by (same_key other e.0) refl (other_without es)
      where
        by : (b : Bool) → same_key other e.0 ≡ b → own key (without other es) ≡ own key es → own key (without other (e ∷ es)) ≡ own key (e ∷ es)
        by true t others = rw (t) (rw (apart_from e.0 t) refl)
        by false t others = rw (t) (ap (λ ys. cond (same_key key e.0) (e ∷ ys) ys) others)

    nothing_told : (t : List Told) → told_of_key key t ++ [] ≡ told_of_key key t
    nothing_told t = append-nil (told_of_key key t)

    abbrev by_end : Fate → Heard → Option Session → Heard
    by_end fate h o = elim o [ None ↦ h | Some s ↦ (without other h.0, h.1 ++ option_to_list (told_of other s fate)) ]

    other_ended : (fate : Fate) (h : Heard) → of_own key (ended_at other fate h) ≡ of_own key h
    other_ended fate h = elim (session_at other h.0) as (λ o. of_own key (by_end fate h o) ≡ of_own key h) [
      | None ↦ refl
      | Some s ↦ (λ i. (other_without h.0 i, told_other key other s fate h.1 apart i))
    ]

    other_settled : (fate : Fate) (h : Heard) → of_own key (settled other fate h) ≡ of_own key h
    other_settled fates.GoesOn h = refl
    other_settled fates.Given h = other_ended fates.Given h
    other_settled (fates.Lost cause) h = other_ended (fates.Lost cause) h
    other_settled (fates.Aborted reason who) h = other_ended (fates.Aborted reason who) h

    other_heard : (f : Session → Session × Fate) (h : Heard) → of_own key (heard_at f other h) ≡ of_own key h
    other_heard f h = elim (session_at other h.0) as (λ o. of_own key (by_session f other h o) ≡ of_own key h) [
      | None ↦ refl
      | Some s ↦ other_settled (f s).1 (put other (f s).0 h.0, h.1) ∙ (λ i. (other_put (f s).0 h.0 i, told_of_key key h.1))
    ]

    other_renewed : (now : ℕ) (es : Sessions) → own key (renewed_at other now es) ≡ own key es
    other_renewed now es = elim (session_at other es) as (λ o. own key (by_renewed other now es o) ≡ own key es) [ None ↦ refl | Some s ↦ other_put (renewed s now) es ]

    other_opened : (news : News) (most now : ℕ) (h : Heard) → of_own key (opened_at other news most now h) ≡ of_own key h
    other_opened news most now h = either news.is_sound (nat_lt most news.size)
      where
        refused : (cause : Cause) → of_own key (h.0, h.1 ++ not_begun other news cause ∷ []) ≡ of_own key h
        refused cause i = (own key h.0, (told_one key (not_begun other news cause) h.1 false apart ∙ nothing_told h.1) i)

        either : (a b : Bool) → of_own key (if not a then (h.0, h.1 ++ not_begun other news Unsound ∷ []) else if b then (h.0, h.1 ++ not_begun other news TooLong ∷ []) else (put other (opened other.transport news.pgn news.size now) h.0, h.1)) ≡ of_own key h
        either false b = refused Unsound
        either true true = refused TooLong
        either true false = (λ i. (other_put (opened other.transport news.pgn news.size now) h.0 i, told_of_key key h.1))

    other_announced : (news : News) (most now : ℕ) (h : Heard) → of_own key (announced other news most now h) ≡ of_own key h
    other_announced news most now h = either (is_again_at other news.pgn news.size h.0)
      where
        either : (b : Bool) → of_own key (if b then (renewed_at other now h.0, h.1) else opened_at other news most now (settled other (fates.Lost Replaced) h)) ≡ of_own key h
        either true = (λ i. (other_renewed now h.0 i, told_of_key key h.1))
        either false = other_opened news most now (settled other (fates.Lost Replaced) h) ∙ other_settled (fates.Lost Replaced) h

    other_abort : (who : Address) (reason pgn : ℕ) (h : Heard) → of_own key (abort_taken other who reason pgn h) ≡ of_own key h
    other_abort who reason pgn h = elim (session_at other h.0) as (λ o. of_own key (elim o [ None ↦ h | Some s ↦ settled other (abort_heard s who reason pgn) h ]) ≡ of_own key h) [ None ↦ refl | Some s ↦ other_settled (abort_heard s who reason pgn) h ]

  other_aborts : (way : Way) (kind : Kind) (reason pgn : ℕ) (h : Heard) → same_key key (key_of way kind) ≡ false → same_key key (key_back way kind) ≡ false → of_own key (aborted way kind reason pgn h) ≡ of_own key h
  other_aborts way kind reason pgn h apart back = either (is_of (key_of way kind) pgn h.0 || is_of (key_back way kind) pgn h.0)
    where
      either : (b : Bool) → of_own key (if b then both_aborted way kind reason pgn h else (h.0, h.1 ++ Aborted (key_of way kind) (clean pgn) reason way.from ∷ [])) ≡ of_own key h
      either true = other_abort (key_back way kind) back way.from reason pgn (abort_taken (key_of way kind) way.from reason pgn h) ∙ other_abort (key_of way kind) apart way.from reason pgn h
      either false = (λ i. (own key h.0, (told_one key (Aborted (key_of way kind) (clean pgn) reason way.from) h.1 false apart ∙ append-nil (told_of_key key h.1)) i))

  first_of_two : (a b : Bool) → (a || b) ≡ false → a ≡ false
  first_of_two true b e = e
  first_of_two false b e = refl

  second_of_two : (a b : Bool) → (a || b) ≡ false → b ≡ false
  second_of_two true b e = absurd (let no : true ≡ false = e in cc)
  second_of_two false b e = e

  one_apart : (k : Key) → list_any (same_key key) (k ∷ []) ≡ false → same_key key k ≡ false
  one_apart k e = first_of_two (same_key key k) false e

  two_apart : (k j : Key) → list_any (same_key key) (k ∷ j ∷ []) ≡ false → same_key key j ≡ false
  two_apart k j e = one_apart j (second_of_two (same_key key k) (list_any (same_key key) (j ∷ [])) e)

  other_cm : (way : Way) (frame : CmFrame) (most now : ℕ) (h : Heard) → list_any (same_key key) (keys_of_cm way frame) ≡ false → of_own key (cm_frame_taken way frame most now h) ≡ of_own key h
  unfolding cm_frame_taken
  other_cm way (frames.Rts size packets window pgn) most now h e = other_announced (key_of way Tp) (one_apart (key_of way Tp) e) (tp_news pgn size packets) most now h
  other_cm way (frames.Cts granted next pgn) most now h e = other_heard (key_back way Tp) (one_apart (key_back way Tp) e) (λ s. heard s (frames.Cts granted next pgn) now) h
  other_cm way (frames.EndOfMsgAck size packets pgn) most now h e = other_heard (key_back way Tp) (one_apart (key_back way Tp) e) (λ s. heard s (frames.EndOfMsgAck size packets pgn) now) h
  other_cm way (frames.Bam size packets pgn) most now h e = other_announced (key_of way Tp) (one_apart (key_of way Tp) e) (tp_news pgn size packets) most now h
  other_cm way (frames.Abort reason pgn) most now h e = other_aborts way Tp reason pgn h (first_of_two (same_key key (key_of way Tp)) (list_any (same_key key) (key_back way Tp ∷ [])) e) (two_apart (key_of way Tp) (key_back way Tp) e)
  other_cm way (frames.EtpRts size pgn) most now h e = other_announced (key_of way Etp) (one_apart (key_of way Etp) e) (etp_news pgn size) most now h
  other_cm way (frames.EtpCts granted next pgn) most now h e = other_heard (key_back way Etp) (one_apart (key_back way Etp) e) (λ s. heard s (frames.EtpCts granted next pgn) now) h
  other_cm way (frames.EtpDpo packets offset pgn) most now h e = other_heard (key_of way Etp) (one_apart (key_of way Etp) e) (λ s. heard s (frames.EtpDpo packets offset pgn) now) h
  other_cm way (frames.EtpEoma size pgn) most now h e = other_heard (key_back way Etp) (one_apart (key_back way Etp) e) (λ s. heard s (frames.EtpEoma size pgn) now) h
  other_cm way (frames.EtpAbort reason pgn) most now h e = other_aborts way Etp reason pgn h (first_of_two (same_key key (key_of way Etp)) (list_any (same_key key) (key_back way Etp ∷ [])) e) (two_apart (key_of way Etp) (key_back way Etp) e)

  other_wire : (way : Way) (wire : Wire) (most now : ℕ) (h : Heard) → list_any (same_key key) (keys_of way wire) ≡ false → of_own key (wire_taken way wire most now h) ≡ of_own key h
  unfolding wire_taken
  other_wire way (Cm frame) most now h e = other_cm way frame most now h e
  other_wire way (Packet kind sequence bytes) most now h e = other_heard (key_of way kind) (one_apart (key_of way kind) e) (λ s. sequence_heard (key_of way kind).to s sequence bytes now) h
  other_wire way (Request pgn) most now h e = refl
  other_wire way (Ack control address pgn) most now h e = refl

  pub other_frame : (iface : Iface) (frame : CanFrame) (most now : ℕ) (h : Heard) → is_frame_of key iface frame ≡ false → of_own key (frame_taken iface frame most now h) ≡ of_own key h
  other_frame iface frame most now h =
      elim (reading frame) as (λ r. elim r [ None ↦ false | Some r ↦ list_any (same_key key) (keys_of (record { iface = iface; from = r.1; to = r.2 }) r.0) ] ≡ false
      → of_own key (elim r [ None ↦ h | Some r ↦ wire_taken (record { iface = iface; from = r.1; to = r.2 }) r.0 most now h ]) ≡ of_own key h) [
        | None ↦ λ e. refl
        | Some r ↦ λ e. other_wire (record { iface = iface; from = r.1; to = r.2 }) r.0 most now h e
      ]

  -- ---- a frame of the message is one of its interface

  no_cm : (iface : Iface) (from to : Address) (frame : CmFrame) → same_iface key.iface iface ≡ false → list_any (same_key key) (keys_of_cm (record { iface = iface; from = from; to = to }) frame) ≡ false
  no_cm iface from to (frames.Rts size packets window pgn) e = rw (e) refl
  no_cm iface from to (frames.Cts granted next pgn) e = rw (e) refl
  no_cm iface from to (frames.EndOfMsgAck size packets pgn) e = rw (e) refl
  no_cm iface from to (frames.Bam size packets pgn) e = rw (e) refl
  no_cm iface from to (frames.Abort reason pgn) e = rw (e) refl
  no_cm iface from to (frames.EtpRts size pgn) e = rw (e) refl
  no_cm iface from to (frames.EtpCts granted next pgn) e = rw (e) refl
  no_cm iface from to (frames.EtpDpo packets offset pgn) e = rw (e) refl
  no_cm iface from to (frames.EtpEoma size pgn) e = rw (e) refl
  no_cm iface from to (frames.EtpAbort reason pgn) e = rw (e) refl

  none_elsewhere : (iface : Iface) (from to : Address) (wire : Wire) → same_iface key.iface iface ≡ false → list_any (same_key key) (keys_of (record { iface = iface; from = from; to = to }) wire) ≡ false
  none_elsewhere iface from to (Cm frame) e = no_cm iface from to frame e
  none_elsewhere iface from to (Packet kind sequence bytes) e = rw (e) refl
  none_elsewhere iface from to (Request pgn) e = refl
  none_elsewhere iface from to (Ack control address pgn) e = refl

  pub frame_elsewhere : (iface : Iface) (frame : CanFrame) → same_iface key.iface iface ≡ false → is_frame_of key iface frame ≡ false
  frame_elsewhere iface frame e =
      elim (reading frame) as (λ r. elim r [ None ↦ false | Some r ↦ list_any (same_key key) (keys_of (record { iface = iface; from = r.1; to = r.2 }) r.0) ] ≡ false) [ None ↦ refl | Some r ↦ none_elsewhere iface r.1 r.2 r.0 e ]
