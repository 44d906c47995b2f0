-- The announcement of a message that no transport refuses opens it behind the others.
use Rattle.std.proofs.Common.{◌≡◌, ℕ, ◌+◌, ◌≤◌, ◌==◌, List, true, false, nat_lt, None, refl, ap}
use Rattle.std.specs.Prelude.{nat_le}
use Rattle.std.proofs.lemmas.Bool.{le-leb, le-ltb, eq-eqb}
use Rattle.tp_wire.specs.declared.constants.TheConstants.{MIN_SIZE, TP_MAX_SIZE, ETP_MAX_SIZE}
use Rattle.seg_cut.specs.Packets.{packet_count}
use Rattle.log_decode.specs.Session.{opened}
use Rattle.log_decode.specs.Sessions.{Sessions, session_at, ended_at, is_again_at, announced}
use Rattle.log_decode.specs.Decoder.{tp_news, etp_news}
use Rattle.log_reports.specs.declared.key.Key.{Key}
use Rattle.log_reports.specs.declared.told.Told.{Told}
use Rattle.decode_law.proofs.Entries.{behind, put_new}

module _ (key : Key) (es : Sessions) (told : List Told) (pgn len most now : ℕ) (free : session_at key es ≡ None) (room : len ≤ most) where
  fits : nat_lt most len ≡ false
  fits = le-ltb most len room

  pub tp_opens : MIN_SIZE ≤ len → len ≤ TP_MAX_SIZE → announced key (tp_news pgn len (packet_count len)) most now (es, told) ≡ (behind key es (opened key.transport pgn len now), told)
  tp_opens least short =
      let a : nat_le MIN_SIZE len ≡ true = le-leb MIN_SIZE len least in
      let b : nat_le len TP_MAX_SIZE ≡ true = le-leb len TP_MAX_SIZE short in
      let e : (packet_count len == packet_count len) ≡ true = eq-eqb (packet_count len) (packet_count len) refl in
      rw (free, is_again_at, ended_at, a, b, e, fits) (ap (λ xs. (xs, told)) (put_new key es (opened key.transport pgn len now) free))

  pub etp_opens : TP_MAX_SIZE + 1 ≤ len → len ≤ ETP_MAX_SIZE → announced key (etp_news pgn len) most now (es, told) ≡ (behind key es (opened key.transport pgn len now), told)
  etp_opens long most' =
      let a : nat_le (TP_MAX_SIZE + 1) len ≡ true = le-leb (TP_MAX_SIZE + 1) len long in
      let b : nat_le len ETP_MAX_SIZE ≡ true = le-leb len ETP_MAX_SIZE most' in
      rw (free, is_again_at, ended_at, a, b, fits) (ap (λ xs. (xs, told)) (put_new key es (opened key.transport pgn len now) free))
