-- A frame that opens a session tells nothing, whether it opens or not.
use Rattle.std.proofs.Common.{◌≡◌, ℕ, Bool, [], Option, Some, None, refl}
use Rattle.pgn_ids.specs.declared.address.Address.{Address}
use Rattle.tp_wire.specs.declared.reason.AbortReason.{AbortReason}
use Rattle.tp_wire.specs.declared.wire.CmFrame.{CmFrame}
use Rattle.tp_wire.specs.declared.wire.CmFrame.TheVariants.{Rts, Cts, EndOfMsgAck, Bam, Abort, EtpRts, EtpCts, EtpDpo, EtpEoma, EtpAbort}
use Rattle.port_table.specs.Ports.{Ports}
use Rattle.session_table.specs.declared.key.SessionKind.TheVariants as session
use Rattle.station_sessions.specs.Receiving.{Inbound, Reception}
use Rattle.station_sessions.specs.Opening.{key_of, refusal, is_tp_size, is_etp_size, set_for, others_than, opening_received}

untold_by : (o : Option AbortReason) (opened : Reception) (refused : AbortReason → Reception) → opened.events ≡ [] → ((reason : AbortReason) → (refused reason).events ≡ []) → (let step : Reception = elim o [ None ↦ opened | Some reason ↦ refused reason ] in step.events ≡ [])
untold_by None opened refused e r = e
untold_by (Some reason) opened refused e r = r reason

module _ (own : Address) (ports : Ports) (from : Address) (room : Bool) (now : ℕ) (sessions : Inbound) where
  pub opening_untold : (frame : CmFrame) → (opening_received own ports frame from room now sessions).events ≡ []
  opening_untold (Rts size packets most pgn) = untold_by (refusal (is_tp_size size packets) room (set_for ports pgn size) (others_than sessions (key_of from session.Tp))) _ _ refl (λ _. refl)
  opening_untold (Cts granted next pgn) = refl
  opening_untold (EndOfMsgAck size packets pgn) = refl
  opening_untold (Bam size packets pgn) = untold_by (refusal (is_tp_size size packets) room (set_for ports pgn size) (others_than sessions (key_of from session.Broadcast))) _ _ refl (λ _. refl)
  opening_untold (Abort reason pgn) = refl
  opening_untold (EtpRts size pgn) = untold_by (refusal (is_etp_size size) room (set_for ports pgn size) (others_than sessions (key_of from session.Etp))) _ _ refl (λ _. refl)
  opening_untold (EtpCts granted next pgn) = refl
  opening_untold (EtpDpo packets offset pgn) = refl
  opening_untold (EtpEoma size pgn) = refl
  opening_untold (EtpAbort reason pgn) = refl
