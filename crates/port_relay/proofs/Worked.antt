-- What a message that is submitted adds, and what a worker has done, by other names.
use Rattle.std.proofs.Common.{◌≡◌, ◌+◌, ◌≤◌, [], ◌∷◌, ◌++◌, map, length, Some, None, true, false, sym, ap, ◌∙◌, subst, append_assoc, length-append, arith}
use Rattle.std.proofs.lemmas.List.{append-nil, map-append}
use Rattle.std.proofs.lemmas.List.Elements.{All-push}
use Rattle.pgn_ids.specs.declared.address.Address.{Address}
use Rattle.segment_rings.specs.declared.words.Delivery.{Delivery}
use Rattle.segment_rings.specs.Ends.{ClientEnd, InboxEnd, submits}
use Rattle.segment_rings.specs.Submitting.{why_refused}
use Rattle.port_relay.specs.declared.line.Log.{Log}
use Rattle.port_relay.specs.declared.working.Worked.{Worked}
use Rattle.port_relay.specs.Line.{log, in_hand}
use Rattle.port_relay.specs.Working.{relayed_to, IsFit, HasPulled, HasPushed}

pub submitted_one : (to : Address) (start now next : ClientEnd) (v : Log) (d : Delivery) (w : Worked) → HasPushed to start now v w → w.hand ≡ Some d
    → next ≡ submits now to d.pgn d.bytes next.free next.gone → now.gone ≤ next.gone → why_refused now.station to d.pgn (length d.bytes) ≡ None → HasPushed to start next v record { count = w.count + 1; hand = None }
submitted_one to start now next v d w h e f m g = record {
  pushed = h.pushed ++ d ∷ [];
  view = h.view ∙ ap (λ o. log false true [] (h.pushed ++ in_hand o)) e ∙ ap (λ ds. log false true [] ds) (sym (append-nil (h.pushed ++ d ∷ [])));
  client = f ∙ ap (λ (n : ClientEnd). submits n to d.pgn d.bytes next.free next.gone) h.client
      ∙ ap (λ ss. record start { submitted = ss; free = next.free; gone = next.gone }) (append_assoc start.submitted (map (relayed_to to) h.pushed) (relayed_to to d ∷ []) ∙ ap (λ ss. start.submitted ++ ss) (sym (map-append (relayed_to to) h.pushed (d ∷ []))));
  gone = omega (arith, h.gone, m);
  count = omega (arith, h.count, length-append h.pushed (d ∷ []));
  fit = All-push (IsFit start.station to) h.pushed d h.fit (subst (λ a. why_refused a to d.pgn (length d.bytes) ≡ None) (ap (λ (n : ClientEnd). n.station) h.client) g);
}

pub carried : (start a b : InboxEnd) (v w : Log) (x y : Worked) → a ≡ b → v ≡ w → x ≡ y → HasPulled start b w y → HasPulled start a v x
carried start a b v w x y e f g h = subst (λ (t : InboxEnd × Log × Worked). HasPulled start t.0 t.1 t.2) (λ i. (sym e i, sym f i, sym g i)) h
