-- One induction for every law: what each call carries on, from what comes after it, holds along every record. What a law says
-- of the record so far, it says of all that is still to come.
use Rattle.std.proofs.Common.{◌≡◌, true, List, [], ◌∷◌, ◌++◌, sym, subst, append-nil, append_assoc}
use Rattle.std.specs.List.{list_all}
use Rattle.pgn_ids.specs.declared.address.Address.{Address}
use Rattle.segment_law.specs.Segment.{Segment, new_segment}
use Rattle.segment_law.specs.Calls.{applied, is_call}
use Rattle.segment_law.specs.Record.{Record, StandsAt, replies_from, after, calls_of, replies_of}
use Rattle.segment_law.specs.Reached.{IsReached}
use Rattle.segment_law.specs.declared.call.Call.{Call}
use Rattle.segment_law.specs.declared.reply.Reply.{Reply}
use Rattle.segment_law.proofs.Booleans.{both_pass}
use Rattle.segment_law.proofs.New.{new_reached}
use Rattle.segment_law.proofs.Reaching.{reached_call}

module _ (P : Segment → Record → Type 0) (none : (seg : Segment) → IsReached seg → P seg [])
    (one : (seg : Segment) (call : Call) (rest : Record) → IsReached seg → is_call call ≡ true → P (applied seg call).0 rest → P seg ((call, (applied seg call).1) ∷ rest)) where
  -- from a segment, along the steps that are still to come
  pub along : (steps : Record) (seg : Segment) → IsReached seg → list_all is_call (calls_of steps) ≡ true → replies_from seg (calls_of steps) ≡ replies_of steps → P seg steps
  along [] seg r fit replies = none seg r
  along (step ∷ steps) seg r fit replies =
      let f : (is_call step.0 ≡ true) × (list_all is_call (calls_of steps) ≡ true) = both_pass (is_call step.0) (list_all is_call (calls_of steps)) fit in
      let next : Segment = (applied seg step.0).0 in
      let reply : (applied seg step.0).1 ≡ step.1 = cc in
      let rest : replies_from next (calls_of steps) ≡ replies_of steps = cc in
      subst (λ (x : Reply). P seg ((step.0, x) ∷ steps)) reply (one seg step.0 steps r f.0 (along steps next (reached_call seg r step.0 f.0) f.1 rest))

  -- from the beginning
  pub along_record : (addresses : List Address) (steps : Record) (seg : Segment) → StandsAt addresses steps seg → P (new_segment addresses) steps
  along_record addresses steps seg h = along steps (new_segment addresses) (new_reached addresses h.addresses_fit) h.calls_fit h.replies

-- what each call keeps of the segment and of the record so far
module _ (P : Record → Segment → Type 0)
    (one : (steps : Record) (seg : Segment) (call : Call) → IsReached seg → is_call call ≡ true → P steps seg → P (steps ++ (call, (applied seg call).1) ∷ []) (applied seg call).0) where
  abbrev Carried : Segment → Record → Type 0
  Carried seg todo = (steps : Record) → P steps seg → P (steps ++ todo) (after seg (calls_of todo))

  pub carried : (todo : Record) (seg : Segment) → IsReached seg → list_all is_call (calls_of todo) ≡ true → replies_from seg (calls_of todo) ≡ replies_of todo → (steps : Record) → P steps seg → P (steps ++ todo) (after seg (calls_of todo))
  carried = along Carried
      (λ seg r steps h. subst (λ xs. P xs seg) (sym (append-nil steps)) h)
      (λ seg call rest r is go steps h. subst (λ xs. P xs (after (applied seg call).0 (calls_of rest))) (append_assoc steps ((call, (applied seg call).1) ∷ []) rest)
      (go (steps ++ (call, (applied seg call).1) ∷ []) (one steps seg call r is h)))

  pub at_record : (addresses : List Address) (steps : Record) (seg : Segment) → StandsAt addresses steps seg → P [] (new_segment addresses) → P steps seg
  at_record addresses steps seg h begins = subst (P steps) h.state (carried steps (new_segment addresses) (new_reached addresses h.addresses_fit) h.calls_fit h.replies [] begins)
