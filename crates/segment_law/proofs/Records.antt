-- How a record goes on.
use Rattle.std.proofs.Common.{◌≡◌, true, ◌&&◌, List, [], ◌∷◌, ◌++◌, refl, sym, ap, ◌∙◌, subst}
use Rattle.std.proofs.lemmas.List.{map-append}
use Rattle.std.specs.List.{list_all}
use Rattle.std.proofs.lemmas.List.Folds.{list_all-append}
use Rattle.pgn_ids.specs.declared.address.Address.{Address}
use Rattle.segment_law.specs.Segment.{Segment, new_segment}
use Rattle.segment_law.specs.Calls.{applied, is_call}
use Rattle.segment_law.specs.Record.{Step, Record, replies_from, after, calls_of, replies_of, StandsAt}
use Rattle.segment_law.specs.Reached.{IsReached}
use Rattle.segment_law.specs.declared.call.Call.{Call}
use Rattle.segment_law.specs.declared.reply.Reply.{Reply}
use Rattle.segment_law.proofs.Booleans.{both, both_pass}
use Rattle.segment_law.proofs.Reaching.{reached_call}
use Rattle.segment_law.proofs.New.{new_reached}

-- calls and further calls
pub after-append : (seg : Segment) (calls more : List Call) → after seg (calls ++ more) ≡ after (after seg calls) more
after-append seg [] more = refl
after-append seg (call ∷ calls) more = after-append (applied seg call).0 calls more

replies-append : (seg : Segment) (calls more : List Call) → replies_from seg (calls ++ more) ≡ replies_from seg calls ++ replies_from (after seg calls) more
replies-append seg [] more = refl
replies-append seg (call ∷ calls) more = ap (λ (rs : List Reply). (applied seg call).1 ∷ rs) (replies-append (applied seg call).0 calls more)

-- a segment that stands at a record stands, after further calls, at the record followed by them and their replies
pub stands_on : (addresses : List Address) (steps more : Record) (seg : Segment) → StandsAt addresses steps seg → list_all is_call (calls_of more) ≡ true → replies_from seg (calls_of more) ≡ replies_of more → StandsAt addresses (steps ++ more) (after seg (calls_of more))
stands_on addresses steps more seg h fit replies =
    let calls : calls_of (steps ++ more) ≡ calls_of steps ++ calls_of more = map-append (λ (s : Step). s.0) steps more in
    let told : replies_of (steps ++ more) ≡ replies_of steps ++ replies_of more = map-append (λ (s : Step). s.1) steps more in
    let new : Segment = new_segment addresses in
    record {
      addresses_fit = h.addresses_fit;
      calls_fit = ap (list_all is_call) calls ∙ list_all-append is_call (calls_of steps) (calls_of more) ∙ both _ _ h.calls_fit fit;
      replies =
          ap (replies_from new) calls
          ∙ replies-append new (calls_of steps) (calls_of more)
          ∙ (λ i. h.replies i ++ replies_from (h.state i) (calls_of more))
          ∙ ap (λ (rs : List Reply). replies_of steps ++ rs) replies
          ∙ sym told;
      state = ap (after new) calls ∙ after-append new (calls_of steps) (calls_of more) ∙ ap (λ (s : Segment). after s (calls_of more)) h.state;
    }

pub call_goes_on : (addresses : List Address) (steps : Record) (seg : Segment) (call : Call) → StandsAt addresses steps seg → is_call call ≡ true → StandsAt addresses (steps ++ (call, (applied seg call).1) ∷ []) (applied seg call).0
call_goes_on addresses steps seg call h fit = stands_on addresses steps ((call, (applied seg call).1) ∷ []) seg h (both (is_call call) true fit refl) refl

-- the beginning of a record is one
pub beginning_stands : (addresses : List Address) (steps more : Record) (seg : Segment) → StandsAt addresses (steps ++ more) seg → StandsAt addresses steps (after (new_segment addresses) (calls_of steps))
beginning_stands addresses steps more seg h =
    let new : Segment = new_segment addresses in
    let calls : calls_of (steps ++ more) ≡ calls_of steps ++ calls_of more = map-append (λ (s : Step). s.0) steps more in
    let told : replies_of (steps ++ more) ≡ replies_of steps ++ replies_of more = map-append (λ (s : Step). s.1) steps more in
    let fits : (list_all is_call (calls_of steps) && list_all is_call (calls_of more)) ≡ true = sym (list_all-append is_call (calls_of steps) (calls_of more)) ∙ sym (ap (list_all is_call) calls) ∙ h.calls_fit in
    let all : replies_from new (calls_of steps) ++ replies_from (after new (calls_of steps)) (calls_of more) ≡ replies_of steps ++ replies_of more =
    sym (replies-append new (calls_of steps) (calls_of more)) ∙ sym (ap (replies_from new) calls) ∙ h.replies ∙ told in
    record {
      addresses_fit = h.addresses_fit;
      calls_fit = (both_pass (list_all is_call (calls_of steps)) (list_all is_call (calls_of more)) fits).0;
      replies = front steps new (replies_from (after new (calls_of steps)) (calls_of more)) (replies_of more) all;
      state = refl;
    }
  where
    tail : (a b : Reply) (x y : List Reply) → a ∷ x ≡ b ∷ y → (a ≡ b) × (x ≡ y)
    tail a b x y e = (cc, cc)

    front : (steps : Record) (seg : Segment) (x y : List Reply) → replies_from seg (calls_of steps) ++ x ≡ replies_of steps ++ y → replies_from seg (calls_of steps) ≡ replies_of steps
    front [] seg x y e = refl
    front (s ∷ steps) seg x y e =
        let t : ((applied seg s.0).1 ≡ s.1) × (replies_from (applied seg s.0).0 (calls_of steps) ++ x ≡ replies_of steps ++ y) = tail _ _ _ _ e in
        let rest : replies_from (applied seg s.0).0 (calls_of steps) ≡ replies_of steps = front steps (applied seg s.0).0 x y t.1 in
        λ i. t.0 i ∷ rest i

-- what calls lead to is reached
reached_calls : (calls : List Call) (seg : Segment) → IsReached seg → list_all is_call calls ≡ true → IsReached (after seg calls)
reached_calls [] seg r fit = r
reached_calls (call ∷ calls) seg r fit =
    let h : (is_call call ≡ true) × (list_all is_call calls ≡ true) = both_pass (is_call call) (list_all is_call calls) fit in
    reached_calls calls (applied seg call).0 (reached_call seg r call h.0) h.1

pub stands_reached : (addresses : List Address) (steps : Record) (seg : Segment) → StandsAt addresses steps seg → IsReached seg
stands_reached addresses steps seg h = subst IsReached h.state (reached_calls (calls_of steps) (new_segment addresses) (new_reached addresses h.addresses_fit) h.calls_fit)
