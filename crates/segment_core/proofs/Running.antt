-- Calls that are made one after another.
use Rattle.std.proofs.Common.{◌≡◌, ℕ, ◌+◌, List, [], ◌∷◌, ◌++◌, length, drop, IsOk, refl, sym, ap, ◌∙◌, subst, append_assoc, arith}
use Rattle.std.proofs.lemmas.List.{append-nil}
use Rattle.std.proofs.lemmas.List.{length_push}
use Rattle.pgn_ids.specs.declared.address.Address.{Address}
use Rattle.segment_law.specs.Segment.{Segment}
use Rattle.segment_law.specs.Calls.{called, applied}
use Rattle.segment_law.specs.Record.{Record, StandsAt, replies_from, after}
use Rattle.segment_law.specs.declared.call.Call.{Call}
use Rattle.segment_law.specs.declared.reply.Reply.{Reply}
use Rattle.segment_core.specs.Runs.{steps_of, FirstIsNotRefused}

-- what was made of these calls, and which are left
pub record Made (before : Segment) (all made rest : List Call) (seg : Segment) (replies : List Reply) : Type 0 where
  pub calls : made ++ rest ≡ all
  pub count : length replies ≡ length made
  pub replied : replies ≡ replies_from before made
  pub segment : seg ≡ after before made
  pub stands : (addresses : List Address) (steps : Record) → StandsAt addresses steps before → StandsAt addresses (steps ++ steps_of made replies) seg

-- one more call
replies_more : (seg : Segment) (calls : List Call) (call : Call) → replies_from seg (calls ++ call ∷ []) ≡ replies_from seg calls ++ (applied (after seg calls) call).1 ∷ []
replies_more seg [] call = refl
replies_more seg (x ∷ calls) call = ap (λ (rs : List Reply). (applied seg x).1 ∷ rs) (replies_more (applied seg x).0 calls call)

after_more : (seg : Segment) (calls : List Call) (call : Call) → after seg (calls ++ call ∷ []) ≡ (applied (after seg calls) call).0
after_more seg [] call = refl
after_more seg (x ∷ calls) call = after_more (applied seg x).0 calls call

steps_more : (calls : List Call) (replies : List Reply) (call : Call) (reply : Reply) → length replies ≡ length calls → steps_of (calls ++ call ∷ []) (replies ++ reply ∷ []) ≡ steps_of calls replies ++ (call, reply) ∷ []
steps_more [] [] call reply h = refl
steps_more [] (r ∷ replies) call reply h = absurd (omega arith)
steps_more (c ∷ calls) [] call reply h = absurd (omega arith)
steps_more (c ∷ calls) (r ∷ replies) call reply h = ap (λ (ss : Record). (c, r) ∷ ss) (steps_more calls replies call reply (omega arith))

-- only the calls so far have their replies
steps_front : (made rest : List Call) (replies : List Reply) → length replies ≡ length made → steps_of (made ++ rest) replies ≡ steps_of made replies
steps_front [] [] replies h = refl
steps_front [] (x ∷ rest) [] h = refl
steps_front [] (x ∷ rest) (r ∷ replies) h = absurd (omega arith)
steps_front (c ∷ made) rest [] h = absurd (omega arith)
steps_front (c ∷ made) rest (r ∷ replies) h = ap (λ (ss : Record). (c, r) ∷ ss) (steps_front made rest replies (omega arith))

pub nothing_made : (before : Segment) (all : List Call) → Made before all [] all before []
nothing_made before all = record { calls = refl; count = refl; replied = refl; segment = refl; stands = λ addresses steps h. subst (λ (ss : Record). StandsAt addresses ss before) (sym (append-nil steps)) h }

pub one_more : (before : Segment) (all made rest : List Call) (seg next : Segment) (replies more : List Reply) (call : Call) (reply : Reply) → Made before all made (call ∷ rest) seg replies → applied seg call ≡ (next, reply) → more ≡ replies ++ reply ∷ []
    → ((addresses : List Address) (steps : Record) → StandsAt addresses steps seg → StandsAt addresses (steps ++ (call, reply) ∷ []) next) → Made before all (made ++ call ∷ []) rest next more
one_more before all made rest seg next replies more call reply h is e stands =
    let here : applied (after before made) call ≡ (next, reply) = ap (λ (s : Segment). applied s call) (sym h.segment) ∙ is in
    record {
      calls = append_assoc made (call ∷ []) rest ∙ h.calls;
      count = ap (λ (rs : List Reply). length rs) e ∙ length_push replies reply ∙ ap (λ (n : ℕ). n + 1) h.count ∙ sym (length_push made call);
      replied = e ∙ (λ i. h.replied i ++ (sym here i).1 ∷ []) ∙ sym (replies_more before made call);
      segment = sym (after_more before made call ∙ ap (λ (p : Segment × Reply). p.0) here);
      stands = λ addresses steps s.
          let each : StandsAt addresses ((steps ++ steps_of made replies) ++ (call, reply) ∷ []) next = stands addresses (steps ++ steps_of made replies) (h.stands addresses steps s) in
          let joined : (steps ++ steps_of made replies) ++ (call, reply) ∷ [] ≡ steps ++ steps_of (made ++ call ∷ []) more =
          append_assoc steps (steps_of made replies) ((call, reply) ∷ []) ∙ ap (λ (ss : Record). steps ++ ss) (sym (ap (λ (rs : List Reply). steps_of (made ++ call ∷ []) rs) e ∙ steps_more made replies call reply h.count)) in
          subst (λ (ss : Record). StandsAt addresses ss next) joined each;
    }

pub made_stands : (before : Segment) (all made rest : List Call) (seg : Segment) (replies : List Reply) → Made before all made rest seg replies → (addresses : List Address) (steps : Record) → StandsAt addresses steps before → StandsAt addresses (steps ++ steps_of all replies) seg
made_stands before all made rest seg replies h addresses steps s =
    let same : steps_of made replies ≡ steps_of all replies = sym (steps_front made rest replies h.count) ∙ ap (λ (cs : List Call). steps_of cs replies) h.calls in
    subst (λ (ss : Record). StandsAt addresses (steps ++ ss) seg) same (h.stands addresses steps s)

-- the first call that wasn't made
drop_front : (made rest : List Call) → drop (length made) (made ++ rest) ≡ rest
drop_front [] rest = refl
drop_front (c ∷ made) rest = drop_front made rest

pub next_passes : (before : Segment) (all made rest : List Call) (seg next : Segment) (replies : List Reply) (call : Call) → Made before all made (call ∷ rest) seg replies → next ≡ seg → IsOk (called seg call) → FirstIsNotRefused next (drop (length replies) all)
next_passes before all made rest seg next replies call h same ok =
    let left : call ∷ rest ≡ drop (length replies) all =
    sym (drop_front made (call ∷ rest)) ∙ (λ i. drop (sym h.count i) (h.calls i)) in
    subst (λ (cs : List Call). FirstIsNotRefused next cs) left (subst (λ (s : Segment). IsOk (called s call)) (sym same) ok)
