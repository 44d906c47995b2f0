-- How a record goes on with a call that the code makes.
use Rattle.std.proofs.Common.{◌≡◌, ℕ, zero, suc, ◌<◌, Bool, true, ◌&&◌, List, [], ◌∷◌, ◌++◌, Ok, Err, refl, sym, ap, ◌∙◌, subst}
use Rattle.std.specs.Prelude.{slice_index}
use Rattle.std.proofs.lemmas.Bool.{lt-ltb}
use Rattle.pgn_ids.specs.declared.address.Address.{Address}
use Rattle.segment_law.specs.Segment.{Segment}
use Rattle.segment_law.specs.Calls.{are_bytes, is_call, at_address, opens, takes, called, replied, applied}
use Rattle.segment_law.specs.Record.{Record, StandsAt}
use Rattle.segment_law.specs.declared.call.Call.{Call}
use Rattle.segment_law.specs.declared.call.Call.TheVariants.{Open, Take}
use Rattle.segment_law.specs.declared.refusal.Refusal.{Refusal}
use Rattle.segment_law.specs.declared.reply.Reply.{Reply}
use Rattle.segment_law.specs.declared.reply.Reply.TheVariants as of_reply
use Rattle.segment_state.specs.Answers.{IsAnswer}
use Rattle.segment_state.specs.declared.stop.Stop.{Stop}
use Rattle.segment_state.specs.declared.stop.Stop.TheVariants as of_stop
use Rattle.segment_law.proofs.Records.{call_goes_on}

-- bytes that are below 256 one by one
pub bytes_fit : (bytes : List ℕ) → ((i : ℕ) → slice_index bytes i < 256) → are_bytes bytes ≡ true
bytes_fit [] below = refl
bytes_fit (b ∷ bytes) below =
    let rest : are_bytes bytes ≡ true = bytes_fit bytes (λ i. below (suc i)) in
    ap (λ t. t && are_bytes bytes) (lt-ltb b 256 (below zero)) ∙ ap (λ t. true && t) rest

-- a call that was answered
pub answered_stands : (before after : Segment) (call : Call) (reply : Reply) → is_call call ≡ true → applied before call ≡ (after, reply) → (addresses : List Address) (steps : Record) → StandsAt addresses steps before → StandsAt addresses (steps ++ (call, reply) ∷ []) after
answered_stands before after call reply fit says addresses steps h =
    let P : Segment × Reply → Type 0 = λ p. StandsAt addresses (steps ++ (call, p.1) ∷ []) p.0 in
    subst P says (call_goes_on addresses steps before call h fit)

pub done_stands : (before after : Segment) (call : Call) (reply : Reply) → is_call call ≡ true → called before call ≡ Ok (after, reply) → (addresses : List Address) (steps : Record) → StandsAt addresses steps before → StandsAt addresses (steps ++ (call, reply) ∷ []) after
done_stands before after call reply fit says = answered_stands before after call reply fit (ap (replied before) says)

pub refused_stands : (before after : Segment) (call : Call) (cause : Refusal) (ended : Stop) → is_call call ≡ true → ended ≡ of_stop.Refused cause → IsAnswer (called before call) before after (Err ended) → (addresses : List Address) (steps : Record) → StandsAt addresses steps before → StandsAt addresses (steps ++ (call, of_reply.Refused cause) ∷ []) after
refused_stands before after call cause ended fit is says =
    let refused : (called before call ≡ Err cause) × (after ≡ before) = subst (λ (s : Stop). IsAnswer (called before call) before after (Err s)) is says in
    answered_stands before after call (of_reply.Refused cause) fit (ap (replied before) refused.0 ∙ ap (λ (seg : Segment). (seg, of_reply.Refused cause)) (sym refused.1))

-- what is called of a station
pub takes_called : (seg : Segment) (a : Address) (room : Bool) → called seg (Take a room) ≡ at_address seg a (takes seg room)
unfolding called
takes_called seg a room = refl

pub opens_called : (seg : Segment) (a : Address) (pgn max_len : ℕ) → called seg (Open a pgn max_len) ≡ at_address seg a (opens seg pgn max_len)
unfolding called
opens_called seg a pgn max_len = refl
