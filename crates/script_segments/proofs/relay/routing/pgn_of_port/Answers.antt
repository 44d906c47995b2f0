use Rattle.std.proofs.Common.{◌≡◌, ℕ, suc, ◌<◌, Bool, true, false, cond, List, [], ◌∷◌, length, get_or, map, drop, sym, ap, ◌∙◌, arith, add-one, drop-cons}
use Rattle.port_table.specs.declared.port.PortId.{PortId}
use Rattle.segment_law.specs.Told.{same_port}
use Rattle.segment_law.specs.declared.call.Call.TheVariants.{Tick}
use Rattle.stored_calls.specs.Lists.{nobodys}
use Rattle.segment_rings.specs.Ends.{InboxEnd}
use Rattle.stored_calls.specs.declared.stored.Stored.{Stored}
use Rattle.script_segments.specs.Plan.{port_of}
use Rattle.script_segments.specs.Gateway.{pgn_asked, pgn_of_port}
use Rattle.script_segments.proofs.relay.routing.pgn_of_port.Goals as goal

-- another port is passed over
other : (p : PortId) (ps : List PortId) (x : Stored) (xs : List Stored) (q : PortId) → same_port p q ≡ false → pgn_of_port ps xs q ≡ pgn_of_port (p ∷ ps) (x ∷ xs) q
other p ps x xs q e = ap (λ (b : Bool). cond b (pgn_asked x.call) (pgn_of_port ps xs q)) (sym e)

passed : (ps : List InboxEnd) (xs : List Stored) (q : PortId) (k : ℕ) (d : InboxEnd) → k < length ps → k < length xs → same_port (port_of (get_or ps k d)) q ≡ false
    → pgn_of_port (map port_of (drop (suc k) ps)) (drop (suc k) xs) q ≡ pgn_of_port (map port_of (drop k ps)) (drop k xs) q
passed ps [] q k d h j e = absurd (let l : k < 0 = j in omega arith)
passed ps (x ∷ xs) q k d h j e =
    other (port_of (get_or ps k d)) (map port_of (drop (suc k) ps)) (get_or (x ∷ xs) k x) (drop (suc k) (x ∷ xs)) q e
    ∙ ap (λ (l : List InboxEnd). pgn_of_port (map port_of l) (get_or (x ∷ xs) k x ∷ drop (suc k) (x ∷ xs)) q) (sym (drop-cons ps k d h))
    ∙ ap (λ (l : List Stored). pgn_of_port (map port_of (drop k ps)) l q) (sym (drop-cons (x ∷ xs) k x j))

-- and the port is found at its place
found : (ps : List InboxEnd) (xs : List Stored) (q : PortId) (k : ℕ) (d : InboxEnd) (x : Stored) → k < length ps → k < length xs → same_port (port_of (get_or ps k d)) q ≡ true
    → pgn_of_port (map port_of (drop k ps)) (drop k xs) q ≡ pgn_asked (get_or xs k x).call
found ps xs q k d x h j e =
    ap (λ (l : List InboxEnd). pgn_of_port (map port_of l) (drop k xs) q) (drop-cons ps k d h)
    ∙ ap (λ (l : List Stored). pgn_of_port (port_of (get_or ps k d) ∷ map port_of (drop (suc k) ps)) l q) (drop-cons xs k x j)
    ∙ ap (λ (b : Bool). cond b (pgn_asked (get_or xs k x).call) (pgn_of_port (map port_of (drop (suc k) ps)) (drop (suc k) xs) q)) e

pub returns-then-is_of : goal.returns-then-is_of
returns-then-is_of c =
    let d = c.index-inboxes-k.result in
    let l : c.loop-k.k < length c.args.inboxes.now = omega arith in
    let m : c.loop-k.k < length c.args.calls.now.items = omega arith in
    let same : same_port (port_of (get_or c.args.inboxes.now c.loop-k.k d)) c.args.port ≡ true = ap (λ (x : InboxEnd). same_port x.port c.args.port) (sym c.index-inboxes-k.is) ∙ sym c.is_of.ensures ∙ c.if-is_of.true in
    c.pgn_asked_at.ensures (nobodys (Tick 0)) ∙ sym (found c.args.inboxes.now c.args.calls.now.items c.args.port c.loop-k.k d (nobodys (Tick 0)) l m same) ∙ c.loop-k.invariant

pub loop-k-preserved : goal.loop-k-preserved
loop-k-preserved c =
    let d = c.index-inboxes-k.result in
    let l : c.loop-k.k < length c.args.inboxes.now = omega arith in
    let m : c.loop-k.k < length c.args.calls.now.items = omega arith in
    let apart : same_port (port_of (get_or c.args.inboxes.now c.loop-k.k d)) c.args.port ≡ false = ap (λ (x : InboxEnd). same_port x.port c.args.port) (sym c.index-inboxes-k.is) ∙ sym c.is_of.ensures ∙ c.if-is_of.false in
    rw add-one (passed c.args.inboxes.now c.args.calls.now.items c.args.port c.loop-k.k d l m apart ∙ c.loop-k.invariant)
