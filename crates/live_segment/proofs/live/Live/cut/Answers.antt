use Rattle.std.proofs.Common.{◌≡◌, ◌∷◌, ◌++◌, List, sym, ap, ◌∙◌, length, arith, []}
use Rattle.std.proofs.lemmas.List.{length_push}
use Rattle.live_record.specs.declared.calls.Piece.{Piece}
use Rattle.live_record.specs.Past.{joined}
use Rattle.live_record.specs.Record.{trail}
use Rattle.live_segment.proofs.Cuts.{holds-cut, cut_as}
use Rattle.live_record.proofs.Pieces.{joined_push}
use Rattle.live_segment.proofs.live.Live.cut.Goals as goal

-- pieces with one more are some
some_piece : (ps : List Piece) (p : Piece) → ps ++ p ∷ [] ≡ [] → ⊥
some_piece ps p e = let l = length_push ps p in let n = ap (λ (u : List Piece). length u) e in absurd (omega arith)

pub invariant_of-self : goal.invariant_of-self
invariant_of-self c =
    let i = c.self.inside in
    let addrs = i.addresses.items in
    let p = c.cut.result in
    let all : joined (i.calls.pieces ++ p ∷ []) ≡ i.calls.items = joined_push i.calls.pieces p ∙ c.cut.ensures.calls in
    let at = c.in_ok-image.ensures ∙ c.self.invariant.0.at ∙ sym (ap (λ xs. (trail addrs xs).state) all) in
    let h = holds-cut addrs i.segment i.calls.items i.owed.items i.seats.items c.cut_seats.new.self.items i.doors.items c.cut_doors.new.self.items c.cut_seats.ensures c.cut_doors.ensures c.self.invariant.0 in
    rw (c.cut.ensures.items, c.cut.ensures.pieces) (h, record { is_of = at; keeps = λ none. absurd (some_piece i.calls.pieces p none) })

pub returns-clause-cut : goal.returns-clause-cut
returns-clause-cut c =
    let i = c.self.inside in
    cut_as _ i.stopped i.addresses.items i.calls.pieces c.cut.new.self.pieces i.calls.items c.cut.new.self.items i.seats.items c.cut_seats.new.self.items i.doors.items c.cut_doors.new.self.items c.cut.result c.self.view_is c.cut.ensures.number c.cut.ensures.calls c.cut.ensures.pieces c.cut.ensures.items c.cut_seats.ensures c.cut_doors.ensures
