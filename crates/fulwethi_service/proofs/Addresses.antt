-- One address more that is read.
use Rattle.std.proofs.Common.{◌≡◌, ◌∙◌, ap, sym, subst, ℕ, ◌+◌, ◌<◌, List, [], ◌∷◌, ◌++◌, length, take}
use Rattle.std.specs.Prelude.{slice_set, slice_index}
use Rattle.std.proofs.lemmas.List.{take_more_set, map_more}
use Rattle.pgn_ids.specs.declared.address.Address.{Address}
use Rattle.fulwethi_service.specs.Reads.{addresses_of}

abbrev read : ℕ → Address
read byte = record { 0 = byte }

pub one_more : (bytes : List ℕ) (stations : List Address) (k : ℕ) → k < length bytes → length bytes ≡ length stations → take k stations ≡ addresses_of (take k bytes)
    → take (k + 1) (slice_set stations k (read (slice_index bytes k))) ≡ addresses_of (take (k + 1) bytes)
one_more bytes stations k within same so_far =
    take_more_set stations k (read (slice_index bytes k)) (subst (λ (n : ℕ). k < n) same within)
    ∙ ap (λ (l : List Address). l ++ read (slice_index bytes k) ∷ []) so_far
    ∙ sym (map_more read bytes k 0 within)
