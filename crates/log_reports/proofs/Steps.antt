-- One fault further in a list.
use Rattle.std.proofs.Common.{◌≡◌, ℕ, List, [], ◌∷◌, ◌++◌, Result, Ok, Err, OnOk, refl, sym, ◌∙◌, ap, append_assoc, arith, length}
use Rattle.std.specs.declared.alloc.AllocError.{AllocError}
use Rattle.std.proofs.lemmas.List.{append-nil}
use Rattle.log_reports.specs.Lamps.{lamps_line}
use Rattle.log_reports.specs.Faults.{fault_line}
use Rattle.log_reports.specs.List.{padding_lines, faults_lines, flash_lines, lines_from}

no_bytes : (s : List ℕ) → length s ≡ 0 → s ≡ []
no_bytes [] h = refl
no_bytes (b ∷ s) h = absurd (omega arith)

-- fewer than four bytes are left
pub one_left : (rest after : List ℕ) (a : ℕ) → rest ≡ a ∷ after → length after ≡ 0 → faults_lines rest ≡ padding_lines rest
unfolding faults_lines
one_left rest after a p z = rw (p, no_bytes after z) refl

pub two_left : (rest r after : List ℕ) (a b : ℕ) → rest ≡ a ∷ r → r ≡ b ∷ after → length after ≡ 0 → faults_lines rest ≡ padding_lines rest
unfolding faults_lines
two_left rest r after a b p q z = rw (p, q, no_bytes after z) refl

pub three_left : (rest r s after : List ℕ) (a b c : ℕ) → rest ≡ a ∷ r → r ≡ b ∷ s → s ≡ c ∷ after → length after ≡ 0 → faults_lines rest ≡ padding_lines rest
unfolding faults_lines
three_left rest r s after a b c p q t z = rw (p, q, t, no_bytes after z) refl

pub padded : (result : Result (Unit {0}) AllocError) (rest : List ℕ) (old new all : List (List ℕ)) → faults_lines rest ≡ padding_lines rest → old ++ faults_lines rest ≡ all → OnOk result (new ≡ old ++ padding_lines rest) → OnOk result (new ≡ all)
padded (Ok done) rest old new all e so_far p = p ∙ sym (ap (λ s. old ++ s) e) ∙ so_far
padded (Err error) rest old new all e so_far p = tt

-- none is left
pub none_left : (rest : List ℕ) (old all : List (List ℕ)) → length rest ≡ 0 → old ++ faults_lines rest ≡ all → old ≡ all
unfolding faults_lines
none_left rest old all z so_far = let one : old ++ faults_lines rest ≡ old = rw (no_bytes rest z) (append-nil old) in sym one ∙ so_far

four_read : (rest r s t after : List ℕ) (a b c d : ℕ) → rest ≡ a ∷ r → r ≡ b ∷ s → s ≡ c ∷ t → t ≡ d ∷ after → faults_lines rest ≡ fault_line a b c d ∷ faults_lines after
unfolding faults_lines
four_read rest r s t after a b c d p q u v = rw (p, q, u, v) refl

-- the line of four bytes is put
pub fault_put : (rest r s t after : List ℕ) (a b c d : ℕ) (line : List ℕ) (old new all : List (List ℕ)) → rest ≡ a ∷ r → r ≡ b ∷ s → s ≡ c ∷ t → t ≡ d ∷ after → line ≡ fault_line a b c d
    → new ≡ old ++ line ∷ [] → old ++ faults_lines rest ≡ all → new ++ faults_lines after ≡ all
fault_put rest r s t after a b c d line old new all p q u v e put so_far =
    let more : List (List ℕ) = faults_lines after in
    ap (λ x. x ++ more) put ∙ append_assoc old (line ∷ []) more ∙ ap (λ l. old ++ l ∷ more) e ∙ sym (ap (λ x. old ++ x) (four_read rest r s t after a b c d p q u v)) ∙ so_far

-- the lines of the lamps, and of the faults behind them
pub all_put : (result : Result (Unit {0}) AllocError) (bytes r list : List ℕ) (lamps flash : ℕ) (line : List ℕ) (old one two new : List (List ℕ)) → bytes ≡ lamps ∷ r → r ≡ flash ∷ list → line ≡ lamps_line lamps
    → one ≡ old ++ line ∷ [] → two ≡ one ++ flash_lines flash → OnOk result (new ≡ two ++ faults_lines list) → OnOk result (new ≡ old ++ lines_from bytes)
all_put (Ok done) bytes r list lamps flash line old one two new p q e put flashed h =
    let faults : List (List ℕ) = faults_lines list in
    let behind : List (List ℕ) = flash_lines flash ++ faults in
    let whole : lines_from bytes ≡ lamps_line lamps ∷ behind = rw (p, q) refl in
    h ∙ ap (λ x. x ++ faults) flashed ∙ append_assoc one (flash_lines flash) faults ∙ ap (λ x. x ++ behind) put ∙ append_assoc old (line ∷ []) behind ∙ ap (λ l. old ++ l ∷ behind) e ∙ sym (ap (λ x. old ++ x) whole)
all_put (Err error) bytes r list lamps flash line old one two new p q e put flashed h = tt
