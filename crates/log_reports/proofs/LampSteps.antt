-- Four texts with a state behind each, one behind the other.
use Rattle.std.proofs.Common.{◌≡◌, ℕ, List, [], ◌++◌, ◌∙◌, ap, sym, append_assoc}

more : (new old all text state : List ℕ) → new ≡ old ++ (text ++ state) → old ≡ all → new ≡ all ++ text ++ state
more new old all text state e f = e ∙ sym (append_assoc old text state) ∙ ap (λ o. o ++ text ++ state) f

pub four_put : (a p b q c r d s t u v w x : List ℕ) → t ≡ [] → u ≡ t ++ (a ++ p) → v ≡ u ++ (b ++ q) → w ≡ v ++ (c ++ r) → x ≡ w ++ (d ++ s) → x ≡ a ++ p ++ b ++ q ++ c ++ r ++ d ++ s
four_put a p b q c r d s t u v w x e f g h k =
    more x w (a ++ p ++ b ++ q ++ c ++ r) d s k (more w v (a ++ p ++ b ++ q) c r h (more v u (a ++ p) b q g (f ∙ ap (λ o. o ++ (a ++ p)) e)))
