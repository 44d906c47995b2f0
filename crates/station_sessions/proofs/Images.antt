-- Sessions at whose keys stands what the entries of an image say.
use Rattle.std.proofs.Common.{◌≡◌, ℕ, ◌+◌, ◌<◌, ◌≤◌, List, length, take, get_or, Option, Some, sym, ap, subst, ◌∙◌}
use Rattle.std.proofs.lemmas.List.{take_all}
use Rattle.std.proofs.lemmas.List.Elements.{All-more, All-same, recursion_from_All}
use Rattle.std.specs.List.{All, IsDistinct}
use Rattle.std.specs.Map.{keys_of}
use Rattle.std.specs.FinMap as map
use Rattle.session_table.specs.declared.key.Key.{Key}
use Rattle.session_table.specs.declared.incoming.Incoming.{Incoming}
use Rattle.session_table.specs.Key.{key_eq}
use Rattle.session_table.proofs.Images.{made, made_is, len-made, get-entry}
use Rattle.station_sessions.specs.Receiving.{Inbound}

abbrev Kept : Type 0
Kept = Option (List ℕ × Incoming)

-- the key has what the entry says
abbrev pub StandsIn : Inbound → Key × Kept → Type 0
StandsIn m e = map.get m e.0 ≡ Some e.1

module _ (es : List (Key × Kept)) (m n : Inbound) (d : IsDistinct key_eq (keys_of es)) (is : made es ≡ m) where
  -- the same sessions are as many
  pub as_many : m ≡ n → length es ≡ map.len n
  as_many e = sym (len-made es d) ∙ ap map.len (is ∙ e)

  -- and have at each key what its entry says
  pub each_stands : (i : ℕ) (e : Key × Kept) → i < length es → e ≡ get_or es i e → m ≡ n → StandsIn n e
  each_stands i e l at same = ap (λ (x : Inbound). map.get x e.0) (sym (is ∙ same)) ∙ get-entry es i e d l at

  -- which makes them the same
  pub same_where : length es ≡ map.len n → (i : ℕ) → length es ≤ i → All (StandsIn n) (take i es) → m ≡ n
  same_where many i whole all =
      sym is ∙ made_is es n d many (recursion_from_All (StandsIn n) es (All-same (StandsIn n) es (take i es) (sym (take_all i es whole)) all))

-- one entry more
pub one_more : (n : Inbound) (es : List (Key × Kept)) (i : ℕ) (e : Key × Kept) → i < length es → e ≡ get_or es i e → StandsIn n e → All (StandsIn n) (take i es) → All (StandsIn n) (take (i + 1) es)
one_more n es i e l at stands all = All-more (StandsIn n) es i e l all (subst (StandsIn n) at stands)
