use Rattle.std.proofs.Common.{sym, ap, subst, ◌∙◌}
use Rattle.std.specs.List.{IsDistinct}
use Rattle.std.specs.Map.{keys_of}
use Rattle.session_table.specs.Key.{key_eq}
use Rattle.session_table.proofs.Images.{made}
use Rattle.session_table.proofs.table.image.TableImage.entries.Goals as goal

pub returns-clause-value : goal.returns-clause-value
returns-clause-value g c = ap made c.as_slice.ensures.value ∙ c.self.view_is

pub returns-clause-distinct : goal.returns-clause-distinct
returns-clause-distinct g c = subst (λ es. IsDistinct key_eq (keys_of es)) (sym c.as_slice.ensures.value) c.self.invariant
