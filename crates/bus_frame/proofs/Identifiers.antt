-- An identifier and its parts give each other.
use Rattle.std.proofs.Common.{◌≡◌, ℕ, ◌/◌, ◌%◌, ◌^◌, ◌<◌, arith}
use Rattle.bus_frame.specs.Identifier.{id_value, id_parts, AreParts}
use Rattle.bus_frame.specs.declared.can_id.IdParts.{IdParts}

pub parts_back : (p : IdParts) → AreParts p → id_parts (id_value p) ≡ p
parts_back p h =
    let a : id_value p / 2 ^ 26 ≡ p.priority = omega arith in
    let b : id_value p / 2 ^ 25 % 2 ≡ p.edp = omega arith in
    let c : id_value p / 2 ^ 24 % 2 ≡ p.dp = omega arith in
    let d : id_value p / 2 ^ 16 % 2 ^ 8 ≡ p.pf = omega arith in
    let e : id_value p / 2 ^ 8 % 2 ^ 8 ≡ p.ps = omega arith in
    let f : id_value p % 2 ^ 8 ≡ p.sa = omega arith in
    λ i. record { priority = a i; edp = b i; dp = c i; pf = d i; ps = e i; sa = f i }

pub id_back : (id : ℕ) → id < 2 ^ 29 → id_value (id_parts id) ≡ id
id_back id h = omega arith
