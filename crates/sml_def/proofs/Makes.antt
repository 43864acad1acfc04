-- The words of what small programs make: where all labels are left, none, and those of odd nodes, as an independent model computes them.
use Rattle.std.proofs.Common.{◌≡◌, ℕ, ◌%◌, Bool, List, [], nat_eq, refl}
use Rattle.std.specs.Prelude.{filter}
use Rattle.smlc_base.specs.declared.point.Point.{Point}
use Rattle.sml_tree.specs.declared.bare.Bare.{Bare}
use Rattle.sml_tree.proofs.Programs.{handled, caught, local_exception, lists, packets}
use Rattle.sml_def.specs.Run.{points}
use Rattle.sml_def.specs.Made.{made}

abbrev pub is_odd : ℕ → Bool
is_odd n = nat_eq (n % 2) 1

abbrev pub odd : List Point → List Point
odd ps = filter (λ p. is_odd p.node) ps

abbrev three : Bare → ℕ → ℕ × ℕ × ℕ
three p n = (made p (points p) [] n, made p [] [] n, made p (odd (points p)) [] n)

handled_made : three handled 17 ≡ (17, 2, 14)
handled_made = refl

caught_made : three caught 40 ≡ (51, 10, 35)
caught_made = refl

local_exception_made : three local_exception 36 ≡ (32, 5, 25)
local_exception_made = refl

lists_made : three lists 146 ≡ (238, 101, 293)
lists_made = refl

packets_made : three packets 94 ≡ (128, 26, 96)
packets_made = refl
