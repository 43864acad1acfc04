-- The order of points: by node, then by kind.
use Rattle.std.specs.Prelude.{ℕ, suc, ◌+◌, ◌*◌, ◌≤◌, List, [], ◌∷◌}
use Rattle.smlc_base.specs.declared.point.Point.{Point}
use Rattle.smlc_base.specs.declared.point.PointKind.{PointKind}
use Rattle.smlc_base.specs.declared.point.PointKind.TheVariants as kind

abbrev pub kind_rank : PointKind → ℕ
kind_rank kind.Fn = 0
kind_rank kind.Ret = 1
kind_rank kind.Caught = 2
kind_rank kind.Popped = 3
kind_rank kind.Eq = 4

-- where a point stands in the order
abbrev pub rank : Point → ℕ
rank p = p.node * 5 + kind_rank p.kind

-- each point comes after those before it
abbrev pub AscendFrom : ℕ → List Point → Type 0
AscendFrom n [] = Unit {0}
AscendFrom n (p ∷ ps) = (n ≤ rank p) × AscendFrom (suc (rank p)) ps
