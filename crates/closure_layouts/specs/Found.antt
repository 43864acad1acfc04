-- The layout of a function.
use Rattle.std.specs.Prelude.{◌≡◌, ℕ, true, not, cond, List, [], ◌∷◌, filter}
use Rattle.smlc_base.specs.declared.point.Point.{Point}
use Rattle.smlc_base.specs.Points.{is_point}
use Rattle.simulation.specs.Blocks.{IsAmong}
use Rattle.sml_tree.specs.Sets.{has, without}
use Rattle.cps_ir.specs.Slim.{Layout}
use Rattle.close_laws.specs.Layouts.{Facts, is_static, has_code, layout_classes, layout_own}
use Rattle.closure_layouts.specs.declared.layouts.ClosureLayout.{ClosureLayout}

-- no two functions have one point
abbrev pub PointedOnce : List Layout → Type 0
PointedOnce all = (l k : Layout) → IsAmong l all → IsAmong k all → is_point l.point k.point ≡ true → l ≡ k

abbrev pub closure_at : Facts → Point → ClosureLayout
closure_at A p = record { is_static = is_static A p; has_code = has_code A p; classes = layout_classes A p; own = layout_own A p }

-- by sets of closed functions, of values and of all variables of classes, and by the rows of classes
abbrev pub found_layout : List ℕ → List ℕ → List ℕ → List ℕ → Layout → ClosureLayout
found_layout closed values shared classes l = record {
  is_static = has closed l.name;
  has_code = has values l.name;
  classes = cond (has closed l.name) [] classes;
  own = cond (has closed l.name) [] (filter (λ x. not (has shared x)) (without l.free (l.name ∷ closed)));
}
